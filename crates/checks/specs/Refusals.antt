-- The checks 1 to 6 in the words of the scope paper, each a fact about the counts and the calls, in their order. These are definitions.
use Rattle.std.specs.Prelude.{◌≡◌, ◌≢◌, ℕ, ◌-◌, ◌*◌, ◌≤◌, ◌<◌, T, length}
use mathlib.Core.List.{List, [], ◌∷◌, Memᴰ}
use Rattle.lists.specs.Fold.{sum}
use Rattle.lists.specs.Refusals.{Check, unless}
use Rattle.tile.specs.Tile.{tiles, value_of}
use Rattle.rules.specs.Rules.{Game, most}
use Rattle.meld.specs.declared.Meld.{Meld}
use Rattle.meld.specs.Meld.{uses}
use Rattle.hand.specs.Counts.{held}
use Rattle.checks.specs.declared.Calls.{Calls}
use Rattle.checks.specs.Checks.{called, together}

-- the kinds that are called: an open sequence, an open triplet, a closed, an open and an added kan
abbrev pub call_kinds : List ℕ
call_kinds = 1 ∷ 3 ∷ 4 ∷ 5 ∷ 6 ∷ []

-- a meld that can be called in the game g: its kind is one of these and its tile a tile; a sequence starts at 1 to 7 of a suit. The tile that was called came
-- from nobody for a closed kan; for the others from one of the players, at least 1 seat and at most 3 onward, for a sequence from 3. A sequence is called only
-- where the game has them, and each tile of the meld is in its wall
pub record Callable (g : Game) (m : Meld) : Type 0 where
  pub kind : Memᴰ m.kind call_kinds
  pub tile : m.tile < 34
  pub start : m.kind ≡ 1 → (1 ≤ value_of m.tile) × (value_of m.tile ≤ 7)
  pub nobody : m.kind ≡ 4 → m.source ≡ 0
  pub seat : m.kind ≢ 4 → (1 ≤ m.source) × (m.source ≤ 3)
  pub before : m.kind ≡ 1 → m.source ≡ 3
  pub chi : m.kind ≡ 1 → T g.chi
  pub player : m.source < g.players
  pub allowed : (t : ℕ) → t < 34 → 0 < uses m t → T (g.allowed t)

-- 34 counts; at most four calls; each can be called; at most four of each tile in the hand, and none that is absent; at most four in hand and calls together;
-- the hand's tiles are 14, three fewer for each call
abbrev pub hand_checks : Game → List ℕ → Calls → List Check
hand_checks g cs k =
    unless 1 (length cs ≡ 34)
    ∷ unless 2 (k.count ≤ 4)
    ∷ unless 3 ((m : Meld) → Memᴰ m (called k) → Callable g m)
    ∷ unless 4 ((t : ℕ) → t < 34 → held cs t ≤ most g t)
    ∷ unless 5 ((t : ℕ) → t < 34 → together cs (called k) t ≤ 4)
    ∷ unless 6 (sum (held cs) tiles ≡ 14 - 3 * k.count)
    ∷ []
