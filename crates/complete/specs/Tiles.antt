-- Which tiles a reading has, and that a hand and its calls have only allowed tiles, whichever these are. These are definitions.
use Rattle.std.specs.Prelude.{Bool, ◌||◌, ℕ, ◌<◌, ◌≤◌, T, eqb, leb}
use mathlib.Core.List.{List, Memᴰ}
use Rattle.lists.specs.Fold.{any}
use Rattle.tile.specs.Tile.{is_terminal_or_honor}
use Rattle.meld.specs.declared.Meld.{Meld}
use Rattle.meld.specs.Meld.{uses}
use Rattle.hand.specs.Reading.{Reading, pairs, orphans, standard}

-- the tile t is in the reading, calls counted
abbrev pub in_reading : Reading → ℕ → Bool
in_reading (pairs ps) t = any (eqb t) ps
in_reading (orphans p) t = is_terminal_or_honor t || eqb t p
in_reading (standard p ms) t = eqb t p || any (λ m. leb 1 (uses m t)) ms

-- each tile of the hand is allowed
abbrev pub HandAllowed : (ℕ → Bool) → (ℕ → ℕ) → Type 0
HandAllowed allowed c = (t : ℕ) → t < 34 → 1 ≤ c t → T (allowed t)

-- each tile of each call is allowed
abbrev pub CallsAllowed : (ℕ → Bool) → List Meld → Type 0
CallsAllowed allowed k = (m : Meld) → Memᴰ m k → (t : ℕ) → t < 34 → 1 ≤ uses m t → T (allowed t)
