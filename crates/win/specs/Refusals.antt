-- What the operations on a win of a game ask, in the words of the scope paper. These are definitions.
use Rattle.std.specs.Prelude.{◌≡◌, ◌≢◌, false, ℕ, ◌<◌, ◌≤◌, T, length}
use mathlib.Core.List.{List, [], ◌∷◌, ◌++◌, Memᴰ}
use Rattle.lists.specs.Refusals.{Check, unless}
use Rattle.tile.specs.Named.{East, South, West, North}
use Rattle.rules.specs.Rules.{Game}
use Rattle.context.specs.declared.Indicators.{Indicators}
use Rattle.context.specs.declared.GameContext.{GameContext}
use Rattle.context.specs.Context.{shown}
use Rattle.context.specs.Named.{by_ron, by_tsumo}
use Rattle.hand.specs.Counts.{held}
use Rattle.hand.specs.Reading.{Reading}
use Rattle.checks.specs.declared.Calls.{Calls}
use Rattle.checks.specs.Refusals.{hand_checks}
use Rattle.unit.specs.Listing.{hand_readings}
use Rattle.reading_score.specs.Score.{has_yaku}
use Rattle.win.specs.Win.{score_in}

abbrev pub win_types : List ℕ
win_types = by_ron ∷ by_tsumo ∷ []

abbrev pub winds : List ℕ
winds = East ∷ South ∷ West ∷ North ∷ []

-- what a room gives for a pair that is both round and seat wind: four fu or two
abbrev pub settings : List ℕ
settings = 4 ∷ 2 ∷ []

-- the win type is ron or tsumo, both winds are winds, and the room's setting is one
pub record InRange (w : GameContext) : Type 0 where
  pub type : Memᴰ w.win_type win_types
  pub round : Memᴰ w.round_wind winds
  pub seat : Memᴰ w.seat_wind winds
  pub setting : Memᴰ w.double_wind_fu settings

-- ten indicators at most are shown, and each is a tile
pub record Indicated (i : Indicators) : Type 0 where
  pub few : i.count ≤ 10
  pub tiles : (t : ℕ) → Memᴰ t (shown i) → t < 34

-- those of both sorts, whether or not they count; in a game without them none is shown
pub record BothIndicated (g : Game) (w : GameContext) : Type 0 where
  pub dora : Indicated w.dora_indicators
  pub ura : Indicated w.ura_dora_indicators
  pub none : g.dora ≡ false → (w.dora_indicators.count ≡ 0) × (w.ura_dora_indicators.count ≡ 0)

-- the winning tile is a tile, and the hand without its calls holds it
pub record InHand (cs : List ℕ) (t : ℕ) : Type 0 where
  pub tile : t < 34
  pub there : 0 < held cs t

abbrev pub context_checks : Game → List ℕ → GameContext → List Check
context_checks g cs w = unless 8 (InRange w) ∷ unless 14 (BothIndicated g w) ∷ unless 9 (InHand cs w.winning_tile) ∷ []

-- the checks of the hand, then those of the win
abbrev pub win_checks : Game → List ℕ → Calls → GameContext → List Check
win_checks g cs k w = hand_checks g cs k ++ context_checks g cs w

-- a reading of the hand has a yaku
pub record SomeYaku (cs : List ℕ) (k : Calls) (w : GameContext) : Type 0 where
  pub reading : Reading
  pub listed : Memᴰ reading (hand_readings cs k)
  pub yaku : T (has_yaku (score_in cs k w reading))

-- scoring a win: there is a reading, and one has a yaku
abbrev pub reading_checks : List ℕ → Calls → GameContext → List Check
reading_checks cs k w = unless 10 (hand_readings cs k ≢ []) ∷ unless 11 (SomeYaku cs k w) ∷ []

abbrev pub score_checks : Game → List ℕ → Calls → GameContext → List Check
score_checks g cs k w = win_checks g cs k w ++ reading_checks cs k w

-- scoring or naming the waits of reading number n, counted from 0: there are more than n readings
abbrev pub number_check : List ℕ → Calls → ℕ → Check
number_check cs k n = unless 12 (n < length (hand_readings cs k))

abbrev pub number_checks : Game → List ℕ → Calls → GameContext → ℕ → List Check
number_checks g cs k w n = win_checks g cs k w ++ (number_check cs k n ∷ [])
