-- The game that the words say, and whom its calls came from. Words are taken for a table of four, where the left is three seats onward, and the calls
-- then turned to the table of the game. These are definitions.
use Rattle.std.specs.Prelude.{Bool, true, false, ◌&&◌, ◌||◌, cond, map, ℕ, ◌-◌, eqb, ltb, get_or, Option, Some, None, unwrap_or}
use Rattle.rules.specs.declared.Variant.{Variant}
use Rattle.rules.specs.declared.Variant.TheVariants.{Yonma, Sanma}
use Rattle.rules.specs.Rules.{Game}
use Rattle.meld.specs.declared.Meld.{Meld}
use Rattle.meld.specs.Meld.{from_seat, meld}
use Rattle.checks.specs.declared.Calls.{Calls}

-- the game that was said, else with four players; and whether three play
abbrev pub played_by : Option Variant → Variant
played_by said = unwrap_or said Yonma

abbrev pub is_three : Option Variant → Bool
is_three None = false
is_three (Some Yonma) = false
is_three (Some Sanma) = true

-- a call from the player who sits across at a table of four, if the call is there; and one of the four that are kept
abbrev pub is_across : Bool → Meld → Bool
is_across there m = there && eqb m.source 2

abbrev pub across_at : Calls → ℕ → Bool
across_at k i = is_across (ltb i k.count) (get_or k.melds i (meld 0 0))

abbrev pub any_across : Calls → Bool
any_across k = across_at k 0 || (across_at k 1 || (across_at k 2 || across_at k 3))

-- a call at the table of the game g: the player on the left sits one seat less onward than there are players
abbrev pub at_table : Game → Meld → Meld
at_table g m = cond (eqb m.source 3) (from_seat (g.players - 1) m) m

abbrev pub seated_at : Game → Calls → Calls
seated_at g k = record { count = k.count; melds = map (at_table g) k.melds }
