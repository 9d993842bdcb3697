-- How the code lists; no rule of the game. A first pass counts the readings and the bytes, so that nothing is written where they do not fit; a
-- second writes. Special readings are seven pairs and thirteen orphans. These are definitions.
use Rattle.std.specs.Prelude.{◌≡◌, Bool, true, cond, List, [], ◌++◌, ℕ, ◌+◌, ◌-◌, ◌*◌, ◌≤◌, length, Option, Some, None, is_some}
use Rattle.tile.specs.declared.Tile.{Tile}
use Rattle.tile.specs.Tile.{tiles}
use Rattle.hand.specs.Counts.{held}
use Rattle.hand.specs.Reading.{Reading, orphans}
use Rattle.hand.specs.Records.{record_of, standard_bytes, records}
use Rattle.hand.specs.Readings.{is_pairs, seven_pairs, thirteen_orphans, uncalled}
use Rattle.search.specs.Slots.{put, slots_of}
use Rattle.decompose.specs.Pairs.{found_with, records_over}
use Rattle.checks.specs.declared.Calls.{Calls}
use Rattle.checks.specs.Checks.{called}
use Rattle.unit.specs.declared.Found.{Found}
use Rattle.unit.specs.declared.FoundSpecial.{FoundSpecial}

-- the readings of seven pairs and of thirteen orphans
unfoldable pub specials : List ℕ → Calls → List Reading
specials cs k = uncalled (called k) (seven_pairs (held cs) ++ thirteen_orphans (held cs))

-- the records of the standard readings of the counts c
unfoldable pub standard_records : (ℕ → ℕ) → Calls → List ℕ
standard_records c k = records_over (4 - k.count) c (slots_of (called k)) tiles

-- how many readings of seven pairs and thirteen orphans were found, and how many bytes their records need
abbrev pub readings_in : FoundSpecial → ℕ
readings_in f = cond f.seven 1 0 + cond (is_some f.orphan) 1 0

abbrev pub bytes_in : FoundSpecial → ℕ
bytes_in f = cond f.seven 11 0 + cond (is_some f.orphan) 5 0

-- how many readings were found, and how many bytes their records need
abbrev pub readings_found : Found → ℕ
readings_found f = f.standard + readings_in f.special

abbrev pub bytes_found : Found → ℕ
bytes_found f = f.standard * standard_bytes + bytes_in f.special

-- the records of seven pairs and of thirteen orphans, where they were found
abbrev pub seven_records : List ℕ → Bool → List ℕ
seven_records cs seven = cond seven (records (seven_pairs (held cs))) []

abbrev pub orphan_records : Option Tile → List ℕ
orphan_records None = []
orphan_records (Some p) = record_of (orphans p.0)

unfoldable pub special_records : List ℕ → FoundSpecial → List ℕ
special_records cs f = seven_records cs f.seven ++ orphan_records f.orphan

-- what was found of seven pairs and thirteen orphans is what there is
pub record FindsSpecial (cs : List ℕ) (k : Calls) (f : FoundSpecial) : Type 0 where
  pub calls : length (called k) ≡ k.count
  pub listed : records (specials cs k) ≡ special_records cs f
  pub counted : length (specials cs k) ≡ readings_in f
  pub pairs : f.seven ≡ true → is_pairs (held cs) ≡ true

-- what was found is what there is; `few` is far more than there can be, and keeps the code's sums in range
pub record Finds (cs : List ℕ) (k : Calls) (f : Found) : Type 0 where
  pub special : FindsSpecial cs k f.special
  pub standard : f.standard ≡ length (found_with (4 - k.count) (held cs) tiles)
  pub few : f.standard ≤ 2176

-- slots with a number put in its place, if it is there
abbrev pub put_call : Bool → ℕ → List ℕ → List ℕ
put_call there x slots = cond there (put x slots) slots
