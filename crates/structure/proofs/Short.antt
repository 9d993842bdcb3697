-- Readings with at most four melds, as those that a value of the code stands for. Assumes nothing.
use mathlib.Core.Path.{◌≡◌, refl}
use mathlib.Core.List.{List}
use Prim.Native.Nat.{◌≤◌}
use native.Mathlib.Omega.{arith}
use lib.ListN.{length}
use Rattle.tile.specs.declared.Tile.{Tile}
use Rattle.meld.specs.declared.Meld.{Meld}
use Rattle.hand.specs.Reading.{Reading, pairs, orphans, standard}
use Rattle.structure.specs.declared.HandStructure.{HandStructure}
use Rattle.structure.specs.declared.HandStructure.TheVariants.{Standard, Chiitoitsu, Kokushi}
use Rattle.structure.specs.Structure.{reading_of}

-- a reading with at most four melds
abbrev pub Short : Reading → Type 0
Short (pairs ps) = Unit {0}
Short (orphans p) = Unit {0}
Short (standard p ms) = length ms ≤ 4

-- the array of melds has its four. Of a parameter h the check knows it by `λ p ms e. let k = rw e at c.well_formed.0 in search rules`
abbrev pub FourMelds : HandStructure → Type 0
FourMelds h = (p : Tile) (ms : List Meld) → h ≡ Standard p ms → length ms ≡ 4

pub short_reading : (h : HandStructure) → FourMelds h → Short (reading_of h)
short_reading (Standard p ms) four = let size = four p ms refl in omega arith
short_reading (Chiitoitsu ps) four = tt
short_reading (Kokushi p) four = tt
