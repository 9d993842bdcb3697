-- How long the bytes of melds are, and the record of a standard reading. Assumes nothing.
use mathlib.Core.Path.{◌≡◌, refl}
use mathlib.Core.List.{List, [], ◌∷◌}
use Prim.Native.Nat.{ℕ, ◌+◌, ◌*◌}
use native.Mathlib.Omega.{arith}
use lib.ListN.{length}
use Rattle.meld.specs.declared.Meld.{Meld}
use Rattle.hand.specs.Reading.{standard}
use Rattle.hand.specs.Records.{meld_bytes, record_of, standard_bytes, always_enough}

pub meld_bytes_length_holds : (ms : List Meld) → length (meld_bytes ms) ≡ 3 * length ms
meld_bytes_length_holds [] = refl
meld_bytes_length_holds (m ∷ ms) = let e = meld_bytes_length_holds ms in omega arith

-- the length of the record of a pair and four melds, and how many bytes those of 7 pairs with 16 sets of melds each and of seven pairs have
pub standard_bytes_holds : (p : ℕ) (ms : List Meld) → length ms ≡ 4 → length (record_of (standard p ms)) ≡ standard_bytes
unfolding record_of
standard_bytes_holds p ms h = let e = meld_bytes_length_holds ms in omega arith

pub enough_is : 7 * 16 * standard_bytes + 11 ≡ always_enough
enough_is = refl
