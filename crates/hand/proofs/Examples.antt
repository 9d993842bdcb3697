-- The bytes of records, by examples: a record of each kind, byte by byte. Assumes nothing.
use mathlib.Core.Path.{◌≡◌, refl}
use mathlib.Core.List.{[], ◌∷◌}
use Rattle.meld.specs.Named.{run, pon, closed_kan, added_kan, from_right, from_across}
use Rattle.hand.specs.Reading.{pairs, orphans, standard}
use Rattle.hand.specs.Records.{two_bytes, record_of, always_enough}

-- ---- the length in two bytes, the kind in two bytes, and what the reading is of
-- kind 1, seven pairs: their tiles, ascending
pub pairs_record : record_of (pairs (0 ∷ 1 ∷ 2 ∷ 9 ∷ 18 ∷ 27 ∷ 33 ∷ [])) ≡ 11 ∷ 0 ∷ 1 ∷ 0 ∷ 0 ∷ 1 ∷ 2 ∷ 9 ∷ 18 ∷ 27 ∷ 33 ∷ []
unfolding record_of
pairs_record = refl

-- kind 2, thirteen orphans: the tile that is doubled
pub orphans_record : record_of (orphans 31) ≡ 5 ∷ 0 ∷ 2 ∷ 0 ∷ 31 ∷ []
unfolding record_of
orphans_record = refl

-- kind 3, a pair and four melds: the pair's tile, then of each meld its lowest tile, its kind and its source
pub standard_record :
    record_of (standard 4 (run 0 ∷ from_across (pon 9) ∷ closed_kan 18 ∷ from_right (added_kan 33) ∷ []))
    ≡ 17 ∷ 0 ∷ 3 ∷ 0 ∷ 4 ∷ 0 ∷ 0 ∷ 0 ∷ 9 ∷ 3 ∷ 2 ∷ 18 ∷ 4 ∷ 0 ∷ 33 ∷ 6 ∷ 1 ∷ []
unfolding record_of
standard_record = refl

-- ---- two bytes, the lower first
pub long_length : two_bytes always_enough ≡ 123 ∷ 7 ∷ []
long_length = refl
