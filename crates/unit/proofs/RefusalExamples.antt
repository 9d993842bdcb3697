-- What refuses a listing, by examples: the room that is lent, one byte too few and just enough; and a check of the hand before it. Assumes nothing.
use mathlib.Core.Path.{◌≡◌, refl}
use mathlib.Core.List.{List, [], ◌++◌}
use Prim.Native.Nat.{ℕ, ◌-◌}
use lib.ListN.{take}
use Rattle.tile.specs.Named.{mans, pins, sous}
use Rattle.hand.specs.Named.{hand}
use Rattle.hand.specs.Records.{record_of, standard_bytes}
use Rattle.hand.specs.Readings.{readings, seven_pairs, thirteen_orphans, standards_at, meld_lists}
use Rattle.checks.specs.declared.Calls.{Calls}
use Rattle.checks.specs.Checks.{check, hand_check_in}
use Rattle.unit.specs.Listing.{Refused, Listed, number_of, hand_readings, hand_records, listing, listing_in}

abbrev nothing_called : Calls
nothing_called = record { count = 0; melds = [] }

-- the counts of 123 55 man, 456 pin, 234 678 sou: one reading, a standard one
abbrev played : List ℕ
played = hand (mans 12355 ++ (pins 456 ++ sous 234678))

-- ---- 7: fewer bytes are lent than the records need
pub one_byte_short : number_of (listing played nothing_called (standard_bytes - 1)) ≡ 7
unfolding listing_in hand_records hand_readings readings seven_pairs thirteen_orphans standards_at meld_lists record_of hand_check_in check
one_byte_short = refl

-- just enough
pub just_enough : listing played nothing_called standard_bytes ≡ Listed 1 standard_bytes
unfolding listing_in hand_records hand_readings readings seven_pairs thirteen_orphans standards_at meld_lists record_of hand_check_in check
just_enough = refl

-- ---- 1: the counts are not 34 long, though there is room
pub one_count_short : listing (take 33 played) nothing_called standard_bytes ≡ Refused 1
unfolding listing_in hand_check_in check
one_count_short = refl

-- ---- two faults: the lower number
pub one_before_seven : listing (take 33 played) nothing_called 0 ≡ Refused 1
unfolding listing_in hand_check_in check
one_before_seven = refl
