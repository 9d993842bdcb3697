-- A hand whose call comes from the player on the right, and the same from the player on the left: the bytes that are listed differ, and nothing else. Computed.
-- Assumes nothing.
use mathlib.Core.Path.{◌≡◌, refl, ap}
use mathlib.Core.List.{List, [], ◌∷◌, map}
use Prim.Native.Nat.{ℕ}
use native.Mathlib.Omega.{arith}
use lib.ListN.{get_or}
use Rattle.tile.specs.Named.{man, pin, sou, East, White, Red}
use Rattle.rules.specs.Rules.{three}
use Rattle.meld.specs.declared.Meld.{Meld}
use Rattle.meld.specs.Meld.{from_seat}
use Rattle.meld.specs.Named.{chi, pon, closed_kan, from_right, from_left}
use Rattle.hand.specs.Named.{hand}
use Rattle.hand.specs.Reading.{standard}
use Rattle.hand.specs.Records.{record_of}
use Rattle.hand.specs.Readings.{meld_lists, standards_at, seven_pairs, thirteen_orphans, readings}
use Rattle.checks.specs.declared.Calls.{Calls}
use Rattle.checks.specs.Checks.{check, hand_check, hand_check_in}
use Rattle.lent.specs.Lent.{calls_of}
use Rattle.unit.specs.Listing.{hand_readings, hand_records}
use Rattle.sources.specs.Sources.{AlikeIn, Alike, but_sources}
use Rattle.sources.proofs.Lent.{sources_lent_in, sources_lent}

-- a pair of East in the hand; pon of White, from one of the others, chi of 123 man, 456 pin and 789 sou
abbrev counts : List ℕ
counts = hand (East ∷ East ∷ [])

abbrev calling : (Meld → Meld) → List Meld
calling from = from (pon White) ∷ chi (man 1) ∷ chi (pin 4) ∷ chi (sou 7) ∷ []

abbrev right : Calls
right = calls_of (calling from_right)

abbrev left : Calls
left = calls_of (calling from_left)

-- both pass the checks
right_passes : hand_check counts right ≡ 0
unfolding hand_check_in check
right_passes = refl

left_passes : hand_check counts left ≡ 0
unfolding hand_check_in check
left_passes = refl

-- the same with a chi from the right does not: a sequence is called from the left alone, so the theorem asks check 3 of both
chi_from_right : hand_check counts (calls_of (pon White ∷ from_right (chi (man 1)) ∷ chi (pin 4) ∷ chi (sou 7) ∷ [])) ≡ 3
unfolding hand_check_in check
chi_from_right = refl

-- the operations answer alike
pub right_and_left : Alike counts right left
right_and_left = sources_lent counts (calling from_right) (calling from_left) refl tt tt

-- what is listed of each: one reading, whose record ends with the source of the pon
right_bytes : hand_records counts right ≡ 17 ∷ 0 ∷ 3 ∷ 0 ∷ 27 ∷ 0 ∷ 1 ∷ 3 ∷ 12 ∷ 1 ∷ 3 ∷ 24 ∷ 1 ∷ 3 ∷ 31 ∷ 3 ∷ 1 ∷ []
unfolding hand_records hand_readings readings standards_at meld_lists seven_pairs thirteen_orphans record_of
right_bytes = refl

left_bytes : hand_records counts left ≡ 17 ∷ 0 ∷ 3 ∷ 0 ∷ 27 ∷ 0 ∷ 1 ∷ 3 ∷ 12 ∷ 1 ∷ 3 ∷ 24 ∷ 1 ∷ 3 ∷ 31 ∷ 3 ∷ 3 ∷ []
unfolding hand_records hand_readings readings standards_at meld_lists seven_pairs thirteen_orphans record_of
left_bytes = refl

-- so they are not the same bytes
pub bytes_differ : hand_records counts right ≡ hand_records counts left → ⊥
bytes_differ e =
    let a : get_or (hand_records counts right) 16 0 ≡ 1 = ap (λ (l : List ℕ). get_or l 16 0) right_bytes in
    let b : get_or (hand_records counts left) 16 0 ≡ 3 = ap (λ (l : List ℕ). get_or l 16 0) left_bytes in
    let c : get_or (hand_records counts right) 16 0 ≡ get_or (hand_records counts left) 16 0 = ap (λ (l : List ℕ). get_or l 16 0) e in
    omega arith

-- but for sources they are one reading
right_reading : map but_sources (hand_readings counts right) ≡ standard East (chi (man 1) ∷ chi (pin 4) ∷ chi (sou 7) ∷ pon White ∷ []) ∷ []
unfolding hand_readings readings standards_at meld_lists seven_pairs thirteen_orphans
right_reading = refl

left_reading : map but_sources (hand_readings counts left) ≡ standard East (chi (man 1) ∷ chi (pin 4) ∷ chi (sou 7) ∷ pon White ∷ []) ∷ []
unfolding hand_readings readings standards_at meld_lists seven_pairs thirteen_orphans
left_reading = refl

-- ---- three players: pon of Red from so many seats onward, pon of man 1 and pin 4 from the next player, and a closed kan
abbrev called_from : ℕ → List Meld
called_from seats = from_seat seats (pon Red) ∷ from_right (pon (man 1)) ∷ from_right (pon (pin 4)) ∷ closed_kan (sou 7) ∷ []

-- from either of the two others it passes the checks
first_other_passes : hand_check_in three counts (calls_of (called_from 1)) ≡ 0
unfolding hand_check_in check
first_other_passes = refl

second_other_passes : hand_check_in three counts (calls_of (called_from 2)) ≡ 0
unfolding hand_check_in check
second_other_passes = refl

-- and is answered alike
pub either_other : AlikeIn three counts (calls_of (called_from 1)) (calls_of (called_from 2))
either_other = sources_lent_in three counts (called_from 1) (called_from 2) refl tt tt

-- there is no third, though with four players there is
pub no_third_other : hand_check_in three counts (calls_of (called_from 3)) ≡ 3
unfolding hand_check_in check
no_third_other = refl

third_other_of_four : hand_check counts (calls_of (called_from 3)) ≡ 0
unfolding hand_check_in check
third_other_of_four = refl
