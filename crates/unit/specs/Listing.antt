-- What listing the readings of a hand answers, and what it leaves in the lent buffer. These are definitions.
use Rattle.std.specs.Prelude.{◌&&◌, cond, List, ◌++◌, ℕ, eqb, leb, length, drop, Result, Ok, Err}
use Rattle.rules.specs.Rules.{Game, four}
use Rattle.rules.specs.declared.refusals.Refusal.{Refusal}
use Rattle.rules.specs.Refusals.{refusal_number}
use Rattle.hand.specs.Counts.{held}
use Rattle.hand.specs.Reading.{Reading}
use Rattle.hand.specs.Records.{records}
use Rattle.hand.specs.Readings.{readings}
use Rattle.checks.specs.declared.Calls.{Calls}
use Rattle.checks.specs.Checks.{called, hand_check_in}
use Rattle.unit.specs.declared.Listed.{Listed as ListedPart}

-- the answer to a listing: refused with a number, or listed, with the count of readings and the count of bytes written
pub data Listing : Type 0 where
  Refused : ℕ → Listing
  Listed : ℕ → ℕ → Listing

-- the code's answer
abbrev pub answer_of : Result ListedPart Refusal → Listing
answer_of (Ok l) = Listed l.readings l.bytes
answer_of (Err e) = Refused (refusal_number e)

-- the numbers of an answer: the refusal, 0 where accepted; the count of readings; the count of bytes written
abbrev pub number_of : Listing → ℕ
number_of (Refused n) = n
number_of (Listed readings bytes) = 0

abbrev pub readings_of : Listing → ℕ
readings_of (Refused n) = 0
readings_of (Listed readings bytes) = readings

abbrev pub bytes_of : Listing → ℕ
bytes_of (Refused n) = 0
bytes_of (Listed readings bytes) = bytes

-- the readings of the counts with the calls, and their records
unfoldable pub hand_readings : List ℕ → Calls → List Reading
hand_readings cs k = readings (held cs) (called k)

unfoldable pub hand_records : List ℕ → Calls → List ℕ
hand_records cs k = records (hand_readings cs k)

-- in the game g, where so many bytes are lent: refused by a check, refused with 7 where the records need more, or listed
unfoldable pub listing_in : Game → List ℕ → Calls → ℕ → Listing
listing_in g cs k room =
    cond (eqb (hand_check_in g cs k) 0)
    (cond (leb (length (hand_records cs k)) room) (Listed (length (hand_readings cs k)) (length (hand_records cs k))) (Refused 7))
    (Refused (hand_check_in g cs k))

-- accepted, the buffer holds the records and after them its old bytes; refused, its old bytes
unfoldable pub written_in : Game → List ℕ → Calls → List ℕ → List ℕ
written_in g cs k buffer =
    cond (eqb (hand_check_in g cs k) 0 && leb (length (hand_records cs k)) (length buffer))
    (hand_records cs k ++ drop (length (hand_records cs k)) buffer)
    buffer

-- with four players and all tiles
abbrev pub listing : List ℕ → Calls → ℕ → Listing
listing cs k room = listing_in four cs k room

abbrev pub written : List ℕ → Calls → List ℕ → List ℕ
written cs k buffer = written_in four cs k buffer
