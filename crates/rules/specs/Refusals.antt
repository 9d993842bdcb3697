-- The numbers of the refusals, and the number beside an answer: 0 where it is accepted. These are definitions.
use Rattle.std.specs.Prelude.{ℕ, Result, Ok, Err}
use Rattle.rules.specs.declared.refusals.Refusal.{Refusal}
use Rattle.rules.specs.declared.refusals.Refusal.TheVariants.{CountsLength, TooManyCalls, NotACall, CountAboveFour, FiveOfAKind, NumberOfTiles, BufferTooShort, OutOfRange, WinningTile, NoReading, NoYaku, NoSuchReading, BasicPoints, Indicators, Seats, Book}

abbrev pub refusal_number : Refusal → ℕ
refusal_number CountsLength = 1
refusal_number TooManyCalls = 2
refusal_number NotACall = 3
refusal_number CountAboveFour = 4
refusal_number FiveOfAKind = 5
refusal_number NumberOfTiles = 6
refusal_number BufferTooShort = 7
refusal_number OutOfRange = 8
refusal_number WinningTile = 9
refusal_number NoReading = 10
refusal_number NoYaku = 11
refusal_number NoSuchReading = 12
refusal_number BasicPoints = 13
refusal_number Indicators = 14
refusal_number Seats = 15
refusal_number Book = 16

-- the number of an answer that may be a refusal
module _ {A : Type 0} where
  abbrev pub number_beside : Result A Refusal → ℕ
  number_beside (Ok a) = 0
  number_beside (Err e) = refusal_number e
