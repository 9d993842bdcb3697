-- Bookings one after the other. What a booking does is its outcome: a refusal's number, or a settlement of its deal. These are definitions.
use Rattle.std.specs.Prelude.{◌≡◌, ◌≢◌, Bool, not, cond, List, [], ◌∷◌, ℕ, eqb}
use Rattle.seat_book.specs.declared.SeatBook.{SeatBook}
use Rattle.seat_book.specs.declared.Deal.{Deal}
use Rattle.seat_book.specs.declared.Settlement.{Settlement}
use Rattle.seat_book.specs.Book.{settled, is_taken, Even}

pub data Outcome : Type 0 where
  refused : ℕ → Outcome
  settles : Settlement → Outcome

-- the number that is answered: the refusal's, or 0
abbrev pub number_of : Outcome → ℕ
number_of (refused n) = n
number_of (settles x) = 0

-- the book as the booking leaves it: a refused one changes nothing
abbrev pub book_after : SeatBook → Deal → Outcome → SeatBook
book_after b d (refused n) = b
book_after b d (settles x) = settled b d x

-- no refusal has the number 0, and what is settled is as P says
abbrev pub Only : (Settlement → Type 0) → Outcome → Type 0
Only P (refused n) = n ≢ 0
Only P (settles x) = P x

-- ---- a kind of bookings: the deal of each, whether somebody wins, whether the counter rises, and its outcome on a book
pub record Kind : Type 1 where
  pub Booking : Type 0
  pub deal_of : Booking → Deal
  pub is_win : Booking → Bool
  pub raises : Booking → Bool
  pub outcome : SeatBook → Booking → Outcome

module _ (k : Kind) where
  -- a booking is settled as its kind says: evenly, the sticks are taken where somebody wins, and the counter rises where it should
  pub record SettledAs (y : k.Booking) (x : Settlement) : Type 0 where
    pub even : Even x
    pub taken : is_taken x ≡ k.is_win y
    pub rises : x.raises ≡ k.raises y

  abbrev pub Sound : Type 0
  Sound = (b : SeatBook) (y : k.Booking) → Only (SettledAs y) (k.outcome b y)

  -- the book after one booking, and after a list of them
  abbrev pub next : SeatBook → k.Booking → SeatBook
  next b y = book_after b (k.deal_of y) (k.outcome b y)

  abbrev pub booked_all : SeatBook → List k.Booking → SeatBook
  booked_all b [] = b
  booked_all b (y ∷ ys) = booked_all (next b y) ys

  -- those of a list of bookings that are answered with 0
  abbrev pub accepted : SeatBook → List k.Booking → List k.Booking
  accepted b [] = []
  accepted b (y ∷ ys) = cond (eqb (number_of (k.outcome b y)) 0) (y ∷ accepted (next b y) ys) (accepted (next b y) ys)

  -- after this booking the counter is 0 again
  abbrev pub returns : k.Booking → Bool
  returns y = not (k.raises y)
