-- The seat book and what a settled deal makes of it. b is a book, d a deal, x a settlement, s a seat. These are definitions.
use Rattle.std.specs.Prelude.{◌≡◌, Bool, true, false, ◌&&◌, cond, [], ◌∷◌, ℕ, ◌+◌, ◌*◌, ◌≤◌, eqb, ltb, leb, ℤ, pos, ◌+ℤ◌, get_or, Option, None, Some}
use Rattle.lists.specs.Fold.{one}
use Rattle.seat_book.specs.declared.SeatBook.{SeatBook}
use Rattle.seat_book.specs.declared.Deal.{Deal}
use Rattle.seat_book.specs.declared.Settlement.{Settlement}
use Rattle.seat_book.specs.Points.{start, is_within, moved, together, four_of}

-- the points of a seat
abbrev pub points_of : SeatBook → ℕ → ℤ
points_of b s = get_or b.points s (pos 0)

abbrev pub new_book : SeatBook
new_book = record { points = start ∷ start ∷ start ∷ start ∷ []; sticks = 0; deals = 0; counter = 0; reserved = 0 }

-- all points of a table: those of the seats, and 1,000 for each stick
abbrev pub all_points : SeatBook → ℤ
all_points b = together (points_of b) +ℤ pos (1000 * b.sticks)

-- a book takes 1,024 deals, and none where it shows more than 4,096 sticks
abbrev pub most_deals : ℕ
most_deals = 1024

abbrev pub most_sticks : ℕ
most_sticks = 4096

-- the book takes another deal: fewer are booked, no more sticks are on the table, and each seat is within its limits
abbrev pub has_room : SeatBook → Bool
has_room b =
    ltb b.deals most_deals && (leb b.sticks most_sticks && (is_within (points_of b 0) && (is_within (points_of b 1) && (is_within (points_of b 2) && is_within (points_of b 3)))))

-- ---- the sticks: each declaring seat puts one of 1,000 on the table
abbrev pub declares : Deal → ℕ → Bool
declares d s = get_or d.declared s false

abbrev pub declared_in : Deal → ℕ
declared_in d = four_of (λ s. one (declares d s))

abbrev pub on_table : SeatBook → Deal → ℕ
on_table b d = b.sticks + declared_in d

-- ---- a settlement: what each seat gets and pays besides its stick, who takes the sticks, and whether the counter rises
abbrev pub gets_of : Settlement → ℕ → ℕ
gets_of x s = get_or x.gets s 0

abbrev pub pays_of : Settlement → ℕ → ℕ
pays_of x s = get_or x.pays s 0

-- what the seats get is what they pay
abbrev pub Even : Settlement → Type 0
Even x = four_of (gets_of x) ≡ four_of (pays_of x)

-- the seat s takes them
abbrev pub takes : Option ℕ → ℕ → Bool
takes None s = false
takes (Some t) s = eqb t s

-- one of the four seats does
abbrev pub one_takes : Option ℕ → Bool
one_takes None = false
one_takes (Some t) = ltb t 4

abbrev pub is_taken : Settlement → Bool
is_taken x = one_takes x.taker

-- ---- a book after a settled deal
-- the points of the sticks, for a seat that takes them
abbrev pub taken : Bool → ℕ → ℕ
taken takes sticks = cond takes (1000 * sticks) 0

-- a seat's points: with the sticks if it takes them, and without its own if it declared
abbrev pub seat_after : ℤ → ℕ → ℕ → Bool → Bool → ℕ → ℤ
seat_after p gets pays takes declared sticks = moved p (gets + taken takes sticks) (pays + 1000 * one declared)

abbrev pub points_after : SeatBook → Deal → Settlement → ℕ → ℤ
points_after b d x s = seat_after (points_of b s) (gets_of x s) (pays_of x s) (takes x.taker s) (declares d s) (on_table b d)

-- the sticks stay unless one of the four seats takes them
abbrev pub sticks_after : Option ℕ → ℕ → ℕ
sticks_after taker sticks = cond (one_takes taker) 0 sticks

-- the counter rises by one or returns to 0
abbrev pub counter_after : Bool → ℕ → ℕ
counter_after raises counter = cond raises (counter + 1) 0

unfoldable pub settled : SeatBook → Deal → Settlement → SeatBook
settled b d x =
    record {
      points = points_after b d x 0 ∷ points_after b d x 1 ∷ points_after b d x 2 ∷ points_after b d x 3 ∷ [];
      sticks = sticks_after x.taker (on_table b d);
      deals = b.deals + 1;
      counter = counter_after x.raises b.counter;
      reserved = b.reserved;
    }

-- ---- what `settle` asks, so that every number fits its field
-- no seat gets or pays more: a payment is at most a 32-bit number, and far below this
abbrev pub most_moved : ℕ
most_moved = 500000000000

pub record Small (x : Settlement) : Type 0 where
  pub gets : (s : ℕ) → gets_of x s ≤ most_moved
  pub pays : (s : ℕ) → pays_of x s ≤ most_moved

pub record Settles (b : SeatBook) (x : Settlement) : Type 0 where
  pub room : has_room b ≡ true
  pub small : Small x
  pub counts : b.counter + one x.raises ≤ 255
