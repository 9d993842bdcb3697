-- Laws over any list of bookings: the total of a table, its sticks, its counter and its deals. They hold of every kind of bookings that is settled as it says. Assumes nothing.
use mathlib.Core.Path.{◌≡◌, refl, ap, ◌∙◌, sym}
use mathlib.Core.Bool.{Bool, true, false, not, cond}
use mathlib.Core.List.{List, [], ◌∷◌}
use Prim.Native.Nat.{ℕ, ◌+◌}
use native.Mathlib.Nat.{add-zero}
use lib.Dec.{eqb}
use lib.IntN.{pos}
use lib.ListN.{length}
use borrow.Author.Tests.{ne_eqb}
use Rattle.lists.specs.Fold.{sum, after_last}
use Rattle.lists.proofs.Sums.{sum_ones}
use Rattle.lists.proofs.Since.{since, since_next, since_zero, after_never}
use Rattle.seat_book.specs.declared.SeatBook.{SeatBook}
use Rattle.seat_book.specs.declared.Deal.{Deal}
use Rattle.seat_book.specs.declared.Settlement.{Settlement}
use Rattle.seat_book.specs.Book.{new_book, declared_in, settled, all_points}
use Rattle.seat_book.specs.History.{Outcome, refused, settles, number_of, book_after, Only, Kind, SettledAs, Sound, next, booked_all, accepted, returns}
use Rattle.seat_book.proofs.Kept.{settled_kept}

-- a booking whose number is not 0 changes nothing
pub refused_kept : (b : SeatBook) (d : Deal) (o : Outcome) → (number_of o ≡ 0 → ⊥) → book_after b d o ≡ b
refused_kept b d (refused n) h = refl
refused_kept b d (settles x) h = absurd (h refl)

module _ (k : Kind) (sound : Sound k) where
  -- ---- the total
  after_kept : (b : SeatBook) (y : k.Booking) (o : Outcome) → Only (SettledAs k y) o → all_points (book_after b (k.deal_of y) o) ≡ all_points b
  after_kept b y (refused n) h = refl
  after_kept b y (settles x) h = settled_kept b (k.deal_of y) x h.even

  -- one booking, on any book
  pub booking_kept : (b : SeatBook) (y : k.Booking) → all_points (next k b y) ≡ all_points b
  booking_kept b y = after_kept b y (k.outcome b y) (sound b y)

  -- any list of bookings, on any book
  pub total_kept : (b : SeatBook) (ys : List k.Booking) → all_points (booked_all k b ys) ≡ all_points b
  total_kept b [] = refl
  total_kept b (y ∷ ys) = total_kept (next k b y) ys ∙ booking_kept b y

  -- from a new book
  pub hundred_thousand : (ys : List k.Booking) → all_points (booked_all k new_book ys) ≡ pos 100000
  hundred_thousand ys = total_kept new_book ys

  -- ---- a number of the book to which each accepted booking adds f, and which those that pass p bring back to 0
  module _
      (number : SeatBook → ℕ) (p : k.Booking → Bool) (f : k.Booking → ℕ)
      (steps : (b : SeatBook) (y : k.Booking) (x : Settlement) → SettledAs k y x → number (settled b (k.deal_of y) x) ≡ cond (p y) 0 (number b + f y))
    where
      counted_next :
          (ys : List k.Booking) → ((b : SeatBook) → number (booked_all k b ys) ≡ since p f (number b) (accepted k b ys))
          → (b : SeatBook) (y : k.Booking) (o : Outcome) → Only (SettledAs k y) o
          → number (booked_all k (book_after b (k.deal_of y) o) ys)
          ≡ since p f (number b) (cond (eqb (number_of o) 0) (y ∷ accepted k (book_after b (k.deal_of y) o) ys) (accepted k (book_after b (k.deal_of y) o) ys))
      counted_next ys later b y (refused n) h = rw (ne_eqb n 0 h) (later b)
      counted_next ys later b y (settles x) h =
          let b' = settled b (k.deal_of y) x in
          later b' ∙ ap (λ n. since p f n (accepted k b' ys)) (steps b y x h) ∙ since_next p f (number b) y (accepted k b' ys)

      counted : (b : SeatBook) (ys : List k.Booking) → number (booked_all k b ys) ≡ since p f (number b) (accepted k b ys)
      counted b [] = sym (add-zero (number b))
      counted b (y ∷ ys) = counted_next ys (λ c. counted c ys) b y (k.outcome b y) (sound b y)

      -- from a book where it is 0, it is what the accepted bookings add after the last that brought it back
      counted_since : (b : SeatBook) (ys : List k.Booking) → number b ≡ 0 → number (booked_all k b ys) ≡ sum f (after_last p (accepted k b ys))
      counted_since b ys e = counted b ys ∙ ap (λ n. since p f n (accepted k b ys)) e ∙ since_zero p f (accepted k b ys)

  -- ---- what one settled deal does to the sticks, the counter and the deals
  sticks_step : (b : SeatBook) (y : k.Booking) (x : Settlement) → SettledAs k y x → (settled b (k.deal_of y) x).sticks ≡ cond (k.is_win y) 0 (b.sticks + declared_in (k.deal_of y))
  unfolding settled
  sticks_step b y x h = ap (λ t. cond t 0 (b.sticks + declared_in (k.deal_of y))) h.taken

  counter_step : (b : SeatBook) (y : k.Booking) (x : Settlement) → SettledAs k y x → (settled b (k.deal_of y) x).counter ≡ cond (returns k y) 0 (b.counter + 1)
  unfolding settled
  counter_step b y x h = ap (λ t. cond t (b.counter + 1) 0) h.rises ∙ turned (k.raises y) b.counter
    where
      turned : (t : Bool) (n : ℕ) → cond t (n + 1) 0 ≡ cond (not t) 0 (n + 1)
      turned true n = refl
      turned false n = refl

  deals_step : (b : SeatBook) (y : k.Booking) (x : Settlement) → SettledAs k y x → (settled b (k.deal_of y) x).deals ≡ b.deals + 1
  unfolding settled
  deals_step b y x h = refl

  -- ---- from a new book
  -- the sticks on the table are those declared in the accepted deals after the last win
  pub sticks_since : (ys : List k.Booking) → (booked_all k new_book ys).sticks ≡ sum (λ y. declared_in (k.deal_of y)) (after_last k.is_win (accepted k new_book ys))
  sticks_since ys = counted_since (λ b. b.sticks) k.is_win (λ y. declared_in (k.deal_of y)) sticks_step new_book ys refl

  -- the counter is the number of accepted deals after the last that brought it back
  pub counter_since : (ys : List k.Booking) → (booked_all k new_book ys).counter ≡ length (after_last (returns k) (accepted k new_book ys))
  counter_since ys = counted_since (λ b. b.counter) (returns k) (λ y. 1) counter_step new_book ys refl ∙ sum_ones (after_last (returns k) (accepted k new_book ys))

  -- the deals booked are the accepted ones
  pub deals_accepted : (ys : List k.Booking) → (booked_all k new_book ys).deals ≡ length (accepted k new_book ys)
  deals_accepted ys =
      counted_since (λ b. b.deals) (λ y. false) (λ y. 1) deals_step new_book ys refl ∙ sum_ones (after_last (λ y. false) (accepted k new_book ys))
      ∙ ap length (after_never (accepted k new_book ys))

-- ---- the reserved byte stays, on any book
module _ (k : Kind) where
  after_reserved : (b : SeatBook) (d : Deal) (o : Outcome) → (book_after b d o).reserved ≡ b.reserved
  unfolding settled
  after_reserved b d (refused n) = refl
  after_reserved b d (settles x) = refl

  pub reserved_kept : (b : SeatBook) (ys : List k.Booking) → (booked_all k b ys).reserved ≡ b.reserved
  reserved_kept b [] = refl
  reserved_kept b (y ∷ ys) = reserved_kept (next k b y) ys ∙ after_reserved b (k.deal_of y) (k.outcome b y)
