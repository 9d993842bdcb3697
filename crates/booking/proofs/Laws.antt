-- What holds of bookings, one by one and over any list of them. Assumes nothing.
use mathlib.Core.Path.{◌≡◌, refl, ◌∙◌}
use mathlib.Core.Logic.{◌≢◌}
use mathlib.Core.Bool.{Bool, true, false, cond, ◌&&◌}
use mathlib.Core.List.{List}
use Prim.Native.Nat.{ℕ, ◌+◌, ◌*◌, ◌<◌}
use native.Mathlib.Omega.{arith}
use lib.Dec.{eqb, ltb}
use lib.IntN.{pos}
use lib.ListN.{length}
use borrow.Author.Tests.{eqb-false}
use Rattle.lists.specs.Fold.{sum, after_last}
use Rattle.context.specs.declared.GameContext.{GameContext}
use Rattle.checks.specs.declared.Calls.{Calls}
use Rattle.scoring.specs.Payment.{total_at}
use Rattle.choice.specs.declared.ScoreAnswer.{ScoreAnswer}
use Rattle.win.specs.Win.{score_win}
use Rattle.seat_book.specs.declared.SeatBook.{SeatBook}
use Rattle.seat_book.specs.declared.Deal.{Deal}
use Rattle.seat_book.specs.declared.Settlement.{Settlement}
use Rattle.seat_book.specs.Book.{new_book, has_room, declared_in, gets_of, all_points}
use Rattle.seat_book.specs.History.{Outcome, refused, settles, Only, SettledAs, next, booked_all, accepted, returns}
use Rattle.seat_book.proofs.Histories as H
use Rattle.settlements.specs.declared.Winner.{Winner}
use Rattle.settlements.specs.Settlements.{win_settlement, draw_settlement}
use Rattle.settlements.proofs.Laws.{win_even, draw_even, sticks_taken, sticks_stay, draw_raises, Fitting, winner_gets_gain, gain_is}
use Rattle.booking.specs.Booking.{are_seats, seated, raising, scored_outcome, win_outcome, draw_outcome, Booking, draw, won, bookings}
use Rattle.booking.proofs.Seats.{winner_seated}

-- ---- an outcome by tests
module _ (P : Settlement → Type 0) where
  -- refused with n, which is not 0, unless the test passes
  only_if : (t : Bool) (o : Outcome) (n : ℕ) → (t ≡ true → Only P o) → (t ≡ false → n ≢ 0) → Only P (cond t o (refused n))
  only_if true o n f g = f refl
  only_if false o n f g = g refl

  -- refused with n, which is not 0, if the test passes
  only_unless : (t : Bool) (o : Outcome) (n : ℕ) → n ≢ 0 → Only P o → Only P (cond t (refused n) o)
  only_unless true o n f g = f
  only_unless false o n f g = g

  only_raising : (b : SeatBook) (x : Settlement) → P x → Only P (raising b x)
  unfolding raising
  only_raising b x has = only_unless (x.raises && eqb b.counter 255) (settles x) _ (λ e. omega arith) has

-- ---- a win and a draw are settled as bookings say
win_as : (d : Deal) (p : Winner) (cs : List ℕ) (k : Calls) (w : GameContext) → are_seats d p ≡ true → (b : SeatBook) → SettledAs bookings (won d p cs k w) (win_settlement (score_win cs k (seated d p w)).score.payment b.counter p d)
unfolding win_settlement
win_as d p cs k w sat b =
    let h = winner_seated d p sat in
    let q = (score_win cs k (seated d p w)).score.payment in
    record { even = win_even q b.counter p d h; taken = sticks_taken q b.counter p d h; rises = refl }

win_only : (b : SeatBook) (d : Deal) (p : Winner) (cs : List ℕ) (k : Calls) (w : GameContext) → Only (SettledAs bookings (won d p cs k w)) (win_outcome b cs k w d p)
unfolding win_outcome scored_outcome
win_only b d p cs k w =
    let As = SettledAs bookings (won d p cs k w) in
    let a = score_win cs k (seated d p w) in
    let x = win_settlement a.score.payment b.counter p d in
    let o = cond (eqb a.number 0) (raising b x) (refused a.number) in
    only_if As (are_seats d p) (cond (has_room b) o (refused _)) _
    (λ sat.
    only_if As (has_room b) o _
    (λ _. only_if As (eqb a.number 0) (raising b x) a.number (λ _. only_raising As b x (win_as d p cs k w sat b)) (λ e. eqb-false a.number 0 e)) (λ _ e. omega arith))
    (λ _ e. omega arith)

draw_only : (b : SeatBook) (d : Deal) → Only (SettledAs bookings (draw d)) (draw_outcome b d)
unfolding draw_outcome
draw_only b d =
    let As = SettledAs bookings (draw d) in
    only_if As (ltb d.dealer 4) (cond (has_room b) (raising b draw_settlement) (refused _)) _
    (λ _.
    only_if As (has_room b) (raising b draw_settlement) _ (λ _. only_raising As b draw_settlement (record { even = draw_even; taken = sticks_stay; rises = draw_raises }))
    (λ _ e. omega arith)) (λ _ e. omega arith)

-- ---- a scored win gives the winner the payment's total, and 300 for each counter before this deal
pub scored_gain :
    (b : SeatBook) (d : Deal) (p : Winner) (a : ScoreAnswer) → p.seat < 4 → Fitting a.score.payment p d
    → Only (λ x. gets_of x p.seat ≡ total_at 4 a.score.payment + 300 * b.counter) (scored_outcome b d p a)
unfolding scored_outcome
scored_gain b d p a h fits =
    let q = a.score.payment in
    let x = win_settlement q b.counter p d in
    let Gains : Settlement → Type 0 = λ x. gets_of x p.seat ≡ total_at 4 q + 300 * b.counter in
    only_if Gains (eqb a.number 0) (raising b x) a.number
    (λ _. only_raising Gains b x (winner_gets_gain q b.counter p d h ∙ gain_is q b.counter p d fits)) (λ e. eqb-false a.number 0 e)

sound : (b : SeatBook) (y : Booking) → Only (SettledAs bookings y) (bookings.outcome b y)
sound b (draw d) = draw_only b d
sound b (won d p cs k w) = win_only b d p cs k w

-- ---- on any book
-- one booking, and any list of them, leaves all points of the table together as they were
pub booking_kept : (b : SeatBook) (y : Booking) → all_points (next bookings b y) ≡ all_points b
booking_kept b y = H.booking_kept bookings sound b y

pub total_kept : (b : SeatBook) (ys : List Booking) → all_points (booked_all bookings b ys) ≡ all_points b
total_kept b ys = H.total_kept bookings sound b ys

-- ---- from a new book
-- all points of the table are 100,000
pub hundred_thousand : (ys : List Booking) → all_points (booked_all bookings new_book ys) ≡ pos 100000
hundred_thousand ys = H.hundred_thousand bookings sound ys

-- the sticks on the table are those declared in the accepted deals after the last win
pub sticks_since :
    (ys : List Booking) → (booked_all bookings new_book ys).sticks ≡ sum (λ y. declared_in (bookings.deal_of y)) (after_last bookings.is_win (accepted bookings new_book ys))
sticks_since ys = H.sticks_since bookings sound ys

-- the counter is the number of accepted deals after the last win of another than the dealer
pub counter_since : (ys : List Booking) → (booked_all bookings new_book ys).counter ≡ length (after_last (returns bookings) (accepted bookings new_book ys))
counter_since ys = H.counter_since bookings sound ys

-- the deals are those accepted
pub deals_accepted : (ys : List Booking) → (booked_all bookings new_book ys).deals ≡ length (accepted bookings new_book ys)
deals_accepted ys = H.deals_accepted bookings sound ys
