-- A booked win, seat by seat, in the words of the rule: the winner, the discarder, the dealer and the others; and the sticks, the counter and the deals.
-- Assumes nothing.
use mathlib.Core.Path.{◌≡◌, refl, ap, ap₂, ◌∙◌, sym}
use mathlib.Core.Bool.{Bool, true, false, cond, ◌&&◌}
use mathlib.Core.List.{List}
use Prim.Native.Nat.{ℕ, ◌+◌, ◌*◌, ◌<◌}
use native.Mathlib.Nat.{zero-add}
use native.Mathlib.Omega.{arith}
use lib.Dec.{eqb}
use borrow.Author.Tests.{eq-eqb, ne_eqb, eqb-true, eqb-false}
use Rattle.lists.specs.Fold.{one}
use Rattle.context.specs.declared.GameContext.{GameContext}
use Rattle.checks.specs.declared.Calls.{Calls}
use Rattle.scoring.specs.declared.Payment.{Payment}
use Rattle.scoring.specs.declared.Payment.TheVariants.{Ron, DealerTsumo, Tsumo}
use Rattle.scoring.specs.Payment.{total_at}
use Rattle.win.specs.Win.{score_win}
use Rattle.seat_book.specs.declared.SeatBook.{SeatBook}
use Rattle.seat_book.specs.declared.Deal.{Deal}
use Rattle.seat_book.specs.declared.Settlement.{Settlement}
use Rattle.seat_book.specs.Points.{moved}
use Rattle.seat_book.specs.Book.{points_of, gets_of, pays_of, declares, on_table, takes, taken, settled, has_room}
use Rattle.seat_book.specs.History.{Outcome, refused, settles, number_of, book_after}
use Rattle.seat_book.proofs.Kept.{seat_after_holds}
use Rattle.settlements.specs.declared.Winner.{Winner}
use Rattle.settlements.specs.Settlements.{owes, win_settlement}
use Rattle.settlements.proofs.Laws as Q
use Rattle.booking.specs.Booking.{are_seats, seated, raising, scored_outcome, win_outcome}
use Rattle.booking.specs.Refusals.{Seated}
use Rattle.booking.proofs.Seats.{is_seated}
use Rattle.book_promises.proofs.Paid as P

-- the points of a seat's stick, if it declared
abbrev pub stick : Deal → ℕ → ℕ
stick d s = 1000 * one (declares d s)

module _ (b : SeatBook) (cs : List ℕ) (k : Calls) (w : GameContext) (d : Deal) (p : Winner) where
  -- what the unit scores
  abbrev pub paid : Payment
  paid = (score_win cs k (seated d p w)).score.payment

  abbrev x : Settlement
  x = win_settlement paid b.counter p d

  -- the book after the booking
  abbrev pub after : SeatBook
  after = book_after b d (win_outcome b cs k w d p)

  -- ---- an accepted win
  record AcceptedAs (o : Outcome) : Type 0 where
    pub seats : are_seats d p ≡ true
    pub scored : (score_win cs k (seated d p w)).number ≡ 0
    pub is : o ≡ settles x

  accepted_by :
      (s r n f : Bool) (m : ℕ) → are_seats d p ≡ s → eqb (score_win cs k (seated d p w)).number 0 ≡ n → (score_win cs k (seated d p w)).number ≡ m
      → number_of (cond s (cond r (cond n (cond f (refused 16) (settles x)) (refused m)) (refused 16)) (refused 15)) ≡ 0
      → AcceptedAs (cond s (cond r (cond n (cond f (refused 16) (settles x)) (refused m)) (refused 16)) (refused 15))
  accepted_by true true true false m es en em z = record { seats = es; scored = eqb-true _ 0 en; is = refl }
  accepted_by true true true true m es en em z = absurd (omega arith)
  accepted_by true true false f m es en em z = absurd (eqb-false _ 0 en (em ∙ z))
  accepted_by true false n f m es en em z = absurd (omega arith)
  accepted_by false r n f m es en em z = absurd (omega arith)

  accepted : number_of (win_outcome b cs k w d p) ≡ 0 → AcceptedAs (win_outcome b cs k w d p)
  unfolding win_outcome scored_outcome raising
  accepted z =
      accepted_by (are_seats d p) (has_room b) (eqb (score_win cs k (seated d p w)).number 0) (x.raises && eqb b.counter 255) (score_win cs k (seated d p w)).number refl
      refl refl z

  module _ (ok : number_of (win_outcome b cs k w d p) ≡ 0) where
    sat : Seated d p
    sat = is_seated d p (accepted ok).seats

    book_is : after ≡ settled b d x
    book_is = ap (book_after b d) (accepted ok).is

    -- what a seat has after it, of the parts of its settlement
    parts : (s g y t : ℕ) → s < 4 → gets_of x s ≡ g → taken (takes x.taker s) (on_table b d) ≡ t → pays_of x s ≡ y → points_of after s ≡ moved (points_of b s) (g + t) (y + stick d s)
    parts s g y t h eg et ey =
        ap (λ (z : SeatBook). points_of z s) book_is ∙ seat_after_holds b d x s h
        ∙ ap₂ (moved (points_of b s)) (ap₂ (λ m n. m + n) eg et) (ap (λ n. n + stick d s) ey)

    -- ---- the winner
    owes_none : owes paid b.counter p d p.seat ≡ 0
    owes_none = by_discarder p.has_discarder refl
      where
        by_dealer : p.has_discarder ≡ false → (t : Bool) → eqb p.seat d.dealer ≡ t → owes paid b.counter p d p.seat ≡ 0
        by_dealer e true f =
            let q = P.by_dealer cs k w d p sat (accepted ok).scored e (eqb-true p.seat d.dealer f) in
            ap (λ (z : Payment). owes z b.counter p d p.seat) q.1 ∙ Q.dealer_pays_nothing q.0 b.counter p d
        by_dealer e false f =
            let q = P.by_another cs k w d p sat (accepted ok).scored e (eqb-false p.seat d.dealer f) in
            ap (λ (z : Payment). owes z b.counter p d p.seat) q.2 ∙ Q.winner_pays_nothing q.1 b.counter p d q.0

        by_discarder : (t : Bool) → p.has_discarder ≡ t → owes paid b.counter p d p.seat ≡ 0
        by_discarder true e =
            let q = P.by_ron_holds cs k w d p sat (accepted ok).scored e in
            ap (λ (z : Payment). owes z b.counter p d p.seat) q.1 ∙ Q.others_pay_nothing q.0 b.counter p d p.seat (λ f. (sat.discarder e).1 (sym f))
        by_discarder false e = by_dealer e (eqb p.seat d.dealer) refl

    -- gets the total that the unit scores, 300 for each counter, and all sticks, this deal's too; his own stick is gone
    pub winner_points :
        points_of after p.seat ≡ moved (points_of b p.seat) (total_at 4 paid + 300 * b.counter + 1000 * on_table b d) (stick d p.seat)
    winner_points =
        let h = sat.winner in
        let gets = Q.winner_gets_gain paid b.counter p d h ∙ Q.gain_is paid b.counter p d (P.fitting cs k w d p sat (accepted ok).scored) in
        let sticks = ap (λ n. taken (takes n p.seat) (on_table b d)) (Q.winner_takes paid b.counter p d) ∙ ap (λ t. taken t (on_table b d)) (eq-eqb p.seat p.seat refl) in
        parts p.seat (total_at 4 paid + 300 * b.counter) 0 (1000 * on_table b d) h gets sticks (Q.each_pays_owed paid b.counter p d p.seat h ∙ owes_none)
        ∙ ap (moved (points_of b p.seat) (total_at 4 paid + 300 * b.counter + 1000 * on_table b d)) (zero-add (stick d p.seat))

    -- ---- any other seat gets nothing, and pays n beside its stick where it owes n
    owing : (s n : ℕ) → s < 4 → (s ≡ p.seat → ⊥) → owes paid b.counter p d s ≡ n → points_of after s ≡ moved (points_of b s) 0 (n + stick d s)
    owing s n h f e =
        let sticks = ap (λ m. taken (takes m s) (on_table b d)) (Q.winner_takes paid b.counter p d) ∙ ap (λ t. taken t (on_table b d)) (ne_eqb p.seat s (λ e. f (sym e))) in
        parts s 0 n 0 h (Q.others_get_nothing paid b.counter p d s h f) sticks (Q.each_pays_owed paid b.counter p d s h ∙ e)

    owes_of : (q : Payment) (s n : ℕ) → paid ≡ q → owes q b.counter p d s ≡ n → owes paid b.counter p d s ≡ n
    owes_of q s n e f = ap (λ (z : Payment). owes z b.counter p d s) e ∙ f

    -- by ron the discarder pays all, and 300 for each counter
    pub discarder_points :
        (n : ℕ) → p.has_discarder ≡ true → paid ≡ Ron n → points_of after p.discarder ≡ moved (points_of b p.discarder) 0 (n + 300 * b.counter + stick d p.discarder)
    discarder_points n e is =
        owing p.discarder (n + 300 * b.counter) (sat.discarder e).0 (sat.discarder e).1 (owes_of (Ron n) p.discarder (n + 300 * b.counter) is (Q.discarder_pays n b.counter p d))

    -- and the two others pay nothing but their sticks
    pub bystander_points :
        (n : ℕ) → paid ≡ Ron n → (s : ℕ) → s < 4 → (s ≡ p.seat → ⊥) → (s ≡ p.discarder → ⊥) → points_of after s ≡ moved (points_of b s) 0 (stick d s)
    bystander_points n is s h f g =
        owing s 0 h f (owes_of (Ron n) s 0 is (Q.others_pay_nothing n b.counter p d s g)) ∙ ap (moved (points_of b s) 0) (zero-add (stick d s))

    -- by the dealer's tsumo each of the others pays the same, and 100 for each counter
    pub payer_points :
        (n : ℕ) → paid ≡ DealerTsumo n → (s : ℕ) → s < 4 → (s ≡ p.seat → ⊥) → points_of after s ≡ moved (points_of b s) 0 (n + 100 * b.counter + stick d s)
    payer_points n is s h f = owing s (n + 100 * b.counter) h f (owes_of (DealerTsumo n) s (n + 100 * b.counter) is (Q.each_pays n b.counter p d s f))

    -- by another's tsumo the dealer pays one amount, and 100 for each counter
    pub dealer_points :
        (m n : ℕ) → paid ≡ Tsumo m n → (d.dealer ≡ p.seat → ⊥) → points_of after d.dealer ≡ moved (points_of b d.dealer) 0 (m + 100 * b.counter + stick d d.dealer)
    dealer_points m n is f =
        owing d.dealer (m + 100 * b.counter) sat.dealer f (owes_of (Tsumo m n) d.dealer (m + 100 * b.counter) is (Q.dealer_pays n b.counter p d m f))

    -- and each of the two others the other, and 100 for each counter
    pub other_points :
        (m n : ℕ) → paid ≡ Tsumo m n → (s : ℕ) → s < 4 → (s ≡ p.seat → ⊥) → (s ≡ d.dealer → ⊥) → points_of after s ≡ moved (points_of b s) 0 (n + 100 * b.counter + stick d s)
    other_points m n is s h f g =
        owing s (n + 100 * b.counter) h f (owes_of (Tsumo m n) s (n + 100 * b.counter) is (Q.other_pays n b.counter p d m s g f))

    -- ---- the sticks, the counter and the deals
    pub sticks_gone : after.sticks ≡ 0
    unfolding settled
    sticks_gone = ap (λ (z : SeatBook). z.sticks) book_is ∙ ap (λ t. cond t 0 (on_table b d)) (Q.sticks_taken paid b.counter p d sat.winner)

    pub counter_rises : p.seat ≡ d.dealer → after.counter ≡ b.counter + 1
    unfolding settled
    counter_rises e = ap (λ (z : SeatBook). z.counter) book_is ∙ ap (λ t. cond t (b.counter + 1) 0) (Q.dealer_raises paid b.counter p d e)

    pub counter_returns : (p.seat ≡ d.dealer → ⊥) → after.counter ≡ 0
    unfolding settled
    counter_returns f = ap (λ (z : SeatBook). z.counter) book_is ∙ ap (λ t. cond t (b.counter + 1) 0) (Q.other_returns paid b.counter p d f)

    pub deal_booked : after.deals ≡ b.deals + 1
    unfolding settled
    deal_booked = ap (λ (z : SeatBook). z.deals) book_is

    -- ---- of which kind the payment is
    pub ron_paid : p.has_discarder ≡ true → (n : ℕ) × (paid ≡ Ron n)
    ron_paid e = P.by_ron_holds cs k w d p sat (accepted ok).scored e

    pub dealer_tsumo_paid : p.has_discarder ≡ false → p.seat ≡ d.dealer → (n : ℕ) × (paid ≡ DealerTsumo n)
    dealer_tsumo_paid e f = P.by_dealer cs k w d p sat (accepted ok).scored e f

    pub tsumo_paid : p.has_discarder ≡ false → (p.seat ≡ d.dealer → ⊥) → (m : ℕ) × (n : ℕ) × (paid ≡ Tsumo m n)
    tsumo_paid e f = P.by_another cs k w d p sat (accepted ok).scored e f
