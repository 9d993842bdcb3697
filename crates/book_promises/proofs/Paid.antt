-- The payment of a win that a booking scores: of which kind it is follows from the seats. Assumes nothing.
use mathlib.Core.Path.{◌≡◌, refl, ap, ◌∙◌, sym, subst}
use mathlib.Core.Bool.{Bool, true, false}
use mathlib.Core.List.{List}
use Prim.Native.Nat.{ℕ, ◌*◌}
use lib.Dec.{eqb}
use borrow.Author.Tests.{eqb-true, eq-eqb, ne_eqb}
use Rattle.rules.specs.Rules.{four}
use Rattle.context.specs.declared.GameContext.{GameContext}
use Rattle.context.specs.Context.{is_tsumo, is_dealer}
use Rattle.context.specs.Named.{by_tsumo}
use Rattle.checks.specs.declared.Calls.{Calls}
use Rattle.hand.specs.Reading.{Reading}
use Rattle.scoring.specs.declared.Payment.{Payment}
use Rattle.scoring.specs.declared.Payment.TheVariants.{Ron, DealerTsumo, Tsumo}
use Rattle.scoring.specs.Payment.{payment, round_up_to100}
use Rattle.reading_score.specs.declared.ScoringResult.{ScoringResult}
use Rattle.reading_score.specs.Score.{result, score_of}
use Rattle.win.specs.Win.{win_check_in, score_in, score_win, score_win_in}
use Rattle.win_promises.proofs.Winning.{chosen_has_yaku}
use Rattle.seat_book.specs.declared.Deal.{Deal}
use Rattle.settlements.specs.declared.Winner.{Winner}
use Rattle.settlements.proofs.Laws.{Fitting}
use Rattle.booking.specs.Booking.{type_of, seated}
use Rattle.booking.specs.Refusals.{Seated}
use Rattle.booking.proofs.Seats.{dealer_is_east}

-- ---- a scored win is paid by its type, the dealer and basic points
pub record PaidBy (w : GameContext) (q : Payment) : Type 0 where
  pub basic : ℕ
  pub is : q ≡ payment (is_tsumo w) (is_dealer w) basic

reading_paid : (cs : List ℕ) (k : Calls) (w : GameContext) (r : Reading) → PaidBy w (score_in cs k w r).payment
unfolding score_in score_of result
reading_paid cs k w r = record { basic = (score_in cs k w r).basic_points; is = refl }

passes : (cs : List ℕ) (k : Calls) (w : GameContext) → (score_win cs k w).number ≡ 0 → win_check_in four cs k w ≡ 0
unfolding score_win_in
passes cs k w z = go (eqb (win_check_in four cs k w) 0) refl
  where
    go : (t : Bool) → eqb (win_check_in four cs k w) 0 ≡ t → win_check_in four cs k w ≡ 0
    go true e = eqb-true _ _ e
    go false e = rw e at z

win_paid : (cs : List ℕ) (k : Calls) (w : GameContext) → (score_win cs k w).number ≡ 0 → PaidBy w (score_win cs k w).score.payment
win_paid cs k w z =
    let c = chosen_has_yaku four cs k w (passes cs k w z) z in
    subst (λ (x : ScoringResult). PaidBy w x.payment) (sym c.score) (reading_paid cs k w c.reading)

-- ---- the payment of a booked win, q: by ron where there is a discarder, else by the dealer's tsumo or another's
module _ (cs : List ℕ) (k : Calls) (w : GameContext) (d : Deal) (p : Winner) (sat : Seated d p) (z : (score_win cs k (seated d p w)).number ≡ 0) where
  abbrev q : Payment
  q = (score_win cs k (seated d p w)).score.payment

  by_seats : (basic : ℕ) × (q ≡ payment (eqb (type_of p.has_discarder) by_tsumo) (eqb p.seat d.dealer) basic)
  by_seats =
      let paid = win_paid cs k (seated d p w) z in
      let east = dealer_is_east d.dealer p.seat sat.dealer sat.winner in
      (paid.basic, paid.is ∙ ap (λ t. payment (eqb (type_of p.has_discarder) by_tsumo) t paid.basic) east)

  pub by_ron_holds : p.has_discarder ≡ true → (n : ℕ) × (q ≡ Ron n)
  unfolding payment
  by_ron_holds e = (_, by_seats.1 ∙ ap (λ t. payment (eqb (type_of t) by_tsumo) (eqb p.seat d.dealer) by_seats.0) e)

  pub by_dealer : p.has_discarder ≡ false → p.seat ≡ d.dealer → (n : ℕ) × (q ≡ DealerTsumo n)
  unfolding payment
  by_dealer e f = (
    round_up_to100 (by_seats.0 * 2),
    by_seats.1 ∙ ap (λ t. payment (eqb (type_of t) by_tsumo) (eqb p.seat d.dealer) by_seats.0) e
        ∙ ap (λ t. payment true t by_seats.0) (eq-eqb p.seat d.dealer f),
  )

  pub by_another : p.has_discarder ≡ false → (p.seat ≡ d.dealer → ⊥) → (m : ℕ) × (n : ℕ) × (q ≡ Tsumo m n)
  unfolding payment
  by_another e f = (
    round_up_to100 (by_seats.0 * 2),
    round_up_to100 by_seats.0,
    by_seats.1 ∙ ap (λ t. payment (eqb (type_of t) by_tsumo) (eqb p.seat d.dealer) by_seats.0) e
        ∙ ap (λ t. payment true t by_seats.0) (ne_eqb p.seat d.dealer f),
  )

  -- the seats fit it
  fits : (t dealer : Bool) → p.has_discarder ≡ t → eqb p.seat d.dealer ≡ dealer → (basic : ℕ) → Fitting (payment (eqb (type_of t) by_tsumo) dealer basic) p d
  unfolding payment
  fits true dealer e f basic = (sat.discarder e).0
  fits false true e f basic = sat.winner
  fits false false e f basic = (sat.winner, (sat.dealer, f))

  pub fitting : Fitting q p d
  fitting = subst (λ (x : Payment). Fitting x p d) (sym by_seats.1) (fits p.has_discarder (eqb p.seat d.dealer) refl refl by_seats.0)
