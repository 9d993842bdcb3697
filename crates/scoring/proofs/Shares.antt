-- Payments, for all basic points: what each pays, that more basic points never pay less, and what is refused. Assumes nothing.
use mathlib.Core.Path.{◌≡◌, refl, sym, ap, ◌∙◌}
use mathlib.Core.Logic.{inl, inr, ⊎_elim, ◌↔◌}
use mathlib.Core.Bool.{Bool, true, false}
use mathlib.Core.List.{[], ◌∷◌}
use Prim.Native.Nat.{ℕ, ◌+◌, ◌-◌, ◌*◌, ◌/◌, ◌<◌, ◌≤◌}
use native.Mathlib.Omega.{arith}
use native.Mathlib.Decide.{dec_le}
use native.Mathlib.Nat.{mul-le-mul_left, mul-le-mul_right}
use lib.Dec.{eqb}
use borrow.Author.Tests.{lt-ltb, le-ltb}
use Rattle.lists.specs.Refusals.{Answers, unless}
use Rattle.scoring.specs.declared.Payment.{Payment}
use Rattle.scoring.specs.declared.Payment.TheVariants.{Ron, DealerTsumo, Tsumo}
use Rattle.scoring.specs.Payment.{Paid}
use Rattle.scoring.specs.Level.{basic_points}
use Rattle.scoring.specs.Payment.{round_up_to100, payment, total_at, payment_answer, refusal_of}
use Rattle.scoring.specs.Payers.{asked, owed_in_all}
use Rattle.scoring.specs.Settled.{Pays, Settled, ron, dealer_ron_holds, tsumo, dealer_tsumo_holds}
use Rattle.scoring.proofs.Laws.{round_up_above, round_up_multiple, round_up_least, basic_le}

-- ---- what each pays
-- an amount rounded up is the least number of hundreds that is enough for what is owed
rounded : (owed n : ℕ) → owed ≡ n → Pays owed (round_up_to100 n)
rounded owed n e =
    let above = round_up_above n in
    record { enough = omega arith; hundreds = round_up_multiple n; least = λ k h l. let below = round_up_least n (k / 100) (omega arith) in omega arith }

-- every payment settles what is owed, by ron and by tsumo, to the dealer and to another
pub settled : (basic : ℕ) (by_tsumo dealer : Bool) → Settled basic by_tsumo dealer (payment by_tsumo dealer basic)
unfolding payment
settled basic false false = ron (rounded (4 * basic) (basic * 4) (omega arith))
settled basic false true = dealer_ron_holds (rounded (6 * basic) (basic * 6) (omega arith))
settled basic true false = tsumo (rounded (2 * basic) (basic * 2) (omega arith)) (rounded basic basic refl)
settled basic true true = dealer_tsumo_holds (rounded (2 * basic) (basic * 2) (omega arith))

-- ---- more basic points never pay less, at a table of any number of players
rounded_rises : (m n : ℕ) → m ≤ n → round_up_to100 m ≤ round_up_to100 n
rounded_rises m n h = omega arith

-- so the winner receives no less
pub total_rises :
    (players : ℕ) (by_tsumo dealer : Bool) (basic basic' : ℕ) → basic ≤ basic'
    → total_at players (payment by_tsumo dealer basic) ≤ total_at players (payment by_tsumo dealer basic')
unfolding payment
total_rises players false false basic basic' h = rounded_rises (basic * 4) (basic' * 4) (omega arith)
total_rises players false true basic basic' h = rounded_rises (basic * 6) (basic' * 6) (omega arith)
total_rises players true false basic basic' h =
    let a = rounded_rises (basic * 2) (basic' * 2) (omega arith) in
    let b = mul-le-mul_right (players - 2) (rounded_rises basic basic' h) in
    omega arith
total_rises players true true basic basic' h = mul-le-mul_right (players - 1) (rounded_rises (basic * 2) (basic' * 2) (omega arith))

-- and where more sit at the table, a payment is no less in all
pub table_rises : (p : Payment) (players players' : ℕ) → players ≤ players' → total_at players p ≤ total_at players' p
table_rises (Ron n) players players' h = omega arith
table_rises (DealerTsumo n) players players' h = mul-le-mul_left n (omega arith)
table_rises (Tsumo dealer other) players players' h =
    let rest : players - 2 ≤ players' - 2 = omega arith in
    omega (arith, mul-le-mul_left other rest)

-- ---- how near the total is to what is owed
-- so many payers owe and pay alike
alike : (k owed : ℕ) → (owed * k ≤ round_up_to100 owed * k) × (round_up_to100 owed * k ≤ owed * k + k * 99)
alike k owed =
    let most : round_up_to100 owed ≤ owed + 99 = omega arith in
    (mul-le-mul_right k (round_up_above owed), omega (arith, mul-le-mul_right k most))

-- the dealer owes for two, and each of the rest for one
for_each : (players n : ℕ) → 2 ≤ players → players * n ≡ n * 2 + n * (players - 2)
for_each players n h = ap (λ (p : ℕ). p * n) (omega arith) ∙ go (players - 2)
  where
    go : (k : ℕ) → (k + 2) * n ≡ n * 2 + n * k
    go k = omega arith

-- the winner receives the basic points as often as the others owe them together, and less than 100 more for each who is asked
pub total_near :
    (players : ℕ) → 2 ≤ players → (by_tsumo dealer : Bool) (basic : ℕ)
    → (owed_in_all players by_tsumo dealer * basic ≤ total_at players (payment by_tsumo dealer basic))
    × (total_at players (payment by_tsumo dealer basic) < owed_in_all players by_tsumo dealer * basic + asked players by_tsumo * 100)
unfolding payment
total_near players h false false basic = (omega arith, omega arith)
total_near players h false true basic = (omega arith, omega arith)
total_near players h true false basic =
    let rest = alike (players - 2) basic in
    let owed = for_each players basic h in
    (omega arith, omega arith)
total_near players h true true basic = let all = alike (players - 1) (basic * 2) in (omega arith, omega arith)

-- ---- what is refused: 8 for a win type that is neither ron nor tsumo, then 13 for basic points above 152,000
module _ (basic : ℕ) (dealer : Bool) (winType : ℕ) where
  -- paid where both are in range
  pub payment_accepted : winType ≤ 1 → basic ≤ 152000 → payment_answer basic dealer winType ≡ Paid (payment (eqb winType 1) dealer basic)
  unfolding payment_answer
  payment_accepted t b = simp (le-ltb 1 winType t, le-ltb 152000 basic b)

  -- n is answered exactly where the checks before it pass and this one fails; 0 where both pass
  pub payment_refusals :
      (n : ℕ) → (refusal_of (payment_answer basic dealer winType) ≡ n) ↔ Answers (unless 8 (winType ≤ 1) ∷ unless 13 (basic ≤ 152000) ∷ []) n
  unfolding payment_answer
  payment_refusals n = go (dec_le winType 1) (dec_le basic 152000)
    where
      go :
          Dec (winType ≤ 1) → Dec (basic ≤ 152000)
          → (refusal_of (payment_answer basic dealer winType) ≡ n) ↔ Answers (unless 8 (winType ≤ 1) ∷ unless 13 (basic ≤ 152000) ∷ []) n
      go (no t) b =
          let e : refusal_of (payment_answer basic dealer winType) ≡ 8 = rw (lt-ltb 1 winType (omega arith)) in
          (λ h. inr (t, sym h ∙ e), ⊎_elim (λ a. absurd (t a.0)) (λ a. e ∙ sym a.1))
      go (yes t) (no b) =
          let e : refusal_of (payment_answer basic dealer winType) ≡ 13 = rw (le-ltb 1 winType t, lt-ltb 152000 basic (omega arith)) in
          (λ h. inl (t, inr (b, sym h ∙ e)), ⊎_elim (λ a. ⊎_elim (λ c. absurd (b c.0)) (λ c. e ∙ sym c.1) a.1) (λ a. absurd (a.0 t)))
      go (yes t) (yes b) =
          let e : refusal_of (payment_answer basic dealer winType) ≡ 0 = rw (le-ltb 1 winType t, le-ltb 152000 basic b) in
          (λ h. inl (t, inl (b, sym h ∙ e)), ⊎_elim (λ a. ⊎_elim (λ c. e ∙ sym c.1) (λ c. absurd (c.0 b)) a.1) (λ a. absurd (a.0 t)))

-- so the payment of a byte of han and any fu is never refused
pub every_score_is_paid :
    (han fu : ℕ) (yakuman dealer : Bool) (winType : ℕ) → han ≤ 255 → winType ≤ 1
    → payment_answer (basic_points han fu yakuman) dealer winType ≡ Paid (payment (eqb winType 1) dealer (basic_points han fu yakuman))
every_score_is_paid han fu yakuman dealer winType h t = payment_accepted (basic_points han fu yakuman) dealer winType t (basic_le han fu yakuman h)
