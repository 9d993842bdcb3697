-- Who pays what. These are definitions.
use Rattle.std.specs.Prelude.{Bool, cond, ℕ, ◌+◌, ◌-◌, ◌*◌, ◌/◌, eqb, ltb, Result, Ok, Err}
use Rattle.rules.specs.declared.refusals.Refusal.{Refusal}
use Rattle.rules.specs.Refusals.{refusal_number}
use Rattle.scoring.specs.declared.Payment.{Payment}
use Rattle.scoring.specs.declared.Payment.TheVariants.{Ron, DealerTsumo, Tsumo}

-- a payer's amount is rounded up to 100 once, after multiplication
abbrev pub round_up_to100 : ℕ → ℕ
round_up_to100 n = (n + 99) / 100 * 100

-- tsumo costs the dealer 2 × basic and others 1 × basic, or 2 × basic each to a winning dealer; ron costs 4 ×, or 6 × to the dealer
unfoldable pub payment : Bool → Bool → ℕ → Payment
payment tsumo dealer basic =
    cond tsumo
    (cond dealer (DealerTsumo (round_up_to100 (basic * 2))) (Tsumo (round_up_to100 (basic * 2)) (round_up_to100 basic)))
    (Ron (round_up_to100 (basic * cond dealer 6 4)))

-- all that the winner receives by a settlement (who pays what, Payment in the code), at a table of so many players
abbrev pub total_at : ℕ → Payment → ℕ
total_at players (Ron n) = n
total_at players (DealerTsumo n) = n * (players - 1)
total_at players (Tsumo dealer other) = dealer + other * (players - 2)

-- a payment, or the number of the refusal
pub data PaymentAnswer : Type 0 where
  Refused : ℕ → PaymentAnswer
  Paid : Payment → PaymentAnswer

-- what the code answers
abbrev pub answer_of : Result Payment Refusal → PaymentAnswer
answer_of (Ok p) = Paid p
answer_of (Err e) = Refused (refusal_number e)

-- the payment for any numbers: 8 for a win type that is neither ron (0) nor tsumo (1), 13 for basic points above 152,000
unfoldable pub payment_answer : ℕ → Bool → ℕ → PaymentAnswer
payment_answer basic dealer winType =
    cond (ltb 1 winType) (Refused 8)
    (cond (ltb 152000 basic) (Refused 13)
    (Paid (payment (eqb winType 1) dealer basic)))

-- a refusal's number, 0 where it is paid
abbrev pub refusal_of : PaymentAnswer → ℕ
refusal_of (Refused n) = n
refusal_of (Paid p) = 0
