-- What each payer owes and pays, said without the formula of rounding. The law `settled` says that every payment is such a settlement. These are
-- definitions.
use Rattle.std.specs.Prelude.{◌≡◌, Bool, true, false, ℕ, ◌*◌, ◌%◌, ◌≤◌}
use Rattle.scoring.specs.declared.Payment.{Payment}
use Rattle.scoring.specs.declared.Payment.TheVariants.{Ron, DealerTsumo, Tsumo}

-- who owes so much pays the least number of hundreds that is enough
pub record Pays (owed paid : ℕ) : Type 0 where
  pub enough : owed ≤ paid
  pub hundreds : paid % 100 ≡ 0
  pub least : (n : ℕ) → n % 100 ≡ 0 → owed ≤ n → paid ≤ n

-- first whether by tsumo, then whether the dealer won: by ron the discarder owes 4 times the basic points, to the dealer 6 times; by tsumo the dealer owes twice and each of the others once, or each
-- of the others twice to the dealer
pub data Settled (basic : ℕ) : Bool → Bool → Payment → Type 0 where
  ron : {n : ℕ} → Pays (4 * basic) n → Settled basic false false (Ron n)
  dealer_ron_holds : {n : ℕ} → Pays (6 * basic) n → Settled basic false true (Ron n)
  tsumo : {m n : ℕ} → Pays (2 * basic) m → Pays basic n → Settled basic true false (Tsumo m n)
  dealer_tsumo_holds : {n : ℕ} → Pays (2 * basic) n → Settled basic true true (DealerTsumo n)
