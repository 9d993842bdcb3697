-- The number that each operation answers: that of the first check that fails, in the words of the scope paper; 0 where all pass. Assumes
-- nothing.
use mathlib.Core.Path.{◌≡◌, refl, subst}
use mathlib.Core.Logic.{◌↔◌}
use mathlib.Core.Bool.{Bool}
use mathlib.Core.List.{List, [], ◌∷◌}
use Prim.Native.Nat.{ℕ, ◌≤◌}
use Rattle.lists.specs.Refusals.{Answers, unless}
use Rattle.rules.specs.Rules.{Game}
use Rattle.context.specs.declared.GameContext.{GameContext}
use Rattle.checks.specs.declared.Calls.{Calls}
use Rattle.unit.specs.Listing.{listing_in}
use Rattle.unit.specs.Refusals.{list_checks}
use Rattle.unit.proofs.Refusals.{listing_refusals}
use Rattle.scoring.specs.declared.Payment.TheVariants.{Ron, DealerTsumo, Tsumo}
use Rattle.scoring.specs.Payment.{PaymentAnswer, Refused, Paid, payment_answer, refusal_of}
use Rattle.scoring.proofs.Shares.{payment_refusals}
use Rattle.win.specs.Win.{score_win_in, score_reading_in, name_waits_in}
use Rattle.win.specs.Refusals.{score_checks, number_checks}
use Rattle.win_promises.proofs.Refusals.{score_refusals, reading_refusals, waits_refusals}
use Rattle.answers.specs.Answers.{listing_answer, payment_values_at, score_values_at, waits_values}

-- ---- a hand of a game
module _ (g : Game) (cs : List ℕ) (k : Calls) where
  -- a listing: 1 to 6 for the hand and its calls, 7 for a buffer too short
  pub listing_number : (lent n : ℕ) → ((listing_answer (listing_in g cs k lent)).number ≡ n) ↔ Answers (list_checks g cs k lent) n
  listing_number = listing_refusals g cs k

  -- ---- and its win
  module _ (w : GameContext) where
    -- a win: 1 to 6, 8 and 9 for the win, 10 without a reading, 11 without a yaku
    pub win_number : (n : ℕ) → ((score_values_at g.players (score_win_in g cs k w)).number ≡ n) ↔ Answers (score_checks g cs k w) n
    win_number = score_refusals g cs k w

    -- a reading by its number: 1 to 6, 8 and 9, and 12 where there is none of this number
    pub reading_number : (n m : ℕ) → ((score_values_at g.players (score_reading_in g cs k w n)).number ≡ m) ↔ Answers (number_checks g cs k w n) m
    reading_number = reading_refusals g cs k w

    -- the waits of a reading: the same checks
    pub waits_number : (n m : ℕ) → ((waits_values (name_waits_in g cs k w n)).number ≡ m) ↔ Answers (number_checks g cs k w n) m
    waits_number = waits_refusals g cs k w

-- ---- a payment for any numbers
number_is : (players : ℕ) (a : PaymentAnswer) → refusal_of a ≡ (payment_values_at players a).number
number_is players (Refused n) = refl
number_is players (Paid (Ron n)) = refl
number_is players (Paid (DealerTsumo n)) = refl
number_is players (Paid (Tsumo d n)) = refl

-- at a table of so many players: 8 for a win type that is neither ron nor tsumo, then 13 for basic points above 152,000
pub payment_number :
    (players basic : ℕ) (dealer : Bool) (winType n : ℕ)
    → ((payment_values_at players (payment_answer basic dealer winType)).number ≡ n) ↔ Answers (unless 8 (winType ≤ 1) ∷ unless 13 (basic ≤ 152000) ∷ []) n
payment_number players basic dealer winType n =
    subst (λ m. (m ≡ n) ↔ Answers (unless 8 (winType ≤ 1) ∷ unless 13 (basic ≤ 152000) ∷ []) n) (number_is players (payment_answer basic dealer winType))
    (payment_refusals basic dealer winType n)
