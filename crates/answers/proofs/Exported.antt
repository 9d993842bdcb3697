-- The numbers that are answered: which settlement it is, who pays what and the total, level and basic points, and what stands beside a refusal. Assumes nothing.
use mathlib.Core.Path.{◌≡◌, refl, sym, ap, subst, ◌∙◌}
use mathlib.Core.Logic.{◌↔◌}
use mathlib.Core.Bool.{Bool, true, false, cond, true≢false, false≢true}
use mathlib.Core.List.{List, [], ◌∷◌}
use Prim.Native.Nat.{ℕ, zero, suc, ◌+◌, ◌-◌, ◌*◌}
use native.Mathlib.Decide.{ℕ_discrete}
use native.Mathlib.Omega.{arith}
use lib.Dec.{eqb, ltb}
use lib.ListN.{replicate}
use borrow.Author.Tests.{eq-eqb, ne_eqb}
use Rattle.rules.specs.Rules.{Game}
use Rattle.context.specs.declared.GameContext.{GameContext}
use Rattle.context.specs.Context.{is_dealer, is_tsumo}
use Rattle.hand.specs.Reading.{Reading}
use Rattle.checks.specs.declared.Calls.{Calls}
use Rattle.unit.specs.Listing.{hand_readings}
use Rattle.scoring.specs.declared.Payment.{Payment}
use Rattle.scoring.specs.declared.Payment.TheVariants.{Ron, DealerTsumo, Tsumo}
use Rattle.scoring.specs.Level.{level, basic_points}
use Rattle.scoring.specs.Payment.{PaymentAnswer, Refused, Paid, round_up_to100, payment, payment_answer}
use Rattle.records.specs.Pick.{pick_at}
use Rattle.reading_score.proofs.Ranks.{Priced, score_priced}
use Rattle.choice.specs.declared.ScoreAnswer.{ScoreAnswer}
use Rattle.choice.specs.Choice.{refused, scored}
use Rattle.win.specs.declared.WaitsAnswer.{WaitsAnswer}
use Rattle.win.specs.Win.{is_opened, tiles_together, dora_together, win_check_in, score_in, score_win_in, score_reading_in, name_waits_in}
use Rattle.win.proofs.Answers.{win_refused, reading_refused, reading_picked}
use Rattle.win_promises.proofs.Winning.{chosen_has_yaku}
use Rattle.win_promises.proofs.Refusals.{score_refused, number_refused, waits_refused_alone}
use Rattle.answers.specs.declared.PaymentValues.{PaymentValues}
use Rattle.answers.specs.declared.ScoreValues.{ScoreValues}
use Rattle.answers.specs.Answers.{level_answer, paid, payment_values_at, settlement_beside, score_values_at, waits_values}

-- ---- the settlement: 1 exactly by ron, 2 exactly by tsumo of the dealer, 3 exactly by tsumo of another
pub record Which (tsumo dealer : Bool) (settlement : ℕ) : Type 0 where
  pub ron_is_1 : (settlement ≡ 1) ↔ (tsumo ≡ false)
  pub dealer_tsumo_is_2 : (settlement ≡ 2) ↔ ((tsumo ≡ true) × (dealer ≡ true))
  pub tsumo_is_3 : (settlement ≡ 3) ↔ ((tsumo ≡ true) × (dealer ≡ false))

settlement_by : (tsumo dealer : Bool) → Which tsumo dealer (cond tsumo (cond dealer 2 3) 1)
settlement_by false dealer =
    record {
      ron_is_1 = (λ e. refl, λ e. refl);
      dealer_tsumo_is_2 = (λ e. absurd (omega arith), λ e. absurd (false≢true e.0));
      tsumo_is_3 = (λ e. absurd (omega arith), λ e. absurd (false≢true e.0));
    }
settlement_by true false =
    record {
      ron_is_1 = (λ e. absurd (omega arith), λ e. absurd (true≢false e));
      dealer_tsumo_is_2 = (λ e. absurd (omega arith), λ e. absurd (false≢true e.1));
      tsumo_is_3 = (λ e. (refl, refl), λ e. refl);
    }
settlement_by true true =
    record {
      ron_is_1 = (λ e. absurd (omega arith), λ e. absurd (true≢false e));
      dealer_tsumo_is_2 = (λ e. (refl, refl), λ e. refl);
      tsumo_is_3 = (λ e. absurd (omega arith), λ e. absurd (true≢false e.1));
    }

-- ---- who pays what, for these basic points: by ron the discarder pays 4 × basic, to the dealer 6 ×, and nobody else pays; by tsumo each
-- other player pays the dealer 2 × basic, and to another winner the dealer pays 2 × and each other player 1 ×; each amount is rounded up
-- to 100. The total is what they pay together; of the other players there is one less than players where the dealer wins, else two less. The
-- settlement says which of these it is.
pub record Settled (players : ℕ) (tsumo dealer : Bool) (basic settlement discarder theDealer other total : ℕ) : Type 0 where
  pub which : Which tsumo dealer settlement
  pub from_discarder : discarder ≡ cond tsumo 0 (cond dealer (round_up_to100 (basic * 6)) (round_up_to100 (basic * 4)))
  pub from_dealer : theDealer ≡ cond tsumo (cond dealer 0 (round_up_to100 (basic * 2))) 0
  pub from_others : other ≡ cond tsumo (cond dealer (round_up_to100 (basic * 2)) (round_up_to100 basic)) 0
  pub together : total ≡ discarder + theDealer + other * (players - cond dealer 1 2)

-- settlement, amounts and total of a payment that is given
abbrev SettledBy : ℕ → Bool → Bool → ℕ → PaymentValues → Type 0
SettledBy players tsumo dealer basic v = Settled players tsumo dealer basic v.settlement v.from_discarder v.from_dealer v.from_non_dealer v.total

-- so a payment that is given is answered
pub paid_settled : (players : ℕ) (tsumo dealer : Bool) (basic : ℕ) → SettledBy players tsumo dealer basic (paid players (payment tsumo dealer basic))
unfolding payment
paid_settled players false false basic = record { which = settlement_by false false; from_discarder = refl; from_dealer = refl; from_others = refl; together = omega arith }
paid_settled players false true basic = record { which = settlement_by false true; from_discarder = refl; from_dealer = refl; from_others = refl; together = omega arith }
paid_settled players true false basic = record { which = settlement_by true false; from_discarder = refl; from_dealer = refl; from_others = refl; together = omega arith }
paid_settled players true true basic = record { which = settlement_by true true; from_discarder = refl; from_dealer = refl; from_others = refl; together = omega arith }

-- ---- a payment for any numbers
module _ (players basic : ℕ) (dealer : Bool) (winType : ℕ) where
  -- where it is not refused, its amounts and its total are those of the settlement
  pub payment_settled :
      (payment_values_at players (payment_answer basic dealer winType)).number ≡ 0
      → SettledBy players (eqb winType 1) dealer basic (payment_values_at players (payment_answer basic dealer winType))
  unfolding payment_answer
  payment_settled = go (ltb 1 winType) (ltb 152000 basic)
    where
      go : (a b : Bool) → let v = payment_values_at players (cond a (Refused 8) (cond b (Refused 13) (Paid (payment (eqb winType 1) dealer basic)))) in v.number ≡ 0 → SettledBy players (eqb winType 1) dealer basic v
      go true b e = absurd (omega arith)
      go false true e = absurd (omega arith)
      go false false e = paid_settled players (eqb winType 1) dealer basic

-- ---- a score that is answered: level and basic points are those of its han and fu, and its amounts and total those of the settlement
pub record Worth (players : ℕ) (tsumo dealer : Bool) (v : ScoreValues) : Type 0 where
  pub level_is : v.level ≡ (level_answer (level v.han v.fu v.is_yakuman)).level
  pub count_is : v.yakuman_count ≡ (level_answer (level v.han v.fu v.is_yakuman)).count
  pub basic_points_are : v.basic_points ≡ basic_points v.han v.fu v.is_yakuman
  pub settled : Settled players tsumo dealer v.basic_points v.settlement v.from_discarder v.from_dealer v.from_non_dealer v.total

-- beside the number 0 stands the settlement of the payment
beside_accepted : (n s : ℕ) → n ≡ 0 → settlement_beside n s ≡ s
beside_accepted n s e = simp (eq-eqb n 0 e)

worth :
    (players : ℕ) (tsumo dealer : Bool) (a : ScoreAnswer) → a.number ≡ 0 → Priced tsumo dealer a.score → Worth players tsumo dealer (score_values_at players a)
worth players tsumo dealer a e p =
    let v = paid players a.score.payment in
    record {
      level_is = ap (λ l. (level_answer l).level) p.level_is;
      count_is = ap (λ l. (level_answer l).count) p.level_is;
      basic_points_are = p.basic_points_are;
      settled =
          subst (λ (s : ℕ). Settled players tsumo dealer a.score.basic_points s v.from_discarder v.from_dealer v.from_non_dealer v.total)
          (sym (beside_accepted a.number v.settlement e))
          (subst (λ (q : Payment). SettledBy players tsumo dealer a.score.basic_points (paid players q)) (sym p.payment_is) (paid_settled players tsumo dealer a.score.basic_points));
    }

-- ---- what stands beside a refusal's number: 0 in every other place
abbrev pub refusal : ℕ → ScoreValues
refusal n =
    record {
      number = n;
      settlement = 0;
      reading = 0;
      tallies = replicate 47 0;
      han = 0;
      fu = 0;
      is_yakuman = false;
      level = 0;
      yakuman_count = 0;
      regular_dora = 0;
      ura_dora = 0;
      basic_points = 0;
      from_non_dealer = 0;
      from_dealer = 0;
      from_discarder = 0;
      total = 0;
    }

-- so a refused score is answered: its settlement too is 0
refused_values : (players n : ℕ) → (n ≡ 0 → ⊥) → score_values_at players (refused n) ≡ refusal n
refused_values players n f = simp (ne_eqb n 0 f)

module _ (g : Game) (cs : List ℕ) (k : Calls) (w : GameContext) where
  abbrev Scored : ScoreAnswer → Type 0
  Scored a = a.number ≡ 0 → Priced (is_tsumo w) (is_dealer w) a.score

  priced : (r : Reading) → Priced (is_tsumo w) (is_dealer w) (score_in cs k w r)
  unfolding score_in
  priced r = score_priced w (is_opened k) (tiles_together cs k w) (dora_together cs k w) r

  -- ---- a win
  of_win : Scored (score_win_in g cs k w)
  of_win e = go (ℕ_discrete (win_check_in g cs k w) 0)
    where
      go : Dec (win_check_in g cs k w ≡ 0) → Priced (is_tsumo w) (is_dealer w) (score_win_in g cs k w).score
      go (yes p) = let r = chosen_has_yaku g cs k w p e in subst (Priced (is_tsumo w) (is_dealer w)) (sym r.score) (priced r.reading)
      go (no f) = absurd (f (ap (λ (a : ScoreAnswer). a.number) (win_refused g cs k w (win_check_in g cs k w) refl f) ∙ e))

  -- where it is not refused: its worth
  pub win_worth : (score_values_at g.players (score_win_in g cs k w)).number ≡ 0 → Worth g.players (is_tsumo w) (is_dealer w) (score_values_at g.players (score_win_in g cs k w))
  win_worth e = worth g.players (is_tsumo w) (is_dealer w) (score_win_in g cs k w) e (of_win e)

  -- refused: the number, and 0 in every other place
  pub win_refusal : ((score_values_at g.players (score_win_in g cs k w)).number ≡ 0 → ⊥) → score_values_at g.players (score_win_in g cs k w) ≡ refusal (score_values_at g.players (score_win_in g cs k w)).number
  win_refusal f = ap (score_values_at g.players) (score_refused g cs k w f) ∙ refused_values g.players (score_win_in g cs k w).number f

  -- ---- a reading by its number
  module _ (n : ℕ) where
    of_reading : Scored (score_reading_in g cs k w n)
    of_reading = go (ℕ_discrete (win_check_in g cs k w) 0)
      where
        picked : (l : List Reading) (m : ℕ) → Scored (pick_at (refused 12) (λ r. scored n (score_in cs k w r)) l m)
        picked [] m e = absurd (omega arith)
        picked (r ∷ l) zero e = priced r
        picked (r ∷ l) (suc m) e = picked l m e

        go : Dec (win_check_in g cs k w ≡ 0) → Scored (score_reading_in g cs k w n)
        go (yes p) = subst Scored (sym (reading_picked g cs k w p n)) (picked (hand_readings cs k) n)
        go (no f) = λ e. absurd (f (ap (λ (a : ScoreAnswer). a.number) (reading_refused g cs k w (win_check_in g cs k w) refl f n) ∙ e))

    -- where it is not refused: its worth
    pub reading_worth : (score_values_at g.players (score_reading_in g cs k w n)).number ≡ 0 → Worth g.players (is_tsumo w) (is_dealer w) (score_values_at g.players (score_reading_in g cs k w n))
    reading_worth e = worth g.players (is_tsumo w) (is_dealer w) (score_reading_in g cs k w n) e (of_reading e)

    -- refused: the number, and 0 in every other place
    pub reading_refusal :
        ((score_values_at g.players (score_reading_in g cs k w n)).number ≡ 0 → ⊥) → score_values_at g.players (score_reading_in g cs k w n) ≡ refusal (score_values_at g.players (score_reading_in g cs k w n)).number
    reading_refusal f = ap (score_values_at g.players) (number_refused g cs k w n f) ∙ refused_values g.players (score_reading_in g cs k w n).number f

    -- its waits, refused: the number, and six times 0
    pub waits_refusal : ((waits_values (name_waits_in g cs k w n)).number ≡ 0 → ⊥) → (waits_values (name_waits_in g cs k w n)).waits ≡ replicate 6 0
    waits_refusal f = ap (λ (a : WaitsAnswer). a.waits) (waits_refused_alone g cs k w n f)

-- a payment that is refused: the number, and 0 in every other place
pub payment_refusal :
    (players : ℕ) (a : PaymentAnswer) → ((payment_values_at players a).number ≡ 0 → ⊥)
    → payment_values_at players a ≡ record { number = (payment_values_at players a).number; settlement = 0; from_non_dealer = 0; from_dealer = 0; from_discarder = 0; total = 0 }
payment_refusal players (Refused n) f = refl
payment_refusal players (Paid (Ron n)) f = absurd (f refl)
payment_refusal players (Paid (DealerTsumo n)) f = absurd (f refl)
payment_refusal players (Paid (Tsumo d n)) f = absurd (f refl)
