-- The number that refuses to score a win, to score a reading by its number or to name its waits: that of the first check that fails, in the
-- words of the scope paper; and what stands beside it. Assumes nothing.
use mathlib.Core.Path.{◌≡◌, refl, sym, ap, subst, ◌∙◌}
use mathlib.Core.Logic.{◌↔◌, inl, inr}
use mathlib.Core.Bool.{Bool, true, false}
use mathlib.Core.List.{List, [], ◌∷◌}
use Prim.Native.Nat.{ℕ, zero, suc, ◌≤◌, ◌<◌}
use native.Mathlib.Decide.{ℕ_discrete}
use native.Mathlib.Omega.{arith}
use lib.Dec.{T, ltb}
use lib.ListN.{length}
use borrow.Author.Tests.{ltb-true, ltb-false}
use Rattle.lists.specs.Refusals.{Answers}
use Rattle.lists.proofs.Members.{not_empty}
use Rattle.rules.specs.Rules.{Game}
use Rattle.context.specs.declared.GameContext.{GameContext}
use Rattle.hand.specs.Reading.{Reading}
use Rattle.wait.specs.Wait.{waits}
use Rattle.checks.specs.declared.Calls.{Calls}
use Rattle.checks.proofs.InOrder.{then_checks, exactly}
use Rattle.unit.specs.Listing.{hand_readings}
use Rattle.records.proofs.Pick.{pick_past}
use Rattle.reading_score.specs.declared.ScoringResult.{ScoringResult}
use Rattle.reading_score.specs.Score.{has_yaku}
use Rattle.choice.specs.declared.ScoreAnswer.{ScoreAnswer}
use Rattle.choice.specs.Choice.{refused, scored}
use Rattle.choice.specs.Standing.{StandsAt}
use Rattle.choice.proofs.Standing.{stands_mem}
use Rattle.win.specs.declared.WaitsAnswer.{WaitsAnswer}
use Rattle.win.specs.Win.{win_check_in, score_in, scores, score_win_in, score_reading_in, refused_waits, named_waits, name_waits_in}
use Rattle.win.specs.Refusals.{win_checks, reading_checks, score_checks, number_check, number_checks}
use Rattle.win.proofs.Refusals.{win_refusals}
use Rattle.win.proofs.Answers.{win_refused, reading_refused, waits_refused, win_choice, reading_picked, waits_picked, scored_at, named_at}
use Rattle.win_promises.proofs.Outcomes.{Outcome, without_score, without_yaku, with_score, outcome}
use Rattle.win_promises.proofs.Winning.{no_reading_holds, no_yaku_holds, yaku_scored, chosen_has_yaku}

-- an answer is the refusal of its own number where it is a refusal
own_number : {X : Type 0} (number : X → ℕ) (refusal : ℕ → X) → ((m : ℕ) → number (refusal m) ≡ m) → (a : X) (m : ℕ) → refusal m ≡ a → a ≡ refusal (number a)
own_number number refusal is a m e = sym e ∙ ap refusal (sym (is m) ∙ ap number e)

-- ---- scoring a win
module _ (g : Game) (cs : List ℕ) (k : Calls) (w : GameContext) where
  reading_answers : win_check_in g cs k w ≡ 0 → Answers (reading_checks cs k w) (score_win_in g cs k w).number
  reading_answers z = go (hand_readings cs k) refl
    where
      yaku : (hand_readings cs k ≡ [] → ⊥) → Dec ((score_win_in g cs k w).number ≡ 0) → Answers (reading_checks cs k w) (score_win_in g cs k w).number
      yaku some (yes e) =
          let r = chosen_has_yaku g cs k w z e in
          inl (
            some,
            inl (
              record {
                reading = r.reading;
                listed = stands_mem r.reading (score_win_in g cs k w).reading (hand_readings cs k) r.stands;
                yaku = subst (λ (x : ScoringResult). T (has_yaku x)) r.score r.yaku;
              },
              e,
            ),
          )
      yaku some (no f) =
          inl (
            some,
            inr (
              λ y. f (yaku_scored g cs k w z y.reading y.listed y.yaku),
              no_yaku_holds g cs k w z (record { some = some; none = λ r i t. f (yaku_scored g cs k w z r i t) }),
            ),
          )

      go : (l : List Reading) → hand_readings cs k ≡ l → Answers (reading_checks cs k w) (score_win_in g cs k w).number
      go [] e = inr (λ f. f e, no_reading_holds g cs k w z e)
      go (r ∷ l) e = yaku (λ q. not_empty r l (sym e ∙ q)) (ℕ_discrete (score_win_in g cs k w).number 0)

  -- n is answered exactly where the checks before it pass and this one fails; 0 where all pass
  pub score_refusals : (n : ℕ) → ((score_win_in g cs k w).number ≡ n) ↔ Answers (score_checks g cs k w) n
  score_refusals =
      exactly (score_checks g cs k w) (score_win_in g cs k w).number
      (then_checks (win_checks g cs k w) (reading_checks cs k w) tt (win_check_in g cs k w) (score_win_in g cs k w).number ((win_refusals g cs k w (win_check_in g cs k w)).0 refl)
      (λ z. ap (λ (a : ScoreAnswer). a.number) (sym (win_refused g cs k w (win_check_in g cs k w) refl z))) reading_answers)

  -- beside a refusal: nothing
  pub score_refused : ((score_win_in g cs k w).number ≡ 0 → ⊥) → score_win_in g cs k w ≡ refused (score_win_in g cs k w).number
  score_refused f = go (ℕ_discrete (win_check_in g cs k w) 0)
    where
      alone : (m : ℕ) → refused m ≡ score_win_in g cs k w → score_win_in g cs k w ≡ refused (score_win_in g cs k w).number
      alone m e = own_number (λ (a : ScoreAnswer). a.number) refused (λ m. refl) (score_win_in g cs k w) m e

      chosen : win_check_in g cs k w ≡ 0 → Outcome g.players (scores cs k w) → score_win_in g cs k w ≡ refused (score_win_in g cs k w).number
      chosen z (without_score e a) = alone 10 (sym (win_choice g cs k w z ∙ a))
      chosen z (without_yaku e y a) = alone 11 (sym (win_choice g cs k w z ∙ a))
      chosen z (with_score i x c a) = absurd (f (ap (λ (a : ScoreAnswer). a.number) (win_choice g cs k w z ∙ a)))

      go : Dec (win_check_in g cs k w ≡ 0) → score_win_in g cs k w ≡ refused (score_win_in g cs k w).number
      go (yes z) = chosen z (outcome g.players (scores cs k w))
      go (no z) = alone (win_check_in g cs k w) (win_refused g cs k w (win_check_in g cs k w) refl z)

-- ---- by the number of a reading: a is the answer, refused by a check, refused with 12, or of the reading that stands there
module _
    {X : Type 0} (number : X → ℕ) (refusal : ℕ → X) (is : (m : ℕ) → number (refusal m) ≡ m) (g : Game) (cs : List ℕ) (k : Calls) (w : GameContext)
    (n : ℕ)
    (a : X)
    (checked : (m : ℕ) → m ≡ win_check_in g cs k w → (m ≡ 0 → ⊥) → refusal m ≡ a)
    (past : win_check_in g cs k w ≡ 0 → length (hand_readings cs k) ≤ n → a ≡ refusal 12)
    (there : win_check_in g cs k w ≡ 0 → (r : Reading) → StandsAt r n (hand_readings cs k) → number a ≡ 0)
  where
    stands : (l : List Reading) (i : ℕ) → i < length l → (r : Reading) × StandsAt r i l
    stands [] i h = absurd (omega arith)
    stands (r ∷ l) zero h = (r, refl)
    stands (r ∷ l) (suc i) h = stands l i (omega arith)

    found : win_check_in g cs k w ≡ 0 → n < length (hand_readings cs k) → number a ≡ 0
    found z h = let r = stands (hand_readings cs k) n h in there z r.0 r.1

    numbered_answers : win_check_in g cs k w ≡ 0 → (b : Bool) → ltb n (length (hand_readings cs k)) ≡ b → Answers (number_check cs k n ∷ []) (number a)
    numbered_answers z true e = let h = ltb-true n (length (hand_readings cs k)) e in inl (h, found z h)
    numbered_answers z false e =
        let h = ltb-false n (length (hand_readings cs k)) e in
        inr (λ l. omega arith, ap number (past z h) ∙ is 12)

    numbered_refusals : (m : ℕ) → (number a ≡ m) ↔ Answers (number_checks g cs k w n) m
    numbered_refusals =
        exactly (number_checks g cs k w n) (number a)
        (then_checks (win_checks g cs k w) (number_check cs k n ∷ []) tt (win_check_in g cs k w) (number a) ((win_refusals g cs k w (win_check_in g cs k w)).0 refl)
        (λ z. ap number (sym (checked (win_check_in g cs k w) refl z)) ∙ is (win_check_in g cs k w))
        (λ z. numbered_answers z (ltb n (length (hand_readings cs k))) refl))

    numbered_refused : (number a ≡ 0 → ⊥) → a ≡ refusal (number a)
    numbered_refused f = go (ℕ_discrete (win_check_in g cs k w) 0)
      where
        room : win_check_in g cs k w ≡ 0 → (b : Bool) → ltb n (length (hand_readings cs k)) ≡ b → a ≡ refusal (number a)
        room z true e = absurd (f (found z (ltb-true n (length (hand_readings cs k)) e)))
        room z false e = own_number number refusal is a 12 (sym (past z (ltb-false n (length (hand_readings cs k)) e)))

        go : Dec (win_check_in g cs k w ≡ 0) → a ≡ refusal (number a)
        go (yes z) = room z (ltb n (length (hand_readings cs k))) refl
        go (no z) = own_number number refusal is a (win_check_in g cs k w) (checked (win_check_in g cs k w) refl z)

module _ (g : Game) (cs : List ℕ) (k : Calls) (w : GameContext) (n : ℕ) where
  score_past : win_check_in g cs k w ≡ 0 → length (hand_readings cs k) ≤ n → score_reading_in g cs k w n ≡ refused 12
  score_past z h = reading_picked g cs k w z n ∙ pick_past (refused 12) (λ r. scored n (score_in cs k w r)) (hand_readings cs k) n h

  score_there : win_check_in g cs k w ≡ 0 → (r : Reading) → StandsAt r n (hand_readings cs k) → (score_reading_in g cs k w n).number ≡ 0
  score_there z r s = ap (λ (b : ScoreAnswer). b.number) (scored_at g cs k w z n r s)

  waits_past : win_check_in g cs k w ≡ 0 → length (hand_readings cs k) ≤ n → name_waits_in g cs k w n ≡ refused_waits 12
  waits_past z h = waits_picked g cs k w z n ∙ pick_past (refused_waits 12) (λ r. named_waits (waits w.winning_tile r)) (hand_readings cs k) n h

  waits_there : win_check_in g cs k w ≡ 0 → (r : Reading) → StandsAt r n (hand_readings cs k) → (name_waits_in g cs k w n).number ≡ 0
  waits_there z r s = ap (λ (b : WaitsAnswer). b.number) (named_at g cs k w z n r s)

  -- m is answered exactly where the checks before it pass and this one fails; 0 where all pass
  pub reading_refusals : (m : ℕ) → ((score_reading_in g cs k w n).number ≡ m) ↔ Answers (number_checks g cs k w n) m
  reading_refusals =
      numbered_refusals (λ (b : ScoreAnswer). b.number) refused (λ m. refl) g cs k w n (score_reading_in g cs k w n) (λ m e f. reading_refused g cs k w m e f n) score_past score_there

  pub waits_refusals : (m : ℕ) → ((name_waits_in g cs k w n).number ≡ m) ↔ Answers (number_checks g cs k w n) m
  waits_refusals =
      numbered_refusals (λ (b : WaitsAnswer). b.number) refused_waits (λ m. refl) g cs k w n (name_waits_in g cs k w n) (λ m e f. waits_refused g cs k w m e f n) waits_past waits_there

  -- beside a refusal: nothing
  pub number_refused : ((score_reading_in g cs k w n).number ≡ 0 → ⊥) → score_reading_in g cs k w n ≡ refused (score_reading_in g cs k w n).number
  number_refused =
      numbered_refused (λ (b : ScoreAnswer). b.number) refused (λ m. refl) g cs k w n (score_reading_in g cs k w n) (λ m e f. reading_refused g cs k w m e f n) score_past score_there

  pub waits_refused_alone : ((name_waits_in g cs k w n).number ≡ 0 → ⊥) → name_waits_in g cs k w n ≡ refused_waits (name_waits_in g cs k w n).number
  waits_refused_alone =
      numbered_refused (λ (b : WaitsAnswer). b.number) refused_waits (λ m. refl) g cs k w n (name_waits_in g cs k w n) (λ m e f. waits_refused g cs k w m e f n) waits_past waits_there
