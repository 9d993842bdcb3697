-- A win that is refused for its indicators, with 14, and the same win renamed, which is refused with 14 too, under every renaming of the game.
-- Assumes nothing.
use mathlib.Core.Path.{◌≡◌, refl, sym, ap, ap₂, subst, ◌∙◌}
use mathlib.Core.Logic.{◌⊎◌, inl, inr}
use mathlib.Core.Bool.{Bool, ◌&&◌, ◌||◌}
use mathlib.Core.List.{List, [], ◌∷◌}
use Prim.Native.Nat.{ℕ, zero, suc}
use native.Mathlib.Omega.{arith}
use native.Mathlib.Decide.{ℕ_discrete}
use lib.Dec.{T}
use Rattle.tile.specs.declared.Renaming.{Renaming}
use Rattle.rules.specs.Rules.{Game}
use Rattle.context.specs.declared.Indicators.{Indicators}
use Rattle.context.specs.declared.GameContext.{GameContext}
use Rattle.context.specs.Context.{ren_win, indicating}
use Rattle.context.proofs.Renamed.{range_renamed}
use Rattle.renamed.specs.Renamed.{ren_counts}
use Rattle.checks.specs.declared.Calls.{Calls}
use Rattle.checks.specs.Checks.{hand_check_in}
use Rattle.checks.specs.Refusals.{hand_checks}
use Rattle.checks.proofs.InOrder.{all_pass, pass_all, passed_on}
use Rattle.checks.proofs.Refusals.{hand_refusals}
use Rattle.unit.specs.Listing.{hand_readings}
use Rattle.records.specs.Pick.{pick_at}
use Rattle.reading_score.specs.declared.ScoringResult.{ScoringResult}
use Rattle.reading_score.specs.Score.{rank}
use Rattle.choice.specs.declared.ScoreAnswer.{ScoreAnswer}
use Rattle.choice.specs.Choice.{Choice, none, chosen, choose_by, answer_of, refused, choice}
use Rattle.win.specs.declared.WaitsAnswer.{WaitsAnswer}
use Rattle.win.specs.Win.{indicated_in, win_check_in, scores, score_win_in, score_reading_in, refused_waits, name_waits_in}
use Rattle.win.specs.Refusals.{InRange, BothIndicated, context_checks}
use Rattle.win.proofs.Answers.{win_refused, reading_refused, waits_refused, win_choice, reading_picked, waits_picked}
use Rattle.win.proofs.Refusals.{in_range_holds, range_test, both_indicated, indicators_test, win_refusals}
use Rattle.agreement.specs.Agreement.{StaysAllowed, RenamedCalls, Refused14}
use Rattle.agreement.proofs.Indicators.{BothRenamed, checked_alike, none_alike}
use Rattle.agreement.proofs.Twin.{hand_renamed}

-- ---- where the checks answer 14, those of the hand and of type, winds and setting pass, and that of the indicators fails
passed_by : {A R : Type 0} {n m : ℕ} → (n ≡ m → ⊥) → (A × R) ⊎ ((A → ⊥) × (n ≡ m)) → A × R
passed_by f (inl a) = a
passed_by f (inr b) = absurd (f b.1)

abbrev fourteen : ℕ
fourteen = 14

module _ (g : Game) (cs : List ℕ) (k : Calls) (w : GameContext) where
  record ForIndicators : Type 0 where
    hand : hand_check_in g cs k ≡ 0
    range : InRange w
    fails : BothIndicated g w → ⊥

  for_indicators : win_check_in g cs k w ≡ 14 → ForIndicators
  for_indicators e =
      let a = passed_by (λ q. omega (arith, q)) ((win_refusals g cs k w 14).0 e) in
      let b = passed_by (λ q. omega (arith, q)) a.1 in
      let c = passed_by (λ q. omega (arith, q)) b.1 in
      let d = passed_by (λ q. omega (arith, q)) c.1 in
      let f = passed_by (λ q. omega (arith, q)) d.1 in
      let i = passed_by (λ q. omega (arith, q)) f.1 in
      let h = passed_by (λ q. omega (arith, q)) i.1 in
      record {
        hand = (hand_refusals cs k 0).1 (pass_all (hand_checks g cs k) (a.0, (b.0, (c.0, (d.0, (f.0, (i.0, tt)))))));
        range = h.0;
        fails = refuted h.1;
      }
    where
      refuted : {B H : Type 0} → (B × ((H × (fourteen ≡ 0)) ⊎ ((H → ⊥) × (fourteen ≡ 9)))) ⊎ ((B → ⊥) × (fourteen ≡ 14)) → B → ⊥
      refuted (inl a) b = let n = passed_by (λ q. omega (arith, q)) a.1 in omega (arith, n.1)
      refuted (inr a) b = a.0 b

  answers_14 : ForIndicators → win_check_in g cs k w ≡ 14
  answers_14 p =
      (win_refusals g cs k w 14).1
      (passed_on (hand_checks g cs k) (context_checks g cs w) 14 (all_pass (hand_checks g cs k) tt ((hand_refusals cs k 0).0 p.hand))
      (inl (p.range, inr (p.fails, refl))))

  -- ---- the three operations answer 14 exactly where the checks do: no other of their numbers is 14
  no_choice_14 : (c : Choice) → (answer_of c).number ≡ 14 → ⊥
  no_choice_14 none e = omega arith
  no_choice_14 (chosen i x) e = omega arith

  no_win_14 : (xs : List ScoringResult) → (choice g.players xs).number ≡ 14 → ⊥
  unfolding choice
  no_win_14 [] e = omega arith
  no_win_14 (x ∷ xs) e = no_choice_14 (choose_by (rank g.players) (x ∷ xs)) e

  no_pick_14 : {A B : Type 0} (number : B → ℕ) (z : B) (f : A → B) → number z ≡ 12 → ((a : A) → number (f a) ≡ 0) → (l : List A) (n : ℕ) → number (pick_at z f l n) ≡ 14 → ⊥
  no_pick_14 number z f twelve accepted [] n e = omega (arith, twelve, e)
  no_pick_14 number z f twelve accepted (a ∷ l) zero e = omega (arith, accepted a, e)
  no_pick_14 number z f twelve accepted (a ∷ l) (suc n) e = no_pick_14 number z f twelve accepted l n e

  -- the answer's number is that of the checks where one fails, and is never 14 where all pass
  from_checks :
      (number : ℕ) → ((win_check_in g cs k w ≡ 0 → ⊥) → win_check_in g cs k w ≡ number) → (win_check_in g cs k w ≡ 0 → number ≡ 14 → ⊥) → number ≡ 14
      → win_check_in g cs k w ≡ 14
  from_checks number fails passes e = go (ℕ_discrete (win_check_in g cs k w) 0)
    where
      go : Dec (win_check_in g cs k w ≡ 0) → win_check_in g cs k w ≡ 14
      go (yes z) = absurd (passes z e)
      go (no f) = fails f ∙ e

  win_14 : (score_win_in g cs k w).number ≡ 14 → win_check_in g cs k w ≡ 14
  win_14 =
      from_checks (score_win_in g cs k w).number (λ f. ap (λ (a : ScoreAnswer). a.number) (win_refused g cs k w (win_check_in g cs k w) refl f))
      (λ z e. no_win_14 (scores cs k w) (sym (ap (λ (a : ScoreAnswer). a.number) (win_choice g cs k w z)) ∙ e))

  reading_14 : (n : ℕ) → (score_reading_in g cs k w n).number ≡ 14 → win_check_in g cs k w ≡ 14
  reading_14 n =
      from_checks (score_reading_in g cs k w n).number (λ f. ap (λ (a : ScoreAnswer). a.number) (reading_refused g cs k w (win_check_in g cs k w) refl f n))
      (λ z e.
      no_pick_14 (λ (a : ScoreAnswer). a.number) (refused 12) _ refl (λ r. refl) (hand_readings cs k) n
      (sym (ap (λ (a : ScoreAnswer). a.number) (reading_picked g cs k w z n)) ∙ e))

  waits_14 : (n : ℕ) → (name_waits_in g cs k w n).number ≡ 14 → win_check_in g cs k w ≡ 14
  waits_14 n =
      from_checks (name_waits_in g cs k w n).number (λ f. ap (λ (a : WaitsAnswer). a.number) (waits_refused g cs k w (win_check_in g cs k w) refl f n))
      (λ z e.
      no_pick_14 (λ (a : WaitsAnswer). a.number) (refused_waits 12) _ refl (λ r. refl) (hand_readings cs k) n
      (sym (ap (λ (a : WaitsAnswer). a.number) (waits_picked g cs k w z n)) ∙ e))

  module _ (e : win_check_in g cs k w ≡ 14) where
    not_zero : fourteen ≡ 0 → ⊥
    not_zero q = omega (arith, q)

    win_answers : (score_win_in g cs k w).number ≡ 14
    win_answers = sym (ap (λ (a : ScoreAnswer). a.number) (win_refused g cs k w 14 (sym e) not_zero))

    reading_answers : (n : ℕ) → (score_reading_in g cs k w n).number ≡ 14
    reading_answers n = sym (ap (λ (a : ScoreAnswer). a.number) (reading_refused g cs k w 14 (sym e) not_zero n))

    waits_answers : (n : ℕ) → (name_waits_in g cs k w n).number ≡ 14
    waits_answers n = sym (ap (λ (a : WaitsAnswer). a.number) (waits_refused g cs k w 14 (sym e) not_zero n))

-- ---- a win and the same win renamed, with the indicators d and u
module _
    (g : Game) {ρ : Renaming} (stays : StaysAllowed g ρ) (cs : List ℕ) {k j : Calls} {w : GameContext} (c : RenamedCalls ρ k j) {d u : Indicators} (both : BothRenamed ρ w d u)
  where
    indicated_alike : indicated_in g (indicating d u (ren_win ρ w)) ≡ indicated_in g w
    indicated_alike = ap₂ (λ (a b : Bool). a && (g.dora || b)) (checked_alike both) (none_alike both)

    check_renamed : win_check_in g cs k w ≡ 14 → win_check_in g (ren_counts ρ cs) j (indicating d u (ren_win ρ w)) ≡ 14
    check_renamed e =
        let p = for_indicators g cs k w e in
        let v = indicating d u (ren_win ρ w) in
        answers_14 g (ren_counts ρ cs) j v
        (record {
          hand = hand_renamed g stays cs c p.hand;
          range = in_range_holds v (subst T (sym (range_renamed ρ w)) (range_test w p.range));
          fails = λ b. p.fails (both_indicated g w (subst T indicated_alike (indicators_test g v b)));
        })

    pub refused_14 : Refused14 g ρ cs k j w (indicating d u (ren_win ρ w))
    refused_14 =
        let ds = ren_counts ρ cs in
        let v = indicating d u (ren_win ρ w) in
        record {
          won = λ e. win_answers g ds j v (check_renamed (win_14 g cs k w e));
          numbered = λ n m e. reading_answers g ds j v (check_renamed (reading_14 g cs k w n e)) m;
          waits = λ n m e. waits_answers g ds j v (check_renamed (waits_14 g cs k w n e)) m;
        }
