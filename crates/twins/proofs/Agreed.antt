-- The question whether two answers agree is answered yes exactly where they do. Assumes nothing.
use mathlib.Core.Path.{◌≡◌, refl, sym, ap, ap₂, ◌∙◌}
use mathlib.Core.Bool.{Bool, true, ◌&&◌}
use mathlib.Core.List.{List}
use Prim.Native.Nat.{ℕ, zero, suc, ◌+◌}
use native.Mathlib.Omega.{arith}
use lib.Dec.{eqb, eqb→eq}
use lib.ListN.{length}
use borrow.Author.Tests.{eq-eqb}
use Rattle.lists.proofs.Finite.{and_left, and_right, true→t}
use Rattle.tile.specs.declared.Renaming.{Renaming}
use Rattle.rules.specs.Rules.{Game}
use Rattle.context.specs.declared.GameContext.{GameContext}
use Rattle.context.specs.Context.{ren_win}
use Rattle.renamed.specs.Renamed.{ren_counts}
use Rattle.scoring.specs.declared.ScoreLevel.{ScoreLevel}
use Rattle.scoring.specs.declared.ScoreLevel.TheVariants.{Normal, Mangan, Haneman, Baiman, Sanbaiman, Yakuman}
use Rattle.scoring.specs.declared.Payment.{Payment}
use Rattle.scoring.specs.declared.Payment.TheVariants.{Ron, DealerTsumo, Tsumo}
use Rattle.dora.specs.declared.DoraCount.{DoraCount}
use Rattle.checks.specs.declared.Calls.{Calls}
use Rattle.choice.specs.declared.ScoreAnswer.{ScoreAnswer}
use Rattle.win.specs.Win.{win_check_in, score_win_in}
use Rattle.agreement.specs.Agreement.{StaysAllowed, SameAnswer, NotGreen, Comparable}
use Rattle.agreement.proofs.Indicators.{renamed_win}
use Rattle.agreement.proofs.Demand3.{demand3_in}
use Rattle.twins.specs.Twins.{ren_calls, level_number, kind_of, first_amount, second_amount, agrees}
use Rattle.twins.proofs.Renamed.{four_renamed, calls_renamed}

both : {a b : Bool} → a ≡ true → b ≡ true → (a && b) ≡ true
both p q = ap₂ ◌&&◌ p q

-- answers that agree
pub agreed : (a b : ScoreAnswer) → SameAnswer a b → agrees a b ≡ true
unfolding agrees
agreed a b s =
    both (eq-eqb _ _ s.same_number)
    (both (eq-eqb _ _ s.same_han)
    (both (eq-eqb _ _ (ap (λ (d : DoraCount). d.regular) s.same_dora))
    (both (eq-eqb _ _ (ap (λ (d : DoraCount). d.ura) s.same_dora))
    (both (eq-eqb _ _ s.same_fu)
    (both (eq-eqb _ _ (ap level_number s.same_level))
    (both (eq-eqb _ _ s.same_basic)
    (both (eq-eqb _ _ (ap kind_of s.same_payment))
    (both (eq-eqb _ _ (ap first_amount s.same_payment)) (eq-eqb _ _ (ap second_amount s.same_payment))))))))))

-- ---- and the other way: levels and settlements are read back from their numbers
level_at : ℕ → ScoreLevel
level_at zero = Normal
level_at (suc zero) = Mangan
level_at (suc (suc zero)) = Haneman
level_at (suc (suc (suc zero))) = Baiman
level_at (suc (suc (suc (suc zero)))) = Sanbaiman
level_at (suc (suc (suc (suc (suc n))))) = Yakuman n

level_back : (a : ScoreLevel) → level_at (level_number a) ≡ a
unfolding level_at
level_back Normal = refl
level_back Mangan = refl
level_back Haneman = refl
level_back Baiman = refl
level_back Sanbaiman = refl
level_back (Yakuman n) = let e : 5 + n ≡ suc (suc (suc (suc (suc n)))) = omega arith in ap level_at e

payment_at : ℕ → ℕ → ℕ → Payment
payment_at zero m n = Ron m
payment_at (suc zero) m n = DealerTsumo m
payment_at (suc (suc k)) m n = Tsumo m n

payment_back : (a : Payment) → payment_at (kind_of a) (first_amount a) (second_amount a) ≡ a
unfolding payment_at
payment_back (Ron m) = refl
payment_back (DealerTsumo m) = refl
payment_back (Tsumo m n) = refl

-- dora by its two numbers
abbrev the_dora : ℕ → ℕ → DoraCount
the_dora n m = record { regular = n; ura = m }

-- so equal numbers are of equal levels and settlements
level_is : (a b : ScoreLevel) → level_number a ≡ level_number b → a ≡ b
level_is a b e = sym (level_back a) ∙ ap level_at e ∙ level_back b

payment_is : (a b : Payment) → kind_of a ≡ kind_of b → first_amount a ≡ first_amount b → second_amount a ≡ second_amount b → a ≡ b
payment_is a b k e f = sym (payment_back a) ∙ (λ i. payment_at (k i) (e i) (f i)) ∙ payment_back b

pub agree_means : (a b : ScoreAnswer) → agrees a b ≡ true → SameAnswer a b
unfolding agrees
agree_means a b h =
    let t1 = true→t _ h in
    let t2 = and_right (eqb a.number b.number) _ t1 in
    let t3 = and_right (eqb a.score.han b.score.han) _ t2 in
    let r3 = and_right (eqb a.score.dora.regular b.score.dora.regular) _ t3 in
    let u3 = and_right (eqb a.score.dora.ura b.score.dora.ura) _ r3 in
    let t4 = and_right (eqb a.score.fu b.score.fu) _ u3 in
    let t5 = and_right (eqb (level_number a.score.score_level) (level_number b.score.score_level)) _ t4 in
    let t6 = and_right (eqb a.score.basic_points b.score.basic_points) _ t5 in
    let t7 = and_right (eqb (kind_of a.score.payment) (kind_of b.score.payment)) _ t6 in
    let t8 = and_right (eqb (first_amount a.score.payment) (first_amount b.score.payment)) _ t7 in
    record {
      same_number = eqb→eq _ _ (and_left (eqb a.number b.number) _ t1);
      same_han = eqb→eq _ _ (and_left (eqb a.score.han b.score.han) _ t2);
      same_dora =
          ap₂ the_dora (eqb→eq _ _ (and_left (eqb a.score.dora.regular b.score.dora.regular) _ t3))
          (eqb→eq _ _ (and_left (eqb a.score.dora.ura b.score.dora.ura) _ r3));
      same_fu = eqb→eq _ _ (and_left (eqb a.score.fu b.score.fu) _ u3);
      same_level =
          level_is a.score.score_level b.score.score_level
          (eqb→eq _ _ (and_left (eqb (level_number a.score.score_level) (level_number b.score.score_level)) _ t4));
      same_basic = eqb→eq _ _ (and_left (eqb a.score.basic_points b.score.basic_points) _ t5);
      same_payment =
          payment_is a.score.payment b.score.payment
          (eqb→eq _ _ (and_left (eqb (kind_of a.score.payment) (kind_of b.score.payment)) _ t6))
          (eqb→eq _ _ (and_left (eqb (first_amount a.score.payment) (first_amount b.score.payment)) _ t7))
          (eqb→eq _ _ t8);
    }

-- under the conditions of the theorem the answers of the two calls agree
pub calls_agree :
    (g : Game) (ρ : Renaming) → StaysAllowed g ρ → (cs : List ℕ) (k : Calls) (w : GameContext) → length k.melds ≡ 4 → win_check_in g cs k w ≡ 0
    → NotGreen cs k → NotGreen (ren_counts ρ cs) (ren_calls ρ k) → Comparable ρ w
    → agrees (score_win_in g (ren_counts ρ cs) (ren_calls ρ k) (ren_win ρ w)) (score_win_in g cs k w) ≡ true
calls_agree g ρ stays cs k w four passes plain plain' fair =
    let alike = demand3_in g ρ stays cs k (ren_calls ρ k) w (ren_win ρ w) four (four_renamed ρ k four) (calls_renamed ρ k) (renamed_win ρ w) in
    agreed _ _ (alike.scored passes plain plain' fair).won
