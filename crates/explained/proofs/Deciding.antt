-- Laws of what decided between two scores: where one is preferred, the rule by which it is; the same from either side; and nothing but the order
-- of the list exactly where two scores with a yaku have equal ranks. Assumes nothing.
use mathlib.Core.Path.{◌≡◌, refl, sym, ◌∙◌}
use mathlib.Core.Bool.{Bool, true, false, beq}
use Prim.Native.Nat.{ℕ, ◌≤◌}
use native.Mathlib.Omega.{arith}
use native.Mathlib.Decide.{dec_le}
use borrow.Author.Tests.{eq-eqb, ne_eqb}
use lib.Dec.{T, eqb, eqb→eq}
use Rattle.lists.proofs.Finite.{T-eq, true→t}
use Rattle.scoring.specs.Payment.{total_at}
use Rattle.reading_score.specs.declared.ScoringResult.{ScoringResult}
use Rattle.reading_score.specs.Score.{has_yaku, rank}
use Rattle.reading_score.specs.Preferred.{Preferred, by_total, by_yakuman, by_han, by_fu}
use Rattle.reading_score.proofs.Ranks.{Small, SameRank, rank_same, rank_order, yaku_rank}
use Rattle.explained.specs.declared.decided.Decided.TheVariants.{Order}
use Rattle.explained.specs.Decided.{decided_by, rule_of}

beq_same : (a b : Bool) → a ≡ b → beq a b ≡ true
beq_same a b e = rw e (go b)
  where
    go : (b : Bool) → beq b b ≡ true
    go true = refl
    go false = refl

module _ {players : ℕ} {x y : ScoringResult} where
  -- where y is preferred to x, what decided is the rule by which it is
  pub decided_rule : (p : Preferred players x y) → decided_by players x y ≡ rule_of p
  unfolding decided_by
  decided_rule (by_total l) = rw (ne_eqb (total_at players x.payment) (total_at players y.payment) (λ e. omega arith))
  decided_rule (by_yakuman e f g) = simp (eq-eqb (total_at players x.payment) (total_at players y.payment) e, f, g)
  decided_rule (by_han e f l) =
      simp (
        eq-eqb (total_at players x.payment) (total_at players y.payment) e,
        beq_same x.is_yakuman y.is_yakuman f,
        ne_eqb x.han y.han (λ e. omega arith),
      )
  decided_rule (by_fu e f g l) =
      simp (
        eq-eqb (total_at players x.payment) (total_at players y.payment) e,
        beq_same x.is_yakuman y.is_yakuman f,
        eq-eqb x.han y.han g,
        ne_eqb x.fu y.fu (λ e. omega arith),
      )

-- from either side
eqb_either_way : (m n : ℕ) → eqb m n ≡ eqb n m
eqb_either_way m n =
    T-eq (eqb m n) (eqb n m) (λ t. true→t _ (eq-eqb n m (sym (eqb→eq m n t)))) (λ t. true→t _ (eq-eqb m n (sym (eqb→eq n m t))))

beq_either_way : (a b : Bool) → beq a b ≡ beq b a
beq_either_way true true = refl
beq_either_way true false = refl
beq_either_way false true = refl
beq_either_way false false = refl

pub decided_either_way : (players : ℕ) (x y : ScoringResult) → decided_by players x y ≡ decided_by players y x
unfolding decided_by
decided_either_way players x y =
    rw (
      eqb_either_way (total_at players x.payment) (total_at players y.payment),
      beq_either_way x.is_yakuman y.is_yakuman,
      eqb_either_way x.han y.han,
      eqb_either_way x.fu y.fu,
    )

-- ---- nothing but the order
rule_no_order : {players : ℕ} {x y : ScoringResult} (p : Preferred players x y) → rule_of p ≡ Order → ⊥
rule_no_order (by_total l) e = let z : ◌≡◌ {A = ℕ} 0 1 = cc in omega arith
rule_no_order (by_yakuman e f g) h = let z : ◌≡◌ {A = ℕ} 0 1 = cc in omega arith
rule_no_order (by_han e f l) h = let z : ◌≡◌ {A = ℕ} 0 1 = cc in omega arith
rule_no_order (by_fu e f g l) h = let z : ◌≡◌ {A = ℕ} 0 1 = cc in omega arith

same_order : {players : ℕ} (x y : ScoringResult) → SameRank players x y → decided_by players x y ≡ Order
unfolding decided_by
same_order {players} x y h =
    simp (
      eq-eqb (total_at players x.payment) (total_at players y.payment) h.same_total,
      beq_same x.is_yakuman y.is_yakuman h.same_yakuman,
      eq-eqb x.han y.han h.same_han,
      eq-eqb x.fu y.fu h.same_fu,
    )

-- what is told of a score x beside the score y that is chosen before it: the rule by which y is preferred, or that only the order decided
pub data Told (players : ℕ) (x y : ScoringResult) : Type 0 where
  by_rule : (p : Preferred players x y) → decided_by players x y ≡ rule_of p → Told players x y
  by_order : rank players x ≡ rank players y → decided_by players x y ≡ Order → Told players x y

module _ (players : ℕ) (x y : ScoringResult) (i : Small x) (j : Small y) (t : T (has_yaku x)) (u : T (has_yaku y)) where
  equal_order : rank players x ≡ rank players y → decided_by players x y ≡ Order
  equal_order e = same_order x y (rank_same players x y i j (yaku_rank players x t) e)

  -- of two scores with a yaku, the one of the higher or an equal rank
  pub told : rank players x ≤ rank players y → Told players x y
  told h = go (dec_le (rank players y) (rank players x))
    where
      go : Dec (rank players y ≤ rank players x) → Told players x y
      go (yes l) = let e : rank players x ≡ rank players y = omega arith in by_order e (equal_order e)
      go (no l) = let p = (rank_order players x y i j t u).0 (omega arith) in by_rule p (decided_rule p)

  order_equal : decided_by players x y ≡ Order → rank players x ≡ rank players y
  order_equal e = go (dec_le (rank players x) (rank players y)) (dec_le (rank players y) (rank players x))
    where
      go : Dec (rank players x ≤ rank players y) → Dec (rank players y ≤ rank players x) → rank players x ≡ rank players y
      go (no k) l = let p = (rank_order players y x j i u t).0 (omega arith) in absurd (rule_no_order p (sym (decided_rule p) ∙ decided_either_way players y x ∙ e))
      go (yes k) (no l) = let p = (rank_order players x y i j t u).0 (omega arith) in absurd (rule_no_order p (sym (decided_rule p) ∙ e))
      go (yes k) (yes l) = omega arith

  -- the order alone decided exactly where the ranks are equal
  pub order_alone : (decided_by players x y ≡ Order → rank players x ≡ rank players y) × (rank players x ≡ rank players y → decided_by players x y ≡ Order)
  order_alone = (order_equal, equal_order)
