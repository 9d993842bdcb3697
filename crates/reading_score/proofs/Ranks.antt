-- Laws of the rank and of the score of a reading. The rank is 0 exactly without a yaku; equal ranks are of equal totals, yakuman, han and fu; and the
-- order of ranks is that of totals, then of a yakuman before none, then of han, then of fu. The han and fu of a reading's score are bytes, and its
-- level, basic points and payment follow from them. Assumes nothing.
use mathlib.Core.Path.{◌≡◌, refl, sym, ap, subst, ◌∙◌}
use mathlib.Core.Logic.{◌⊎◌, inl, inr}
use mathlib.Core.Bool.{Bool, true, false, not, cond}
use Prim.Native.Nat.{ℕ, suc, ◌<◌, ◌≤◌}
use native.Mathlib.Omega.{arith}
use native.Mathlib.Decide.{dec_le}
use lib.Dec.{T, eqb}
use Rattle.lists.specs.Fold.{any}
use Rattle.lists.proofs.Finite.{T→true}
use Rattle.context.specs.declared.GameContext.{GameContext}
use Rattle.context.specs.Context.{is_dealer, is_tsumo}
use Rattle.hand.specs.Reading.{Reading}
use Rattle.tile_yaku.specs.declared.TileYaku.{TileYaku}
use Rattle.structure.proofs.Short.{Short}
use Rattle.yaku.specs.Tally.{is_yakuman}
use Rattle.yaku.specs.Han.{han}
use Rattle.yaku.proofs.Laws.{han_small, han_plain}
use Rattle.scoring.specs.Level.{level, basic_points}
use Rattle.scoring.specs.Payment.{payment, total_at}
use Rattle.fu.proofs.Bounds.{fu_small}
use Rattle.dora.specs.declared.DoraCount.{DoraCount}
use Rattle.dora.specs.Dora.{AtMostForty}
use Rattle.dora.proofs.Counting.{total_small}
use Rattle.reading_score.specs.declared.ScoringResult.{ScoringResult}
use Rattle.reading_score.specs.Score.{result, score_of, has_yaku, yakuman_first, in_digits, rank}
use Rattle.reading_score.specs.Preferred.{Preferred, by_total, by_yakuman, by_han, by_fu}

-- han and fu are bytes
pub record Small (x : ScoringResult) : Type 0 where
  pub han : x.han < 256
  pub fu : x.fu < 256

-- ---- dora is no yaku: where every tally is 0 the rank is 0, whatever the dora
pub dora_no_yaku_holds : (players : ℕ) (x : ScoringResult) → any (λ n. not (eqb n 0)) x.tallies ≡ false → rank players x ≡ 0
unfolding rank
dora_no_yaku_holds players x e = rw e

-- ---- a rank above 0 is of a yaku
above_zero : (b : Bool) (n : ℕ) → 0 < cond b (suc n) 0 → T b
above_zero true n h = tt
above_zero false n h = absurd (omega arith)

pub rank_yaku : (players : ℕ) (x : ScoringResult) → 0 < rank players x → T (has_yaku x)
unfolding rank
rank_yaku players x = above_zero (has_yaku x) _

-- the four digits of a score
abbrev digits : ℕ → ScoringResult → ℕ
digits players x = in_digits (total_at players x.payment) (yakuman_first x.is_yakuman) x.han x.fu

yaku_digits : (players : ℕ) (x : ScoringResult) → T (has_yaku x) → rank players x ≡ suc (digits players x)
unfolding rank
yaku_digits players x t = ap (λ (b : Bool). cond b (suc (digits players x)) 0) (T→true (has_yaku x) t)

pub yaku_rank : (players : ℕ) (x : ScoringResult) → T (has_yaku x) → 0 < rank players x
yaku_rank players x t = let e = yaku_digits players x t in omega arith

-- ---- equal ranks
pub record SameRank (players : ℕ) (x y : ScoringResult) : Type 0 where
  pub same_total : total_at players x.payment ≡ total_at players y.payment
  pub same_yakuman : x.is_yakuman ≡ y.is_yakuman
  pub same_han : x.han ≡ y.han
  pub same_fu : x.fu ≡ y.fu

first_same : (a b : Bool) → yakuman_first a ≡ yakuman_first b → a ≡ b
first_same true true e = refl
first_same true false e = absurd (omega arith)
first_same false true e = absurd (omega arith)
first_same false false e = refl

first_le : (a : Bool) → yakuman_first a ≤ 1
first_le true = omega arith
first_le false = omega arith

-- ---- the order of ranks
-- a number is below, equal to or above another
compare : (a b : ℕ) → (a < b) ⊎ ((a ≡ b) ⊎ (b < a))
compare a b = go (dec_le b a) (dec_le a b)
  where
    go : Dec (b ≤ a) → Dec (a ≤ b) → (a < b) ⊎ ((a ≡ b) ⊎ (b < a))
    go (no above) below = inl (omega arith)
    go (yes above) (yes below) = inr (inl (omega arith))
    go (yes above) (no below) = inr (inr (omega arith))

module _ (players : ℕ) (x y : ScoringResult) (i : Small x) (j : Small y) where
  same_digits : digits players x ≡ digits players y → SameRank players x y
  same_digits e =
      let k = first_le x.is_yakuman in
      let l = first_le y.is_yakuman in
      record {
        same_total = omega arith;
        same_yakuman = first_same x.is_yakuman y.is_yakuman (omega arith);
        same_han = omega arith;
        same_fu = omega arith;
      }

  pub rank_same : 0 < rank players x → rank players x ≡ rank players y → SameRank players x y
  rank_same h e =
      let p = yaku_digits players x (rank_yaku players x h) in
      let q = yaku_digits players y (rank_yaku players y (subst (λ (n : ℕ). 0 < n) e h)) in
      same_digits (omega arith)

  pub rank_total : T (has_yaku x) → rank players x ≤ rank players y → total_at players x.payment ≤ total_at players y.payment
  rank_total t h =
      let k = first_le x.is_yakuman in
      let l = first_le y.is_yakuman in
      let p = yaku_digits players x t in
      let q = yaku_digits players y (rank_yaku players y (omega arith)) in
      omega arith

  -- the digits decide from the first to the last
  decide_han :
      total_at players x.payment ≡ total_at players y.payment → x.is_yakuman ≡ y.is_yakuman → digits players x < digits players y
      → (x.han < y.han) ⊎ ((x.han ≡ y.han) ⊎ (y.han < x.han)) → Preferred players x y
  decide_han e f h (inl l) = by_han e f l
  decide_han e f h (inr (inl g)) = let k = ap yakuman_first f in by_fu e f g (omega arith)
  decide_han e f h (inr (inr l)) = let k = ap yakuman_first f in absurd (omega arith)

  decide_yakuman :
      (p q : Bool) → x.is_yakuman ≡ p → y.is_yakuman ≡ q → total_at players x.payment ≡ total_at players y.payment
      → digits players x < digits players y → Preferred players x y
  decide_yakuman true true f g e h = decide_han e (f ∙ sym g) h (compare x.han y.han)
  decide_yakuman true false f g e h = let k = ap yakuman_first f in let l = ap yakuman_first g in absurd (omega arith)
  decide_yakuman false true f g e h = by_yakuman e f g
  decide_yakuman false false f g e h = decide_han e (f ∙ sym g) h (compare x.han y.han)

  decide_total :
      digits players x < digits players y
      → (total_at players x.payment < total_at players y.payment)
      ⊎ ((total_at players x.payment ≡ total_at players y.payment) ⊎ (total_at players y.payment < total_at players x.payment))
      → Preferred players x y
  decide_total h (inl l) = by_total l
  decide_total h (inr (inl e)) = decide_yakuman x.is_yakuman y.is_yakuman refl refl e h
  decide_total h (inr (inr l)) = let k = first_le x.is_yakuman in let m = first_le y.is_yakuman in absurd (omega arith)

  preferred_digits : Preferred players x y → digits players x < digits players y
  preferred_digits (by_total l) = let k = first_le x.is_yakuman in let m = first_le y.is_yakuman in omega arith
  preferred_digits (by_yakuman e f g) = let k = ap yakuman_first f in let m = ap yakuman_first g in omega arith
  preferred_digits (by_han e f l) = let k = ap yakuman_first f in omega arith
  preferred_digits (by_fu e f g l) = let k = ap yakuman_first f in omega arith

  pub rank_order :
      T (has_yaku x) → T (has_yaku y)
      → (rank players x < rank players y → Preferred players x y) × (Preferred players x y → rank players x < rank players y)
  rank_order t u =
      let p = yaku_digits players x t in
      let q = yaku_digits players y u in (
        λ h. decide_total (omega arith) (compare (total_at players x.payment) (total_at players y.payment)),
        λ h. let l = preferred_digits h in omega arith,
      )

-- ---- the scores of readings
-- level, basic points and payment follow from han, fu and yakuman, and from who won how
pub record Priced (tsumo dealer : Bool) (x : ScoringResult) : Type 0 where
  pub level_is : x.score_level ≡ level x.han x.fu x.is_yakuman
  pub basic_points_are : x.basic_points ≡ basic_points x.han x.fu x.is_yakuman
  pub payment_is : x.payment ≡ payment tsumo dealer x.basic_points

module _ (w : GameContext) (opened : Bool) (s : TileYaku) (d : DoraCount) (r : Reading) where
  pub score_small : AtMostForty d → Short r → Small (score_of w opened s d r)
  unfolding score_of result
  score_small f h =
      record {
        han = total_small d f (is_yakuman w opened s r) (han w opened s r) (han_small w opened s r h) (han_plain w opened s r h);
        fu = fu_small w opened r h;
      }

  pub score_priced : Priced (is_tsumo w) (is_dealer w) (score_of w opened s d r)
  unfolding score_of result
  score_priced = record { level_is = refl; basic_points_are = refl; payment_is = refl }
