-- The choice among scores: two lists of scores with the same ranks, in any order, get answers that agree. Assumes nothing.
use mathlib.Core.Path.{◌≡◌, refl, sym, ap, subst₂, ◌∙◌}
use mathlib.Core.Bool.{Bool}
use mathlib.Core.List.{List, [], ◌∷◌, map, Memᴰ, Permᴰ}
use Prim.Native.Nat.{ℕ, ◌<◌}
use native.Mathlib.Omega.{arith}
use Rattle.lists.proofs.Members.{length_perm}
use Rattle.scoring.specs.Level.{level, basic_points}
use Rattle.scoring.specs.Payment.{payment}
use Rattle.dora.specs.declared.DoraCount.{DoraCount}
use Rattle.reading_score.specs.declared.ScoringResult.{ScoringResult}
use Rattle.reading_score.specs.Score.{rank}
use Rattle.reading_score.proofs.Ranks.{Small, Priced, rank_same}
use Rattle.choice.specs.Choice.{refused, scored, choose_by, answer_of, choice}
use Rattle.choice.proofs.Choosing.{greatest_perm, ChosenOrNone, none_there, one_there, chosen_or_none}
use Rattle.agreement.specs.Agreement.{SameAnswer}

-- han and fu are bytes, the rest of the score follows from them, from the yakuman and from who won how, and the dora are d
pub record Valued (tsumo dealer : Bool) (d : DoraCount) (x : ScoringResult) : Type 0 where
  pub small : Small x
  pub priced : Priced tsumo dealer x
  pub counted : x.dora ≡ d

pub same_refusal : (n : ℕ) → SameAnswer (refused n) (refused n)
same_refusal n =
    record {
      same_number = refl;
      same_han = refl;
      same_dora = refl;
      same_fu = refl;
      same_level = refl;
      same_basic = refl;
      same_payment = refl;
    }

-- at a table of so many players
module _ (players : ℕ) (tsumo dealer : Bool) (δ : DoraCount) where
  -- two scores of one rank above 0
  same_rank_agree :
      (x y : ScoringResult) → Valued tsumo dealer δ x → Valued tsumo dealer δ y → 0 < rank players x → rank players x ≡ rank players y
      → (i j : ℕ) → SameAnswer (scored i x) (scored j y)
  same_rank_agree x y a b h e i j =
      let s = rank_same players x y a.small b.small h e in
      let han = s.same_han in
      let fu = s.same_fu in
      let yakuman = s.same_yakuman in
      let p = a.priced in
      let q = b.priced in
      let basic : x.basic_points ≡ y.basic_points =
      p.basic_points_are ∙ (λ t. basic_points (han t) (fu t) (yakuman t)) ∙ sym q.basic_points_are in
      record {
        same_number = refl;
        same_han = han;
        same_dora = a.counted ∙ sym b.counted;
        same_fu = fu;
        same_level = p.level_is ∙ (λ t. level (han t) (fu t) (yakuman t)) ∙ sym q.level_is;
        same_basic = basic;
        same_payment = p.payment_is ∙ ap (payment tsumo dealer) basic ∙ sym q.payment_is;
      }

  module _
      (xs ys : List ScoringResult) (d : Permᴰ (map (rank players) xs) (map (rank players) ys))
      (f : (x : ScoringResult) → Memᴰ x xs → Valued tsumo dealer δ x)
      (g : (y : ScoringResult) → Memᴰ y ys → Valued tsumo dealer δ y)
    where
      chosen_agree :
          ChosenOrNone (rank players) xs → ChosenOrNone (rank players) ys → SameAnswer (answer_of (choose_by (rank players) xs)) (answer_of (choose_by (rank players) ys))
      chosen_agree (none_there a c) (none_there b e) = subst₂ SameAnswer (sym (ap answer_of c)) (sym (ap answer_of e)) (same_refusal 11)
      chosen_agree (none_there a c) (one_there j y e m q h n) = absurd (omega (arith, greatest_perm d))
      chosen_agree (one_there i x c m p h n) (none_there b e) = absurd (omega (arith, greatest_perm d))
      chosen_agree (one_there i x c m p h n) (one_there j y e o q l r) =
          subst₂ SameAnswer (sym (ap answer_of c)) (sym (ap answer_of e))
          (same_rank_agree x y (f x m) (g y o) h (p ∙ greatest_perm d ∙ sym q) i j)

  pub choice_agrees :
      (xs ys : List ScoringResult) → Permᴰ (map (rank players) xs) (map (rank players) ys)
      → ((x : ScoringResult) → Memᴰ x xs → Valued tsumo dealer δ x) → ((y : ScoringResult) → Memᴰ y ys → Valued tsumo dealer δ y)
      → SameAnswer (choice players xs) (choice players ys)
  unfolding choice
  choice_agrees [] [] d f g = same_refusal 10
  choice_agrees [] (y ∷ ys) d f g = absurd (omega (arith, length_perm d))
  choice_agrees (x ∷ xs) [] d f g = absurd (omega (arith, length_perm d))
  choice_agrees (x ∷ xs) (y ∷ ys) d f g = chosen_agree (x ∷ xs) (y ∷ ys) d f g (chosen_or_none (rank players) (x ∷ xs)) (chosen_or_none (rank players) (y ∷ ys))
