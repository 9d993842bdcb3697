-- Over a list of four, as the melds of a reading, a question of each, a question of one, a count and a sum are the expressions
-- that the code writes out. Assumes nothing.
use mathlib.Core.Path.{◌≡◌, sym, ap, ◌∙◌}
use mathlib.Core.Bool.{Bool, ◌&&◌, ◌||◌, and-true, or-false}
use mathlib.Core.List.{List}
use Prim.Native.Nat.{ℕ, ◌+◌}
use native.Mathlib.Nat.{add-zero}
use lib.ListN.{length, get_or}
use Rattle.lists.specs.Fold.{all, any, count, sum, one}
use Rattle.lists.proofs.Elements.{four}

module _ {A : Type 0} where
  module _ (p : A → Bool) (l : List A) (d : A) (h : length l ≡ 4) where
    pub all_four : (p (get_or l 0 d) && (p (get_or l 1 d) && (p (get_or l 2 d) && p (get_or l 3 d)))) ≡ all p l
    all_four =
        ap (λ (b : Bool). p (get_or l 0 d) && (p (get_or l 1 d) && (p (get_or l 2 d) && b))) (sym (and-true (p (get_or l 3 d))))
        ∙ ap (all p) (sym (four l d h))

    pub any_four : (p (get_or l 0 d) || (p (get_or l 1 d) || (p (get_or l 2 d) || p (get_or l 3 d)))) ≡ any p l
    any_four =
        ap (λ (b : Bool). p (get_or l 0 d) || (p (get_or l 1 d) || (p (get_or l 2 d) || b))) (sym (or-false (p (get_or l 3 d))))
        ∙ ap (any p) (sym (four l d h))

  module _ (f : A → ℕ) (l : List A) (d : A) (h : length l ≡ 4) where
    pub sum_four : f (get_or l 0 d) + (f (get_or l 1 d) + (f (get_or l 2 d) + f (get_or l 3 d))) ≡ sum f l
    sum_four =
        ap (λ (n : ℕ). f (get_or l 0 d) + (f (get_or l 1 d) + (f (get_or l 2 d) + n))) (sym (add-zero (f (get_or l 3 d))))
        ∙ ap (sum f) (sym (four l d h))

  module _ (p : A → Bool) (l : List A) (d : A) (h : length l ≡ 4) where
    pub count_four : one (p (get_or l 0 d)) + (one (p (get_or l 1 d)) + (one (p (get_or l 2 d)) + one (p (get_or l 3 d)))) ≡ count p l
    count_four = sum_four (λ a. one (p a)) l d h
