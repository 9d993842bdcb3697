-- Over a list of seven, as the pairs of a reading, a question of one is the expression that the code writes out. Assumes nothing.
use mathlib.Core.Path.{◌≡◌, sym, ap, ◌∙◌}
use mathlib.Core.Bool.{Bool, ◌||◌, or-false}
use mathlib.Core.List.{List, [], ◌∷◌}
use Prim.Native.Nat.{ℕ}
use lib.ListN.{length, get_or}
use Rattle.lists.specs.Fold.{any}
use Rattle.lists.proofs.Elements.{elements}

module _ {A : Type 0} where
  pub seven :
      (l : List A) (d : A) → length l ≡ 7
      → l ≡ get_or l 0 d ∷ get_or l 1 d ∷ get_or l 2 d ∷ get_or l 3 d ∷ get_or l 4 d ∷ get_or l 5 d ∷ get_or l 6 d ∷ []
  seven l d h = elements d 7 l h

  module _ (p : A → Bool) (l : List A) (d : A) (h : length l ≡ 7) where
    abbrev at : ℕ → Bool
    at i = p (get_or l i d)

    pub any_seven :
        (p (get_or l 0 d) || (p (get_or l 1 d) || (p (get_or l 2 d) || (p (get_or l 3 d) || (p (get_or l 4 d) || (p (get_or l 5 d) || p (get_or l 6 d)))))))
        ≡ any p l
    any_seven =
        ap (λ (b : Bool). at 0 || (at 1 || (at 2 || (at 3 || (at 4 || (at 5 || b)))))) (sym (or-false (at 6))) ∙ ap (any p) (sym (seven l d h))
