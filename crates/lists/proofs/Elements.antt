-- A list is its elements, and what is read within it does not depend on what is read past it. Assumes nothing.
use mathlib.Core.Path.{◌≡◌, refl, sym, ap, ◌∙◌}
use mathlib.Core.Bool.{Bool}
use mathlib.Core.List.{List, [], ◌∷◌, map}
use Prim.Native.Nat.{ℕ, zero, suc, ◌<◌}
use native.Mathlib.Omega.{arith}
use lib.ListN.{length, get_or}
use Rattle.lists.specs.Fold.{every, all, up_from}
use Rattle.lists.proofs.Members.{map_map}

-- ---- a list of n is what stands at 0, 1, and so on
module _ {A : Type 0} (d : A) where
  later : (a : A) (l : List A) (n k : ℕ) → map (λ i. get_or (a ∷ l) i d) (up_from n (suc k)) ≡ map (λ i. get_or l i d) (up_from n k)
  later a l zero k = refl
  later a l (suc n) k = ap (λ (m : List A). get_or l k d ∷ m) (later a l n (suc k))

  pub elements : (n : ℕ) (l : List A) → length l ≡ n → l ≡ map (λ i. get_or l i d) (up_from n 0)
  elements zero [] h = refl
  elements zero (a ∷ l) h = absurd (omega arith)
  elements (suc n) [] h = absurd (omega arith)
  elements (suc n) (a ∷ l) h = ap (λ (m : List A). a ∷ m) (elements n l (omega arith) ∙ sym (later a l n 0))

  -- a test of each element is one of what stands at 0, 1, and so on
  pub all_by_place : (p : A → Bool) (n : ℕ) (l : List A) → length l ≡ n → all p l ≡ all (λ i. p (get_or l i d)) (up_from n 0)
  all_by_place p n l h = ap (all p) (elements n l h) ∙ ap every (map_map (λ i. get_or l i d) p (up_from n 0))

-- ---- a list of four
pub four : {A : Type 0} (l : List A) (d : A) → length l ≡ 4 → l ≡ get_or l 0 d ∷ get_or l 1 d ∷ get_or l 2 d ∷ get_or l 3 d ∷ []
four l d h = elements d 4 l h

-- ---- what is read past the end
pub same_default : {A : Type 0} (l : List A) (i : ℕ) (d e : A) → i < length l → get_or l i d ≡ get_or l i e
same_default [] i d e h = absurd (omega arith)
same_default (x ∷ l) zero d e h = refl
same_default (x ∷ l) (suc i) d e h = same_default l i d e (omega arith)
