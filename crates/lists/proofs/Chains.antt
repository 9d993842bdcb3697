-- What an iterator's chain answers, in the words of `Fold`: the library's tests, sums and counts over a list are those. Assumes nothing.
use denote.Param.Members.{Mut}
use mathlib.Core.Bool.{and-true, or-false, and_assoc, or_assoc}
use native.Mathlib.Decide.{ℕ_discrete}
use Rattle.std.proofs.Common.{ℕ, zero, suc, ◌+◌, ◌<◌, ◌≤◌, ◌≡◌, Bool, true, false, cond, ◌||◌, ◌&&◌, List, [], ◌∷◌, map, length, get_or, refl, ap, sym, subst, ◌∙◌, arith}
use Rattle.std.proofs.lemmas.List.{ext_get_or, length-map}
use Rattle.std.specs.Array.{IsMapOf, MapsFrom}
use Rattle.std.specs.Fn.{Called}
use Rattle.std.specs.List.{list_any, list_all, sum_by, filter, fold}
use Rattle.std.proofs.lemmas.List.Recursion.{is_sum_by}
use Rattle.std.specs.Int.{from_bool}
use Rattle.lists.specs.Fold.{any, all, sum, count, one}
use Rattle.lists.proofs.Members.{at_map}

module _ {A : Type 0} where
  pub any_is : (p : A → Bool) (l : List A) → list_any p l ≡ any p l
  any_is p [] = refl
  any_is p (a ∷ l) = ap (λ b. p a || b) (any_is p l)

  pub all_is : (p : A → Bool) (l : List A) → list_all p l ≡ all p l
  all_is p [] = refl
  all_is p (a ∷ l) = ap (λ b. p a && b) (all_is p l)

  pub sum_is : (f : A → ℕ) (l : List A) → sum_by f l ≡ sum f l
  sum_is f l = sym (is_sum_by (sum f) f refl (λ _ _. refl) l)

  one_more : (b : Bool) (a : A) (l : List A) → length (cond b (a ∷ l) l) ≡ one b + length l
  one_more true a l = omega arith
  one_more false a l = omega arith

  pub count_is : (p : A → Bool) (l : List A) → length (filter p l) ≡ count p l
  count_is p [] = refl
  count_is p (a ∷ l) = one_more (p a) a (filter p l) ∙ ap (λ n. one (p a) + n) (count_is p l)

-- a fold that asks each element, with no jump between them
module _ {A : Type 0} (p : A → Bool) where
  pub fold_or : (b : Bool) (l : List A) → fold (λ b a. b || p a) b l ≡ (b || any p l)
  fold_or b [] = sym (or-false b)
  fold_or b (a ∷ l) = fold_or (b || p a) l ∙ or_assoc b (p a) (any p l)

  pub fold_and : (b : Bool) (l : List A) → fold (λ b a. b && p a) b l ≡ (b && all p l)
  fold_and b [] = sym (and-true b)
  fold_and b (a ∷ l) = fold_and (b && p a) l ∙ and_assoc b (p a) (all p l)

-- `u8::from` of a yes or no
pub one_is : (b : Bool) → from_bool b ≡ one b
one_is true = refl
one_is false = refl

-- ---- an array's `map` by a closure that answers h and stays as it is
module _
    {F A B : Type 0} (g : Mut F (A × Unit {0}) B) (f : F) (h : A → B)
    (answers : (x : A) (y : B) (q : F) → Called g f (x, tt) y q → (q ≡ f) × (y ≡ h x)) where
  mapped_at :
      (xs : List A) (ys : List B) (i n : ℕ) → MapsFrom g f xs ys i n → (d : A) (e : B) (j : ℕ) → i ≤ j → j < i + n
      → get_or ys j e ≡ h (get_or xs j d)
  mapped_at xs ys i zero m d e j k l = absurd (omega arith)
  mapped_at xs ys i (suc n) (q, x, y, at_x, at_y, call, rest) d e j k l =
      go (ℕ_discrete j i)
      (λ (m : MapsFrom g f xs ys (i + 1) n) (a : i + 1 ≤ j) (b : j < i + 1 + n). mapped_at xs ys (i + 1) n m d e j a b)
    where
      same : (q ≡ f) × (y ≡ h x)
      same = answers x y q call

      go :
          Dec (j ≡ i) → (MapsFrom g f xs ys (i + 1) n → i + 1 ≤ j → j < i + 1 + n → get_or ys j e ≡ h (get_or xs j d))
          → get_or ys j e ≡ h (get_or xs j d)
      go (yes r) later = ap (λ (m : ℕ). get_or ys m e) r ∙ at_y.1 e ∙ same.1 ∙ ap h (sym (at_x.1 d) ∙ ap (λ (m : ℕ). get_or xs m d) (sym r))
      go (no r) later = later (subst (λ (p : F). MapsFrom g p xs ys (i + 1) n) same.0 rest) (omega arith) (omega arith)

  pub mapped : (xs : List A) (ys : List B) (n : ℕ) (d : A) → length xs ≡ n → IsMapOf g f xs ys n → ys ≡ map h xs
  mapped xs ys n d long m =
      ext_get_or (h d) ys (map h xs) (m.long ∙ sym (length-map xs h ∙ long))
      (λ j l. let k = m.long in mapped_at xs ys 0 n m.each d (h d) j (omega arith) (omega arith) ∙ sym (at_map h xs j d (h d) (omega arith)))
