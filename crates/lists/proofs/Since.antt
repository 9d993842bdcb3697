-- A number to which each element of a list adds, and which some elements bring back to 0: it is what the elements after the last of those add. Assumes nothing.
use mathlib.Core.Path.{◌≡◌, refl, subst}
use mathlib.Core.Bool.{Bool, true, false, cond, ◌||◌}
use mathlib.Core.List.{List, [], ◌∷◌}
use Prim.Native.Nat.{ℕ, ◌+◌}
use native.Mathlib.Nat.{zero-add}
use native.Mathlib.Omega.{arith}
use lib.Dec.{T}
use Rattle.lists.specs.Fold.{any, sum, after_last}

neither : (a b : Bool) → (a || b) ≡ false → (a ≡ false) × (b ≡ false)
neither true b e = absurd (subst (λ x. T x) e tt)
neither false b e = (refl, e)

-- where no element passes the test
module _ {A : Type 0} (p : A → Bool) where
  after_none : (l : List A) → any p l ≡ false → after_last p l ≡ l
  after_none [] e = refl
  after_none (a ∷ l) e = rw ((neither (p a) (any p l) e).1, (neither (p a) (any p l) e).0)

pub after_never : {A : Type 0} (l : List A) → after_last (λ a. false) l ≡ l
after_never l = after_none (λ a. false) l (none l)
  where
    none : {A : Type 0} (l : List A) → any {A = A} (λ a. false) l ≡ false
    none [] = refl
    none (a ∷ l) = none l

-- p passes at those that bring the number back; f is what each of the others adds
module _ {A : Type 0} (p : A → Bool) (f : A → ℕ) where
  -- the number after a list, from n
  abbrev pub since : ℕ → List A → ℕ
  since n l = cond (any p l) 0 n + sum f (after_last p l)

  pub since_next : (n : ℕ) (a : A) (l : List A) → since (cond (p a) 0 (n + f a)) l ≡ since n (a ∷ l)
  since_next n a l = by_cases (any p l) (p a) refl refl
    where
      by_cases : (s t : Bool) → any p l ≡ s → p a ≡ t → since (cond (p a) 0 (n + f a)) l ≡ since n (a ∷ l)
      by_cases true true es et = rw (es, et)
      by_cases true false es et = rw (es, et)
      by_cases false true es et = rw (after_none p l es, es, et)
      by_cases false false es et = rw (after_none p l es, es, et) (omega arith)

  -- from 0
  pub since_zero : (l : List A) → since 0 l ≡ sum f (after_last p l)
  since_zero l = go (any p l) (sum f (after_last p l))
    where
      go : (b : Bool) (n : ℕ) → cond b 0 0 + n ≡ n
      go true n = zero-add n
      go false n = zero-add n
