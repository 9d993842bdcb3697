-- Checks that are made one after the other: what makes up an answer to them, and that there is one answer only. Assumes nothing.
use mathlib.Core.Path.{◌≡◌, refl, sym, subst, ◌∙◌}
use mathlib.Core.Logic.{◌↔◌, ◌⊎◌, inl, inr}
use mathlib.Core.Bool.{Bool, true, false, ◌&&◌}
use mathlib.Core.List.{List, [], ◌∷◌, ◌++◌}
use Prim.Native.Nat.{ℕ}
use native.Mathlib.Decide.{ℕ_discrete}
use native.Mathlib.Omega.{arith}
use lib.Dec.{T, ltb, ltb→lt}
use Rattle.lists.specs.Refusals.{Check, Answers}
use Rattle.lists.proofs.Finite.{and_left, and_right}
use Rattle.checks.specs.Checks.{check}

-- n is the answer to one check, which asks A, and to those after it, which are made where it passes and say R
pub next_check :
    (b : Bool) (m next : ℕ) {n : ℕ} {A R : Type 0} → n ≡ check b m next → (b ≡ true → A) → (b ≡ false → A → ⊥) → (A → n ≡ next → R)
    → (A × R) ⊎ ((A → ⊥) × (n ≡ m))
unfolding check
next_check true m next e f g r = inl (f refl, r (f refl) e)
next_check false m next e f g r = inr (g refl, e)

-- each refuses with a number above 0
abbrev pub numbered : List Check → Bool
numbered [] = true
numbered (c ∷ cs) = ltb 0 c.number && numbered cs

above_zero : (m : ℕ) (b : Bool) → T (ltb 0 m && b) → 0 ≡ m → ⊥
above_zero m b t e = let h = ltb→lt 0 m (and_left (ltb 0 m) b t) in omega arith

-- ---- all pass
-- what they ask, together
abbrev pub Asked : List Check → Type 0
Asked [] = Unit {0}
Asked (c ∷ cs) = c.asks × Asked cs

pub all_pass : (xs : List Check) → T (numbered xs) → Answers xs 0 → Asked xs
all_pass [] h a = tt
all_pass (c ∷ xs) h (inl a) = (a.0, all_pass xs (and_right (ltb 0 c.number) _ h) a.1)
all_pass (c ∷ xs) h (inr a) = absurd (above_zero c.number (numbered xs) h a.1)

pub pass_all : (xs : List Check) → Asked xs → Answers xs 0
pass_all [] a = refl
pass_all (c ∷ xs) a = inl (a.0, pass_all xs a.1)

-- ---- more follow
pub passed_on : (xs ys : List Check) (n : ℕ) → Asked xs → Answers ys n → Answers (xs ++ ys) n
passed_on [] ys n a b = b
passed_on (c ∷ xs) ys n a b = inl (a.0, passed_on xs ys n a.1 b)

-- one refuses, whatever follows
refused_at : (xs ys : List Check) (n : ℕ) → (n ≡ 0 → ⊥) → Answers xs n → Answers (xs ++ ys) n
refused_at [] ys n z a = absurd (z a)
refused_at (c ∷ xs) ys n z (inl a) = inl (a.0, refused_at xs ys n z a.1)
refused_at (c ∷ xs) ys n z (inr a) = inr a

-- f is the answer to the first checks; n is f where one of them refuses, and else the answer to those that follow
pub then_checks :
    (xs ys : List Check) → T (numbered xs) → (f n : ℕ) → Answers xs f → ((f ≡ 0 → ⊥) → n ≡ f) → (f ≡ 0 → Answers ys n)
    → Answers (xs ++ ys) n
then_checks xs ys h f n a g l = go (ℕ_discrete f 0)
  where
    go : Dec (f ≡ 0) → Answers (xs ++ ys) n
    go (yes z) = passed_on xs ys n (all_pass xs h (subst (Answers xs) z a)) (l z)
    go (no z) = subst (Answers (xs ++ ys)) (sym (g z)) (refused_at xs ys f z a)

-- one answer only
same_answer : (xs : List Check) (n m : ℕ) → Answers xs n → Answers xs m → n ≡ m
same_answer [] n m a b = a ∙ sym b
same_answer (c ∷ xs) n m (inl a) (inl b) = same_answer xs n m a.1 b.1
same_answer (c ∷ xs) n m (inl a) (inr b) = absurd (b.0 a.0)
same_answer (c ∷ xs) n m (inr a) (inl b) = absurd (a.0 b.0)
same_answer (c ∷ xs) n m (inr a) (inr b) = a.1 ∙ sym b.1

-- answered exactly where the checks before it pass and this one fails, or 0 where all pass
pub exactly : (xs : List Check) (f : ℕ) → Answers xs f → (n : ℕ) → (f ≡ n) ↔ Answers xs n
exactly xs f a n = (λ e. subst (Answers xs) e a, same_answer xs f n a)
