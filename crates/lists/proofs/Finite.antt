-- Tests over a finite range that antt computes, and the laws that turn a passed test into the fact at each entry.
-- Assumes nothing.
use mathlib.Core.Path.{◌≡◌, refl, sym, ap, ◌∙◌, subst}
use mathlib.Core.Bool.{Bool, true, false, ◌&&◌, ◌||◌, not, cond, beq}
use Prim.Native.Nat.{ℕ, zero, suc, ◌<◌, ◌≤◌}
use native.Mathlib.Nat.{not-suc-le-zero}
use native.Mathlib.Decide.{ℕ_discrete}
use native.Mathlib.Omega.{arith}
use lib.Dec.{T, eqb, leb, leb-zero, leb-suc-suc, eqb-suc-zero}
use Rattle.lists.specs.Fold.{all_below, one}

pub and_left : (a b : Bool) → T (a && b) → T a
and_left true b t = tt
and_left false b t = t

pub and_right : (a b : Bool) → T (a && b) → T b
and_right true b t = t
and_right false b t = absurd t

at_step : (p : ℕ → Bool) (n k : ℕ) → T (p n) → (k < n → T (p k)) → k < suc n → Dec (k ≡ n) → T (p k)
at_step p n k t r h (yes e) = subst (λ (m : ℕ). T (p m)) (sym e) t
at_step p n k t r h (no e) = r (omega arith)

pub at : (n : ℕ) (p : ℕ → Bool) → T (all_below n p) → (k : ℕ) → k < n → T (p k)
at zero p t k h = absurd (not-suc-le-zero h)
at (suc n) p t k h =
    at_step p n k (and_left (p n) (all_below n p) t) (at n p (and_right (p n) (all_below n p) t) k) h (ℕ_discrete k n)

-- a fact of each of the numbers below 4
pub below_four : (P : ℕ → Type 0) → P 0 → P 1 → P 2 → P 3 → (n : ℕ) → n < 4 → P n
below_four P p₀ p₁ p₂ p₃ zero h = p₀
below_four P p₀ p₁ p₂ p₃ (suc zero) h = p₁
below_four P p₀ p₁ p₂ p₃ (suc (suc zero)) h = p₂
below_four P p₀ p₁ p₂ p₃ (suc (suc (suc zero))) h = p₃
below_four P p₀ p₁ p₂ p₃ (suc (suc (suc (suc n)))) h = absurd (omega arith)

pub beq→eq : (a b : Bool) → T (beq a b) → a ≡ b
beq→eq true true t = refl
beq→eq true false t = absurd t
beq→eq false true t = absurd t
beq→eq false false t = refl

pub T→true : (b : Bool) → T b → b ≡ true
T→true true t = refl
T→true false t = absurd t

pub true→t : (b : Bool) → b ≡ true → T b
true→t b e = subst T (sym e) tt

pub ¬T→false : (b : Bool) → (T b → ⊥) → b ≡ false
¬T→false true f = absurd (f tt)
¬T→false false f = refl

-- two tests that pass together
pub T-eq : (a b : Bool) → (T a → T b) → (T b → T a) → a ≡ b
T-eq true true f g = refl
T-eq true false f g = absurd (f tt)
T-eq false true f g = absurd (g tt)
T-eq false false f g = refl

pub and_both : (a b : Bool) → T a → T b → T (a && b)
and_both true b s t = t
and_both false b s t = s

pub or_elim : {C : Type 0} (a b : Bool) → T (a || b) → (T a → C) → (T b → C) → C
or_elim true b t f g = f tt
or_elim false b t f g = g t

pub or_left : (a b : Bool) → T a → T (a || b)
or_left true b t = tt
or_left false b t = absurd t

pub or_right : (a b : Bool) → T b → T (a || b)
or_right true b t = tt
or_right false b t = t

-- a test under a condition that holds
pub or_skip : (a b : Bool) → T a → T (not a || b) → T b
or_skip true b h t = t
or_skip false b h t = absurd h

-- a part asked only where the condition holds
pub and_cong : (b : Bool) {x y : Bool} → (T b → x ≡ y) → (b && x) ≡ (b && y)
and_cong true f = f tt
and_cong false f = refl

-- a test that passes at each number below n
pub all_below_intro_holds : (n : ℕ) (p : ℕ → Bool) → ((k : ℕ) → k < n → T (p k)) → T (all_below n p)
all_below_intro_holds zero p h = tt
all_below_intro_holds (suc n) p h = and_both (p n) (all_below n p) (h n (omega arith)) (all_below_intro_holds n p (λ k i. h k (omega arith)))

-- numbers that a test chooses
pub one_le : (b : Bool) → one b ≤ 1
one_le true = omega arith
one_le false = omega arith

pub cond_le : (b : Bool) (x y n : ℕ) → x ≤ n → y ≤ n → cond b x y ≤ n
cond_le true x y n h k = h
cond_le false x y n h k = k

-- there is one, or there is none
pub leb_one : (n : ℕ) → leb 1 n ≡ not (eqb n 0)
leb_one zero = refl
leb_one (suc n) = leb-suc-suc 0 n ∙ leb-zero n ∙ sym (ap not (eqb-suc-zero n))
