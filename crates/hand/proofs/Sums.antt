-- The numbers from one up to another, taken one at a time, and sums over them. Assumes nothing.
use mathlib.Core.Path.{◌≡◌, ap, ◌∙◌}
use mathlib.Core.List.{[], ◌∷◌}
use Prim.Native.Nat.{ℕ, suc, ◌+◌, ◌-◌, ◌<◌, ◌≤◌}
use native.Mathlib.Omega.{arith}
use Rattle.lists.specs.Fold.{sum, up_from}

-- the numbers from a on, below b: the first of them and the others, or none
pub up_from_next_holds : (a b : ℕ) → a < b → up_from (b - a) a ≡ a ∷ up_from (b - (a + 1)) (a + 1)
up_from_next_holds a b h =
    let e : b - a ≡ suc (b - (a + 1)) = omega arith in
    let f : suc a ≡ a + 1 = omega arith in
    ap (λ (n : ℕ). up_from n a) e ∙ ap (λ (m : ℕ). a ∷ up_from (b - (a + 1)) m) f

pub up_from_end_holds : (a b : ℕ) → b ≤ a → up_from (b - a) a ≡ []
up_from_end_holds a b h = let e : b - a ≡ 0 = omega arith in ap (λ (n : ℕ). up_from n a) e

-- their sum
pub sum_next : (f : ℕ → ℕ) (a b : ℕ) → a < b → sum f (up_from (b - a) a) ≡ f a + sum f (up_from (b - (a + 1)) (a + 1))
sum_next f a b h = ap (sum f) (up_from_next_holds a b h)

pub sum_end : (f : ℕ → ℕ) (a b : ℕ) → b ≤ a → sum f (up_from (b - a) a) ≡ 0
sum_end f a b h = ap (sum f) (up_from_end_holds a b h)
