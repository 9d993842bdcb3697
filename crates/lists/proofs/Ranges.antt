-- The numbers from one up to another. Assumes nothing.
use mathlib.Core.Path.{◌≡◌, ap, ap₂, ◌∙◌}
use mathlib.Core.Logic.{⊎_elim}
use mathlib.Core.List.Memᴰ
use mathlib.Core.List.{List, ◌∷◌, ◌++◌, Memᴰ}
use Prim.Native.Nat.{ℕ, zero, suc, ◌+◌, ◌<◌, ◌≤◌}
use native.Mathlib.Decide.{ℕ_discrete}
use native.Mathlib.Omega.{arith}
use Rattle.lists.specs.Fold.{up_from}

pub up_from_split_holds : (a b s : ℕ) → up_from (a + b) s ≡ up_from a s ++ up_from b (a + s)
up_from_split_holds zero b s =
    let e : zero + b ≡ b = omega arith in
    let f : s ≡ zero + s = omega arith in
    ap₂ up_from e f
up_from_split_holds (suc a) b s =
    let e : suc a + b ≡ suc (a + b) = omega arith in
    let f : a + suc s ≡ suc a + s = omega arith in
    ap (λ (n : ℕ). up_from n s) e ∙ ap (λ (r : List ℕ). s ∷ r) (up_from_split_holds a b (suc s) ∙ ap (λ (n : ℕ). up_from a (suc s) ++ up_from b n) f)

pub in_up_from_holds : (n a t : ℕ) → Memᴰ t (up_from n a) → (a ≤ t) × (t < a + n)
in_up_from_holds zero a t i = absurd (Memᴰ.not-nil i)
in_up_from_holds (suc n) a t i =
    ⊎_elim {C = (a ≤ t) × (t < a + suc n)} (λ e. (omega arith, omega arith))
    (λ j. let r = in_up_from_holds n (suc a) t j in let h = r.0 in let k = r.1 in (omega arith, omega arith)) (Memᴰ.cases_cons i)

pub up_from_in_holds : (n a t : ℕ) → a ≤ t → t < a + n → Memᴰ t (up_from n a)
up_from_in_holds zero a t h k = absurd (omega arith)
up_from_in_holds (suc n) a t h k = go (ℕ_discrete t a) (up_from_in_holds n (suc a) t)
  where
    go : Dec (t ≡ a) → (suc a ≤ t → t < suc a + n → Memᴰ t (up_from n (suc a))) → Memᴰ t (a ∷ up_from n (suc a))
    go (yes e) later = Memᴰ.head e
    go (no f) later = Memᴰ.tail (later (omega arith) (omega arith))
