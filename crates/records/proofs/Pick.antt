-- Picking by number: past the end of the list, and only there, none is found. Assumes nothing.
use mathlib.Core.Path.{◌≡◌, refl}
use mathlib.Core.List.{List, [], ◌∷◌, map}
use Prim.Native.Nat.{ℕ, zero, suc, ◌≤◌}
use native.Mathlib.Omega.{arith}
use lib.ListN.{length}
use Rattle.records.specs.Pick.{pick_at}

module _ {A B : Type 0} (z : B) (f : A → B) where
  pub pick_past : (l : List A) (n : ℕ) → length l ≤ n → pick_at z f l n ≡ z
  pick_past [] n h = refl
  pick_past (a ∷ l) zero h = absurd (omega arith)
  pick_past (a ∷ l) (suc n) h = pick_past l n (omega arith)

  pub past_end : (l : List A) (n : ℕ) → ((a : A) → pick_at z f l n ≡ f a → ⊥) → length l ≤ n
  past_end [] n h = omega arith
  past_end (a ∷ l) zero h = absurd (h a refl)
  past_end (a ∷ l) (suc n) h = let m = past_end l n h in omega arith

-- picking in a mapped list
pub pick_map : {A B C : Type 0} (z : C) (f : B → C) (g : A → B) (l : List A) (n : ℕ) → pick_at z f (map g l) n ≡ pick_at z (λ a. f (g a)) l n
pick_map z f g [] n = refl
pick_map z f g (a ∷ l) zero = refl
pick_map z f g (a ∷ l) (suc n) = pick_map z f g l n
