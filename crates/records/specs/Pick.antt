-- Picking an element of a list by its number. This is a definition.
use Rattle.std.specs.Prelude.{List, [], ◌∷◌, ℕ, zero, suc}

module _ {A B : Type 0} where
  -- f of the element at the number n, counted from 0; z where there are not more than n
  abbrev pub pick_at : B → (A → B) → List A → ℕ → B
  pick_at z f [] n = z
  pick_at z f (a ∷ l) zero = f a
  pick_at z f (a ∷ l) (suc n) = pick_at z f l n
