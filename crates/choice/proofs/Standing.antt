-- What stands at a number of a list: a member, what is picked there, and of a mapped list the value of what stands there. Assumes nothing.
use mathlib.Core.Path.{◌≡◌, refl, sym, ap}
use mathlib.Core.List.{List, [], ◌∷◌, map, Memᴰ}
use Prim.Native.Nat.{ℕ, zero, suc}
use Rattle.records.specs.Pick.{pick_at}
use Rattle.choice.specs.Standing.{StandsAt}

module _ {A : Type 0} where
  pub stands_mem : (x : A) (i : ℕ) (l : List A) → StandsAt x i l → Memᴰ x l
  stands_mem x i [] s = absurd s
  stands_mem x zero (a ∷ l) s = Memᴰ.head s
  stands_mem x (suc i) (a ∷ l) s = Memᴰ.tail (stands_mem x i l s)

  -- a member stands at some number
  pub mem_stands : {x : A} {l : List A} → Memᴰ x l → (i : ℕ) × StandsAt x i l
  mem_stands (Memᴰ.head e) = (zero, e)
  mem_stands (Memᴰ.tail j) = let r = mem_stands j in (suc r.0, r.1)

module _ {A B : Type 0} where
  pub stands_picked : (z : B) (f : A → B) (x : A) (i : ℕ) (l : List A) → StandsAt x i l → pick_at z f l i ≡ f x
  stands_picked z f x i [] s = absurd s
  stands_picked z f x zero (a ∷ l) s = ap f (sym s)
  stands_picked z f x (suc i) (a ∷ l) s = stands_picked z f x i l s

  -- what stands in a mapped list is the value of what stands at that number in the list
  pub stands_of_map : (f : A → B) (y : B) (i : ℕ) (l : List A) → StandsAt y i (map f l) → (x : A) × StandsAt x i l × (y ≡ f x)
  stands_of_map f y i [] s = absurd s
  stands_of_map f y zero (a ∷ l) s = (a, refl, s)
  stands_of_map f y (suc i) (a ∷ l) s = stands_of_map f y i l s

  pub stands_map : (f : A → B) (x : A) (i : ℕ) (l : List A) → StandsAt x i l → StandsAt (f x) i (map f l)
  stands_map f x i [] s = s
  stands_map f x zero (a ∷ l) s = ap f s
  stands_map f x (suc i) (a ∷ l) s = stands_map f x i l s
