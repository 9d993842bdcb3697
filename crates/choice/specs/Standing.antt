-- What stands at a number of a list. This is a definition.
use Rattle.std.specs.Prelude.{◌≡◌, List, [], ◌∷◌, ℕ, zero, suc}

module _ {A : Type 0} where
  -- x stands at the number i of the list, counted from 0
  abbrev pub StandsAt : A → ℕ → List A → Type 0
  StandsAt x i [] = ⊥
  StandsAt x zero (a ∷ l) = x ≡ a
  StandsAt x (suc i) (a ∷ l) = StandsAt x i l
