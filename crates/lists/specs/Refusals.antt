-- Checks that are made one after the other, each with the number that refuses where it fails. These are definitions.
use Rattle.std.specs.Prelude.{◌≡◌, ◌⊎◌, List, [], ◌∷◌, ℕ}

-- a check: its number, and what it asks
pub record Check : Type 1 where
  pub number : ℕ
  pub asks : Type 0

-- refused with n unless a holds
abbrev pub unless : ℕ → Type 0 → Check
unless n a = record { number = n; asks = a }

-- the answer n to these checks: the number of the first that fails, or 0 where none does
abbrev pub Answers : List Check → ℕ → Type 0
Answers [] n = n ≡ 0
Answers (c ∷ cs) n = (c.asks × Answers cs n) ⊎ ((c.asks → ⊥) × (n ≡ c.number))
