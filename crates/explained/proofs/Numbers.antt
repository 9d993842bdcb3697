-- Numbers below a bound, one by one. Assumes nothing.
use mathlib.Core.Path.{◌≡◌}
use Prim.Native.Nat.{ℕ, zero, suc, ◌≤◌}
use native.Mathlib.Omega.{arith}

-- a match on the numbers below k took none of their arms
abbrev NoArm : ℕ → ℕ → Type 0
NoArm zero n = Unit {0}
NoArm (suc k) n = NoArm k n × (n ≡ k → ⊥)

-- so the number is not below k
pub past : (k n : ℕ) → NoArm k n → k ≤ n
past zero n h = omega arith
past (suc k) n h = let before = past k n h.0 in omega (arith, h.1)

-- what holds of 0 to 7 and of every number from 8 on holds of every number
pub eight :
    (P : ℕ → Type 0) → P 0 → P 1 → P 2 → P 3 → P 4 → P 5 → P 6 → P 7
    → ((n : ℕ) → P (suc (suc (suc (suc (suc (suc (suc (suc n)))))))))
    → (n : ℕ) → P n
eight P a b c d e f g h rest zero = a
eight P a b c d e f g h rest (suc zero) = b
eight P a b c d e f g h rest (suc (suc zero)) = c
eight P a b c d e f g h rest (suc (suc (suc zero))) = d
eight P a b c d e f g h rest (suc (suc (suc (suc zero)))) = e
eight P a b c d e f g h rest (suc (suc (suc (suc (suc zero))))) = f
eight P a b c d e f g h rest (suc (suc (suc (suc (suc (suc zero)))))) = g
eight P a b c d e f g h rest (suc (suc (suc (suc (suc (suc (suc zero))))))) = h
eight P a b c d e f g h rest (suc (suc (suc (suc (suc (suc (suc (suc n)))))))) = rest n
