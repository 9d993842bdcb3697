-- What rounding adds to a sum of fu: it never takes away, reaches the rounded fu, and adds less than 10, in an open hand at most 10.
-- Assumes nothing.
use mathlib.Core.Path.{◌≡◌}
use mathlib.Core.Bool.{Bool, true, false}
use Prim.Native.Nat.{ℕ, ◌+◌, ◌<◌, ◌≤◌}
use native.Mathlib.Omega.{arith}
use Rattle.fu.specs.Fu.{round_up_to10, at_least30}
use Rattle.explained.specs.Breakdown.{rounding_fu}

pub rounded_up : (opened : Bool) (n : ℕ) → n ≤ at_least30 opened (round_up_to10 n)
rounded_up true n = omega arith
rounded_up false n = omega arith

pub rounding_reaches : (opened : Bool) (n : ℕ) → n + rounding_fu opened n ≡ at_least30 opened (round_up_to10 n)
rounding_reaches true n = omega arith
rounding_reaches false n = omega arith

pub rounding_closed : (n : ℕ) → rounding_fu false n < 10
rounding_closed n = omega arith

pub rounding_open : (n : ℕ) → 20 ≤ n → rounding_fu true n ≤ 10
rounding_open n h = omega arith
