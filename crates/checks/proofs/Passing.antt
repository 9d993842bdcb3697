-- One check: what it answers where it passes and where it does not. Assumes nothing.
use mathlib.Core.Path.{◌≡◌}
use mathlib.Core.Bool.{Bool, true, false}
use Prim.Native.Nat.{ℕ}
use Rattle.checks.specs.Checks.{check}

pub pass : (b : Bool) (n next : ℕ) → b ≡ true → check b n next ≡ next
unfolding check
pass b n next e = rw e

pub refuse : (b : Bool) (n next : ℕ) → b ≡ false → check b n next ≡ n
unfolding check
refuse b n next e = rw e
