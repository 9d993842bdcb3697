-- `booking::settle` meets its contract. Assumes nothing.
use mathlib.Core.Path.{◌≡◌, ap}
use mathlib.Core.Bool.{Bool, true, false, ◌&&◌}
use Prim.Native.Nat.{ℕ, ◌+◌, ◌≤◌, ◌<◌}
use native.Mathlib.Omega.{arith}
use lib.Dec.{eqb}
use borrow.Author.Tests.{eqb-false}
use Rattle.lists.specs.Fold.{one}
use Rattle.booking.specs.Booking.{raising}
use Rattle.booking.proofs.settle.Goals as goal

-- the counter, which is a byte, does not pass 255
counts : (raises : Bool) (n : ℕ) → n < 256 → (raises && eqb n 255) ≡ false → n + one raises ≤ 255
counts true n h e = let ne = eqb-false n 255 e in omega arith
counts false n h e = omega arith

pub returns-then-x-b : goal.returns-then-x-b
unfolding raising
returns-then-x-b c = rw c.if-x-b.true c.refuse.ensures

pub settle-book-requires : goal.settle-book-requires
settle-book-requires c =
    record { room = c.requires.0; small = c.requires.1; counts = counts c.args.x.raises c.args.b.counter c.struct_known-1.given.1.1.1.0.fits c.if-x-b.false }

pub returns : goal.returns
unfolding raising
returns c = rw c.if-x-b.false (ap (λ b. record { number = 0; book = b }) c.settle-book.ensures)
