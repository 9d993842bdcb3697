-- `with_calls` meets its contract. The loop's invariant: the sum holds the counts and the tiles of the calls so far. Assumes nothing.
use Rattle.std.proofs.Common.{◌≡◌, ℕ, ◌+◌, take}
use Rattle.hand.specs.Counts.{held}
use Rattle.checks.specs.Checks.{called}
use Rattle.checks.proofs.Added.{uses_of}
use Rattle.checks.proofs.with_calls.Given as goal

abbrev pub invariant-loop-m : goal.invariant-loop-m
invariant-loop-m l = (t : ℕ) → held l.sum t ≡ held l.fn.counts t + uses_of (take l.m-index (called l.fn.k)) t
