-- `decompose::sum_numbers` meets its contract. The loop's invariant is `Summed`. Assumes nothing.
use Rattle.std.proofs.Common.{◌-◌}
use Rattle.hand.specs.Counts.{held}
use Rattle.decompose.proofs.Places.{Summed}
use Rattle.decompose.proofs.sum_numbers.Given as goal

abbrev pub invariant-loop-t : goal.invariant-loop-t
invariant-loop-t l = Summed (held l.counts) l.sum l.t

abbrev pub decreases-loop-t : goal.decreases-loop-t
decreases-loop-t l = 33 - l.t
