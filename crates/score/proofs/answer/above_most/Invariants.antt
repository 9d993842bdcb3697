-- `above_most` is safe and ends. The invariant: no tile behind the last is looked at.
use Rattle.std.proofs.Common.{◌≤◌, ◌-◌}
use Rattle.score.proofs.answer.above_most.Given as goal

abbrev pub invariant-loop-t : goal.invariant-loop-t
invariant-loop-t l = l.t ≤ 34

abbrev pub decreases-loop-t : goal.decreases-loop-t
decreases-loop-t l = 34 - l.t
