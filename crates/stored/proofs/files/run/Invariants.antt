-- What a run has counted so far comes of calls at records.
use Rattle.stored.specs.Runs.{Ran}
use Rattle.stored.proofs.files.run.Given as goal

abbrev pub invariant-loop : goal.invariant-loop
invariant-loop g l = goal.P-IsAlwaysCallable g l.play × Ran g.P.FnMut l.fn.play l.play l.tally
