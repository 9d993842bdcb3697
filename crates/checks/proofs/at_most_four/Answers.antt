use Rattle.std.proofs.Common.{◌∙◌}
use Rattle.checks.proofs.Turns.{test_next, test_end}
use Rattle.checks.proofs.at_most_four.Invariants.{few_of}
use Rattle.checks.proofs.at_most_four.Goals as goal

pub loop-n-preserved : goal.loop-n-preserved
loop-n-preserved c =
    let l = c.loop-n in
    test_next (few_of c.args.counts.now) l.good l.n-index 34 c.loop-n-test.true ∙ l.invariant

pub returns : goal.returns
returns c =
    let l = c.loop-n in
    test_end (few_of c.args.counts.now) l.good l.n-index 34 c.loop-n-test.false ∙ l.invariant
