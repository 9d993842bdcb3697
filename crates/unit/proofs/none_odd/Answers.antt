use Rattle.std.proofs.Common.{◌∙◌}
use Rattle.hand.specs.Counts.{held}
use Rattle.special.proofs.Special.{even}
use Rattle.checks.proofs.Turns.{test_next, test_end}
use Rattle.unit.proofs.none_odd.Goals as goal

pub loop-n-preserved : goal.loop-n-preserved
loop-n-preserved c =
    let l = c.loop-n in
    test_next (even (held c.args.counts.now)) l.good l.n-index 34 c.loop-n-test.true ∙ l.invariant

pub returns : goal.returns
returns c =
    let l = c.loop-n in
    test_end (even (held c.args.counts.now)) l.good l.n-index 34 c.loop-n-test.false ∙ l.invariant
