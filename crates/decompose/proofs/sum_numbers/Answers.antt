use Rattle.std.proofs.Common.{◌+◌, arith}
use Rattle.hand.specs.Counts.{held}
use Rattle.decompose.proofs.Places.{sum_first, sum_on, sum_last}
use Rattle.decompose.proofs.sum_numbers.Goals as goal

pub loop-t-init : goal.loop-t-init
loop-t-init c = sum_first _

pub loop-t-preserved : goal.loop-t-preserved
loop-t-preserved c =
    let l = c.loop-t in
    let x = c.from in
    let y = c.from-in-loop-t in
    sum_on (held c.args.counts.now) l.sum l.t x.result y.result l.invariant c.loop-t-test.true x.ensures y.ensures
    (omega (arith, c.fits-counts (l.t + 1))) (omega (arith, c.fits-counts (l.t + 2)))

pub returns : goal.returns
returns c = sum_last _ c.loop-t.sum c.loop-t.t c.loop-t.invariant c.loop-t-test.false
