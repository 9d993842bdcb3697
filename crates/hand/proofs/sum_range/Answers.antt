use Rattle.std.proofs.Common.{arith, rules}
use Rattle.hand.specs.Counts.{held}
use Rattle.hand.proofs.Sums.{sum_next, sum_end}
use Rattle.hand.proofs.sum_range.Goals as goal

pub loop-i-init : goal.loop-i-init
loop-i-init c = (omega arith, omega arith)

pub overflow_add-sum : goal.overflow_add-sum
overflow_add-sum c =
    let l = c.loop-i in
    omega (arith, l.invariant.1, c.from-sum.ensures, c.fits-counts l.i)

pub loop-i-preserved : goal.loop-i-preserved
loop-i-preserved c =
    let l = c.loop-i in
    let a = c.args in (
      omega (arith, l.invariant.0, c.from-sum.ensures, sum_next (held a.counts.now) l.i a.to c.loop-i-test.true),
      omega (arith, l.invariant.1, c.from-sum.ensures, c.fits-counts l.i),
    )

pub returns : goal.returns
returns c =
    let l = c.loop-i in
    let a = c.args in
    (omega (arith, l.invariant.0, sum_end (held a.counts.now) l.i a.to c.loop-i-test.false), omega (arith, l.invariant.1))
