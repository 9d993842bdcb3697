use Rattle.std.proofs.Common.{arith}
use Rattle.hand.specs.Counts.{held}
use Rattle.tile_yaku.proofs.Questions.{flags_on, flags_end}
use Rattle.tile_yaku.proofs.sorts_of.Goals as goal

pub loop-t-preserved : goal.loop-t-preserved
loop-t-preserved c =
    let l = c.loop-t in
    flags_on (held c.args.counts.now) l.t l.invariant _ _ _ _ c.is_simple.ensures c.is_terminal.ensures c.is_honor.ensures c.is_green.ensures

pub returns : goal.returns
returns c =
    let l = c.loop-t in
    flags_end (held c.args.counts.now) l.t c.loop-t-test.false (omega arith) l.invariant
