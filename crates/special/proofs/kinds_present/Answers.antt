use Rattle.std.proofs.Common.{arith, ◌∙◌}
use Rattle.hand.specs.Counts.{held}
use Rattle.special.proofs.Words.{word_end, word_more, word_first, word_small, there_bit, there_le}
use Rattle.special.proofs.kinds_present.Goals as goal

pub loop-t-init : goal.loop-t-init
loop-t-init c = word_end (held c.args.counts.now)

pub overflow_mul-word : goal.overflow_mul-word
overflow_mul-word c =
    let l = c.loop-t in
    omega (arith, word_small (held c.args.counts.now) l.t l.word l.invariant)

pub overflow_add-word : goal.overflow_add-word
overflow_add-word c =
    let l = c.loop-t in
    omega (arith, word_small (held c.args.counts.now) l.t l.word l.invariant, there_le _ _ c.from.ensures)

pub loop-t-preserved : goal.loop-t-preserved
loop-t-preserved c =
    let l = c.loop-t in
    let h = held c.args.counts.now in
    word_more h l.t l.word c.from.result c.loop-t-test.true l.auto.t l.invariant (c.from.ensures ∙ there_bit _)

pub returns : goal.returns
returns c =
    let l = c.loop-t in
    word_first (held c.args.counts.now) l.t l.word c.loop-t-test.false l.invariant
