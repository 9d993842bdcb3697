use Rattle.std.proofs.Common.{sym, ◌∙◌, arith}
use Rattle.tile_words.proofs.Places.{good_next, good_stop, good_end}
use Rattle.tile_words.proofs.good_length.Goals as goal

pub returns-then-not-is_good_at-clause-good : goal.returns-then-not-is_good_at-clause-good
returns-then-not-is_good_at-clause-good c =
    let l = c.loop-i in
    good_stop c.args.word.now l.i c.loop-i-test.true (sym c.is_good_at.ensures ∙ c.if-not-is_good_at.true) ∙ l.invariant

pub loop-i-preserved : goal.loop-i-preserved
loop-i-preserved c =
    let l = c.loop-i in
    good_next c.args.word.now l.i c.loop-i-test.true (sym c.is_good_at.ensures ∙ c.if-not-is_good_at.false) ∙ l.invariant

pub returns-clause-good : goal.returns-clause-good
returns-clause-good c =
    let l = c.loop-i in
    let rest = good_end c.args.word.now l.i c.loop-i-test.false in
    let all = l.invariant in
    omega arith
