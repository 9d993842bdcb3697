use Rattle.std.proofs.Common.{arith}
use Rattle.tile_words.specs.Words.{char_before}
use Rattle.tile_words.proofs.Places.{is_tile, one_named, count_here, count_end}
use Rattle.tile_words.proofs.named_in.Goals as goal

pub loop-i-preserved : goal.loop-i-preserved
loop-i-preserved c =
    let l = c.loop-i in
    let w = c.args.word.now in
    let tile = one_named _ _ _ c.is_some.ensures c.tile_at.ensures in
    let n = c.from-n.ensures in
    let here = count_here w l.i c.loop-i-test.true (char_before w l.i) is_tile in
    (omega arith, omega arith)

pub returns : goal.returns
returns c =
    let l = c.loop-i in
    let w = c.args.word.now in
    let n = count_end w l.i c.loop-i-test.false (char_before w l.i) is_tile in
    let e = l.invariant.1 in
    omega arith
