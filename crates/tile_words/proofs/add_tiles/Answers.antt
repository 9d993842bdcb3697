use Rattle.hand.specs.Counts.{held}
use Rattle.tile_words.specs.Words.{char_before}
use Rattle.std.proofs.Common.{◌∙◌}
use Rattle.tile_words.proofs.Adding.{add_turn, add_end}
use Rattle.tile_words.proofs.add_tiles.Goals as goal

pub loop-i-preserved : goal.loop-i-preserved
loop-i-preserved c =
    let l = c.loop-i in
    let here = c.add_tile_at.ensures in
    (here.0, λ u h. add_turn c.args.word.now l.i c.loop-i-test.true u (held l.counts u) _ (here.1 u h) ∙ l.invariant.1 u h)

pub returns : goal.returns
returns c =
    let w = c.args.word.now in
    let l = c.loop-i in
    (l.invariant.0, λ u h. add_end w l.i c.loop-i-test.false (char_before w l.i) u (held l.counts u) ∙ l.invariant.1 u h)
