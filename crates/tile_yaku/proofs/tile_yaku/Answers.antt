-- `tile_yaku` meets its contract: each answer by the sorts of tiles there are. Assumes nothing.
use Rattle.hand.specs.Counts.{held}
use Rattle.tile_yaku.proofs.Questions.{chinitsu_is, answers}
use Rattle.tile_yaku.proofs.tile_yaku.Goals as goal

pub check_chuuren_poutou-requires : goal.check_chuuren_poutou-requires
check_chuuren_poutou-requires c =
    let s = c.sorts_of-simple in
    let f = c.check_flush-flush in
    chinitsu_is (held c.args.counts.now) s.result s.ensures f.result f.ensures

pub returns : goal.returns
returns c =
    let a = c.args in
    let s = c.sorts_of-simple in
    let f = c.check_flush-flush in
    let g = c.check_chuuren_poutou in
    let w = c.is_pure_wait in
    answers (held a.counts.now) s.result s.ensures f.result f.ensures a.t g.result w.result g.ensures w.ensures
