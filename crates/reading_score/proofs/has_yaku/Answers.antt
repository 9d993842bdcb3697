-- `has_yaku` meets its contract: some tally is above 0. Assumes nothing.
use borrow.Author.Rules.{rules}
use Rattle.reading_score.proofs.has_yaku.Goals as goal

pub returns : goal.returns
returns c = simp c.any_above_zero.ensures
