-- `FairRemaining::is_empty` meets its contract: no tile is left exactly where both words are 0. Assumes nothing.
use Rattle.search.specs.Remaining.{split}
use Rattle.search.proofs.Left.{none_words}
use Rattle.search.proofs.remaining.FairRemaining.is_empty.Goals as goal

pub returns : goal.returns
returns c = none_words (split c.args.self.tiles) c.args.self.fair
