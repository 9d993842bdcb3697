-- `LowestRemaining::has_triplet` meets its contract: the lowest place is the count of the tile. Assumes nothing.
use Rattle.search.specs.Remaining.{split}
use Rattle.search.proofs.Left.{triplet_word}
use Rattle.search.proofs.remaining.LowestRemaining.has_triplet.Goals as goal

pub returns : goal.returns
returns c = triplet_word (split c.args.self.tiles) c.args.self.at_lowest
