-- `LowestRemaining::has_sequence` meets its contract: the three lowest places are the counts of the three tiles. Assumes nothing.
use Rattle.search.specs.Remaining.{split}
use Rattle.search.proofs.Left.{sequence_word}
use Rattle.search.proofs.remaining.LowestRemaining.has_sequence.Goals as goal

pub returns : goal.returns
returns c = sequence_word (split c.args.self.tiles) c.args.self.at_lowest
