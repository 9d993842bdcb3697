-- `LowestRemaining::without_sequence` meets its contract: one each is taken off the three lowest places. Assumes nothing.
use Rattle.search.specs.Remaining.{split}
use Rattle.search.proofs.Left.{sequence_fits, without_sequence}
use Rattle.search.proofs.remaining.LowestRemaining.without_sequence.Goals as goal

pub overflow_sub-result : goal.overflow_sub-result
overflow_sub-result c = sequence_fits (split c.args.self.tiles) c.args.self.at_lowest c.requires

pub returns : goal.returns
returns c = without_sequence (split c.args.self.tiles) c.args.self.at_lowest c.requires

pub invariant_of-result : goal.invariant_of-result
invariant_of-result c = record { fair = (without_sequence (split c.args.self.tiles) c.args.self.at_lowest c.requires).fair }
