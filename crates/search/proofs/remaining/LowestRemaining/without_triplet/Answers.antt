-- `LowestRemaining::without_triplet` meets its contract: three are taken off the lowest place. Assumes nothing.
use Rattle.search.specs.Remaining.{split}
use Rattle.search.proofs.Left.{triplet_fits, without_triplet}
use Rattle.search.proofs.remaining.LowestRemaining.without_triplet.Goals as goal

pub overflow_sub-result : goal.overflow_sub-result
overflow_sub-result c = triplet_fits (split c.args.self.tiles) c.args.self.at_lowest c.requires

pub returns : goal.returns
returns c = without_triplet (split c.args.self.tiles) c.args.self.at_lowest c.requires

pub invariant_of-result : goal.invariant_of-result
invariant_of-result c = record { fair = (without_triplet (split c.args.self.tiles) c.args.self.at_lowest c.requires).fair }
