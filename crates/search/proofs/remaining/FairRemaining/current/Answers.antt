-- `FairRemaining::current` meets its contract: where the word is 0, the rest alone is what is left. Assumes nothing.
use Rattle.search.specs.Remaining.{split}
use Rattle.search.proofs.Left.{current_rest, current_word}
use Rattle.search.proofs.remaining.FairRemaining.current.Goals as goal

pub returns-then-self-eq0 : goal.returns-then-self-eq0
returns-then-self-eq0 c = (current_rest (split c.args.self.tiles) c.args.self.fair c.requires c.if-self-eq0.true).1

pub returns : goal.returns
returns c = (current_word (split c.args.self.tiles) c.args.self.fair c.requires c.if-self-eq0.false).1

pub invariant_of-result : goal.invariant_of-result
invariant_of-result c = record { fair = (current_rest (split c.args.self.tiles) c.args.self.fair c.requires c.if-self-eq0.true).0 }
