-- `han_table` meets its contract: both tables are the lists of the definition. Assumes nothing.
use Rattle.yaku.specs.Names.{names}
use Rattle.yaku.specs.Han.{han_of}
use Rattle.yaku.proofs.han_table.Goals as goal

pub returns-then-opened : goal.returns-then-opened
unfolding han_of names
returns-then-opened c = simp c.if-opened.true

pub returns : goal.returns
unfolding han_of names
returns c = simp c.if-opened.false
