-- `decompose::Packed::has_pair` meets its contract. Assumes nothing.
use Rattle.decompose.proofs.Words.{low_pair, high_pair}
use Rattle.decompose.proofs.Packed.has_pair.Goals as goal

pub returns-then-p-lt18 : goal.returns-then-p-lt18
returns-then-p-lt18 c = let a = c.args in low_pair a.self a.p c.if-p-lt18.true

pub returns : goal.returns
returns c = let a = c.args in high_pair a.self a.p c.if-p-lt18.false
