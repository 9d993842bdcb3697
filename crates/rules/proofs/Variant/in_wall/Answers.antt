-- `Variant::in_wall` meets its contract: at each variant the tiles of its game. Assumes nothing.
use borrow.Author.Rules.{rules}
use Rattle.rules.proofs.Variant.in_wall.Goals as goal

pub returns-in-Sanma : goal.returns-in-Sanma
returns-in-Sanma c = simp c.in-Sanma.is
