-- `is_indicated` meets its contract: each question is asked. Assumes nothing.
use borrow.Author.Rules.{rules}
use Rattle.win.proofs.is_indicated.Goals as goal

pub returns : goal.returns
returns c = simp (c.has_indicators.ensures, c.allows_dora.ensures, c.shows_none.ensures)
