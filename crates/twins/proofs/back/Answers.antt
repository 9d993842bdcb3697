-- `back` meets its contract. Assumes nothing.
use Rattle.twins.proofs.back.Goals as goal

pub returns : goal.returns
returns c = simp (c.order_back.ensures, c.order_back-2.ensures)
