-- `same_answer` meets its contract. Assumes nothing.
use Rattle.twins.specs.Twins.{agrees}
use Rattle.twins.proofs.same_answer.Goals as goal

pub returns : goal.returns
unfolding agrees
returns c = simp (c.same_level.ensures, c.same_payment.ensures)
