-- `booking::book_scored` meets its contract. Assumes nothing.
use borrow.Author.Tests.{eq-eqb, ne_eqb}
use Rattle.booking.specs.Booking.{scored_outcome}
use Rattle.booking.proofs.book_scored.Goals as goal

pub returns-then-number-ne0 : goal.returns-then-number-ne0
unfolding scored_outcome
returns-then-number-ne0 c = rw (ne_eqb _ _ c.if-number-ne0.true) (simp c.from.ensures at c.refuse.ensures)

pub returns : goal.returns
unfolding scored_outcome
returns c = rw (eq-eqb _ _ c.if-number-ne0.false, ← c.win_settlement.ensures.0) c.settle.ensures
