-- `booking::book_draw` meets its contract. Assumes nothing.
use mathlib.Core.Path.{sym, ◌∙◌}
use borrow.Author.Tests.{lt-ltb, le-ltb}
use Rattle.booking.specs.Booking.{draw_outcome}
use Rattle.booking.proofs.book_draw.Goals as goal

pub returns-then-d-ge4 : goal.returns-then-d-ge4
unfolding draw_outcome
returns-then-d-ge4 c = rw (le-ltb _ _ c.if-d-ge4.true) c.refuse.ensures

pub returns-then-not-has_room : goal.returns-then-not-has_room
unfolding draw_outcome
returns-then-not-has_room c = let no = sym c.has_room.ensures ∙ c.if-not-has_room.true in rw (lt-ltb _ _ c.if-d-ge4.false, no) c.refuse-then-not-has_room.ensures

pub settle-requires : goal.settle-requires
settle-requires c = (sym c.has_room.ensures ∙ c.if-not-has_room.false, c.draw_settlement.ensures.1)

pub returns : goal.returns
unfolding draw_outcome
returns c = let yes = sym c.has_room.ensures ∙ c.if-not-has_room.false in rw (lt-ltb _ _ c.if-d-ge4.false, yes, ← c.draw_settlement.ensures.0) c.settle.ensures
