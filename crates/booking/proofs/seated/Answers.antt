-- `booking::seated` meets its contract. Assumes nothing.
use Rattle.booking.proofs.seated.Goals as goal

pub returns : goal.returns
returns c = rw (c.type_of.ensures, c.seat_wind.ensures)
