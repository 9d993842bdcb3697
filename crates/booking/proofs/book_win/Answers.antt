-- `booking::book_win` meets its contract. Assumes nothing.
use mathlib.Core.Path.{sym, ◌∙◌}
use Rattle.booking.specs.Booking.{win_outcome}
use Rattle.booking.proofs.Seats.{dealer_seated, winner_seated}
use Rattle.booking.proofs.book_win.Goals as goal

pub returns-then-not-are_seats : goal.returns-then-not-are_seats
unfolding win_outcome
returns-then-not-are_seats c = let no = sym c.are_seats.ensures ∙ c.if-not-are_seats.true in rw no c.refuse.ensures

pub returns-then-not-takes_deal : goal.returns-then-not-takes_deal
unfolding win_outcome
returns-then-not-takes_deal c = let sat = sym c.are_seats.ensures ∙ c.if-not-are_seats.false in let no = sym c.has_room-takes_deal.ensures ∙ c.if-not-takes_deal.true in rw (sat, no) c.refuse-then-not-takes_deal.ensures

pub seated-requires : goal.seated-requires
seated-requires c =
    let a = c.args in
    let sat = sym c.are_seats.ensures ∙ c.if-not-are_seats.false in
    (dealer_seated a.d a.won sat, winner_seated a.d a.won sat)

pub book_scored-requires : goal.book_scored-requires
book_scored-requires c = sym c.has_room-takes_deal.ensures ∙ c.if-not-takes_deal.false

pub returns : goal.returns
unfolding win_outcome
returns c =
    let sat = sym c.are_seats.ensures ∙ c.if-not-are_seats.false in
    let yes = sym c.has_room-takes_deal.ensures ∙ c.if-not-takes_deal.false in
    rw (sat, yes, ← c.seated.ensures, ← c.score_win.ensures) c.book_scored.ensures
