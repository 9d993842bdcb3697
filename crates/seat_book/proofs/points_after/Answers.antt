-- `points_after` meets its contract: the seat's own entries are read, and its points are within their limits. Assumes nothing.
use Rattle.std.proofs.Common.{◌≡◌, true, ◌∙◌, ap}
use Rattle.seat_book.specs.Points.{is_within}
use Rattle.seat_book.specs.Book.{points_of}
use Rattle.seat_book.proofs.Magnitude.{stands_within}
use Rattle.seat_book.proofs.Rooms.{rooms}
use Rattle.seat_book.proofs.points_after.Goals as goal

pub seat_after-requires : goal.seat_after-requires
seat_after-requires c =
    let s = c.args.s in
    let settles = c.requires.0 in
    let within : is_within (points_of c.args.b s) ≡ true = (rooms c.args.b settles.room).seats s c.requires.1.1.1 in
    (ap is_within (stands_within (points_of c.args.b s) within) ∙ within, (settles.small.gets s, (settles.small.pays s, c.requires.1.1.0)))
