-- `seat_book::moved` meets its contract: sums and differences of points within their limits fit. Assumes nothing.
use Rattle.seat_book.proofs.Magnitude.{sum_fits, rest_fits, reads_as}
use Rattle.seat_book.proofs.moved.Goals as goal

pub overflow_add-result : goal.overflow_add-result
overflow_add-result c = sum_fits c.args.p c.args.gets c.args.pays c.ranges.p c.requires.0 c.requires.1.0 c.requires.1.1

pub overflow_sub-result : goal.overflow_sub-result
overflow_sub-result c = rest_fits c.args.p c.args.gets c.args.pays c.ranges.p c.requires.0 c.requires.1.0 c.requires.1.1

pub returns : goal.returns
returns c = reads_as c.args.p c.args.gets c.args.pays c.ranges.p c.requires.0 c.requires.1.0 c.requires.1.1
