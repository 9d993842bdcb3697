-- `sum_range` meets its contract. The loop's invariant: the sum so far with that of the tiles left is the whole, and it stays small
-- with 255 more for each tile left. Assumes nothing.
use Rattle.std.proofs.Common.{◌≡◌, ◌-◌, ◌*◌, ◌≤◌, ◌+◌}
use Rattle.lists.specs.Fold.{sum, up_from}
use Rattle.hand.specs.Counts.{held}
use Rattle.hand.proofs.sum_range.Given as goal

abbrev pub invariant-loop-i : goal.invariant-loop-i
invariant-loop-i l = (l.sum + sum (held l.counts) (up_from (l.to - l.i) l.i) ≡ sum (held l.counts) (up_from (l.to - l.fn.from) l.fn.from)) × (l.sum + 255 * (34 - l.i) ≤ 255 * 34)
