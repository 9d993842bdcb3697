-- `unit::none_odd` meets its contract. The loop's invariant: what was found so far, and the test over the tiles left, is the whole test.
-- Assumes nothing.
use Rattle.std.proofs.Common.{◌≡◌, ◌&&◌, ◌-◌}
use Rattle.lists.specs.Fold.{all, up_from}
use Rattle.tile.specs.Tile.{tiles}
use Rattle.hand.specs.Counts.{held}
use Rattle.special.proofs.Special.{even}
use Rattle.unit.proofs.none_odd.Given as goal

abbrev pub invariant-loop-n : goal.invariant-loop-n
invariant-loop-n l = l.good && all (even (held l.counts)) (up_from (34 - l.n-index) l.n-index) ≡ all (even (held l.counts)) tiles
