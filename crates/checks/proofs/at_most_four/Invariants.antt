-- `at_most_four` meets its contract. The loop's invariant: what was found so far, and the test over the tiles left, is the whole test.
-- Assumes nothing.
use Rattle.std.proofs.Common.{◌≡◌, ◌&&◌, ◌-◌, ℕ, List, Bool, leb}
use Rattle.lists.specs.Fold.{all, up_from}
use Rattle.tile.specs.Tile.{tiles}
use Rattle.hand.specs.Counts.{held}
use Rattle.checks.proofs.at_most_four.Given as goal

abbrev pub few_of : List ℕ → ℕ → Bool
few_of cs t = leb (held cs t) 4

abbrev pub invariant-loop-n : goal.invariant-loop-n
invariant-loop-n l = l.good && all (few_of l.counts) (up_from (34 - l.n-index) l.n-index) ≡ all (few_of l.counts) tiles
