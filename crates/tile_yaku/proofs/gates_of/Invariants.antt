-- `gates_of` meets its contract. The loops' invariant: `good` is true and the test passes at each tile so far. Assumes nothing.
use Rattle.std.proofs.Common.{◌≡◌, ◌+◌, ◌*◌, true}
use Rattle.lists.specs.Fold.{all_below}
use Rattle.hand.specs.Counts.{held}
use Rattle.tile_yaku.specs.Tiles.{gate}
use Rattle.tile_yaku.proofs.gates_of.Given as goal

abbrev pub invariant-loop-n : goal.invariant-loop-n
invariant-loop-n l = (l.good ≡ true) × (all_below (l.suit * 9 + l.n) (gate (held l.counts) l.of) ≡ true)

abbrev pub invariant-suits : goal.invariant-suits
invariant-suits l = (l.good ≡ true) × (all_below (l.suit * 9) (gate (held l.counts) l.of) ≡ true)
