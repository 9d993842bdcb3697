-- `check_flush` meets its contract. The loops' invariant: `only` is the only suit so far. Assumes nothing.
use Rattle.hand.specs.Counts.{held}
use Rattle.tile_yaku.proofs.Suits.{SoFar}
use Rattle.tile_yaku.proofs.check_flush.Given as goal

abbrev pub invariant-loop-n : goal.invariant-loop-n
invariant-loop-n l = SoFar (held l.counts) l.suit l.n l.only

abbrev pub invariant-suits : goal.invariant-suits
invariant-suits l = SoFar (held l.counts) l.suit-counter 0 l.only
