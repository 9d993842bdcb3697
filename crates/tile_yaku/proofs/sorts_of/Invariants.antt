-- `sorts_of` meets its contract. The loop's invariant: each flag says whether such a tile stands below t. Assumes nothing.
use Rattle.hand.specs.Counts.{held}
use Rattle.tile_yaku.proofs.Questions.{Flags}
use Rattle.tile_yaku.proofs.sorts_of.Given as goal

abbrev pub invariant-loop-t : goal.invariant-loop-t
invariant-loop-t l = Flags (held l.counts) l.t l.simple l.terminal l.honor l.other_than_green
