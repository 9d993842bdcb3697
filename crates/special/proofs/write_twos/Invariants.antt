-- `special::write_twos` meets its contract. The loop's invariant: to write the twos from t on finishes the work. Assumes nothing.
use Rattle.hand.specs.Counts.{held}
use Rattle.special.proofs.Loops.{Writing}
use Rattle.special.proofs.Special.{is_two}
use Rattle.special.proofs.write_twos.Given as goal

abbrev pub invariant-loop-t : goal.invariant-loop-t
invariant-loop-t l = Writing (is_two (held l.counts)) l.initial.out l.at l.out l.end l.t
