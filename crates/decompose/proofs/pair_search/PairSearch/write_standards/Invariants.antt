-- `PairSearch::write_standards` meets its contract. The loop's invariant is `Written`. Assumes nothing.
use Prim.Native.Nat.{◌-◌}
use Rattle.decompose.specs.Packed.{in_words}
use Rattle.decompose.proofs.Turns.{Written}
use Rattle.decompose.proofs.pair_search.PairSearch.write_standards.Given as goal

abbrev pub invariant-loop-p : goal.invariant-loop-p
invariant-loop-p l = Written l.needed (in_words l.self.hand) l.slots l.initial.out l.at l.self.places.first l.out l.pos l.p

abbrev pub decreases-loop-p : goal.decreases-loop-p
decreases-loop-p l = l.p-end - l.p
