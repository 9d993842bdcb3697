-- `PairSearch::count_standard` meets its contract. The loop's invariant is `Counted`. Assumes nothing.
use Prim.Native.Nat.{◌-◌}
use Rattle.decompose.specs.Packed.{in_words}
use Rattle.decompose.proofs.Turns.{Counted}
use Rattle.decompose.proofs.pair_search.PairSearch.count_standard.Given as goal

abbrev pub invariant-loop-p : goal.invariant-loop-p
invariant-loop-p l = Counted l.needed (in_words l.self.hand) l.self.places.first l.total l.p

abbrev pub decreases-loop-p : goal.decreases-loop-p
decreases-loop-p l = l.p-end - l.p
