use mathlib.Core.Path.{sym, ap, ◌∙◌}
use Prim.Native.Nat.{◌+◌}
use native.Mathlib.Omega.{arith}
use borrow.Author.Tests.{leb-true, leb-false}
use lib.ListN.{length}
use Rattle.decompose.specs.Packed.{in_words}
use Rattle.decompose.proofs.Turns.{Counted, count_first, count_on, count_past, count_last, found_there}
use Rattle.decompose.proofs.pair_search.PairSearch.count_standard.Goals.{Joined-has_pair, then-has_pair, else-has_pair}
use Rattle.decompose.proofs.pair_search.PairSearch.count_standard.Goals as goal

pub loop-p-init : goal.loop-p-init
loop-p-init c =
    let a = c.args in
    count_first a.needed (in_words a.self.hand) a.self.places.first a.self.places.end a.self.only_at

pub without_pair-requires : goal.without_pair-requires
without_pair-requires c =
    (omega (arith, c.args.self.only_at.ends), (leb-true 2 _ (sym c.has_pair.ensures ∙ c.if-has_pair.true)))

pub returns : goal.returns
returns c =
    let a = c.args in
    let l = c.loop-p in
    count_last a.needed (in_words a.self.hand) a.self.places.first a.self.places.end a.self.only_at l.total l.p l.invariant c.loop-p-test.false

-- what is counted after a turn
counted : (c : Joined-has_pair) → Counted c.args.needed (in_words c.args.self.hand) c.args.self.places.first c.if-has_pair.total (c.loop-p.p + 3)
counted c =
    let a = c.args in
    let l = c.loop-p in
    let d = in_words a.self.hand in
    let t = sym c.has_pair.ensures in
    let more = c.loop-p-test.true in
    let n = l.invariant in
    elim c.if-has_pair.branch [
      | then-has_pair w ↦
          count_on a.needed d a.self.places.first a.self.places.end a.self.only_at l.total l.p n more w.count_meld_combinations-total.result
          c.if-has_pair.total
          (w.count_meld_combinations-total.ensures.0
          ∙ ap length (found_there a.needed d l.p (leb-true 2 _ (t ∙ w.if-has_pair.true)) w.without_pair.result.tiles w.without_pair.ensures))
          w.count_meld_combinations-total.ensures.1 w.total-is
      | else-has_pair w ↦
          count_past a.needed d a.self.places.first a.self.places.end a.self.only_at l.total l.p n more
          (leb-false 2 _ (t ∙ w.if-has_pair.false)) c.if-has_pair.total w.total-is
    ]

pub loop-p-preserved : goal.loop-p-preserved
loop-p-preserved c = counted (goal.at.loop-p-preserved c).Joined-has_pair

-- the last place is followed by none
pub returns-after-has_pair : goal.returns-after-has_pair
returns-after-has_pair c =
    let a = c.args in
    count_last a.needed (in_words a.self.hand) a.self.places.first a.self.places.end a.self.only_at c.if-has_pair.total (c.loop-p.p + 3)
    (counted (goal.at.returns-after-has_pair c).Joined-has_pair) (omega arith)
