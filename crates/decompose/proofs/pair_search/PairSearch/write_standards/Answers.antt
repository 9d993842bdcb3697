use mathlib.Core.Path.{sym, ◌∙◌}
use Prim.Native.Nat.{◌+◌}
use native.Mathlib.Omega.{arith}
use borrow.Author.Tests.{leb-true, leb-false}
use Rattle.decompose.specs.Packed.{in_words}
use Rattle.decompose.proofs.Turns.{Written, write_first, write_past, write_room, write_on, write_last, found_there}
use Rattle.decompose.proofs.pair_search.PairSearch.write_standards.Goals.{Joined-has_pair, then-has_pair, else-has_pair}
use Rattle.decompose.proofs.pair_search.PairSearch.write_standards.Goals as goal

pub loop-p-init : goal.loop-p-init
loop-p-init c =
    let a = c.args in
    write_first a.needed (in_words a.self.hand) a.slots a.out.now a.at a.self.places.first a.self.places.end a.self.only_at

pub without_pair-requires : goal.without_pair-requires
without_pair-requires c =
    (omega (arith, c.args.self.only_at.ends), (leb-true 2 _ (sym c.has_pair.ensures ∙ c.if-has_pair.true)))

pub write_meld_combinations-pos-requires : goal.write_meld_combinations-pos-requires
write_meld_combinations-pos-requires c =
    let a = c.args in
    let l = c.loop-p in
    let d = in_words a.self.hand in
    let w = c.without_pair in
    let two = leb-true 2 _ (sym c.has_pair.ensures ∙ c.if-has_pair.true) in
    write_room a.needed d a.slots a.out.now a.at a.self.places.first a.self.places.end a.self.only_at l.out l.pos l.p l.invariant
    c.loop-p-test.true _
    (found_there a.needed d l.p two w.result.tiles w.ensures)
    c.requires

pub returns : goal.returns
returns c =
    let a = c.args in
    let l = c.loop-p in
    write_last a.needed (in_words a.self.hand) a.slots a.out.now a.at a.self.places.first a.self.places.end a.self.only_at l.out l.pos l.p l.invariant c.loop-p-test.false

-- what is written after a turn
written :
    (c : Joined-has_pair)
    → Written c.args.needed (in_words c.args.self.hand) c.args.slots c.args.out.now c.args.at c.args.self.places.first c.if-has_pair.out c.if-has_pair.pos (c.loop-p.p + 3)
written c =
    let a = c.args in
    let l = c.loop-p in
    let d = in_words a.self.hand in
    let t = sym c.has_pair.ensures in
    let more = c.loop-p-test.true in
    elim c.if-has_pair.branch [
      | then-has_pair w ↦
          write_on a.needed d a.slots a.out.now a.at a.self.places.first a.self.places.end a.self.only_at l.out l.pos l.p l.invariant more _
          (found_there a.needed d l.p (leb-true 2 _ (t ∙ w.if-has_pair.true)) w.without_pair.result.tiles w.without_pair.ensures)
          c.if-has_pair.out c.if-has_pair.pos (w.pos-is ∙ w.write_meld_combinations-pos.ensures.0)
          (w.out-is ∙ w.write_meld_combinations-pos.ensures.1)
      | else-has_pair w ↦
          write_past a.needed d a.slots a.out.now a.at a.self.places.first a.self.places.end a.self.only_at l.out l.pos l.p l.invariant more
          (leb-false 2 _ (t ∙ w.if-has_pair.false)) c.if-has_pair.out c.if-has_pair.pos w.pos-is w.out-is
    ]

pub loop-p-preserved : goal.loop-p-preserved
loop-p-preserved c = written (goal.at.loop-p-preserved c).Joined-has_pair

-- the last place is followed by none
pub returns-after-has_pair : goal.returns-after-has_pair
returns-after-has_pair c =
    let a = c.args in
    write_last a.needed (in_words a.self.hand) a.slots a.out.now a.at a.self.places.first a.self.places.end a.self.only_at c.if-has_pair.out c.if-has_pair.pos
    (c.loop-p.p + 3) (written (goal.at.returns-after-has_pair c).Joined-has_pair) (omega arith)
