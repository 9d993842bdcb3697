-- `search::write_end` meets its contract. Assumes nothing.
use mathlib.Core.Path.{◌≡◌, refl, sym, ◌∙◌}
use native.Mathlib.Omega.{arith}
use borrow.Author.Rules.{rules}
use lib.ListN.{length}
use Rattle.search.specs.Remaining.{split}
use Rattle.search.proofs.Parts.{at_end, too_many, wrote_none, end_room, wrote_end}
use Rattle.search.proofs.write_end.Goals as goal

pub write-requires : goal.write-requires
write-requires c =
    let a = c.args in
    let l : length a.reading.slots ≡ 4 = search rules in
    let e = at_end 0 (split a.s.tiles) refl (sym c.is_empty.ensures ∙ c.if-is_empty.true) in
    omega (arith, c.requires, end_room a.reading.pair a.reading.slots a.out.now a.at _ e l)

pub returns-then-is_empty : goal.returns-then-is_empty
returns-then-is_empty c =
    let a = c.args in
    let d = c.write in
    let l : length a.reading.slots ≡ 4 = search rules in
    let e = at_end 0 (split a.s.tiles) refl (sym c.is_empty.ensures ∙ c.if-is_empty.true) in
    let w = wrote_end a.reading.pair a.reading.slots a.out.now a.at _ d.new.out e l d.ensures d.auto.out in
    (w.place, w.bytes)

pub returns : goal.returns
returns c =
    let a = c.args in
    let e = too_many 0 (split a.s.tiles) refl (sym c.is_empty.ensures ∙ c.if-is_empty.false) in
    let w = wrote_none a.reading.pair a.reading.slots a.out.now a.at _ a.out.now a.at e refl refl in
    (w.place, w.bytes)
