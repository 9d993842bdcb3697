-- `StandardReading::write` meets its contract: the bytes that it copies are the record's, slot by slot. Assumes nothing.
use Rattle.std.proofs.Common.{◌≡◌, length, ap, ◌∙◌, rules}
use Rattle.std.proofs.lemmas.List.Edits.{sets}
use Rattle.search.proofs.Slots.{record_is}
use Rattle.search.proofs.StandardReading.write.Goals as goal

pub returns : goal.returns
returns c =
    let a = c.args.self in
    let h : length a.slots ≡ 4 = search rules in
    c.put_all.ensures
    ∙ ap (sets _ _)
    (record_is a.pair a.slots h _ _ _ _ c.meld_of-a.ensures c.meld_of-b.ensures c.meld_of-c.ensures c.meld_of-d.ensures)
