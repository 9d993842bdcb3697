-- `search::put_in` meets its contract: each slot keeps the lower number and hands the higher one on. Assumes nothing.
use Rattle.std.proofs.Common.{◌≡◌, length, rules}
use Rattle.search.proofs.Slots.{put_is}
use Rattle.search.proofs.put_in.Goals as goal

pub returns : goal.returns
returns c =
    let h : length c.args.slots ≡ 4 = search rules in
    put_is _ c.max-y.result c.max-z.result c.max-w.result _ _ _ _ _ h c.max-y.ensures c.max-z.ensures c.max-w.ensures
    c.min.ensures c.min-2.ensures c.min-3.ensures c.min-4.ensures
