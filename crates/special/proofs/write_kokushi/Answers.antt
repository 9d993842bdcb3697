-- `special::write_kokushi` meets its contract. Assumes nothing.
use Rattle.std.proofs.Common.{refl}
use Rattle.special.proofs.Special.{orphans_written}
use Rattle.special.proofs.write_kokushi.Goals as goal

pub returns : goal.returns
returns c =
    let a = c.args in
    (refl, orphans_written a.out.now _ a.at a.p c.write_head.ensures)
