-- `unit::write_orphan` meets its contract. Assumes nothing.
use Rattle.std.proofs.Common.{length, sym, ap, ◌∙◌, arith}
use Rattle.std.specs.Prelude.{Option}
use Rattle.std.proofs.lemmas.List.Edits.{sets}
use Rattle.tile.specs.declared.Tile.{Tile}
use Rattle.unit.specs.FirstPass.{orphan_records}
use Rattle.unit.proofs.Passes.{orphans_size}
use Rattle.unit.proofs.write_orphan.Goals as goal

pub write_kokushi-requires : goal.write_kokushi-requires
write_kokushi-requires c =
    let e = ap (λ (o : Option Tile). length (orphan_records o)) c.in-Some.is ∙ orphans_size c.in-Some.doubled in
    omega (arith, c.requires, e)

pub returns-in-Some : goal.returns-in-Some
returns-in-Some c =
    let e = ap (λ (o : Option Tile). length (orphan_records o)) c.in-Some.is ∙ orphans_size c.in-Some.doubled in
    let w = c.write_kokushi.ensures in
    (omega (arith, w.0, e), w.1 ∙ ap (λ (o : Option Tile). sets c.args.out.now c.args.at (orphan_records o)) (sym c.in-Some.is))
