-- `unit::write_seven` meets its contract. Assumes nothing.
use mathlib.Core.Path.{sym, ap, ◌∙◌}
use mathlib.Core.Bool.{Bool}
use native.Mathlib.Omega.{arith}
use lib.ListN.{length}
use lib.Seq.{sets}
use Rattle.hand.specs.Counts.{held}
use Rattle.unit.specs.FirstPass.{seven_records}
use Rattle.unit.proofs.Passes.{seven_length}
use Rattle.unit.proofs.write_seven.Goals as goal

pub write_chiitoitsu-requires : goal.write_chiitoitsu-requires
write_chiitoitsu-requires c =
    let t = c.if-seven.true in
    let pairs = c.requires.0 t in
    let e = ap (λ (b : Bool). length (seven_records c.args.counts.now b)) t ∙ seven_length (held c.args.counts.now) pairs in
    (pairs, omega (arith, c.requires.1, e))

pub returns-then-seven : goal.returns-then-seven
returns-then-seven c =
    let t = c.if-seven.true in
    let e = ap (λ (b : Bool). seven_records c.args.counts.now b) t in
    let f = c.write_chiitoitsu.ensures in (
      omega (arith, f.0, ap length e, seven_length (held c.args.counts.now) (c.requires.0 t)),
      f.1 ∙ ap (sets c.args.out.now 0) (sym e),
    )
