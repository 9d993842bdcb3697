-- `unit::write_special` meets its contract. Assumes nothing.
use mathlib.Core.Path.{◌≡◌, sym, ap, ◌∙◌}
use mathlib.Core.List.{List, ◌++◌}
use Prim.Native.Nat.{ℕ, ◌+◌}
use native.Mathlib.Omega.{arith}
use lib.ListN.{length, length-append}
use lib.Seq.{sets, length-sets}
use Rattle.hand.specs.Records.{records}
use Rattle.checks.specs.declared.Calls.{Calls}
use Rattle.unit.specs.declared.FoundSpecial.{FoundSpecial}
use Rattle.unit.specs.FirstPass.{specials, FindsSpecial, seven_records, orphan_records}
use Rattle.unit.proofs.Passes.{both_written, special_is}
use Rattle.unit.proofs.write_special.Goals as goal

-- both parts
module _ (cs : List ℕ) (k : Calls) (f : FoundSpecial) (finds : FindsSpecial cs k f) where
  parts : records (specials cs k) ≡ seven_records cs f.seven ++ orphan_records f.orphan
  parts = finds.listed ∙ special_is cs f

  sizes : length (records (specials cs k)) ≡ length (seven_records cs f.seven) + length (orphan_records f.orphan)
  sizes = ap length parts ∙ length-append (seven_records cs f.seven) (orphan_records f.orphan)

pub write_seven-after_seven-requires : goal.write_seven-after_seven-requires
write_seven-after_seven-requires c =
    let cs = c.args.hand.counts.now in
    let f = c.find_special-special in
    (f.ensures.pairs, omega (arith, c.requires, sizes cs c.args.hand.calls f.result f.ensures))

pub write_orphan-requires : goal.write_orphan-requires
write_orphan-requires c =
    let cs = c.args.hand.counts.now in
    let f = c.find_special-special in
    let w = c.write_seven-after_seven.ensures in
    let long = ap length w.1 ∙ length-sets c.args.out.now 0 (seven_records cs f.result.seven) in
    omega (arith, c.requires, sizes cs c.args.hand.calls f.result f.ensures, w.0, long)

pub returns : goal.returns
returns c =
    let cs = c.args.hand.counts.now in
    let k = c.args.hand.calls in
    let f = c.find_special-special in
    let w = c.write_seven-after_seven.ensures in
    let r = c.readings.ensures in
    let o = c.write_orphan.ensures in (
      r.0 ∙ sym f.ensures.counted,
      (
        r.1,
        (
          omega (arith, sizes cs k f.result f.ensures, w.0, o.0),
          both_written (seven_records cs f.result.seven) (orphan_records f.result.orphan) c.args.out.now _ _ _ w.1 w.0 o.1
              ∙ ap (sets c.args.out.now 0) (sym (parts cs k f.result f.ensures)),
        ),
      ),
    )
