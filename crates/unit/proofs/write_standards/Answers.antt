-- `unit::write_standards` meets its contract. Assumes nothing.
use mathlib.Core.Path.{◌≡◌, ap, ap₂}
use mathlib.Core.List.{List}
use Prim.Native.Nat.{ℕ, ◌-◌}
use native.Mathlib.Omega.{arith}
use lib.ListN.{length}
use Rattle.tile.specs.Tile.{tiles}
use Rattle.search.specs.Slots.{slots_of}
use Rattle.search.proofs.Slots.{written_as}
use Rattle.decompose.specs.Packed.{in_words}
use Rattle.decompose.specs.Pairs.{records_over}
use Rattle.checks.specs.declared.Calls.{Calls}
use Rattle.checks.specs.Checks.{called}
use Rattle.unit.specs.FirstPass.{standard_records}
use Rattle.unit.proofs.write_standards.Goals as goal

-- the records as the code names them
standards_are :
    (c : ℕ → ℕ) (k : Calls) (n : ℕ) (slots : List ℕ) → n ≡ 4 - k.count → slots ≡ slots_of (called k) → records_over n c slots tiles ≡ standard_records c k
unfolding standard_records
standards_are c k n slots h e = ap₂ (λ (m : ℕ) (l : List ℕ). records_over m c l tiles) h e

pub write_standards-requires : goal.write_standards-requires
write_standards-requires c =
    let n = c.melds_needed in
    let o = c.slots_of in
    let e = ap length (standards_are (in_words c.args.pairs.hand) c.args.hand.calls n.result o.result n.ensures o.ensures) in
    omega (arith, c.requires, e)

pub returns : goal.returns
returns c =
    let n = c.melds_needed in
    let o = c.slots_of in
    written_as c.args.out.now _ c.args.at _ (standards_are (in_words c.args.pairs.hand) c.args.hand.calls n.result o.result n.ensures o.ensures) c.write_standards.ensures
