use mathlib.Core.Path.{◌≡◌, subst}
use Prim.Native.Nat.{ℕ, ◌-◌}
use native.Mathlib.Omega.{arith}
use Rattle.hand.specs.Counts.{held}
use Rattle.decompose.specs.Packed.{pack_from}
use Rattle.decompose.proofs.Words.{pack_none, pack_more, pack_small}
use Rattle.decompose.proofs.pack_range.Goals as goal

pub loop-i-init : goal.loop-i-init
loop-i-init c = (omega arith, (omega arith, pack_none _ _))

pub overflow_mul-word : goal.overflow_mul-word
overflow_mul-word c =
    let l = c.loop-i in
    let a = c.args in
    omega (arith, pack_small (held a.counts.now) c.requires.1.1.1 (a.to - l.i) l.i (omega arith))

pub overflow_add-word : goal.overflow_add-word
overflow_add-word c =
    let l = c.loop-i in
    let a = c.args in
    omega (
      arith,
      c.requires.1.1.1 (l.i - 1),
      pack_small (held a.counts.now) c.requires.1.1.1 (a.to - l.i) l.i (omega arith),
    )

pub loop-i-preserved : goal.loop-i-preserved
loop-i-preserved c =
    let l = c.loop-i in
    let a = c.args in
    (omega arith, (omega arith, omega (arith, pack_more (held a.counts.now) a.to l.i (omega arith) (omega arith))))

pub returns : goal.returns
returns c =
    let l = c.loop-i in
    let a = c.args in
    let e : l.i ≡ a.from = omega arith in
    subst (λ (k : ℕ). l.word ≡ pack_from (held a.counts.now) (a.to - k) k) e l.invariant.1.1
