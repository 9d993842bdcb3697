use Rattle.std.proofs.Common.{arith, length, get_or, ◌<◌}
use lib.ListN.{length-take}
use Rattle.lists.specs.Fold.{all}
use Rattle.lists.proofs.Finite.{and_left, T→true, true→t}
use Rattle.lists.proofs.First.{all_at}
use Rattle.meld.specs.Meld.{is_call, is_meld, meld}
use Rattle.checks.specs.Checks.{called}
use Rattle.checks.proofs.Added.{uses_next, uses_first}
use Rattle.checks.proofs.with_calls.Goals as goal

pub add_meld-requires : goal.add_meld-requires
add_meld-requires c =
    let l = c.loop-m in
    let k = c.args.k in
    let ms = called k in
    let here : l.m-index < length ms = rw c.called-m-items.ensures at c.loop-m-test.true in
    let v = all_at is_call ms l.m-index (meld 0 0) (true→t (all is_call ms) c.requires.1.1) here in
    let few = length-take k.count k.melds in
    rw c.called-m-items.ensures (
      T→true (is_meld (get_or ms l.m-index (meld 0 0))) (and_left (is_meld (get_or ms l.m-index (meld 0 0))) _ v),
      λ t. omega (arith, l.invariant t, uses_first ms l.m-index t, c.requires.0 t),
    )

pub loop-m-preserved : goal.loop-m-preserved
loop-m-preserved c =
    let l = c.loop-m in
    let ms = called c.args.k in
    let here : l.m-index < length ms = rw c.called-m-items.ensures at c.loop-m-test.true in
    λ t. omega (arith, l.invariant t, rw c.called-m-items.ensures at (c.add_meld.ensures t), uses_next ms l.m-index (meld 0 0) t here)
