-- `together_at_most_four` meets its contract: without calls the counts alone are at most four, else the sum is tested.
-- Assumes nothing.
use mathlib.Core.Path.{sym, ap, ◌∙◌}
use Prim.Native.Nat.{ℕ}
use native.Mathlib.Omega.{arith}
use lib.Dec.{leb}
use lib.ListN.{take}
use Rattle.lists.specs.Fold.{all, every}
use Rattle.lists.proofs.Finite.{T→true}
use Rattle.lists.proofs.Members.{map_members}
use Rattle.tile.specs.Tile.{tiles}
use Rattle.hand.specs.Counts.{held}
use Rattle.checks.specs.Checks.{called, together}
use Rattle.checks.proofs.Added.{uses_of}
use Rattle.checks.proofs.Four.{four_test}
use Rattle.checks.proofs.together_at_most_four.Goals as goal

pub returns-then-k-eq0 : goal.returns-then-k-eq0
returns-then-k-eq0 c =
    let cs = c.args.counts.now in
    let k = c.args.k in
    sym
    (T→true (all (λ t. leb (together cs (called k) t) 4) tiles)
    (four_test (together cs (called k)) (λ t h. omega (arith, c.requires.0 t, ap (λ (n : ℕ). uses_of (take n k.melds) t) c.if-k-eq0.true))))

pub returns : goal.returns
returns c =
    let w = c.with_calls-sum in
    let a = c.args in
    c.at_most_four.ensures
    ∙ ap every
    (map_members (λ t. leb (held w.result t) 4) (λ t. leb (together a.counts.now (called a.k) t) 4) tiles
    (λ t i. ap (λ (n : ℕ). leb n 4) (w.ensures t)))
