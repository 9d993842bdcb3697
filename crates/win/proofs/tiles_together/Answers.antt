-- `tiles_together` meets its contract. Assumes nothing.
use mathlib.Core.Path.{ap, fun_ext, ◌∙◌}
use Prim.Native.Nat.{ℕ}
use Rattle.lists.proofs.Finite.{T→true}
use Rattle.tile_yaku.specs.Tiles.{tile_yaku}
use Rattle.checks.proofs.Passed.{passed}
use borrow.Author.Rules.{rules}
use Rattle.win.proofs.tiles_together.Goals as goal

pub with_calls-all-requires : goal.with_calls-all-requires
with_calls-all-requires c =
    let h = c.args.hand in
    let p = passed h.counts.now h.calls h.passed in
    (p.four, (p.few, T→true _ p.calls))

pub returns : goal.returns
returns c =
    let a = c.args in
    c.tile_yaku.ensures ∙ ap (λ (f : ℕ → ℕ). tile_yaku f a.w.winning_tile) (fun_ext c.with_calls-all.ensures)
