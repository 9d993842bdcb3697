use Rattle.std.proofs.Common.{arith, ℕ, ◌∙◌}
use Rattle.hand.specs.Counts.{held}
use Rattle.tile_yaku.proofs.Gates.{misfit, all_suits}
use Rattle.tile_yaku.proofs.gates_of.Goals as goal

pub returns-after-suits : goal.returns-after-suits
returns-after-suits c =
    let l = c.suits in
    l.invariant.0 ∙ all_suits (held c.args.counts.now) c.args.of l.suit c.suits-test.false (omega arith) l.invariant.1

pub returns-then-not-fits_gate : goal.returns-then-not-fits_gate
returns-then-not-fits_gate c =
    let s : ℕ = c.suits.suit in
    misfit (held c.args.counts.now) c.args.of s c.loop-n.n _ (omega arith) (omega arith) c.fits_gate.ensures c.if-not-fits_gate.true
