use Rattle.std.proofs.Common.{arith, refl}
use borrow.Author.Tests.{eq-eqb, ne_eqb}
use Rattle.hand.specs.Counts.{held}
use Rattle.special.proofs.Loops.{writing_first, writing_room, writing_pass, writing_fail, writing_end}
use Rattle.special.proofs.Special.{is_two}
use Rattle.special.proofs.write_twos.Goals.{then-counts-t-eq2, else-counts-t-eq2}
use Rattle.special.proofs.write_twos.Goals as goal

pub loop-t-init : goal.loop-t-init
loop-t-init c = writing_first (is_two (held c.args.counts.now)) c.args.out.now c.args.at

pub bounds-out-end : goal.bounds-out-end
bounds-out-end c =
    let l = c.loop-t in
    let a = c.args in
    writing_room (is_two (held a.counts.now)) a.out.now a.at l.out l.end l.t l.invariant (omega arith) (eq-eqb _ _ c.if-counts-t-eq2.true) c.requires

pub loop-t-preserved : goal.loop-t-preserved
loop-t-preserved c =
    let l = c.loop-t in
    let a = c.args in
    let p = is_two (held a.counts.now) in
    elim c.if-counts-t-eq2.branch [
      | then-counts-t-eq2 w ↦
          writing_pass p a.out.now a.at l.out l.end l.t l.invariant (omega arith) (eq-eqb _ _ w.if-counts-t-eq2.true) l.t refl
          c.if-counts-t-eq2.out c.if-counts-t-eq2.end w.out-is w.end-is
      | else-counts-t-eq2 w ↦
          writing_fail p a.out.now a.at l.out l.end l.t l.invariant (omega arith) (ne_eqb _ _ w.if-counts-t-eq2.false)
          c.if-counts-t-eq2.out c.if-counts-t-eq2.end w.out-is w.end-is
    ]

pub returns : goal.returns
returns c =
    let l = c.loop-t in
    let a = c.args in
    writing_end (is_two (held a.counts.now)) a.out.now a.at l.out l.end l.t l.invariant (omega arith)
