use Rattle.std.proofs.Common.{ap, ◌∙◌, Bool, ◌&&◌, ◌||◌, ◌+◌, ◌-◌, eqb}
use Rattle.lists.specs.Fold.{all, up_from}
use Rattle.rules.specs.Rules.{game}
use Rattle.hand.specs.Counts.{held}
use Rattle.checks.proofs.Turns.{test_next}
use Rattle.checks.proofs.none_absent.Invariants.{none_of}
use Rattle.checks.proofs.none_absent.Goals as goal

pub loop-t-preserved : goal.loop-t-preserved
loop-t-preserved c =
    let l = c.loop-t in
    let a = c.args in
    ap (λ (b : Bool). (l.good && (b || eqb (held a.counts.now l.t) 0)) && all (none_of (game a.v) a.counts.now) (up_from (34 - (l.t + 1)) (l.t + 1))) c.in_wall.ensures
    ∙ test_next (none_of (game a.v) a.counts.now) l.good l.t 34 c.loop-t-test.true
    ∙ l.invariant
