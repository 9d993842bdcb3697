use Rattle.std.proofs.Common.{ℕ, ◌+◌, ◌-◌, ◌&&◌, ap, ◌∙◌, eqb}
use Rattle.lists.specs.Fold.{all, up_from}
use Rattle.hand.specs.Counts.{held}
use Rattle.checks.proofs.Turns.{test_next, test_end}
use Rattle.call_words.proofs.is_made_of.Invariants.{same_at}
use Rattle.call_words.proofs.is_made_of.Goals as goal

pub loop-t-preserved : goal.loop-t-preserved
loop-t-preserved c =
    let l = c.loop-t in
    let p = same_at c.args.m c.args.counts.now in
    let n = held c.args.counts.now l.t in
    ap (λ (k : ℕ). (l.good && eqb n k) && all p (up_from (34 - (l.t + 1)) (l.t + 1))) c.uses.ensures
    ∙ test_next p l.good l.t 34 c.loop-t-test.true
    ∙ l.invariant

pub returns : goal.returns
returns c =
    let l = c.loop-t in
    let a = c.args in
    test_end (same_at a.m a.counts.now) l.good l.t 34 c.loop-t-test.false ∙ l.invariant
