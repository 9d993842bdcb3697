-- `check_win` meets its contract: the checks are answered in the definition's order, whichever is made first. Assumes nothing.
use mathlib.Core.Path.{sym, ap, ◌∙◌}
use Rattle.std.proofs.lemmas.Result.{err_from_is_err_and}
use Rattle.rules.specs.Rules.{game}
use Rattle.checks.proofs.Passing.{pass, refuse}
use Rattle.unit.proofs.Answers.{refuses}
use Rattle.win.specs.Win.{win_check_in, in_hand}
use Rattle.win.proofs.Checked.{or_second, refused_hand}
use borrow.Author.Rules.{rules}
use Rattle.win.proofs.check_win.Goals as goal

pub returns-in_err-hand-clause-answer : goal.returns-in_err-hand-clause-answer
returns-in_err-hand-clause-answer c =
    let a = c.args in
    let p = err_from_is_err_and c.from_residual.result c.from_residual.ensures.1 in
    rw (p.1, p.2) (refused_hand (game a.v) a.counts.now a.k a.w _ c.in_err-hand.ensures.answer (refuses c.in_err-hand.field-0.0))

pub returns-then-not-is_in_range-clause-answer : goal.returns-then-not-is_in_range-clause-answer
unfolding win_check_in
returns-then-not-is_in_range-clause-answer c =
    let ok = sym c.in_ok-hand.ensures.answer in
    sym (or_second _ _ ok ∙ refuse _ _ _ (sym c.is_in_range.ensures ∙ c.if-not-is_in_range.true))

pub returns-then-not-shown-clause-answer : goal.returns-then-not-shown-clause-answer
unfolding win_check_in
returns-then-not-shown-clause-answer c =
    let ok = sym c.in_ok-hand.ensures.answer in
    let range = sym c.is_in_range.ensures ∙ c.if-not-is_in_range.false in
    sym (or_second _ _ ok ∙ pass _ _ _ range ∙ refuse _ _ _ (sym c.is_indicated-shown.ensures ∙ c.if-not-shown.true))

pub returns-then-not-in_hand-clause-answer : goal.returns-then-not-in_hand-clause-answer
unfolding win_check_in
returns-then-not-in_hand-clause-answer c =
    let ok = sym c.in_ok-hand.ensures.answer in
    let inside = sym c.is_in_range.ensures ∙ c.if-not-is_in_range.false in
    let shown = sym c.is_indicated-shown.ensures ∙ c.if-not-shown.false in
    let held = ap (λ cs. in_hand cs c.args.w.winning_tile) (sym c.in_ok-hand.ensures.hand.0) ∙ sym c.in_hand.ensures ∙ c.if-not-in_hand.true in
    sym (or_second _ _ ok ∙ pass _ _ _ inside ∙ pass _ _ _ shown ∙ refuse _ _ _ held)

pub returns-clause-answer : goal.returns-clause-answer
unfolding win_check_in
returns-clause-answer c =
    let ok = sym c.in_ok-hand.ensures.answer in
    let in_range_holds = sym c.is_in_range.ensures ∙ c.if-not-is_in_range.false in
    let are-shown = sym c.is_indicated-shown.ensures ∙ c.if-not-shown.false in
    let held = ap (λ cs. in_hand cs c.args.w.winning_tile) (sym c.in_ok-hand.ensures.hand.0) ∙ sym c.in_hand.ensures ∙ c.if-not-in_hand.false in
    sym (or_second _ _ ok ∙ pass _ _ _ in_range_holds ∙ pass _ _ _ are-shown ∙ pass _ _ _ held)
