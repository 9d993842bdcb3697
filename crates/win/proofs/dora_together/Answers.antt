-- `dora_together` meets its contract: where none is shown there is no dora, else the counts with the calls added are asked. Assumes nothing.
use mathlib.Core.Path.{◌≡◌, sym, ap, subst, fun_ext, ◌∙◌}
use Prim.Native.Nat.{ℕ, ◌≤◌}
use native.Mathlib.Omega.{arith}
use lib.ListN.{length}
use Rattle.lists.proofs.Finite.{T→true}
use Rattle.context.proofs.Shown.{none_of, both_none}
use Rattle.dora.specs.Dora.{dora_in}
use Rattle.dora.proofs.Counting.{none_shown_holds}
use Rattle.checks.specs.Checks.{called, together}
use Rattle.checks.proofs.Four.{four_each}
use Rattle.checks.proofs.Passed.{passed}
use borrow.Author.Rules.{rules}
use Rattle.win.proofs.dora_together.Goals as goal

pub returns-then-shows_none : goal.returns-then-shows_none
returns-then-shows_none c =
    let a = c.args in
    let none = both_none a.w (sym c.shows_none.ensures ∙ c.if-shows_none.true) in
    let d = none_of a.w.dora_indicators none.0 in
    let u = none_of a.w.ura_dora_indicators none.1 in
    (sym (none_shown_holds (together a.hand.counts.now (called a.hand.calls)) a.w d u), (omega arith, omega arith))

pub with_calls-whole-requires : goal.with_calls-whole-requires
with_calls-whole-requires c =
    let h = c.args.hand in
    let p = passed h.counts.now h.calls h.passed in
    (p.four, (p.few, T→true _ p.calls))

pub count_dora_detailed-requires : goal.count_dora_detailed-requires
count_dora_detailed-requires c =
    let h = c.args.hand in
    let all = c.with_calls-whole in
    let p = passed h.counts.now h.calls h.passed in
    let long : length all.result ≡ 34 = search rules in
    (four_each all.result long (λ t i. subst (λ (n : ℕ). n ≤ 4) (sym (all.ensures t)) (p.whole t i)), c.requires)

pub returns : goal.returns
returns c =
    let a = c.args in
    let all = fun_ext c.with_calls-whole.ensures in
    let dora = c.count_dora_detailed.ensures in
    (dora.0 ∙ ap (λ (f : ℕ → ℕ). dora_in f a.w) all, dora.1)
