use mathlib.Core.Path.{◌≡◌, sym, ap, ◌∙◌}
use mathlib.Core.Logic.{⊎_elim}
use Prim.Native.Nat.{◌-◌, ◌*◌, ◌≤◌}
use native.Mathlib.Omega.{arith}
use borrow.Author.Rules.{rules}
use Rattle.rules.specs.Rules.{game}
use Rattle.reading_score.specs.Score.{score_of}
use Rattle.choice.specs.Choice.{no_yaku}
use Rattle.choice.proofs.Pass.{Rest, turn_take, turn_skip, rest_end, rest_all, choice_none, choice_some}
use Rattle.choice.proofs.choose.Goals.{then-best-rank, else-best-rank}
use Rattle.choice.proofs.choose.Goals as goal

pub returns-then-n-eq0 : goal.returns-then-n-eq0
returns-then-n-eq0 c =
    let a = c.args in
    c.refused.ensures ∙ choice_none (game a.v).players (score_of a.w a.opened a.s a.d) a.b.now a.n c.if-n-eq0.true

pub loop-i-init : goal.loop-i-init
loop-i-init c =
    let a = c.args in
    (omega arith, (omega arith, ap (λ f. Rest (game a.v).players (score_of a.w a.opened a.s a.d) a.b.now a.n 0 f 0 0) c.refused-found.ensures))

pub reading_at-requires : goal.reading_at-requires
reading_at-requires c = omega arith

pub overflow_add-at : goal.overflow_add-at
overflow_add-at c = omega (arith, c.length_at-at.ensures.1)

pub overflow_add-i : goal.overflow_add-i
overflow_add-i c = omega arith

pub loop-i-smaller : goal.loop-i-smaller
loop-i-smaller c = omega arith

pub returns : goal.returns
returns c =
    let a = c.args in
    let players = (game a.v).players in
    let l = c.loop-i in
    let g = score_of a.w a.opened a.s a.d in
    sym (rest_end players g a.b.now a.n l.best l.found l.i l.at c.loop-i-test.false)
    ∙ l.invariant.1.1 ∙ rest_all players g a.b.now a.n ∙ choice_some players g a.b.now a.n c.if-n-eq0.false

pub loop-i-preserved : goal.loop-i-preserved
loop-i-preserved c =
    let a = c.args in
    let players = (game a.v).players in
    let l = c.loop-i in
    let g = score_of a.w a.opened a.s a.d in
    let x = c.calculate_score-x in
    let r = c.rank-rank in
    let d = c.length_at-at in
    let found = c.if-best-rank in
    let score = x.ensures ∙ ap g c.reading_at.ensures in
    let turn = c.loop-i-test.true in (
      omega arith,
      (
        omega (arith, d.ensures.1),
        elim found.branch [
          | then-best-rank v ↦
              turn_take players g a.b.now a.n l.best l.found l.i l.at turn x.result r.result d.result score r.ensures
              d.ensures.0 found.best found.found v.if-best-rank.true v.best-is (v.found-is ∙ v.scored-found.ensures)
              ∙ l.invariant.1.1
          | else-best-rank v ↦
              turn_skip players g a.b.now a.n l.best l.found l.i l.at turn x.result r.result d.result score r.ensures
              d.ensures.0 found.best found.found v.if-best-rank.false v.best-is v.found-is
              ∙ l.invariant.1.1
        ],
      ),
    )
