use Rattle.std.proofs.Common.{◌≡◌, ◌∙◌, length, arith, rules}
use Rattle.yaku.proofs.Loops.{dot_from, dot_all, dot_turn, dot_end}
use Rattle.yaku.proofs.sum_of.Goals as goal

pub loop-i-init : goal.loop-i-init
loop-i-init c = (omega arith, (omega arith, omega arith))

pub overflow_add-han : goal.overflow_add-han
overflow_add-han c = record { fits = omega (arith, c.times-han.ensures.1) }

pub loop-i-preserved : goal.loop-i-preserved
loop-i-preserved c =
    let l = c.loop-i in
    let a = c.args in
    let size : length a.values ≡ 47 = search rules in
    let same : length a.tallies ≡ 47 = search rules in
    let turn = dot_turn a.values a.tallies l.i (omega arith) (omega arith) in
    (omega arith, (omega (arith, c.times-han.ensures.1), omega (arith, c.times-han.ensures.0)))

pub returns : goal.returns
returns c =
    let l = c.loop-i in
    let a = c.args in
    let size : length a.values ≡ 47 = search rules in
    let rest = dot_end a.values a.tallies l.i (omega arith) in
    let whole : l.han ≡ dot_from a.values a.tallies 0 = omega arith in
    whole ∙ dot_all a.values a.tallies
