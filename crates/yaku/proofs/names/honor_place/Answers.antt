-- `honor_place` meets its contract: an honor's number is at least 27. Assumes nothing.
use mathlib.Core.Path.{sym, ◌∙◌}
use native.Mathlib.Omega.{arith}
use lib.Dec.{leb, ltb, leb→le}
use Rattle.lists.proofs.Finite.{and_left, true→t}
use borrow.Author.Rules.{rules}
use Rattle.yaku.proofs.names.honor_place.Goals as goal

pub overflow_sub-result : goal.overflow_sub-result
overflow_sub-result c =
    let t = c.args.t.0 in
    let honor = sym c.is_honor.ensures ∙ c.if-is_honor.true in
    let low = leb→le 27 t (and_left (leb 27 t) (ltb t 34) (true→t _ honor)) in
    omega arith

pub returns-then-is_honor : goal.returns-then-is_honor
returns-then-is_honor c = simp (sym c.is_honor.ensures ∙ c.if-is_honor.true)

pub returns : goal.returns
returns c = simp (sym c.is_honor.ensures ∙ c.if-is_honor.false)
