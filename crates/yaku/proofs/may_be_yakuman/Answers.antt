-- `may_be_yakuman` meets its contract: where each part of the answer is no, there is no yakuman. Assumes nothing.
use mathlib.Core.Path.{sym, ◌∙◌}
use Rattle.structure.specs.Structure.{reading_of}
use Rattle.yaku.proofs.NoYakuman.{neither, no_yakuman_holds}
use borrow.Author.Rules.{rules}
use Rattle.yaku.proofs.may_be_yakuman.Goals as goal

pub returns : goal.returns
returns c = λ e.
    let a = c.args in
    let on = c.orphans_won in
    let beside = c.orphans_won-2 in
    let whole = neither _ _ e in
    let first = neither _ _ whole.0 in
    let rest = neither _ _ whole.1 in
    let tiles = neither _ _ rest.0 in
    let honors = neither _ _ tiles.0 in
    let suited = neither _ _ tiles.1 in
    let shape = neither _ _ rest.1 in
    let orphans = neither _ _ shape.0 in
    no_yakuman_holds a.w a.opened a.s first.0 first.1 honors.0 honors.1 suited.0 suited.1 (reading_of a.h)
    (sym on.ensures ∙ orphans.0) (sym beside.ensures ∙ orphans.1) (sym c.has_three_sets.ensures ∙ shape.1)
