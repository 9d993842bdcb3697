-- `within_wall` meets its contract: at most four of each tile, and with three players none of an absent one. Assumes nothing.
use Rattle.std.proofs.Common.{sym, ap₂, ◌∙◌, ◌&&◌}
use Rattle.rules.specs.Rules.{game}
use Rattle.checks.proofs.Played.{wall_tests}
use Rattle.checks.proofs.within_wall.Goals as goal

pub returns-in-Sanma : goal.returns-in-Sanma
returns-in-Sanma c =
    let a = c.args in
    ap₂ ◌&&◌ c.at_most_four-few.ensures c.none_absent.ensures ∙ sym (wall_tests (game a.v) a.counts.now)
