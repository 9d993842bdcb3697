-- `agree_in` meets its contract: what it answers, and that it is yes under the conditions of the theorem. Assumes nothing.
use mathlib.Core.Path.{ap₂, ◌∙◌}
use Rattle.rules.specs.Rules.{game}
use Rattle.twins.specs.Twins.{agrees}
use Rattle.twins.proofs.Agreed.{calls_agree}
use Rattle.twins.proofs.agree_in.Goals as goal

pub returns : goal.returns
returns c =
    let cs = c.args.counts.now in
    let k = c.args.k in
    let w = c.args.w in
    let g = game c.args.v in
    let by = c.args.by in
    let long = c.well_formed.1.0.1.1.1.0.1.0.1 in
    let second =
    simp (
      c.renamed_counts-renamed.ensures,
      c.renamed_calls.ensures,
      c.renamed.ensures,
    ) at c.score_win_in-second.ensures in
    let first = c.score_win_in-first.ensures in
    let answer = c.same_answer.ensures ∙ ap₂ agrees second first in
    record {
      answer = answer;
      agreement = λ stays passes plain plain' fair. answer ∙ calls_agree g by stays cs k w long passes plain plain' fair;
    }
