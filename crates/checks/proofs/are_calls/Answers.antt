-- `are_calls` meets its contract: what the chain answers is the test over the calls. Assumes nothing.
use Rattle.std.proofs.Common.{rules, tests, ◌∙◌}
use Rattle.std.proofs.lemmas.Iterator.{YieldsList-from_slice}
use Rattle.std.proofs.lemmas.Iterator.Search.{all_from_yields_List}
use Rattle.lists.proofs.Chains.{all_is}
use Rattle.rules.specs.Rules.{game}
use Rattle.checks.specs.Checks.{called, is_call_in}
use Rattle.checks.proofs.are_calls.Goals as goal

pub returns : goal.returns
returns c =
    let v = c.args.v in
    all_from_yields_List (is_call_in (game v)) _ _ _ c.all.ensures.ran (YieldsList-from_slice (called c.args.k) cc) (λ x b q k. search (rules, tests))
    ∙ all_is (is_call_in (game v)) (called c.args.k)
