-- `lists::any_above_zero` meets its contract. Assumes nothing.
use Rattle.std.proofs.Common.{rules, tests, not, eqb, ◌||◌, false, ◌∙◌}
use Rattle.std.proofs.lemmas.Iterator.{YieldsList-from_slice}
use Rattle.std.proofs.lemmas.Iterator.Consumers.{fold_from_yields_List}
use Rattle.lists.proofs.Chains.{fold_or}
use Rattle.lists.proofs.any_above_zero.Goals as goal

pub returns : goal.returns
returns c =
    fold_from_yields_List _ (λ b n. b || not (eqb n 0)) false _ c.fold.ensures.ran (YieldsList-from_slice c.args.l.now cc) (λ b n r q e. search (rules, tests))
    ∙ fold_or (λ n. not (eqb n 0)) false c.args.l.now
