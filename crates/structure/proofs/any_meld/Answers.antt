-- `any_meld` meets its contract. Assumes nothing.
use Rattle.std.proofs.Common.{rules, tests, ◌||◌, false, ◌∙◌}
use Rattle.std.proofs.lemmas.Iterator.{YieldsList-from_slice}
use Rattle.std.proofs.lemmas.Iterator.Consumers.{fold_from_yields_List}
use Rattle.lists.proofs.Chains.{fold_or}
use Rattle.structure.proofs.any_meld.Goals as goal

pub returns : goal.returns
returns g c p k =
    fold_from_yields_List _ (λ b m. b || p m) false _ c.fold.ensures.ran (YieldsList-from_slice c.args.ms cc) (λ b x r q e. search (rules, tests, k))
    ∙ fold_or p false c.args.ms
