-- `is_opened` meets its contract. Assumes nothing.
use Rattle.std.proofs.Common.{rules, tests, ap, ◌∙◌}
use Rattle.lists.specs.Fold.{any}
use Rattle.structure.proofs.Asked.{any_asked}
use Rattle.meld.specs.Meld.{is_open}
use Rattle.win.proofs.is_opened.Goals as goal

pub returns : goal.returns
returns c =
    any_asked is_open c.called.result.now (cc) c.any.ensures.ran (λ x b q k. search (rules, tests)) ∙ ap (any is_open) c.called.ensures
