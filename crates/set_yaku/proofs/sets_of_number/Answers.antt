-- `sets_of_number` meets its contract. Assumes nothing.
use Rattle.std.proofs.Common.{rules, tests, ◌%◌, eqb}
use Rattle.lists.specs.Fold.{any}
use Rattle.structure.proofs.Asked.{all_asked}
use Rattle.meld_yaku.specs.Melds.{set_of, three_suits}
use Rattle.set_yaku.proofs.sets_of_number.Goals as goal

pub returns : goal.returns
returns c =
    all_asked (λ u. any (set_of (eqb u)) c.args.ms) (three_suits (c.args.t % 9)) (cc) c.all.ensures.ran (λ x b q k. search (rules, tests))
