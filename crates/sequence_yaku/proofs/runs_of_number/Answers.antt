-- `runs_of_number` meets its contract. Assumes nothing.
use Rattle.std.proofs.Common.{rules, tests, ◌%◌}
use Rattle.lists.specs.Fold.{any}
use Rattle.structure.proofs.Asked.{all_asked}
use Rattle.meld_yaku.specs.Melds.{run_from, three_suits}
use Rattle.sequence_yaku.proofs.runs_of_number.Goals as goal

pub returns : goal.returns
returns c =
    simp (all_asked (λ u. any (run_from u) c.args.ms) (three_suits (c.args.t % 9)) (cc) c.all.ensures.ran (λ x b q k. search (rules, tests)))
