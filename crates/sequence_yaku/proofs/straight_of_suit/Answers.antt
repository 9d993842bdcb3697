-- `straight_of_suit` meets its contract. Assumes nothing.
use Rattle.std.proofs.Common.{rules, tests, ◌/◌, arith}
use borrow.Author.Tests.{lt-ltb}
use Rattle.lists.specs.Fold.{any}
use Rattle.structure.proofs.Asked.{all_asked}
use Rattle.meld_yaku.specs.Melds.{run_from}
use Rattle.sequence_yaku.proofs.Lines.{straight}
use Rattle.sequence_yaku.proofs.straight_of_suit.Goals as goal

pub returns : goal.returns
returns c =
    let runs = all_asked (λ u. any (run_from u) c.args.ms) (straight (c.args.t / 9)) (cc) c.all.ensures.ran (λ x b q k. search (rules, tests)) in
    simp (lt-ltb (c.args.t / 9) 3 (omega arith)) runs
