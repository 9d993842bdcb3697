-- `count_peikou` meets its contract. Assumes nothing.
use mathlib.Core.Path.{◌≡◌}
use lib.ListN.{length}
use borrow.Author.Rules.{rules}
use Rattle.lists.proofs.Chains.{one_is}
use Rattle.sequence_yaku.proofs.Peikou.{six_comparisons}
use Rattle.sequence_yaku.proofs.count_peikou.Goals as goal

pub returns : goal.returns
returns c =
    let size : length c.args.ms ≡ 4 = search rules in (
      simp (
        c.from-3.ensures,
        c.from-2.ensures,
        c.from.ensures,
        one_is,
        c.is_same_run.ensures,
        c.is_same_run-2.ensures,
        c.is_same_run-3.ensures,
        c.is_same_run-4.ensures,
        c.is_same_run-5.ensures,
        c.is_same_run-6.ensures,
      )
          (six_comparisons c.args.ms _ size),
      search rules,
    )
