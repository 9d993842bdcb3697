-- `check_counts` meets its contract: the tests are made in the definition's order. Assumes nothing.
use Rattle.std.proofs.Common.{sym, ◌∙◌}
use borrow.Author.Tests.{eq-eqb, ne_eqb, le-leb, lt-leb}
use Rattle.rules.specs.Rules.{game}
use Rattle.hand.specs.Counts.{held}
use Rattle.checks.specs.Checks.{check, called, hand_check_in}
use Rattle.checks.proofs.Played.{calls_made, few_in_wall}
use Rattle.checks.proofs.Four.{four_below, four_each}
use Rattle.checks.proofs.check_counts.Goals as goal

pub returns-then-k-gt4 : goal.returns-then-k-gt4
unfolding hand_check_in check
returns-then-k-gt4 c = simp (eq-eqb _ _ c.told-counts, lt-leb _ _ c.if-k-gt4.true)

pub returns-then-not-are_calls : goal.returns-then-not-are_calls
unfolding hand_check_in check
returns-then-not-are_calls c =
    simp (eq-eqb _ _ c.told-counts, le-leb _ _ c.if-k-gt4.false, ← c.are_calls.ensures, c.if-not-are_calls.true)

pub returns-then-not-within_wall : goal.returns-then-not-within_wall
unfolding hand_check_in check
returns-then-not-within_wall c =
    simp (eq-eqb _ _ c.told-counts, le-leb _ _ c.if-k-gt4.false, ← c.are_calls.ensures, c.if-not-are_calls.false, ← c.within_wall.ensures, c.if-not-within_wall.true)

pub together_at_most_four-requires : goal.together_at_most_four-requires
together_at_most_four-requires c =
    let cs = c.args.counts.now in
    let g = game c.args.v in
    let few = few_in_wall g cs (sym c.within_wall.ensures ∙ c.if-not-within_wall.false) in (
      four_each cs c.told-counts (four_below (held cs) few),
      (c.if-k-gt4.false, calls_made g (called c.args.k) (sym c.are_calls.ensures ∙ c.if-not-are_calls.false)),
    )

pub returns-then-not-together_at_most_four : goal.returns-then-not-together_at_most_four
unfolding hand_check_in check
returns-then-not-together_at_most_four c =
    simp (
      eq-eqb _ _ c.told-counts,
      le-leb _ _ c.if-k-gt4.false,
      ← c.are_calls.ensures,
      c.if-not-are_calls.false,
      ← c.within_wall.ensures,
      c.if-not-within_wall.false,
      ← c.together_at_most_four.ensures,
      c.if-not-together_at_most_four.true,
    )

pub returns-then-sum_range-k-ne14 : goal.returns-then-sum_range-k-ne14
unfolding hand_check_in check
returns-then-sum_range-k-ne14 c =
    simp (
      eq-eqb _ _ c.told-counts,
      le-leb _ _ c.if-k-gt4.false,
      ← c.are_calls.ensures,
      c.if-not-are_calls.false,
      ← c.within_wall.ensures,
      c.if-not-within_wall.false,
      ← c.together_at_most_four.ensures,
      c.if-not-together_at_most_four.false,
      ← c.sum_range.ensures.0,
      ne_eqb _ _ c.if-sum_range-k-ne14.true,
    )

pub returns : goal.returns
unfolding hand_check_in check
returns c =
    simp (
      eq-eqb _ _ c.told-counts,
      le-leb _ _ c.if-k-gt4.false,
      ← c.are_calls.ensures,
      c.if-not-are_calls.false,
      ← c.within_wall.ensures,
      c.if-not-within_wall.false,
      ← c.together_at_most_four.ensures,
      c.if-not-together_at_most_four.false,
      ← c.sum_range.ensures.0,
      eq-eqb _ _ c.if-sum_range-k-ne14.false,
    )
