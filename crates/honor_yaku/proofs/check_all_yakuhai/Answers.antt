-- `check_all_yakuhai` meets its contract: nothing without a triplet or kan of an honor, else what the check of each honor ensures.
-- Assumes nothing.
use mathlib.Core.Path.{sym, ◌∙◌}
use Rattle.honor_yaku.proofs.Few.{no_tallies, no_tallies_otherwise, defaulted}
use Rattle.honor_yaku.proofs.check_all_yakuhai.Goals as goal

pub returns-in_default : goal.returns-in_default
returns-in_default c = defaulted _ c.default.ensures ∙ no_tallies_otherwise c.args.w c.args.h c.in_default.not-Standard

pub returns-then-not-has_honor_set : goal.returns-then-not-has_honor_set
returns-then-not-has_honor_set c =
    let none = no_tallies c.args.w c.in-Standard.pair.0 c.in-Standard.melds (sym c.has_honor_set.ensures ∙ c.if-not-has_honor_set.true) in
    simp (c.in-Standard.is) (defaulted _ c.default-then-not-has_honor_set.ensures ∙ none)

pub returns : goal.returns
returns c = simp (
  c.in-Standard.is,
  c.check_yakuhai.ensures.0,
  c.check_yakuhai-2.ensures.0,
  c.check_yakuhai-3.ensures.0,
  c.check_yakuhai-4.ensures.0,
  c.check_yakuhai-5.ensures.0,
  c.check_yakuhai-6.ensures.0,
  c.check_yakuhai-7.ensures.0,
)
