-- `check_yakuhai` meets its contract. Assumes nothing.
use native.Mathlib.Nat.{mul-le-mul}
use Rattle.std.proofs.Common.{rules, tests, eqb}
use Rattle.meld_yaku.specs.Melds.{set_of}
use Rattle.honor_yaku.specs.Honors.{yakuhai}
use Rattle.honor_yaku.proofs.check_yakuhai.Goals as goal

pub returns : goal.returns
unfolding yakuhai
returns c = (
  simp (
    c.in-Standard.is,
    c.count_melds.ensures.tally (set_of (eqb c.args.t)) (λ m b k. search (rules, tests)),
    c.weight.ensures.0,
  ),
  mul-le-mul c.count_melds.ensures.bound c.weight.ensures.1,
)
