-- `check_sets` meets its contract: no to all four with fewer than three triplets and kans, else what each check ensures.
-- Assumes nothing.
use Rattle.std.proofs.Common.{rules, sym, ◌∙◌, ◌≡◌}
use Rattle.structure.proofs.Short.{FourMelds}
use Rattle.set_yaku.proofs.Few.{no_sets, no_sets_holds}
use Rattle.set_yaku.proofs.check_sets.Goals as goal

pub returns : goal.returns
returns c = simp (
  c.check_toitoi.ensures,
  c.check_sanshoku_doukou.ensures,
  c.check_sanankou.ensures,
  c.check_kantsu.ensures,
)

pub returns-then-not-has_three_sets : goal.returns-then-not-has_three_sets
returns-then-not-has_three_sets c =
    let a = c.args in
    let four : FourMelds a.h = λ p ms e. let k = rw e at c.well_formed.0 in search rules in
    let none : c.default.result ≡ no_sets = search rules in
    none ∙ no_sets_holds a.w a.h four (sym c.has_three_sets.ensures ∙ c.if-not-has_three_sets.true)
