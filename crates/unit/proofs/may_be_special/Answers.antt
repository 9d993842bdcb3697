-- `unit::may_be_special` meets its contract: where it says no, a count is odd, and the first tile or the last is not there. Assumes nothing.
use mathlib.Core.Path.{◌≡◌, refl, sym, subst, ◌∙◌}
use mathlib.Core.Bool.{Bool, true, false, ◌||◌}
use lib.Dec.{T}
use Rattle.hand.specs.Counts.{held}
use Rattle.special.proofs.Special.{pairs_even, orphans_ends}
use Rattle.unit.proofs.may_be_special.Goals as goal

-- neither of two where one of them is not
first_no : (a b : Bool) → (a || b) ≡ false → a ≡ false
first_no true b e = e
first_no false b e = refl

second_no : (a b : Bool) → (a || b) ≡ false → b ≡ false
second_no true b e = absurd (true_false e)
  where
    true_false : {A : Type 0} → true ≡ false → A
    true_false e = absurd (subst T e tt)
second_no false b e = e

pub returns : goal.returns
returns c =
    let cs = c.args.counts.now in
    let odd = c.none_odd in (
      λ e. pairs_even (held cs) (sym odd.ensures ∙ first_no odd.result _ e),
      λ e. orphans_ends (held cs) (second_no odd.result _ e),
    )
