-- What a win that passes all checks has, and that it is all that the checks ask. Assumes nothing.
use mathlib.Core.Path.{◌≡◌}
use mathlib.Core.Bool.{◌||◌}
use mathlib.Core.List.{List}
use Prim.Native.Nat.{ℕ, ◌<◌}
use lib.Dec.{T}
use Rattle.lists.proofs.Finite.{and_left, and_right, and_both}
use Rattle.rules.specs.Rules.{Game}
use Rattle.context.specs.declared.GameContext.{GameContext}
use Rattle.context.specs.Context.{in_range, indicators_in, none_shown}
use Rattle.hand.specs.Counts.{held}
use Rattle.checks.specs.declared.Calls.{Calls}
use Rattle.checks.specs.Checks.{hand_check_in}
use Rattle.checks.specs.Refusals.{hand_checks}
use Rattle.checks.proofs.InOrder.{all_pass, pass_all, passed_on}
use Rattle.checks.proofs.Refusals.{hand_refusals}
use Rattle.win.specs.Win.{win_check_in}
use Rattle.win.specs.Refusals.{context_checks, win_checks}
use Rattle.win.proofs.Checked.{hand_passes}
use Rattle.win.proofs.Refusals.{in_range_holds, range_test, both_indicated, indicators_test, win_refusals}

-- in the game g
pub record Checked (g : Game) (cs : List ℕ) (k : Calls) (w : GameContext) : Type 0 where
  pub hand : hand_check_in g cs k ≡ 0
  pub range : T (in_range w)
  pub indicators : T (indicators_in w)
  pub shown : T (g.dora || none_shown w)
  pub tile : w.winning_tile < 34
  pub there : 0 < held cs w.winning_tile

module _ {g : Game} (cs : List ℕ) (k : Calls) (w : GameContext) where
  pub checked : win_check_in g cs k w ≡ 0 → Checked g cs k w
  checked e =
      let a = (all_pass (win_checks g cs k w) tt ((win_refusals g cs k w 0).0 e)).1.1.1.1.1.1 in
      record {
        hand = hand_passes g cs k w e;
        range = range_test w a.0;
        indicators = and_left (indicators_in w) _ (indicators_test g w a.1.0);
        shown = and_right (indicators_in w) (g.dora || none_shown w) (indicators_test g w a.1.0);
        tile = a.1.1.0.tile;
        there = a.1.1.0.there;
      }

  pub checks : Checked g cs k w → win_check_in g cs k w ≡ 0
  checks p =
      (win_refusals g cs k w 0).1
      (passed_on (hand_checks g cs k) (context_checks g cs w) 0 (all_pass (hand_checks g cs k) tt ((hand_refusals cs k 0).0 p.hand))
      (pass_all (context_checks g cs w)
      (in_range_holds w p.range, (both_indicated g w (and_both (indicators_in w) _ p.indicators p.shown), (record { tile = p.tile; there = p.there }, tt)))))
