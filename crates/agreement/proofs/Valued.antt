-- The scores of a win: a listed reading has four melds at most, so its han and fu are bytes, and each has the dora of hand and calls together.
-- Assumes nothing.
use mathlib.Core.Path.{◌≡◌, refl, subst}
use mathlib.Core.List.Memᴰ
use mathlib.Core.List.{List, Memᴰ}
use Prim.Native.Nat.{ℕ}
use lib.ListN.{length}
use Rattle.rules.specs.Rules.{Game}
use Rattle.context.specs.declared.GameContext.{GameContext}
use Rattle.context.specs.Context.{is_dealer, is_tsumo}
use Rattle.checks.specs.declared.Calls.{Calls}
use Rattle.checks.proofs.Passed.{passes_four}
use Rattle.unit.specs.Listing.{hand_readings}
use Rattle.reading_score.specs.declared.ScoringResult.{ScoringResult}
use Rattle.reading_score.specs.Score.{result, score_of}
use Rattle.reading_score.proofs.Ranks.{score_small, score_priced}
use Rattle.win.specs.Win.{is_opened, tiles_together, dora_together, score_in, scores}
use Rattle.win.proofs.Passed.{Checked}
use Rattle.win.proofs.Forty.{dora_forty}
use Rattle.win.proofs.Readings.{listed_short}
use Rattle.agreement.proofs.Chosen.{Valued}

module _ {g : Game} (cs : List ℕ) (k : Calls) (four : length k.melds ≡ 4) (w : GameContext) (p : Checked g cs k w) where
  pub scores_valued : (x : ScoringResult) → Memᴰ x (scores cs k w) → Valued (is_tsumo w) (is_dealer w) (dora_together cs k w) x
  unfolding scores score_in score_of result
  scores_valued x i =
      let r = Memᴰ.of_map (score_in cs k w) (hand_readings cs k) i in
      let short = listed_short cs k four (passes_four g cs k p.hand) r.0 r.1 in
      let opened = is_opened k in
      let s = tiles_together cs k w in
      let d = dora_together cs k w in
      subst (Valued (is_tsumo w) (is_dealer w) d) r.2
      (record {
        small = score_small w opened s d r.0 (dora_forty cs k w p) short;
        priced = score_priced w opened s d r.0;
        counted = refl;
      })
