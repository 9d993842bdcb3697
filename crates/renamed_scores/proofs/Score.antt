-- A reading and its renamed one have the same score and the same waits by sort. Assumes nothing.
use mathlib.Core.Path.{◌≡◌}
use mathlib.Core.Bool.{Bool}
use Prim.Native.Nat.{ℕ, ◌<◌}
use lib.Dec.{T}
use Rattle.tile.specs.declared.Renaming.{Renaming}
use Rattle.context.specs.declared.GameContext.{GameContext}
use Rattle.context.specs.Context.{in_range, is_dealer, is_tsumo, ren_win}
use Rattle.context.proofs.Renamed.{dealer_renamed}
use Rattle.hand.specs.Reading.{Reading}
use Rattle.renamed.specs.Renamed.{ren_reading}
use Rattle.renamed.proofs.Records.{is_reading}
use Rattle.wait.specs.Wait.{waits}
use Rattle.tile_yaku.specs.declared.TileYaku.{TileYaku}
use Rattle.yaku.specs.Tally.{is_yakuman}
use Rattle.yaku.specs.Han.{han}
use Rattle.scoring.specs.declared.ScoreLevel.{ScoreLevel}
use Rattle.scoring.specs.declared.Payment.{Payment}
use Rattle.fu.specs.Fu.{fu}
use Rattle.scoring.specs.Level.{level, basic_points}
use Rattle.scoring.specs.Payment.{payment}
use Rattle.renamed_scores.proofs.Waits.{waits_renamed}
use Rattle.renamed_scores.proofs.Han.{is_yakuman_renamed_holds, han_renamed}
use Rattle.renamed_scores.proofs.Fu.{fu_renamed}

-- ---- the score of a reading r of the win w, s being what all tiles together are
abbrev pub level_of : GameContext → Bool → TileYaku → Reading → ScoreLevel
level_of w opened s r = level (han w opened s r) (fu w opened r) (is_yakuman w opened s r)

abbrev pub basic_of : GameContext → Bool → TileYaku → Reading → ℕ
basic_of w opened s r = basic_points (han w opened s r) (fu w opened r) (is_yakuman w opened s r)

abbrev pub payment_of : GameContext → Bool → TileYaku → Reading → Payment
payment_of w opened s r = payment (is_tsumo w) (is_dealer w) (basic_of w opened s r)

-- two readings, each with its win and its tiles, score alike
pub record SameScore (opened : Bool) (w v : GameContext) (s u : TileYaku) (r q : Reading) : Type 0 where
  pub same_yakuman : is_yakuman v opened u q ≡ is_yakuman w opened s r
  pub same_han : han v opened u q ≡ han w opened s r
  pub same_fu : fu v opened q ≡ fu w opened r
  pub same_level : level_of v opened u q ≡ level_of w opened s r
  pub same_basic : basic_of v opened u q ≡ basic_of w opened s r
  pub same_payment : payment_of v opened u q ≡ payment_of w opened s r
  pub same_waits : waits v.winning_tile q ≡ waits w.winning_tile r

module _ (ρ : Renaming) (w : GameContext) (winds : T (in_range w)) (h : w.winning_tile < 34) (opened : Bool) (r : Reading) (v : T (is_reading r)) where
  -- the tiles together are the same
  pub score_alike : (s : TileYaku) → SameScore opened w (ren_win ρ w) s s r (ren_reading ρ r)
  score_alike s =
      let y = is_yakuman_renamed_holds ρ w winds h opened s r v in
      let n = han_renamed ρ w winds h opened s r v in
      let f = fu_renamed ρ w winds h opened r v in
      record {
        same_yakuman = y;
        same_han = n;
        same_fu = f;
        same_level = λ i. level (n i) (f i) (y i);
        same_basic = λ i. basic_points (n i) (f i) (y i);
        same_payment = λ i. payment (is_tsumo w) (dealer_renamed ρ w i) (basic_points (n i) (f i) (y i));
        same_waits = waits_renamed ρ w.winning_tile h r v;
      }
