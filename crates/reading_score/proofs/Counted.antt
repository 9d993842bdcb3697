-- The han of a score: those of its yaku, and the dora where there is no yakuman, also where there is no yaku. Which indicators are shown changes the
-- dora alone, and without dora a score is as if there were none. Assumes nothing.
use mathlib.Core.Path.{◌≡◌, ap}
use mathlib.Core.Bool.{Bool, true, false}
use Prim.Native.Nat.{◌+◌}
use Rattle.context.specs.declared.Indicators.{Indicators}
use Rattle.context.specs.declared.GameContext.{GameContext}
use Rattle.context.specs.Context.{indicating}
use Rattle.hand.specs.Reading.{Reading}
use Rattle.tile_yaku.specs.declared.TileYaku.{TileYaku}
use Rattle.yaku.specs.Tally.{tallies, is_yakuman}
use Rattle.yaku.specs.Han.{han}
use Rattle.yaku.proofs.AnyRoom.{tallies_any_room, han_any_room, yakuman_any_room}
use Rattle.fu.specs.Fu.{fu}
use Rattle.fu.proofs.AnyIndicators.{fu_any_indicators}
use Rattle.dora.specs.declared.DoraCount.{DoraCount}
use Rattle.dora.specs.Dora.{no_dora, total_han}
use Rattle.dora.proofs.Counting.{yakuman_takes_none, others_take_all, han_without_dora}
use Rattle.reading_score.specs.Score.{result, score_of}

module _ (w : GameContext) (opened : Bool) (s : TileYaku) (r : Reading) where
  module _ (d : DoraCount) where
    pub yakuman_without_dora : is_yakuman w opened s r ≡ true → (score_of w opened s d r).han ≡ han w opened s r
    unfolding score_of result
    yakuman_without_dora e = rw e (yakuman_takes_none d (han w opened s r))

    pub others_with_dora : is_yakuman w opened s r ≡ false → (score_of w opened s d r).han ≡ han w opened s r + (d.regular + d.ura)
    unfolding score_of result
    others_with_dora e = rw e (others_take_all d (han w opened s r))

    -- the indicators count by the dora that they give, and in no other way
    pub by_dora_alone : (i u : Indicators) → score_of (indicating i u w) opened s d r ≡ score_of w opened s d r
    unfolding score_of result
    by_dora_alone i u =
        λ j.
        let y = yakuman_any_room w.double_wind_fu i u w opened s r j in
        let n = han_any_room w.double_wind_fu i u w opened s r j in
        result w (tallies_any_room w.double_wind_fu i u w opened s r j) (total_han d y n) (fu_any_indicators i u w opened r j) y d

  -- without dora: the han are those of the yaku, and all else follows from them
  pub score_without_dora :
      score_of w opened s no_dora r ≡ result w (tallies w opened s r) (han w opened s r) (fu w opened r) (is_yakuman w opened s r) no_dora
  unfolding score_of
  score_without_dora =
      ap (λ n. result w (tallies w opened s r) n (fu w opened r) (is_yakuman w opened s r) no_dora) (han_without_dora (is_yakuman w opened s r) (han w opened s r))
