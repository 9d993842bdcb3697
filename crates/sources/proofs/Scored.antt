-- The score of a reading does not depend on the sources of its melds. Assumes nothing.
use mathlib.Core.Path.{◌≡◌}
use mathlib.Core.Bool.{Bool}
use Rattle.context.specs.declared.GameContext.{GameContext}
use Rattle.hand.specs.Reading.{Reading}
use Rattle.tile_yaku.specs.declared.TileYaku.{TileYaku}
use Rattle.dora.specs.declared.DoraCount.{DoraCount}
use Rattle.dora.specs.Dora.{total_han}
use Rattle.reading_score.specs.Score.{result, score_of}
use Rattle.sources.specs.Sources.{but_sources}
use Rattle.sources.proofs.Fu.{fu_but}
use Rattle.sources.proofs.Yaku.{is_yakuman_but_holds, tallies_but, han_but}

pub score_but :
    (w : GameContext) (opened : Bool) (s : TileYaku) (d : DoraCount) (r : Reading) → score_of w opened s d (but_sources r) ≡ score_of w opened s d r
unfolding score_of
score_but w opened s d r =
    let yakuman = is_yakuman_but_holds w opened s r in
    let tallies = tallies_but w opened s r in
    let han = han_but w opened s r in
    let fu = fu_but w opened r in
    λ i. result w (tallies i) (total_han d (yakuman i) (han i)) (fu i) (yakuman i) d
