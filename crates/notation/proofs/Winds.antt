-- The win that the words say is in range: the winds are winds, and the setting is four or two. Assumes nothing.
use Rattle.std.proofs.Common.{◌≡◌, refl, ap₂, Bool, true, false, ◌&&◌, cond, ltb, unwrap_or}
use Rattle.lists.specs.Fold.{one}
use Rattle.tile.specs.Tile.{is_wind}
use Rattle.known_words.specs.declared.Wind.{Wind}
use Rattle.known_words.specs.declared.Wind.TheVariants.{East, South, West, North}
use Rattle.context.specs.Context.{is_setting, in_range}
use Rattle.notation.specs.declared.said.Said.{Said}
use Rattle.notation.specs.Said.{wind_tile, won_by, win_of}

wind : (w : Wind) → is_wind (wind_tile w) ≡ true
wind East = refl
wind South = refl
wind West = refl
wind North = refl

type_in : (b : Bool) → ltb (one b) 2 ≡ true
type_in true = refl
type_in false = refl

setting : (two : Bool) → is_setting (cond two 2 4) ≡ true
setting true = refl
setting false = refl

pub in_range_holds : (s : Said) → in_range (win_of s) ≡ true
in_range_holds s =
    ap₂ ◌&&◌ (type_in (won_by s).tsumo)
    (ap₂ ◌&&◌ (wind (unwrap_or s.round East)) (ap₂ ◌&&◌ (wind (unwrap_or s.seat South)) (setting (unwrap_or s.double_wind_two false))))
