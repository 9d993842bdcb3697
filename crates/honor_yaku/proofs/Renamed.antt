-- A triplet of a dragon, or of a wind, stays one when all is renamed: by a test over all renamings and melds. Assumes nothing.
use mathlib.Core.Path.{refl}
use Rattle.tile.specs.Tile.{is_dragon, is_wind}
use Rattle.meld.proofs.Renamed.{meld_law}
use Rattle.meld_yaku.specs.Melds.{set_of}
use Rattle.meld_yaku.proofs.Renamed.{Stays}

pub dragon_set : Stays (set_of is_dragon)
dragon_set = meld_law (set_of is_dragon) (λ m. refl) tt

pub wind_set : Stays (set_of is_wind)
wind_set = meld_law (set_of is_wind) (λ m. refl) tt
