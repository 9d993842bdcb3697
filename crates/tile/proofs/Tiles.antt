-- The 34 tiles: which numbers they are, each once and ascending; winds come before dragons. Assumes nothing.
use mathlib.Core.List.{List, Memᴰ, Permᴰ}
use Prim.Native.Nat.{ℕ, ◌<◌}
use lib.Dec.{T, eqb, ltb, leb, eqb→eq, ltb→lt, eqb_refl}
use Rattle.lists.specs.Fold.{all, all_below, any}
use Rattle.lists.specs.Order.{Nodup, Pairwise, arrange}
use Rattle.lists.proofs.Finite.{and_right, at}
use Rattle.lists.proofs.Members.{all_mem}
use Rattle.lists.proofs.Arranged.{any_mem, arrange_perm, distinct_nodup}
use Rattle.lists.proofs.Relations.{rising_pairwise}
use Rattle.tile.specs.Tile.{tiles, is_wind}

tiles_test : T (all_below 34 (λ t. any (eqb t) tiles))
tiles_test = tt

pub in_tiles : (t : ℕ) → t < 34 → Memᴰ t tiles
in_tiles t h = any_mem eqb eqb→eq eqb_refl t tiles (at 34 (λ t. any (eqb t) tiles) tiles_test t h)

pub tile_lt : {t : ℕ} → Memᴰ t tiles → t < 34
tile_lt {t} i = ltb→lt t 34 (all_mem (λ u. ltb u 34) {l = tiles} tt i)

-- a wind is below the dragons
pub wind_below : (t : ℕ) → T (is_wind t) → t < 31
wind_below t h = ltb→lt t 31 (and_right (leb 27 t) (ltb t 31) h)

pub tiles_nodup : Nodup tiles
tiles_nodup = distinct_nodup eqb eqb→eq eqb_refl tiles tt

-- tiles in ascending order are the tiles, in another order
pub tiles_arranged : (ts : List ℕ) → T (all (λ t. ltb t 34) ts) → Permᴰ (arrange eqb tiles ts) ts
tiles_arranged ts v =
    arrange_perm eqb eqb→eq eqb_refl tiles tiles_nodup ts (λ t i. in_tiles t (ltb→lt t 34 (all_mem (λ t. ltb t 34) v i)))

pub tiles_ascend : Pairwise ◌<◌ tiles
tiles_ascend = rising_pairwise (λ t. t) tiles tt
