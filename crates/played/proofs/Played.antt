-- The played hands hold: each row is computed from the definitions. Assumes nothing.
use mathlib.Core.Path.{◌≡◌, refl}
use mathlib.Core.List.{Memᴰ}
use lib.Dec.{T}
use Rattle.lists.specs.Fold.{all}
use Rattle.lists.proofs.Members.{all_mem}
use Rattle.scoring.specs.declared.Payment.TheVariants.{Tsumo}
use Rattle.scoring.specs.Payment.{total_at}
use Rattle.played.specs.Row.{Row, holds}
use Rattle.played.specs.Played.{played}

-- every row of the table holds
pub played_hold : T (all holds played)
unfolding holds
played_hold = tt

-- so does each row that stands in it
pub played_row : (r : Row) → Memᴰ r played → T (holds r)
played_row r i = all_mem holds played_hold i

-- the total of the first hand, whose row says who pays what
pub pinfu_by_tsumo_total : total_at 4 (Tsumo 700 400) ≡ 1500
pinfu_by_tsumo_total = refl
