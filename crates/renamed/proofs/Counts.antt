-- The counts of a renamed hand: each count moves to the renamed tile. Assumes nothing.
use mathlib.Core.Path.{◌≡◌, refl, ap, ◌∙◌}
use mathlib.Core.List.{List, map}
use Prim.Native.Nat.{ℕ, ◌<◌}
use lib.Dec.{T, eqb, eqb→eq}
use lib.ListN.{length, get_or}
use Rattle.lists.specs.Fold.{all_below}
use Rattle.lists.proofs.Finite.{at}
use Rattle.lists.proofs.Members.{at_map}
use Rattle.tile.specs.Tile.{tiles}
use Rattle.tile.specs.declared.Renaming.{Renaming}
use Rattle.tile.specs.Renaming.{ren, back}
use Rattle.tile.proofs.Renamings.{ren_lt, back_ren}
use Rattle.hand.specs.Counts.{held}
use Rattle.renamed.specs.Renamed.{ren_counts}
use Rattle.renamed.proofs.Keeps.{SameCounts}

tiles_test : T (all_below 34 (λ t. eqb (get_or tiles t 0) t))
tiles_test = tt

tile_at : (t : ℕ) → t < 34 → get_or tiles t 0 ≡ t
tile_at t h = eqb→eq (get_or tiles t 0) t (at 34 (λ t. eqb (get_or tiles t 0) t) tiles_test t h)

-- what stands at a tile in a list of a number for each tile
pub at_tile_holds : (f : ℕ → ℕ) (t : ℕ) → t < 34 → get_or (map f tiles) t 0 ≡ f t
at_tile_holds f t h = at_map f tiles t 0 0 h ∙ ap f (tile_at t h)

module _ (ρ : Renaming) (cs : List ℕ) where
  pub held_renamed : SameCounts (ren ρ) (held cs) (held (ren_counts ρ cs))
  held_renamed t h = at_tile_holds (λ t. held cs (ren (back ρ) t)) (ren ρ t) (ren_lt ρ t h) ∙ ap (held cs) (back_ren ρ t h)

  pub counts_length : length (ren_counts ρ cs) ≡ 34
  counts_length = refl
