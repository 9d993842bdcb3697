-- The pairs and the melds of a renamed reading are those of the reading, renamed, in another order.
-- Assumes nothing.
use mathlib.Core.Path.{◌≡◌, ap, ◌∙◌}
use mathlib.Core.Bool.{Bool}
use mathlib.Core.List.{List, map}
use Prim.Native.Nat.{ℕ, ◌<◌}
use lib.Dec.{T, eqb, ltb, ltb→lt}
use Rattle.lists.specs.Fold.{all, any, some}
use Rattle.lists.specs.Order.{arrange}
use Rattle.lists.proofs.Permuted.{some_perm, map_perm, map_moved}
use Rattle.tile.specs.Tile.{tiles}
use Rattle.tile.specs.declared.Renaming.{Renaming}
use Rattle.tile.specs.Renaming.{ren}
use Rattle.meld.specs.declared.Meld.{Meld}
use Rattle.meld.specs.Meld.{is_meld, sorted}
use Rattle.meld.specs.Renamed.{ren_meld}
use Rattle.meld.proofs.Renamed.{Moved}
use Rattle.renamed.proofs.Keeps.{in_step}
use Rattle.renamed.proofs.Records.{pairs_perm, melds_perm}

pub sorted_moved : (ρ : Renaming) (ms : List Meld) → T (all is_meld ms) → Moved ρ ms (sorted (map (ren_meld ρ) ms))
sorted_moved ρ ms v = record { good = v; same = melds_perm (in_step ρ) ms v }

pub pairs_any :
    (ρ : Renaming) (ps : List ℕ) → T (all (λ t. ltb t 34) ps) → (p q : ℕ → Bool) → ((t : ℕ) → t < 34 → q (ren ρ t) ≡ p t)
    → any q (arrange eqb tiles (map (ren ρ) ps)) ≡ any p ps
pairs_any ρ ps v p q law =
    some_perm (map_perm q (pairs_perm (in_step ρ) ps v))
    ∙ ap some (map_moved (λ t. ltb t 34) (ren ρ) p q (λ t h. law t (ltb→lt t 34 h)) ps v)
