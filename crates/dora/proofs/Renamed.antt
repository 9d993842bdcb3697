-- Dora of a hand and of the hand renamed, under an exchange of suits: as many, where the indicators are renamed too. Assumes nothing.
use mathlib.Core.Path.{◌≡◌, refl, ap, ap₂, ◌∙◌}
use mathlib.Core.List.{List, [], ◌∷◌, map}
use Prim.Native.Nat.{ℕ, ◌+◌, ◌<◌}
use lib.Dec.{T, ltb, ltb→lt}
use Rattle.lists.specs.Fold.{all}
use Rattle.lists.proofs.Finite.{and_left, and_right}
use Rattle.tile.specs.declared.Renaming.{Renaming}
use Rattle.tile.specs.Renaming.{ren, suits_alone}
use Rattle.dora.specs.Dora.{dora_of, count_of}
use Rattle.dora.proofs.Rounds.{dora_tile, dora_renamed}

-- c says how many of each tile the hand holds, d how many the renamed one
module _
    (ρ : Renaming) (alone : T (suits_alone ρ)) (c d : ℕ → ℕ) (same : (t : ℕ) → t < 34 → d (ren ρ t) ≡ c t) where
  pub count_renamed : (ts : List ℕ) → T (all (λ t. ltb t 34) ts) → count_of d (map (ren ρ) ts) ≡ count_of c ts
  count_renamed [] h = refl
  count_renamed (t ∷ ts) h =
      let tile = ltb→lt t 34 (and_left (ltb t 34) _ h) in
      ap₂ ◌+◌ (ap d (dora_renamed ρ alone t tile) ∙ same (dora_of t) (dora_tile t tile)) (count_renamed ts (and_right (ltb t 34) _ h))
