-- The renamed calls, meld by meld, and the renamed counts, tile by tile. Assumes nothing.
use mathlib.Core.Path.{◌≡◌, refl, ◌∙◌, sym, ap}
use lib.ListN.{length, length-map, get_or, drop, set}
use Rattle.tile.specs.declared.Renaming.{Renaming}
use Rattle.meld.specs.Renamed.{ren_meld}
use Rattle.checks.specs.declared.Calls.{Calls}
use Rattle.lists.proofs.Members.{take_map}
use Rattle.agreement.specs.Agreement.{RenamedCalls}
use Rattle.twins.specs.Twins.{ren_calls}
use mathlib.Core.List.{List, [], ◌∷◌, map}
use Prim.Native.Nat.{ℕ, ◌+◌, ◌<◌, ◌≤◌}
use lib.Seq.{sets}
use Rattle.lists.proofs.Elements.{four}
use Rattle.lists.proofs.Stores.{sets_next, copy_end, copy_whole}
use Rattle.tile.specs.Tile.{tiles}
use Rattle.tile.specs.Renaming.{ren, back}
use Rattle.meld.specs.declared.Meld.{Meld}
use Rattle.hand.specs.Counts.{held}
use Rattle.renamed.specs.Renamed.{ren_counts}
use Rattle.renamed.proofs.Counts.{at_tile_holds}

-- ---- the counts by the renaming that undoes it
unfoldable pub moved : Renaming → List ℕ → List ℕ
moved undo cs = map (λ t. held cs (ren undo t)) tiles

module _ (undo : Renaming) (cs : List ℕ) (d : List ℕ) (t : ℕ) where
  pub moved_next :
      (x : ℕ) → t < 34 → x ≡ held cs (ren undo t)
      → sets (set d t x) (t + 1) (drop (t + 1) (moved undo cs)) ≡ sets d t (drop t (moved undo cs))
  unfolding moved
  moved_next x h e =
      ap (λ (y : ℕ). sets (set d t y) (t + 1) (drop (t + 1) (map (λ t. held cs (ren undo t)) tiles)))
      (e ∙ sym (at_tile_holds (λ t. held cs (ren undo t)) t h))
      ∙ sym (sets_next d (map (λ t. held cs (ren undo t)) tiles) t t h)

  pub moved_end : 34 ≤ t → d ≡ sets d t (drop t (moved undo cs))
  unfolding moved
  moved_end h = copy_end d (map (λ t. held cs (ren undo t)) tiles) t h

  pub moved_whole : length d ≡ 34 → sets d 0 (moved undo cs) ≡ moved undo cs
  unfolding moved
  moved_whole e = copy_whole d (map (λ t. held cs (ren undo t)) tiles) e

pub moved_counts : (ρ : Renaming) (cs : List ℕ) → moved (back ρ) cs ≡ ren_counts ρ cs
unfolding moved
moved_counts ρ cs = refl

-- ---- the calls: there are four melds still, and with each renamed those that are called are
pub four_renamed : (ρ : Renaming) (k : Calls) → length k.melds ≡ 4 → length (ren_calls ρ k).melds ≡ 4
four_renamed ρ k e = length-map k.melds (ren_meld ρ) ∙ e

pub calls_renamed : (ρ : Renaming) (k : Calls) → RenamedCalls ρ k (ren_calls ρ k)
calls_renamed ρ k = record { many = refl; calls = take_map (ren_meld ρ) k.count k.melds }

-- the four written out
pub calls_four_holds :
    (ρ : Renaming) (k : Calls) (m : Meld) → length k.melds ≡ 4
    → record {
      count = k.count;
      melds =
          ren_meld ρ (get_or k.melds 0 m) ∷ ren_meld ρ (get_or k.melds 1 m) ∷ ren_meld ρ (get_or k.melds 2 m)
          ∷ ren_meld ρ (get_or k.melds 3 m) ∷ [];
    }
    ≡ ren_calls ρ k
calls_four_holds ρ k m e =
    ap (λ (l : List Meld). the_calls l) (sym (four k.melds m e))
  where
    the_calls : List Meld → Calls
    the_calls l = record { count = k.count; melds = map (ren_meld ρ) l }
