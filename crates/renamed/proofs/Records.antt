-- A reading and its renamed one have records of the same length, so the records of a renamed hand together need as many bytes
-- as those of the hand. Assumes nothing.
use mathlib.Core.Path.{◌≡◌, refl, sym, ◌∙◌, subst}
use mathlib.Core.Bool.{Bool, ◌&&◌}
use mathlib.Core.List.{List, ◌++◌, map, Memᴰ, Permᴰ}
use Prim.Native.Nat.{ℕ, ◌<◌}
use native.Mathlib.Omega.{arith}
use lib.Dec.{T, eqb, ltb, ltb→lt, lt→ltb}
use lib.ListN.{length, length-map}
use Rattle.lists.specs.Fold.{all}
use Rattle.lists.specs.Order.{arrange}
use Rattle.lists.proofs.Finite.{and_right, and_both}
use Rattle.lists.proofs.Members.{all_intro, all_map, flat_perm, flat_length, length_perm}
use Rattle.lists.proofs.Arranged.{pick_mem}
use Rattle.tile.specs.Tile.{tiles}
use Rattle.tile.specs.declared.Renaming.{Renaming}
use Rattle.tile.specs.Renaming.{ren}
use Rattle.tile.proofs.Tiles.{tile_lt, tiles_arranged}
use Rattle.meld.specs.declared.Meld.{Meld}
use Rattle.meld.specs.Meld.{is_meld, melds, sorted}
use Rattle.meld.specs.Renamed.{ren_meld}
use Rattle.meld.proofs.Melds.{is_meld_holds, arrange_pick, sorted_perm}
use Rattle.hand.specs.Reading.{Reading, pairs, orphans, standard}
use Rattle.hand.specs.Readings.{readings}
use Rattle.hand.specs.Records.{body_of, record_of, records}
use Rattle.hand.proofs.Records.{meld_bytes_length_holds}
use Rattle.hand.proofs.Tests.{twos_tiles}
use Rattle.complete.proofs.Bound.{record_length}
use Rattle.complete.proofs.Listed.{Listed, as_pairs, as_orphans, as_standard, listed}
use Rattle.renamed.specs.Renamed.{changed, ren_reading}
use Rattle.renamed.proofs.Keeps.{InStep, in_step}
use Rattle.renamed.proofs.Readings.{readings_renamed}

-- ---- the tiles of a reading are tiles and its melds are melds
abbrev pub is_reading : Reading → Bool
is_reading (pairs ps) = all (λ t. ltb t 34) ps
is_reading (orphans p) = ltb p 34
is_reading (standard p ms) = ltb p 34 && all is_meld ms

sorted_melds : (ms : List Meld) → T (all is_meld (sorted ms))
sorted_melds ms = all_intro is_meld (sorted ms) (λ m i. is_meld_holds m (pick_mem (arrange_pick melds ms) i))

pub listed_reading : (c : ℕ → ℕ) (k : List Meld) (r : Reading) → Memᴰ r (readings c k) → T (is_reading r)
listed_reading c k r i = go (listed c k i)
  where
    go : Listed c k r → T (is_reading r)
    go (as_pairs u s e) = subst (λ (x : Reading). T (is_reading x)) (sym e) (twos_tiles c)
    go (as_orphans u p j s e) = subst (λ (x : Reading). T (is_reading x)) (sym e) (lt→ltb p 34 (tile_lt j))
    go (as_standard p j two l f e) =
        subst (λ (x : Reading). T (is_reading x)) (sym e)
        (and_both (ltb p 34) (all is_meld (sorted (k ++ l))) (lt→ltb p 34 (tile_lt j)) (sorted_melds (k ++ l)))

-- ---- the pairs and the melds of a renamed reading are those of the reading, renamed, in another order
module _ {f : ℕ → ℕ} {g : Meld → Meld} (s : InStep f g) where
  pub pairs_perm : (ps : List ℕ) → T (all (λ t. ltb t 34) ps) → Permᴰ (arrange eqb tiles (map f ps)) (map f ps)
  pairs_perm ps v =
      tiles_arranged (map f ps) (all_map (λ t. ltb t 34) (λ t. ltb t 34) f (λ t h. lt→ltb (f t) 34 (s.tile t (ltb→lt t 34 h))) ps v)

  pub melds_perm : (ms : List Meld) → T (all is_meld ms) → Permᴰ (sorted (map g ms)) (map g ms)
  melds_perm ms v = sorted_perm (map g ms) (all_map is_meld is_meld g s.meld ms v)

  -- as many bytes
  body_length : (r : Reading) → T (is_reading r) → length (body_of (changed f g r)) ≡ length (body_of r)
  body_length (pairs ps) v = length_perm (pairs_perm ps v) ∙ length-map ps f
  body_length (orphans p) v = refl
  body_length (standard p ms) v =
      omega (
        arith,
        meld_bytes_length_holds ms,
        meld_bytes_length_holds (sorted (map g ms)),
        length_perm (melds_perm ms (and_right (ltb p 34) (all is_meld ms) v)),
        length-map ms g,
      )

pub record_renamed : (ρ : Renaming) (r : Reading) → T (is_reading r) → length (record_of (ren_reading ρ r)) ≡ length (record_of r)
record_renamed ρ r v = omega (arith, record_length (ren_reading ρ r), record_length r, body_length (in_step ρ) r v)

-- ---- the bytes of all records
pub records_renamed :
    (ρ : Renaming) (c d : ℕ → ℕ) → ((t : ℕ) → t < 34 → d (ren ρ t) ≡ c t) → (k : List Meld) → T (all is_meld k)
    → length (records (readings d (map (ren_meld ρ) k))) ≡ length (records (readings c k))
records_renamed ρ c d e k calls =
    length_perm (flat_perm record_of (readings_renamed ρ c d e k calls))
    ∙ flat_length record_of (ren_reading ρ) (readings c k) (λ r i. record_renamed ρ r (listed_reading c k r i))
