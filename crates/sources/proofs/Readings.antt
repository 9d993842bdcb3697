-- The readings of a hand, but for the sources of their melds, are the readings with the calls but for their sources; and their records are as long.
-- Assumes nothing.
use mathlib.Core.Path.{◌≡◌, refl, sym, ap, ap₂, ◌∙◌}
use mathlib.Core.Bool.{Bool, true, false, cond}
use mathlib.Core.List.{List, [], ◌∷◌, ◌++◌, map}
use Prim.Native.Nat.{ℕ, ◌-◌}
use native.Mathlib.Omega.{arith}
use lib.Dec.{T, leb}
use lib.ListN.{length, length-map}
use Rattle.lists.specs.Fold.{all, flat, keep}
use Rattle.lists.specs.Order.{Pick}
use Rattle.lists.proofs.Members.{map_append, map_map, map_members, map_flat, all_append, flat_length}
use Rattle.tile.specs.Tile.{tiles}
use Rattle.meld.specs.declared.Meld.{Meld}
use Rattle.meld.specs.Meld.{is_meld, but_source, hand_melds, sorted}
use Rattle.meld.proofs.Melds.{picked_melds}
use Rattle.meld.proofs.Sources.{but_hand_melds_holds, sorted_but}
use Rattle.hand.specs.Reading.{Reading, pairs, orphans, standard}
use Rattle.hand.specs.Readings.{meld_lists, less_pair, standards_at, twos, is_pairs, seven_pairs, is_orphans, thirteen_orphans, uncalled, readings}
use Rattle.hand.specs.Records.{body_of, record_of, records}
use Rattle.hand.proofs.Records.{meld_bytes_length_holds}
use Rattle.hand.proofs.Search.{find_sound}
use Rattle.complete.proofs.Bound.{record_length}
use Rattle.sources.specs.Sources.{but_sources}

-- ---- seven pairs and thirteen orphans have no melds
pairs_but : (c : ℕ → ℕ) → map but_sources (seven_pairs c) ≡ seven_pairs c
unfolding seven_pairs
pairs_but c = go (is_pairs c)
  where
    go : (b : Bool) → map but_sources (cond b (pairs (twos c) ∷ []) []) ≡ cond b (pairs (twos c) ∷ []) []
    go true = refl
    go false = refl

orphans_but : (c : ℕ → ℕ) → map but_sources (thirteen_orphans c) ≡ thirteen_orphans c
unfolding thirteen_orphans
orphans_but c = map_map orphans but_sources (keep (is_orphans c) tiles)

specials_but : (c : ℕ → ℕ) → map but_sources (seven_pairs c ++ thirteen_orphans c) ≡ seven_pairs c ++ thirteen_orphans c
specials_but c = map_append but_sources (seven_pairs c) (thirteen_orphans c) ∙ ap₂ ◌++◌ (pairs_but c) (orphans_but c)

uncalled_but : (k : List Meld) (l : List Reading) → map but_sources l ≡ l → map but_sources (uncalled k l) ≡ uncalled (map but_source k) l
uncalled_but [] l e = e
uncalled_but (m ∷ k) l e = refl

-- ---- a pair and four melds, the calls and those found in the hand
module _ (k : List Meld) (calls : T (all is_meld k)) where
  melds_but : {l : List Meld} → Pick hand_melds l → map but_source (sorted (k ++ l)) ≡ sorted (map but_source k ++ l)
  melds_but {l} d =
      sorted_but (k ++ l) (all_append is_meld k l calls (picked_melds d))
      ∙ ap sorted (map_append but_source k l ∙ ap (λ (r : List Meld). map but_source k ++ r) (but_hand_melds_holds d))

  found_but :
      (p n : ℕ) (c : ℕ → ℕ)
      → map but_sources (map (λ l. standard p (sorted (k ++ l))) (meld_lists n c)) ≡ map (λ l. standard p (sorted (map but_source k ++ l))) (meld_lists n c)
  unfolding meld_lists
  found_but p n c =
      let F : List Meld → Reading = λ l. standard p (sorted (k ++ l)) in
      let G : List Meld → Reading = λ l. standard p (sorted (map but_source k ++ l)) in
      map_map F but_sources (meld_lists n c)
      ∙ map_members (λ l. but_sources (F l)) G (meld_lists n c) (λ l i. ap (standard p) (melds_but (find_sound n c hand_melds l i).picked))

  at_but : (c : ℕ → ℕ) (p : ℕ) → map but_sources (standards_at c k p) ≡ standards_at c (map but_source k) p
  unfolding standards_at
  at_but c p = go (leb 2 (c p))
    where
      go :
          (b : Bool)
          → map but_sources (cond b (map (λ l. standard p (sorted (k ++ l))) (meld_lists (4 - length k) (less_pair c p))) [])
          ≡ cond b (map (λ l. standard p (sorted (map but_source k ++ l))) (meld_lists (4 - length (map but_source k)) (less_pair c p))) []
      go true =
          found_but p (4 - length k) (less_pair c p)
          ∙ ap (λ (n : ℕ). map (λ l. standard p (sorted (map but_source k ++ l))) (meld_lists (4 - n) (less_pair c p))) (sym (length-map k but_source))
      go false = refl

  -- the readings with the calls k, but for sources
  pub readings_but : (c : ℕ → ℕ) → map but_sources (readings c k) ≡ readings c (map but_source k)
  unfolding readings
  readings_but c =
      map_append but_sources (uncalled k (seven_pairs c ++ thirteen_orphans c)) (flat (standards_at c k) tiles)
      ∙ ap₂ ◌++◌ (uncalled_but k (seven_pairs c ++ thirteen_orphans c) (specials_but c))
      (map_flat but_sources (standards_at c k) (standards_at c (map but_source k)) (at_but c) tiles)

-- ---- a record is as long, whatever the sources
body_but : (r : Reading) → length (body_of (but_sources r)) ≡ length (body_of r)
body_but (pairs ps) = refl
body_but (orphans p) = refl
body_but (standard p ms) = omega (arith, meld_bytes_length_holds ms, meld_bytes_length_holds (map but_source ms), length-map ms but_source)

record_but : (r : Reading) → length (record_of (but_sources r)) ≡ length (record_of r)
record_but r = omega (arith, record_length (but_sources r), record_length r, body_but r)

pub records_but : (rs : List Reading) → length (records (map but_sources rs)) ≡ length (records rs)
records_but rs = flat_length record_of but_sources rs (λ r i. record_but r)
