-- The readings of a renamed hand are the readings of the hand, renamed. Assumes nothing.
use mathlib.Core.Path.{◌≡◌, refl, sym, ap, ap₂, ◌∙◌, subst}
use mathlib.Core.Bool.{Bool, ◌&&◌, ◌||◌, cond}
use mathlib.Core.List.Permᴰ
use mathlib.Core.List.{List, [], ◌∷◌, ◌++◌, map, Permᴰ}
use Prim.Native.Nat.{ℕ, ◌+◌, ◌-◌, ◌<◌}
use lib.Dec.{T, eqb, ltb, leb, eqb→eq, ltb→lt, eqb_refl}
use lib.ListN.{length, length-map}
use Rattle.lists.specs.Fold.{all, flat, keep, one}
use Rattle.lists.specs.Order.{Pick, arrange}
use Rattle.lists.proofs.Permuted.{all_over, map_perm}
use Rattle.lists.proofs.Members.{perm_eq, append_both, map_append, map_members, map_map, length_perm, flat_perm, flat_moved, all_append, cond_moved}
use Rattle.lists.proofs.Arranged.{arrange_same, arrange_id}
use Rattle.lists.proofs.Kept.{keep_pick}
use Rattle.tile.specs.Tile.{is_terminal_or_honor, tiles}
use Rattle.tile.specs.declared.Renaming.{Renaming}
use Rattle.tile.specs.Renaming.{ren}
use Rattle.tile.proofs.Tiles.{tiles_nodup}
use Rattle.meld.specs.declared.Meld.{Meld}
use Rattle.meld.specs.Meld.{is_meld, hand_melds, melds, sorted}
use Rattle.meld.specs.Renamed.{ren_meld}
use Rattle.meld.proofs.Melds as meld
use Rattle.hand.specs.Reading.{Reading, pairs, orphans, standard}
use Rattle.hand.specs.Readings.{meld_lists, less_pair, standards_at, twos, is_pairs, seven_pairs, is_orphans, thirteen_orphans, uncalled, readings}
use Rattle.hand.proofs.Search.{find_sound}
use Rattle.renamed.specs.Renamed.{changed, ren_reading}
use Rattle.renamed.proofs.Keeps.{Keeps, SameCounts, tiles_eqb, tiles_perm, tiles_over, each_stays, keeps}
use Rattle.renamed.proofs.Melds.{ren_hand, ren_hand_perm_holds, find_moved}

uncalled_moved :
    (g : Meld → Meld) (h : Reading → Reading) (k : List Meld) (l m : List Reading) → Permᴰ l (map h m)
    → Permᴰ (uncalled (map g k) l) (map h (uncalled k m))
uncalled_moved g h [] l m d = d
uncalled_moved g h (x ∷ k) l m d = Permᴰ.nil

module _ {f f' : ℕ → ℕ} {g g' : Meld → Meld} (s : Keeps f f' g g') where
  -- where q answers of a renamed tile as p of the tile, q keeps of the tiles what p keeps, renamed
  keep_moved :
      (p q : ℕ → Bool) → ((t : ℕ) → t < 34 → q (f t) ≡ p t) → Permᴰ (keep q tiles) (map f (keep p tiles))
  keep_moved p q law =
      Permᴰ.trans (flat_perm (λ t. cond (q t) (t ∷ []) []) (Permᴰ.symm (tiles_perm s)))
      (flat_moved (λ t. ltb t 34) f f (λ t. cond (p t) (t ∷ []) []) (λ t. cond (q t) (t ∷ []) [])
      (λ t h. cond_moved f (q (f t)) (p t) (f t ∷ []) (t ∷ []) (law t (ltb→lt t 34 h)) (perm_eq refl)) tiles tt)

  module _ (c d : ℕ → ℕ) (e : SameCounts f c d) where
    -- ---- seven pairs
    twos_moved : Permᴰ (twos d) (map f (twos c))
    twos_moved = keep_moved (λ t. eqb (c t) 2) (λ t. eqb (d t) 2) (λ t h. ap (λ (n : ℕ). eqb n 2) (e t h))

    twos_arranged : twos d ≡ arrange eqb tiles (map f (twos c))
    twos_arranged =
        sym (arrange_id eqb eqb→eq eqb_refl (keep_pick (λ t. eqb (d t) 2) tiles) tiles_nodup)
        ∙ arrange_same eqb eqb→eq eqb_refl tiles twos_moved

    pairs_test : is_pairs d ≡ is_pairs c
    pairs_test =
        ap₂ ◌&&◌ (each_stays s c d e (λ n. eqb n 0 || eqb n 2))
        (ap (λ (n : ℕ). eqb n 7) (length_perm twos_moved ∙ length-map (twos c) f))

    pairs_moved : Permᴰ (seven_pairs d) (map (changed f g) (seven_pairs c))
    unfolding seven_pairs
    pairs_moved =
        cond_moved (changed f g) (is_pairs d) (is_pairs c) (pairs (twos d) ∷ []) (pairs (twos c) ∷ []) pairs_test
        (perm_eq (ap (λ (l : List ℕ). pairs l ∷ []) twos_arranged))

    -- ---- thirteen orphans
    orphans_test : (p : ℕ) → p < 34 → is_orphans d (f p) ≡ is_orphans c p
    orphans_test p h =
        ap₂ ◌&&◌ (s.forth.outer p h)
        (all_over (tiles_over s) (λ t. eqb (c t) (one (is_terminal_or_honor t) + one (eqb t p)))
        (λ t. eqb (d t) (one (is_terminal_or_honor t) + one (eqb t (f p))))
        (λ t i.
        let j : t < 34 = ltb→lt t 34 i in
        λ z. eqb (e t j z) (one (s.forth.outer t j z) + one (tiles_eqb s t p j h z))))

    orphans_moved : Permᴰ (thirteen_orphans d) (map (changed f g) (thirteen_orphans c))
    unfolding thirteen_orphans
    orphans_moved =
        let l = keep (is_orphans c) tiles in
        Permᴰ.trans (map_perm orphans (keep_moved (is_orphans c) (is_orphans d) orphans_test))
        (perm_eq (map_map f orphans l ∙ sym (map_map orphans (changed f g) l)))

    special_moved : Permᴰ (seven_pairs d ++ thirteen_orphans d) (map (changed f g) (seven_pairs c ++ thirteen_orphans c))
    special_moved =
        Permᴰ.trans (append_both (thirteen_orphans d) (map (changed f g) (thirteen_orphans c)) pairs_moved orphans_moved)
        (perm_eq (sym (map_append (changed f g) (seven_pairs c) (thirteen_orphans c))))

    -- ---- a pair and four melds
    pair_counts : (p : ℕ) → p < 34 → SameCounts f (less_pair c p) (less_pair d (f p))
    pair_counts p h t j = ap₂ (λ (n : ℕ) (b : Bool). n - cond b 2 0) (e t j) (tiles_eqb s t p j h)

    module _ (k : List Meld) (calls : T (all is_meld k)) where
      melds_moved : {l : List Meld} → Pick hand_melds l → sorted (map g k ++ ren_hand g l) ≡ sorted (map g (sorted (k ++ l)))
      melds_moved {l} p =
          meld.arrange_same melds
          (Permᴰ.trans (Permᴰ.append_left (map g k) (ren_hand_perm_holds s.forth p))
          (Permᴰ.trans (perm_eq (sym (map_append g k l))) (map_perm g (Permᴰ.symm (meld.sorted_perm (k ++ l) (all_append is_meld k l calls (meld.picked_melds p)))))))

      found_moved :
          (p : ℕ) → p < 34 → (n : ℕ)
          → Permᴰ (map (λ l. standard (f p) (sorted (map g k ++ l))) (meld_lists n (less_pair d (f p))))
          (map (changed f g) (map (λ l. standard p (sorted (k ++ l))) (meld_lists n (less_pair c p))))
      unfolding meld_lists
      found_moved p h n =
          let L = meld_lists n (less_pair c p) in
          let F : List Meld → Reading = λ l. standard p (sorted (k ++ l)) in
          let G : List Meld → Reading = λ l. standard (f p) (sorted (map g k ++ l)) in
          Permᴰ.trans (map_perm G (find_moved s (less_pair c p) (less_pair d (f p)) (pair_counts p h) n))
          (perm_eq
          (map_map (ren_hand g) G L
          ∙ map_members (λ l. G (ren_hand g l)) (λ l. changed f g (F l)) L
          (λ l i. ap (standard (f p)) (melds_moved (find_sound n (less_pair c p) hand_melds l i).picked))
          ∙ sym (map_map F (changed f g) L)))

      at_moved : (p : ℕ) → T (ltb p 34) → Permᴰ (standards_at d (map g k) (f p)) (map (changed f g) (standards_at c k p))
      unfolding standards_at
      at_moved p i =
          let h : p < 34 = ltb→lt p 34 i in
          cond_moved (changed f g) (leb 2 (d (f p))) (leb 2 (c p)) _ (map (λ l. standard p (sorted (k ++ l))) (meld_lists (4 - length k) (less_pair c p)))
          (ap (leb 2) (e p h))
          (subst
          (λ (j : ℕ).
          Permᴰ (map (λ l. standard (f p) (sorted (map g k ++ l))) (meld_lists (4 - j) (less_pair d (f p))))
          (map (changed f g) (map (λ l. standard p (sorted (k ++ l))) (meld_lists (4 - length k) (less_pair c p)))))
          (sym (length-map k g)) (found_moved p h (4 - length k)))

      standards_moved : Permᴰ (flat (standards_at d (map g k)) tiles) (map (changed f g) (flat (standards_at c k) tiles))
      standards_moved =
          Permᴰ.trans (flat_perm (standards_at d (map g k)) (Permᴰ.symm (tiles_perm s)))
          (flat_moved (λ t. ltb t 34) f (changed f g) (standards_at c k) (standards_at d (map g k)) at_moved tiles tt)

      pub readings_moved : Permᴰ (readings d (map g k)) (map (changed f g) (readings c k))
      unfolding readings
      readings_moved =
          Permᴰ.trans
          (append_both (flat (standards_at d (map g k)) tiles) (map (changed f g) (flat (standards_at c k) tiles))
          (uncalled_moved g (changed f g) k (seven_pairs d ++ thirteen_orphans d) (seven_pairs c ++ thirteen_orphans c) special_moved)
          standards_moved)
          (perm_eq (sym (map_append (changed f g) (uncalled k (seven_pairs c ++ thirteen_orphans c)) (flat (standards_at c k) tiles))))

-- ---- the renamings
pub readings_renamed :
    (ρ : Renaming) (c d : ℕ → ℕ) → ((t : ℕ) → t < 34 → d (ren ρ t) ≡ c t) → (k : List Meld) → T (all is_meld k)
    → Permᴰ (readings d (map (ren_meld ρ) k)) (map (ren_reading ρ) (readings c k))
readings_renamed ρ = readings_moved (keeps ρ)
