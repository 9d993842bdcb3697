-- The search for the melds of the renamed hand finds the melds of the hand, renamed, each list once. Assumes nothing.
use mathlib.Core.Path.{◌≡◌, sym, ap, ◌∙◌, subst}
use mathlib.Core.List.Memᴰ
use mathlib.Core.List.Permᴰ
use mathlib.Core.List.{List, map, Memᴰ, Permᴰ}
use Prim.Native.Nat.{ℕ, ◌<◌}
use lib.Dec.{T}
use lib.ListN.{length-map}
use Rattle.lists.specs.Fold.{sum}
use Rattle.lists.specs.Order.{Pick, arrange}
use Rattle.lists.proofs.Permuted.{total_perm, map_perm}
use Rattle.lists.proofs.Members.{same_perm, nodup_map_id, length_perm, all_mem, map_members, map_map, map_id}
use Rattle.lists.proofs.Arranged.{pick_mem}
use Rattle.meld.specs.declared.Meld.{Meld}
use Rattle.meld.specs.Meld.{is_hand_meld, is_meld, eq_meld, hand_melds, uses}
use Rattle.meld.proofs.Melds.{hand_melds_nodup_holds, in_hand_melds_holds, is_hand_meld_holds, picked_melds, arrange_same, arrange_perm, arrange_pick, arrange_id}
use Rattle.hand.specs.Readings.{find, meld_lists}
use Rattle.hand.proofs.Search.{Exact, Found, find_sound, find_complete, find_nodup}
use Rattle.renamed.proofs.Keeps.{InStep, Keeps, SameCounts, turned, counts_back, uses_moved}

-- melds of a hand with g at each, in ascending order again
abbrev pub ren_hand : (Meld → Meld) → List Meld → List Meld
ren_hand g l = arrange eq_meld hand_melds (map g l)

module _ {f : ℕ → ℕ} {g : Meld → Meld} (s : InStep f g) {l : List Meld} (d : Pick hand_melds l) where
  renamed_in : (x : Meld) → Memᴰ x (map g l) → Memᴰ x hand_melds
  renamed_in x i =
      let r = Memᴰ.of_map g l i in
      in_hand_melds_holds x (subst (λ (y : Meld). T (is_hand_meld y)) r.2 (s.hand r.0 (is_hand_meld_holds r.0 (pick_mem d r.1))))

  pub ren_hand_perm_holds : Permᴰ (ren_hand g l) (map g l)
  ren_hand_perm_holds = arrange_perm hand_melds hand_melds_nodup_holds (map g l) renamed_in

module _ {f f' : ℕ → ℕ} {g g' : Meld → Meld} (k : Keeps f f' g g') where
  ren_hand_undo_holds : {l : List Meld} → Pick hand_melds l → ren_hand g' (ren_hand g l) ≡ l
  ren_hand_undo_holds {l} d =
      arrange_same hand_melds (map_perm g' (ren_hand_perm_holds k.forth d))
      ∙ ap (arrange eq_meld hand_melds)
      (map_map g g' l ∙ map_members (λ m. g' (g m)) (λ m. m) l (λ m i. k.meld_forth m (all_mem is_meld (picked_melds d) i)) ∙ map_id l)
      ∙ arrange_id d hand_melds_nodup_holds

  module _ (c d : ℕ → ℕ) (e : SameCounts f c d) where
    exact_moved : (l : List Meld) → Pick hand_melds l → Exact c l → Exact d (ren_hand g l)
    exact_moved l p x t h =
        let u = f' t in
        let j : u < 34 = k.back.tile t h in
        ap d (sym (k.tile_back t h)) ∙ e u j ∙ x u j ∙ sym (uses_moved k.forth u j l (picked_melds p))
        ∙ ap (λ (v : ℕ). sum (λ m. uses m v) (map g l)) (k.tile_back t h)
        ∙ total_perm (map_perm (λ m. uses m t) (Permᴰ.symm (ren_hand_perm_holds k.forth p)))

    found_moved : (n : ℕ) (l : List Meld) → Found n c hand_melds l → Found n d hand_melds (ren_hand g l)
    found_moved n l q =
        record {
          picked = arrange_pick hand_melds (map g l);
          long = length_perm (ren_hand_perm_holds k.forth q.picked) ∙ length-map l g ∙ q.long;
          exact = exact_moved l q.picked q.exact;
        }

    in_find : (n : ℕ) (l : List Meld) → Memᴰ l (find n c hand_melds) → Memᴰ (ren_hand g l) (find n d hand_melds)
    in_find n l i =
        let q = found_moved n l (find_sound n c hand_melds l i) in
        find_complete q.picked n d q.long q.exact

-- the lists of melds that use up d are those that use up c, renamed
pub find_moved :
    {f f' : ℕ → ℕ} {g g' : Meld → Meld} → Keeps f f' g g' → (c d : ℕ → ℕ) → SameCounts f c d
    → (n : ℕ) → Permᴰ (meld_lists n d) (map (ren_hand g) (meld_lists n c))
unfolding meld_lists
find_moved {f} {f'} {g} {g'} k c d e n =
    same_perm (find n d hand_melds) (map (ren_hand g) (find n c hand_melds)) (find_nodup n d hand_melds hand_melds_nodup_holds)
    (nodup_map_id (ren_hand g) (ren_hand g') (find n c hand_melds) (find_nodup n c hand_melds hand_melds_nodup_holds)
    (λ l i. ren_hand_undo_holds k (find_sound n c hand_melds l i).picked))
    (λ l i.
    let p = (find_sound n d hand_melds l i).picked in
    Memᴰ.cast (sym (ren_hand_undo_holds (turned k) p)) (Memᴰ.map (ren_hand g) (in_find (turned k) d c (counts_back k c d e) n l i)))
    (λ l i.
    let r = Memᴰ.of_map (ren_hand g) (find n c hand_melds) i in
    Memᴰ.cast (sym r.2) (in_find k c d e n r.0 r.1))
