-- Each reading that the tiles admit is listed. Assumes nothing.
use mathlib.Core.Path.{◌≡◌, sym, ap, ◌∙◌, subst}
use mathlib.Core.Bool.{Bool, true, false, ◌||◌, cond}
use mathlib.Core.List.Memᴰ
use mathlib.Core.List.Permᴰ
use mathlib.Core.List.{List, [], ◌∷◌, ◌++◌, Memᴰ, Permᴰ}
use Prim.Native.Nat.{ℕ, zero, suc, ◌+◌, ◌-◌, ◌*◌, ◌<◌, ◌≤◌}
use native.Mathlib.Omega.{arith}
use lib.Dec.{T, eqb, ltb, leb, le→leb, ltb→lt, eqb→eq, eqb_refl}
use lib.ListN.{length}
use Rattle.lists.specs.Fold.{all, count, flat, one, sum}
use Rattle.lists.specs.Order.{arrange}
use Rattle.lists.proofs.Finite.{and_left, and_right, and_both, or_elim, or_left, or_right}
use Rattle.lists.proofs.Permuted.{total_perm, map_perm}
use Rattle.lists.proofs.Members.{all_mem, all_intro, flat_in, in_true, length_perm}
use Rattle.lists.proofs.Counted.{times_in, in_times, times_once}
use Rattle.lists.proofs.Kept.{in_keep, kept, keep_ascends, ascending_nodup, ascending_eq}
use Rattle.tile.specs.Tile.{is_terminal, is_honor, is_terminal_or_honor, tiles}
use Rattle.tile.proofs.Tiles.{in_tiles, tile_lt, tiles_ascend}
use Rattle.meld.specs.declared.Meld.{Meld}
use Rattle.meld.specs.Meld.{is_hand_meld, eq_meld, hand_melds, melds, sorted, uses}
use Rattle.meld.proofs.Melds.{hand_melds_nodup_holds, in_hand_melds_holds, arrange_same, arrange_perm, arrange_pick}
use Rattle.hand.specs.Reading.{Reading, pairs, orphans, standard, AdmitsPairs, AdmitsOrphans, AdmitsStandard, Admits}
use Rattle.hand.specs.Readings.{meld_lists, less_pair, standards_at, twos, is_pairs, seven_pairs, is_orphans, thirteen_orphans, uncalled, readings}
use Rattle.hand.proofs.Search.{find_complete}

pub orphan_lt : (p : ℕ) → T (is_terminal_or_honor p) → p < 34
orphan_lt p t =
    or_elim (is_terminal p) (is_honor p) t (λ s. let h = ltb→lt p 27 (and_left (ltb p 27) _ s) in omega arith)
    (λ s. ltb→lt p 34 (and_right (leb 27 p) (ltb p 34) s))

module _ (c : ℕ → ℕ) (k : List Meld) where
  -- ---- seven pairs
  module _ (ps : List ℕ) (a : AdmitsPairs c k ps) where
    once : (t : ℕ) → count (eqb t) ps ≤ 1
    once t = times_once eqb eqb→eq eqb_refl t ps (ascending_nodup ps a.ascending)

    two : (t : ℕ) → Memᴰ t ps → Memᴰ t (twos c)
    two t i =
        let h = ltb→lt t 34 (all_mem (λ t. ltb t 34) a.tiles i) in
        let e : c t ≡ 2 = omega (arith, a.exact t h, once t, times_in eqb eqb→eq eqb_refl i) in
        in_keep (λ t. eqb (c t) 2) (in_tiles t h) (subst (λ (n : ℕ). T (eqb n 2)) (sym e) tt)

    paired : (t : ℕ) → Memᴰ t (twos c) → Memᴰ t ps
    paired t i =
        let b = kept (λ t. eqb (c t) 2) tiles i in
        let e = eqb→eq (c t) 2 b.1 in
        in_times eqb eqb→eq eqb_refl t ps (omega (arith, a.exact t (tile_lt b.0), e))

    pairs_are : ps ≡ twos c
    pairs_are = ascending_eq ps (twos c) a.ascending (keep_ascends (λ t. eqb (c t) 2) tiles tiles_ascend) two paired

    even : (t n : ℕ) → n ≤ 1 → c t ≡ 2 * n → T (eqb (c t) 0 || eqb (c t) 2)
    even t zero h e = or_left (eqb (c t) 0) (eqb (c t) 2) (subst (λ (n : ℕ). T (eqb n 0)) (sym e) tt)
    even t (suc n) h e =
        let f : c t ≡ 2 = omega arith in
        or_right (eqb (c t) 0) (eqb (c t) 2) (subst (λ (n : ℕ). T (eqb n 2)) (sym f) tt)

    is_pairs_holds : T (is_pairs c)
    is_pairs_holds =
        and_both (all (λ t. eqb (c t) 0 || eqb (c t) 2) tiles) (eqb (length (twos c)) 7)
        (all_intro (λ t. eqb (c t) 0 || eqb (c t) 2) tiles (λ t i. even t (count (eqb t) ps) (once t) (a.exact t (tile_lt i))))
        (subst (λ (n : ℕ). T (eqb n 7)) (sym (ap length (sym pairs_are) ∙ a.seven)) tt)

    in_seven : Memᴰ (pairs ps) (seven_pairs c)
    unfolding seven_pairs
    in_seven = in_true (is_pairs c) (pairs (twos c) ∷ []) is_pairs_holds (Memᴰ.head (ap pairs pairs_are))

  -- ---- thirteen orphans
  module _ (p : ℕ) (a : AdmitsOrphans c k p) where
    is_orphans_holds : T (is_orphans c p)
    is_orphans_holds =
        and_both (is_terminal_or_honor p) (all (λ t. eqb (c t) (one (is_terminal_or_honor t) + one (eqb t p))) tiles) a.orphan
        (all_intro (λ t. eqb (c t) (one (is_terminal_or_honor t) + one (eqb t p))) tiles
        (λ t i. subst (λ (n : ℕ). T (eqb (c t) n)) (a.exact t (tile_lt i)) (eqb_refl (c t))))

    in_thirteen : Memᴰ (orphans p) (thirteen_orphans c)
    unfolding thirteen_orphans
    in_thirteen = Memᴰ.map orphans (in_keep (is_orphans c) (in_tiles p (orphan_lt p a.orphan)) is_orphans_holds)

  -- what stands only where nothing is called
  in_uncalled : (j : List Meld) (l : List Reading) {r : Reading} → j ≡ [] → Memᴰ r l → Memᴰ r (uncalled j l)
  in_uncalled j l {r} e i = subst (λ (h : List Meld). Memᴰ r (uncalled h l)) (sym e) i

  -- ---- a pair and four melds
  module _ (p : ℕ) (ms : List Meld) (a : AdmitsStandard c k p ms) where
    ordered : Permᴰ (arrange eq_meld hand_melds a.hand) a.hand
    ordered = arrange_perm hand_melds hand_melds_nodup_holds a.hand (λ x i. in_hand_melds_holds x (all_mem is_hand_meld a.closed i))

    pair_there : (b : Bool) → T b → c p ≡ cond b 2 0 + sum (λ m. uses m p) a.hand → 2 ≤ c p
    pair_there true t e = omega arith
    pair_there false t e = absurd t

    in_lists : Memᴰ (arrange eq_meld hand_melds a.hand) (meld_lists (4 - length k) (less_pair c p))
    unfolding meld_lists
    in_lists =
        find_complete (arrange_pick hand_melds a.hand) (4 - length k) (less_pair c p) (let e = length_perm ordered in let f = a.four in omega arith)
        (λ t h. let e = a.exact t h in let s = total_perm (map_perm (λ m. uses m t) ordered) in omega arith)

    same : standard p ms ≡ standard p (sorted (k ++ arrange eq_meld hand_melds a.hand))
    same = ap (standard p) (a.whole ∙ arrange_same melds (Permᴰ.append_left k (Permᴰ.symm ordered)))

    in_standards : Memᴰ (standard p ms) (standards_at c k p)
    unfolding standards_at
    in_standards =
        in_true (leb 2 (c p)) _ (le→leb 2 (c p) (pair_there (eqb p p) (eqb_refl p) (a.exact p a.pair)))
        (Memᴰ.cast same (Memᴰ.map (λ l. standard p (sorted (k ++ l))) in_lists))

pub admitted_listed : (c : ℕ → ℕ) (k : List Meld) (r : Reading) → Admits c k r → Memᴰ r (readings c k)
unfolding readings
admitted_listed c k (pairs ps) a =
    Memᴰ.append_left (flat (standards_at c k) tiles)
    (in_uncalled c k k (seven_pairs c ++ thirteen_orphans c) a.uncalled (Memᴰ.append_left (thirteen_orphans c) (in_seven c k ps a)))
admitted_listed c k (orphans p) a =
    Memᴰ.append_left (flat (standards_at c k) tiles)
    (in_uncalled c k k (seven_pairs c ++ thirteen_orphans c) a.uncalled (Memᴰ.append_right (seven_pairs c) (in_thirteen c k p a)))
admitted_listed c k (standard p ms) a =
    Memᴰ.append_right (uncalled k (seven_pairs c ++ thirteen_orphans c))
    (flat_in (standards_at c k) (in_tiles p a.pair) (in_standards c k p ms a))
