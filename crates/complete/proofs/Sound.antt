-- Each reading that is listed is one that the tiles admit. Assumes nothing.
use mathlib.Core.Path.{◌≡◌, refl, sym, subst}
use mathlib.Core.Logic.{⊎_elim}
use mathlib.Core.Bool.{Bool, true, false, cond}
use mathlib.Core.List.{List, [], ◌++◌, Memᴰ}
use Prim.Native.Nat.{ℕ, ◌-◌, ◌*◌, ◌<◌, ◌≤◌}
use native.Mathlib.Omega.{arith}
use lib.Dec.{T, eqb, eqb→eq, eqb_refl}
use lib.ListN.{length}
use Rattle.lists.specs.Fold.{count}
use Rattle.lists.proofs.Finite.{and_left}
use Rattle.lists.proofs.Members.{all_intro}
use Rattle.lists.proofs.Arranged.{pick_mem, times_zero}
use Rattle.lists.proofs.Counted.{times_in, times_once}
use Rattle.lists.proofs.Kept.{in_keep, kept, keep_nodup, keep_ascends}
use Rattle.tile.specs.Tile.{is_terminal_or_honor, tiles}
use Rattle.tile.proofs.Tiles.{in_tiles, tile_lt, tiles_nodup, tiles_ascend}
use Rattle.meld.specs.declared.Meld.{Meld}
use Rattle.meld.specs.Meld.{is_hand_meld, sorted}
use Rattle.meld.proofs.Melds.{is_hand_meld_holds}
use Rattle.hand.specs.Reading.{Reading, AdmitsPairs, AdmitsOrphans, AdmitsStandard, Admits}
use Rattle.hand.specs.Readings.{twos, is_pairs, is_orphans, readings}
use Rattle.hand.proofs.Tests.{none_or_two_holds, seven_twos, twos_tiles, orphans_exact}
use Rattle.complete.proofs.Listed.{Hand, Listed, as_pairs, as_orphans, as_standard, listed}

module _ (c : ℕ → ℕ) where
  -- ---- seven pairs
  two_count : (t : ℕ) → t < 34 → c t ≡ 2 → count (eqb t) (twos c) ≡ 1
  two_count t h e =
      let i = in_keep (λ t. eqb (c t) 2) (in_tiles t h) (subst (λ (n : ℕ). T (eqb n 2)) (sym e) tt) in
      omega (arith, times_in eqb eqb→eq eqb_refl i, times_once eqb eqb→eq eqb_refl t (twos c) (keep_nodup (λ t. eqb (c t) 2) tiles tiles_nodup))

  zero_count : (t : ℕ) → c t ≡ 0 → count (eqb t) (twos c) ≡ 0
  zero_count t e =
      times_zero eqb eqb→eq eqb_refl t (twos c)
      (λ i. let f = eqb→eq (c t) 2 (kept (λ t. eqb (c t) 2) tiles i).1 in omega arith)

  twos_exact : T (is_pairs c) → (t : ℕ) → t < 34 → c t ≡ 2 * count (eqb t) (twos c)
  twos_exact s t h =
      ⊎_elim (λ e. omega (arith, zero_count t e)) (λ e. omega (arith, two_count t h e)) (none_or_two_holds c s t h)

  pairs_admitted : (k : List Meld) → k ≡ [] → T (is_pairs c) → AdmitsPairs c k (twos c)
  pairs_admitted k u s =
      record {
        uncalled = u;
        seven = seven_twos c s;
        ascending = keep_ascends (λ t. eqb (c t) 2) tiles tiles_ascend;
        tiles = twos_tiles c;
        exact = twos_exact s;
      }

  -- ---- thirteen orphans
  orphans_admitted : (k : List Meld) → k ≡ [] → (p : ℕ) → T (is_orphans c p) → AdmitsOrphans c k p
  orphans_admitted k u p s =
      record {
        uncalled = u;
        orphan = and_left (is_terminal_or_honor p) _ s;
        exact = orphans_exact c p s;
      }

  -- ---- a pair and four melds
  pair_le : (p t : ℕ) (b : Bool) → (T b → t ≡ p) → 2 ≤ c p → cond b 2 0 ≤ c t
  pair_le p t true f h = subst (λ (x : ℕ). 2 ≤ c x) (sym (f tt)) h
  pair_le p t false f h = omega arith

  standard_admitted :
      (k : List Meld) → length k ≤ 4 → (p : ℕ) → p < 34 → 2 ≤ c p → (l : List Meld) → Hand (4 - length k) c p l
      → AdmitsStandard c k p (sorted (k ++ l))
  standard_admitted k n p q two l f =
      record {
        hand = l;
        closed = all_intro is_hand_meld l (λ m i. is_hand_meld_holds m (pick_mem f.picked i));
        four = let e = f.long in omega arith;
        pair = q;
        exact = λ t h.
            let e = f.exact t h in
            let g = pair_le p t (eqb t p) (eqb→eq t p) two in
            omega arith;
        whole = refl;
      }

pub listed_admitted : (c : ℕ → ℕ) (k : List Meld) → length k ≤ 4 → (r : Reading) → Memᴰ r (readings c k) → Admits c k r
listed_admitted c k n r i = go (listed c k i)
  where
    go : Listed c k r → Admits c k r
    go (as_pairs u s e) = subst (Admits c k) (sym e) (pairs_admitted c k u s)
    go (as_orphans u p j s e) = subst (Admits c k) (sym e) (orphans_admitted c k u p s)
    go (as_standard p j two l f e) = subst (Admits c k) (sym e) (standard_admitted c k n p (tile_lt j) two l f)
