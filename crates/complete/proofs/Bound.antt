-- The records of a hand of at most 14 tiles never need more bytes than `always_enough` says: for each of at most seven pairs at most 16 readings of
-- `standard_bytes`, and 11 bytes for seven pairs or 5 for thirteen orphans. Assumes nothing.
use mathlib.Core.Path.{◌≡◌, refl, sym, ap, ◌∙◌}
use mathlib.Core.Logic.{⊎_elim}
use mathlib.Core.Bool.{Bool, true, false, cond}
use mathlib.Core.List.Memᴰ
use mathlib.Core.List.{List, [], ◌∷◌, ◌++◌, map, Memᴰ}
use Prim.Native.Nat.{ℕ, ◌+◌, ◌-◌, ◌*◌, ◌^◌, ◌<◌, ◌≤◌}
use native.Mathlib.Nat.{pow-le-pow_right}
use native.Mathlib.Omega.{arith}
use lib.Dec.{T, eqb, leb, leb→le, eqb→eq, lit<}
use lib.ListN.{length, length-append, length-map}
use Rattle.lists.specs.Fold.{all, flat, keep, one, sum}
use Rattle.lists.proofs.Members.{all_append, length_perm, at_most_one}
use Rattle.lists.proofs.Sums.{sum_append}
use Rattle.lists.proofs.Kept.{kept, keep_nodup, keep_none}
use Rattle.tile.specs.Tile.{tiles}
use Rattle.tile.proofs.Tiles.{tile_lt, tiles_nodup}
use Rattle.meld.specs.declared.Meld.{Meld}
use Rattle.meld.specs.Meld.{is_meld, hand_melds, sorted}
use Rattle.meld.proofs.Melds.{picked_melds, sorted_perm}
use Rattle.hand.specs.Reading.{Reading, pairs, orphans, standard}
use Rattle.hand.specs.Readings.{meld_lists, less_pair, standards_at, twos, is_pairs, seven_pairs, is_orphans, thirteen_orphans, uncalled, readings}
use Rattle.hand.specs.Records.{two_bytes, kind_of, body_of, record_of, standard_bytes, always_enough, records}
use Rattle.hand.proofs.Records.{meld_bytes_length_holds}
use Rattle.hand.proofs.Search.{Found, find_sound}
use Rattle.hand.proofs.Lowest.{few}
use Rattle.hand.proofs.Tests.{none_or_two_holds, seven_twos, orphans_exact, one_doubled}

-- ---- the bytes of records
abbrev pub size : Reading → ℕ
size r = length (body_of r) + 4

pub record_length : (r : Reading) → length (record_of r) ≡ size r
unfolding record_of
record_length r =
    omega (
      arith,
      length-append (two_bytes (length (body_of r) + 4)) (two_bytes (kind_of r) ++ body_of r),
      length-append (two_bytes (kind_of r)) (body_of r),
    )

records_length : (rs : List Reading) → length (records rs) ≡ sum size rs
records_length [] = refl
records_length (r ∷ rs) = omega (arith, length-append (record_of r) (records rs), record_length r, records_length rs)

-- ---- a pair: at most 16 readings, each of as many bytes as a standard one has
each_standard : (l : List Reading) → ((r : Reading) → Memᴰ r l → size r ≡ standard_bytes) → sum size l ≡ standard_bytes * length l
each_standard [] f = refl
each_standard (r ∷ l) f =
    let e = f r (Memᴰ.head refl) in
    let g = each_standard l (λ s i. f s (Memᴰ.tail i)) in
    omega arith

module _ (c : ℕ → ℕ) (k : List Meld) (calls : T (all is_meld k)) (four : length k ≤ 4) where
  standard_size : (p : ℕ) (l : List Meld) {d : ℕ → ℕ} → Found (4 - length k) d hand_melds l → size (standard p (sorted (k ++ l))) ≡ standard_bytes
  standard_size p l f =
      omega (
        arith,
        meld_bytes_length_holds (sorted (k ++ l)),
        length_perm (sorted_perm (k ++ l) (all_append is_meld k l calls (picked_melds f.picked))),
        length-append k l,
        f.long,
      )

  module _ (held : (t : ℕ) → t < 34 → c t ≤ 4) where
    sixteen : (p : ℕ) → length (meld_lists (4 - length k) (less_pair c p)) ≤ 16
    sixteen p =
        let a = few (4 - length k) (less_pair c p) (λ u h. let g = held u h in omega arith) in
        let h : 4 - length k ≤ 4 = omega arith in
        let b : 2 ^ (4 - length k) ≤ 2 ^ 4 = pow-le-pow_right {n = 2} (lit< tt) h in
        omega arith

    listed_size : (p : ℕ) → sum size (map (λ l. standard p (sorted (k ++ l))) (meld_lists (4 - length k) (less_pair c p))) ≤ 16 * standard_bytes
    unfolding meld_lists
    listed_size p =
        let ls = meld_lists (4 - length k) (less_pair c p) in
        omega (
          arith,
          sixteen p,
          length-map ls (λ l. standard p (sorted (k ++ l))),
          each_standard (map (λ l. standard p (sorted (k ++ l))) ls)
              (λ r i.
              let a = Memᴰ.of_map (λ l. standard p (sorted (k ++ l))) ls i in
              ap size (sym a.2) ∙ standard_size p a.0 (find_sound (4 - length k) (less_pair c p) hand_melds a.0 a.1)),
        )

    -- a pair costs two tiles
    pair_size : (p : ℕ) → sum size (standards_at c k p) ≤ 8 * standard_bytes * c p
    unfolding standards_at
    pair_size p = go (leb 2 (c p)) (leb→le 2 (c p)) _ (listed_size p)
      where
        go : (b : Bool) → (T b → 2 ≤ c p) → (l : List Reading) → sum size l ≤ 16 * standard_bytes → sum size (cond b l []) ≤ 8 * standard_bytes * c p
        go true f l h = let g = f tt in omega arith
        go false f l h = omega arith

    standards_size : (ts : List ℕ) → sum size (flat (standards_at c k) ts) ≤ 8 * standard_bytes * sum c ts
    standards_size [] = omega arith
    standards_size (t ∷ ts) = omega (arith, pair_size t, standards_size ts, sum_append size (standards_at c k t) (flat (standards_at c k) ts))

-- ---- seven pairs or thirteen orphans: at most 11 bytes
module _ (c : ℕ → ℕ) where
  doubled : length (keep (is_orphans c) tiles) ≤ 1
  doubled =
      at_most_one (keep (is_orphans c) tiles) (keep_nodup (is_orphans c) tiles tiles_nodup)
      (λ p q i j. let a = kept (is_orphans c) tiles i in one_doubled c p q (tile_lt a.0) a.1 (kept (is_orphans c) tiles j).1)

  -- of seven pairs each tile is there twice or not at all, of thirteen orphans one of man 1 and man 9 once
  even : T (is_pairs c) → (t : ℕ) → t < 34 → (c t ≡ 1 → ⊥)
  even s t h e = ⊎_elim (λ f. omega arith) (λ f. omega arith) (none_or_two_holds c s t h)

  must_double : T (is_pairs c) → (p t : ℕ) → t < 34 → (b : Bool) → (T b → t ≡ p) → c t ≡ 1 + one b → t ≡ p
  must_double s p t h true f e = f tt
  must_double s p t h false f e = absurd (even s t h e)

  not_both : T (is_pairs c) → (p : ℕ) → T (is_orphans c p) → ⊥
  not_both s p t =
      let a = must_double s p 0 (lit< tt) (eqb 0 p) (eqb→eq 0 p) (orphans_exact c p t 0 (lit< tt)) in
      let b = must_double s p 8 (lit< tt) (eqb 8 p) (eqb→eq 8 p) (orphans_exact c p t 8 (lit< tt)) in
      omega arith

  orphans_size : (l : List ℕ) → sum size (map orphans l) ≡ 5 * length l
  orphans_size [] = refl
  orphans_size (p ∷ l) = let e = orphans_size l in omega arith

  special_size : sum size (seven_pairs c ++ thirteen_orphans c) ≤ 11
  unfolding seven_pairs thirteen_orphans
  special_size =
      omega (arith, sum_append size (seven_pairs c) (thirteen_orphans c), go (is_pairs c) (λ s. s), orphans_size (keep (is_orphans c) tiles))
    where
      go : (b : Bool) → (T b → T (is_pairs c)) → sum size (cond b (pairs (twos c) ∷ []) []) + 5 * length (keep (is_orphans c) tiles) ≤ 11
      go true f =
          let a = ap length (keep_none (is_orphans c) tiles (λ p i. not_both (f tt) p)) in
          let b = seven_twos c (f tt) in
          omega arith
      go false f = let h = doubled in omega arith

  uncalled_size : (k : List Meld) (l : List Reading) → sum size l ≤ 11 → sum size (uncalled k l) ≤ 11
  uncalled_size [] l h = h
  uncalled_size (m ∷ k) l h = omega arith

pub enough :
    (c : ℕ → ℕ) (k : List Meld) → T (all is_meld k) → length k ≤ 4 → sum c tiles ≤ 14 → ((t : ℕ) → t < 34 → c t ≤ 4)
    → length (records (readings c k)) ≤ always_enough
unfolding readings
enough c k calls four few-tiles held =
    let a = sum_append size (uncalled k (seven_pairs c ++ thirteen_orphans c)) (flat (standards_at c k) tiles) in
    let b = uncalled_size c k (seven_pairs c ++ thirteen_orphans c) (special_size c) in
    let d = standards_size c k calls four held tiles in
    omega (arith, records_length (readings c k))
