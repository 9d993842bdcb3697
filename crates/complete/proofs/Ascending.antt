-- The readings stand in the order of their records. Assumes nothing.
use mathlib.Core.Path.{◌≡◌, refl, sym, subst₂, ap, ◌∙◌}
use mathlib.Core.Logic.{inl, inr}
use mathlib.Core.List.{List, [], ◌∷◌, ◌++◌, Memᴰ}
use Prim.Native.Nat.{ℕ, ◌+◌, ◌-◌, ◌<◌}
use native.Mathlib.Omega.{arith}
use lib.Dec.{T, leb}
use lib.ListN.{length}
use Rattle.lists.specs.Fold.{flat, keep}
use Rattle.lists.specs.Order.{Pairwise, Lex, times}
use Rattle.lists.proofs.Members.{flat_mem, length_perm}
use Rattle.lists.proofs.Relations.{pairwise_append, pairwise_map, pairwise_flat, pairwise_single, cond_pairwise}
use Rattle.lists.proofs.Counted.{arranged_length}
use Rattle.lists.proofs.Kept.{keep_ascends}
use Rattle.tile.specs.Tile.{tiles}
use Rattle.tile.proofs.Tiles.{tiles_ascend}
use Rattle.meld.specs.declared.Meld.{Meld}
use Rattle.meld.specs.Meld.{is_hand_meld, eq_meld, hand_melds, melds, sorted}
use Rattle.meld.proofs.Melds.{hand_melds_nodup_holds, is_hand_meld_holds, picked_melds, sorted_perm}
use Rattle.hand.specs.Reading.{Reading, pairs, orphans, standard}
use Rattle.hand.specs.Readings.{meld_lists, less_pair, standards_at, twos, is_pairs, seven_pairs, is_orphans, thirteen_orphans, uncalled, readings}
use Rattle.hand.specs.Records.{kind_of, body_of, Before}
use Rattle.hand.proofs.Search.{find_sound}
use Rattle.complete.proofs.Listed.{Hand, in_uncalled, in_standards_at_holds, seven_kind, orphan_kind, special_kind, standard_kind}
use Rattle.complete.proofs.Lower.{Lower, none_of, find_lower, lower_append, lower_melds, lower_first}

-- a reading of a lower kind comes first, and of two of one kind the one whose first byte is less
kind_first : (x y : Reading) → kind_of x < kind_of y → Before x y
kind_first x y h = inl h

body_first : (x y : Reading) {a b : ℕ} {l m : List ℕ} → kind_of x ≡ kind_of y → body_of x ≡ a ∷ l → body_of y ≡ b ∷ m → a < b → Before x y
body_first x y e f g h = inr (e, subst₂ Lex (sym f) (sym g) (inl h))

module _ (c : ℕ → ℕ) (k : List Meld) where
  -- ---- the standard readings with one pair
  hand_length : (n p : ℕ) (l : List Meld) → Hand n c p l → length (sorted (k ++ l)) ≡ length (sorted k) + n
  hand_length n p l f =
      omega (
        arith,
        arranged_length eq_meld melds k l,
        length_perm (sorted_perm l (picked_melds f.picked)),
        f.long,
      )

  no_other : (n p : ℕ) (l : List Meld) → Hand n c p l → (y : Meld) → (T (is_hand_meld y) → ⊥) → times eq_meld y l ≡ 0
  no_other n p l f y g = none_of y hand_melds l f.picked (λ j. g (is_hand_meld_holds y j))

  at_ascends : (p : ℕ) → Pairwise Before (standards_at c k p)
  unfolding standards_at meld_lists
  at_ascends p =
      let n = 4 - length k in
      let found = find_sound n (less_pair c p) hand_melds in
      cond_pairwise Before (leb 2 (c p)) _
      (pairwise_map (Lower hand_melds) Before (λ l. standard p (sorted (k ++ l))) (meld_lists n (less_pair c p)) (find_lower n (less_pair c p) hand_melds hand_melds_nodup_holds)
      (λ a b i j d.
      let f = found a i in
      let g = found b j in
      inr (
        refl,
        inr (
          refl,
          lower_first (lower_append k (lower_melds a b (λ y o. no_other n p a f y o ∙ sym (no_other n p b g y o)) d))
              (hand_length n p a f ∙ sym (hand_length n p b g)),
        ),
      )))

  at_first : (p : ℕ) (r : Reading) → Memᴰ r (standards_at c k p) → (l : List ℕ) × (body_of r ≡ p ∷ l)
  at_first p r i = (_, ap body_of (in_standards_at_holds c k p i).3)

  standards_ascend : Pairwise Before (flat (standards_at c k) tiles)
  standards_ascend =
      pairwise_flat ◌<◌ Before (standards_at c k) tiles tiles_ascend at_ascends
      (λ a b x y h i j. body_first x y (standard_kind c k a i ∙ sym (standard_kind c k b j)) (at_first a x i).1 (at_first b y j).1 h)

  -- ---- seven pairs and thirteen orphans
  special_ascend : Pairwise Before (seven_pairs c ++ thirteen_orphans c)
  unfolding seven_pairs thirteen_orphans
  special_ascend =
      pairwise_append Before (seven_pairs c) (thirteen_orphans c)
      (cond_pairwise Before (is_pairs c) (pairs (twos c) ∷ []) (pairwise_single Before (pairs (twos c))))
      (pairwise_map ◌<◌ Before orphans (keep (is_orphans c) tiles) (keep_ascends (is_orphans c) tiles tiles_ascend) (λ x y i j h. inr (refl, inl h)))
      (λ x y i j. let e = seven_kind c i in let f = orphan_kind c j in kind_first x y (omega arith))

  uncalled_ascend : (j : List Meld) (l : List Reading) → Pairwise Before l → Pairwise Before (uncalled j l)
  uncalled_ascend [] l h = h
  uncalled_ascend (m ∷ j) l h = tt

pub readings_ascend : (c : ℕ → ℕ) (k : List Meld) → Pairwise Before (readings c k)
unfolding readings
readings_ascend c k =
    pairwise_append Before (uncalled k (seven_pairs c ++ thirteen_orphans c)) (flat (standards_at c k) tiles)
    (uncalled_ascend c k k _ (special_ascend c k)) (standards_ascend c k)
    (λ x y i j.
    let a = special_kind c (in_uncalled k (seven_pairs c ++ thirteen_orphans c) i).1 in
    let q = flat_mem (standards_at c k) tiles j in
    let b = standard_kind c k q.0 q.2 in
    kind_first x y (omega arith))
