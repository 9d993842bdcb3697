-- Each reading is listed once. Assumes nothing.
use mathlib.Core.Path.{◌≡◌, sym, ap, ◌∙◌}
use mathlib.Core.List.{List, [], ◌∷◌, ◌++◌, Memᴰ}
use Prim.Native.Nat.{ℕ, ◌-◌}
use native.Mathlib.Omega.{arith}
use lib.Dec.{leb}
use lib.ListN.{length}
use Rattle.lists.specs.Fold.{one, flat, keep}
use Rattle.lists.specs.Order.{Nodup, Pick, times}
use Rattle.lists.proofs.Members.{nodup_append, nodup_map, nodup_flat, cond_nodup, nodup_single, flat_mem}
use Rattle.lists.proofs.Sums.{sum_append}
use Rattle.lists.proofs.Arranged.{arranged_alike}
use Rattle.lists.proofs.Counted.{times_arranged}
use Rattle.lists.proofs.Kept.{keep_nodup}
use Rattle.tile.specs.Tile.{tiles}
use Rattle.tile.proofs.Tiles.{tiles_nodup}
use Rattle.meld.specs.declared.Meld.{Meld}
use Rattle.meld.specs.Meld.{eq_meld, hand_melds, melds, sorted}
use Rattle.meld.proofs.Melds.{eq_meld→eq, eq_meld_refl_holds, hand_melds_nodup_holds, melds_nodup, arrange_id}
use Rattle.hand.specs.Reading.{Reading, pairs, orphans, standard}
use Rattle.hand.specs.Readings.{meld_lists, less_pair, standards_at, twos, is_pairs, seven_pairs, is_orphans, thirteen_orphans, uncalled, readings}
use Rattle.hand.proofs.Search.{find_sound, find_nodup}
use Rattle.complete.proofs.Listed.{hand_melds_holds, in_uncalled, in_standards_at_holds, seven_kind, orphan_kind, special_kind, standard_kind}

-- the reading's pair, and its melds
abbrev pair_of : Reading → ℕ
pair_of (pairs ps) = 0
pair_of (orphans p) = p
pair_of (standard p ms) = p

abbrev melds_of : Reading → List Meld
melds_of (pairs ps) = []
melds_of (orphans p) = []
melds_of (standard p ms) = ms

module _ (k : List Meld) where
  -- the melds of the hand are known from the melds of the reading
  alike : (l m : List Meld) → sorted (k ++ l) ≡ sorted (k ++ m) → (x : Meld) → Memᴰ x hand_melds → times eq_meld x l ≡ times eq_meld x m
  alike l m e x i =
      let j = hand_melds_holds x i in
      omega (
        arith,
        times_arranged eq_meld eq_meld→eq eq_meld_refl_holds melds (k ++ l) melds_nodup j,
        times_arranged eq_meld eq_meld→eq eq_meld_refl_holds melds (k ++ m) melds_nodup j,
        ap (times eq_meld x) e,
        sum_append (λ y. one (eq_meld x y)) k l,
        sum_append (λ y. one (eq_meld x y)) k m,
      )

  same_hand : {l m : List Meld} → Pick hand_melds l → Pick hand_melds m → sorted (k ++ l) ≡ sorted (k ++ m) → l ≡ m
  same_hand {l} {m} p q e =
      sym (arrange_id p hand_melds_nodup_holds) ∙ arranged_alike eq_meld hand_melds l m (alike l m e) ∙ arrange_id q hand_melds_nodup_holds

module _ (c : ℕ → ℕ) (k : List Meld) where
  at_once : (p : ℕ) → Nodup (standards_at c k p)
  unfolding standards_at meld_lists
  at_once p =
      cond_nodup (leb 2 (c p)) _
      (nodup_map (λ l. standard p (sorted (k ++ l))) (meld_lists (4 - length k) (less_pair c p))
      (find_nodup (4 - length k) (less_pair c p) hand_melds hand_melds_nodup_holds)
      (λ a b i j e.
      same_hand k (find_sound (4 - length k) (less_pair c p) hand_melds a i).picked (find_sound (4 - length k) (less_pair c p) hand_melds b j).picked
      (ap melds_of e)))

  at_pair : (p : ℕ) (r : Reading) → Memᴰ r (standards_at c k p) → pair_of r ≡ p
  at_pair p r i = ap pair_of (in_standards_at_holds c k p i).3

  standards_once : Nodup (flat (standards_at c k) tiles)
  standards_once =
      nodup_flat (standards_at c k) tiles tiles_nodup (λ p i. at_once p)
      (λ a b x i j. sym (at_pair a x i) ∙ at_pair b x j)

  special_once : Nodup (seven_pairs c ++ thirteen_orphans c)
  unfolding seven_pairs thirteen_orphans
  special_once =
      nodup_append (seven_pairs c) (thirteen_orphans c) (cond_nodup (is_pairs c) (pairs (twos c) ∷ []) (nodup_single (pairs (twos c))))
      (nodup_map orphans (keep (is_orphans c) tiles) (keep_nodup (is_orphans c) tiles tiles_nodup) (λ a b i j e. ap pair_of e))
      (λ r i j. let e = seven_kind c i in let f = orphan_kind c j in absurd (omega arith))

  uncalled_once : (j : List Meld) (l : List Reading) → Nodup l → Nodup (uncalled j l)
  uncalled_once [] l n = n
  uncalled_once (m ∷ j) l n = tt

pub readings_once : (c : ℕ → ℕ) (k : List Meld) → Nodup (readings c k)
unfolding readings
readings_once c k =
    nodup_append (uncalled k (seven_pairs c ++ thirteen_orphans c)) (flat (standards_at c k) tiles) (uncalled_once c k k _ (special_once c k)) (standards_once c k)
    (λ r i j.
    let a = special_kind c (in_uncalled k (seven_pairs c ++ thirteen_orphans c) i).1 in
    let p = flat_mem (standards_at c k) tiles j in
    let b = standard_kind c k p.0 p.2 in
    omega arith)
