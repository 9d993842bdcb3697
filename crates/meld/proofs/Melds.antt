-- Melds as a list: which they are, each once and ascending; a test over all of them; and the general laws of order for melds.
-- Assumes nothing.
use mathlib.Core.Path.{◌≡◌, refl, sym, subst}
use mathlib.Core.Bool.{Bool, true, false, ◌||◌, not, cond}
use mathlib.Core.List.{List, Memᴰ, Permᴰ}
use Prim.Native.Nat.{ℕ, ◌<◌}
use native.Mathlib.Omega.{arith}
use lib.Dec.{T, eqb, ltb, leb, eqb→eq, ltb→lt, leb→le, eqb_refl}
use Rattle.lists.specs.Fold.{all_below, all, any}
use Rattle.lists.specs.Order.{Pick, Nodup, Pairwise, arrange}
use Rattle.lists.proofs.Finite.{at, and_left, and_right, and_both, or_skip}
use Rattle.lists.proofs.Members.{all_mem, all_intro, flat_in}
use Rattle.lists.proofs.Relations.{rising_pairwise, ascending_nodup}
use Rattle.lists.proofs.Arranged as general
use Rattle.tile.proofs.Tiles.{in_tiles}
use Rattle.meld.specs.declared.Meld.{Meld}
use Rattle.meld.specs.Meld.{is_sequence, is_open, is_shaped, nearest, is_seat, is_sourced, is_meld, is_hand_meld, key, eq_meld, meld_from, meld, but_source, hand_melds_at, melds_at, melds, hand_melds, sorted}

-- ---- equal melds
pub meld_path : {m x : Meld} → m.tile ≡ x.tile → m.kind ≡ x.kind → m.source ≡ x.source → m ≡ x
meld_path p q r = λ i. meld_from (p i) (q i) (r i)

pub eq_meld→eq : (m x : Meld) → T (eq_meld m x) → m ≡ x
eq_meld→eq m x t =
    let rest = and_right (eqb m.tile x.tile) _ t in
    meld_path (eqb→eq _ _ (and_left (eqb m.tile x.tile) _ t))
    (eqb→eq _ _ (and_left (eqb m.kind x.kind) _ rest)) (eqb→eq _ _ (and_right (eqb m.kind x.kind) _ rest))

pub eq_meld_refl_holds : (m : Meld) → T (eq_meld m m)
eq_meld_refl_holds m =
    and_both (eqb m.tile m.tile) _ (eqb_refl m.tile)
    (and_both (eqb m.kind m.kind) (eqb m.source m.source) (eqb_refl m.kind) (eqb_refl m.source))

-- ---- the general laws, of melds
pub arrange_same : (ms : List Meld) {a b : List Meld} → Permᴰ a b → arrange eq_meld ms a ≡ arrange eq_meld ms b
arrange_same = general.arrange_same eq_meld eq_meld→eq eq_meld_refl_holds

pub arrange_perm : (ms : List Meld) → Nodup ms → (l : List Meld) → ((x : Meld) → Memᴰ x l → Memᴰ x ms) → Permᴰ (arrange eq_meld ms l) l
arrange_perm = general.arrange_perm eq_meld eq_meld→eq eq_meld_refl_holds

pub arrange_pick : (ms l : List Meld) → Pick ms (arrange eq_meld ms l)
arrange_pick = general.arrange_pick eq_meld eq_meld→eq eq_meld_refl_holds

pub arrange_id : {ms l : List Meld} → Pick ms l → Nodup ms → arrange eq_meld ms l ≡ l
arrange_id = general.arrange_id eq_meld eq_meld→eq eq_meld_refl_holds

pub any_mem : (m : Meld) (l : List Meld) → T (any (eq_meld m) l) → Memᴰ m l
any_mem = general.any_mem eq_meld eq_meld→eq eq_meld_refl_holds

-- ---- a test over all melds, one for each tile and kind; it tells of every source where the question does not ask for it
abbrev pub all_melds : (Meld → Bool) → Bool
all_melds p = all_below 7 (λ k. all_below 34 (λ t. not (is_shaped (meld t k)) || p (meld t k)))

-- the question p does not ask for the source
abbrev pub Sourceless : (Meld → Bool) → Type 0
Sourceless p = (m : Meld) → p m ≡ p (but_source m)

pub meld_shaped : (m : Meld) → T (is_meld m) → T (is_shaped m)
meld_shaped m v = and_left (is_shaped m) _ v

pub meld_sourced : (m : Meld) → T (is_meld m) → T (is_sourced m)
meld_sourced m v = and_right (is_shaped m) _ v

pub meld_kind : (m : Meld) → T (is_meld m) → m.kind < 7
meld_kind m v = ltb→lt m.kind 7 (and_left (ltb m.kind 7) _ (meld_shaped m v))

pub meld_tile : (m : Meld) → T (is_meld m) → m.tile < 34
meld_tile m v = ltb→lt m.tile 34 (and_left (ltb m.tile 34) _ (and_right (ltb m.kind 7) _ (meld_shaped m v)))

pub melds_at_holds : (p : Meld → Bool) → Sourceless p → T (all_melds p) → (m : Meld) → T (is_meld m) → T (p m)
melds_at_holds p blind ok m v =
    subst T (sym (blind m))
    (or_skip (is_shaped m) (p (but_source m)) (meld_shaped m v)
    (at 34 (λ t. not (is_shaped (meld t m.kind)) || p (meld t m.kind))
    (at 7 (λ k. all_below 34 (λ t. not (is_shaped (meld t k)) || p (meld t k))) ok m.kind (meld_kind m v))
    m.tile (meld_tile m v)))

-- a meld but for its source is a meld
pub but_is_meld_holds : (m : Meld) → T (is_meld m) → T (is_meld (but_source m))
but_is_meld_holds = melds_at_holds (λ m. is_meld (but_source m)) (λ m. refl) tt

-- ---- the source is below 4
seat_small : (b : Bool) (s : ℕ) → T (is_seat b s) → s < 4
seat_small b s h = let e = leb→le s 3 (and_right (leb (nearest b) s) _ h) in omega arith

pub meld_source : (m : Meld) → T (is_meld m) → m.source < 4
meld_source m v = go (is_open m) (meld_sourced m v)
  where
    go : (b : Bool) → T (cond b (is_seat (is_sequence m) m.source) (eqb m.source 0)) → m.source < 4
    go true h = seat_small (is_sequence m) m.source h
    go false h = let e = eqb→eq m.source 0 h in omega arith

-- ---- they ascend, and so each stands once
pub melds_ascend : Pairwise (λ m x. key m < key x) melds
melds_ascend = rising_pairwise key melds tt

pub hand_melds_nodup_holds : Nodup hand_melds
hand_melds_nodup_holds = ascending_nodup key hand_melds (rising_pairwise key hand_melds tt)

pub melds_nodup : Nodup melds
melds_nodup = ascending_nodup key melds melds_ascend

-- ---- the melds of a hand, and all melds: these and no others, by a test of each tile, kind and source
abbrev all_sources : (Meld → Bool) → Bool
all_sources p = all_below 4 (λ s. all_below 7 (λ k. all_below 34 (λ t. p (meld_from t k s))))

sources_at : (p : Meld → Bool) → T (all_sources p) → (m : Meld) → T (is_meld m) → T (p m)
sources_at p ok m v =
    at 34 (λ t. p (meld_from t m.kind m.source))
    (at 7 (λ k. all_below 34 (λ t. p (meld_from t k m.source)))
    (at 4 (λ s. all_below 7 (λ k. all_below 34 (λ t. p (meld_from t k s)))) ok m.source (meld_source m v))
    m.kind (meld_kind m v))
    m.tile (meld_tile m v)

pub in_melds : (m : Meld) → T (is_meld m) → Memᴰ m melds
in_melds m v =
    flat_in melds_at (in_tiles m.tile (meld_tile m v))
    (any_mem m (melds_at m.tile) (or_skip (is_meld m) _ v (sources_at (λ m. not (is_meld m) || any (eq_meld m) (melds_at m.tile)) tt m v)))

pub in_hand_melds_holds : (m : Meld) → T (is_hand_meld m) → Memᴰ m hand_melds
in_hand_melds_holds m v =
    let good = and_left (is_meld m) _ v in
    flat_in hand_melds_at (in_tiles m.tile (meld_tile m good))
    (any_mem m (hand_melds_at m.tile)
    (or_skip (is_hand_meld m) _ v (sources_at (λ m. not (is_hand_meld m) || any (eq_meld m) (hand_melds_at m.tile)) tt m good)))

pub is_hand_meld_holds : (m : Meld) → Memᴰ m hand_melds → T (is_hand_meld m)
is_hand_meld_holds m i = all_mem is_hand_meld {l = hand_melds} tt i

pub is_meld_holds : (m : Meld) → Memᴰ m melds → T (is_meld m)
is_meld_holds m i = all_mem is_meld {l = melds} tt i

-- melds of a hand are melds
pub closed_melds : (l : List Meld) → T (all is_hand_meld l) → T (all is_meld l)
closed_melds l v = all_intro is_meld l (λ m i. and_left (is_meld m) _ (all_mem is_hand_meld v i))

pub picked_melds : {l : List Meld} → Pick hand_melds l → T (all is_meld l)
picked_melds {l} d = closed_melds l (all_intro is_hand_meld l (λ m i. is_hand_meld_holds m (general.pick_mem d i)))

-- melds in ascending order are the melds, in another order
pub sorted_perm : (ms : List Meld) → T (all is_meld ms) → Permᴰ (sorted ms) ms
sorted_perm ms v = arrange_perm melds melds_nodup ms (λ x i. in_melds x (all_mem is_meld v i))
