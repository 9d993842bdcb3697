-- The sorts of melds: which exclude each other, how many tiles a meld of each sort holds, and how melds ascend. Assumes nothing.
use mathlib.Core.Path.{◌≡◌, refl, sym, ap, ap₂, ◌∙◌, subst}
use mathlib.Core.Bool.{Bool, true, false, ◌&&◌, ◌||◌, not, cond, beq}
use Prim.Native.Nat.{ℕ, ◌+◌, ◌%◌, ◌<◌, ◌≤◌}
use native.Mathlib.Omega.{arith}
use lib.Dec.{T, eqb, leb, eqb→eq, leb→le, le→leb}
use Rattle.lists.specs.Fold.{all_below, one, sum}
use Rattle.lists.proofs.Finite.{at, beq→eq, and_left, and_right, and_both, or_skip, T→true}
use Rattle.tile.specs.Tile.{suit_of, value_of, tiles}
use Rattle.meld.specs.declared.Meld.{Meld}
use Rattle.meld.specs.Meld.{is_sequence, is_triplet_or_kan, is_kan, is_concealed, is_open, is_shaped, nearest, is_seat, is_meld, is_hand_meld, is_call, key, uses, meld_from, but_source}
use Rattle.meld.proofs.Melds.{all_melds, Sourceless, melds_at_holds, but_is_meld_holds, meld_shaped, meld_sourced, meld_kind, meld_source}

-- two questions of a meld with one answer
same : (p q : Meld → Bool) → Sourceless p → Sourceless q → T (all_melds (λ m. beq (p m) (q m))) → (m : Meld) → T (is_meld m) → p m ≡ q m
same p q blind blind' ok m v = beq→eq _ _ (melds_at_holds (λ m. beq (p m) (q m)) (λ m. ap₂ beq (blind m) (blind' m)) ok m v)

-- a meld is concealed or open, and not both
pub open_or_concealed : (m : Meld) → T (is_meld m) → is_open m ≡ not (is_concealed m)
open_or_concealed = same is_open (λ m. not (is_concealed m)) (λ m. refl) (λ m. refl) tt

-- a meld is a sequence, or a triplet or kan, and not both
pub sequence_or_set : (m : Meld) → T (is_meld m) → is_sequence m ≡ not (is_triplet_or_kan m)
sequence_or_set = same is_sequence (λ m. not (is_triplet_or_kan m)) (λ m. refl) (λ m. refl) tt

-- whether a meld is called, or stands in the hand, does not depend on its source
of_meld : (m : Meld) → T (is_meld m) → (b : Bool) → (is_meld m && b) ≡ b
of_meld m v b = ap (λ (x : Bool). x && b) (T→true (is_meld m) v)

but_call : (m : Meld) → T (is_meld m) → is_call m ≡ is_call (but_source m)
but_call m v = of_meld m v _ ∙ sym (of_meld (but_source m) (but_is_meld_holds m v) _)

pub but_hand : (m : Meld) → T (is_meld m) → is_hand_meld m ≡ is_hand_meld (but_source m)
but_hand m v = of_meld m v _ ∙ sym (of_meld (but_source m) (but_is_meld_holds m v) _)

-- a call is open, or it is a closed kan
pub call_is : (m : Meld) → T (is_meld m) → is_call m ≡ (is_open m || (is_kan m && is_concealed m))
call_is m v = but_call m v ∙ same (λ m. is_call (but_source m)) (λ m. is_open m || (is_kan m && is_concealed m)) (λ m. refl) (λ m. refl) tt m v

-- a meld stands in the hand or is called, and not both
pub call_or_hand : (m : Meld) → T (is_meld m) → is_call m ≡ not (is_hand_meld m)
call_or_hand m v =
    but_call m v
    ∙ same (λ m. is_call (but_source m)) (λ m. not (is_hand_meld (but_source m))) (λ m. refl) (λ m. refl) tt m v
    ∙ ap not (sym (but_hand m v))

-- a kan holds four tiles, every other meld three
pub meld_size : (m : Meld) → T (is_meld m) → sum (uses m) tiles ≡ 3 + one (is_kan m)
meld_size m v = eqb→eq _ _ (melds_at_holds (λ m. eqb (sum (uses m) tiles) (3 + one (is_kan m))) (λ m. refl) tt m v)

-- a sequence holds one each of three numbers in a row of one suit
abbrev in_row : Meld → ℕ → Bool
in_row m t = eqb (suit_of t) (suit_of m.tile) && (leb (value_of m.tile) (value_of t) && leb (value_of t) (value_of m.tile + 2))

row_test : T (all_melds (λ m. not (is_sequence m) || all_below 34 (λ t. eqb (uses m t) (one (in_row m t)))))
row_test = tt

pub sequence_row : (m : Meld) → T (is_meld m) → T (is_sequence m) → (t : ℕ) → t < 34 → uses m t ≡ one (in_row m t)
sequence_row m v i t h =
    eqb→eq _ _
    (at 34 (λ t. eqb (uses m t) (one (in_row m t)))
    (or_skip (is_sequence m) (all_below 34 (λ t. eqb (uses m t) (one (in_row m t)))) i
    (melds_at_holds (λ m. not (is_sequence m) || all_below 34 (λ t. eqb (uses m t) (one (in_row m t)))) (λ m. refl) row_test m v))
    t h)

-- ---- where a called tile comes from
open_seat : (m : Meld) → T (is_meld m) → T (is_open m) → T (is_seat (is_sequence m) m.source)
open_seat m v i = subst (λ (b : Bool). T (cond b (is_seat (is_sequence m) m.source) (eqb m.source 0))) (T→true (is_open m) i) (meld_sourced m v)

-- of a concealed meld no tile was called
pub concealed_from_nobody : (m : Meld) → T (is_meld m) → T (is_concealed m) → m.source ≡ 0
concealed_from_nobody m v i =
    let e : is_open m ≡ false = open_or_concealed m v ∙ ap not (T→true (is_concealed m) i) in
    eqb→eq m.source 0 (subst (λ (b : Bool). T (cond b (is_seat (is_sequence m) m.source) (eqb m.source 0))) e (meld_sourced m v))

-- of an open meld it came from another player: whoever discarded it sits 1 to 3 seats onward
pub open_from_another : (m : Meld) → T (is_meld m) → T (is_open m) → (1 ≤ m.source) × (m.source ≤ 3)
open_from_another m v i = go (is_sequence m) (open_seat m v i)
  where
    go : (b : Bool) → T (is_seat b m.source) → (1 ≤ m.source) × (m.source ≤ 3)
    go b h = (far b (leb→le (nearest b) m.source (and_left (leb (nearest b) m.source) _ h)), leb→le m.source 3 (and_right (leb (nearest b) m.source) _ h))
      where
        far : (b : Bool) → nearest b ≤ m.source → 1 ≤ m.source
        far true l = omega arith
        far false l = omega arith

-- a sequence is called by the player who is next after the one who discarded: one seat onward from there is the seat of the caller, four seats being once round
pub sequence_by_next : (m : Meld) → T (is_meld m) → T (is_open m) → T (is_sequence m) → (m.source + 1) % 4 ≡ 0
sequence_by_next m v i j =
    let h = subst (λ (b : Bool). T (is_seat b m.source)) (T→true (is_sequence m) j) (open_seat m v i) in
    let low = leb→le (nearest true) m.source (and_left (leb (nearest true) m.source) _ h) in
    let high = leb→le m.source 3 (and_right (leb (nearest true) m.source) _ h) in
    omega arith

-- a triplet or a kan is called from each of the three others
pub set_from_each :
    (m : Meld) → T (is_meld m) → T (is_open m) → T (is_triplet_or_kan m) → (s : ℕ) → 1 ≤ s → s ≤ 3 → T (is_meld (meld_from m.tile m.kind s))
set_from_each m v i j s g h =
    let e : is_sequence m ≡ false = sequence_or_set m v ∙ ap not (T→true (is_triplet_or_kan m) j) in
    and_both (is_shaped m) _ (meld_shaped m v)
    (subst (λ (b : Bool). T (cond b (is_seat (is_sequence m) s) (eqb s 0))) (sym (T→true (is_open m) i))
    (subst (λ (b : Bool). T (is_seat b s)) (sym e) (and_both (leb (nearest false) s) (leb s 3) (le→leb (nearest false) s g) (le→leb s 3 h))))

-- ---- melds ascend by tile, those of one tile by kind, and those of one tile and kind by source
pub key_tile : (m x : Meld) → T (is_meld m) → m.tile < x.tile → key m < key x
key_tile m x v h = let k = meld_kind m v in let s = meld_source m v in omega arith

pub key_kind : (m x : Meld) → T (is_meld m) → m.tile ≡ x.tile → m.kind < x.kind → key m < key x
key_kind m x v e h = let s = meld_source m v in omega arith

pub key_source : (m x : Meld) → m.tile ≡ x.tile → m.kind ≡ x.kind → m.source < x.source → key m < key x
key_source m x e f h = omega arith
