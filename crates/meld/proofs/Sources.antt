-- Melds but for their sources: they are melds, in order they stand as the melds do, and what does not ask for the source is answered alike of both.
-- Assumes nothing.
use mathlib.Core.Path.{◌≡◌, refl, sym, ap, ap₂, ◌∙◌, subst}
use mathlib.Core.Bool.{Bool, true, false, not, cond}
use mathlib.Core.List.{List, [], ◌∷◌, map, Memᴰ}
use Prim.Native.Nat.{ℕ}
use native.Mathlib.Omega.{arith}
use lib.Dec.{T}
use Rattle.lists.specs.Fold.{every, some, total, all, any, sum, count, one}
use Rattle.lists.specs.Order.{Pick}
use Rattle.lists.proofs.Finite.{T→true, true→t}
use Rattle.lists.proofs.Members.{all_mem, all_map, map_members, map_id}
use Rattle.lists.proofs.Permuted.{map_perm}
use Rattle.lists.proofs.Arranged.{pick_mem}
use Rattle.lists.proofs.Picked.{pick_mapped, pick_through, picks_pick}
use Rattle.meld.specs.declared.Meld.{Meld}
use Rattle.meld.specs.Meld.{is_sequence, is_concealed, is_open, is_meld, eq_meld, but_source, hand_melds, melds, sorted}
use Rattle.meld.proofs.Melds.{meld_path, eq_meld→eq, arrange_same, arrange_id, arrange_pick, melds_nodup, but_is_meld_holds, sorted_perm}
use Rattle.meld.proofs.Sorts.{open_or_concealed, concealed_from_nobody, open_from_another, sequence_by_next}

-- ---- questions that do not ask for the source
module _ {B : Type 0} (q : Meld → B) (blind : (m : Meld) → q (but_source m) ≡ q m) where
  pub map_but : (ms : List Meld) → map q (map but_source ms) ≡ map q ms
  map_but [] = refl
  map_but (m ∷ ms) = ap₂ ◌∷◌ (blind m) (map_but ms)

module _ (q : Meld → Bool) (blind : (m : Meld) → q (but_source m) ≡ q m) (ms : List Meld) where
  pub all_but : all q (map but_source ms) ≡ all q ms
  all_but = ap every (map_but q blind ms)

  pub any_but : any q (map but_source ms) ≡ any q ms
  any_but = ap some (map_but q blind ms)

  pub count_but : count q (map but_source ms) ≡ count q ms
  count_but = ap total (map_but (λ m. one (q m)) (λ m. ap one (blind m)) ms)

pub sum_but : (f : Meld → ℕ) → ((m : Meld) → f (but_source m) ≡ f m) → (ms : List Meld) → sum f (map but_source ms) ≡ sum f ms
sum_but f blind ms = ap total (map_but f blind ms)

-- ---- melds but for their sources are melds, and those that a hand itself can hold are the same
pub but_melds : (ms : List Meld) → T (all is_meld ms) → T (all is_meld (map but_source ms))
but_melds = all_map is_meld is_meld but_source but_is_meld_holds

pub but_hand_meld_holds : (m : Meld) → Memᴰ m hand_melds → but_source m ≡ m
but_hand_meld_holds m i = eq_meld→eq (but_source m) m (all_mem (λ m. eq_meld (but_source m) m) {l = hand_melds} tt i)

pub but_hand_melds_holds : {l : List Meld} → Pick hand_melds l → map but_source l ≡ l
but_hand_melds_holds {l} d = map_members but_source (λ m. m) l (λ m i. but_hand_meld_holds m (pick_mem d i)) ∙ map_id l

-- ---- a sequence has but one source, and so has a concealed meld
shut : (b : Bool) → not b ≡ false → T b
shut true e = tt
shut false e = subst T e tt

sequence_source : (m : Meld) → T (is_meld m) → T (is_sequence m) → m.source ≡ cond (is_open m) 3 0
sequence_source m v j = go (is_open m) refl
  where
    go : (b : Bool) → is_open m ≡ b → m.source ≡ cond b 3 0
    go true e =
        let i = true→t (is_open m) e in
        let seat = open_from_another m v i in
        omega (arith, seat.0, seat.1, sequence_by_next m v i j)
    go false e = concealed_from_nobody m v (shut (is_concealed m) (sym (open_or_concealed m v) ∙ e))

pub sequence_but : (m : Meld) → T (is_meld m) → T (is_sequence m) → but_source m ≡ m
sequence_but m v j = meld_path refl refl (sym (sequence_source m v j))

pub concealed_but : (m : Meld) → T (is_meld m) → T (is_concealed m) → but_source m ≡ m
concealed_but m v j =
    let closed : is_open m ≡ false = open_or_concealed m v ∙ ap not (T→true (is_concealed m) j) in
    meld_path refl refl (ap (λ (b : Bool). cond b 3 0) closed ∙ sym (concealed_from_nobody m v j))

-- ---- all melds but for their sources stand in the order of the melds: those that differ in their source alone stand together
but_picks : Pick melds (map but_source melds)
but_picks = picks_pick eq_meld eq_meld→eq melds (map but_source melds) tt

-- melds in order, but for their sources, are the melds but for their sources in order
pub sorted_but : (ms : List Meld) → T (all is_meld ms) → map but_source (sorted ms) ≡ sorted (map but_source ms)
sorted_but ms v =
    sym (arrange_id (pick_through but_picks (pick_mapped but_source (arrange_pick melds ms))) melds_nodup)
    ∙ arrange_same melds (map_perm but_source (sorted_perm ms v))
