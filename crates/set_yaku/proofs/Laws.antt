-- What the yaku of triplets and kans have to do with each other, and with sequences. Assumes nothing.
use mathlib.Core.Path.{◌≡◌}
use mathlib.Core.Bool.{Bool, true, false, ◌&&◌, not}
use mathlib.Core.List.{List, [], ◌∷◌}
use Prim.Native.Nat.{suc, ◌+◌, ◌≤◌}
use native.Mathlib.Omega.{arith}
use lib.Dec.{T, eqb, leb, eqb→eq, leb→le, ltb→lt}
use lib.ListN.{length}
use Rattle.lists.specs.Fold.{all, any, count, one}
use Rattle.lists.proofs.Finite.{and_left, and_right, and_both, or_elim, or_left, or_right, ¬T→false}
use Rattle.lists.proofs.Members.{all_mem, any_elim}
use Rattle.lists.proofs.Sums.{count_le}
use Rattle.meld.specs.declared.Meld.{Meld}
use Rattle.meld.specs.Meld.{is_kan, is_sequence, is_triplet_or_kan}
use Rattle.context.specs.declared.GameContext.{GameContext}
use Rattle.context.specs.Context.{is_tsumo}
use Rattle.wait.specs.Concealed.{concealed, spared}
use Rattle.meld_yaku.proofs.Few.{count_fewer}
use Rattle.set_yaku.specs.Sets.{toitoi, kans, san_ankou, suuankou, suu_kantsu}
use Rattle.set_yaku.proofs.Few.{kan_set, concealed_set}

-- ---- SanAnkou and Suuankou exclude each other
kept_too : (w : GameContext) (kept : Bool) (m : Meld) → T (concealed w false m) → T (concealed w kept m)
kept_too w kept m h =
    or_elim (eqb m.kind 4) _ h (or_left (eqb m.kind 4) _)
    (λ i. or_right (eqb m.kind 4) _
    (and_both (eqb m.kind 2) _ (and_left (eqb m.kind 2) _ i)
    (or_elim (is_tsumo w) _ (and_right (eqb m.kind 2) _ i) (or_left (is_tsumo w) _)
    (λ j. or_right (is_tsumo w) _
    (or_elim (not (eqb w.winning_tile m.tile)) false j (or_left (not (eqb w.winning_tile m.tile)) kept) (λ k. absurd k))))))

pub three_or_four : (w : GameContext) (ms : List Meld) → T (san_ankou w ms) → T (suuankou w ms) → ⊥
unfolding san_ankou suuankou
three_or_four w ms s u =
    let three = eqb→eq (count (concealed w (spared w ms)) ms) 3 s in
    let four = eqb→eq (count (concealed w false) ms) 4 u in
    let more = count_fewer (concealed w false) (concealed w (spared w ms)) (kept_too w (spared w ms)) ms in
    omega arith

-- ---- four of a sort of triplets and kans are Toitoi
count_all : (q : Meld → Bool) (ms : List Meld) → count q ms ≡ length ms → T (all q ms)
count_all q [] e = tt
count_all q (m ∷ ms) e = go (q m) e (count_all q ms) (count_le q ms)
  where
    go : (b : Bool) → one b + count q ms ≡ suc (length ms) → (count q ms ≡ length ms → T (all q ms)) → count q ms ≤ length ms → T (b && all q ms)
    go true e rest h = rest (omega arith)
    go false e rest h = absurd (omega arith)

module _ (ms : List Meld) (size : length ms ≡ 4) where
  four_toitoi : (q : Meld → Bool) → ((m : Meld) → T (q m) → T (is_triplet_or_kan m)) → T (eqb (count q ms) 4) → T (toitoi ms)
  unfolding toitoi
  four_toitoi q set t =
      let four = eqb→eq (count q ms) 4 t in
      let fewer = count_fewer q is_triplet_or_kan set ms in
      let most = count_le is_triplet_or_kan ms in
      count_all is_triplet_or_kan ms (omega arith)

  pub suuankou_toitoi : (w : GameContext) → T (suuankou w ms) → T (toitoi ms)
  unfolding suuankou
  suuankou_toitoi w = four_toitoi (concealed w false) (concealed_set w false)

  pub suu_kantsu_toitoi_holds : T (suu_kantsu ms) → T (toitoi ms)
  unfolding suu_kantsu kans
  suu_kantsu_toitoi_holds = four_toitoi is_kan kan_set

-- ---- Toitoi has no sequence
no_sequence : (m : Meld) → T (is_triplet_or_kan m) → T (is_sequence m) → ⊥
no_sequence m t s =
    let two = leb→le 2 m.kind (and_left (leb 2 m.kind) _ t) in
    let less = ltb→lt m.kind 2 s in
    omega arith

pub toitoi_no_sequence : (ms : List Meld) → T (toitoi ms) → any is_sequence ms ≡ false
unfolding toitoi
toitoi_no_sequence ms t =
    ¬T→false (any is_sequence ms)
    (λ s. let found = any_elim is_sequence ms s in no_sequence found.0 (all_mem is_triplet_or_kan t found.1) found.2)
