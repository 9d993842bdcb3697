-- In a room that plays with fewer tiles: where each tile of the hand and of the calls is in play, so is each tile of each reading.
-- Assumes nothing.
use mathlib.Core.Path.{◌≡◌, refl, sym, ap, subst}
use mathlib.Core.Logic.{⊎_elim}
use mathlib.Core.Bool.{Bool, true, false, ◌&&◌, ◌||◌, not, cond}
use mathlib.Core.List.Memᴰ
use mathlib.Core.List.{List, ◌++◌, Memᴰ}
use Prim.Native.Nat.{ℕ, ◌+◌, ◌<◌, ◌≤◌}
use native.Mathlib.Omega.{arith}
use lib.Dec.{T, eqb, ltb, leb, eqb→eq, ltb→lt, leb→le, eqb_refl}
use Rattle.lists.specs.Fold.{any, one, sum}
use Rattle.lists.proofs.Finite.{and_right, or_elim, or_skip, T→true}
use Rattle.lists.proofs.Members.{all_mem, any_elim}
use Rattle.lists.proofs.Sums.{sum_in}
use Rattle.lists.proofs.Arranged.{any_mem, pick_mem}
use Rattle.lists.proofs.Counted.{times_in, in_arranged}
use Rattle.tile.specs.Tile.{is_terminal_or_honor}
use Rattle.meld.specs.declared.Meld.{Meld}
use Rattle.meld.specs.Meld.{is_sequence, is_kan, is_meld, set_size, run_uses, uses, eq_meld, melds, sorted}
use Rattle.meld.proofs.Melds.{all_melds, melds_at_holds, meld_tile, is_meld_holds, eq_meld→eq, eq_meld_refl_holds, arrange_pick}
use Rattle.hand.specs.Reading.{Reading, pairs, orphans, standard, AdmitsPairs, AdmitsOrphans, AdmitsStandard, Admits}
use Rattle.complete.specs.Tiles.{in_reading, HandAllowed, CallsAllowed}
use Rattle.complete.proofs.Complete.{orphan_lt}

-- ---- the tiles that a meld has are tiles
one_yes : (b : Bool) → 1 ≤ one b → T b
one_yes true h = tt
one_yes false h = absurd (omega arith)

set_yes : (b : Bool) (n : ℕ) → 1 ≤ cond b n 0 → T b
set_yes true n h = tt
set_yes false n h = absurd (omega arith)

sequence_test : T (all_melds (λ m. not (is_sequence m) || ltb (m.tile + 2) 34))
sequence_test = tt

uses_lt : (m : Meld) → T (is_meld m) → (t : ℕ) → 1 ≤ uses m t → t < 34
uses_lt m v t h = go (is_sequence m) (λ s. s) h
  where
    go : (b : Bool) → (T b → T (is_sequence m)) → 1 ≤ cond b (run_uses m.tile t) (cond (eqb t m.tile) (set_size (is_kan m)) 0) → t < 34
    go true s h =
        let a = ltb→lt (m.tile + 2) 34 (or_skip (is_sequence m) _ (s tt) (melds_at_holds (λ m. not (is_sequence m) || ltb (m.tile + 2) 34) (λ m. refl) sequence_test m v)) in
        let b = ltb→lt t (m.tile + 3) (and_right (leb m.tile t) _ (one_yes (leb m.tile t && ltb t (m.tile + 3)) h)) in
        omega arith
    go false s h =
        let a = eqb→eq t m.tile (set_yes (eqb t m.tile) (set_size (is_kan m)) h) in
        let b = meld_tile m v in
        omega arith

module _ (allowed : ℕ → Bool) (c : ℕ → ℕ) (k : List Meld) (held : HandAllowed allowed c) (called : CallsAllowed allowed k) where
  of_pairs : (ps : List ℕ) → AdmitsPairs c k ps → (t : ℕ) → Memᴰ t ps → T (allowed t)
  of_pairs ps a t i =
      let h = ltb→lt t 34 (all_mem (λ t. ltb t 34) a.tiles i) in
      held t h (omega (arith, a.exact t h, times_in eqb eqb→eq eqb_refl i))

  orphan_one : (t p : ℕ) → T (is_terminal_or_honor t) → c t ≡ one (is_terminal_or_honor t) + one (eqb t p) → 1 ≤ c t
  orphan_one t p s e = let f : one (is_terminal_or_honor t) ≡ 1 = ap one (T→true (is_terminal_or_honor t) s) in omega arith

  of_orphans : (p : ℕ) → AdmitsOrphans c k p → (t : ℕ) → T (is_terminal_or_honor t) → T (allowed t)
  of_orphans p a t s = let h = orphan_lt t s in held t h (orphan_one t p s (a.exact t h))

  pair_two : (t p : ℕ) (n : ℕ) → T (eqb t p) → c t ≡ cond (eqb t p) 2 0 + n → 1 ≤ c t
  pair_two t p n s e = let f : ◌≡◌ {A = ℕ} (cond (eqb t p) 2 0) 2 = ap (λ (b : Bool). cond b 2 0) (T→true (eqb t p) s) in omega arith

  module _ (p : ℕ) (ms : List Meld) (a : AdmitsStandard c k p ms) where
    of_pair : (t : ℕ) → T (eqb t p) → T (allowed t)
    of_pair t s =
        let h : t < 34 = subst (λ (x : ℕ). x < 34) (sym (eqb→eq t p s)) a.pair in
        held t h (pair_two t p (sum (λ m. uses m t) a.hand) s (a.exact t h))

    of_meld : (t : ℕ) → t < 34 → (m : Meld) → 1 ≤ uses m t → Memᴰ m (k ++ a.hand) → T (allowed t)
    of_meld t h m u i =
        ⊎_elim (λ j. called m j t h u) (λ j. held t h (omega (arith, a.exact t h, sum_in (λ m. uses m t) j)))
        (Memᴰ.append_cases k i)

    of_melds_holds : (t : ℕ) (m : Meld) → 1 ≤ uses m t → Memᴰ m (sorted (k ++ a.hand)) → T (allowed t)
    of_melds_holds t m u i =
        of_meld t (uses_lt m (is_meld_holds m (pick_mem (arrange_pick melds (k ++ a.hand)) i)) t u) m u
        (in_arranged eq_meld eq_meld→eq eq_meld_refl_holds melds (k ++ a.hand) i)

    of_standard_holds : (t : ℕ) → T (in_reading (standard p ms) t) → T (allowed t)
    of_standard_holds t s =
        or_elim (eqb t p) (any (λ m. leb 1 (uses m t)) ms) s (of_pair t)
        (λ y.
        let r = any_elim (λ m. leb 1 (uses m t)) ms y in
        of_melds_holds t r.0 (leb→le 1 (uses r.0 t) r.2) (subst (Memᴰ r.0) a.whole r.1))

pub reading_allowed :
    (allowed : ℕ → Bool) (c : ℕ → ℕ) (k : List Meld) → HandAllowed allowed c → CallsAllowed allowed k
    → (r : Reading) → Admits c k r → (t : ℕ) → T (in_reading r t) → T (allowed t)
reading_allowed allowed c k held called (pairs ps) a t s = of_pairs allowed c k held called ps a t (any_mem eqb eqb→eq eqb_refl t ps s)
reading_allowed allowed c k held called (orphans p) a t s =
    or_elim (is_terminal_or_honor t) (eqb t p) s (of_orphans allowed c k held called p a t)
    (λ y. of_orphans allowed c k held called p a t (subst (λ (x : ℕ). T (is_terminal_or_honor x)) (sym (eqb→eq t p y)) a.orphan))
reading_allowed allowed c k held called (standard p ms) a t s = of_standard_holds allowed c k held called p ms a t s
