-- Renamed melds: questions that no renaming changes, and how many of a tile they hold. Assumes nothing.
use mathlib.Core.Path.{◌≡◌, refl, sym, subst, ap, ap₂, ◌∙◌}
use mathlib.Core.Bool.{Bool, true, false, ◌&&◌, ◌||◌, not, cond, beq}
use mathlib.Core.List.{List, map, Permᴰ}
use Prim.Native.Nat.{ℕ, ◌+◌, ◌-◌, ◌≤◌, ◌<◌, min}
use native.Mathlib.Omega.{arith}
use lib.Dec.{T, eqb, leb, ltb, eqb→eq, leb→le, ltb→lt}
use borrow.Author.Tests.{le-ltb, ltb-true, ltb-false}
use Rattle.lists.specs.Fold.{all_below, one, all, any, sum, count, every, some, total}
use Rattle.lists.proofs.Finite.{at, beq→eq, and_left, and_right, and_both, or_skip, true→t}
use Rattle.lists.proofs.Permuted.{every_perm, some_perm, total_perm, map_perm, map_moved}
use Rattle.tile.specs.Tile.{is_suited, is_start, value_of}
use Rattle.tile.specs.declared.Numbers.{Numbers}
use Rattle.tile.specs.declared.Renaming.{Renaming}
use Rattle.tile.specs.Renaming.{ren, back}
use Rattle.tile.proofs.Renamings.{numbers_alone, honors_alone, still, all_numbers, numbers_at, all_ren, at_numbers, at_honors, by_numbers, by_honors, ren_lt, ren_parts, back_back, ren_eqb}
use Rattle.meld.specs.declared.Meld.{Meld}
use Rattle.meld.specs.Meld.{is_sequence, is_triplet_or_kan, is_kan, is_shaped, is_sourced, is_meld, is_hand_meld, uses, set_size, at_tile, but_source}
use Rattle.meld.specs.Renamed.{ren_meld}
use Rattle.meld.proofs.Melds.{all_melds, Sourceless, melds_at_holds, meld_sourced, meld_tile, meld_path}

-- ---- the source is carried along, and so is the kind
pub ren_source : (ρ : Renaming) (m : Meld) → (ren_meld ρ m).source ≡ m.source
ren_source ρ m = refl

pub ren_kind : (ρ : Renaming) (m : Meld) → (ren_meld ρ m).kind ≡ m.kind
ren_kind ρ m = refl

-- ---- which part renames a meld: a sequence is of a suit, and so is its third tile
start_third : (t : ℕ) → T (is_start t) → t + 2 < 27
start_third t s =
    let h = ltb→lt t 27 (and_left (is_suited t) _ s) in
    ltb→lt (t + 2) 27 (or_skip (is_start t) _ s (at 27 (λ t. not (is_start t) || ltb (t + 2) 27) tt t h))

pub meld_by_numbers : (ρ : Renaming) (m : Meld) → m.tile < 27 → ren_meld ρ m ≡ ren_meld (numbers_alone ρ.numbers) m
meld_by_numbers ρ m h = go (is_sequence m && is_start m.tile) refl
  where
    go : (b : Bool) → (is_sequence m && is_start m.tile) ≡ b → ren_meld ρ m ≡ ren_meld (numbers_alone ρ.numbers) m
    go true e =
        let first = by_numbers ρ m.tile h in
        let third = by_numbers ρ (m.tile + 2) (start_third m.tile (and_right (is_sequence m) _ (true→t _ e))) in
        λ i. at_tile (cond (is_sequence m && is_start m.tile) (min (first i) (third i)) (first i)) m
    go false e = rw e (ap (λ (t : ℕ). at_tile t m) (by_numbers ρ m.tile h))

meld_by_honors : (ρ : Renaming) (m : Meld) → 27 ≤ m.tile → ren_meld ρ m ≡ ren_meld (honors_alone ρ.honors) m
meld_by_honors ρ m h = go (is_sequence m && is_start m.tile) refl
  where
    go : (b : Bool) → (is_sequence m && is_start m.tile) ≡ b → ren_meld ρ m ≡ ren_meld (honors_alone ρ.honors) m
    go true e = let k = start_third m.tile (and_right (is_sequence m) _ (true→t _ e)) in absurd (omega (arith, h, k))
    go false e = rw e (ap (λ (t : ℕ). at_tile t m) (by_honors ρ m.tile h))

-- ---- laws of melds, each by a test that antt computes

-- a test of each meld and the meld that it becomes, of one meld for each tile and kind, where the question does not ask for the source
renamed_at :
    (q : Meld → Meld → Bool) → ((m r : Meld) → q m r ≡ q (but_source m) (but_source r)) → T (all_ren (λ ρ. all_melds (λ m. q m (ren_meld ρ m))))
    → (ρ : Renaming) (m : Meld) → T (is_meld m) → T (q m (ren_meld ρ m))
renamed_at q blind ok ρ m v = go (is_suited m.tile) refl
  where
    one_by_one : (τ : Renaming) → T (all_melds (λ m. q m (ren_meld τ m))) → T (q m (ren_meld τ m))
    one_by_one τ t = melds_at_holds (λ m. q m (ren_meld τ m)) (λ m. blind m (ren_meld τ m) ∙ sym (blind (but_source m) (ren_meld τ (but_source m)))) t m v

    go : (b : Bool) → is_suited m.tile ≡ b → T (q m (ren_meld ρ m))
    go true e =
        subst (λ (r : Meld). T (q m r)) (sym (meld_by_numbers ρ m (ltb-true m.tile 27 e)))
        (one_by_one (numbers_alone ρ.numbers) (at_numbers (λ ρ. all_melds (λ m. q m (ren_meld ρ m))) ok ρ.numbers))
    go false e =
        subst (λ (r : Meld). T (q m r)) (sym (meld_by_honors ρ m (ltb-false m.tile 27 e)))
        (one_by_one (honors_alone ρ.honors) (at_honors (λ ρ. all_melds (λ m. q m (ren_meld ρ m))) ok ρ.honors))

-- a question of a meld that no renaming changes
pub meld_law :
    (p : Meld → Bool) → Sourceless p → T (all_ren (λ ρ. all_melds (λ m. beq (p (ren_meld ρ m)) (p m))))
    → (ρ : Renaming) (m : Meld) → T (is_meld m) → p (ren_meld ρ m) ≡ p m
meld_law p blind ok ρ m v = beq→eq _ _ (renamed_at (λ m r. beq (p r) (p m)) (λ m r. ap₂ beq (blind r) (blind m)) ok ρ m v)

ren_is_shaped_holds : (ρ : Renaming) (m : Meld) → T (is_meld m) → T (is_shaped (ren_meld ρ m))
ren_is_shaped_holds = renamed_at (λ m r. is_shaped r) (λ m r. refl) tt

pub ren_is_meld_holds : (ρ : Renaming) (m : Meld) → T (is_meld m) → T (is_meld (ren_meld ρ m))
ren_is_meld_holds ρ m v = and_both (is_shaped (ren_meld ρ m)) (is_sourced (ren_meld ρ m)) (ren_is_shaped_holds ρ m v) (meld_sourced m v)

pub ren_is_hand_meld_holds : (ρ : Renaming) (m : Meld) → T (is_hand_meld m) → T (is_hand_meld (ren_meld ρ m))
ren_is_hand_meld_holds ρ m v = and_both (is_meld (ren_meld ρ m)) _ (ren_is_meld_holds ρ m (and_left (is_meld m) _ v)) (and_right (is_meld m) _ v)

-- a meld of a suit becomes one of a suit, a meld of an honor one of an honor
meld_suited : (ρ : Renaming) (m : Meld) → T (is_meld m) → is_suited (ren_meld ρ m).tile ≡ is_suited m.tile
meld_suited = meld_law (λ m. is_suited m.tile) (λ m. refl) tt

-- ---- the renaming that undoes it: the tile is as it was, and kind and source never changed
abbrev back_again : Renaming → Meld → Bool
back_again ρ m = eqb (ren_meld (back ρ) (ren_meld ρ m)).tile m.tile

back_test : T (all_ren (λ ρ. all_melds (back_again ρ)))
back_test = tt

pub back_ren_meld : (ρ : Renaming) (m : Meld) → T (is_meld m) → ren_meld (back ρ) (ren_meld ρ m) ≡ m
back_ren_meld ρ m v = go (is_suited m.tile) refl
  where
    undone : (τ : Renaming) → T (all_melds (back_again τ)) → ren_meld (back τ) (ren_meld τ m) ≡ m
    undone τ ok = meld_path (eqb→eq _ _ (melds_at_holds (back_again τ) (λ m. refl) ok m v)) refl refl

    go : (b : Bool) → is_suited m.tile ≡ b → ren_meld (back ρ) (ren_meld ρ m) ≡ m
    go true e =
        let n = numbers_alone ρ.numbers in
        ap (ren_meld (back ρ)) (meld_by_numbers ρ m (ltb-true m.tile 27 e))
        ∙ meld_by_numbers (back ρ) (ren_meld n m) (ltb-true _ 27 (meld_suited n m v ∙ e))
        ∙ undone n (at_numbers (λ ρ. all_melds (back_again ρ)) back_test ρ.numbers)
    go false e =
        let n = honors_alone ρ.honors in
        ap (ren_meld (back ρ)) (meld_by_honors ρ m (ltb-false m.tile 27 e))
        ∙ meld_by_honors (back ρ) (ren_meld n m) (ltb-false _ 27 (meld_suited n m v ∙ e))
        ∙ undone n (at_honors (λ ρ. all_melds (back_again ρ)) back_test ρ.honors)

pub ren_back_meld : (ρ : Renaming) (m : Meld) → T (is_meld m) → ren_meld ρ (ren_meld (back ρ) m) ≡ m
ren_back_meld ρ m v = subst (λ (τ : Renaming). ren_meld τ (ren_meld (back ρ) m) ≡ m) (back_back ρ) (back_ren_meld (back ρ) m v)

-- ---- a tile and a meld: the numbers first, and then the honors
meld_still : (m : Meld) → T (is_meld m) → ren_meld still m ≡ m
meld_still m v = meld_path (eqb→eq _ _ (melds_at_holds (λ m. eqb (ren_meld still m).tile m.tile) (λ m. refl) tt m v)) refl refl

meld_parts :
    (ρ : Renaming) (m : Meld) → T (is_meld m) → ren_meld ρ m ≡ ren_meld (honors_alone ρ.honors) (ren_meld (numbers_alone ρ.numbers) m)
meld_parts ρ m v = go (is_suited m.tile) refl
  where
    go : (b : Bool) → is_suited m.tile ≡ b → ren_meld ρ m ≡ ren_meld (honors_alone ρ.honors) (ren_meld (numbers_alone ρ.numbers) m)
    go true e =
        let n = numbers_alone ρ.numbers in
        meld_by_numbers ρ m (ltb-true m.tile 27 e)
        ∙ sym
        (meld_by_numbers (honors_alone ρ.honors) (ren_meld n m) (ltb-true _ 27 (meld_suited n m v ∙ e))
        ∙ meld_still (ren_meld n m) (ren_is_meld_holds n m v))
    go false e =
        let k = ltb-false m.tile 27 e in
        meld_by_honors ρ m k
        ∙ ap (ren_meld (honors_alone ρ.honors)) (sym (meld_by_honors (numbers_alone ρ.numbers) m k ∙ meld_still m v))

-- a test of each meld whose kind passes the question g and each tile: the renaming does not change the answer to q; and of each renaming
abbrev pub leaves : (ℕ → Bool) → (ℕ → Meld → Bool) → Renaming → Bool
leaves g q ρ = all_melds (λ m. not (g m.kind) || all_below 34 (λ t. beq (q (ren ρ t) (ren_meld ρ m)) (q t m)))

abbrev pub on_melds : (ℕ → Bool) → (ℕ → Meld → Bool) → Bool
on_melds g q = all_ren (leaves g q)

-- a question of a tile and a meld that no renaming changes: the numbers do not, and then the honors do not
pub meld_tile_law :
    (g : ℕ → Bool) (q : ℕ → Meld → Bool) → ((t : ℕ) → Sourceless (q t)) → T (on_melds g q)
    → (ρ : Renaming) (m : Meld) → T (is_meld m) → T (g m.kind) → (t : ℕ) → t < 34 → q (ren ρ t) (ren_meld ρ m) ≡ q t m
meld_tile_law g q blind ok ρ m v i t h =
    let n = numbers_alone ρ.numbers in
    ap₂ q (ren_parts ρ t h) (meld_parts ρ m v)
    ∙ law (honors_alone ρ.honors) (at_honors (leaves g q) ok ρ.honors) (ren_meld n m) (ren_is_meld_holds n m v) i (ren n t) (ren_lt n t h)
    ∙ law n (at_numbers (leaves g q) ok ρ.numbers) m v i t h
  where
    law : (τ : Renaming) → T (leaves g q τ) → (m : Meld) → T (is_meld m) → T (g m.kind) → (t : ℕ) → t < 34 → q (ren τ t) (ren_meld τ m) ≡ q t m
    law τ ok m v i t h =
        let x = but_source m in
        blind (ren τ t) (ren_meld τ m)
        ∙ sym (blind (ren τ t) (ren_meld τ x))
        ∙ beq→eq _ _
        (at 34 (λ t. beq (q (ren τ t) (ren_meld τ x)) (q t x))
        (or_skip (g m.kind) (all_below 34 (λ t. beq (q (ren τ t) (ren_meld τ x)) (q t x))) i
        (melds_at_holds (λ m. not (g m.kind) || all_below 34 (λ t. beq (q (ren τ t) (ren_meld τ (but_source m))) (q t (but_source m)))) (λ m. refl) ok m v))
        t h)
        ∙ sym (blind t m)

-- ---- how many of a tile: of sequences by a test, of triplets and kans as two tiles stay equal or different
ren_uses_trip : (ρ : Renaming) (m : Meld) → T (is_meld m) → (t : ℕ) → t < 34 → is_sequence m ≡ false → uses (ren_meld ρ m) (ren ρ t) ≡ uses m t
ren_uses_trip ρ m v t h e =
    rw e (ap (λ (b : Bool). cond b (set_size (is_kan m)) 0) (ren_eqb ρ t m.tile h (meld_tile m v)))

-- the tile is one of the three of a sequence
abbrev in_run : ℕ → Meld → Bool
in_run t m = leb m.tile t && ltb t (m.tile + 3)

run_uses_holds : (m : Meld) (t : ℕ) → is_sequence m ≡ true → uses m t ≡ one (in_run t m)
run_uses_holds m t e = ap (λ (b : Bool). cond b (one (in_run t m)) (cond (eqb t m.tile) (set_size (is_kan m)) 0)) e

ren_uses_seq : (ρ : Renaming) (m : Meld) → T (is_meld m) → (t : ℕ) → t < 34 → is_sequence m ≡ true → uses (ren_meld ρ m) (ren ρ t) ≡ uses m t
ren_uses_seq ρ m v t h e =
    run_uses_holds (ren_meld ρ m) (ren ρ t) e ∙ ap one (meld_tile_law (λ k. ltb k 2) in_run (λ t m. refl) tt ρ m v (true→t _ e) t h) ∙ sym (run_uses_holds m t e)

pub ren_uses : (ρ : Renaming) (m : Meld) → T (is_meld m) → (t : ℕ) → t < 34 → uses (ren_meld ρ m) (ren ρ t) ≡ uses m t
ren_uses ρ m v t h = go (is_sequence m) refl
  where
    go : (b : Bool) → is_sequence m ≡ b → uses (ren_meld ρ m) (ren ρ t) ≡ uses m t
    go true e = ren_uses_seq ρ m v t h e
    go false e = ren_uses_trip ρ m v t h e

-- ---- a renamed sequence starts at the same number, or, mirrored, one that starts at s starts at 8 - s
abbrev starts_so : Numbers → Meld → Meld → Bool
starts_so ν m r = eqb (value_of r.tile) (cond ν.mirror (8 - value_of m.tile) (value_of m.tile))

start_test : T (all_numbers (λ ν. all_melds (λ m. not (is_sequence m) || starts_so ν m (ren_meld (numbers_alone ν) m))))
start_test = tt

pub sequence_lt : (m : Meld) → T (is_meld m) → T (is_sequence m) → m.tile < 27
sequence_lt m v i = ltb→lt _ _ (or_skip (is_sequence m) _ i (melds_at_holds (λ m. not (is_sequence m) || is_suited m.tile) (λ m. refl) tt m v))

pub sequence_start :
    (ρ : Renaming) (m : Meld) → T (is_meld m) → T (is_sequence m)
    → value_of (ren_meld ρ m).tile ≡ cond ρ.numbers.mirror (8 - value_of m.tile) (value_of m.tile)
sequence_start ρ m v i =
    let ν = ρ.numbers in
    ap (λ (r : Meld). value_of r.tile) (meld_by_numbers ρ m (sequence_lt m v i))
    ∙ eqb→eq _ _
    (or_skip (is_sequence m) (starts_so ν m (ren_meld (numbers_alone ν) m)) i
    (melds_at_holds (λ m. not (is_sequence m) || starts_so ν m (ren_meld (numbers_alone ν) m)) (λ m. refl)
    (numbers_at (λ ν. all_melds (λ m. not (is_sequence m) || starts_so ν m (ren_meld (numbers_alone ν) m))) start_test ν) m v))

-- ---- the tile of a renamed triplet or kan
pub not_sequence : (m : Meld) → T (is_triplet_or_kan m) → is_sequence m ≡ false
not_sequence m i = le-ltb m.kind 2 (leb→le 2 m.kind (and_left (leb 2 m.kind) (ltb m.kind 7) i))

pub set_tile : (ρ : Renaming) (m : Meld) → is_sequence m ≡ false → (ren_meld ρ m).tile ≡ ren ρ m.tile
set_tile ρ m e = rw e

pub set_eqb :
    (ρ : Renaming) (t : ℕ) → t < 34 → (m : Meld) → T (is_meld m) → T (is_triplet_or_kan m)
    → eqb (ren ρ t) (ren_meld ρ m).tile ≡ eqb t m.tile
set_eqb ρ t h m v i = ap (eqb (ren ρ t)) (set_tile ρ m (not_sequence m i)) ∙ ren_eqb ρ t m.tile h (meld_tile m v)

-- ---- melds that are others renamed, in any order
pub record Moved (ρ : Renaming) (ms ns : List Meld) : Type 0 where
  pub good : T (all is_meld ms)
  pub same : Permᴰ ns (map (ren_meld ρ) ms)

module _ {ρ : Renaming} {ms ns : List Meld} (mv : Moved ρ ms ns) where
  pub all_moved : (p q : Meld → Bool) → ((m : Meld) → T (is_meld m) → q (ren_meld ρ m) ≡ p m) → all q ns ≡ all p ms
  all_moved p q law =
      every_perm (map_perm q mv.same) ∙ ap every (map_moved is_meld (ren_meld ρ) p q law ms mv.good)

  pub any_moved : (p q : Meld → Bool) → ((m : Meld) → T (is_meld m) → q (ren_meld ρ m) ≡ p m) → any q ns ≡ any p ms
  any_moved p q law =
      some_perm (map_perm q mv.same) ∙ ap some (map_moved is_meld (ren_meld ρ) p q law ms mv.good)

  pub sum_moved : (p q : Meld → ℕ) → ((m : Meld) → T (is_meld m) → q (ren_meld ρ m) ≡ p m) → sum q ns ≡ sum p ms
  sum_moved p q law =
      total_perm (map_perm q mv.same) ∙ ap total (map_moved is_meld (ren_meld ρ) p q law ms mv.good)

  pub count_moved : (p q : Meld → Bool) → ((m : Meld) → T (is_meld m) → q (ren_meld ρ m) ≡ p m) → count q ns ≡ count p ms
  count_moved p q law = sum_moved (λ m. one (p m)) (λ m. one (q m)) (λ m v. ap one (law m v))
