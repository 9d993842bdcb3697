-- The starts of sequences and the lines of them stay when all is renamed, in another order: a straight read from 9 to 1 is a straight, in
-- each suit. Assumes nothing.
use mathlib.Core.Path.{◌≡◌, sym, ap, ◌∙◌}
use mathlib.Core.Bool.{Bool, ◌&&◌, cond}
use mathlib.Core.List.{map}
use Prim.Native.Nat.{ℕ, ◌+◌, ◌<◌, min}
use native.Mathlib.Omega.{arith}
use lib.Dec.{T, eqb, ltb, leb, eqb→eq, ltb→lt}
use borrow.Author.Tests.{eq-eqb, lt-ltb}
use Rattle.lists.proofs.Finite.{and_left, and_both, and_cong, or_right, T→true, true→t, T-eq}
use Rattle.lists.proofs.Permuted.{is_perm, is_perm_perm_holds, Shuffled, same_lines}
use Rattle.tile.specs.Tile.{is_start, is_suited}
use Rattle.tile.specs.declared.Renaming.{Renaming}
use Rattle.tile.specs.Renaming.{ren, back}
use Rattle.tile.proofs.Renamings.{numbers_test}
use Rattle.meld.specs.declared.Meld.{Meld}
use Rattle.meld.specs.Meld.{is_shaped, is_sourced, is_meld, is_sequence, meld_from, meld}
use Rattle.meld.specs.Renamed.{ren_meld}
use Rattle.meld.proofs.Melds.{meld_shaped, meld_sourced}
use Rattle.meld.proofs.Renamed.{back_ren_meld}
use Rattle.meld_yaku.specs.Melds.{run_from}
use Rattle.sequence_yaku.specs.Sequences.{straights, run_lines, starts}

-- ---- where a renamed sequence starts
abbrev pub ren_start : Renaming → ℕ → ℕ
ren_start ρ t = (ren_meld ρ (meld t 0)).tile

start_lt : (t : ℕ) → T (is_start t) → t < 34
start_lt t s = let h = ltb→lt t 27 (and_left (is_suited t) _ s) in omega arith

-- the sequence m starts at t where the renamed one starts at the renamed start: two sequences of one kind that become the same are the same
pub ren_run_from_holds : (ρ : Renaming) (t : ℕ) → T (is_start t) → (m : Meld) → T (is_meld m) → run_from (ren_start ρ t) (ren_meld ρ m) ≡ run_from t m
ren_run_from_holds ρ t s m v = and_cong (is_sequence m) (λ i. T-eq _ _ (undone i) (renamed i))
  where
    -- the sequence at t of the kind and the source of m
    run : Meld
    run = meld_from t m.kind m.source

    run_meld : T (is_meld run)
    run_meld =
        and_both (is_shaped run) (is_sourced run)
        (and_both (ltb m.kind 7) _ (and_left (ltb m.kind 7) _ (meld_shaped m v))
        (and_both (ltb t 34) _ (true→t _ (lt-ltb t 34 (start_lt t s))) (or_right (leb 2 m.kind) (is_start t) s)))
        (meld_sourced m v)

    run_starts : T (is_sequence m) → (ren_meld ρ run).tile ≡ ren_start ρ t
    run_starts i = ap (λ (b : Bool). cond (b && is_start t) (min (ren ρ t) (ren ρ (t + 2))) (ren ρ t)) (T→true (is_sequence m) i)

    undone : T (is_sequence m) → T (eqb (ren_start ρ t) (ren_meld ρ m).tile) → T (eqb t m.tile)
    undone i e =
        let same : ren_meld ρ run ≡ ren_meld ρ m = ap (λ (u : ℕ). meld_from u m.kind m.source) (run_starts i ∙ eqb→eq _ _ e) in
        let runs : run ≡ m = sym (back_ren_meld ρ run run_meld) ∙ ap (ren_meld (back ρ)) same ∙ back_ren_meld ρ m v in
        true→t _ (eq-eqb t m.tile (ap (λ (x : Meld). x.tile) runs))

    renamed : T (is_sequence m) → T (eqb t m.tile) → T (eqb (ren_start ρ t) (ren_meld ρ m).tile)
    renamed i e = true→t _ (eq-eqb _ _ (sym (run_starts i) ∙ ap (λ (u : ℕ). (ren_meld ρ (meld_from u m.kind m.source)).tile) (eqb→eq t m.tile e)))

-- ---- starts and lines, in another order
pub starts_over : (ρ : Renaming) → Shuffled (ren_start ρ) is_start starts
starts_over ρ = record { each = tt; same = is_perm_perm_holds _ _ (numbers_test (λ ρ. is_perm (map (ren_start ρ) starts) starts) ρ tt) }

pub straights_same : (ρ : Renaming) → T (same_lines (ren_start ρ) straights)
straights_same ρ = numbers_test (λ ρ. same_lines (ren_start ρ) straights) ρ tt

pub run_lines_same_holds : (ρ : Renaming) → T (same_lines (ren_start ρ) run_lines)
run_lines_same_holds ρ = numbers_test (λ ρ. same_lines (ren_start ρ) run_lines) ρ tt
