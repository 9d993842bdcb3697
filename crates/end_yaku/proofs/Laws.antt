-- Junchan is a narrower Chanta, and both need a sequence. Assumes nothing.
use mathlib.Core.Bool.{◌||◌}
use mathlib.Core.List.{List}
use Prim.Native.Nat.{ℕ}
use lib.Dec.{T}
use Rattle.lists.specs.Fold.{any}
use Rattle.lists.proofs.Finite.{and_left, and_right, and_both, or_elim, or_left, or_right}
use Rattle.lists.proofs.Members.{all_mem, all_intro}
use Rattle.tile.specs.Tile.{is_honor, is_terminal, is_terminal_or_honor}
use Rattle.meld.specs.declared.Meld.{Meld}
use Rattle.meld.specs.Meld.{is_sequence, is_triplet_or_kan}
use Rattle.meld_yaku.specs.Melds.{set_of}
use Rattle.end_yaku.specs.Ends.{end_run, chanta, junchan}

-- ---- Chanta has a sequence
pub chanta_sequence : (p : ℕ) (ms : List Meld) → T (chanta p ms) → T (any is_sequence ms)
unfolding chanta
chanta_sequence p ms t = and_left (any is_sequence ms) _ (and_right (is_terminal_or_honor p) _ t)

-- ---- Junchan is a Chanta: a meld with a terminal is one with a terminal or an honor
end_wider : (m : Meld) → T (end_run m || set_of is_terminal m) → T (end_run m || set_of is_terminal_or_honor m)
end_wider m h =
    or_elim (end_run m) _ h (or_left (end_run m) _)
    (λ i. or_right (end_run m) _
    (and_both (is_triplet_or_kan m) _ (and_left (is_triplet_or_kan m) _ i)
    (or_left (is_terminal m.tile) (is_honor m.tile) (and_right (is_triplet_or_kan m) _ i))))

pub junchan_chanta : (p : ℕ) (ms : List Meld) → T (junchan p ms) → T (chanta p ms)
unfolding junchan chanta
junchan_chanta p ms t =
    let rest = and_right (is_terminal p) _ t in
    and_both (is_terminal_or_honor p) _ (or_left (is_terminal p) (is_honor p) (and_left (is_terminal p) _ t))
    (and_both (any is_sequence ms) _ (and_left (any is_sequence ms) _ rest)
    (all_intro (λ m. end_run m || set_of is_terminal_or_honor m) ms
    (λ m i. end_wider m (all_mem (λ m. end_run m || set_of is_terminal m) (and_right (any is_sequence ms) _ rest) i))))
