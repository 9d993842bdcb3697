-- `add_tiles` meets its contract. The loop's invariant: what is counted, and the tiles left, are the whole. Assumes nothing.
use Rattle.std.proofs.Common.{◌≡◌, List, ℕ, ◌<◌, length, drop, eqb}
use Rattle.lists.specs.Fold.{count}
use Rattle.hand.specs.Counts.{held}
use Rattle.tile_words.specs.Words.{tiles_from, add_to, char_before}
use Rattle.tile_words.proofs.add_tiles.Given as goal

-- of the tile u: what is counted, with the tiles that the word names from i on
abbrev pub with_rest : List ℕ → List ℕ → ℕ → ℕ → ℕ
with_rest counts word i u = add_to (held counts u) (count (eqb u) (tiles_from (char_before word i) (drop i word)))

abbrev pub invariant-loop-i : goal.invariant-loop-i
invariant-loop-i l = (length l.counts ≡ 34) × ((u : ℕ) → u < 34 → with_rest l.counts l.word l.i u ≡ with_rest l.initial.counts l.word 0 u)
