-- `with_word` meets its contract. The loop's invariant: the indicators so far, with the tiles from here on, are all. Assumes nothing.
use Rattle.std.proofs.Common.{◌≡◌, List, ℕ, drop}
use Rattle.lists.specs.Fold.{keep}
use Rattle.context.specs.declared.Indicators.{Indicators}
use Rattle.tile_words.specs.Words.{tiles_from, char_before}
use Rattle.notation.specs.Shown.{with_indicators}
use Rattle.notation.proofs.Shown.{is_tile}
use Rattle.notation.proofs.indicators.with_word.Given as goal

-- indicators with the tiles that the word names from i on
abbrev pub with_rest : Indicators → List ℕ → ℕ → Indicators
with_rest k w i = with_indicators k (keep is_tile (tiles_from (char_before w i) (drop i w)))

abbrev pub invariant-loop-i : goal.invariant-loop-i
invariant-loop-i l = with_rest l.all l.word l.i ≡ with_rest l.initial.all l.word 0
