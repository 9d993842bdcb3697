-- `good_length` meets its contract. The loop's invariant: what was passed, and what is good from there on, is the whole. Assumes nothing.
use Rattle.std.proofs.Common.{◌≡◌, ◌+◌, drop}
use Rattle.tile_words.specs.Words.{good_length, char_before}
use Rattle.tile_words.proofs.good_length.Given as goal

abbrev pub invariant-loop-i : goal.invariant-loop-i
invariant-loop-i l = l.i + good_length (char_before l.word l.i) (drop l.i l.word) ≡ good_length 0 l.word
