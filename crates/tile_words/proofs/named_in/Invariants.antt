-- `named_in` meets its contract. The loop's invariant: the tiles counted, and those from here on, are the whole. Assumes nothing.
use Rattle.std.proofs.Common.{◌≡◌, ◌+◌, ◌≤◌, drop}
use Rattle.lists.specs.Fold.{count}
use Rattle.tile_words.specs.Words.{tiles_from, named_in, char_before}
use Rattle.tile_words.proofs.Places.{is_tile}
use Rattle.tile_words.proofs.named_in.Given as goal

abbrev pub invariant-loop-i : goal.invariant-loop-i
invariant-loop-i l = (l.n ≤ l.i) × (l.n + count is_tile (tiles_from (char_before l.word l.i) (drop l.i l.word)) ≡ named_in l.word)
