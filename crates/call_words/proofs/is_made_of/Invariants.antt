-- `is_made_of` meets its contract. The loop's invariant: what was found so far, and the test over the tiles left, is the whole test. Assumes nothing.
use Rattle.std.proofs.Common.{◌≡◌, ℕ, ◌-◌, Bool, List, ◌&&◌, eqb}
use Rattle.lists.specs.Fold.{all, up_from}
use Rattle.tile.specs.Tile.{tiles}
use Rattle.meld.specs.declared.Meld.{Meld}
use Rattle.meld.specs.Meld.{uses}
use Rattle.hand.specs.Counts.{held}
use Rattle.call_words.proofs.is_made_of.Given as goal

abbrev pub same_at : Meld → List ℕ → ℕ → Bool
same_at m cs t = eqb (held cs t) (uses m t)

abbrev pub invariant-loop-t : goal.invariant-loop-t
invariant-loop-t l = l.good && all (same_at l.m l.counts) (up_from (34 - l.t) l.t) ≡ all (same_at l.m l.counts) tiles
