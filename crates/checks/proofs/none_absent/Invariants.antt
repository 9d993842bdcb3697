-- `none_absent` meets its contract. The loop's invariant: what was found so far, and the test over the tiles left, is the whole test.
-- Assumes nothing.
use Rattle.std.proofs.Common.{◌≡◌, ◌&&◌, ◌||◌, ◌-◌, ℕ, List, Bool, eqb}
use Rattle.lists.specs.Fold.{all, up_from}
use Rattle.tile.specs.Tile.{tiles}
use Rattle.rules.specs.Rules.{Game, game}
use Rattle.hand.specs.Counts.{held}
use Rattle.checks.proofs.none_absent.Given as goal

abbrev pub none_of : Game → List ℕ → ℕ → Bool
none_of g cs t = g.allowed t || eqb (held cs t) 0

abbrev pub invariant-loop-t : goal.invariant-loop-t
invariant-loop-t l = l.good && all (none_of (game l.v) l.counts) (up_from (34 - l.t) l.t) ≡ all (none_of (game l.v) l.counts) tiles
