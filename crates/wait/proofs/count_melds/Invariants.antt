-- `count_melds`: so many of the melds so far pass, and those that do among the rest make up the count.
use Rattle.std.proofs.Common.{◌≡◌, ◌≤◌, ◌+◌, Bool, drop}
use Rattle.lists.specs.Fold.{count}
use Rattle.meld.specs.declared.Meld.{Meld}
use Rattle.wait.proofs.count_melds.Given as goal

abbrev pub invariant-loop-m : goal.invariant-loop-m
invariant-loop-m g l =
    (l.n ≤ l.m-index)
    × ((p : Meld → Bool) → ((m : Meld) (b : Bool) → goal.F-post g l.test m b → b ≡ p m) → l.n + count p (drop l.m-index l.m-items) ≡ count p l.fn.ms)
