-- The checks that a hand and its calls pass before they are read, in their order. These are definitions.
use Rattle.std.specs.Prelude.{Bool, true, false, ◌&&◌, ◌||◌, not, List, ℕ, ◌+◌, ◌*◌, eqb, ltb, leb, length, take}
use Rattle.lists.specs.Fold.{all, sum}
use Rattle.tile.specs.Tile.{tiles}
use Rattle.rules.specs.Rules.{Game, four, most}
use Rattle.meld.specs.declared.Meld.{Meld}
use Rattle.meld.specs.Meld.{is_sequence, is_call, uses}
use Rattle.hand.specs.Counts.{held}
use Rattle.checks.specs.declared.Calls.{Calls}

-- the calls: the first of the four melds, as many as are called
abbrev pub called : Calls → List Meld
called k = take k.count k.melds

-- how many of the tile t hand and calls hold together
abbrev pub together : List ℕ → List Meld → ℕ → ℕ
together cs ms t = held cs t + sum (λ m. uses m t) ms

-- all tiles of the meld are in the wall of the game g: its lowest, and of a sequence the two after it
abbrev pub in_wall : Game → Meld → Bool
in_wall g m = g.allowed m.tile && (not (is_sequence m) || (g.allowed (m.tile + 1) && g.allowed (m.tile + 2)))

-- the call can be made in the game g: a sequence only where they are called, from one of its players, and of tiles in its wall
abbrev pub is_played : Game → Meld → Bool
is_played g m = (g.chi || not (is_sequence m)) && (ltb m.source g.players && in_wall g m)

abbrev pub is_call_in : Game → Meld → Bool
is_call_in g m = is_call m && is_played g m

-- a check that fails refuses with its number; else the next is made
unfoldable pub check : Bool → ℕ → ℕ → ℕ
check true n next = next
check false n next = n

-- in the game g: 1 the counts are not 34 long; 2 more than four calls; 3 a call is not a meld that can be called; 4 a count above 4, or above 0 of a tile
-- that is absent; 5 hand and calls together hold more than four of one tile; 6 the hand's tiles are not 14 - 3 × calls; 0 where all pass
unfoldable pub hand_check_in : Game → List ℕ → Calls → ℕ
hand_check_in g cs k =
    check (eqb (length cs) 34) 1
    (check (leb k.count 4) 2
    (check (all (is_call_in g) (called k)) 3
    (check (all (λ t. leb (held cs t) (most g t)) tiles) 4
    (check (all (λ t. leb (together cs (called k) t) 4) tiles) 5
    (check (eqb (sum (held cs) tiles + 3 * k.count) 14) 6 0)))))

-- with four players and all tiles
abbrev pub hand_check : List ℕ → Calls → ℕ
hand_check cs k = hand_check_in four cs k
