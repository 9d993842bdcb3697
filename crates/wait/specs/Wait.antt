-- Waits: what the winning tile t can have completed. There may be several ways, so waits are tallied: how often each. Calls, closed kans among
-- them, were complete before the win and give no wait. These are definitions.
use Rattle.std.specs.Prelude.{Bool, false, ◌&&◌, ◌||◌, not, List, [], ◌∷◌, ℕ, ◌+◌, ◌%◌, eqb, ltb, leb}
use Rattle.lists.specs.Fold.{all, any, count, one}
use Rattle.tile.specs.Tile.{is_dragon}
use Rattle.meld.specs.declared.Meld.{Meld}
use Rattle.meld.specs.Meld.{is_sequence}
use Rattle.context.specs.declared.GameContext.{GameContext}
use Rattle.hand.specs.Reading.{Reading, pairs, orphans, standard}

-- ---- the tile t in the sequence that starts at s
-- it is one of the three
abbrev pub within : ℕ → ℕ → Bool
within t s = leb s t && ltb t (s + 3)

-- Ryanmen: its lowest tile, but not the 7 of 789, or its highest, but not the 3 of 123
abbrev pub two_sided : ℕ → ℕ → Bool
two_sided t s = eqb t s && not (eqb (s % 9) 6) || eqb t (s + 2) && not (eqb (s % 9) 0)

-- Penchan: the 7 of 789 or the 3 of 123
abbrev pub edge : ℕ → ℕ → Bool
edge t s = eqb t s && eqb (s % 9) 6 || eqb t (s + 2) && eqb (s % 9) 0

-- Kanchan: in the middle
abbrev pub middle : ℕ → ℕ → Bool
middle t s = eqb t (s + 1)

-- a closed sequence in which the tile t stands as the question q says: within, two_sided, edge or middle
abbrev pub closed_run : (ℕ → ℕ → Bool) → ℕ → Meld → Bool
closed_run q t m = eqb m.kind 0 && q t m.tile

-- Shanpon: a closed triplet of the tile
abbrev pub closed_triplet : ℕ → Meld → Bool
closed_triplet t m = eqb m.kind 2 && eqb t m.tile

-- a tally for each entry of WaitType: Ryanmen, Kanchan, Penchan, Shanpon, Tanki, Kokushi13. Thirteen orphans that are won on the doubled tile
-- had one of each and waited for any of the thirteen: Kokushi13. Won on another tile they had the pair and waited for the one missing: Tanki
unfoldable pub waits : ℕ → Reading → List ℕ
waits t (pairs ps) = 0 ∷ 0 ∷ 0 ∷ 0 ∷ one (any (eqb t) ps) ∷ 0 ∷ []
waits t (orphans p) = 0 ∷ 0 ∷ 0 ∷ 0 ∷ one (not (eqb t p)) ∷ one (eqb t p) ∷ []
waits t (standard p ms) =
    count (closed_run two_sided t) ms
    ∷ count (closed_run middle t) ms
    ∷ count (closed_run edge t) ms
    ∷ count (closed_triplet t) ms
    ∷ one (eqb t p)
    ∷ 0
    ∷ []

-- how often a tile is yakuhai: a dragon once, a wind once as round wind and once as seat wind, any other tile never
abbrev pub weight : GameContext → ℕ → ℕ
weight w t = one (is_dragon t) + (one (eqb t w.round_wind) + one (eqb t w.seat_wind))

-- Pinfu: a closed hand, sequences only, a pair that is no yakuhai, and Ryanmen among the waits
unfoldable pub pinfu : GameContext → Bool → Reading → Bool
pinfu w opened (pairs ps) = false
pinfu w opened (orphans p) = false
pinfu w opened (standard p ms) =
    not opened && (all is_sequence ms && (eqb (weight w p) 0 && any (closed_run two_sided w.winning_tile) ms))
