-- The han of each entry of the tallies, and their sum. These are definitions.
use Rattle.std.specs.Prelude.{Bool, true, false, List, [], ◌∷◌, map, ℕ, ◌+◌, ◌*◌}
use Rattle.context.specs.declared.GameContext.{GameContext}
use Rattle.hand.specs.Reading.{Reading}
use Rattle.tile_yaku.specs.declared.TileYaku.{TileYaku}
use Rattle.yaku.specs.Names.{han_closed, han_open, names}
use Rattle.yaku.specs.Tally.{tallies}

-- the names' han in the order of the tallies, in a closed hand and in an open one
unfoldable pub han_of : Bool → List ℕ
han_of false = map han_closed names
han_of true = map han_open names

-- the sum of each value as often as its tally says
abbrev pub dot : List ℕ → List ℕ → ℕ
dot [] ns = 0
dot (v ∷ vs) [] = 0
dot (v ∷ vs) (n ∷ ns) = v * n + dot vs ns

-- the han of a reading: for each yaku its han, as often as it counts
unfoldable pub han : GameContext → Bool → TileYaku → Reading → ℕ
han w opened s r = dot (han_of opened) (tallies w opened s r)
