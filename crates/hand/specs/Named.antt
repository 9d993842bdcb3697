-- Hands as players write them: a list of tiles, in any order. These are definitions.
use Rattle.std.specs.Prelude.{List, map, ℕ, eqb}
use Rattle.lists.specs.Fold.{count}
use Rattle.tile.specs.Tile.{tiles}

-- how many of the tile t there are
abbrev pub of_tiles : List ℕ → ℕ → ℕ
of_tiles ts t = count (eqb t) ts

-- the 34 counts
abbrev pub hand : List ℕ → List ℕ
hand ts = map (of_tiles ts) tiles
