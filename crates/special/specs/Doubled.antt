-- Thirteen orphans by the tile that is doubled. These are definitions.
use Rattle.std.specs.Prelude.{List, [], ◌∷◌, Option, Some, None}
use Rattle.hand.specs.Reading.{Reading, orphans}
use Rattle.tile.specs.declared.Tile.{Tile}

-- the reading as thirteen orphans, where a tile is doubled
abbrev pub doubled_in : Option Tile → List Reading
doubled_in None = []
doubled_in (Some p) = orphans p.0 ∷ []
