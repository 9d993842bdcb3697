-- The renamed meld: its tiles are renamed, the lowest of them is then its tile, and kind and source stay. (Bytes that are no sequence have only their tile renamed.)
-- This is a definition.
use Rattle.std.specs.Prelude.{◌&&◌, cond, ◌+◌, min}
use Rattle.tile.specs.Tile.{is_start}
use Rattle.tile.specs.declared.Renaming.{Renaming}
use Rattle.tile.specs.Renaming.{ren}
use Rattle.meld.specs.declared.Meld.{Meld}
use Rattle.meld.specs.Meld.{is_sequence, at_tile}

abbrev pub ren_meld : Renaming → Meld → Meld
ren_meld ρ m = at_tile (cond (is_sequence m && is_start m.tile) (min (ren ρ m.tile) (ren ρ (m.tile + 2))) (ren ρ m.tile)) m
