-- What the two games are: the tiles and the players of either. Computed. Assumes nothing.
use mathlib.Core.Path.{◌≡◌, refl}
use mathlib.Core.Bool.{false}
use mathlib.Core.List.{◌∷◌}
use Prim.Native.Nat.{◌≤◌}
use lib.Dec.{lit≤}
use Rattle.lists.specs.Fold.{sum, keep, up_from}
use Rattle.tile.specs.Tile.{tiles}
use Rattle.tile.specs.Named.{man, pin}
use Rattle.rules.specs.declared.Variant.{Variant}
use Rattle.rules.specs.declared.Variant.TheVariants.{Yonma, Sanma}
use Rattle.rules.specs.Rules.{four, three, game, most}

-- four players have every tile
pub four_tiles : keep four.allowed tiles ≡ tiles
four_tiles = refl

-- three players have man 1 and 9, and every tile of pin, of sou and of the honors
pub three_tiles : keep three.allowed tiles ≡ man 1 ∷ man 9 ∷ up_from 25 (pin 1)
three_tiles = refl

-- a wall of four has 136 tiles, one of three 108
pub four_wall : sum (most four) tiles ≡ 136
four_wall = refl

pub three_wall : sum (most three) tiles ≡ 108
three_wall = refl

-- three players call no sequence and show no indicator
pub three_rules : (three.chi ≡ false) × ((three.dora ≡ false) × (three.players ≡ 3))
three_rules = (refl, (refl, refl))

-- three or four sit at a table
pub table : (v : Variant) → (3 ≤ (game v).players) × ((game v).players ≤ 4)
table Yonma = (lit≤ tt, lit≤ tt)
table Sanma = (lit≤ tt, lit≤ tt)
