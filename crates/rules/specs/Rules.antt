-- The games: what is a game's own, and the two that are played. These are definitions.
use Rattle.std.specs.Prelude.{Bool, true, false, ◌||◌, cond, ℕ, ltb}
use Rattle.tile.specs.Named.{man}
use Rattle.rules.specs.declared.Variant.{Variant}
use Rattle.rules.specs.declared.Variant.TheVariants.{Yonma, Sanma}

-- a game: which tiles are in the wall, whether a sequence may be called, how many players there are, whether indicators of dora are shown
pub record Game : Type 0 where
  pub allowed : ℕ → Bool
  pub chi : Bool
  pub players : ℕ
  pub dora : Bool

-- four players, with all tiles
abbrev pub four : Game
four = record { allowed = λ t. true; chi = true; players = 4; dora = true }

-- three players: man 2 to 8 are absent, no sequence is called and no indicator is shown
abbrev pub three : Game
three = record { allowed = λ t. ltb t (man 2) || ltb (man 8) t; chi = false; players = 3; dora = false }

abbrev pub game : Variant → Game
game Yonma = four
game Sanma = three

-- how many there are of a tile: four of each in the wall, none of an absent one
abbrev pub most : Game → ℕ → ℕ
most g t = cond (g.allowed t) 4 0
