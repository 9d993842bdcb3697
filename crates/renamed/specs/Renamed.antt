-- The readings and the counts of a renamed hand (a renaming: tile/specs/Renaming.antt). These are definitions.
use Rattle.std.specs.Prelude.{Bool, ◌||◌, List, map, ℕ, eqb}
use Rattle.lists.specs.Fold.{all_below}
use Rattle.lists.specs.Order.{arrange}
use Rattle.tile.specs.Tile.{is_green, tiles}
use Rattle.tile.specs.declared.Renaming.{Renaming}
use Rattle.tile.specs.Renaming.{ren, back}
use Rattle.meld.specs.declared.Meld.{Meld}
use Rattle.meld.specs.Meld.{sorted}
use Rattle.meld.specs.Renamed.{ren_meld}
use Rattle.hand.specs.Counts.{held}
use Rattle.hand.specs.Reading.{Reading, pairs, orphans, standard}

-- a reading with f at each tile and g at each meld; pairs and melds are put in ascending order again
abbrev pub changed : (ℕ → ℕ) → (Meld → Meld) → Reading → Reading
changed f g (pairs ps) = pairs (arrange eqb tiles (map f ps))
changed f g (orphans p) = orphans (f p)
changed f g (standard p ms) = standard (f p) (sorted (map g ms))

abbrev pub ren_reading : Renaming → Reading → Reading
ren_reading ρ r = changed (ren ρ) (ren_meld ρ) r

-- the count of a tile becomes the count of its renamed tile
abbrev pub ren_counts : Renaming → List ℕ → List ℕ
ren_counts ρ cs = map (λ t. held cs (ren (back ρ) t)) tiles

-- each tile that is there is green
abbrev pub all_green : (ℕ → ℕ) → Bool
all_green c = all_below 34 (λ t. eqb (c t) 0 || is_green t)
