-- Yaku of the winds and dragons of a standard reading with the pair p and the melds ms, whatever their order. These are definitions.
use Rattle.std.specs.Prelude.{Bool, ◌&&◌, not, List, ℕ, ◌*◌, eqb}
use Rattle.lists.specs.Fold.{any, count}
use Rattle.tile.specs.Tile.{is_dragon, is_wind}
use Rattle.meld.specs.declared.Meld.{Meld}
use Rattle.context.specs.declared.GameContext.{GameContext}
use Rattle.hand.specs.Reading.{Reading, pairs, orphans, standard}
use Rattle.wait.specs.Wait.{weight}
use Rattle.meld_yaku.specs.Melds.{set_of}

-- Yakuhai of an honor: for each triplet or kan of it as often as the honor counts, twice for a wind that is round and seat wind
unfoldable pub yakuhai : GameContext → List Meld → ℕ → ℕ
yakuhai w ms t = count (set_of (eqb t)) ms * weight w t

-- the tally of an honor, and nothing where the reading is not a standard one
abbrev pub yakuhai_of : GameContext → Reading → ℕ → ℕ
yakuhai_of w (pairs ps) t = 0
yakuhai_of w (orphans p) t = 0
yakuhai_of w (standard p ms) t = yakuhai w ms t

-- how many triplets and kans of dragons there are
unfoldable pub dragons : List Meld → ℕ
dragons ms = count (set_of is_dragon) ms

-- how many triplets and kans of winds there are
unfoldable pub winds : List Meld → ℕ
winds ms = count (set_of is_wind) ms

-- Shousangen: two triplets or kans of dragons and a pair of the third
unfoldable pub shousangen : ℕ → List Meld → Bool
unfolding dragons
shousangen p ms = is_dragon p && eqb (dragons ms) 2

-- ---- yakuman
-- Daisangen: triplets or kans of all three dragons
unfoldable pub daisangen : List Meld → Bool
unfolding dragons
daisangen ms = eqb (dragons ms) 3

-- Shousuushii: triplets or kans of three winds and a pair of the fourth
unfoldable pub shousuushii : ℕ → List Meld → Bool
unfolding winds
shousuushii p ms = eqb (winds ms) 3 && (is_wind p && not (any (set_of (eqb p)) ms))

-- Daisuushii: triplets or kans of all four winds
unfoldable pub daisuushii : List Meld → Bool
unfolding winds
daisuushii ms = eqb (winds ms) 4
