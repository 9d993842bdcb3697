-- Which triplets and kans are concealed. A triplet of the ron tile is not, unless a closed sequence of the reading has that tile too: then
-- the ron is taken to have completed the sequence. As agari has it, it is enough that the sequence has the tile. These are definitions.
use Rattle.std.specs.Prelude.{Bool, ◌&&◌, ◌||◌, not, List, eqb}
use Rattle.lists.specs.Fold.{any}
use Rattle.meld.specs.declared.Meld.{Meld}
use Rattle.context.specs.declared.GameContext.{GameContext}
use Rattle.context.specs.Context.{is_tsumo}
use Rattle.wait.specs.Wait.{closed_run, within}

-- a closed sequence has the winning tile, so a triplet of that tile is spared: it stays concealed even by ron
abbrev pub spared : GameContext → List Meld → Bool
spared w ms = any (closed_run within w.winning_tile) ms

-- a closed kan; or a closed triplet, if the win is by tsumo, or on another tile, or the triplet is kept concealed. `kept` is `spared` for
-- SanAnkou and fu, and no for Suuankou
abbrev pub concealed : GameContext → Bool → Meld → Bool
concealed w kept m =
    eqb m.kind 4 || eqb m.kind 2 && (is_tsumo w || (not (eqb w.winning_tile m.tile) || kept))
