-- Two tables of one game agree, at the arguments of the exported operations: each lends its calls as a list of melds, the second's renamed one by one.
-- Assumes nothing.
use mathlib.Core.Path.{◌≡◌, refl}
use mathlib.Core.List.{List, [], ◌∷◌, map}
use Prim.Native.Nat.{ℕ}
use lib.ListN.{length-map}
use Rattle.tile.specs.declared.Renaming.{Renaming}
use Rattle.meld.specs.declared.Meld.{Meld}
use Rattle.meld.specs.Renamed.{ren_meld}
use Rattle.rules.specs.Rules.{Game, four}
use Rattle.context.specs.declared.GameContext.{GameContext}
use Rattle.checks.specs.Checks.{called}
use Rattle.lent.specs.Lent.{calls_of}
use Rattle.agreement.specs.Agreement.{StaysAllowed, AlikeIn, Alike, RenamedCalls, RenamedWin}
use Rattle.agreement.proofs.Demand3.{demand3_in, four_stays}

-- the calls of the melds renamed are the calls renamed; of more than four, which are refused, the first four
pub lent_renamed : (ρ : Renaming) (ms : List Meld) → RenamedCalls ρ (calls_of ms) (calls_of (map (ren_meld ρ) ms))
lent_renamed ρ ms = record { many = length-map ms (ren_meld ρ); calls = first_four ms }
  where
    first_four : (ms : List Meld) → called (calls_of (map (ren_meld ρ) ms)) ≡ map (ren_meld ρ) (called (calls_of ms))
    first_four [] = refl
    first_four (a ∷ []) = refl
    first_four (a ∷ b ∷ []) = refl
    first_four (a ∷ b ∷ c ∷ []) = refl
    first_four (a ∷ b ∷ c ∷ d ∷ []) = refl
    first_four (a ∷ b ∷ c ∷ d ∷ e ∷ ms) = refl

-- of any game, under any renaming that keeps the tiles in its wall there
pub demand3_lent_in :
    (g : Game) (ρ : Renaming) → StaysAllowed g ρ → (cs : List ℕ) (ms : List Meld) (w v : GameContext) → RenamedWin ρ w v
    → AlikeIn g ρ cs (calls_of ms) (calls_of (map (ren_meld ρ) ms)) w v
demand3_lent_in g ρ stays cs ms w v r = demand3_in g ρ stays cs (calls_of ms) (calls_of (map (ren_meld ρ) ms)) w v refl refl (lent_renamed ρ ms) r

-- with four players and all tiles, under every renaming
pub demand3_lent :
    (ρ : Renaming) (cs : List ℕ) (ms : List Meld) (w v : GameContext) → RenamedWin ρ w v
    → Alike ρ cs (calls_of ms) (calls_of (map (ren_meld ρ) ms)) w v
demand3_lent ρ = demand3_lent_in four ρ (four_stays ρ)
