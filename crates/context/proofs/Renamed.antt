-- A win and the win renamed: both winds go with the tiles, so that a tile is the round wind or the seat wind where the renamed tile is the renamed win's,
-- each win is in range where the other is, and both winners are dealers or neither is. Assumes nothing.
use mathlib.Core.Path.{◌≡◌, ap₂}
use mathlib.Core.Bool.{Bool, ◌&&◌}
use Prim.Native.Nat.{ℕ, ◌<◌}
use native.Mathlib.Omega.{arith}
use lib.Dec.{T, eqb, ltb}
use Rattle.tile.specs.Tile.{is_wind}
use Rattle.tile.specs.declared.Renaming.{Renaming}
use Rattle.tile.specs.Renaming.{ren}
use Rattle.tile.proofs.Tiles.{wind_below}
use Rattle.tile.proofs.Renamings.{ren_eqb, ren_east, ren_is_wind_holds}
use Rattle.context.specs.declared.GameContext.{GameContext}
use Rattle.context.specs.Context.{is_dealer, is_setting, in_range, ren_win}
use Rattle.context.proofs.Range.{round_in, seat_in}

-- ---- a tile is the round wind or the seat wind where the renamed tile is the renamed win's
wind_eqb : (ρ : Renaming) (t u : ℕ) → t < 34 → T (is_wind u) → eqb (ren ρ t) (ren ρ u) ≡ eqb t u
wind_eqb ρ t u h k = let l = wind_below u k in ren_eqb ρ t u h (omega arith)

module _ (ρ : Renaming) (w : GameContext) (winds : T (in_range w)) where
  pub round_renamed : (t : ℕ) → t < 34 → eqb (ren ρ t) (ren_win ρ w).round_wind ≡ eqb t w.round_wind
  round_renamed t h = wind_eqb ρ t w.round_wind h (round_in w winds)

  pub seat_renamed : (t : ℕ) → t < 34 → eqb (ren ρ t) (ren_win ρ w).seat_wind ≡ eqb t w.seat_wind
  seat_renamed t h = wind_eqb ρ t w.seat_wind h (seat_in w winds)

-- ---- whatever numbers stand for the winds
pub range_renamed : (ρ : Renaming) (w : GameContext) → in_range (ren_win ρ w) ≡ in_range w
range_renamed ρ w =
    ap₂ (λ (a b : Bool). ltb w.win_type 2 && (a && (b && is_setting w.double_wind_fu))) (ren_is_wind_holds ρ w.round_wind)
    (ren_is_wind_holds ρ w.seat_wind)

-- the dealer of the one is the dealer of the other: East stays, and no other seat becomes East
pub dealer_renamed : (ρ : Renaming) (w : GameContext) → is_dealer (ren_win ρ w) ≡ is_dealer w
dealer_renamed ρ w = ren_east ρ w.seat_wind
