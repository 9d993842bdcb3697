-- What a win in range has: ron or tsumo, two winds, and a setting that is four or two. Assumes nothing.
use mathlib.Core.Bool.{◌&&◌}
use lib.Dec.{T, ltb}
use Rattle.lists.proofs.Finite.{and_left, and_right}
use Rattle.tile.specs.Tile.{is_wind}
use Rattle.context.specs.declared.GameContext.{GameContext}
use Rattle.context.specs.Context.{is_setting, in_range}

module _ (w : GameContext) (h : T (in_range w)) where
  pub type_in : T (ltb w.win_type 2)
  type_in = and_left (ltb w.win_type 2) _ h

  winds_and_setting : T (is_wind w.round_wind && (is_wind w.seat_wind && is_setting w.double_wind_fu))
  winds_and_setting = and_right (ltb w.win_type 2) _ h

  pub round_in : T (is_wind w.round_wind)
  round_in = and_left (is_wind w.round_wind) _ winds_and_setting

  pub seat_in : T (is_wind w.seat_wind)
  seat_in = and_left (is_wind w.seat_wind) _ (and_right (is_wind w.round_wind) _ winds_and_setting)

  pub setting_in : T (is_setting w.double_wind_fu)
  setting_in = and_right (is_wind w.seat_wind) _ (and_right (is_wind w.round_wind) _ winds_and_setting)
