-- A win (GameContext in agari): how it was won, the winning tile, both winds, eight flags, a setting of the room, which agari does not have, and
-- the indicators of dora. Questions about it, the win renamed, and the same win in another room or with other indicators. These are definitions.
use Rattle.std.specs.Prelude.{Bool, ◌&&◌, ◌||◌, List, map, ℕ, eqb, ltb, leb, take}
use Rattle.lists.specs.Fold.{all}
use Rattle.tile.specs.Tile.{is_wind}
use Rattle.tile.specs.declared.Renaming.{Renaming}
use Rattle.tile.specs.Renaming.{ren}
use Rattle.context.specs.declared.Indicators.{Indicators}
use Rattle.context.specs.declared.GameContext.{GameContext}

-- the winning tile was drawn by the winner; else it is ron, on another player's tile
abbrev pub is_tsumo : GameContext → Bool
is_tsumo w = eqb w.win_type 1

-- East as seat wind is the dealer
abbrev pub is_dealer : GameContext → Bool
is_dealer w = eqb w.seat_wind 27

-- a room gives four fu or two for a pair that is both round and seat wind
abbrev pub is_setting : ℕ → Bool
is_setting n = eqb n 4 || eqb n 2

-- the win type is 0, ron, or 1, tsumo, the round wind and the seat wind are winds, and the setting is four or two
abbrev pub in_range : GameContext → Bool
in_range w = ltb w.win_type 2 && (is_wind w.round_wind && (is_wind w.seat_wind && is_setting w.double_wind_fu))

-- ---- indicators: the tiles turned up on the wall, each of which names the tile after it as dora
-- those that are shown: the first of the ten, as many as the count says. What stands behind them is not read
abbrev pub shown : Indicators → List ℕ
shown i = take i.count i.tiles

-- there are ten at most, and each that is shown is a tile
abbrev pub are_indicators : Indicators → Bool
are_indicators i = leb i.count 10 && all (λ t. ltb t 34) (shown i)

-- those of both sorts are, whether or not they count
abbrev pub indicators_in : GameContext → Bool
indicators_in w = are_indicators w.dora_indicators && are_indicators w.ura_dora_indicators

-- none is shown, of either sort
abbrev pub none_shown : GameContext → Bool
none_shown w = eqb w.dora_indicators.count 0 && eqb w.ura_dora_indicators.count 0

-- each place renamed; a number above 33 stays
abbrev pub ren_indicators : Renaming → Indicators → Indicators
ren_indicators ρ i = record { count = i.count; tiles = map (ren ρ) i.tiles }

-- ---- a win that differs in one respect
-- type, flags and setting stay; the winning tile, both winds and the indicators are renamed
abbrev pub ren_win : Renaming → GameContext → GameContext
ren_win ρ w =
    record {
      win_type = w.win_type;
      winning_tile = ren ρ w.winning_tile;
      round_wind = ren ρ w.round_wind;
      seat_wind = ren ρ w.seat_wind;
      is_riichi = w.is_riichi;
      is_double_riichi = w.is_double_riichi;
      is_ippatsu = w.is_ippatsu;
      is_rinshan = w.is_rinshan;
      is_chankan = w.is_chankan;
      is_last_tile = w.is_last_tile;
      is_tenhou = w.is_tenhou;
      is_chiihou = w.is_chiihou;
      double_wind_fu = w.double_wind_fu;
      dora_indicators = ren_indicators ρ w.dora_indicators;
      ura_dora_indicators = ren_indicators ρ w.ura_dora_indicators;
    }

-- the same win otherwise: of type t, with the seat wind s, in a room that gives n fu for the pair of the double wind, with the indicators d shown and u
-- below them
abbrev otherwise : ℕ → ℕ → ℕ → Indicators → Indicators → GameContext → GameContext
otherwise t s n d u w =
    record {
      win_type = t;
      winning_tile = w.winning_tile;
      round_wind = w.round_wind;
      seat_wind = s;
      is_riichi = w.is_riichi;
      is_double_riichi = w.is_double_riichi;
      is_ippatsu = w.is_ippatsu;
      is_rinshan = w.is_rinshan;
      is_chankan = w.is_chankan;
      is_last_tile = w.is_last_tile;
      is_tenhou = w.is_tenhou;
      is_chiihou = w.is_chiihou;
      double_wind_fu = n;
      dora_indicators = d;
      ura_dora_indicators = u;
    }

-- the type and the seat wind alone are others
abbrev pub seated_as : ℕ → ℕ → GameContext → GameContext
seated_as t s w = otherwise t s w.double_wind_fu w.dora_indicators w.ura_dora_indicators w

-- the room and the indicators are others
abbrev pub elsewhere : ℕ → Indicators → Indicators → GameContext → GameContext
elsewhere n d u w = otherwise w.win_type w.seat_wind n d u w

-- the room alone is another
abbrev pub in_room : ℕ → GameContext → GameContext
in_room n w = elsewhere n w.dora_indicators w.ura_dora_indicators w

-- the indicators alone are others
abbrev pub indicating : Indicators → Indicators → GameContext → GameContext
indicating d u w = elsewhere w.double_wind_fu d u w
