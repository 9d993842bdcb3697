-- Wins as players name them: how, on which tile, in which round and seat, with which flags and indicators. Where nothing else is said, the room
-- gives four fu for the pair of the double wind, and no indicator is shown. These are definitions.
use Rattle.std.specs.Prelude.{Bool, List, [], ◌++◌, ℕ, ◌-◌, eqb, length, replicate}
use Rattle.lists.specs.Fold.{any}
use Rattle.tile.specs.Named.{East, South}
use Rattle.context.specs.declared.Indicators.{Indicators}
use Rattle.context.specs.declared.GameContext.{GameContext}
use Rattle.context.specs.Context.{indicating}

-- how it was won
abbrev pub by_ron : ℕ
by_ron = 0

abbrev pub by_tsumo : ℕ
by_tsumo = 1

-- the flags of a win
pub data Flag : Type 0 where
  riichi doubleRiichi ippatsu rinshan chankan lastTile tenhou chiihou : Flag

abbrev flag_number : Flag → ℕ
flag_number riichi = 0
flag_number doubleRiichi = 1
flag_number ippatsu = 2
flag_number rinshan = 3
flag_number chankan = 4
flag_number lastTile = 5
flag_number tenhou = 6
flag_number chiihou = 7

-- is the flag among these
abbrev pub flagged : List Flag → Flag → Bool
flagged fs f = any (λ g. eqb (flag_number f) (flag_number g)) fs

-- these tiles as indicators, and man 1 in the places behind them
abbrev pub indicators : List ℕ → Indicators
indicators ts = record { count = length ts; tiles = ts ++ replicate (10 - length ts) 0 }

-- a win by its type, tile, round wind, seat wind and flags
abbrev pub win : ℕ → ℕ → ℕ → ℕ → List Flag → GameContext
win winType t round seat fs =
    record {
      win_type = winType;
      winning_tile = t;
      round_wind = round;
      seat_wind = seat;
      is_riichi = flagged fs riichi;
      is_double_riichi = flagged fs doubleRiichi;
      is_ippatsu = flagged fs ippatsu;
      is_rinshan = flagged fs rinshan;
      is_chankan = flagged fs chankan;
      is_last_tile = flagged fs lastTile;
      is_tenhou = flagged fs tenhou;
      is_chiihou = flagged fs chiihou;
      double_wind_fu = 4;
      dora_indicators = indicators [];
      ura_dora_indicators = indicators [];
    }

-- the same win with these indicators shown, and these below them
abbrev pub showing : List ℕ → List ℕ → GameContext → GameContext
showing ts us w = indicating (indicators ts) (indicators us) w

-- a win with flags of the seat South in the round East, and of the dealer there
abbrev pub south_wins : ℕ → ℕ → List Flag → GameContext
south_wins winType t fs = win winType t East South fs

abbrev pub dealer_wins : ℕ → ℕ → List Flag → GameContext
dealer_wins winType t fs = win winType t East East fs

-- the same without flags, of the seat South
abbrev pub plain : ℕ → ℕ → GameContext
plain winType t = south_wins winType t []

abbrev pub ron : ℕ → GameContext
ron t = plain by_ron t

abbrev pub tsumo : ℕ → GameContext
tsumo t = plain by_tsumo t
