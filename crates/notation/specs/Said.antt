-- What the words given to the program `score` say: tiles of the hand, the winning tile, whom a call came from, indicators, the game, the win. These are definitions.
use Rattle.std.specs.Prelude.{◌≡◌, Bool, true, false, cond, List, ℕ, ◌+◌, ◌-◌, ◌≤◌, ◌<◌, get_or, set, Some, None, unwrap_or}
use Rattle.lists.specs.Fold.{one}
use Rattle.known_words.specs.declared.Wind.{Wind}
use Rattle.known_words.specs.declared.Wind.TheVariants.{East, South, West, North}
use Rattle.rules.specs.declared.Variant.{Variant}
use Rattle.context.specs.declared.GameContext.{GameContext}
use Rattle.tile_words.specs.Words.{read_at, tiles_in, tiles_of, named_in, Counted}
use Rattle.call_words.specs.Calls.{with_source, can_come_from}
use Rattle.notation.specs.declared.said.Said.{Said}
use Rattle.notation.specs.declared.said.Won.{Won}
use Rattle.notation.specs.Shown.{with_indicators}

-- what a word w of tiles of the hand makes of what was said before: its tiles are counted, at most 136 in all
pub record TilesAdded (before : Said) (w : List ℕ) (after : Said) : Type 0 where
  pub counted : Counted before.counts (tiles_in w) after.counts
  pub all : after.tiles ≡ before.tiles + named_in w
  pub few : after.tiles ≤ 136

-- what a winning tile makes of it: the word w names one tile, and that is it
pub record WonOn (before : Said) (w : List ℕ) (drawn : Bool) (after : Said) : Type 0 where
  pub won : after.won ≡ Some (record { tsumo = drawn; tile = read_at 0 w })
  pub single : named_in w ≡ 1

-- what a word for the seat s makes of it: there is a call, the last of them can come from there and does, and that was not said of it before
pub record SourceSaid (before : Said) (s : ℕ) (after : Said) : Type 0 where
  pub there : 0 < before.calls.count
  pub possible : can_come_from s before.calls ≡ true
  pub once : get_or before.sourced (before.calls.count - 1) false ≡ false
  pub came : after.calls ≡ with_source s before.calls
  pub marked : after.sourced ≡ set before.sourced (before.calls.count - 1) true

-- what a word w of indicators makes of it: its tiles come behind those of ura where it is said of ura, else behind those of dora
pub record IndicatorsAdded (before : Said) (w : List ℕ) (isUra : Bool) (after : Said) : Type 0 where
  pub of_dora : after.dora ≡ cond isUra before.dora (with_indicators before.dora (tiles_of w))
  pub of_ura : after.ura ≡ cond isUra (with_indicators before.ura (tiles_of w)) before.ura

-- what a word for the game v makes of it: that game, and nothing was said of the game before
pub record GameSaid (before : Said) (v : Variant) (after : Said) : Type 0 where
  pub once : before.game ≡ None
  pub played : after.game ≡ Some v

-- a flag by its number: riichi, double riichi, ippatsu, rinshan, chankan, last tile, tenhou, chiihou
abbrev pub flag_at : Said → ℕ → Bool
flag_at s i = get_or s.flags i false

-- the tile of a wind
abbrev pub wind_tile : Wind → ℕ
wind_tile East = 27
wind_tile South = 28
wind_tile West = 29
wind_tile North = 30

-- how the hand was won; before that is said, by ron on man 1
abbrev pub won_by : Said → Won
won_by s = unwrap_or s.won (record { tsumo = false; tile = 0 })

-- the round is East and the seat South, unless another wind was said; the pair of the double wind has four fu, or two where that was said
abbrev pub win_of : Said → GameContext
win_of s =
    record {
      win_type = one (won_by s).tsumo;
      winning_tile = (won_by s).tile;
      round_wind = wind_tile (unwrap_or s.round East);
      seat_wind = wind_tile (unwrap_or s.seat South);
      is_riichi = flag_at s 0;
      is_double_riichi = flag_at s 1;
      is_ippatsu = flag_at s 2;
      is_rinshan = flag_at s 3;
      is_chankan = flag_at s 4;
      is_last_tile = flag_at s 5;
      is_tenhou = flag_at s 6;
      is_chiihou = flag_at s 7;
      double_wind_fu = cond (unwrap_or s.double_wind_two false) 2 4;
      dora_indicators = s.dora;
      ura_dora_indicators = s.ura;
    }
