-- Fu (minipoints) of a reading. These are definitions.
use Rattle.std.specs.Prelude.{Bool, ◌&&◌, ◌||◌, cond, List, ℕ, ◌+◌, ◌*◌, ◌/◌, max, eqb}
use Rattle.lists.specs.Fold.{any, sum}
use Rattle.tile.specs.Tile.{is_terminal_or_honor}
use Rattle.meld.specs.declared.Meld.{Meld}
use Rattle.meld.specs.Meld.{is_kan, is_sequence}
use Rattle.context.specs.declared.GameContext.{GameContext}
use Rattle.context.specs.Context.{is_tsumo}
use Rattle.hand.specs.Reading.{Reading, pairs, orphans, standard}
use Rattle.wait.specs.Wait.{closed_run, edge, middle, pinfu, weight}
use Rattle.wait.specs.Concealed.{concealed, spared}

-- a triplet: 2, doubled for terminals and honors, doubled where concealed; a kan four times as much
abbrev pub set_fu : Bool → Bool → Bool → ℕ
set_fu outer kan hidden = cond outer 4 2 * (cond kan 4 1 * cond hidden 2 1)

-- a sequence has none. `kept`: a triplet of the ron tile stays concealed
abbrev pub meld_fu : GameContext → Bool → Meld → ℕ
meld_fu w kept m = cond (is_sequence m) 0 (set_fu (is_terminal_or_honor m.tile) (is_kan m) (concealed w kept m))

-- a pair of the double wind: it is both the round wind and the seat wind
abbrev pub double_wind : GameContext → ℕ → Bool
double_wind w p = eqb p w.round_wind && eqb p w.seat_wind

-- what a room gives for it: 2 where its setting is two, else 4
abbrev pub double_wind_fu : GameContext → ℕ
double_wind_fu w = cond (eqb w.double_wind_fu 2) 2 4

-- 2 for each way in which the pair counts, as a dragon, as the round wind, as the seat wind; but for both winds what the room gives
abbrev pub pair_fu : GameContext → ℕ → ℕ
pair_fu w p = cond (double_wind w p) (double_wind_fu w) (2 * weight w p)

-- 2 for a wait on the pair, on an edge or in the middle
abbrev pub close_wait : GameContext → ℕ → List Meld → Bool
close_wait w p ms =
    let t = w.winning_tile in
    eqb t p || (any (closed_run edge t) ms || any (closed_run middle t) ms)

abbrev pub wait_fu : GameContext → ℕ → List Meld → ℕ
wait_fu w p ms = cond (close_wait w p ms) 2 0

-- 2 for a tsumo, 10 for a closed ron
abbrev pub win_fu : Bool → Bool → ℕ
win_fu by_tsumo opened = cond by_tsumo 2 (cond opened 0 10)

-- every hand has 20, and those of the win
abbrev pub base_fu : GameContext → Bool → ℕ
base_fu w opened = 20 + win_fu (is_tsumo w) opened

abbrev pub round_up_to10 : ℕ → ℕ
round_up_to10 n = (n + 9) / 10 * 10

-- an open hand has at least 30
abbrev pub at_least30 : Bool → ℕ → ℕ
at_least30 opened n = cond opened (max n 30) n

-- pinfu is 20 by tsumo and 30 by ron
abbrev pub pinfu_fu : Bool → ℕ
pinfu_fu by_tsumo = cond by_tsumo 20 30

-- a pair and four melds: pinfu, or the sum of the parts, rounded up
unfoldable pub standard_fu : GameContext → Bool → ℕ → List Meld → ℕ
standard_fu w opened p ms =
    cond (pinfu w opened (standard p ms)) (pinfu_fu (is_tsumo w))
    (at_least30 opened (round_up_to10 (base_fu w opened + sum (meld_fu w (spared w ms)) ms + pair_fu w p + wait_fu w p ms)))

-- seven pairs have 25, thirteen orphans 30
unfoldable pub fu : GameContext → Bool → Reading → ℕ
fu w opened (pairs ps) = 25
fu w opened (orphans p) = 30
fu w opened (standard p ms) = standard_fu w opened p ms
