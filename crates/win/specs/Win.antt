-- What scoring a win, scoring a reading by its number and naming its waits answer. cs are the counts, k the calls, w is the win.
-- These are definitions.
use Rattle.std.specs.Prelude.{Bool, ◌&&◌, ◌||◌, cond, List, map, ℕ, zero, suc, eqb, ltb, replicate}
use Rattle.lists.specs.Fold.{any}
use Rattle.rules.specs.Rules.{Game, four}
use Rattle.meld.specs.Meld.{is_open}
use Rattle.context.specs.declared.GameContext.{GameContext}
use Rattle.context.specs.Context.{in_range, indicators_in, none_shown}
use Rattle.hand.specs.Counts.{held}
use Rattle.hand.specs.Reading.{Reading}
use Rattle.wait.specs.Wait.{waits}
use Rattle.tile_yaku.specs.declared.TileYaku.{TileYaku}
use Rattle.tile_yaku.specs.Tiles.{tile_yaku}
use Rattle.dora.specs.declared.DoraCount.{DoraCount}
use Rattle.dora.specs.Dora.{dora_in}
use Rattle.checks.specs.declared.Calls.{Calls}
use Rattle.checks.specs.Checks.{called, together, check, hand_check_in}
use Rattle.unit.specs.Listing.{hand_readings}
use Rattle.records.specs.Pick.{pick_at}
use Rattle.reading_score.specs.declared.ScoringResult.{ScoringResult}
use Rattle.reading_score.specs.Score.{score_of}
use Rattle.choice.specs.declared.ScoreAnswer.{ScoreAnswer}
use Rattle.choice.specs.Choice.{refused, choice, numbered}
use Rattle.win.specs.declared.WaitsAnswer.{WaitsAnswer}

-- the hand is open if some call was made from another player
abbrev pub is_opened : Calls → Bool
is_opened k = any is_open (called k)

-- the answers to the yaku that depend on the tiles alone, of hand and calls together
abbrev pub tiles_together : List ℕ → Calls → GameContext → TileYaku
tiles_together cs k w = tile_yaku (together cs (called k)) w.winning_tile

-- the dora of hand and calls together
abbrev pub dora_together : List ℕ → Calls → GameContext → DoraCount
dora_together cs k w = dora_in (together cs (called k)) w

-- ---- the checks: 1 to 6; 8 the win type, a wind or the room's setting is out of range; 14 there are more than ten indicators of a sort, one that is
-- shown is above 33, or one is shown in a game without them; 9 the winning tile is above 33 or not in the hand
-- the first of two numbers, or the second where the first is 0
unfoldable pub or_then : ℕ → ℕ → ℕ
or_then zero m = m
or_then (suc n) m = suc n

-- the tile is one, and the hand without its calls holds it
abbrev pub in_hand : List ℕ → ℕ → Bool
in_hand cs t = ltb t 34 && ltb 0 (held cs t)

-- in the game g the indicators are in order: none is shown where it has none
abbrev pub indicated_in : Game → GameContext → Bool
indicated_in g w = indicators_in w && (g.dora || none_shown w)

unfoldable pub win_check_in : Game → List ℕ → Calls → GameContext → ℕ
win_check_in g cs k w =
    or_then (hand_check_in g cs k) (check (in_range w) 8 (check (indicated_in g w) 14 (check (in_hand cs w.winning_tile) 9 0)))

-- ---- the score of a reading of the win, and the scores of all readings in their order
unfoldable pub score_in : List ℕ → Calls → GameContext → Reading → ScoringResult
score_in cs k w r = score_of w (is_opened k) (tiles_together cs k w) (dora_together cs k w) r

unfoldable pub scores : List ℕ → Calls → GameContext → List ScoringResult
scores cs k w = map (score_in cs k w) (hand_readings cs k)

-- ---- scoring a win of the game g: a check's number, 10, 11, or the reading chosen by the total at its table
unfoldable pub score_win_in : Game → List ℕ → Calls → GameContext → ScoreAnswer
score_win_in g cs k w = cond (eqb (win_check_in g cs k w) 0) (choice g.players (scores cs k w)) (refused (win_check_in g cs k w))

-- ---- scoring reading number n: a check's number, 12, or the reading
unfoldable pub score_reading_in : Game → List ℕ → Calls → GameContext → ℕ → ScoreAnswer
score_reading_in g cs k w n = cond (eqb (win_check_in g cs k w) 0) (numbered (scores cs k w) n) (refused (win_check_in g cs k w))

-- ---- naming the waits of reading number n: a number for each of the six waits, as `waits` counts them
abbrev pub refused_waits : ℕ → WaitsAnswer
refused_waits m = record { number = m; waits = replicate 6 0 }

abbrev pub named_waits : List ℕ → WaitsAnswer
named_waits ws = record { number = 0; waits = ws }

unfoldable pub name_waits_in : Game → List ℕ → Calls → GameContext → ℕ → WaitsAnswer
name_waits_in g cs k w n =
    cond (eqb (win_check_in g cs k w) 0)
    (pick_at (refused_waits 12) (λ r. named_waits (waits w.winning_tile r)) (hand_readings cs k) n)
    (refused_waits (win_check_in g cs k w))

-- ---- with four players and all tiles
abbrev pub win_check : List ℕ → Calls → GameContext → ℕ
win_check cs k w = win_check_in four cs k w

abbrev pub score_win : List ℕ → Calls → GameContext → ScoreAnswer
score_win cs k w = score_win_in four cs k w

abbrev pub score_reading : List ℕ → Calls → GameContext → ℕ → ScoreAnswer
score_reading cs k w n = score_reading_in four cs k w n

abbrev pub name_waits : List ℕ → Calls → GameContext → ℕ → WaitsAnswer
name_waits cs k w n = name_waits_in four cs k w n
