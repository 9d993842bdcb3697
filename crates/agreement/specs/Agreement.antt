-- Two units score one win each: a win, and the same win renamed. What it means that they agree. These are definitions; the theorem is
-- `demand3_in` in proofs/Demand3.antt for any game, `demand3` for that of four players, and `demand3_lent` in proofs/Lent.antt for calls that the callers lend.
use Rattle.std.specs.Prelude.{◌≡◌, Bool, not, ℕ, ◌<◌, ◌≤◌, T, eqb, length, drop}
use mathlib.Core.List.{List, ◌++◌, map, Permᴰ}
use Rattle.lists.specs.Order.{Nodup, Pairwise}
use Rattle.tile.specs.declared.Renaming.{Renaming}
use Rattle.tile.specs.Renaming.{order_to, ren, suits_alone}
use Rattle.rules.specs.Rules.{Game, four}
use Rattle.meld.specs.Renamed.{ren_meld}
use Rattle.context.specs.declared.Indicators.{Indicators}
use Rattle.context.specs.declared.GameContext.{GameContext}
use Rattle.context.specs.Context.{shown, ren_win, indicating}
use Rattle.hand.specs.Reading.{Reading}
use Rattle.hand.specs.Records.{records, Before}
use Rattle.renamed.specs.Renamed.{ren_reading, ren_counts, all_green}
use Rattle.checks.specs.declared.Calls.{Calls}
use Rattle.checks.specs.Checks.{called, together, hand_check_in}
use Rattle.unit.specs.Listing.{hand_readings, hand_records, listing_in, written_in}
use Rattle.choice.specs.declared.ScoreAnswer.{ScoreAnswer}
use Rattle.choice.specs.Standing.{StandsAt}
use Rattle.win.specs.Win.{win_check_in, score_win_in, score_reading_in, name_waits_in}

-- ---- the renamings of a game
-- under ρ each tile in the wall of the game g becomes one that is in it
abbrev pub StaysAllowed : Game → Renaming → Type 0
StaysAllowed g ρ = (t : ℕ) → t < 34 → T (g.allowed t) → T (g.allowed (ren ρ t))

-- man keeps its place among the suits: pin and sou stay or change places, and numbers, dragons and winds go as they will
abbrev pub man_stays : Renaming → Bool
man_stays ρ = eqb (order_to ρ.numbers.suits 0) 0

-- ---- the second hand and win
-- the calls j are the calls k renamed: as many, in their order, each meld renamed. What stands after the last call does not matter
pub record RenamedCalls (ρ : Renaming) (k j : Calls) : Type 0 where
  pub many : j.count ≡ k.count
  pub calls : called j ≡ map (ren_meld ρ) (called k)

-- the indicators j are the indicators i renamed: as many, in their order, each that is shown renamed; a number above 33 stays. What stands behind
-- the count does not matter
pub record RenamedIndicators (ρ : Renaming) (i j : Indicators) : Type 0 where
  pub many : j.count ≡ i.count
  pub tiles : shown j ≡ map (ren ρ) (shown i)

-- the win v is the win w renamed: the winning tile, the round wind, the seat wind and the indicators of both sorts are renamed, and all else is the same
pub record RenamedWin (ρ : Renaming) (w v : GameContext) : Type 0 where
  pub rest : v ≡ indicating v.dora_indicators v.ura_dora_indicators (ren_win ρ w)
  pub dora : RenamedIndicators ρ w.dora_indicators v.dora_indicators
  pub ura : RenamedIndicators ρ w.ura_dora_indicators v.ura_dora_indicators

-- ---- when the two score alike
-- hand and calls together are not all green
abbrev pub NotGreen : List ℕ → Calls → Type 0
NotGreen cs k = T (not (all_green (together cs (called k))))

-- no indicator of either sort is shown; one that does not count is shown too
abbrev pub NoIndicator : GameContext → Type 0
NoIndicator w = (w.dora_indicators.count ≡ 0) × (w.ura_dora_indicators.count ≡ 0)

-- where no indicator is shown every renaming will do; where one is, it exchanges suits alone, numbers, dragons and winds being as they are
pub data Comparable (ρ : Renaming) (w : GameContext) : Type 0 where
  no_indicator : NoIndicator w → Comparable ρ w
  suits_alone_holds : T (suits_alone ρ) → Comparable ρ w

-- ---- what agrees
-- two answers agree: the same number, 0 or a refusal's, and the same han, dora, fu, level, basic points and payments
pub record SameAnswer (a b : ScoreAnswer) : Type 0 where
  pub same_number : a.number ≡ b.number
  pub same_han : a.score.han ≡ b.score.han
  pub same_dora : a.score.dora ≡ b.score.dora
  pub same_fu : a.score.fu ≡ b.score.fu
  pub same_level : a.score.score_level ≡ b.score.score_level
  pub same_basic : a.score.basic_points ≡ b.score.basic_points
  pub same_payment : a.score.payment ≡ b.score.payment

-- what a listing leaves in the buffer that the caller lends: the records of the readings rs in their order, each once, and after them its old bytes
pub record Writes (rs : List Reading) (buffer left : List ℕ) : Type 0 where
  pub listed : List Reading
  pub these : Permᴰ listed rs
  pub once : Nodup listed
  pub ascending : Pairwise Before listed
  pub bytes : left ≡ records listed ++ drop (length (records listed)) buffer

-- in the game g: the win w of the hand cs with the calls k, and the win v of the same hand renamed by ρ with the calls j
module _ (g : Game) (ρ : Renaming) (cs : List ℕ) (k j : Calls) (w v : GameContext) where
  -- the reading r, number n of the first hand: its renamed one stands in the second, and at whatever number it stands there it has the same waits
  pub record SameReading (n : ℕ) (r : Reading) : Type 0 where
    pub number : ℕ
    pub stands : StandsAt (ren_reading ρ r) number (hand_readings (ren_counts ρ cs) j)
    pub waits :
        (m : ℕ) → StandsAt (ren_reading ρ r) m (hand_readings (ren_counts ρ cs) j) → name_waits_in g (ren_counts ρ cs) j v m ≡ name_waits_in g cs k w n

  -- the two hands, whatever wins go with them
  pub record Listed : Type 0 where
    -- the second's readings are the first's renamed, each once
    pub readings : Permᴰ (hand_readings (ren_counts ρ cs) j) (map (ren_reading ρ) (hand_readings cs k))
    pub once : Nodup (hand_readings (ren_counts ρ cs) j)
    -- with equally many bytes lent both listings answer the same number and the same counts; accepted, the second writes these readings' records
    pub listings : (lent : ℕ) → listing_in g (ren_counts ρ cs) j lent ≡ listing_in g cs k lent
    pub writes :
        (buffer : List ℕ) → length (hand_records cs k) ≤ length buffer
        → Writes (map (ren_reading ρ) (hand_readings cs k)) buffer (written_in g (ren_counts ρ cs) j buffer)

  -- the two wins, under every renaming, whatever is shown
  pub record Wins : Type 0 where
    -- the second passes the same checks
    pub passes : win_check_in g (ren_counts ρ cs) j v ≡ 0
    -- reading n and its renamed one, by their numbers
    pub numbered : (n : ℕ) (r : Reading) → StandsAt r n (hand_readings cs k) → SameReading n r

  -- where they are to be scored alike
  pub record Scored : Type 0 where
    -- reading n and its renamed one, at whatever number it stands in the second
    pub numbered :
        (n : ℕ) (r : Reading) → StandsAt r n (hand_readings cs k)
        → (m : ℕ) → StandsAt (ren_reading ρ r) m (hand_readings (ren_counts ρ cs) j)
        → SameAnswer (score_reading_in g (ren_counts ρ cs) j v m) (score_reading_in g cs k w n)
    -- the two scored wins
    pub won : SameAnswer (score_win_in g (ren_counts ρ cs) j v) (score_win_in g cs k w)

  -- refused for its indicators: if the first is, so is the second, whatever readings are asked for
  pub record Refused14 : Type 0 where
    pub won : (score_win_in g cs k w).number ≡ 14 → (score_win_in g (ren_counts ρ cs) j v).number ≡ 14
    pub numbered : (n m : ℕ) → (score_reading_in g cs k w n).number ≡ 14 → (score_reading_in g (ren_counts ρ cs) j v m).number ≡ 14
    pub waits : (n m : ℕ) → (name_waits_in g cs k w n).number ≡ 14 → (name_waits_in g (ren_counts ρ cs) j v m).number ≡ 14

  -- the two agree
  pub record AlikeIn : Type 0 where
    pub listed : hand_check_in g cs k ≡ 0 → Listed
    pub wins : win_check_in g cs k w ≡ 0 → Wins
    pub scored : win_check_in g cs k w ≡ 0 → NotGreen cs k → NotGreen (ren_counts ρ cs) j → Comparable ρ w → Scored
    pub refused : Refused14

-- with four players and all tiles
abbrev pub Alike : Renaming → List ℕ → Calls → Calls → GameContext → GameContext → Type 0
Alike ρ cs k j w v = AlikeIn four ρ cs k j w v
