-- Calls that differ in nothing but their sources, and what it means that the operations of a game answer alike of both. These are definitions; the theorem
-- is `sources_alike_in` in proofs/Alike.antt, and `sources_lent_in` in proofs/Lent.antt for calls that the callers lend; with four players `sources_alike` and
-- `sources_lent`.
use Rattle.std.specs.Prelude.{◌≡◌, List, map, ℕ}
use Rattle.rules.specs.Rules.{Game, four}
use Rattle.meld.specs.Meld.{but_source}
use Rattle.context.specs.declared.GameContext.{GameContext}
use Rattle.hand.specs.Reading.{Reading, pairs, orphans, standard}
use Rattle.checks.specs.declared.Calls.{Calls}
use Rattle.checks.specs.Checks.{called}
use Rattle.unit.specs.Listing.{hand_readings, listing_in}
use Rattle.win.specs.Win.{score_win_in, score_reading_in, name_waits_in}

-- a reading but for the sources of its melds
abbrev pub but_sources : Reading → Reading
but_sources (pairs ps) = pairs ps
but_sources (orphans p) = orphans p
but_sources (standard p ms) = standard p (map but_source ms)

-- the calls j are the calls k but for their sources: as many, in their order, each of the same tile and kind. What stands after the last call does
-- not matter
pub record SameButSources (k j : Calls) : Type 0 where
  pub many : j.count ≡ k.count
  pub calls : map but_source (called j) ≡ map but_source (called k)

-- the operations of the game g answer alike, of the counts cs with the calls k and with the calls j
pub record AlikeIn (g : Game) (cs : List ℕ) (k j : Calls) : Type 0 where
  -- with equally many bytes lent: the same number, as many readings, as many bytes
  pub listings : (lent : ℕ) → listing_in g cs j lent ≡ listing_in g cs k lent
  -- as many readings, and reading n of the one is reading n of the other but for sources
  pub readings : map but_sources (hand_readings cs j) ≡ map but_sources (hand_readings cs k)
  -- the win, a reading by its number, and its waits: every field, the number of the reading too
  pub won : (w : GameContext) → score_win_in g cs j w ≡ score_win_in g cs k w
  pub numbered : (w : GameContext) (n : ℕ) → score_reading_in g cs j w n ≡ score_reading_in g cs k w n
  pub waits : (w : GameContext) (n : ℕ) → name_waits_in g cs j w n ≡ name_waits_in g cs k w n

-- with four players and all tiles
abbrev pub Alike : List ℕ → Calls → Calls → Type 0
Alike cs k j = AlikeIn four cs k j
