-- A row holds where it holds of readings found quickly: melds that do not fit the hand are left out before the search. Assumes nothing.
use mathlib.Core.Path.{◌≡◌, refl, sym, ap, ◌∙◌, subst, fun_ext}
use mathlib.Core.Bool.{Bool, true, false, ◌&&◌, ◌||◌, not, cond}
use mathlib.Core.List.{List, [], ◌∷◌, ◌++◌, map}
use Prim.Native.Nat.{ℕ, ◌-◌}
use lib.Dec.{T, eqb, leb, ltb, ltb→lt}
use lib.ListN.{length}
use Rattle.lists.specs.Fold.{flat, keep}
use Rattle.lists.proofs.Finite.{at, and_both, ¬T→false}
use Rattle.tile.specs.Tile.{tiles}
use Rattle.rules.specs.Rules.{Game, four}
use Rattle.meld.specs.declared.Meld.{Meld}
use Rattle.meld.specs.Meld.{hand_melds, sorted, uses}
use Rattle.context.specs.declared.GameContext.{GameContext}
use Rattle.hand.specs.Counts.{held}
use Rattle.hand.specs.Reading.{Reading, standard}
use Rattle.hand.specs.Readings.{find, fits, less_pair, meld_lists, standards_at, seven_pairs, thirteen_orphans, uncalled, readings}
use Rattle.hand.specs.Records.{always_enough, records}
use Rattle.wait.specs.Wait.{waits}
use Rattle.checks.specs.declared.Calls.{Calls}
use Rattle.checks.specs.Checks.{called, hand_check_in}
use Rattle.unit.specs.Listing.{Listing}
use Rattle.unit.specs.Listing.{Refused, Listed}
use Rattle.unit.specs.Listing.{hand_readings}
use Rattle.lent.specs.Lent.{calls_of}
use Rattle.records.specs.Pick.{pick_at}
use Rattle.reading_score.specs.declared.ScoringResult.{ScoringResult}
use Rattle.choice.specs.declared.ScoreAnswer.{ScoreAnswer}
use Rattle.choice.specs.Choice.{refused, choice, numbered}
use Rattle.win.specs.declared.WaitsAnswer.{WaitsAnswer}
use Rattle.win.specs.Win.{named_waits, refused_waits, score_in, win_check_in}
use Rattle.played.specs.Row.{Row, won, waiting, listed, valued, paid, asked, chooses, answers, each_waits, lists_to, holds_in, holds}
use Rattle.played.proofs.Fitting.{keep_find}

-- ---- the readings, found among the melds that fit
-- the meld fits; that its lowest tile is there is asked first, as it is not of most melds
abbrev is_there : (ℕ → ℕ) → Meld → Bool
is_there c m = not (ltb m.tile 34) || leb (uses m m.tile) (c m.tile)

abbrev may_stand : (ℕ → ℕ) → Meld → Bool
may_stand c m = is_there c m && fits m c

no_other : (c : ℕ → ℕ) (m : Meld) → may_stand c m ≡ false → fits m c ≡ false
no_other c m e =
    ¬T→false (fits m c) (λ t. subst T e (and_both (is_there c m) (fits m c) (there t (ltb m.tile 34) refl) t))
  where
    there : T (fits m c) → (b : Bool) → ltb m.tile 34 ≡ b → T (not b || leb (uses m m.tile) (c m.tile))
    there t true q = at 34 (λ v. leb (uses m v) (c v)) t m.tile (ltb→lt m.tile 34 (subst T (sym q) tt))
    there t false q = tt

abbrev quick_lists : ℕ → (ℕ → ℕ) → List (List Meld)
quick_lists n c = find n c (keep (may_stand c) hand_melds)

quick_lists_holds : (n : ℕ) (c : ℕ → ℕ) → meld_lists n c ≡ quick_lists n c
unfolding meld_lists
quick_lists_holds n c = sym (keep_find (may_stand c) n c (no_other c) hand_melds)

abbrev quick_at : (ℕ → ℕ) → List Meld → ℕ → List Reading
quick_at c k p =
    cond (leb 2 (c p)) (map (λ l. standard p (sorted (k ++ l))) (quick_lists (4 - length k) (less_pair c p))) []

quick_at_holds : (c : ℕ → ℕ) (k : List Meld) (p : ℕ) → standards_at c k p ≡ quick_at c k p
unfolding standards_at
quick_at_holds c k p =
    ap (λ (ls : List (List Meld)). cond (leb 2 (c p)) (map (λ l. standard p (sorted (k ++ l))) ls) [])
    (quick_lists_holds (4 - length k) (less_pair c p))

abbrev pub quick_readings : List ℕ → Calls → List Reading
quick_readings cs k =
    uncalled (called k) (seven_pairs (held cs) ++ thirteen_orphans (held cs)) ++ flat (quick_at (held cs) (called k)) tiles

quick_readings_holds : (cs : List ℕ) (k : Calls) → hand_readings cs k ≡ quick_readings cs k
unfolding hand_readings readings
quick_readings_holds cs k =
    ap (λ (g : ℕ → List Reading). uncalled (called k) (seven_pairs (held cs) ++ thirteen_orphans (held cs)) ++ flat g tiles)
    (fun_ext (quick_at_holds (held cs) (called k)))

-- ---- the claim of a row, from any way to find the readings
module _ (g : Game) (R : List ℕ → Calls → List Reading) where
  abbrev pub listing_from : List ℕ → Calls → Listing
  listing_from cs k =
      cond (eqb (hand_check_in g cs k) 0)
      (cond (leb (length (records (R cs k))) always_enough) (Listed (length (R cs k)) (length (records (R cs k)))) (Refused 7))
      (Refused (hand_check_in g cs k))

  abbrev pub scores_from : List ℕ → Calls → GameContext → List ScoringResult
  scores_from cs k w = map (score_in cs k w) (R cs k)

  abbrev pub win_from : List ℕ → Calls → GameContext → ScoreAnswer
  win_from cs k w = cond (eqb (win_check_in g cs k w) 0) (choice g.players (scores_from cs k w)) (refused (win_check_in g cs k w))

  abbrev pub reading_from : List ℕ → Calls → GameContext → ℕ → ScoreAnswer
  reading_from cs k w n = cond (eqb (win_check_in g cs k w) 0) (numbered (scores_from cs k w) n) (refused (win_check_in g cs k w))

  abbrev pub waits_from : List ℕ → Calls → GameContext → ℕ → WaitsAnswer
  waits_from cs k w n =
      cond (eqb (win_check_in g cs k w) 0)
      (pick_at (refused_waits 12) (λ r. named_waits (waits w.winning_tile r)) (R cs k) n)
      (refused_waits (win_check_in g cs k w))

  abbrev pub holds_from : Row → Bool
  holds_from (won cs ms w vs o) =
      let k = calls_of ms in
      answers vs o (win_check_in g cs k w) (listing_from cs k) (reading_from cs k w) (win_from cs k w)
  holds_from (waiting cs ms w wss) = each_waits (waits_from cs (calls_of ms) w) 0 wss
  holds_from (listed cs ms n) = lists_to (chooses 0) n (listing_from cs (calls_of ms))
  holds_from (valued h f y l n) = holds_in g (valued h f y l n)
  holds_from (paid h f y by dealer p) = holds_in g (paid h f y by dealer p)
  holds_from (asked n by dealer a) = holds_in g (asked n by dealer a)

from_readings : (g : Game) (r : Row) → holds_in g r ≡ holds_from g hand_readings r
unfolding holds_in
from_readings g (won cs ms w vs o) = refl
from_readings g (waiting cs ms w wss) = refl
from_readings g (listed cs ms n) = refl
from_readings g (valued h f y l n) = refl
from_readings g (paid h f y by dealer p) = refl
from_readings g (asked n by dealer a) = refl

-- a row holds where it holds of the readings found quickly
pub quick_in : (g : Game) (r : Row) → T (holds_from g quick_readings r) → T (holds_in g r)
quick_in g r t =
    subst T
    (sym (from_readings g r ∙ ap (λ (R : List ℕ → Calls → List Reading). holds_from g R r) (fun_ext (λ cs. fun_ext (quick_readings_holds cs)))))
    t

-- with four players
pub quick : (r : Row) → T (holds_from four quick_readings r) → T (holds r)
unfolding holds
quick r t = quick_in four r t
