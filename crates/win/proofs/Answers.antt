-- The answers of the three operations, by the ways they end. Assumes nothing.
use mathlib.Core.Path.{◌≡◌, refl, sym, ◌∙◌}
use mathlib.Core.Bool.{Bool, true, false}
use mathlib.Core.List.{List, map}
use Prim.Native.Nat.{ℕ, ◌≤◌, ◌<◌}
use lib.Dec.{eqb}
use borrow.Author.Tests.{eq-eqb, ne_eqb}
use Rattle.rules.specs.Rules.{Game}
use Rattle.context.specs.declared.GameContext.{GameContext}
use Rattle.hand.specs.Reading.{Reading}
use Rattle.wait.specs.Wait.{waits}
use Rattle.tile_yaku.specs.declared.TileYaku.{TileYaku}
use Rattle.dora.specs.declared.DoraCount.{DoraCount}
use Rattle.checks.specs.declared.Calls.{Calls}
use Rattle.unit.specs.Listing.{hand_readings}
use Rattle.records.specs.Buffer.{reading_at, readings_in, place_of}
use Rattle.records.specs.Pick.{pick_at}
use Rattle.records.proofs.Pick.{pick_map}
use Rattle.reading_score.specs.Score.{score_of}
use Rattle.choice.specs.declared.ScoreAnswer.{ScoreAnswer}
use Rattle.choice.specs.Choice.{refused, scored, choice, numbered}
use Rattle.choice.specs.Standing.{StandsAt}
use Rattle.choice.proofs.Pass.{choice_none}
use Rattle.choice.proofs.Standing.{stands_picked}
use Rattle.win.specs.Win.{is_opened, tiles_together, dora_together, win_check_in, score_in, scores, score_win_in, score_reading_in, refused_waits, named_waits, name_waits_in}
use Rattle.win.proofs.Readings.{pick_there, pick_none}

module _ (g : Game) (cs : List ℕ) (k : Calls) (w : GameContext) where
  -- ---- refused by a check
  module _ (number : ℕ) (is : number ≡ win_check_in g cs k w) (some : number ≡ 0 → ⊥) where
    fails : eqb (win_check_in g cs k w) 0 ≡ false
    fails = ne_eqb (win_check_in g cs k w) 0 (λ e. some (is ∙ e))

    pub win_refused : refused number ≡ score_win_in g cs k w
    unfolding score_win_in
    win_refused = sym (rw (fails, ← is))

    pub reading_refused : (n : ℕ) → refused number ≡ score_reading_in g cs k w n
    unfolding score_reading_in
    reading_refused n = sym (rw (fails, ← is))

    pub waits_refused : (n : ℕ) → refused_waits number ≡ name_waits_in g cs k w n
    unfolding name_waits_in
    waits_refused n = sym (rw (fails, ← is))

  -- ---- passed: the definitions without the check
  module _ (passes : win_check_in g cs k w ≡ 0) where
    ok : eqb (win_check_in g cs k w) 0 ≡ true
    ok = eq-eqb (win_check_in g cs k w) 0 passes

    pub win_choice : score_win_in g cs k w ≡ choice g.players (scores cs k w)
    unfolding score_win_in
    win_choice = rw ok

    -- by number: the score of the reading n and its waits, or none
    pub reading_picked : (n : ℕ) → score_reading_in g cs k w n ≡ pick_at (refused 12) (λ r. scored n (score_in cs k w r)) (hand_readings cs k) n
    unfolding score_reading_in numbered scores
    reading_picked n = rw ok (pick_map (refused 12) (scored n) (score_in cs k w) (hand_readings cs k) n)

    pub waits_picked :
        (n : ℕ) → name_waits_in g cs k w n ≡ pick_at (refused_waits 12) (λ r. named_waits (waits w.winning_tile r)) (hand_readings cs k) n
    unfolding name_waits_in
    waits_picked n = rw ok

    -- the reading r at the number n
    module _ (n : ℕ) (r : Reading) (i : StandsAt r n (hand_readings cs k)) where
      pub scored_at : score_reading_in g cs k w n ≡ scored n (score_in cs k w r)
      scored_at = reading_picked n ∙ stands_picked (refused 12) (λ q. scored n (score_in cs k w q)) r n (hand_readings cs k) i

      pub named_at : name_waits_in g cs k w n ≡ named_waits (waits w.winning_tile r)
      named_at = waits_picked n ∙ stands_picked (refused_waits 12) (λ q. named_waits (waits w.winning_tile q)) r n (hand_readings cs k) i

  -- ---- passed, with a buffer b that holds the m readings
  module _ (passes : win_check_in g cs k w ≡ 0) (b : List ℕ) (m : ℕ) (holds : readings_in b m 0 ≡ hand_readings cs k) where
    -- the choice among all readings; s is what all tiles together are, d the dora among them
    pub win_chosen :
        (s : TileYaku) (d : DoraCount) (opened : Bool) → s ≡ tiles_together cs k w → d ≡ dora_together cs k w → opened ≡ is_opened k → (a : ScoreAnswer)
        → a ≡ choice g.players (map (score_of w opened s d) (readings_in b m 0)) → a ≡ score_win_in g cs k w
    unfolding scores score_in
    win_chosen s d opened e g f a is = is ∙ sym (win_choice passes ∙ rw (e, g, f, holds))

    -- no reading
    pub win_none : m ≡ 0 → refused 10 ≡ score_win_in g cs k w
    win_none e =
        let s = tiles_together cs k w in
        let d = dora_together cs k w in
        win_chosen s d (is_opened k) refl refl refl (refused 10) (choice_none g.players (score_of w (is_opened k) s d) b m e)

    -- reading number n, or none
    pub reading_none : (n : ℕ) → m ≤ n → refused 12 ≡ score_reading_in g cs k w n
    reading_none n h = sym (reading_picked passes n ∙ pick_none cs k b m holds (refused 12) (λ r. scored n (score_in cs k w r)) n h)

    pub reading_scored :
        (n : ℕ) → n < m → (s : TileYaku) (d : DoraCount) (opened : Bool) → s ≡ tiles_together cs k w → d ≡ dora_together cs k w → opened ≡ is_opened k
        → (r : Reading) → r ≡ reading_at b (place_of b n 0) → scored n (score_of w opened s d r) ≡ score_reading_in g cs k w n
    unfolding score_in
    reading_scored n h s d opened e i f r g =
        rw (e, i, f, g) (sym (reading_picked passes n ∙ pick_there cs k b m holds (refused 12) (λ q. scored n (score_in cs k w q)) n h))

    pub waits_none : (n : ℕ) → m ≤ n → refused_waits 12 ≡ name_waits_in g cs k w n
    waits_none n h = sym (waits_picked passes n ∙ pick_none cs k b m holds (refused_waits 12) (λ r. named_waits (waits w.winning_tile r)) n h)

    pub waits_named :
        (n : ℕ) → n < m → (r : Reading) → r ≡ reading_at b (place_of b n 0) → named_waits (waits w.winning_tile r) ≡ name_waits_in g cs k w n
    waits_named n h r g =
        rw g (sym (waits_picked passes n ∙ pick_there cs k b m holds (refused_waits 12) (λ q. named_waits (waits w.winning_tile q)) n h))
