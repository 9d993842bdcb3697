-- What indicators are to a win. What stands behind their count is not read; those below are checked, and without riichi read no further; which are shown
-- never decides whether a win is scored, as dora is no yaku; and where none is shown, the checks and the scores are those without dora.
-- Assumes nothing.
use mathlib.Core.Path.{◌≡◌, refl, sym, ap, ap₂, ◌∙◌}
use mathlib.Core.Bool.{Bool, true, false, ◌&&◌, ◌||◌, not, cond}
use mathlib.Core.List.{List, map}
use Prim.Native.Nat.{ℕ}
use lib.Dec.{eqb, ltb, leb}
use Rattle.lists.specs.Fold.{all, any}
use Rattle.lists.proofs.Members.{map_map, map_members}
use Rattle.rules.specs.Rules.{Game}
use Rattle.context.specs.declared.Indicators.{Indicators}
use Rattle.context.specs.declared.GameContext.{GameContext}
use Rattle.context.specs.Context.{in_range, shown, are_indicators, none_shown, indicating}
use Rattle.context.proofs.Shown.{none_of, none_checked}
use Rattle.hand.specs.Reading.{Reading}
use Rattle.wait.specs.Wait.{waits}
use Rattle.yaku.specs.Tally.{tallies, is_yakuman}
use Rattle.yaku.specs.Han.{han}
use Rattle.yaku.proofs.AnyRoom.{tallies_any_room}
use Rattle.fu.specs.Fu.{fu}
use Rattle.dora.specs.declared.DoraCount.{DoraCount}
use Rattle.dora.specs.Dora.{count_of, dora_in, no_dora}
use Rattle.dora.proofs.Counting.{none_shown_holds}
use Rattle.checks.specs.declared.Calls.{Calls}
use Rattle.checks.specs.Checks.{called, together, check, hand_check_in}
use Rattle.unit.specs.Listing.{hand_readings}
use Rattle.records.specs.Pick.{pick_at}
use Rattle.reading_score.specs.declared.ScoringResult.{ScoringResult}
use Rattle.reading_score.specs.Score.{result, score_of, has_yaku}
use Rattle.reading_score.proofs.Counted.{by_dora_alone, score_without_dora}
use Rattle.choice.specs.Choice.{refused, choice, numbered}
use Rattle.win.specs.Win.{is_opened, tiles_together, dora_together, in_hand, indicated_in, or_then, win_check_in, score_in, scores, score_win_in, score_reading_in, refused_waits, named_waits, name_waits_in}
use Rattle.win_promises.proofs.Outcomes.{same_number}

-- ---- the same win with other indicators d and u
module _ (g : Game) (cs : List ℕ) (k : Calls) (w : GameContext) (d u : Indicators) where
  abbrev v : GameContext
  v = indicating d u w

  -- both pass the check of the indicators, or neither does
  module _ (checked : indicated_in g v ≡ indicated_in g w) where
    same_check : win_check_in g cs k v ≡ win_check_in g cs k w
    unfolding win_check_in
    same_check = ap (λ (b : Bool). or_then (hand_check_in g cs k) (check (in_range w) 8 (check b 14 (check (in_hand cs w.winning_tile) 9 0)))) checked

    -- the waits are the same
    pub waits_any_indicators : (n : ℕ) → name_waits_in g cs k v n ≡ name_waits_in g cs k w n
    unfolding name_waits_in
    waits_any_indicators n =
        ap
        (λ (m : ℕ).
        cond (eqb m 0) (pick_at (refused_waits 12) (λ r. named_waits (waits w.winning_tile r)) (hand_readings cs k) n) (refused_waits m))
        same_check

    -- each reading has a yaku or none, whatever is shown
    same_yaku : map has_yaku (scores cs k v) ≡ map has_yaku (scores cs k w)
    unfolding scores score_in score_of result
    same_yaku =
        map_map (score_in cs k v) has_yaku (hand_readings cs k)
        ∙ map_members (λ r. has_yaku (score_in cs k v r)) (λ r. has_yaku (score_in cs k w r)) (hand_readings cs k)
        (λ r i. ap (any (λ n. not (eqb n 0))) (tallies_any_room w.double_wind_fu d u w (is_opened k) (tiles_together cs k w) r))
        ∙ sym (map_map (score_in cs k w) has_yaku (hand_readings cs k))

    -- a win is scored with any indicators or with none, and refused with the same number: dora is no yaku
    pub number_any_indicators : (score_win_in g cs k v).number ≡ (score_win_in g cs k w).number
    unfolding score_win_in
    number_any_indicators =
        ap (λ (m : ℕ). (cond (eqb m 0) (choice g.players (scores cs k v)) (refused m)).number) same_check ∙ go (eqb (win_check_in g cs k w) 0)
      where
        go : (b : Bool) → (cond b (choice g.players (scores cs k v)) (refused (win_check_in g cs k w))).number ≡ (cond b (choice g.players (scores cs k w)) (refused (win_check_in g cs k w))).number
        go true = same_number g.players (scores cs k v) (scores cs k w) same_yaku
        go false = refl

    -- where hand and calls have the same dora, all that is answered is the same
    module _ (dora : dora_together cs k v ≡ dora_together cs k w) where
      same_score : (r : Reading) → score_in cs k v r ≡ score_in cs k w r
      unfolding score_in
      same_score r =
          ap (λ (n : DoraCount). score_of v (is_opened k) (tiles_together cs k w) n r) dora
          ∙ by_dora_alone w (is_opened k) (tiles_together cs k w) r (dora_together cs k w) d u

      same_scores : scores cs k v ≡ scores cs k w
      unfolding scores
      same_scores = map_members (score_in cs k v) (score_in cs k w) (hand_readings cs k) (λ r i. same_score r)

      pub win_by_dora : score_win_in g cs k v ≡ score_win_in g cs k w
      unfolding score_win_in
      win_by_dora = ap₂ (λ (m : ℕ) (xs : List ScoringResult). cond (eqb m 0) (choice g.players xs) (refused m)) same_check same_scores

      pub reading_by_dora : (n : ℕ) → score_reading_in g cs k v n ≡ score_reading_in g cs k w n
      unfolding score_reading_in
      reading_by_dora n = ap₂ (λ (m : ℕ) (xs : List ScoringResult). cond (eqb m 0) (numbered xs n) (refused m)) same_check same_scores

-- ---- what stands behind the count
-- as many are shown, and the same
pub record SameShown (i j : Indicators) : Type 0 where
  pub many : j.count ≡ i.count
  pub tiles : shown j ≡ shown i

module _
    (g : Game) (cs : List ℕ) (k : Calls) (w : GameContext) (d u : Indicators) (sd : SameShown w.dora_indicators d) (su : SameShown w.ura_dora_indicators u)
  where
    same_test : {i j : Indicators} → SameShown i j → are_indicators j ≡ are_indicators i
    same_test s = ap₂ (λ (n : ℕ) (ts : List ℕ). leb n 10 && all (λ t. ltb t 34) ts) s.many s.tiles

    both_tests : indicated_in g (indicating d u w) ≡ indicated_in g w
    both_tests =
        ap₂ (λ (a b : Bool). a && (g.dora || b)) (ap₂ ◌&&◌ (same_test sd) (same_test su))
        (ap₂ (λ (n m : ℕ). eqb n 0 && eqb m 0) sd.many su.many)

    same_dora : dora_together cs k (indicating d u w) ≡ dora_together cs k w
    unfolding dora_in
    same_dora =
        ap₂ (λ (ts us : List ℕ). the_dora (count_of c ts) (cond w.is_riichi (count_of c us) 0)) sd.tiles su.tiles
      where
        c : ℕ → ℕ
        c = together cs (called k)

        the_dora : ℕ → ℕ → DoraCount
        the_dora n m = record { regular = n; ura = m }

    -- the three operations do not read it
    pub win_unread : score_win_in g cs k (indicating d u w) ≡ score_win_in g cs k w
    win_unread = win_by_dora g cs k w d u both_tests same_dora

    pub reading_unread : (n : ℕ) → score_reading_in g cs k (indicating d u w) n ≡ score_reading_in g cs k w n
    reading_unread = reading_by_dora g cs k w d u both_tests same_dora

    pub waits_unread : (n : ℕ) → name_waits_in g cs k (indicating d u w) n ≡ name_waits_in g cs k w n
    waits_unread = waits_any_indicators g cs k w d u both_tests

-- ---- without riichi: those below may be any that pass the check, or any that do not
module _ (g : Game) (cs : List ℕ) (k : Calls) (w : GameContext) (u : Indicators) (none : w.is_riichi ≡ false) (tests : indicated_in g (indicating w.dora_indicators u w) ≡ indicated_in g w) where
  abbrev d : Indicators
  d = w.dora_indicators

  no_ura : dora_together cs k (indicating d u w) ≡ dora_together cs k w
  unfolding dora_in
  no_ura =
      ap (λ (b : Bool). the_dora (cond b (count_of c (shown u)) 0)) none ∙ sym (ap (λ (b : Bool). the_dora (cond b (count_of c (shown w.ura_dora_indicators)) 0)) none)
    where
      c : ℕ → ℕ
      c = together cs (called k)

      the_dora : ℕ → DoraCount
      the_dora n = record { regular = count_of c (shown d); ura = n }

  pub win_no_riichi : score_win_in g cs k (indicating d u w) ≡ score_win_in g cs k w
  win_no_riichi = win_by_dora g cs k w d u tests no_ura

  pub reading_no_riichi : (n : ℕ) → score_reading_in g cs k (indicating d u w) n ≡ score_reading_in g cs k w n
  reading_no_riichi = reading_by_dora g cs k w d u tests no_ura

-- ---- where none is shown
module _ (g : Game) (cs : List ℕ) (k : Calls) (w : GameContext) (no-dora : w.dora_indicators.count ≡ 0) (no_ura : w.ura_dora_indicators.count ≡ 0) where
  -- the checks are 1 to 6, 8 and 9
  pub checks_without : win_check_in g cs k w ≡ or_then (hand_check_in g cs k) (check (in_range w) 8 (check (in_hand cs w.winning_tile) 9 0))
  unfolding win_check_in check
  checks_without =
      ap
      (λ (b : Bool). or_then (hand_check_in g cs k) (check (in_range w) 8 (check b 14 (check (in_hand cs w.winning_tile) 9 0))))
      (ap₂ (λ (a b : Bool). a && (g.dora || b)) (none_checked w no-dora no_ura) none_at_all ∙ or_true g.dora)
    where
      none_at_all : none_shown w ≡ true
      none_at_all = ap₂ (λ (n m : ℕ). eqb n 0 && eqb m 0) no-dora no_ura

      or_true : (b : Bool) → (b || true) ≡ true
      or_true true = refl
      or_true false = refl

  -- each reading has the han of its yaku, and all else follows from them
  pub score_without :
      (r : Reading) → let s = tiles_together cs k w in
      score_in cs k w r ≡ result w (tallies w (is_opened k) s r) (han w (is_opened k) s r) (fu w (is_opened k) r) (is_yakuman w (is_opened k) s r) no_dora
  unfolding score_in
  score_without r =
      ap (λ (n : DoraCount). score_of w (is_opened k) (tiles_together cs k w) n r)
      (none_shown_holds (together cs (called k)) w (none_of w.dora_indicators no-dora) (none_of w.ura_dora_indicators no_ura))
      ∙ score_without_dora w (is_opened k) (tiles_together cs k w) r
