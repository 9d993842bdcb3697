-- Scoring a win: what the answer is of a win that passes the checks. Assumes nothing.
use mathlib.Core.Path.{◌≡◌, sym, ap, subst, ◌∙◌}
use mathlib.Core.List.Memᴰ
use mathlib.Core.List.{List, [], Memᴰ}
use Prim.Native.Nat.{ℕ, ◌<◌, ◌≤◌}
use native.Mathlib.Omega.{arith}
use lib.Dec.{T}
use lib.ListN.{length}
use Rattle.lists.proofs.Members.{empty_map}
use Rattle.rules.specs.Rules.{Game}
use Rattle.context.specs.declared.GameContext.{GameContext}
use Rattle.hand.specs.Reading.{Reading}
use Rattle.wait.specs.Wait.{waits}
use Rattle.scoring.specs.Payment.{total_at}
use Rattle.checks.specs.declared.Calls.{Calls}
use Rattle.checks.proofs.Passed.{passes_four}
use Rattle.unit.specs.Listing.{hand_readings}
use Rattle.records.proofs.Pick.{pick_past, past_end}
use Rattle.reading_score.specs.declared.ScoringResult.{ScoringResult}
use Rattle.reading_score.specs.Score.{has_yaku, rank}
use Rattle.reading_score.specs.Preferred.{Preferred}
use Rattle.reading_score.proofs.Ranks.{Small, rank_yaku, yaku_rank, rank_total, rank_order, score_small}
use Rattle.choice.specs.declared.ScoreAnswer.{ScoreAnswer}
use Rattle.choice.specs.Choice.{refused, scored, choice}
use Rattle.choice.specs.Standing.{StandsAt}
use Rattle.choice.proofs.Standing.{stands_mem, stands_map, stands_of_map}
use Rattle.win.specs.declared.WaitsAnswer.{WaitsAnswer}
use Rattle.win.specs.Win.{win_check_in, is_opened, tiles_together, dora_together, score_in, scores, score_win_in, score_reading_in, refused_waits, named_waits, name_waits_in}
use Rattle.win.proofs.Passed.{checked}
use Rattle.win.proofs.Forty.{dora_forty}
use Rattle.win.proofs.Readings.{listed_short}
use Rattle.win.proofs.Answers.{win_choice, reading_picked, waits_picked, scored_at}
use Rattle.win_promises.proofs.Outcomes.{IsChosen, Outcome, without_score, without_yaku, with_score, outcome}

abbrev answer : ℕ → ℕ → ScoringResult → ScoreAnswer
answer n i x = record { number = n; reading = i; score = x }

-- ---- a win that passes the checks of a game
module _ (g : Game) (cs : List ℕ) (k : Calls) (w : GameContext) (passes : win_check_in g cs k w ≡ 0) where
  -- the number answered, by what the choice answers
  number_is : (a : ScoreAnswer) → choice g.players (scores cs k w) ≡ a → (score_win_in g cs k w).number ≡ a.number
  number_is a e = ap (λ (b : ScoreAnswer). b.number) (win_choice g cs k w passes ∙ e)

  -- a reading of the hand and its score
  score_listed : (r : Reading) → Memᴰ r (hand_readings cs k) → Memᴰ (score_in cs k w r) (scores cs k w)
  unfolding scores
  score_listed r i = Memᴰ.map (score_in cs k w) i

  score_stands : (r : Reading) (j : ℕ) → StandsAt r j (hand_readings cs k) → StandsAt (score_in cs k w r) j (scores cs k w)
  unfolding scores
  score_stands r j s = stands_map (score_in cs k w) r j (hand_readings cs k) s

  reading_of : (x : ScoringResult) (i : ℕ) → StandsAt x i (scores cs k w) → (r : Reading) × StandsAt r i (hand_readings cs k) × (x ≡ score_in cs k w r)
  unfolding scores
  reading_of x i s = stands_of_map (score_in cs k w) x i (hand_readings cs k) s

  no_scores : hand_readings cs k ≡ [] → scores cs k w ≡ []
  unfolding scores
  no_scores e = rw e

  no_readings : scores cs k w ≡ [] → hand_readings cs k ≡ []
  unfolding scores
  no_readings e = empty_map (score_in cs k w) (hand_readings cs k) e

  -- ---- 10 exactly where there is no reading
  pub no_reading_holds : hand_readings cs k ≡ [] → (score_win_in g cs k w).number ≡ 10
  no_reading_holds e = go (outcome g.players (scores cs k w))
    where
      go : Outcome g.players (scores cs k w) → (score_win_in g cs k w).number ≡ 10
      go (without_score f a) = number_is (refused 10) a
      go (without_yaku f z a) = absurd (f (no_scores e))
      go (with_score i x c a) = absurd (subst (λ (l : List ScoringResult). StandsAt x i l) (no_scores e) c.stands)

  pub ten_no_reading : (score_win_in g cs k w).number ≡ 10 → hand_readings cs k ≡ []
  ten_no_reading n = go (outcome g.players (scores cs k w))
    where
      go : Outcome g.players (scores cs k w) → hand_readings cs k ≡ []
      go (without_score f a) = no_readings f
      go (without_yaku f z a) = absurd (let e = number_is (refused 11) a in omega arith)
      go (with_score i x c a) = absurd (let e = number_is (scored i x) a in omega arith)

  -- ---- 11 exactly where there is a reading and none has a yaku
  pub record NoYaku : Type 0 where
    pub some : hand_readings cs k ≡ [] → ⊥
    pub none : (r : Reading) → Memᴰ r (hand_readings cs k) → T (has_yaku (score_in cs k w r)) → ⊥

  pub no_yaku_holds : NoYaku → (score_win_in g cs k w).number ≡ 11
  no_yaku_holds h = go (outcome g.players (scores cs k w))
    where
      yaku : (x : ScoringResult) (r : Reading) → x ≡ score_in cs k w r → 0 < rank g.players x → T (has_yaku (score_in cs k w r))
      yaku x r e p = subst (λ (y : ScoringResult). T (has_yaku y)) e (rank_yaku g.players x p)

      go : Outcome g.players (scores cs k w) → (score_win_in g cs k w).number ≡ 11
      go (without_score f a) = absurd (h.some (no_readings f))
      go (without_yaku f z a) = number_is (refused 11) a
      go (with_score i x c a) =
          let r = reading_of x i c.stands in
          absurd (h.none r.0 (stands_mem r.0 i (hand_readings cs k) r.1) (yaku x r.0 r.2 c.some))

  pub eleven_no_yaku : (score_win_in g cs k w).number ≡ 11 → NoYaku
  eleven_no_yaku n = go (outcome g.players (scores cs k w))
    where
      go : Outcome g.players (scores cs k w) → NoYaku
      go (without_score f a) = absurd (let e = number_is (refused 10) a in omega arith)
      go (without_yaku f z a) =
          record {
            some = λ e. f (no_scores e);
            none = λ r i t. let p = yaku_rank g.players (score_in cs k w r) t in let q = z (score_in cs k w r) (score_listed r i) in omega arith;
          }
      go (with_score i x c a) = absurd (let e = number_is (scored i x) a in omega arith)

  -- ---- 0: a reading is chosen
  -- where some reading has a yaku, the win is scored
  pub yaku_scored : (r : Reading) → Memᴰ r (hand_readings cs k) → T (has_yaku (score_in cs k w r)) → (score_win_in g cs k w).number ≡ 0
  yaku_scored r i t = go (outcome g.players (scores cs k w))
    where
      go : Outcome g.players (scores cs k w) → (score_win_in g cs k w).number ≡ 0
      go (without_score f a) = absurd (Memᴰ.not-nil (subst (λ (l : List ScoringResult). Memᴰ (score_in cs k w r) l) f (score_listed r i)))
      go (without_yaku f z a) = absurd (let p = yaku_rank g.players (score_in cs k w r) t in let q = z (score_in cs k w r) (score_listed r i) in omega arith)
      go (with_score j x c a) = number_is (scored j x) a

  module _ (scored-win : (score_win_in g cs k w).number ≡ 0) where
    -- the score answered is chosen at the number answered
    is_chosen : IsChosen g.players (scores cs k w) (score_win_in g cs k w).reading (score_win_in g cs k w).score
    is_chosen = go (outcome g.players (scores cs k w))
      where
        go : Outcome g.players (scores cs k w) → IsChosen g.players (scores cs k w) (score_win_in g cs k w).reading (score_win_in g cs k w).score
        go (without_score f a) = absurd (let e = number_is (refused 10) a in omega arith)
        go (without_yaku f z a) = absurd (let e = number_is (refused 11) a in omega arith)
        go (with_score i x c a) = subst (λ (b : ScoreAnswer). IsChosen g.players (scores cs k w) b.reading b.score) (sym (win_choice g cs k w passes ∙ a)) c

    -- the score answered has a yaku, and it is the score of the reading at the number answered
    pub record ChosenReading : Type 0 where
      pub reading : Reading
      pub stands : StandsAt reading (score_win_in g cs k w).reading (hand_readings cs k)
      pub score : (score_win_in g cs k w).score ≡ score_in cs k w reading
      pub yaku : T (has_yaku (score_win_in g cs k w).score)

    pub chosen_has_yaku : ChosenReading
    chosen_has_yaku =
        let r = reading_of (score_win_in g cs k w).score (score_win_in g cs k w).reading is_chosen.stands in
        record { reading = r.0; stands = r.1; score = r.2; yaku = rank_yaku g.players (score_win_in g cs k w).score is_chosen.some }

    -- ---- the four melds of the calls are four (an array of four in the code)
    module _ (four : length k.melds ≡ 4) where
      small : (r : Reading) → Memᴰ r (hand_readings cs k) → Small (score_in cs k w r)
      unfolding score_in
      small r i =
          let p = checked cs k w passes in
          score_small w (is_opened k) (tiles_together cs k w) (dora_together cs k w) r (dora_forty cs k w p) (listed_short cs k four (passes_four g cs k p.hand) r i)

      small_chosen : Small (score_win_in g cs k w).score
      small_chosen =
          let r = chosen_has_yaku in
          subst Small (sym r.score) (small r.reading (stands_mem r.reading (score_win_in g cs k w).reading (hand_readings cs k) r.stands))

      -- no reading of the hand with a yaku pays more in total
      pub none_pays_more :
          (r : Reading) → Memᴰ r (hand_readings cs k) → T (has_yaku (score_in cs k w r))
          → total_at g.players (score_in cs k w r).payment ≤ total_at g.players (score_win_in g cs k w).score.payment
      none_pays_more r i t =
          rank_total g.players (score_in cs k w r) (score_win_in g cs k w).score (small r i) small_chosen t (is_chosen.most (score_in cs k w r) (score_listed r i))

      -- none is preferred to it: by the total, then by a yakuman before none, then by han, then by fu
      pub preferred_none :
          (r : Reading) → Memᴰ r (hand_readings cs k) → T (has_yaku (score_in cs k w r)) → Preferred g.players (score_win_in g cs k w).score (score_in cs k w r) → ⊥
      preferred_none r i t p =
          let l = (rank_order g.players (score_win_in g cs k w).score (score_in cs k w r) small_chosen (small r i) chosen_has_yaku.yaku t).1 p in
          let m = is_chosen.most (score_in cs k w r) (score_listed r i) in
          omega arith

      -- and it is preferred to each earlier one: of equals it is the first
      pub then_earlier :
          (j : ℕ) (r : Reading) → j < (score_win_in g cs k w).reading → StandsAt r j (hand_readings cs k) → T (has_yaku (score_in cs k w r))
          → Preferred g.players (score_in cs k w r) (score_win_in g cs k w).score
      then_earlier j r l s t =
          (rank_order g.players (score_in cs k w r) (score_win_in g cs k w).score (small r (stands_mem r j (hand_readings cs k) s)) small_chosen t chosen_has_yaku.yaku).0
          (is_chosen.first j (score_in cs k w r) l (score_stands r j s))

  -- ---- scoring by number: 12 exactly where there are not more than n readings
  pub by_number : (n : ℕ) → length (hand_readings cs k) ≤ n → (score_reading_in g cs k w n).number ≡ 12
  by_number n h =
      ap (λ (b : ScoreAnswer). b.number)
      (reading_picked g cs k w passes n ∙ pick_past (refused 12) (λ r. scored n (score_in cs k w r)) (hand_readings cs k) n h)

  pub twelve_by_number : (n : ℕ) → (score_reading_in g cs k w n).number ≡ 12 → length (hand_readings cs k) ≤ n
  twelve_by_number n e =
      past_end (refused 12) (λ r. scored n (score_in cs k w r)) (hand_readings cs k) n
      (λ r q. let z = ap (λ (b : ScoreAnswer). b.number) (reading_picked g cs k w passes n ∙ q) in omega arith)

  -- the reading with the number n, where there is one
  pub scored_by_number : (n : ℕ) (r : Reading) → StandsAt r n (hand_readings cs k) → score_reading_in g cs k w n ≡ scored n (score_in cs k w r)
  scored_by_number n r s = scored_at g cs k w passes n r s

  -- the reading that scoring the win chooses, scored by its number, has the answer of scoring the win
  pub same_by_number : (score_win_in g cs k w).number ≡ 0 → score_reading_in g cs k w (score_win_in g cs k w).reading ≡ score_win_in g cs k w
  same_by_number e =
      let r = chosen_has_yaku e in
      scored_by_number (score_win_in g cs k w).reading r.reading r.stands
      ∙ ap (scored (score_win_in g cs k w).reading) (sym r.score)
      ∙ sym (ap (λ (n : ℕ). answer n (score_win_in g cs k w).reading (score_win_in g cs k w).score) e)

  -- ---- naming waits by number: the same
  pub waits_by_number : (n : ℕ) → length (hand_readings cs k) ≤ n → (name_waits_in g cs k w n).number ≡ 12
  waits_by_number n h =
      ap (λ (b : WaitsAnswer). b.number)
      (waits_picked g cs k w passes n ∙ pick_past (refused_waits 12) (λ r. named_waits (waits w.winning_tile r)) (hand_readings cs k) n h)

  pub twelve_waits_by_number : (n : ℕ) → (name_waits_in g cs k w n).number ≡ 12 → length (hand_readings cs k) ≤ n
  twelve_waits_by_number n e =
      past_end (refused_waits 12) (λ r. named_waits (waits w.winning_tile r)) (hand_readings cs k) n
      (λ r q. let z = ap (λ (b : WaitsAnswer). b.number) (waits_picked g cs k w passes n ∙ q) in omega arith)
