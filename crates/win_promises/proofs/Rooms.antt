-- One win in two rooms, of which one gives two fu for the pair of the double wind and the other four: what the three operations answer.
-- Assumes nothing.
use mathlib.Core.Path.{◌≡◌, refl, sym, ap, subst, subst₂, ◌∙◌}
use mathlib.Core.Bool.{Bool, true, false, not, cond}
use mathlib.Core.List.Memᴰ
use mathlib.Core.List.{List, [], ◌∷◌, map, Memᴰ}
use Prim.Native.Nat.{ℕ, zero, suc, ◌≤◌}
use native.Mathlib.Omega.{arith}
use lib.Dec.{T, eqb}
use borrow.Author.Tests.{eqb-true}
use lib.ListN.{length}
use Rattle.lists.specs.Fold.{any}
use Rattle.lists.proofs.Members.{empty_map, map_members}
use Rattle.rules.specs.Rules.{Game}
use Rattle.context.specs.declared.GameContext.{GameContext}
use Rattle.context.specs.Context.{in_room}
use Rattle.hand.specs.Reading.{Reading}
use Rattle.scoring.specs.Payment.{total_at}
use Rattle.fu.proofs.DoubleWind.{has_double_wind}
use Rattle.dora.specs.Dora.{dora_in}
use Rattle.checks.specs.declared.Calls.{Calls}
use Rattle.checks.proofs.Passed.{passes_four}
use Rattle.unit.specs.Listing.{hand_readings}
use Rattle.records.specs.Pick.{pick_at}
use Rattle.reading_score.specs.declared.ScoringResult.{ScoringResult}
use Rattle.reading_score.specs.Score.{has_yaku}
use Rattle.reading_score.proofs.Ranks.{Small, rank_yaku, yaku_rank, rank_total, score_small}
use Rattle.reading_score.proofs.Rooms.{LessFu, less_itself, score_in_two, score_any_room}
use Rattle.choice.specs.declared.ScoreAnswer.{ScoreAnswer}
use Rattle.choice.specs.Choice.{refused, scored, choice, numbered}
use Rattle.choice.specs.Standing.{StandsAt}
use Rattle.choice.proofs.Standing.{stands_mem, stands_of_map}
use Rattle.win.specs.Win.{win_check_in, is_opened, tiles_together, dora_together, score_in, scores, score_win_in, score_reading_in, name_waits_in}
use Rattle.win.proofs.Passed.{checked}
use Rattle.win.proofs.Forty.{dora_forty}
use Rattle.win.proofs.Readings.{listed_short}
use Rattle.win_promises.proofs.Outcomes.{IsChosen, Outcome, without_score, without_yaku, with_score, outcome}

-- two answers of a reading by its number: the same reading with no more fu
pub record LessAnswer (a b : ScoreAnswer) : Type 0 where
  pub same_number : a.number ≡ b.number
  pub same_reading : a.reading ≡ b.reading
  pub less : LessFu a.score b.score

-- two answers of a win: both are scored, or refused with the same number, and the first pays no more. Which reading is chosen may differ
pub record PaysLess (players : ℕ) (a b : ScoreAnswer) : Type 0 where
  pub same_number : a.number ≡ b.number
  pub total_le : total_at players a.score.payment ≤ total_at players b.score.payment

-- ---- the choice among the scores of the same readings: f scores them where the room gives two, g where it gives four
module _
    (players : ℕ) (f g : Reading → ScoringResult) (rs : List Reading) (less : (r : Reading) → LessFu (f r) (g r))
    (small : (r : Reading) → Memᴰ r rs → Small (g r))
  where
    -- a yaku in one room is one in the other
    yaku_in : (r : Reading) → T (has_yaku (f r)) → T (has_yaku (g r))
    yaku_in r t = subst (λ (ts : List ℕ). T (any (λ n. not (eqb n 0)) ts)) (less r).same_tallies t

    yaku_back : (r : Reading) → T (has_yaku (g r)) → T (has_yaku (f r))
    yaku_back r t = subst (λ (ts : List ℕ). T (any (λ n. not (eqb n 0)) ts)) (sym (less r).same_tallies) t

    -- the reading of a score that is chosen
    record Of (h : Reading → ScoringResult) (x : ScoringResult) : Type 0 where
      reading : Reading
      listed : Memᴰ reading rs
      is : x ≡ h reading
      yaku : T (has_yaku (h reading))

    reading_of : (h : Reading → ScoringResult) (i : ℕ) (x : ScoringResult) → IsChosen players (map h rs) i x → Of h x
    reading_of h i x c =
        let r = stands_of_map h x i rs c.stands in
        record {
          reading = r.0;
          listed = stands_mem r.0 i rs r.1;
          is = r.2;
          yaku = subst (λ (y : ScoringResult). T (has_yaku y)) r.2 (rank_yaku players x c.some);
        }

    both : (x y : ScoringResult) (i j : ℕ) → IsChosen players (map f rs) i x → IsChosen players (map g rs) j y → total_at players x.payment ≤ total_at players y.payment
    both x y i j c d =
        let p = reading_of f i x c in
        let q = reading_of g j y d in
        let r = p.reading in
        let below = (less r).total_le players in
        let most = rank_total players (g r) y (small r p.listed) (subst Small (sym q.is) (small q.reading q.listed))
        (yaku_in r p.yaku) (d.most (g r) (Memᴰ.map g p.listed)) in
        let e = ap (λ (z : ScoringResult). total_at players z.payment) p.is in
        omega arith

    choices : Outcome players (map f rs) → Outcome players (map g rs) → PaysLess players (choice players (map f rs)) (choice players (map g rs))
    choices (without_score e a) (without_score e' a') =
        subst₂ (PaysLess players) (sym a) (sym a') (record { same_number = refl; total_le = omega arith })
    choices (without_score e a) (without_yaku s z a') = absurd (s (ap (map g) (empty_map f rs e)))
    choices (without_score e a) (with_score j y d a') =
        absurd (subst (λ (l : List Reading). StandsAt y j (map g l)) (empty_map f rs e) d.stands)
    choices (without_yaku s z a) (without_score e' a') = absurd (s (ap (map f) (empty_map g rs e')))
    choices (without_yaku s z a) (without_yaku s' z' a') =
        subst₂ (PaysLess players) (sym a) (sym a') (record { same_number = refl; total_le = omega arith })
    choices (without_yaku s z a) (with_score j y d a') =
        let q = reading_of g j y d in
        absurd
        (let k = yaku_rank players (f q.reading) (yaku_back q.reading q.yaku) in
        let l = z (f q.reading) (Memᴰ.map f q.listed) in
        omega arith)
    choices (with_score i x c a) (without_score e' a') =
        absurd (subst (λ (l : List Reading). StandsAt x i (map f l)) (empty_map g rs e') c.stands)
    choices (with_score i x c a) (without_yaku s' z' a') =
        let p = reading_of f i x c in
        absurd
        (let k = yaku_rank players (g p.reading) (yaku_in p.reading p.yaku) in
        let l = z' (g p.reading) (Memᴰ.map g p.listed) in
        omega arith)
    choices (with_score i x c a) (with_score j y d a') =
        subst₂ (PaysLess players) (sym a) (sym a') (record { same_number = refl; total_le = both x y i j c d })

-- ---- the three operations
module _ (g : Game) (cs : List ℕ) (k : Calls) (w : GameContext) where
  -- the waits are the same
  pub waits_any_room : (n : ℕ) → name_waits_in g cs k (in_room 2 w) n ≡ name_waits_in g cs k (in_room 4 w) n
  unfolding name_waits_in win_check_in
  waits_any_room n = refl

  less_in : (r : Reading) → LessFu (score_in cs k (in_room 2 w) r) (score_in cs k (in_room 4 w) r)
  unfolding score_in dora_in
  less_in r = score_in_two w 4 (is_opened k) (tiles_together cs k w) (dora_together cs k w) r

  refused_alike : (m : ℕ) → LessAnswer (refused m) (refused m)
  refused_alike m = record { same_number = refl; same_reading = refl; less = less_itself (refused m).score }

  picked :
      (n : ℕ) (rs : List Reading) (i : ℕ)
      → LessAnswer (pick_at (refused 12) (scored n) (map (score_in cs k (in_room 2 w)) rs) i)
      (pick_at (refused 12) (scored n) (map (score_in cs k (in_room 4 w)) rs) i)
  picked n [] i = refused_alike 12
  picked n (r ∷ rs) zero = record { same_number = refl; same_reading = refl; less = less_in r }
  picked n (r ∷ rs) (suc i) = picked n rs i

  -- reading number n: refused alike, or the same reading with the same yaku and han, and no more fu and points
  pub reading_in_two : (n : ℕ) → LessAnswer (score_reading_in g cs k (in_room 2 w) n) (score_reading_in g cs k (in_room 4 w) n)
  unfolding score_reading_in win_check_in numbered scores
  reading_in_two n = go (eqb (win_check_in g cs k (in_room 2 w)) 0)
    where
      go :
          (b : Bool)
          → LessAnswer
          (cond b (numbered (scores cs k (in_room 2 w)) n) (refused (win_check_in g cs k (in_room 2 w))))
          (cond b (numbered (scores cs k (in_room 4 w)) n) (refused (win_check_in g cs k (in_room 2 w))))
      go true = picked n (hand_readings cs k) n
      go false = refused_alike (win_check_in g cs k (in_room 2 w))

  small_in :
      length k.melds ≡ 4 → win_check_in g cs k (in_room 4 w) ≡ 0 → (r : Reading) → Memᴰ r (hand_readings cs k)
      → Small (score_in cs k (in_room 4 w) r)
  unfolding score_in dora_in
  small_in four passes r i =
      let p = checked cs k (in_room 4 w) passes in
      score_small (in_room 4 w) (is_opened k) (tiles_together cs k w) (dora_together cs k w) r (dora_forty cs k (in_room 4 w) p)
      (listed_short cs k four (passes_four g cs k p.hand) r i)

  -- the win: it pays no more where the room gives two
  pub win_in_two : length k.melds ≡ 4 → PaysLess g.players (score_win_in g cs k (in_room 2 w)) (score_win_in g cs k (in_room 4 w))
  unfolding score_win_in win_check_in scores
  win_in_two four = go (eqb (win_check_in g cs k (in_room 2 w)) 0) refl
    where
      go :
          (b : Bool) → eqb (win_check_in g cs k (in_room 4 w)) 0 ≡ b
          → PaysLess g.players
          (cond b (choice g.players (scores cs k (in_room 2 w))) (refused (win_check_in g cs k (in_room 2 w))))
          (cond b (choice g.players (scores cs k (in_room 4 w))) (refused (win_check_in g cs k (in_room 2 w))))
      go true e =
          choices g.players (score_in cs k (in_room 2 w)) (score_in cs k (in_room 4 w)) (hand_readings cs k) less_in
          (small_in four (eqb-true (win_check_in g cs k (in_room 4 w)) 0 e)) (outcome g.players _) (outcome g.players _)
      go false e = record { same_number = refl; total_le = omega arith }

  -- a hand of which no reading has the double wind as its pair is scored alike in both rooms
  module _ (other : (r : Reading) → Memᴰ r (hand_readings cs k) → T (not (has_double_wind w r))) where
    same_scores : scores cs k (in_room 2 w) ≡ scores cs k (in_room 4 w)
    unfolding scores score_in dora_in
    same_scores =
        map_members (score_in cs k (in_room 2 w)) (score_in cs k (in_room 4 w)) (hand_readings cs k)
        (λ r i.
        score_any_room w 2 (is_opened k) (tiles_together cs k w) (dora_together cs k w) r (other r i)
        ∙ sym (score_any_room w 4 (is_opened k) (tiles_together cs k w) (dora_together cs k w) r (other r i)))

    pub win_any_room : score_win_in g cs k (in_room 2 w) ≡ score_win_in g cs k (in_room 4 w)
    unfolding score_win_in win_check_in
    win_any_room =
        ap (λ (xs : List ScoringResult). cond (eqb (win_check_in g cs k (in_room 2 w)) 0) (choice g.players xs) (refused (win_check_in g cs k (in_room 2 w)))) same_scores

    pub reading_any_room : (n : ℕ) → score_reading_in g cs k (in_room 2 w) n ≡ score_reading_in g cs k (in_room 4 w) n
    unfolding score_reading_in win_check_in
    reading_any_room n =
        ap (λ (xs : List ScoringResult). cond (eqb (win_check_in g cs k (in_room 2 w)) 0) (numbered xs n) (refused (win_check_in g cs k (in_room 2 w)))) same_scores
