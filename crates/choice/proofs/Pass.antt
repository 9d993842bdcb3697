-- The choice by one pass: what has a greater rank than the best so far is kept. It is the choice of the definitions. Assumes nothing.
use mathlib.Core.Path.{◌≡◌, refl, sym, subst, ap, ◌∙◌}
use mathlib.Core.Bool.{cond}
use mathlib.Core.List.{List, [], ◌∷◌, map}
use Prim.Native.Nat.{ℕ, zero, suc, ◌+◌, ◌-◌, ◌<◌, ◌≤◌, max}
use native.Mathlib.Numerals.{add-one}
use native.Mathlib.Omega.{arith}
use native.Mathlib.Decide.{dec_le}
use lib.Dec.{eqb, ltb, eqb-suc-zero}
use borrow.Author.Tests.{eq-eqb, ne_eqb, lt-ltb, le-ltb}
use Rattle.hand.specs.Reading.{Reading}
use Rattle.records.specs.Buffer.{byte_at, reading_at, readings_in}
use Rattle.reading_score.specs.declared.ScoringResult.{ScoringResult}
use Rattle.reading_score.specs.Score.{rank}
use Rattle.choice.specs.declared.ScoreAnswer.{ScoreAnswer}
use Rattle.choice.specs.Choice.{scored, no_reading, no_yaku, greatest, none, chosen, first, choose_by, answer_of, choice}

-- the answer of a pass over the scores, counted from i, where b is the best rank so far and c the answer so far
unfoldable pub pass : (ScoringResult → ℕ) → ℕ → ScoreAnswer → ℕ → List ScoringResult → ScoreAnswer
pass f b c i [] = c
pass f b c i (x ∷ xs) = cond (ltb b (f x)) (pass f (f x) (scored i x) (suc i) xs) (pass f b c (suc i) xs)

-- a pass answers the first score of the greatest rank, where that is above the best so far
pass_is :
    (f : ScoringResult → ℕ) (b : ℕ) (c : ScoreAnswer) (i : ℕ) (xs : List ScoringResult)
    → pass f b c i xs ≡ cond (ltb b (greatest (map f xs))) (answer_of (first f (greatest (map f xs)) i xs)) c
unfolding pass
pass_is f b c i [] = let z : 0 ≤ b = omega arith in rw (le-ltb b 0 z)
pass_is f b c i (x ∷ xs) = go (dec_le (f x) b) (dec_le g b) (dec_le g (f x)) (pass_is f (f x) (scored i x) (suc i) xs) (pass_is f b c (suc i) xs)
  where
    g : ℕ
    g = greatest (map f xs)

    go :
        Dec (f x ≤ b) → Dec (g ≤ b) → Dec (g ≤ f x)
        → pass f (f x) (scored i x) (suc i) xs ≡ cond (ltb (f x) g) (answer_of (first f g (suc i) xs)) (scored i x)
        → pass f b c (suc i) xs ≡ cond (ltb b g) (answer_of (first f g (suc i) xs)) c
        → cond (ltb b (f x)) (pass f (f x) (scored i x) (suc i) xs) (pass f b c (suc i) xs)
        ≡ cond (ltb b (max (f x) g)) (answer_of (cond (eqb (f x) (max (f x) g)) (chosen i x) (first f (max (f x) g) (suc i) xs))) c
    go (yes p) (yes q) r u v =
        let m : max (f x) g ≤ b = omega arith in
        rw (le-ltb b (f x) p, v, le-ltb b g q, le-ltb b (max (f x) g) m)
    go (yes p) (no q) r u v =
        let k : b < g = omega arith in
        let m : max (f x) g ≡ g = omega arith in
        rw (le-ltb b (f x) p, v, m, lt-ltb b g k, ne_eqb (f x) g (λ e. q (omega arith)))
    go (no p) q (yes r) u v =
        let k : b < f x = omega arith in
        let m : max (f x) g ≡ f x = omega arith in
        rw (lt-ltb b (f x) k, u, le-ltb (f x) g r, m, lt-ltb b (f x) k, eq-eqb (f x) (f x) refl)
    go (no p) q (no r) u v =
        let k : b < f x = omega arith in
        let l : f x < g = omega arith in
        let n : b < g = omega arith in
        let m : max (f x) g ≡ g = omega arith in
        rw (lt-ltb b (f x) k, u, lt-ltb (f x) g l, m, lt-ltb b g n, ne_eqb (f x) g (λ e. r (omega arith)))

pub pass_chooses : (f : ScoringResult → ℕ) (xs : List ScoringResult) → pass f 0 no_yaku 0 xs ≡ answer_of (choose_by f xs)
unfolding choose_by
pass_chooses f xs = pass_is f 0 no_yaku 0 xs ∙ go (greatest (map f xs))
  where
    go : (g : ℕ) → cond (ltb 0 g) (answer_of (first f g 0 xs)) no_yaku ≡ answer_of (cond (eqb g 0) none (first f g 0 xs))
    go zero = refl
    go (suc g) = let z : 0 < suc g = omega arith in rw (lt-ltb 0 (suc g) z, eqb-suc-zero g)

-- ---- the pass over n records of a buffer b, the first at its beginning, at a table of so many players; g scores a reading
module _ (players : ℕ) (g : Reading → ScoringResult) (b : List ℕ) (n : ℕ) where
  -- the answer from record k at the place i on
  unfoldable pub Rest : ℕ → ScoreAnswer → ℕ → ℕ → ScoreAnswer
  Rest best found k i = pass (rank players) best found k (map g (readings_in b (n - k) i))

  module _ (best : ℕ) (found : ScoreAnswer) (k i : ℕ) (h : k < n) where
    rest_step :
        Rest best found k i
        ≡ cond (ltb best (rank players (g (reading_at b i))))
        (Rest (rank players (g (reading_at b i))) (scored k (g (reading_at b i))) (suc k) (i + byte_at b i))
        (Rest best found (suc k) (i + byte_at b i))
    unfolding Rest pass
    rest_step =
        let e : n - k ≡ suc (n - suc k) = omega arith in
        ap (λ (m : ℕ). pass (rank players) best found k (map g (readings_in b m i))) e

    pub rest_take :
        best < rank players (g (reading_at b i))
        → Rest (rank players (g (reading_at b i))) (scored k (g (reading_at b i))) (k + 1) (i + byte_at b i) ≡ Rest best found k i
    rest_take l = rw add-one (sym (rest_step ∙ rw (lt-ltb best _ l)))

    pub rest_skip : rank players (g (reading_at b i)) ≤ best → Rest best found (k + 1) (i + byte_at b i) ≡ Rest best found k i
    rest_skip l = rw add-one (sym (rest_step ∙ rw (le-ltb best _ l)))

    -- a turn of the loop, over what its calls answer
    module _
        (x : ScoringResult) (r l : ℕ) (ex : x ≡ g (reading_at b i)) (er : r ≡ rank players x) (el : l ≡ byte_at b i) (best' : ℕ) (found' : ScoreAnswer) where
      pub turn_take : best < r → best' ≡ r → found' ≡ scored k x → Rest best' found' (k + 1) (i + l) ≡ Rest best found k i
      turn_take lt eb ef =
          let h : best < rank players (g (reading_at b i)) = subst (λ (m : ℕ). best < m) (er ∙ ap (rank players) ex) lt in
          cc (rest_take h)

      pub turn_skip : r ≤ best → best' ≡ best → found' ≡ found → Rest best' found' (k + 1) (i + l) ≡ Rest best found k i
      turn_skip le eb ef =
          let h : rank players (g (reading_at b i)) ≤ best = subst (λ (m : ℕ). m ≤ best) (er ∙ ap (rank players) ex) le in
          cc (rest_skip h)

  pub rest_end : (best : ℕ) (found : ScoreAnswer) (k i : ℕ) → n ≤ k → Rest best found k i ≡ found
  unfolding Rest pass
  rest_end best found k i h = let e : n - k ≡ 0 = omega arith in rw e

  pub rest_all : Rest 0 no_yaku 0 0 ≡ answer_of (choose_by (rank players) (map g (readings_in b n 0)))
  unfolding Rest
  rest_all = let e : n - 0 ≡ n = omega arith in rw e (pass_chooses (rank players) (map g (readings_in b n 0)))

-- ---- the answer: 10 without a reading, else by the choice
pub choice_none : (players : ℕ) (g : Reading → ScoringResult) (b : List ℕ) (n : ℕ) → n ≡ 0 → no_reading ≡ choice players (map g (readings_in b n 0))
unfolding choice
choice_none players g b n e = rw e

pub choice_some :
    (players : ℕ) (g : Reading → ScoringResult) (b : List ℕ) (n : ℕ) → (n ≡ 0 → ⊥)
    → answer_of (choose_by (rank players) (map g (readings_in b n 0))) ≡ choice players (map g (readings_in b n 0))
unfolding choice
choice_some players g b zero h = absurd (h refl)
choice_some players g b (suc n) h = refl
