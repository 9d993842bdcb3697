-- The ways in which the choice among scores ends, at a table of any number of players: without a score, without a yaku, or with a score that is chosen; and the number that is answered.
-- Assumes nothing.
use mathlib.Core.Path.{◌≡◌, refl, sym, ap, ap₂, ◌∙◌}
use mathlib.Core.Bool.{Bool, false, ◌||◌, cond}
use mathlib.Core.List.{List, [], ◌∷◌, map, Memᴰ}
use Prim.Native.Nat.{ℕ, ◌<◌, ◌≤◌}
use native.Mathlib.Omega.{arith}
use Rattle.lists.specs.Fold.{any, some}
use Rattle.lists.proofs.Finite.{T→true, ¬T→false}
use Rattle.lists.proofs.Members.{any_of, not_empty}
use Rattle.reading_score.specs.declared.ScoringResult.{ScoringResult}
use Rattle.reading_score.specs.Score.{has_yaku, rank}
use Rattle.reading_score.proofs.Ranks.{rank_yaku, yaku_rank}
use Rattle.choice.specs.declared.ScoreAnswer.{ScoreAnswer}
use Rattle.choice.specs.Choice.{refused, scored, answer_of, choice}
use Rattle.choice.specs.Standing.{StandsAt}
use Rattle.choice.proofs.Standing.{stands_mem}
use Rattle.choice.proofs.Choosing.{ChosenOrNone, none_there, one_there, chosen_or_none, chosen_first, greatest_most}

-- x, which stands at the number i of the scores xs, is chosen: it has a rank, none has a greater one, each before it has a smaller one
pub record IsChosen (players : ℕ) (xs : List ScoringResult) (i : ℕ) (x : ScoringResult) : Type 0 where
  pub stands : StandsAt x i xs
  pub some : 0 < rank players x
  pub most : (y : ScoringResult) → Memᴰ y xs → rank players y ≤ rank players x
  pub first : (j : ℕ) (y : ScoringResult) → j < i → StandsAt y j xs → rank players y < rank players x

pub data Outcome (players : ℕ) (xs : List ScoringResult) : Type 0 where
  without_score : xs ≡ [] → choice players xs ≡ refused 10 → Outcome players xs
  without_yaku : (xs ≡ [] → ⊥) → ((y : ScoringResult) → Memᴰ y xs → rank players y ≡ 0) → choice players xs ≡ refused 11 → Outcome players xs
  with_score : (i : ℕ) (x : ScoringResult) → IsChosen players xs i x → choice players xs ≡ scored i x → Outcome players xs

some_outcome : (players : ℕ) (x : ScoringResult) (xs : List ScoringResult) → ChosenOrNone (rank players) (x ∷ xs) → Outcome players (x ∷ xs)
unfolding choice
some_outcome players x xs (none_there g c) =
    without_yaku (not_empty x xs) (λ y i. let h = greatest_most (rank players) (x ∷ xs) y i in omega arith) (ap answer_of c)
some_outcome players x xs (one_there i y c m e p s) =
    with_score i y
    (record {
      stands = s;
      some = p;
      most = λ z j. let h = greatest_most (rank players) (x ∷ xs) z j in omega arith;
      first = chosen_first (rank players) (x ∷ xs) i y c;
    })
    (ap answer_of c)

pub outcome : (players : ℕ) (xs : List ScoringResult) → Outcome players xs
unfolding choice
outcome players [] = without_score refl refl
outcome players (x ∷ xs) = some_outcome players x xs (chosen_or_none (rank players) (x ∷ xs))

-- ---- the number that is answered: 10 without a score, 11 without a yaku, else 0. Nothing else of the scores decides it
abbrev number_for : List Bool → ℕ
number_for [] = 10
number_for (b ∷ bs) = cond (some (b ∷ bs)) 0 11

no_yaku_holds : (players : ℕ) (xs : List ScoringResult) → ((y : ScoringResult) → Memᴰ y xs → rank players y ≡ 0) → some (map has_yaku xs) ≡ false
no_yaku_holds players [] z = refl
no_yaku_holds players (x ∷ xs) z =
    ap₂ ◌||◌ (¬T→false (has_yaku x) (λ t. let h = yaku_rank players x t in let e = z x (Memᴰ.head refl) in omega arith))
    (no_yaku_holds players xs (λ y i. z y (Memᴰ.tail i)))

number_for_holds : (players : ℕ) (xs : List ScoringResult) → Outcome players xs → (choice players xs).number ≡ number_for (map has_yaku xs)
number_for_holds players xs (without_score e a) = ap (λ (b : ScoreAnswer). b.number) a ∙ sym (ap (λ (l : List ScoringResult). number_for (map has_yaku l)) e)
number_for_holds players [] (without_yaku s z a) = absurd (s refl)
number_for_holds players (x ∷ xs) (without_yaku s z a) = ap (λ (b : ScoreAnswer). b.number) a ∙ sym (ap (λ (b : Bool). cond b 0 11) (no_yaku_holds players (x ∷ xs) z))
number_for_holds players [] (with_score i x c a) = absurd c.stands
number_for_holds players (y ∷ xs) (with_score i x c a) =
    ap (λ (b : ScoreAnswer). b.number) a
    ∙ sym (ap (λ (b : Bool). cond b 0 11) (T→true (any has_yaku (y ∷ xs)) (any_of has_yaku (stands_mem x i (y ∷ xs) c.stands) (rank_yaku players x c.some))))

pub same_number :
    (players : ℕ) (xs ys : List ScoringResult) → map has_yaku xs ≡ map has_yaku ys → (choice players xs).number ≡ (choice players ys).number
same_number players xs ys e = number_for_holds players xs (outcome players xs) ∙ ap number_for e ∙ sym (number_for_holds players ys (outcome players ys))
