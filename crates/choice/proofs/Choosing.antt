-- The choice among scores by a rank f: it is one of the scores, none has a greater rank, none before it has an equal one. Assumes nothing.
use mathlib.Core.Path.{◌≡◌, refl, sym, ap, ap₂, subst, ◌∙◌}
use mathlib.Core.Logic.{◌⊎◌, inl, inr}
use mathlib.Core.Bool.{Bool, true, false}
use mathlib.Core.List.Memᴰ
use mathlib.Core.List.{List, [], ◌∷◌, map, Memᴰ, Permᴰ}
use Prim.Native.Nat.{ℕ, zero, suc, ◌+◌, ◌<◌, ◌≤◌, max}
use native.Mathlib.Omega.{arith}
use native.Mathlib.Decide.{dec_le}
use native.Mathlib.Nat.{add-zero}
use lib.Dec.{eqb, eqb-suc-zero}
use borrow.Author.Tests.{eqb-true, eqb-false}
use Rattle.reading_score.specs.declared.ScoringResult.{ScoringResult}
use Rattle.choice.specs.Choice.{greatest, none, chosen, first, choose_by}
use Rattle.choice.specs.Standing.{StandsAt}
use Rattle.choice.proofs.Standing.{stands_mem}

-- ---- the greatest of a list
pub greatest_perm : {l m : List ℕ} → Permᴰ l m → greatest l ≡ greatest m
greatest_perm Permᴰ.nil = refl
greatest_perm (Permᴰ.cons e d) = ap₂ max e (greatest_perm d)
greatest_perm (Permᴰ.swap {a = a} {b = b} {l = l} e f) = swap a b (greatest l) ∙ ap₂ (λ (x y : ℕ). max x (max y (greatest l))) f e
  where
    swap : (a b c : ℕ) → max a (max b c) ≡ max b (max a c)
    swap a b c = omega arith
greatest_perm (Permᴰ.trans d e) = greatest_perm d ∙ greatest_perm e

-- a greatest number above 0 is a member
greatest_mem : (l : List ℕ) → 0 < greatest l → Memᴰ (greatest l) l
greatest_mem [] h = absurd (omega arith)
greatest_mem (n ∷ l) h = go (greatest_mem l) (dec_le (greatest l) n)
  where
    go : (0 < greatest l → Memᴰ (greatest l) l) → Dec (greatest l ≤ n) → Memᴰ (max n (greatest l)) (n ∷ l)
    go r (yes le) = let e : max n (greatest l) ≡ n = omega arith in Memᴰ.head e
    go r (no le) = subst (λ (x : ℕ). Memᴰ x (n ∷ l)) (omega arith) (Memᴰ.tail {x = n} (r (omega arith)))

-- no score has a greater rank
pub greatest_most : (f : ScoringResult → ℕ) (xs : List ScoringResult) (x : ScoringResult) → Memᴰ x xs → f x ≤ greatest (map f xs)
greatest_most f [] x i = absurd (Memᴰ.not-nil i)
greatest_most f (y ∷ ys) x i = go (greatest_most f ys x) (Memᴰ.cases_cons i)
  where
    go : (Memᴰ x ys → f x ≤ greatest (map f ys)) → (x ≡ y) ⊎ Memᴰ x ys → f x ≤ max (f y) (greatest (map f ys))
    go r (inl e) = let h = ap f e in omega arith
    go r (inr j) = let h = r j in omega arith

-- ---- the first score of a rank: where it stands, its rank, and that no score before it has this rank
record Found (f : ScoringResult → ℕ) (b i : ℕ) (xs : List ScoringResult) : Type 0 where
  place : ℕ
  score : ScoringResult
  is : first f b i xs ≡ chosen (i + place) score
  stands : StandsAt score place xs
  rank : f score ≡ b
  before : (j : ℕ) (y : ScoringResult) → j < place → StandsAt y j xs → f y ≡ b → ⊥

found_here : (f : ScoringResult → ℕ) (i : ℕ) (x : ScoringResult) (xs : List ScoringResult) (b : ℕ) → eqb (f x) b ≡ true → Found f b i (x ∷ xs)
found_here f i x xs b e =
    record {
      place = 0;
      score = x;
      is = rw (e, add-zero);
      stands = refl;
      rank = eqb-true (f x) b e;
      before = λ j y l s q. absurd (omega arith);
    }

found_later :
    (f : ScoringResult → ℕ) (b i : ℕ) (x : ScoringResult) (xs : List ScoringResult) → eqb (f x) b ≡ false → Found f b (suc i) xs → Found f b i (x ∷ xs)
found_later f b i x xs e r =
    record {
      place = suc r.place;
      score = r.score;
      is = rw e (r.is ∙ ap (λ (n : ℕ). chosen n r.score) (omega arith));
      stands = r.stands;
      rank = r.rank;
      before = earlier;
    }
  where
    earlier : (j : ℕ) (y : ScoringResult) → j < suc r.place → StandsAt y j (x ∷ xs) → f y ≡ b → ⊥
    earlier zero y l s q = eqb-false (f x) b e (ap f (sym s) ∙ q)
    earlier (suc j) y l s q = r.before j y (omega arith) s q

first_found : (f : ScoringResult → ℕ) (b i : ℕ) (xs : List ScoringResult) → Memᴰ b (map f xs) → Found f b i xs
first_found f b i [] m = absurd (Memᴰ.not-nil m)
first_found f b i (x ∷ xs) m = go (eqb (f x) b) refl (first_found f b (suc i) xs) (Memᴰ.cases_cons m)
  where
    go : (t : Bool) → eqb (f x) b ≡ t → (Memᴰ b (map f xs) → Found f b (suc i) xs) → (b ≡ f x) ⊎ Memᴰ b (map f xs) → Found f b i (x ∷ xs)
    go true e r k = found_here f i x xs b e
    go false e r (inl q) = absurd (eqb-false (f x) b e (sym q))
    go false e r (inr j) = found_later f b i x xs e (r j)

-- ---- the choice
-- where no score has a rank above 0, none is chosen; else a score of the greatest rank, which stands at the number answered
pub data ChosenOrNone (f : ScoringResult → ℕ) (xs : List ScoringResult) : Type 0 where
  none_there : greatest (map f xs) ≡ 0 → choose_by f xs ≡ none → ChosenOrNone f xs
  one_there :
      (i : ℕ) (x : ScoringResult) → choose_by f xs ≡ chosen i x → Memᴰ x xs → f x ≡ greatest (map f xs) → 0 < f x → StandsAt x i xs
      → ChosenOrNone f xs

module _ (f : ScoringResult → ℕ) (xs : List ScoringResult) where
  none_chosen : greatest (map f xs) ≡ 0 → choose_by f xs ≡ none
  unfolding choose_by
  none_chosen e = rw e

  -- where the greatest rank is above 0, the first score of this rank
  the_first : (b : ℕ) → greatest (map f xs) ≡ suc b → Found f (suc b) 0 xs
  the_first b e = first_found f (suc b) 0 xs (subst (λ (n : ℕ). Memᴰ n (map f xs)) e (greatest_mem (map f xs) (omega arith)))

  one_chosen : (b : ℕ) → greatest (map f xs) ≡ suc b → (r : Found f (suc b) 0 xs) → choose_by f xs ≡ chosen r.place r.score
  unfolding choose_by
  one_chosen b e r = rw (e, eqb-suc-zero b) (r.is ∙ ap (λ (n : ℕ). chosen n r.score) (omega arith))

  pub chosen_or_none : ChosenOrNone f xs
  chosen_or_none = go (greatest (map f xs)) refl
    where
      one : (b : ℕ) → greatest (map f xs) ≡ suc b → Found f (suc b) 0 xs → ChosenOrNone f xs
      one b e r =
          one_there r.place r.score (one_chosen b e r) (stands_mem r.score r.place xs r.stands) (r.rank ∙ sym e)
          (let h = r.rank in omega arith) r.stands

      go : (b : ℕ) → greatest (map f xs) ≡ b → ChosenOrNone f xs
      go zero e = none_there e (none_chosen e)
      go (suc b) e = one b e (the_first b e)

  -- the earliest: each score before the number answered has a smaller rank
  pub chosen_first :
      (i : ℕ) (x : ScoringResult) → choose_by f xs ≡ chosen i x → (j : ℕ) (y : ScoringResult) → j < i → StandsAt y j xs → f y < f x
  chosen_first i x c j y l s = go (greatest (map f xs)) refl
    where
      one : (b : ℕ) → greatest (map f xs) ≡ suc b → (r : Found f (suc b) 0 xs) → choose_by f xs ≡ chosen r.place r.score → f y < f x
      one b e r d =
          let k : i ≡ r.place = cc in
          let q : x ≡ r.score = cc in
          let h = ap f q ∙ r.rank in
          let m = greatest_most f xs y (stands_mem y j xs s) in
          let n : f y ≡ suc b → ⊥ = r.before j y (omega arith) s in
          omega arith

      go : (b : ℕ) → greatest (map f xs) ≡ b → f y < f x
      go zero e = absurd (let d = none_chosen e in let z : ◌≡◌ {A = ℕ} 0 1 = cc in omega arith)
      go (suc b) e = let r = the_first b e in one b e r (one_chosen b e r)
