-- A meld more makes a pair of identical sequences more if it is a sequence and an odd number of the others are the same: only the
-- term of its own start changes. So the pairs of four melds come of six comparisons. Assumes nothing.
use mathlib.Core.Path.{◌≡◌, refl, sym, ap, ap₂, ◌∙◌}
use mathlib.Core.Bool.{Bool, true, false, ◌&&◌, not, and-false, beq}
use mathlib.Core.List.{List, [], ◌∷◌}
use Prim.Native.Nat.{ℕ, ◌+◌, ◌%◌, ◌≤◌}
use native.Mathlib.Omega.{arith}
use native.Mathlib.Decide.{ℕ_discrete}
use lib.Dec.{T, eqb, ltb, eqb→eq, ltb→lt}
use lib.ListN.{length, get_or}
use borrow.Author.Tests.{ltb-true, ltb-false, eqb-true, eqb-false, eq-eqb, ne_eqb}
use Rattle.lists.specs.Fold.{all, all_below, count, one, sum, total}
use Rattle.lists.proofs.Finite.{and_left, and_right, at}
use Rattle.lists.proofs.Members.{map_members}
use Rattle.lists.proofs.Sums.{sum_zero, sum_plus}
use Rattle.lists.proofs.Elements.{four}
use Rattle.tile.specs.Tile.{is_start}
use Rattle.meld.specs.declared.Meld.{Meld}
use Rattle.meld.specs.Meld.{is_sequence}
use Rattle.meld_yaku.specs.Melds.{run_from}
use Rattle.sequence_yaku.specs.Sequences.{pairs_among, peikou, starts}

-- ---- a sum of which each term grows
sum_grown : (f g e : ℕ → ℕ) → ((t : ℕ) → f t ≡ g t + e t) → (l : List ℕ) → sum f l ≡ sum g l + sum e l
sum_grown f g e h l = ap total (map_members f (λ t. g t + e t) l (λ t i. h t)) ∙ sum_plus g e l

-- ---- a number is among the starts once, if a sequence can start there
count_beyond : (x n : ℕ) → n ≤ x → (l : List ℕ) → T (all (λ t. ltb t n) l) → count (eqb x) l ≡ 0
count_beyond x n h [] k = refl
count_beyond x n h (t ∷ l) k =
    let i = ltb→lt t n (and_left (ltb t n) _ k) in
    ap₂ ◌+◌ (ap one (ne_eqb x t (λ e. omega arith))) (count_beyond x n h l (and_right (ltb t n) _ k))

starts_test : T (all_below 27 (λ x. eqb (count (eqb x) starts) (one (is_start x))))
starts_test = tt

count_starts : (x : ℕ) → count (eqb x) starts ≡ one (is_start x)
count_starts x = go (ltb x 27) refl
  where
    go : (b : Bool) → ltb x 27 ≡ b → count (eqb x) starts ≡ one (is_start x)
    go true e = eqb→eq _ _ (at 27 (λ x. eqb (count (eqb x) starts) (one (is_start x))) starts_test x (ltb-true x 27 e))
    go false e = count_beyond x 27 (ltb-false x 27 e) starts tt ∙ sym (ap (λ (b : Bool). one (b && ltb (x % 9) 7)) e)

sum_starts : (b : Bool) (x : ℕ) → sum (λ t. one (b && eqb x t)) starts ≡ one (b && is_start x)
sum_starts true x = count_starts x
sum_starts false x = sum_zero starts

-- ---- halves
abbrev pub odd : ℕ → Bool
odd n = eqb (n % 2) 1

one_odd : (n : ℕ) → one (odd n) ≡ n % 2
one_odd n = go (odd n) refl
  where
    go : (b : Bool) → odd n ≡ b → one b ≡ n % 2
    go true e = sym (eqb-true (n % 2) 1 e)
    go false e = let f = eqb-false (n % 2) 1 e in omega arith

half_more : (b : Bool) (n : ℕ) → pairs_among (one b + n) ≡ pairs_among n + one (b && odd n)
half_more true n = let e = one_odd n in omega (arith, e)
half_more false n = omega arith

-- ---- a meld more
and_turn : (s o e : Bool) → ((s && e) && o) ≡ ((s && o) && e)
and_turn false o e = refl
and_turn true false true = refl
and_turn true false false = refl
and_turn true true true = refl
and_turn true true false = refl

-- a sequence, from a tile where one can start
abbrev pub starts_run : Meld → Bool
starts_run m = is_sequence m && is_start m.tile

module _ (m : Meld) (ms : List Meld) where
  -- the meld is a sequence, and an odd number of the others start where it does
  abbrev pairs_up : Bool
  pairs_up = is_sequence m && odd (count (run_from m.tile) ms)

  own_start : (t : ℕ) → (run_from t m && odd (count (run_from t) ms)) ≡ (pairs_up && eqb m.tile t)
  own_start t = and_turn (is_sequence m) (odd (count (run_from t) ms)) (eqb t m.tile) ∙ go (ℕ_discrete t m.tile)
    where
      go : Dec (t ≡ m.tile) → ((is_sequence m && odd (count (run_from t) ms)) && eqb t m.tile) ≡ (pairs_up && eqb m.tile t)
      go (yes e) = ap₂ (λ (u : ℕ) (b : Bool). (is_sequence m && odd (count (run_from u) ms)) && b) e (eq-eqb t m.tile e ∙ sym (eq-eqb m.tile t (sym e)))
      go (no f) =
          ap (λ (b : Bool). (is_sequence m && odd (count (run_from t) ms)) && b) (ne_eqb t m.tile f)
          ∙ and-false (is_sequence m && odd (count (run_from t) ms))
          ∙ sym (ap (λ (b : Bool). pairs_up && b) (ne_eqb m.tile t (λ e. f (sym e))) ∙ and-false pairs_up)

  pub peikou_more : peikou (m ∷ ms) ≡ peikou ms + one (starts_run m && odd (count (run_from m.tile) ms))
  unfolding peikou
  peikou_more =
      sum_grown (λ t. pairs_among (count (run_from t) (m ∷ ms))) (λ t. pairs_among (count (run_from t) ms)) (λ t. one (pairs_up && eqb m.tile t))
      (λ t. half_more (run_from t m) (count (run_from t) ms) ∙ ap (λ (b : Bool). pairs_among (count (run_from t) ms) + one b) (own_start t)) starts
      ∙ ap (λ (n : ℕ). sum (λ t. pairs_among (count (run_from t) ms)) starts + n)
      (sum_starts pairs_up m.tile ∙ ap one (sym (and_turn (is_sequence m) (odd (count (run_from m.tile) ms)) (is_start m.tile))))

  -- the same, with another test for it
  more_by : (o : Bool) → o ≡ (starts_run m && odd (count (run_from m.tile) ms)) → peikou (m ∷ ms) ≡ peikou ms + one o
  more_by o e = peikou_more ∙ ap (λ (b : Bool). peikou ms + one b) (sym e)

-- ---- four melds: the same sequence as another one, and odd numbers of them
abbrev pub same_run : Meld → Meld → Bool
same_run a b = starts_run a && run_from a.tile b

abbrev pub xor : Bool → Bool → Bool
xor a b = not (beq a b)

odd_three : (s x y z : Bool) → xor (s && x) (xor (s && y) (s && z)) ≡ (s && odd (one x + (one y + (one z + 0))))
odd_three false x y z = refl
odd_three true true true true = refl
odd_three true true true false = refl
odd_three true true false true = refl
odd_three true true false false = refl
odd_three true false true true = refl
odd_three true false true false = refl
odd_three true false false true = refl
odd_three true false false false = refl

odd_two : (s x y : Bool) → xor (s && x) (s && y) ≡ (s && odd (one x + (one y + 0)))
odd_two false x y = refl
odd_two true true true = refl
odd_two true true false = refl
odd_two true false true = refl
odd_two true false false = refl

odd_one : (s x : Bool) → (s && x) ≡ (s && odd (one x + 0))
odd_one false x = refl
odd_one true true = refl
odd_one true false = refl

peikou_none : peikou [] ≡ 0
unfolding peikou
peikou_none = refl

add_up : (x y z k l m n : ℕ) → n ≡ m + x → m ≡ l + y → l ≡ k + z → k ≡ 0 → x + (y + z) ≡ n
add_up x y z k l m n h i j e = omega arith

of_four :
    (a b c d : Meld)
    → one (xor (same_run a b) (xor (same_run a c) (same_run a d))) + (one (xor (same_run b c) (same_run b d)) + one (same_run c d))
    ≡ peikou (a ∷ b ∷ c ∷ d ∷ [])
of_four a b c d =
    add_up _ _ _ _ _ _ _
    (more_by a (b ∷ c ∷ d ∷ []) _ (odd_three (starts_run a) (run_from a.tile b) (run_from a.tile c) (run_from a.tile d)))
    (more_by b (c ∷ d ∷ []) _ (odd_two (starts_run b) (run_from b.tile c) (run_from b.tile d)))
    (more_by c (d ∷ []) _ (odd_one (starts_run c) (run_from c.tile d)))
    (more_by d [] false (sym (and-false (starts_run d))) ∙ ap (λ (n : ℕ). n + 0) peikou_none)

module _ (l : List Meld) (m : Meld) (size : length l ≡ 4) where
  -- the pairs of four melds
  pub six_comparisons :
      one (xor (same_run (get_or l 0 m) (get_or l 1 m)) (xor (same_run (get_or l 0 m) (get_or l 2 m)) (same_run (get_or l 0 m) (get_or l 3 m))))
      + (one (xor (same_run (get_or l 1 m) (get_or l 2 m)) (same_run (get_or l 1 m) (get_or l 3 m))) + one (same_run (get_or l 2 m) (get_or l 3 m)))
      ≡ peikou l
  six_comparisons = of_four (get_or l 0 m) (get_or l 1 m) (get_or l 2 m) (get_or l 3 m) ∙ ap peikou (sym (four l m size))
