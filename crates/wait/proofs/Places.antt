-- What the waits within a sequence mean: which tiles would have served besides; that each meld that the tile can have completed is tallied once;
-- and that a tile of the hand is a wait of every reading. Assumes nothing.
use mathlib.Core.Path.{◌≡◌, refl, sym, ap, ◌∙◌}
use mathlib.Core.Bool.{Bool, true, false, ◌&&◌, ◌||◌, not, cond, beq}
use mathlib.Core.List.{List, [], ◌∷◌, ◌++◌, Permᴰ}
use Prim.Native.Nat.{ℕ, zero, suc, ◌+◌, ◌<◌, ◌≤◌}
use native.Mathlib.Omega.{arith}
use borrow.Author.Tests.{le-leb}
use lib.Dec.{T, eqb, leb, eqb→eq}
use Rattle.lists.specs.Fold.{all, all_below, any, count, one, sum, total}
use Rattle.lists.proofs.Finite.{and_left, and_right, at, beq→eq, or_skip}
use Rattle.lists.proofs.Members.{all_mem, all_intro, all_append, perm_mem, perm_eq}
use Rattle.lists.proofs.Permuted.{total_perm, map_perm}
use Rattle.lists.proofs.Sums.{sum_append}
use Rattle.tile.specs.Tile.{is_start, tiles}
use Rattle.meld.specs.declared.Meld.{Meld}
use Rattle.meld.specs.Meld.{is_meld, is_hand_meld, uses, but_source}
use Rattle.meld.proofs.Melds.{all_melds, melds_at_holds, closed_melds, sorted_perm}
use Rattle.meld.proofs.Sorts.{but_hand}
use Rattle.hand.specs.Reading.{AdmitsStandard, standard}
use Rattle.wait.specs.Wait.{within, two_sided, edge, middle, closed_run, closed_triplet, waits}

-- the two tiles of the sequence from s besides t stand in the sequence from r too
abbrev pub serves_too : ℕ → ℕ → ℕ → Bool
serves_too t s r = is_start r && all (λ u. eqb u t || within u r) (s ∷ (s + 1) ∷ (s + 2) ∷ [])

-- they stand in another sequence than that from s, so that another tile would have served
abbrev pub other_serves : ℕ → ℕ → Bool
other_serves t s = any (λ r. not (eqb r s) && serves_too t s r) tiles

-- they are neighbours
abbrev pub neighbours : ℕ → ℕ → Bool
neighbours t s = eqb t s || eqb t (s + 2)

-- ---- a test at each tile t of each sequence, from s
abbrev at_places : (ℕ → ℕ → Bool) → Bool
at_places q = all_below 34 (λ s. not (is_start s) || all_below 34 (λ t. not (within t s) || q t s))

-- how a question of a tile within a sequence is answered
abbrev Place : (ℕ → ℕ → Bool) → (ℕ → ℕ → Bool) → Type 0
Place p q = (t s : ℕ) → t < 34 → s < 34 → T (is_start s) → T (within t s) → p t s ≡ q t s

by_place : (p q : ℕ → ℕ → Bool) → T (at_places (λ t s. beq (p t s) (q t s))) → Place p q
by_place p q ok t s h k i j =
    beq→eq (p t s) (q t s)
    (or_skip (within t s) _ j
    (at 34 (λ t. not (within t s) || beq (p t s) (q t s))
    (or_skip (is_start s) _ i
    (at 34 (λ s. not (is_start s) || all_below 34 (λ t. not (within t s) || beq (p t s) (q t s))) ok s k))
    t h))

-- Ryanmen: the two other tiles wait for another tile too
pub ryanmen_means : Place two_sided other_serves
ryanmen_means = by_place two_sided other_serves tt

-- Kanchan: the two other tiles are no neighbours
pub kanchan_means : Place middle (λ t s. not (neighbours t s))
kanchan_means = by_place middle (λ t s. not (neighbours t s)) tt

-- Penchan: they are, and still wait for this tile alone
pub penchan_means : Place edge (λ t s. neighbours t s && not (other_serves t s))
penchan_means = by_place edge (λ t s. neighbours t s && not (other_serves t s)) tt

-- ---- a closed sequence or triplet that has the tile is completed by exactly one of four waits, any other meld by none
abbrev pub waits_in : ℕ → Meld → ℕ
waits_in t m = one (closed_run two_sided t m) + (one (closed_run middle t m) + (one (closed_run edge t m) + one (closed_triplet t m)))

abbrev pub completed : ℕ → Meld → Bool
completed t m = is_hand_meld m && leb 1 (uses m t)

pub completed_but : (t : ℕ) (m : Meld) → T (is_meld m) → completed t m ≡ completed t (but_source m)
completed_but t m v = ap (λ (b : Bool). b && leb 1 (uses m t)) (but_hand m v)

one_wait_test : T (all_melds (λ m. all_below 34 (λ t. eqb (waits_in t m) (one (completed t m)))))
one_wait_test = tt

pub one_wait : (t : ℕ) (m : Meld) → t < 34 → T (is_meld m) → waits_in t m ≡ one (completed t m)
one_wait t m h v =
    eqb→eq (waits_in t m) _
    (at 34 (λ t. eqb (waits_in t m) (one (completed t (but_source m))))
    (melds_at_holds (λ m. all_below 34 (λ t. eqb (waits_in t m) (one (completed t (but_source m))))) (λ m. refl) one_wait_test m v) t h)
    ∙ ap one (sym (completed_but t m v))

-- so the tallies together count the melds that the tile can have completed, and the pair
pub waits_total :
    (t p : ℕ) (ms : List Meld) → t < 34 → T (all is_meld ms)
    → total (waits t (standard p ms)) ≡ count (completed t) ms + one (eqb t p)
unfolding waits
waits_total t p [] h v = omega arith
waits_total t p (m ∷ ms) h v =
    omega (arith, one_wait t m h (and_left (is_meld m) _ v), waits_total t p ms h (and_right (is_meld m) _ v))

-- ---- a tile of the hand has completed something: each reading that the tiles admit has a wait on it
used_completed : (t : ℕ) (l : List Meld) → T (all is_hand_meld l) → 1 ≤ sum (λ m. uses m t) l → 1 ≤ count (completed t) l
used_completed t [] v h = absurd (omega arith)
used_completed t (m ∷ l) v h = go (uses m t) (is_hand_meld m) (and_left (is_hand_meld m) _ v) (used_completed t l (and_right (is_hand_meld m) _ v)) h
  where
    go :
        (n : ℕ) (b : Bool) → T b → (1 ≤ sum (λ m. uses m t) l → 1 ≤ count (completed t) l) → 1 ≤ n + sum (λ m. uses m t) l
        → 1 ≤ one (b && leb 1 n) + count (completed t) l
    go zero b i r h = let k = r (omega arith) in omega arith
    go (suc n) true i r h = let e = ap one (le-leb 1 (suc n) (omega arith)) in omega arith
    go (suc n) false i r h = absurd i

pub some_wait :
    {c : ℕ → ℕ} {k : List Meld} {p : ℕ} {ms : List Meld} → T (all is_meld k) → AdmitsStandard c k p ms
    → (t : ℕ) → t < 34 → 1 ≤ c t → 1 ≤ total (waits t (standard p ms))
some_wait {c} {k} {p} {ms} v a t h held =
    finish (eqb t p) (c t) (sum (λ m. uses m t) a.hand) (count (completed t) a.hand) (count (completed t) ms) (total (waits t (standard p ms)))
    (a.exact t h) held (used_completed t a.hand a.closed)
    (omega (arith, total_perm (map_perm (λ m. one (completed t m)) melded), sum_append (λ m. one (completed t m)) k a.hand))
    (waits_total t p ms h (all_intro is_meld ms (λ m i. all_mem is_meld valid (perm_mem melded i))))
  where
    valid : T (all is_meld (k ++ a.hand))
    valid = all_append is_meld k a.hand v (closed_melds a.hand a.closed)

    melded : Permᴰ ms (k ++ a.hand)
    melded = Permᴰ.trans (perm_eq a.whole) (sorted_perm (k ++ a.hand) valid)

    finish :
        (pair : Bool) (ct used some all tallied : ℕ) → ct ≡ cond pair 2 0 + used → 1 ≤ ct → (1 ≤ used → 1 ≤ some) → some ≤ all
        → tallied ≡ all + one pair → 1 ≤ tallied
    finish true ct used some all tallied e g f l q = omega arith
    finish false ct used some all tallied e g f l q = let k = f (omega arith) in omega arith
