-- Counting tiles, up to 255 of a kind. Assumes nothing.
use mathlib.Core.Path.{◌≡◌, sym, ap, ◌∙◌}
use mathlib.Core.List.{List}
use Prim.Native.Nat.{ℕ, ◌+◌, ◌<◌, ◌≤◌}
use native.Mathlib.Omega.{arith}
use lib.Dec.{eqb}
use lib.ListN.{length, drop, set}
use Rattle.lists.specs.Fold.{one, count}
use Rattle.tile_words.specs.Words.{read_at, tiles_from, add_to, char_before}
use Rattle.tile_words.proofs.Places.{count_here, count_end}
use mathlib.Core.Bool.{cond}
use native.Mathlib.Decide.{ℕ_discrete}
use borrow.Author.Tests.{eq-eqb, ne_eqb}
use Rattle.hand.specs.Counts.{held}
use Rattle.checks.proofs.Added.{more}

-- nothing more
pub add_zero : (n : ℕ) → n ≡ add_to n 0
add_zero n = omega arith

-- some, and then some more
pub add_both : (n a b : ℕ) → add_to (add_to n a) b ≡ add_to n (a + b)
add_both n a b = omega arith

-- from nothing, a number that is small
pub add_few : (n m : ℕ) → add_to 0 n ≡ m → m ≤ 4 → n ≡ m
add_few n m e h = omega arith

-- and back
pub few_added : (n m : ℕ) → n ≡ m → m ≤ 4 → add_to 0 n ≡ m
few_added n m e h = omega arith

other : (cs : List ℕ) (t u : ℕ) → (u ≡ t → ⊥) → held cs u ≡ add_to (held cs u) (one (eqb u t))
other cs t u f = rw (ne_eqb u t f) (add_zero (held cs u))

-- a tile that is none
pub add_none : (cs : List ℕ) (t u : ℕ) → 34 ≤ t → u < 34 → held cs u ≡ add_to (held cs u) (one (eqb u t))
add_none cs t u h k = other cs t u (λ e. omega arith)

-- a tile of which there are 255
pub add_full : (cs : List ℕ) (t u : ℕ) → 255 ≤ held cs t → held cs u ≡ add_to (held cs u) (one (eqb u t))
add_full cs t u h = go (ℕ_discrete u t)
  where
    go : Dec (u ≡ t) → held cs u ≡ add_to (held cs u) (one (eqb u t))
    go (yes e) = let k = ap (held cs) e in rw (eq-eqb u t e) (omega arith)
    go (no f) = other cs t u f

-- any other tile
pub add_next : (cs : List ℕ) (t u : ℕ) → t < length cs → held cs t < 255 → held (set cs t (held cs t + 1)) u ≡ add_to (held cs u) (one (eqb u t))
add_next cs t u h k = more cs t 1 u h ∙ go (ℕ_discrete u t)
  where
    go : Dec (u ≡ t) → held cs u + cond (eqb u t) 1 0 ≡ add_to (held cs u) (one (eqb u t))
    go (yes e) = let j = ap (held cs) e in rw (eq-eqb u t e) (omega arith)
    go (no f) = rw (ne_eqb u t f) (omega arith)

-- ---- the tiles of a word, one place after the other
-- m is n with the tile of this place
pub add_turn :
    (w : List ℕ) (i : ℕ) → i < length w → (u n m : ℕ) → m ≡ add_to n (one (eqb u (read_at (char_before w i) (drop i w))))
    → add_to m (count (eqb u) (tiles_from (char_before w (i + 1)) (drop (i + 1) w))) ≡ add_to n (count (eqb u) (tiles_from (char_before w i) (drop i w)))
add_turn w i h u n m e =
    ap (λ (k : ℕ). add_to k (count (eqb u) (tiles_from (char_before w (i + 1)) (drop (i + 1) w)))) e
    ∙ add_both n (one (eqb u (read_at (char_before w i) (drop i w)))) (count (eqb u) (tiles_from (char_before w (i + 1)) (drop (i + 1) w)))
    ∙ ap (add_to n) (sym (count_here w i h (char_before w i) (eqb u)))

pub add_end : (w : List ℕ) (i : ℕ) → length w ≤ i → (b u n : ℕ) → n ≡ add_to n (count (eqb u) (tiles_from b (drop i w)))
add_end w i h b u n = add_zero n ∙ ap (add_to n) (sym (count_end w i h b (eqb u)))
