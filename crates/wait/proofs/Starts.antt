-- A question of a tile and a closed sequence, asked of the number 256 × kind + tile: for a closed sequence that is its first tile, and for any other
-- meld it is above every tile. Assumes nothing.
use mathlib.Core.Path.{◌≡◌, refl, ap}
use mathlib.Core.Bool.{Bool, true, false, ◌&&◌}
use Prim.Native.Nat.{ℕ, ◌+◌, ◌*◌, ◌%◌, ◌<◌}
use native.Mathlib.Omega.{arith}
use borrow.Author.Tests.{eq-eqb, ne_eqb, eqb-true, eqb-false, lt-leb}
use lib.Dec.{eqb, eqb→eq}
use Rattle.lists.proofs.Finite.{and_cong, T-eq, true→t}
use Rattle.meld.specs.declared.Meld.{Meld}
use Rattle.wait.specs.Wait.{within, two_sided, edge, middle, closed_run}

abbrev pub closed_start : Meld → ℕ
closed_start m = m.kind * 256 + m.tile

-- ---- the tile t and the sequence that starts at s: the number of t in its suit, in place of that of s
-- t is the first tile
pub at_first : (p : ℕ → Bool) (t s : ℕ) → (eqb t s && p (t % 9)) ≡ (eqb t s && p (s % 9))
at_first p t s = and_cong (eqb t s) (λ i. ap (λ (n : ℕ). p (n % 9)) (eqb→eq t s i))

-- the last tile is a 3 where the first is a 1
three_last : (t s : ℕ) → t ≡ s + 2 → eqb (t % 9) 2 ≡ eqb (s % 9) 0
three_last t s e =
    T-eq (eqb (t % 9) 2) (eqb (s % 9) 0)
    (λ i. let h = eqb→eq (t % 9) 2 i in true→t (eqb (s % 9) 0) (eq-eqb (s % 9) 0 (omega arith)))
    (λ i. let h = eqb→eq (s % 9) 0 i in true→t (eqb (t % 9) 2) (eq-eqb (t % 9) 2 (omega arith)))

-- t is the last tile
pub at_last : (p : Bool → Bool) (t s : ℕ) → (eqb t (s + 2) && p (eqb (t % 9) 2)) ≡ (eqb t (s + 2) && p (eqb (s % 9) 0))
at_last p t s = and_cong (eqb t (s + 2)) (λ i. ap p (three_last t s (eqb→eq t (s + 2) i)))

-- ---- a question that is answered no wherever the sequence starts above the tile
by_kind :
    (q : ℕ → ℕ → Bool) (t : ℕ) (m : Meld) → t < 256 → ((s : ℕ) → t < s → q t s ≡ false)
    → (b : Bool) → eqb m.kind 0 ≡ b → q t (closed_start m) ≡ (b && q t m.tile)
by_kind q t m h no_above true e = let z = eqb-true m.kind 0 e in ap (q t) (omega arith)
by_kind q t m h no_above false e = let z = eqb-false m.kind 0 e in no_above (closed_start m) (omega arith)

closed_at :
    (q : ℕ → ℕ → Bool) → ((t s : ℕ) → t < s → q t s ≡ false) → (t : ℕ) (m : Meld) → t < 256 → q t (closed_start m) ≡ closed_run q t m
closed_at q no_above t m h = by_kind q t m h (no_above t) (eqb m.kind 0) refl

lower : (t s : ℕ) → t < s → eqb t s ≡ false
lower t s h = ne_eqb t s (λ e. omega arith)

pub closed_within : (t : ℕ) (m : Meld) → t < 256 → within t (closed_start m) ≡ closed_run within t m
closed_within = closed_at within (λ t s h. simp (lt-leb s t h))

pub closed_middle : (t : ℕ) (m : Meld) → t < 256 → middle t (closed_start m) ≡ closed_run middle t m
closed_middle = closed_at middle (λ t s h. lower t (s + 1) (omega arith))

pub closed_two_sided_holds : (t : ℕ) (m : Meld) → t < 256 → two_sided t (closed_start m) ≡ closed_run two_sided t m
closed_two_sided_holds = closed_at two_sided (λ t s h. simp (lower t s h, lower t (s + 2) (omega arith)))

pub closed_edge : (t : ℕ) (m : Meld) → t < 256 → edge t (closed_start m) ≡ closed_run edge t m
closed_edge = closed_at edge (λ t s h. simp (lower t s h, lower t (s + 2) (omega arith)))
