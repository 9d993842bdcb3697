-- The lowest of a call's tiles is the call's own. Assumes nothing.
use mathlib.Core.Path.{◌≡◌, refl, ap}
use mathlib.Core.Bool.{Bool, true, false, cond}
use mathlib.Core.List.{List}
use Prim.Native.Nat.{ℕ, ◌<◌, ◌≤◌, ◌+◌}
use native.Mathlib.Omega.{arith}
use lib.Dec.{eqb, ltb, eqb→eq}
use borrow.Author.Tests.{eq-eqb, ne_eqb, ltb-true, ltb-false}
use lib.ListN.{length}
use Rattle.std.specs.Prelude.{Option, Some, None}
use Rattle.std.specs.Option.{MatchOption}
use Rattle.std.specs.List.{AllWithin, HoldsAt}
use Rattle.lists.proofs.Finite.{true→t, and_left}
use Rattle.meld.specs.declared.Meld.{Meld}
use Rattle.meld.specs.Meld.{is_sequence, is_kan, is_meld, is_call, run_uses, set_size, uses}
use Rattle.meld.proofs.Melds.{meld_tile}
use Rattle.hand.specs.Counts.{held}
use Rattle.hand.proofs.Lowest.{run_in, run_before}
use Rattle.checks.proofs.Turns.{test_at}
use Rattle.call_words.specs.Calls.{made_of, Lowest, IsLowest}
use native.Mathlib.Decide.{ℕ_discrete}

-- ---- tile by tile: none of those below u is there
abbrev pub Clear : List ℕ → ℕ → Type 0
Clear cs u = (t : ℕ) → t < u → held cs t ≡ 0

pub clear_next : (cs : List ℕ) (u : ℕ) → held cs u ≤ 0 → Clear cs u → Clear cs (u + 1)
clear_next cs u z f t h = go (ℕ_discrete t u)
  where
    go : Dec (t ≡ u) → held cs t ≡ 0
    go (yes e) = let k = ap (held cs) e in omega arith
    go (no n) = f t (omega arith)

-- ---- the first count above 0 is that of the lowest tile
pub first_is_lowest :
    (cs : List ℕ) (r : Option ℕ) → length cs ≡ 34
    → MatchOption r (AllWithin (λ n. n ≡ 0) cs 0 (length cs))
    (λ i. (i < length cs) × HoldsAt (λ n. 0 < n) cs i × AllWithin (λ n. n ≡ 0) cs 0 i)
    → IsLowest cs r
first_is_lowest cs None long h = λ t k. h t 0 (omega arith) (omega arith)
first_is_lowest cs (Some r) long h = record { tile = omega arith; there = h.1 0; below = λ t k. h.2 t 0 (omega arith) k }

-- ---- a meld holds its own tile, and none below
own_tile : (m : Meld) → 0 < uses m m.tile
own_tile m = go (is_sequence m)
  where
    size : (kan : Bool) → 0 < set_size kan
    size true = omega arith
    size false = omega arith

    go : (b : Bool) → 0 < cond b (run_uses m.tile m.tile) (cond (eqb m.tile m.tile) (set_size (is_kan m)) 0)
    go true = let h = run_in m.tile m.tile (omega arith) (omega arith) in omega arith
    go false = rw (eq-eqb m.tile m.tile refl) (size (is_kan m))

none_below : (m : Meld) (t : ℕ) → t < m.tile → uses m t ≡ 0
none_below m t h = go (is_sequence m)
  where
    go : (b : Bool) → cond b (run_uses m.tile t) (cond (eqb t m.tile) (set_size (is_kan m)) 0) ≡ 0
    go true = run_before m.tile t h
    go false = rw (ne_eqb t m.tile (λ e. omega arith)) refl

-- ---- the counts are those of the meld
pub made : (m : Meld) (cs : List ℕ) → made_of m cs ≡ true → (t : ℕ) → t < 34 → held cs t ≡ uses m t
made m cs e t h =
    eqb→eq (held cs t) (uses m t) (test_at (λ u. eqb (held cs u) (uses m u)) 34 0 (true→t (made_of m cs) e) t (omega arith) (omega arith))

module _ (m : Meld) (cs : List ℕ) (call : is_call m ≡ true) (same : made_of m cs ≡ true) where
  in_tiles : m.tile < 34
  in_tiles = meld_tile m (and_left (is_meld m) _ (true→t (is_call m) call))

  -- its tile is there, so some tile is, and the lowest is not above it
  pub some_there : IsLowest cs None → ⊥
  some_there none = let a = own_tile m in let b = made m cs same m.tile in_tiles in let z = none m.tile in_tiles in omega arith

  module _ (r : ℕ) (low : Lowest cs r) where
    not_above : m.tile < r → ⊥
    not_above h =
        let a = own_tile m in
        let b = made m cs same m.tile in_tiles in
        let z = low.below m.tile h in
        omega arith

    -- none below its tile is there
    not_below : r < m.tile → ⊥
    not_below h =
        let t = low.tile in
        let a = none_below m r h in
        let b = made m cs same r t in
        let z = low.there in
        omega arith

    pub lowest_own : m.tile ≡ r
    lowest_own = go (ltb m.tile r) (ltb r m.tile) (ltb-true m.tile r) (ltb-false m.tile r) (ltb-true r m.tile) (ltb-false r m.tile)
      where
        go : (a b : Bool) → (a ≡ true → m.tile < r) → (a ≡ false → r ≤ m.tile) → (b ≡ true → r < m.tile) → (b ≡ false → m.tile ≤ r) → m.tile ≡ r
        go true b f g h k = absurd (not_above (f refl))
        go false true f g h k = absurd (not_below (h refl))
        go false false f g h k = let x = g refl in let y = k refl in omega arith
