-- The pair of the double wind, and what the room's setting changes. With four a pair has the figure of the scope paper, 2 for each way in which it
-- counts; with two a pair that counts twice has as much as one that counts once. No other pair is touched, and fu under two are those under
-- any other setting, or ten less. Assumes nothing.
use mathlib.Core.Path.{◌≡◌, refl, ap}
use mathlib.Core.Bool.{Bool, true, false, ◌&&◌, not, cond}
use mathlib.Core.List.{List}
use Prim.Native.Nat.{ℕ, ◌+◌, ◌*◌, ◌<◌, ◌≤◌, min}
use native.Mathlib.Omega.{arith}
use native.Mathlib.Decide.{dec_le}
use lib.Dec.{T, eqb, eqb→eq, lit≤}
use borrow.Author.Tests.{ne_eqb, lt-leb, not-true}
use Rattle.lists.specs.Fold.{one, sum}
use Rattle.lists.proofs.Finite.{T→true, true→t, and_left, and_right, one_le, cond_le}
use Rattle.tile.specs.Tile.{is_dragon}
use Rattle.tile.proofs.Tiles.{wind_below}
use Rattle.meld.specs.declared.Meld.{Meld}
use Rattle.context.specs.declared.GameContext.{GameContext}
use Rattle.context.specs.Context.{in_range, is_tsumo, in_room}
use Rattle.context.proofs.Range.{round_in, seat_in}
use Rattle.hand.specs.Reading.{Reading, pairs, orphans, standard}
use Rattle.wait.specs.Wait.{pinfu, weight}
use Rattle.wait.specs.Concealed.{spared}
use Rattle.fu.specs.Fu.{meld_fu, double_wind, double_wind_fu, pair_fu, wait_fu, base_fu, round_up_to10, at_least30, pinfu_fu, standard_fu, fu}

-- ---- how often a pair counts
module _ (w : GameContext) (p : ℕ) where
  -- twice where it is both winds
  pub both_count_twice : T (in_range w) → T (double_wind w p) → weight w p ≡ 2
  both_count_twice range h =
      let round = and_left (eqb p w.round_wind) (eqb p w.seat_wind) h in
      let seat = and_right (eqb p w.round_wind) (eqb p w.seat_wind) h in
      let e = eqb→eq p w.round_wind round in
      let l = wind_below w.round_wind (round_in w range) in
      rw (lt-leb 31 p (omega arith), T→true (eqb p w.round_wind) round, T→true (eqb p w.seat_wind) seat)

  -- and never less often
  both_count : T (double_wind w p) → 2 ≤ weight w p
  both_count h =
      rw (
        T→true (eqb p w.round_wind) (and_left (eqb p w.round_wind) (eqb p w.seat_wind) h),
        T→true (eqb p w.seat_wind) (and_right (eqb p w.round_wind) (eqb p w.seat_wind) h),
      ) (omega arith)

  -- at most twice where it is not, even if a dragon is called a wind
  pub at_most_twice_holds : T (not (double_wind w p)) → weight w p ≤ 2
  at_most_twice_holds h = go (eqb p w.round_wind) (eqb p w.seat_wind) h
    where
      go : (a b : Bool) → T (not (a && b)) → one (is_dragon p) + (one a + one b) ≤ 2
      go true true h = absurd h
      go true false h = let k = one_le (is_dragon p) in omega arith
      go false b h = let k = one_le (is_dragon p) in let l = one_le b in omega arith

  -- and once at most, where winds are winds
  once : T (in_range w) → T (not (double_wind w p)) → weight w p ≤ 1
  once range h = go (dec_le 31 p)
    where
      round : w.round_wind < 31
      round = wind_below w.round_wind (round_in w range)

      seat : w.seat_wind < 31
      seat = wind_below w.seat_wind (seat_in w range)

      wind : (a b : Bool) → T (not (a && b)) → one a + one b ≤ 1
      wind true true h = absurd h
      wind true false h = lit≤ tt
      wind false b h = let k = one_le b in omega arith

      go : Dec (31 ≤ p) → weight w p ≤ 1
      go (yes l) =
          rw (ne_eqb p w.round_wind (λ e. omega (arith, round)), ne_eqb p w.seat_wind (λ e. omega (arith, seat)))
          (let k = one_le (is_dragon p) in omega arith)
      go (no l) = rw (lt-leb 31 p (omega arith)) (let k = wind (eqb p w.round_wind) (eqb p w.seat_wind) h in omega arith)

-- ---- the pair
-- by whether it is the double wind
by_wind :
    (w : GameContext) (p : ℕ) (P : ℕ → Type 0) → (T (double_wind w p) → P (double_wind_fu w)) → (T (not (double_wind w p)) → P (2 * weight w p))
    → P (pair_fu w p)
by_wind w p P yes_both not_both = go (double_wind w p) refl
  where
    go : (b : Bool) → double_wind w p ≡ b → P (cond b (double_wind_fu w) (2 * weight w p))
    go true e = yes_both (true→t _ e)
    go false e = not_both (true→t _ (ap not e))

-- at most 4, whatever the win says
pub pair_fu_le : (w : GameContext) (p : ℕ) → pair_fu w p ≤ 4
pair_fu_le w p =
    by_wind w p (λ (n : ℕ). n ≤ 4) (λ h. cond_le (eqb w.double_wind_fu 2) _ _ 4 (lit≤ tt) (lit≤ tt))
    (λ h. let k = at_most_twice_holds w p h in omega arith)

-- what is answered by a question b that is this one: of both winds what the room gives, of another pair twice how often it counts
pub pair_fu_is :
    (w : GameContext) (p r : ℕ) (b : Bool) → double_wind w p ≡ b → r ≡ cond b (double_wind_fu w) (2 * weight w p) → (r ≡ pair_fu w p) × (r ≤ 4)
pair_fu_is w p r b h e =
    let is : r ≡ pair_fu w p = rw h e in
    (is, (let k = pair_fu_le w p in omega arith))

-- none for a pair that does not count
pub no_pair_fu : (w : GameContext) (p : ℕ) → weight w p ≡ 0 → pair_fu w p ≡ 0
no_pair_fu w p e =
    by_wind w p (λ (n : ℕ). n ≡ 0) (λ h. absurd (let k = both_count w p h in omega arith)) (λ h. omega arith)

module _ (w : GameContext) (range : T (in_range w)) (p : ℕ) where
  -- four: 2 for a pair of dragons, 2 for the round wind, 2 for the seat wind
  pub pair_at_four : w.double_wind_fu ≡ 4 → pair_fu w p ≡ 2 * weight w p
  pair_at_four e =
      by_wind w p (λ (n : ℕ). n ≡ 2 * weight w p)
      (λ h. rw (e, both_count_twice w p range h) refl) (λ h. refl)

  -- two: 2 for a pair that counts, once or twice
  pub pair_at_two : w.double_wind_fu ≡ 2 → pair_fu w p ≡ 2 * min (weight w p) 1
  pair_at_two e =
      by_wind w p (λ (n : ℕ). n ≡ 2 * min (weight w p) 1)
      (λ h. rw (e, both_count_twice w p range h) refl)
      (λ h. let k = once w p range h in omega arith)

module _ (w : GameContext) (p n : ℕ) where
  -- any other pair has the same in every room
  pub other_pair : T (not (double_wind w p)) → pair_fu (in_room n w) p ≡ pair_fu w p
  other_pair h = rw (not-true (double_wind w p) (T→true _ h)) refl

  -- two gives what another setting gives, or 2 less
  pub pair_less : (pair_fu (in_room 2 w) p ≤ pair_fu (in_room n w) p) × (pair_fu (in_room n w) p ≤ pair_fu (in_room 2 w) p + 2)
  pair_less = go (double_wind w p) (eqb n 2)
    where
      go :
          (both two : Bool)
          → (cond both 2 (2 * weight w p) ≤ cond both (cond two 2 4) (2 * weight w p))
          × (cond both (cond two 2 4) (2 * weight w p) ≤ cond both 2 (2 * weight w p) + 2)
      go true true = (lit≤ tt, lit≤ tt)
      go true false = (lit≤ tt, lit≤ tt)
      go false two = (omega arith, omega arith)

-- ---- a reading
-- its pair is the double wind
abbrev pub has_double_wind : GameContext → Reading → Bool
has_double_wind w (pairs ps) = false
has_double_wind w (orphans p) = false
has_double_wind w (standard p ms) = double_wind w p

-- fu of a pair and four melds, by those of the pair
abbrev with_pair : GameContext → Bool → ℕ → List Meld → ℕ → ℕ
with_pair w opened p ms n =
    cond (pinfu w opened (standard p ms)) (pinfu_fu (is_tsumo w))
    (at_least30 opened (round_up_to10 (base_fu w opened + sum (meld_fu w (spared w ms)) ms + n + wait_fu w p ms)))

-- 2 fu more for the pair are as many fu, or ten more
pair_counts :
    (w : GameContext) (opened : Bool) (p : ℕ) (ms : List Meld) (a b : ℕ) → (a ≤ b) × (b ≤ a + 2)
    → (with_pair w opened p ms a ≤ with_pair w opened p ms b) × (with_pair w opened p ms b ≤ with_pair w opened p ms a + 10)
pair_counts w opened p ms a b h =
    go (pinfu w opened (standard p ms)) opened (base_fu w opened + sum (meld_fu w (spared w ms)) ms) (wait_fu w p ms) (pinfu_fu (is_tsumo w))
  where
    go :
        (flat called : Bool) (c d e : ℕ)
        → (cond flat e (at_least30 called (round_up_to10 (c + a + d))) ≤ cond flat e (at_least30 called (round_up_to10 (c + b + d))))
        × (cond flat e (at_least30 called (round_up_to10 (c + b + d))) ≤ cond flat e (at_least30 called (round_up_to10 (c + a + d))) + 10)
    go true called c d e = (omega arith, omega arith)
    go false true c d e = let l = h.0 in let m = h.1 in (omega arith, omega arith)
    go false false c d e = let l = h.0 in let m = h.1 in (omega arith, omega arith)

module _ (w : GameContext) (n : ℕ) (opened : Bool) where
  -- a reading without such a pair has the same fu in every room
  pub fu_any_room : (r : Reading) → T (not (has_double_wind w r)) → fu (in_room n w) opened r ≡ fu w opened r
  unfolding fu standard_fu pinfu
  fu_any_room (pairs ps) h = refl
  fu_any_room (orphans p) h = refl
  fu_any_room (standard p ms) h = ap (with_pair w opened p ms) (other_pair w p n h)

  -- fu under two are at most those under any other setting
  pub fu_two_le : (r : Reading) → fu (in_room 2 w) opened r ≤ fu (in_room n w) opened r
  unfolding fu standard_fu pinfu
  fu_two_le (pairs ps) = lit≤ tt
  fu_two_le (orphans p) = lit≤ tt
  fu_two_le (standard p ms) = (pair_counts w opened p ms (pair_fu (in_room 2 w) p) (pair_fu (in_room n w) p) (pair_less w p n)).0

  -- and ten less at most
  pub fu_two_near : (r : Reading) → fu (in_room n w) opened r ≤ fu (in_room 2 w) opened r + 10
  unfolding fu standard_fu pinfu
  fu_two_near (pairs ps) = lit≤ tt
  fu_two_near (orphans p) = lit≤ tt
  fu_two_near (standard p ms) = (pair_counts w opened p ms (pair_fu (in_room 2 w) p) (pair_fu (in_room n w) p) (pair_less w p n)).1
