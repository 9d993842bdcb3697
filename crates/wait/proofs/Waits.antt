-- Open melds and kans give no wait; a wait is counted at most once for each of the four melds; and an honor counts at most three
-- times. Assumes nothing.
use mathlib.Core.Path.{◌≡◌, subst, ap}
use mathlib.Core.Bool.{Bool, false, ◌&&◌}
use mathlib.Core.List.{List, Memᴰ}
use Prim.Native.Nat.{ℕ, ◌≤◌}
use native.Mathlib.Omega.{arith}
use borrow.Author.Tests.{ne_eqb}
use lib.Dec.{T, eqb, leb, leb→le, le→leb}
use lib.ListN.{length}
use Rattle.lists.specs.Fold.{all, count, one}
use Rattle.lists.proofs.Finite.{and_both, one_le}
use Rattle.lists.proofs.Members.{all_mem}
use Rattle.lists.proofs.Sums.{count_le}
use Rattle.tile.specs.Tile.{is_dragon}
use Rattle.context.specs.declared.GameContext.{GameContext}
use Rattle.meld.specs.declared.Meld.{Meld}
use Rattle.meld.specs.Meld.{is_open, is_kan, meld_from}
use Rattle.hand.specs.Reading.{standard}
use Rattle.wait.specs.Wait.{closed_run, closed_triplet, two_sided, middle, edge, waits, weight}

-- ---- open melds and kans
-- a kind that passes a test is not one that fails it
other_kind : (p : Meld → Bool) (m : Meld) (k : ℕ) → T (p m) → (T (p (meld_from m.tile k m.source)) → ⊥) → eqb m.kind k ≡ false
other_kind p m k t f = ne_eqb m.kind k (λ e. f (subst (λ (n : ℕ). T (p (meld_from m.tile n m.source))) e t))

pub open_no_wait : (q : ℕ → ℕ → Bool) (t : ℕ) (m : Meld) → T (is_open m) → closed_run q t m ≡ false
open_no_wait q t m o = ap (λ (b : Bool). b && q t m.tile) (other_kind is_open m 0 o (λ x. x))

pub open_no_shanpon : (t : ℕ) (m : Meld) → T (is_open m) → closed_triplet t m ≡ false
open_no_shanpon t m o = ap (λ (b : Bool). b && eqb t m.tile) (other_kind is_open m 2 o (λ x. x))

pub kan_no_wait : (q : ℕ → ℕ → Bool) (t : ℕ) (m : Meld) → T (is_kan m) → closed_run q t m ≡ false
kan_no_wait q t m o = ap (λ (b : Bool). b && q t m.tile) (other_kind is_kan m 0 o (λ x. x))

pub kan_no_shanpon : (t : ℕ) (m : Meld) → T (is_kan m) → closed_triplet t m ≡ false
kan_no_shanpon t m o = ap (λ (b : Bool). b && eqb t m.tile) (other_kind is_kan m 2 o (λ x. x))

-- ---- tallies
module _ (t p : ℕ) (ms : List Meld) (four : length ms ≡ 4) where
  counted : (q : Meld → Bool) → T (leb (count q ms) 4)
  counted q = le→leb (count q ms) 4 (omega (arith, count_le q ms))

  small : T (all (λ n. leb n 4) (waits t (standard p ms)))
  unfolding waits
  small =
      and_both (leb (count (closed_run two_sided t) ms) 4) _ (counted (closed_run two_sided t))
      (and_both (leb (count (closed_run middle t) ms) 4) _ (counted (closed_run middle t))
      (and_both (leb (count (closed_run edge t) ms) 4) _ (counted (closed_run edge t))
      (and_both (leb (count (closed_triplet t) ms) 4) _ (counted (closed_triplet t))
      (and_both (leb (one (eqb t p)) 4) _ (le→leb (one (eqb t p)) 4 (omega (arith, one_le (eqb t p)))) tt))))

  pub tally_le : (n : ℕ) → Memᴰ n (waits t (standard p ms)) → n ≤ 4
  tally_le n i = leb→le n 4 (all_mem (λ n. leb n 4) small i)

-- ---- a dragon, the round wind and the seat wind count once each
pub weight_le : (w : GameContext) (t : ℕ) → weight w t ≤ 3
weight_le w t =
    let dragon = one_le (is_dragon t) in
    let round = one_le (eqb t w.round_wind) in
    let seat = one_le (eqb t w.seat_wind) in
    omega arith
