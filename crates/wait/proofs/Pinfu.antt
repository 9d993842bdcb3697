-- What Pinfu means, in a player's words, and that nothing else is asked. Assumes nothing.
use mathlib.Core.Path.{◌≡◌, refl, ap}
use mathlib.Core.Bool.{Bool, true, false, ◌||◌, not}
use mathlib.Core.List.{List, [], ◌∷◌, Memᴰ}
use Prim.Native.Nat.{ℕ, ◌+◌, ◌≤◌}
use native.Mathlib.Omega.{arith}
use borrow.Author.Tests.{eq-eqb, not-true}
use lib.Dec.{T, eqb, leb, eqb→eq, leb→le, ltb→lt}
use lib.ListN.{get_or}
use Rattle.lists.specs.Fold.{all, any, count, one}
use Rattle.lists.proofs.Finite.{and_left, and_right, and_both, or_elim, T→true, true→t, ¬T→false}
use Rattle.lists.proofs.Members.{all_mem, all_intro}
use Rattle.tile.specs.Tile.{is_dragon}
use Rattle.meld.specs.declared.Meld.{Meld}
use Rattle.meld.specs.Meld.{is_meld, is_sequence, is_triplet_or_kan}
use Rattle.meld.proofs.Melds.{melds_at_holds}
use Rattle.context.specs.declared.GameContext.{GameContext}
use Rattle.hand.specs.Reading.{standard}
use Rattle.wait.specs.Wait.{closed_run, two_sided, waits, weight, pinfu}

-- ---- a pair of no value: no dragon, not the round wind, not the seat wind
pub record NoValue (w : GameContext) (t : ℕ) : Type 0 where
  pub no_dragon : T (is_dragon t) → ⊥
  pub not_round : t ≡ w.round_wind → ⊥
  pub not_seat : t ≡ w.seat_wind → ⊥

one_no : (b : Bool) → one b ≡ 0 → T b → ⊥
one_no true e t = omega arith
one_no false e t = t

no_one : (b : Bool) → (T b → ⊥) → one b ≡ 0
no_one b f = ap one (¬T→false b f)

pub no_value : (w : GameContext) (t : ℕ) → weight w t ≡ 0 → NoValue w t
no_value w t e =
    let dragon : one (is_dragon t) ≡ 0 = omega arith in
    let round : one (eqb t w.round_wind) ≡ 0 = omega arith in
    let seat : one (eqb t w.seat_wind) ≡ 0 = omega arith in
    record {
      no_dragon = one_no (is_dragon t) dragon;
      not_round = λ q. one_no (eqb t w.round_wind) round (true→t _ (eq-eqb t w.round_wind q));
      not_seat = λ q. one_no (eqb t w.seat_wind) seat (true→t _ (eq-eqb t w.seat_wind q));
    }

pub value_no : (w : GameContext) (t : ℕ) → NoValue w t → weight w t ≡ 0
value_no w t n =
    let dragon = no_one (is_dragon t) n.no_dragon in
    let round = no_one (eqb t w.round_wind) (λ i. n.not_round (eqb→eq t w.round_wind i)) in
    let seat = no_one (eqb t w.seat_wind) (λ i. n.not_seat (eqb→eq t w.seat_wind i)) in
    omega arith

-- ---- some of a list pass a test where their count is not 0
pub any_counted : {A : Type 0} (p : A → Bool) (l : List A) → T (any p l) → 1 ≤ count p l
any_counted p [] t = absurd t
any_counted p (a ∷ l) t = go (p a) (any_counted p l) t
  where
    go : (b : Bool) → (T (any p l) → 1 ≤ count p l) → T (b || any p l) → 1 ≤ one b + count p l
    go true f t = omega arith
    go false f t = let h = f t in omega arith

pub counted_any : {A : Type 0} (p : A → Bool) (l : List A) → 1 ≤ count p l → T (any p l)
counted_any p [] h = absurd (omega arith)
counted_any p (a ∷ l) h = go (p a) (counted_any p l) h
  where
    go : (b : Bool) → (1 ≤ count p l → T (any p l)) → 1 ≤ one b + count p l → T (b || any p l)
    go true f h = tt
    go false f h = f (omega arith)

-- ---- Pinfu
-- a closed hand without a triplet or a kan, a pair of no value, and Ryanmen is tallied
pub record Pinfu (w : GameContext) (opened : Bool) (p : ℕ) (ms : List Meld) : Type 0 where
  pub closed : opened ≡ false
  pub no_triplet : (m : Meld) → Memᴰ m ms → T (is_triplet_or_kan m) → ⊥
  pub without_value : NoValue w p
  pub ryanmen : 1 ≤ get_or (waits w.winning_tile (standard p ms)) 0 0

sequence_no_set : (m : Meld) → T (is_sequence m) → T (is_triplet_or_kan m) → ⊥
sequence_no_set m s t =
    let h = ltb→lt m.kind 2 s in
    let k = leb→le 2 m.kind (and_left (leb 2 m.kind) _ t) in
    omega arith

no_set_sequence : (m : Meld) → T (is_meld m) → (T (is_triplet_or_kan m) → ⊥) → T (is_sequence m)
no_set_sequence m v f =
    or_elim (is_sequence m) (is_triplet_or_kan m) (melds_at_holds (λ m. is_sequence m || is_triplet_or_kan m) (λ m. refl) tt m v) (λ s. s) (λ t. absurd (f t))

module _ (w : GameContext) (opened : Bool) (p : ℕ) (ms : List Meld) where
  pub pinfu_means : T (pinfu w opened (standard p ms)) → Pinfu w opened p ms
  unfolding pinfu waits
  pinfu_means t =
      let rest = and_right (not opened) _ t in
      let last = and_right (all is_sequence ms) _ rest in
      record {
        closed = not-true opened (T→true (not opened) (and_left (not opened) _ t));
        no_triplet = λ m i. sequence_no_set m (all_mem is_sequence (and_left (all is_sequence ms) _ rest) i);
        without_value = no_value w p (eqb→eq (weight w p) 0 (and_left (eqb (weight w p) 0) _ last));
        ryanmen = any_counted (closed_run two_sided w.winning_tile) ms (and_right (eqb (weight w p) 0) _ last);
      }

  pub means_pinfu : T (all is_meld ms) → Pinfu w opened p ms → T (pinfu w opened (standard p ms))
  unfolding pinfu waits
  means_pinfu v h =
      and_both (not opened) _ (true→t (not opened) (ap not h.closed))
      (and_both (all is_sequence ms) _ (all_intro is_sequence ms (λ m i. no_set_sequence m (all_mem is_meld v i) (h.no_triplet m i)))
      (and_both (eqb (weight w p) 0) _ (true→t (eqb (weight w p) 0) (eq-eqb (weight w p) 0 (value_no w p h.without_value)))
      (counted_any (closed_run two_sided w.winning_tile) ms h.ryanmen)))
