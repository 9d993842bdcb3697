-- The number that refuses a hand: that of the first check that fails, in the words of the scope paper. Assumes nothing.
use mathlib.Core.Path.{◌≡◌, refl, subst}
use mathlib.Core.Logic.{◌↔◌}
use mathlib.Core.Bool.{Bool, true, false, ◌&&◌, ◌||◌, not, beq}
use mathlib.Core.List.{List, Memᴰ}
use Prim.Native.Nat.{ℕ, ◌<◌, ◌≤◌}
use native.Mathlib.Decide.{ℕ_discrete}
use native.Mathlib.Omega.{arith}
use lib.Dec.{T, eqb, leb, ltb, eqb→eq, leb→le, le→leb, ltb→lt, lt→ltb, eqb_refl}
use borrow.Author.Tests.{eq-eqb, eqb-true, eqb-false, leb-true, leb-false, lt-ltb}
use Rattle.lists.specs.Fold.{all, all_below, any}
use Rattle.lists.specs.Refusals.{Answers}
use Rattle.lists.proofs.Arranged.{any_mem, any_in}
use Rattle.lists.proofs.Finite.{and_left, and_right, and_both, or_elim, or_left, or_right, or_skip, at, beq→eq, true→t}
use Rattle.lists.proofs.Members.{all_mem, all_intro}
use Rattle.tile.specs.Tile.{tiles, value_of}
use Rattle.tile.proofs.Tiles.{in_tiles, tile_lt}
use Rattle.rules.specs.Rules.{Game, most}
use Rattle.meld.specs.declared.Meld.{Meld}
use Rattle.meld.specs.Meld.{is_sequence, is_call, is_meld, meld_from}
use Rattle.meld.proofs.Melds.{meld_kind, meld_tile, meld_source}
use Rattle.hand.specs.Counts.{held}
use Rattle.checks.specs.declared.Calls.{Calls}
use Rattle.checks.specs.Checks.{called, together, in_wall, is_played, is_call_in, hand_check_in}
use Rattle.checks.specs.Refusals.{call_kinds, Callable, hand_checks}
use Rattle.checks.proofs.InOrder.{next_check, exactly}
use Rattle.checks.proofs.Played.{wall_each, each_wall}

-- ---- the calls: the test of a meld, for each source, kind and tile
abbrev from_one_to_seven : ℕ → Bool
from_one_to_seven t = leb 1 (value_of t) && leb (value_of t) 7

abbrev seat_test : ℕ → ℕ → Bool
seat_test kind s = (not (eqb kind 4) || eqb s 0) && ((eqb kind 4 || (leb 1 s && leb s 3)) && (not (eqb kind 1) || eqb s 3))

abbrev call_test : ℕ → ℕ → ℕ → Bool
call_test s kind t = any (eqb kind) call_kinds && ((not (eqb kind 1) || from_one_to_seven t) && seat_test kind s)

call_test_holds : T (all_below 4 (λ s. all_below 7 (λ kind. all_below 34 (λ t. beq (is_call (meld_from t kind s)) (call_test s kind t)))))
call_test_holds = tt

call_same : (m : Meld) → m.source < 4 → m.kind < 7 → m.tile < 34 → is_call m ≡ call_test m.source m.kind m.tile
call_same m g h l =
    beq→eq _ _
    (at 34 (λ t. beq (is_call (meld_from t m.kind m.source)) (call_test m.source m.kind t))
    (at 7 (λ kind. all_below 34 (λ t. beq (is_call (meld_from t kind m.source)) (call_test m.source kind t)))
    (at 4 (λ s. all_below 7 (λ kind. all_below 34 (λ t. beq (is_call (meld_from t kind s)) (call_test s kind t)))) call_test_holds m.source g)
    m.kind h) m.tile l)

-- a test under a condition
where_so : (a b : Bool) → (T a → T b) → T (not a || b)
where_so true b f = f tt
where_so false b f = tt

-- the kind is one, or it is not
is_kind_holds : (k n : ℕ) → k ≡ n → T (eqb k n)
is_kind_holds k n e = true→t (eqb k n) (eq-eqb k n e)

pub callable : (g : Game) (m : Meld) → T (is_call_in g m) → Callable g m
callable g m c =
    let v = and_left (is_call m) (is_played g m) c in
    let played = and_right (is_call m) (is_played g m) c in
    let there = and_right (g.chi || not (is_sequence m)) _ played in
    let is = and_left (is_meld m) _ v in
    let t = rw (call_same m (meld_source m is) (meld_kind m is) (meld_tile m is)) at v in
    let rest = and_right (any (eqb m.kind) call_kinds) _ t in
    let seats = and_right (not (eqb m.kind 1) || from_one_to_seven m.tile) _ rest in
    let others = and_right (not (eqb m.kind 4) || eqb m.source 0) _ seats in
    record {
      kind = any_mem eqb eqb→eq eqb_refl m.kind call_kinds (and_left (any (eqb m.kind) call_kinds) _ t);
      tile = meld_tile m is;
      start = λ e.
          let s = or_skip (eqb m.kind 1) (from_one_to_seven m.tile) (is_kind_holds m.kind 1 e) (and_left (not (eqb m.kind 1) || from_one_to_seven m.tile) _ rest) in (
            leb→le _ _ (and_left (leb 1 (value_of m.tile)) _ s),
            leb→le _ _ (and_right (leb 1 (value_of m.tile)) _ s),
          );
      nobody = λ e. eqb→eq m.source 0 (or_skip (eqb m.kind 4) _ (is_kind_holds m.kind 4 e) (and_left (not (eqb m.kind 4) || eqb m.source 0) _ seats));
      seat = λ f.
          or_elim (eqb m.kind 4) (leb 1 m.source && leb m.source 3) (and_left (eqb m.kind 4 || (leb 1 m.source && leb m.source 3)) _ others)
          (λ e. absurd (f (eqb→eq m.kind 4 e)))
          (λ s. (leb→le 1 m.source (and_left (leb 1 m.source) _ s), leb→le m.source 3 (and_right (leb 1 m.source) _ s)));
      before = λ e.
          eqb→eq m.source 3
          (or_skip (eqb m.kind 1) _ (is_kind_holds m.kind 1 e) (and_right (eqb m.kind 4 || (leb 1 m.source && leb m.source 3)) _ others));
      chi = λ e.
          or_elim g.chi (not (is_sequence m)) (and_left (g.chi || not (is_sequence m)) _ played) (λ y. y)
          (λ n. absurd (subst (λ (b : Bool). T (not b)) (lt-ltb m.kind 2 (omega arith)) n));
      player = ltb→lt m.source g.players (and_left (ltb m.source g.players) _ there);
      allowed = λ t h u. wall_each g m (and_right (ltb m.source g.players) (in_wall g m) there) t u;
    }

source_small : {g : Game} (m : Meld) → Callable g m → m.source < 4
source_small m c = go (ℕ_discrete m.kind 4)
  where
    go : Dec (m.kind ≡ 4) → m.source < 4
    go (yes e) = let h = c.nobody e in omega arith
    go (no f) = let h = c.seat f in omega (arith, h.1)

seat_test_holds : {g : Game} (m : Meld) → Callable g m → T (eqb m.kind 4 || (leb 1 m.source && leb m.source 3))
seat_test_holds m c = go (ℕ_discrete m.kind 4)
  where
    go : Dec (m.kind ≡ 4) → T (eqb m.kind 4 || (leb 1 m.source && leb m.source 3))
    go (yes e) = or_left (eqb m.kind 4) _ (is_kind_holds m.kind 4 e)
    go (no f) =
        let h = c.seat f in
        or_right (eqb m.kind 4) _ (and_both (leb 1 m.source) _ (le→leb 1 m.source h.0) (le→leb m.source 3 h.1))

is_call_made : {g : Game} (m : Meld) → Callable g m → T (is_call m)
is_call_made m c =
    rw (call_same m (source_small m c) (ltb→lt m.kind 7 (all_mem (λ n. ltb n 7) {l = call_kinds} tt c.kind)) c.tile)
    (and_both (any (eqb m.kind) call_kinds) _ (any_in eqb eqb→eq eqb_refl c.kind)
    (and_both (not (eqb m.kind 1) || from_one_to_seven m.tile) _
    (where_so (eqb m.kind 1) (from_one_to_seven m.tile)
    (λ t.
    let s = c.start (eqb→eq m.kind 1 t) in
    and_both (leb 1 (value_of m.tile)) _ (le→leb _ _ s.0) (le→leb _ _ s.1)))
    (and_both (not (eqb m.kind 4) || eqb m.source 0) _
    (where_so (eqb m.kind 4) _ (λ t. is_kind_holds m.source 0 (c.nobody (eqb→eq m.kind 4 t))))
    (and_both (eqb m.kind 4 || (leb 1 m.source && leb m.source 3)) _ (seat_test_holds m c)
    (where_so (eqb m.kind 1) _ (λ t. is_kind_holds m.source 3 (c.before (eqb→eq m.kind 1 t))))))))

-- no call is a closed sequence, so one that is none of kind 1 is none at all
is_sequence_holds : {g : Game} (m : Meld) → Callable g m → T (is_sequence m) → m.kind ≡ 1
is_sequence_holds m c s =
    let h = ltb→lt m.kind 2 s in
    let l = leb→le 1 m.kind (all_mem (λ n. leb 1 n) {l = call_kinds} tt c.kind) in
    omega arith

is_played_holds : (g : Game) (m : Meld) → Callable g m → T (is_played g m)
is_played_holds g m c =
    and_both (g.chi || not (is_sequence m)) _ (chi_test (is_sequence m) (λ s. c.chi (is_sequence_holds m c s)))
    (and_both (ltb m.source g.players) (in_wall g m) (lt→ltb m.source g.players c.player)
    (each_wall g m (and_left (is_meld m) _ (is_call_made m c)) c.allowed))
  where
    chi_test : (b : Bool) → (T b → T g.chi) → T (g.chi || not b)
    chi_test true f = or_left g.chi false (f tt)
    chi_test false f = or_right g.chi true tt

pub is_call_holds : (g : Game) (m : Meld) → Callable g m → T (is_call_in g m)
is_call_holds g m c = and_both (is_call m) (is_played g m) (is_call_made m c) (is_played_holds g m c)

-- ---- a test of each call, and of each tile
each_true : (g : Game) (k : Calls) → all (is_call_in g) (called k) ≡ true → (m : Meld) → Memᴰ m (called k) → Callable g m
each_true g k e m i = callable g m (all_mem (is_call_in g) (true→t (all (is_call_in g) (called k)) e) i)

each_false : (g : Game) (k : Calls) → all (is_call_in g) (called k) ≡ false → ((m : Meld) → Memᴰ m (called k) → Callable g m) → ⊥
each_false g k e f = subst T e (all_intro (is_call_in g) (called k) (λ m i. is_call_holds g m (f m i)))

most_true : (f most : ℕ → ℕ) → all (λ t. leb (f t) (most t)) tiles ≡ true → (t : ℕ) → t < 34 → f t ≤ most t
most_true f most e t h = leb→le (f t) (most t) (all_mem (λ t. leb (f t) (most t)) (true→t _ e) (in_tiles t h))

most_false : (f most : ℕ → ℕ) → all (λ t. leb (f t) (most t)) tiles ≡ false → ((t : ℕ) → t < 34 → f t ≤ most t) → ⊥
most_false f most e h = subst T e (all_intro (λ t. leb (f t) (most t)) tiles (λ t i. le→leb (f t) (most t) (h t (tile_lt i))))

-- ---- the six checks
module _ {g : Game} (cs : List ℕ) (k : Calls) where
  hand_answers : (n : ℕ) → n ≡ hand_check_in g cs k → Answers (hand_checks g cs k) n
  unfolding hand_check_in
  hand_answers n e =
      next_check _ _ _ e (λ h. omega (arith, eqb-true)) (λ h a. omega (arith, eqb-false))
      (λ long e. next_check _ _ _ e (λ h. omega (arith, leb-true)) (λ h a. omega (arith, leb-false))
      (λ few e. next_check _ _ _ e (each_true g k) (each_false g k)
      (λ calls e. next_check _ _ _ e (most_true (held cs) (most g)) (most_false (held cs) (most g))
      (λ four e. next_check _ _ _ e (most_true (together cs (called k)) (λ t. 4)) (most_false (together cs (called k)) (λ t. 4))
      (λ whole e. next_check _ _ _ e (λ h. omega (arith, eqb-true)) (λ h a. omega (arith, eqb-false)) (λ tiles e. e))))))

  -- n is answered exactly where the checks before it pass and this one fails; 0 where all pass
  pub hand_refusals : (n : ℕ) → (hand_check_in g cs k ≡ n) ↔ Answers (hand_checks g cs k) n
  hand_refusals n = exactly (hand_checks g cs k) (hand_check_in g cs k) (hand_answers (hand_check_in g cs k) refl) n
