-- What a hand and its calls that pass the checks have, and that it is all that the checks ask. Assumes nothing.
use mathlib.Core.Path.{◌≡◌, sym, subst, ◌∙◌}
use mathlib.Core.List.{List, Memᴰ}
use Prim.Native.Nat.{ℕ, ◌+◌, ◌*◌, ◌<◌, ◌≤◌}
use native.Mathlib.Omega.{arith}
use lib.Dec.{T}
use lib.ListN.{length, length-take}
use Rattle.lists.specs.Fold.{all, sum}
use Rattle.lists.proofs.Finite.{and_left, and_right, and_both, cond_le}
use Rattle.lists.proofs.Members.{all_mem, all_intro}
use Rattle.tile.specs.Tile.{tiles}
use Rattle.rules.specs.Rules.{Game, four, most}
use Rattle.meld.specs.declared.Meld.{Meld}
use Rattle.meld.specs.Meld.{is_call}
use Rattle.hand.specs.Counts.{held, AtMostFour}
use Rattle.checks.specs.declared.Calls.{Calls}
use Rattle.checks.specs.Checks.{called, together, is_played, hand_check_in, hand_check}
use Rattle.checks.specs.Refusals.{Callable, hand_checks}
use Rattle.checks.proofs.InOrder.{all_pass, pass_all}
use Rattle.checks.proofs.Four.{four_each}
use Rattle.checks.proofs.Played.{call_four}
use Rattle.checks.proofs.Refusals.{callable, is_call_holds, hand_refusals}

-- in the game g
pub record Passed (g : Game) (cs : List ℕ) (k : Calls) : Type 0 where
  pub long : length cs ≡ 34
  pub few : k.count ≤ 4
  pub calls : T (all is_call (called k))
  pub played : T (all (is_played g) (called k))
  pub four : AtMostFour cs
  pub wall : (t : ℕ) → t < 34 → held cs t ≤ most g t
  pub whole : (t : ℕ) → t < 34 → together cs (called k) t ≤ 4
  pub tiles : sum (held cs) tiles + 3 * k.count ≡ 14

-- ---- the six checks
most_four : (g : Game) (t : ℕ) → most g t ≤ 4
most_four g t = cond_le (g.allowed t) 4 0 4 (omega arith) (omega arith)

pub passed : {g : Game} (cs : List ℕ) (k : Calls) → hand_check_in g cs k ≡ 0 → Passed g cs k
passed {g} cs k e =
    let a = all_pass (hand_checks g cs k) tt ((hand_refusals cs k 0).0 e) in
    let long = a.0 in
    let few = a.1.0 in
    let calls = a.1.1.0 in
    let tiles = a.1.1.1.1.1.0 in
    record {
      long = long;
      few = few;
      calls = all_intro is_call (called k) (λ m i. and_left (is_call m) (is_played g m) (is_call_holds g m (calls m i)));
      played = all_intro (is_played g) (called k) (λ m i. and_right (is_call m) (is_played g m) (is_call_holds g m (calls m i)));
      four = four_each cs long (λ t h. let m = a.1.1.1.0 t h in let n = most_four g t in omega arith);
      wall = a.1.1.1.0;
      whole = a.1.1.1.1.0;
      tiles = omega arith;
    }

-- each call can be called
pub each_callable : {g : Game} {cs : List ℕ} {k : Calls} → Passed g cs k → (m : Meld) → Memᴰ m (called k) → Callable g m
each_callable {g} p m i = callable g m (and_both (is_call m) (is_played g m) (all_mem is_call p.calls i) (all_mem (is_played g) p.played i))

pub passes : {g : Game} (cs : List ℕ) (k : Calls) → Passed g cs k → hand_check_in g cs k ≡ 0
passes {g} cs k p =
    (hand_refusals cs k 0).1
    (pass_all (hand_checks g cs k) (p.long, (p.few, (each_callable p, (p.wall, (p.whole, (omega arith, tt)))))))

-- ---- what passes in some game passes with four players and all tiles
pub passes_four : (g : Game) (cs : List ℕ) (k : Calls) → hand_check_in g cs k ≡ 0 → hand_check cs k ≡ 0
passes_four g cs k e =
    let p = passed cs k e in
    passes cs k
    (record {
      long = p.long;
      few = p.few;
      calls = p.calls;
      played = all_intro (is_played four) (called k) (λ m i. and_right (is_call m) (is_played four m) (subst T (sym (call_four m)) (all_mem is_call p.calls i)));
      four = p.four;
      wall = λ t h. p.four t;
      whole = p.whole;
      tiles = p.tiles;
    })

pub called_length : (k : Calls) → k.count ≤ 4 → length k.melds ≡ 4 → length (called k) ≡ k.count
called_length k h e = length-take k.count k.melds ∙ omega arith

-- at most four calls of a hand that passes; the melds of the calls are four (an array of four in the code)
pub few_called : (cs : List ℕ) (k : Calls) → length k.melds ≡ 4 → hand_check cs k ≡ 0 → length (called k) ≤ 4
few_called cs k four e = let h = (passed cs k e).few in let l = called_length k h four in omega arith
