-- What becomes of the words' calls and tiles in the checks. Assumes nothing.
use mathlib.Core.Path.{◌≡◌, ap, ◌∙◌}
use mathlib.Core.List.{List, [], ◌∷◌, ◌++◌}
use Prim.Native.Nat.{ℕ, suc, ◌+◌, ◌<◌, ◌≤◌, min}
use native.Mathlib.Omega.{arith}
use lib.ListN.{length, take, set}
use lib.Seq.{take-suc-set}
use borrow.Author.Tests.{eq-eqb, lt-leb}
use Rattle.meld.specs.declared.Meld.{Meld}
use Rattle.hand.specs.Counts.{held}
use Rattle.checks.specs.declared.Calls.{Calls}
use Rattle.checks.specs.Checks.{called, check, hand_check, hand_check_in}
use Rattle.checks.proofs.Passed.{passed}
use Rattle.tile_words.specs.Words.{add_to}
use Rattle.call_words.specs.Calls.{with_call}

-- up to four calls are kept in their order
pub kept_in_order : (k : Calls) (m : Meld) → length k.melds ≡ 4 → k.count < 4 → called (with_call k m) ≡ called k ++ m ∷ []
kept_in_order k m four h =
    let e : min (k.count + 1) 1000 ≡ suc k.count = omega arith in
    ap (λ (n : ℕ). take n (set k.melds k.count m)) e ∙ take-suc-set k.melds k.count m (omega arith)

-- a fifth call is refused with 2
pub fifth_refused : (cs : List ℕ) (k : Calls) (m : Meld) → length cs ≡ 34 → 4 ≤ k.count → hand_check cs (with_call k m) ≡ 2
unfolding hand_check_in check
fifth_refused cs k m long h =
    simp (eq-eqb (length cs) 34 long, lt-leb (min (k.count + 1) 1000) 4 (omega arith))

-- tiles that make a count above 4 are never lost: the hand is refused
pub five_refused : (cs : List ℕ) (k : Calls) (t n m : ℕ) → held cs t ≡ add_to n m → 4 < n + m → hand_check cs k ≡ 0 → ⊥
five_refused cs k t n m e h passes = let f = (passed cs k passes).four t in omega arith
