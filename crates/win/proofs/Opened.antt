-- When a hand is open; and that it is so by the first calls of four melds, each asked by itself. Assumes nothing.
use mathlib.Core.Path.{◌≡◌, refl, sym, ap, subst}
use mathlib.Core.Logic.{◌↔◌}
use mathlib.Core.Bool.{Bool, true, false, ◌&&◌, ◌||◌}
use mathlib.Core.List.{List, [], ◌∷◌, Memᴰ}
use Prim.Native.Nat.{ℕ, zero, suc, ◌≤◌}
use native.Mathlib.Omega.{arith}
use lib.Dec.{T, eqb, ltb, eqb→eq, eqb_refl}
use lib.ListN.{length, take, get_or}
use lib.Seq.{take_all}
use borrow.Author.Tests.{lt-ltb}
use Rattle.lists.specs.Fold.{any}
use Rattle.lists.proofs.Finite.{or_left, or_right}
use Rattle.lists.proofs.Members.{any_elim}
use Rattle.lists.proofs.Arranged.{any_mem, any_in}
use Rattle.meld.specs.declared.Meld.{Meld}
use Rattle.meld.specs.Meld.{meld, is_open}
use Rattle.checks.specs.declared.Calls.{Calls}
use Rattle.checks.specs.Checks.{called}
use Rattle.win.specs.Win.{is_opened}

or_false : (a b : Bool) → a || (b || false) ≡ a || b
or_false true b = refl
or_false false true = refl
or_false false false = refl

-- ---- the open hand, in the words of the scope paper
-- the kinds of calls from another player: open sequence, open triplet, open kan, added kan
abbrev open_kinds : List ℕ
open_kinds = 1 ∷ 3 ∷ 5 ∷ 6 ∷ []

kinds_are : (m : Meld) → is_open m ≡ any (eqb m.kind) open_kinds
kinds_are m = ap (λ (x : Bool). eqb m.kind 1 || (eqb m.kind 3 || x)) (sym (or_false (eqb m.kind 5) (eqb m.kind 6)))

some_open : {m : Meld} {l : List Meld} → Memᴰ m l → T (is_open m) → T (any is_open l)
some_open (Memᴰ.head {x = x} {xs = xs} e) t = or_left (is_open x) (any is_open xs) (subst (λ (y : Meld). T (is_open y)) e t)
some_open (Memᴰ.tail {x = x} {xs = xs} i) t = or_right (is_open x) (any is_open xs) (some_open i t)

-- the hand is open exactly where some called meld is of kind 1, 3, 5 or 6: a closed kan, kind 4, leaves it closed
pub opened_means : (k : Calls) → T (is_opened k) ↔ ((m : Meld) × Memᴰ m (called k) × Memᴰ m.kind (1 ∷ 3 ∷ 5 ∷ 6 ∷ []))
opened_means k = (
  λ t.
      let r = any_elim is_open (called k) t in
      (r.0, r.1, any_mem eqb eqb→eq eqb_refl r.0.kind open_kinds (subst T (kinds_are r.0) r.2)),
  λ r. some_open r.1 (subst T (sym (kinds_are r.0)) (any_in eqb eqb→eq eqb_refl r.2)),
)

-- ---- the four melds of the code
-- four or more: all are asked
all_four :
    (p : Meld → Bool) (n : ℕ) (a b c d : Meld) → 4 ≤ n
    → (ltb 0 n && p a) || ((ltb 1 n && p b) || ((ltb 2 n && p c) || (ltb 3 n && p d))) ≡ any p (take n (a ∷ b ∷ c ∷ d ∷ []))
all_four p n a b c d h =
    rw (
      lt-ltb 0 n (omega arith),
      lt-ltb 1 n (omega arith),
      lt-ltb 2 n (omega arith),
      lt-ltb 3 n (omega arith),
      take_all n (a ∷ b ∷ c ∷ d ∷ []) h,
    )
    (ap (λ (x : Bool). p a || (p b || x)) (sym (or_false (p c) (p d))))

-- whether one of the first n of four passes the question
pub any_of_four :
    (p : Meld → Bool) (n : ℕ) (ms : List Meld) → length ms ≡ 4
    → (ltb 0 n && p (get_or ms 0 (meld 0 0)))
    || ((ltb 1 n && p (get_or ms 1 (meld 0 0))) || ((ltb 2 n && p (get_or ms 2 (meld 0 0))) || (ltb 3 n && p (get_or ms 3 (meld 0 0)))))
    ≡ any p (take n ms)
any_of_four p n [] e = absurd (omega arith)
any_of_four p n (a ∷ []) e = absurd (omega arith)
any_of_four p n (a ∷ b ∷ []) e = absurd (omega arith)
any_of_four p n (a ∷ b ∷ c ∷ []) e = absurd (omega arith)
any_of_four p zero (a ∷ b ∷ c ∷ d ∷ []) e = refl
any_of_four p (suc zero) (a ∷ b ∷ c ∷ d ∷ []) e = refl
any_of_four p (suc (suc zero)) (a ∷ b ∷ c ∷ d ∷ []) e = refl
any_of_four p (suc (suc (suc zero))) (a ∷ b ∷ c ∷ d ∷ []) e = refl
any_of_four p (suc (suc (suc (suc n)))) (a ∷ b ∷ c ∷ d ∷ []) e = all_four p (suc (suc (suc (suc n)))) a b c d (omega arith)
any_of_four p n (a ∷ b ∷ c ∷ d ∷ x ∷ ms) e = absurd (omega arith)
