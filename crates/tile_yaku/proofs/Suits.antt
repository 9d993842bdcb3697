-- The walk over the suits and their numbers that looks for a second suit. Assumes nothing.
use mathlib.Core.Path.{◌≡◌, refl, sym, subst, ap, ◌∙◌}
use mathlib.Core.Bool.{Bool, true, false, ◌||◌, cond, and-true, and-false, or-true}
use Prim.Native.Nat.{ℕ, zero, suc, ◌+◌, ◌*◌, ◌<◌, ◌≤◌}
use native.Mathlib.Numerals.{add-one}
use native.Mathlib.Omega.{arith}
use lib.Dec.{eqb, ltb, leb}
use borrow.Author.Tests.{lt-ltb, le-ltb, ne_eqb, ltb-true, ltb-false}
use Rattle.std.specs.Prelude.{Option, Some, None, IfSome, MatchOption, unwrap_or}
use Rattle.std.specs.Option.{is_some}
use Rattle.lists.specs.Fold.{one}
use Rattle.tile_yaku.specs.Tiles.{some, of_suit, one_suit}
use Rattle.tile_yaku.proofs.Below.{some_below, some_on, some_same, some_of, any_tiles}
use Rattle.tile_yaku.proofs.Questions.{there}

-- the tile of a suit at a number is there; some tile of the suit is there
abbrev pub there_at : (ℕ → ℕ) → ℕ → ℕ → Bool
there_at c s n = leb 1 (c (s * 9 + n))

abbrev pub present : (ℕ → ℕ) → ℕ → Bool
present c s = some_below 9 (there_at c s)

some_man : (c : ℕ → ℕ) → some (of_suit 0) c ≡ present c 0
some_man c = any_tiles (there c (of_suit 0)) ∙ simp (and-true, and-false)

some_pin : (c : ℕ → ℕ) → some (of_suit 1) c ≡ present c 1
some_pin c = any_tiles (there c (of_suit 1)) ∙ simp (and-true, and-false)

some_sou : (c : ℕ → ℕ) → some (of_suit 2) c ≡ present c 2
some_sou c = any_tiles (there c (of_suit 2)) ∙ simp (and-true, and-false)

-- ---- the only suit so far: 3 for none, 4 for several; after a further suit, and after the suits below s
abbrev pub step : ℕ → ℕ → Bool → ℕ
step u s b = cond b (cond (ltb u s || eqb u 4) 4 s) u

abbrev pub only_suit : (ℕ → ℕ) → ℕ → ℕ
only_suit c zero = 3
only_suit c (suc s) = step (only_suit c s) s (present c s)

-- the suit that was found, or 3
abbrev pub found_suit : Option ℕ → ℕ
found_suit o = unwrap_or o 3

-- before the number n of the suit s: o is the only suit so far, and there are not several
abbrev pub SoFar : (ℕ → ℕ) → ℕ → ℕ → Option ℕ → Type 0
SoFar c s n o = (found_suit o ≡ step (only_suit c s) s (some_below n (there_at c s))) × IfSome o (λ u. u < 3)

suit_le : (o : Option ℕ) → IfSome o (λ u. u < 3) → found_suit o ≤ 3
suit_le None h = omega arith
suit_le (Some u) h = omega arith

step_same : (u s : ℕ) (b : Bool) → step u s b ≤ 3 → s ≤ step u s b → s ≡ step u s true
step_same u s true h k = go (ltb u s || eqb u 4) h
  where
    go : (x : Bool) → cond x 4 s ≤ 3 → s ≡ cond x 4 s
    go true h = absurd (omega arith)
    go false h = refl
step_same u s false h k = rw (le-ltb u s k, ne_eqb u 4 (λ e. omega arith))

step_second : (u s : ℕ) (b : Bool) → step u s b ≤ 3 → step u s b < s → step u s true ≡ 4
step_second u s true h k = go (ltb u s || eqb u 4) h k
  where
    go : (x : Bool) → cond x 4 s ≤ 3 → cond x 4 s < s → cond x 4 s ≡ 4
    go true h k = refl
    go false h k = absurd (omega arith)
step_second u s false h k = rw (lt-ltb u s k)

step_several : (s : ℕ) (b : Bool) → step 4 s b ≡ 4
step_several s false = refl
step_several s true = ap (λ (x : Bool). cond x 4 s) (or-true (ltb 4 s))

-- is a suit below s found? P says of a suit what the answer b is
pub below_suit :
    (o : Option ℕ) (s : ℕ) (b : Bool) {P : ℕ → Type 0} → s ≤ 3 → MatchOption o (b ≡ false) P → ((u : ℕ) → P u → b ≡ ltb u s)
    → b ≡ ltb (found_suit o) s
below_suit None s b k e f = e ∙ sym (le-ltb 3 s k)
below_suit (Some u) s b k e f = f u e

-- one is found where it is below 3
pub some_suit_found : (o : Option ℕ) → IfSome o (λ u. u < 3) → is_some o ≡ ltb (found_suit o) 3
some_suit_found None h = refl
some_suit_found (Some u) h = sym (lt-ltb u 3 h)

-- a number that is not there, a tile of the suit, and a tile of a second suit
module _ (c : ℕ → ℕ) (s n : ℕ) (o : Option ℕ) (so : SoFar c s n o) where
  pub skip : there_at c s n ≡ false → SoFar c s (n + 1) o
  skip e = (so.0 ∙ ap (step (only_suit c s) s) (sym (some_same (there_at c s) n e)), so.1)

  -- what was found so far is 3 at most
  small : step (only_suit c s) s (some_below n (there_at c s)) ≤ 3
  small = subst (λ (x : ℕ). x ≤ 3) so.0 (suit_le o so.1)

  pub found : there_at c s n ≡ true → s < 3 → ltb (found_suit o) s ≡ false → SoFar c s (n + 1) (Some s)
  found e h k = (
    step_same (only_suit c s) s (some_below n (there_at c s)) small (subst (λ (x : ℕ). s ≤ x) so.0 (ltb-false (found_suit o) s k))
        ∙ ap (step (only_suit c s) s) (sym (some_on (there_at c s) n e)),
    h,
  )

  pub second : there_at c s n ≡ true → n < 9 → ltb (found_suit o) s ≡ true → only_suit c (suc s) ≡ 4
  second e h k =
      ap (step (only_suit c s) s) (some_of (there_at c s) n 9 h e)
      ∙ step_second (only_suit c s) s (some_below n (there_at c s)) small (subst (λ (x : ℕ). x < s) so.0 (ltb-true (found_suit o) s k))

  -- after the ninth number the suit is done
  pub next_suit : 9 ≤ n → n ≤ 9 → SoFar c (s + 1) 0 o
  next_suit h k =
      let e : n ≡ 9 = omega arith in
      (rw add-one (so.0 ∙ ap (λ (m : ℕ). step (only_suit c s) s (some_below m (there_at c s))) e), so.1)

three_suits_holds : (a b d : Bool) → ltb (step (step (step 3 0 a) 1 b) 2 d) 3 ≡ eqb (one a + (one b + (one d + 0))) 1
three_suits_holds true true true = refl
three_suits_holds true true false = refl
three_suits_holds true false true = refl
three_suits_holds true false false = refl
three_suits_holds false true true = refl
three_suits_holds false true false = refl
three_suits_holds false false true = refl
three_suits_holds false false false = refl

-- how many suits are there, by three answers
suits_count : (a b d x y z : Bool) → a ≡ x → b ≡ y → d ≡ z → eqb (one a + (one b + (one d + 0))) 1 ≡ eqb (one x + (one y + (one z + 0))) 1
suits_count a b d x y z e f g = cc

-- exactly one suit is there, by what is known of each
pub one_suit_by :
    (c : ℕ → ℕ) (a b d : Bool) → present c 0 ≡ a → present c 1 ≡ b → present c 2 ≡ d → one_suit c ≡ eqb (one a + (one b + (one d + 0))) 1
one_suit_by c a b d e f g =
    suits_count (some (of_suit 0) c) (some (of_suit 1) c) (some (of_suit 2) c) a b d (some_man c ∙ e) (some_pin c ∙ f) (some_sou c ∙ g)

only_last : (c : ℕ → ℕ) → ltb (only_suit c 3) 3 ≡ one_suit c
only_last c =
    three_suits_holds (present c 0) (present c 1) (present c 2)
    ∙ sym (one_suit_by c (present c 0) (present c 1) (present c 2) refl refl refl)

-- the end after all suits, and the end at a second suit
pub flush_end : (c : ℕ → ℕ) (s : ℕ) (o : Option ℕ) → 3 ≤ s → s ≤ 3 → SoFar c s 0 o → is_some o ≡ one_suit c
flush_end c s o h k so =
    let e : s ≡ 3 = omega arith in
    some_suit_found o so.1 ∙ ap (λ (x : ℕ). ltb x 3) (so.0 ∙ ap (only_suit c) e) ∙ only_last c

pub flush_not : (c : ℕ → ℕ) (s : ℕ) → s < 3 → only_suit c (suc s) ≡ 4 → false ≡ one_suit c
flush_not c s h e = sym (ap (λ (x : ℕ). ltb x 3) (go s h e)) ∙ only_last c
  where
    go : (s : ℕ) → s < 3 → only_suit c (suc s) ≡ 4 → only_suit c 3 ≡ 4
    go zero h e =
        ap (λ (x : ℕ). step (step x 1 (present c 1)) 2 (present c 2)) e
        ∙ ap (λ (x : ℕ). step x 2 (present c 2)) (step_several 1 (present c 1))
        ∙ step_several 2 (present c 2)
    go (suc zero) h e = ap (λ (x : ℕ). step x 2 (present c 2)) e ∙ step_several 2 (present c 2)
    go (suc (suc zero)) h e = e
    go (suc (suc (suc s))) h e = absurd (omega arith)
