-- The tile that an indicator names: of its own group, a different one for each indicator, the next number in a suit; and it goes with every exchange
-- of suits. Each is a test that antt computes. Assumes nothing.
use mathlib.Core.Path.{◌≡◌, refl, sym, ap, subst, ◌∙◌}
use mathlib.Core.Bool.{Bool, true, false, ◌||◌, not, cond, beq}
use Prim.Native.Nat.{ℕ, ◌+◌, ◌<◌}
use lib.Dec.{T, eqb, ltb, eqb→eq, ltb→lt}
use Rattle.lists.specs.Fold.{all_below}
use borrow.Author.Tests.{eq-eqb}
use Rattle.lists.proofs.Finite.{at, beq→eq, and_left, true→t, or_skip}
use Rattle.tile.specs.Tile.{is_honor, is_wind, is_dragon, suit_of, value_of}
use Rattle.tile.specs.declared.Renaming.{Renaming}
use Rattle.tile.specs.Renaming.{ren, suits_alone}
use Rattle.tile.proofs.Renamings.{numbers_test}
use Rattle.tile.proofs.Described.{suits_alone_holds}
use Rattle.dora.specs.Dora.{dora_of}

-- ---- it stays in its group: the suit, the winds, the dragons
pub dora_tile : (t : ℕ) → t < 34 → dora_of t < 34
unfolding dora_of
dora_tile t h = ltb→lt (dora_of t) 34 (at 34 (λ t. ltb (dora_of t) 34) tt t h)

pub dora_suit : (t : ℕ) → t < 34 → suit_of (dora_of t) ≡ suit_of t
unfolding dora_of
dora_suit t h = eqb→eq _ _ (at 34 (λ t. eqb (suit_of (dora_of t)) (suit_of t)) tt t h)

pub dora_wind : (t : ℕ) → t < 34 → is_wind (dora_of t) ≡ is_wind t
unfolding dora_of
dora_wind t h = beq→eq _ _ (at 34 (λ t. beq (is_wind (dora_of t)) (is_wind t)) tt t h)

pub dora_dragon : (t : ℕ) → t < 34 → is_dragon (dora_of t) ≡ is_dragon t
unfolding dora_of
dora_dragon t h = beq→eq _ _ (at 34 (λ t. beq (is_dragon (dora_of t)) (is_dragon t)) tt t h)

-- no two indicators have the same dora
pub dora_apart : (s t : ℕ) → s < 34 → t < 34 → dora_of s ≡ dora_of t → s ≡ t
unfolding dora_of
dora_apart s t h k e =
    let test = at 34 (λ t. not (eqb (dora_of s) (dora_of t)) || eqb s t)
    (at 34 (λ s. all_below 34 (λ t. not (eqb (dora_of s) (dora_of t)) || eqb s t)) tt s h) t k in
    eqb→eq s t (or_skip (eqb (dora_of s) (dora_of t)) (eqb s t) (true→t _ (eq-eqb (dora_of s) (dora_of t) e)) test)

-- in a suit it is the next number, 1 after 9
pub dora_number : (t : ℕ) → t < 27 → value_of (dora_of t) ≡ cond (eqb (value_of t) 9) 1 (value_of t + 1)
unfolding dora_of
dora_number t h = eqb→eq _ _ (at 27 (λ t. eqb (value_of (dora_of t)) (cond (eqb (value_of t) 9) 1 (value_of t + 1))) tt t h)

-- ---- it goes with every exchange of suits
suits_renamed : (ρ : Renaming) → T (not ρ.numbers.mirror) → (t : ℕ) → t < 27 → dora_of (ren ρ t) ≡ ren ρ (dora_of t)
unfolding dora_of
suits_renamed ρ plain t h =
    eqb→eq _ _
    (at 27 (λ t. eqb (dora_of (ren ρ t)) (ren ρ (dora_of t)))
    (or_skip (not ρ.numbers.mirror) (all_below 27 (λ t. eqb (dora_of (ren ρ t)) (ren ρ (dora_of t)))) plain
    (numbers_test (λ ρ. not (not ρ.numbers.mirror) || all_below 27 (λ t. eqb (dora_of (ren ρ t)) (ren ρ (dora_of t)))) ρ tt))
    t h)

-- a tile that is no honor is of a suit; and the dora of an honor is an honor
no_honor : (t : ℕ) → t < 34 → is_honor t ≡ false → t < 27
no_honor t h e = ltb→lt t 27 (subst (λ (b : Bool). T (b || ltb t 27)) e (at 34 (λ t. is_honor t || ltb t 27) tt t h))

dora_honor : (t : ℕ) → t < 34 → is_honor (dora_of t) ≡ is_honor t
unfolding dora_of
dora_honor t h = beq→eq _ _ (at 34 (λ t. beq (is_honor (dora_of t)) (is_honor t)) tt t h)

pub dora_renamed : (ρ : Renaming) → T (suits_alone ρ) → (t : ℕ) → t < 34 → dora_of (ren ρ t) ≡ ren ρ (dora_of t)
dora_renamed ρ alone t h = go (is_honor t) refl
  where
    go : (b : Bool) → is_honor t ≡ b → dora_of (ren ρ t) ≡ ren ρ (dora_of t)
    go true e =
        let stays = (suits_alone_holds ρ alone).honor in
        ap dora_of (stays t (true→t _ e)) ∙ sym (stays (dora_of t) (true→t _ (dora_honor t h ∙ e)))
    go false e = suits_renamed ρ (and_left (not ρ.numbers.mirror) _ alone) t (no_honor t h e)
