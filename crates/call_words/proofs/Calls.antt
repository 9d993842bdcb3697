-- Calls by their tiles: there is one of a kind at most, but for its source, and those of the tiles counted are those of the tiles that the word names. Assumes nothing.
use mathlib.Core.Path.{◌≡◌, refl, sym, ap, ap₂, ◌∙◌, subst}
use mathlib.Core.Bool.{Bool, true, false}
use mathlib.Core.List.{List, [], ◌∷◌}
use Prim.Native.Nat.{ℕ, ◌<◌, ◌≤◌}
use native.Mathlib.Omega.{arith}
use lib.Dec.{T, eqb}
use lib.ListN.{replicate, get_or-replicate}
use borrow.Author.Tests.{eqb-true, eq-eqb}
use Rattle.std.specs.Prelude.{Option, Some, None}
use Rattle.std.specs.Option.{option_or}
use Rattle.lists.specs.Fold.{count}
use Rattle.lists.proofs.Finite.{T→true, true→t, or_elim, and_left, and_right, and_both}
use Rattle.lists.proofs.Members.{all_intro}
use Rattle.tile.specs.Tile.{tiles}
use Rattle.tile.proofs.Tiles.{tile_lt}
use Rattle.meld.specs.declared.Meld.{Meld}
use Rattle.meld.specs.Meld.{is_meld, is_call, is_open, meld, but_source, uses}
use Rattle.meld.proofs.Melds.{but_is_meld_holds}
use Rattle.hand.specs.Counts.{held}
use Rattle.checks.proofs.Added.{uses_first}
use Rattle.tile_words.specs.Words.{tiles_in, add_to}
use Rattle.call_words.specs.Calls.{made_of, is_kind, Lowest, IsLowest, CallOf, IsCallOf, IsCallIn}
use Rattle.tile_words.proofs.Adding.{add_few, few_added}
use Rattle.call_words.proofs.Least.{made, some_there, lowest_own}

-- a meld holds at most four of a tile
few : (m : Meld) (t : ℕ) → uses m t ≤ 4
few m t = let h = uses_first (m ∷ []) 1 t in omega arith

-- a call but for its source is a call
but_call : (m : Meld) → is_call m ≡ true → is_call (but_source m) ≡ true
but_call m e =
    let c = true→t (is_call m) e in
    T→true (is_call (but_source m)) (and_both (is_meld (but_source m)) _ (but_is_meld_holds m (and_left (is_meld m) _ c)) (and_right (is_meld m) _ c))

-- ---- the call of a kind: its tile is the lowest, so there is only one, but for its source
-- where no tile is there, there is none
pub no_tile : (cs : List ℕ) (k : ℕ) → IsLowest cs None → IsCallOf (is_kind k) cs None
no_tile cs k none m x = some_there m cs x.0 x.1.1 none

module _ (cs : List ℕ) (r k : ℕ) (low : Lowest cs r) (m : Meld) (x : CallOf (is_kind k) cs m) where
  only : but_source m ≡ meld r k
  only = ap₂ meld (lowest_own m cs x.0 x.1.1 r low) (eqb-true m.kind k x.1.0)

  pub no_call : (l : Meld) → l ≡ meld r k → is_call l ≡ false → ⊥
  no_call l is e = true→t false (sym e ∙ ap is_call (is ∙ sym only) ∙ but_call m x.0)

  pub not_made : (l : Meld) → l ≡ meld r k → made_of l cs ≡ false → ⊥
  not_made l is e = true→t false (sym e ∙ ap (λ (c : Meld). made_of c cs) (is ∙ sym only) ∙ x.1.1)

-- the one that was tried is of that kind and from the left
pub tried : (cs : List ℕ) (r k : ℕ) (l : Meld) → l ≡ meld r k → is_call l ≡ true → made_of l cs ≡ true → IsCallOf (is_kind k) cs (Some l)
tried cs r k l is call same = ((call, (ap (is_kind k) is ∙ eq-eqb k k refl, same)), is ∙ sym (ap but_source is))

-- ---- open calls
-- what was found by one test passes a weaker one
pub weaker :
    (p q : Meld → Bool) → ((m : Meld) → p m ≡ true → q m ≡ true) → (cs : List ℕ) (f : Option Meld) (m : Meld) → f ≡ Some m
    → IsCallOf p cs f → IsCallOf q cs f
weaker p q g cs f m e x =
    let y = subst (IsCallOf p cs) e x in
    subst (IsCallOf q cs) (sym e) ((y.0.0, (g m y.0.1.0, y.0.1.1)), y.1)

-- kans, triplets and sequences that were called are open
pub open_kind : (k : ℕ) → is_open (meld 0 k) ≡ true → (m : Meld) → is_kind k m ≡ true → is_open m ≡ true
open_kind k e m h = ap (λ (n : ℕ). is_open (meld 0 n)) (eqb-true m.kind k h) ∙ e

-- an added kan has the tiles of an open kan
as_open_kan : (cs : List ℕ) (m : Meld) → CallOf (is_kind 6) cs m → CallOf (is_kind 5) cs (meld m.tile 5)
as_open_kan cs m x =
    let e = eqb-true m.kind 6 x.1.0 in (
      sym (ap (λ (k : ℕ). is_call (meld m.tile k)) e) ∙ but_call m x.0,
      (refl, sym (ap (λ (k : ℕ). made_of (meld m.tile k) cs) e) ∙ x.1.1),
    )

-- a call that was found of a kind that is open is open
found_open : (k : ℕ) → is_open (meld 0 k) ≡ true → (cs : List ℕ) (m : Meld) → IsCallOf (is_kind k) cs (Some m) → IsCallOf is_open cs (Some m)
found_open k e cs m x = ((x.0.0, (open_kind k e m x.0.1.0, x.0.1.1)), x.1)

-- no open kan, no open triplet and no open sequence: no open call
no_open :
    (cs : List ℕ) → IsCallOf (is_kind 5) cs None → IsCallOf (is_kind 3) cs None → IsCallOf (is_kind 1) cs None → IsCallOf is_open cs None
no_open cs five three one m x =
    or_elim (is_kind 1 m) _ (true→t (is_open m) x.1.0) (λ t. one m (of 1 t))
    (λ s.
    or_elim (is_kind 3 m) _ s (λ t. three m (of 3 t))
    (λ s. or_elim (is_kind 5 m) (is_kind 6 m) s (λ t. five m (of 5 t)) (λ t. five (meld m.tile 5) (as_open_kan cs m (of 6 t)))))
  where
    of : (k : ℕ) → T (is_kind k m) → CallOf (is_kind k) cs m
    of k t = (x.0, (T→true (is_kind k m) t, x.1.1))

-- a kan, or else a triplet, or else a sequence
pub first_open :
    (cs : List ℕ) (kan triplet sequence : Option Meld) → IsCallOf (is_kind 5) cs kan → IsCallOf (is_kind 3) cs triplet
    → IsCallOf (is_kind 1) cs sequence → IsCallOf is_open cs (option_or (option_or kan triplet) sequence)
first_open cs (Some m) triplet sequence five three one = found_open 5 refl cs m five
first_open cs None (Some m) sequence five three one = found_open 3 refl cs m three
first_open cs None None (Some m) five three one = found_open 1 refl cs m one
first_open cs None None None five three one = no_open cs five three one

module _ (cs w : List ℕ) (counted : (t : ℕ) → t < 34 → held cs t ≡ add_to (held (replicate 34 0) t) (count (eqb t) (tiles_in w))) where
  -- the counts began at nothing
  from_nothing : (t : ℕ) → t < 34 → held cs t ≡ add_to 0 (count (eqb t) (tiles_in w))
  from_nothing t h = counted t h ∙ ap (λ (n : ℕ). add_to n (count (eqb t) (tiles_in w))) (get_or-replicate 34 t 0 0 h)

  -- where the word names the tiles of a meld, so few, all are counted
  counted_made : (m : Meld) → ((t : ℕ) → t < 34 → count (eqb t) (tiles_in w) ≡ uses m t) → made_of m cs ≡ true
  counted_made m e =
      T→true (made_of m cs)
      (all_intro (λ t. eqb (held cs t) (uses m t)) tiles
      (λ t i.
      let h = tile_lt i in
      true→t _ (eq-eqb (held cs t) (uses m t) (from_nothing t h ∙ few_added (count (eqb t) (tiles_in w)) (uses m t) (e t h) (few m t)))))

  pub call_in : (p : Meld → Bool) (f : Option Meld) → IsCallOf p cs f → IsCallIn p w f
  call_in p None x = λ m y. x m (y.0, (y.1.0, counted_made m y.1.1))
  call_in p (Some m) x = (
    (x.0.0, (x.0.1.0, λ t h. add_few (count (eqb t) (tiles_in w)) (uses m t) (sym (from_nothing t h) ∙ made m cs x.0.1.1 t h) (few m t))),
    x.1,
  )
