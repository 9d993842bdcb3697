-- What the wait of thirteen orphans means: for how many tiles they waited before the win, for thirteen where the doubled tile came last and
-- else for one; and no other reading has the thirteen-sided wait. Assumes nothing.
use mathlib.Core.Path.{◌≡◌, refl, sym, subst, ap, ◌∙◌}
use mathlib.Core.Bool.{Bool, true, false}
use mathlib.Core.List.{List}
use Prim.Native.Nat.{ℕ, ◌+◌, ◌-◌, ◌≤◌, ◌<◌}
use native.Mathlib.Omega.{arith}
use borrow.Author.Tests.{eq-eqb}
use lib.Dec.{T, eqb, eqb→eq, eqb_refl}
use lib.ListN.{get_or}
use Rattle.lists.specs.Fold.{all_below, any, count, one, total}
use Rattle.lists.proofs.Finite.{and_left, and_both, at, one_le, T-eq, T→true, true→t}
use Rattle.lists.proofs.Members.{all_intro, any_of, any_elim, map_members}
use Rattle.tile.specs.Tile.{is_terminal_or_honor, tiles}
use Rattle.tile.proofs.Tiles.{in_tiles, tile_lt}
use Rattle.tile.proofs.Examples.{orphans_13}
use Rattle.meld.specs.declared.Meld.{Meld}
use Rattle.hand.specs.Reading.{pairs, orphans, standard}
use Rattle.hand.specs.Readings.{is_orphans}
use Rattle.hand.proofs.Tests.{orphans_exact}
use Rattle.wait.specs.Wait.{waits}

-- ---- two of the six tallies, by their places
abbrev pub tanki_in : List ℕ → ℕ
tanki_in ts = get_or ts 4 0

abbrev pub kokushi13_in : List ℕ → ℕ
kokushi13_in ts = get_or ts 5 0

-- ---- a hand that has c u of each tile u, won on the tile t
-- how many of the tile u it has where the tile x comes in the place of t
abbrev pub in_place : (ℕ → ℕ) → ℕ → ℕ → ℕ → ℕ
in_place c t x u = c u - one (eqb u t) + one (eqb u x)

-- with x they would have been thirteen orphans too, whichever of them doubled
unfoldable pub serves : (ℕ → ℕ) → ℕ → ℕ → Bool
serves c t x = any (is_orphans (in_place c t x)) tiles

-- for how many tiles it waited as thirteen orphans
unfoldable pub sides : (ℕ → ℕ) → ℕ → ℕ
sides c t = count (serves c t) tiles

-- how many tiles serve is how many pass a test that says the same of each
served : (q : ℕ → Bool) (c : ℕ → ℕ) (t : ℕ) → ((x : ℕ) → x < 34 → serves c t x ≡ q x) → sides c t ≡ count q tiles
unfolding sides
served q c t f = ap total (map_members (λ x. one (serves c t x)) (λ x. one (q x)) tiles (λ x i. ap one (f x (tile_lt i))))

-- each tile is one of the 34, once
one_of_each_test : T (all_below 34 (λ t. eqb (count (eqb t) tiles) 1))
one_of_each_test = tt

-- ---- thirteen orphans with the tile p doubled, won on one of their tiles
module _ (c : ℕ → ℕ) (p : ℕ) (k : p < 34) (s : T (is_orphans c p)) (t : ℕ) (h : t < 34) (held : 1 ≤ c t) where
  itself : one (eqb t t) ≡ 1
  itself = ap one (T→true (eqb t t) (eqb_refl t))

  -- they are thirteen orphans with q doubled where each count is right
  completed :
      (x q : ℕ) → T (is_terminal_or_honor q) → q < 34 → ((u : ℕ) → u < 34 → in_place c t x u ≡ one (is_terminal_or_honor u) + one (eqb u q))
      → T (serves c t x)
  unfolding serves
  completed x q o k e =
      any_of (is_orphans (in_place c t x)) (in_tiles q k)
      (and_both (is_terminal_or_honor q) _ o
      (all_intro (λ u. eqb (in_place c t x u) (one (is_terminal_or_honor u) + one (eqb u q))) tiles (λ u i. true→t _ (eq-eqb _ _ (e u (tile_lt i))))))

  -- ---- the doubled tile came last: each of the thirteen would have served
  module _ (last : t ≡ p) where
    thirteen : (x : ℕ) → x < 34 → serves c t x ≡ is_terminal_or_honor x
    unfolding serves
    thirteen x k = T-eq (serves c t x) (is_terminal_or_honor x) orphan (λ o. completed x x o k (λ u l. let e = exact u l in omega (arith, one_le (eqb u t))))
      where
        exact : (u : ℕ) → u < 34 → c u ≡ one (is_terminal_or_honor u) + one (eqb u t)
        exact u l = subst (λ (n : ℕ). c u ≡ one (is_terminal_or_honor u) + one (eqb u n)) (sym last) (orphans_exact c p s u l)

        orphan : T (serves c t x) → T (is_terminal_or_honor x)
        orphan a =
            let q = any_elim (is_orphans (in_place c t x)) tiles a in
            go q.0 (and_left (is_terminal_or_honor q.0) _ q.2) (eqb x q.0) (eqb→eq x q.0) (orphans_exact (in_place c t x) q.0 q.2 x k)
          where
            go : (q : ℕ) → T (is_terminal_or_honor q) → (b : Bool) → (T b → x ≡ q) → in_place c t x x ≡ one (is_terminal_or_honor x) + one b → T (is_terminal_or_honor x)
            go q o true f e = subst (λ (n : ℕ). T (is_terminal_or_honor n)) (sym (f tt)) o
            go q o false f e = let g = ap one (T→true (eqb x x) (eqb_refl x)) in absurd (omega (arith, exact x k))

    all_sides : sides c t ≡ 13
    all_sides = served is_terminal_or_honor c t thirteen ∙ orphans_13

  -- ---- another tile came last: it alone would have served
  module _ (other : eqb t p ≡ false) where
    alone : (x : ℕ) → serves c t x ≡ eqb t x
    unfolding serves
    alone x = T-eq (serves c t x) (eqb t x) only (λ e. subst (λ (n : ℕ). T (serves c t n)) (eqb→eq t x e) again)
      where
        missing : c t ≡ one (is_terminal_or_honor t)
        missing = let e = ap one other in omega (arith, orphans_exact c p s t h)

        there : (u : ℕ) (b : Bool) → (T b → u ≡ t) → one b ≤ c u
        there u true f = subst (λ (n : ℕ). 1 ≤ c n) (sym (f tt)) held
        there u false f = omega arith

        again : T (serves c t t)
        again = completed t p (and_left (is_terminal_or_honor p) _ s) k (λ u l. omega (arith, orphans_exact c p s u l, there u (eqb u t) (eqb→eq u t)))

        only : T (serves c t x) → T (eqb t x)
        only a =
            let q = any_elim (is_orphans (in_place c t x)) tiles a in
            go (eqb t x) (one (eqb t q.0)) (orphans_exact (in_place c t x) q.0 q.2 t h)
          where
            go : (b : Bool) (n : ℕ) → c t - one (eqb t t) + one b ≡ one (is_terminal_or_honor t) + n → T b
            go true n e = tt
            go false n e = absurd (omega (arith, itself, missing))

    one_side : sides c t ≡ 1
    one_side = served (eqb t) c t (λ x l. alone x) ∙ eqb→eq (count (eqb t) tiles) 1 (at 34 (λ t. eqb (count (eqb t) tiles) 1) one_of_each_test t h)

  -- Kokushi13: thirteen tiles would have served
  pub kokushi13_means : kokushi13_in (waits t (orphans p)) ≡ one (eqb (sides c t) 13)
  unfolding waits
  kokushi13_means = go (eqb t p) refl
    where
      go : (b : Bool) → eqb t p ≡ b → kokushi13_in (waits t (orphans p)) ≡ one (eqb (sides c t) 13)
      go true e = rw (e, all_sides (eqb→eq t p (true→t (eqb t p) e))) refl
      go false e = rw (e, one_side e) refl

  -- Tanki: this tile alone
  pub tanki_means : tanki_in (waits t (orphans p)) ≡ one (eqb (sides c t) 1)
  unfolding waits
  tanki_means = go (eqb t p) refl
    where
      go : (b : Bool) → eqb t p ≡ b → tanki_in (waits t (orphans p)) ≡ one (eqb (sides c t) 1)
      go true e = rw (e, all_sides (eqb→eq t p (true→t (eqb t p) e))) refl
      go false e = rw (e, one_side e) refl

-- ---- Kokushi13 is a wait of thirteen orphans alone
pub pairs_not_kokushi13 : (t : ℕ) (ps : List ℕ) → kokushi13_in (waits t (pairs ps)) ≡ 0
unfolding waits
pairs_not_kokushi13 t ps = refl

pub standard_not_kokushi13 : (t p : ℕ) (ms : List Meld) → kokushi13_in (waits t (standard p ms)) ≡ 0
unfolding waits
standard_not_kokushi13 t p ms = refl
