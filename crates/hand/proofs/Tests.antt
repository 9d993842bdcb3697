-- What the tests for seven pairs and for thirteen orphans say of each tile. Assumes nothing.
use mathlib.Core.Path.{◌≡◌, sym, ap, ◌∙◌}
use mathlib.Core.Logic.{◌⊎◌, inl, inr}
use mathlib.Core.Bool.{Bool, true, false, ◌||◌}
use Prim.Native.Nat.{ℕ, ◌+◌, ◌<◌}
use native.Mathlib.Omega.{arith}
use lib.Dec.{T, eqb, ltb, eqb→eq, lt→ltb, eqb_refl}
use lib.ListN.{length}
use Rattle.lists.specs.Fold.{all, one}
use Rattle.lists.proofs.Finite.{and_left, and_right, or_elim, T→true}
use Rattle.lists.proofs.Members.{all_mem, all_intro}
use Rattle.lists.proofs.Kept.{kept}
use Rattle.tile.specs.Tile.{is_terminal_or_honor, tiles}
use Rattle.tile.proofs.Tiles.{in_tiles, tile_lt}
use Rattle.hand.specs.Readings.{twos, is_pairs, is_orphans}

module _ (c : ℕ → ℕ) where
  -- ---- seven pairs
  pub none_or_two_holds : T (is_pairs c) → (t : ℕ) → t < 34 → (c t ≡ 0) ⊎ (c t ≡ 2)
  none_or_two_holds s t h =
      or_elim (eqb (c t) 0) (eqb (c t) 2)
      (all_mem (λ t. eqb (c t) 0 || eqb (c t) 2) (and_left (all (λ t. eqb (c t) 0 || eqb (c t) 2) tiles) _ s) (in_tiles t h))
      (λ z. inl (eqb→eq (c t) 0 z)) (λ z. inr (eqb→eq (c t) 2 z))

  pub seven_twos : T (is_pairs c) → length (twos c) ≡ 7
  seven_twos s = eqb→eq (length (twos c)) 7 (and_right (all (λ t. eqb (c t) 0 || eqb (c t) 2) tiles) _ s)

  pub twos_tiles : T (all (λ t. ltb t 34) (twos c))
  twos_tiles = all_intro (λ t. ltb t 34) (twos c) (λ t i. lt→ltb t 34 (tile_lt (kept (λ t. eqb (c t) 2) tiles i).0))

  -- ---- thirteen orphans
  pub orphans_exact : (p : ℕ) → T (is_orphans c p) → (t : ℕ) → t < 34 → c t ≡ one (is_terminal_or_honor t) + one (eqb t p)
  orphans_exact p s t h =
      eqb→eq (c t) _
      (all_mem (λ t. eqb (c t) (one (is_terminal_or_honor t) + one (eqb t p))) (and_right (is_terminal_or_honor p) _ s) (in_tiles t h))

  -- one tile is doubled
  pub one_doubled : (p q : ℕ) → p < 34 → T (is_orphans c p) → T (is_orphans c q) → p ≡ q
  one_doubled p q h s t = go (eqb p q) (eqb→eq p q) (sym (orphans_exact p s p h) ∙ orphans_exact q t p h)
    where
      two : one (eqb p p) ≡ 1
      two = ap one (T→true (eqb p p) (eqb_refl p))

      go : (b : Bool) → (T b → p ≡ q) → one (is_terminal_or_honor p) + one (eqb p p) ≡ one (is_terminal_or_honor p) + one b → p ≡ q
      go true f e = f tt
      go false f e = let g = two in absurd (omega arith)
