-- What an open hand leaves out: a yaku that needs a closed hand by the table of han has no tally in an open reading. Assumes nothing.
use mathlib.Core.Path.{◌≡◌, refl, subst}
use mathlib.Core.Bool.{Bool, true, false, ◌||◌, not, and-false}
use mathlib.Core.List.{List, [], ◌∷◌}
use Prim.Native.Nat.{ℕ, ◌<◌, ◌≤◌}
use native.Mathlib.Decide.{dec_lt}
use native.Mathlib.Omega.{arith}
use lib.Dec.{T, eqb, eqb→eq}
use borrow.Author.Tests.{ne_eqb}
use lib.ListN.{get_or, length}
use Rattle.lists.specs.Fold.{all_below, any, count}
use Rattle.lists.proofs.Finite.{at, one_le, or_elim}
use Rattle.lists.proofs.Sums.{count_le}
use Rattle.meld.specs.declared.Meld.{Meld}
use Rattle.meld.specs.Meld.{is_open, meld}
use Rattle.context.specs.declared.GameContext.{GameContext}
use Rattle.hand.specs.Reading.{Reading, pairs, orphans, standard}
use Rattle.structure.proofs.Short.{Short}
use Rattle.wait.specs.Wait.{pinfu}
use Rattle.wait.specs.Concealed.{concealed}
use Rattle.tile_yaku.specs.declared.TileYaku.{TileYaku}
use Rattle.meld_yaku.specs.Standard.{of_standard}
use Rattle.set_yaku.specs.Sets.{suuankou}
use Rattle.yaku.specs.declared.names.Yaku.{Yaku}
use Rattle.yaku.specs.Names.{han_open, names, place, tallied}
use Rattle.yaku.specs.Tally.{one_han, more_han, ordinary, tallies}
use Rattle.yaku.specs.Han.{han_of}
use Rattle.yaku.proofs.NameTable.{at_name, past_names}
use Rattle.yaku.proofs.Excludes.{by_yakuman}

-- an open reading: a pair and melds, one of them called from another player
abbrev pub is_open_reading : Reading → Bool
is_open_reading r = of_standard (λ p ms. any is_open ms) r

-- ---- a meld that was called from another player is no concealed triplet or kan
other_kind : (m : Meld) (k : ℕ) → T (is_open m) → (T (is_open (meld m.tile k)) → ⊥) → eqb m.kind k ≡ false
other_kind m k t f = ne_eqb m.kind k (λ e. f (subst (λ (n : ℕ). T (is_open (meld m.tile n))) e t))

module _ (w : GameContext) where
  open_not_concealed : (m : Meld) → T (is_open m) → concealed w false m ≡ false
  open_not_concealed m o = simp (other_kind m 4 o (λ x. x), other_kind m 2 o (λ x. x))

  concealed_fewer : (ms : List Meld) → T (any is_open ms) → count (concealed w false) ms < length ms
  concealed_fewer [] o = absurd o
  concealed_fewer (m ∷ ms) o =
      or_elim (is_open m) (any is_open ms) o
      (λ i. rw (open_not_concealed m i) (let n = count_le (concealed w false) ms in omega arith))
      (λ i. let n = concealed_fewer ms i in let f = one_le (concealed w false m) in omega arith)

  no_suuankou : (ms : List Meld) → T (any is_open ms) → length ms ≤ 4 → suuankou w ms ≡ false
  unfolding suuankou
  no_suuankou ms o h = let n = concealed_fewer ms o in ne_eqb (count (concealed w false) ms) 4 (λ e. omega arith)

-- ---- place by place: where the table for open hands has nothing, there is no tally
abbrev is_left_out : List ℕ → ℕ → Bool
is_left_out ts i = not (eqb (get_or (han_of true) i 0) 0) || eqb (get_or ts i 0) 0

module _ (w : GameContext) (s : TileYaku) where
  left_out : (r : Reading) → T (is_open_reading r) → Short r → T (all_below 47 (is_left_out (tallies w true s r)))
  unfolding ordinary one_han more_han pinfu han_of names
  left_out (pairs ps) o h = absurd o
  left_out (orphans p) o h = absurd o
  left_out (standard p ms) o h =
      by_yakuman w true s (standard p ms) (λ ts. T (all_below 47 (is_left_out ts)))
      (simp (no_suuankou w ms o h, and-false) tt) (simp (no_suuankou w ms o h, and-false) tt)

  pub needs_closed : (y : Yaku) → han_open y ≡ 0 → (r : Reading) → T (is_open_reading r) → Short r → tallied y (tallies w true s r) ≡ 0
  unfolding han_of
  needs_closed y z r o h = go (dec_lt (place y) 47)
    where
      go : Dec (place y < 47) → tallied y (tallies w true s r) ≡ 0
      go (yes i) =
          let no-han : eqb (get_or (han_of true) (place y) 0) 0 ≡ true = rw (at_name han_open (λ t. refl) y (place y) refl i, z) in
          let found = at 47 (is_left_out (tallies w true s r)) (left_out r o h) (place y) i in
          eqb→eq _ 0 (rw no-han at found)
      go (no i) = absurd (let one-han = past_names han_open (λ t. refl) y (place y) refl (omega arith) in omega arith)
