-- What the yaku of all tiles mean of each tile that is there, and how they stand to each other: which imply and which exclude which. Assumes nothing.
use mathlib.Core.Path.{◌≡◌, refl, sym, subst}
use mathlib.Core.Bool.{Bool, true, false, ◌&&◌, ◌||◌, not}
use Prim.Native.Nat.{ℕ, ◌+◌, ◌<◌, ◌≤◌}
use native.Mathlib.Omega.{arith}
use borrow.Author.Tests.{eqb-false}
use lib.Dec.{T, T_not, not_T, eqb, leb, ltb, eqb→eq, eqb_refl, leb→le, le→leb, ltb→lt}
use Rattle.lists.specs.Fold.{all, any, one}
use Rattle.lists.proofs.Finite.{at, and_left, and_right, and_both, or_elim, or_left, or_skip}
use Rattle.lists.proofs.Members.{all_mem, all_intro, any_of, any_elim}
use Rattle.lists.proofs.Arranged.{any_mem}
use Rattle.tile.specs.Tile.{is_honor, is_simple, is_suited, is_terminal, is_terminal_or_honor, tiles}
use Rattle.tile.proofs.Tiles.{in_tiles, tile_lt}
use Rattle.tile_yaku.specs.Tiles.{only, some, tanyao, honroutou, tsuuiisou, chinroutou, suits, of_suit, one_suit, honitsu, chinitsu}
use Rattle.tile_yaku.proofs.Questions.{only_neither}

-- ---- each tile that is there, and some tile that is there
module _ (c : ℕ → ℕ) where
  pub only_each : (q : ℕ → Bool) → T (only q c) → (t : ℕ) → t < 34 → 1 ≤ c t → T (q t)
  only_each q o t h k =
      or_elim (eqb (c t) 0) (q t) (all_mem (λ t. eqb (c t) 0 || q t) {l = tiles} o (in_tiles t h))
      (λ z. let e = eqb→eq (c t) 0 z in absurd (omega arith)) (λ i. i)

  pub each_only : (q : ℕ → Bool) → ((t : ℕ) → t < 34 → 1 ≤ c t → T (q t)) → T (only q c)
  each_only q f = all_intro (λ t. eqb (c t) 0 || q t) tiles (λ t i. go t (tile_lt i) (eqb (c t) 0) refl)
    where
      go : (t : ℕ) → t < 34 → (b : Bool) → eqb (c t) 0 ≡ b → T (b || q t)
      go t h true e = tt
      go t h false e = f t h (omega (arith, eqb-false (c t) 0 e))

  -- a tile that is there and passes
  pub record There (q : ℕ → Bool) : Type 0 where
    pub tile : ℕ
    pub is_tile : tile < 34
    pub held : 1 ≤ c tile
    pub passes : T (q tile)

  pub some_there : (q : ℕ → Bool) → T (some q c) → There q
  some_there q s =
      let r = any_elim (λ t. leb 1 (c t) && q t) tiles s in
      record {
        tile = r.0;
        is_tile = tile_lt r.1;
        held = leb→le 1 (c r.0) (and_left (leb 1 (c r.0)) _ r.2);
        passes = and_right (leb 1 (c r.0)) _ r.2;
      }

  pub there_some : (q : ℕ → Bool) (t : ℕ) → t < 34 → 1 ≤ c t → T (q t) → T (some q c)
  there_some q t h k i = any_of (λ t. leb 1 (c t) && q t) (in_tiles t h) (and_both (leb 1 (c t)) (q t) (le→leb 1 (c t) k) i)

  -- ---- a yaku that admits the tiles of another, and two that admit no tile in common
  only_wider : (p q : ℕ → Bool) → T (all (λ t. not (p t) || q t) tiles) → T (only p c) → T (only q c)
  only_wider p q ok o =
      each_only q (λ t h k. or_skip (p t) (q t) (only_each p o t h k) (all_mem (λ t. not (p t) || q t) {l = tiles} ok (in_tiles t h)))

  -- where some tile is there
  only_apart :
      (p q : ℕ → Bool) → T (all (λ t. not (p t && q t)) tiles) → (t : ℕ) → t < 34 → 1 ≤ c t → T (only p c) → T (only q c) → ⊥
  only_apart p q ok t h k o r =
      T_not (p t && q t) (all_mem (λ t. not (p t && q t)) {l = tiles} ok (in_tiles t h))
      (and_both (p t) (q t) (only_each p o t h k) (only_each q r t h k))

  -- all terminals, or all honors, are terminals and honors
  pub chinroutou_honroutou : T (chinroutou c) → T (honroutou c)
  unfolding chinroutou honroutou
  chinroutou_honroutou = only_wider is_terminal is_terminal_or_honor tt

  pub tsuuiisou_honroutou : T (tsuuiisou c) → T (honroutou c)
  unfolding tsuuiisou honroutou
  tsuuiisou_honroutou = only_wider is_honor is_terminal_or_honor tt

  -- Tanyao has neither, so no Honroutou, and none of these two
  pub tanyao_not_honroutou : (t : ℕ) → t < 34 → 1 ≤ c t → T (tanyao c) → T (honroutou c) → ⊥
  unfolding tanyao honroutou
  tanyao_not_honroutou = only_apart is_simple is_terminal_or_honor tt

  pub tsuuiisou_not_chinroutou : (t : ℕ) → t < 34 → 1 ≤ c t → T (tsuuiisou c) → T (chinroutou c) → ⊥
  unfolding tsuuiisou chinroutou
  tsuuiisou_not_chinroutou = only_apart is_honor is_terminal tt

  -- ---- flushes
  -- tiles of the suit s are there, and each other tile is an honor
  abbrev pub flush_of : ℕ → Bool
  flush_of s = some (of_suit s) c && only (λ t. of_suit s t || is_honor t) c

  pub one_suit_means : one_suit c ≡ any flush_of suits
  one_suit_means =
      by_three (some (of_suit 0) c) (some (of_suit 1) c) (some (of_suit 2) c)
      (only_neither (λ t. of_suit 0 t || is_honor t) (of_suit 1) (of_suit 2) c tt)
      (only_neither (λ t. of_suit 1 t || is_honor t) (of_suit 0) (of_suit 2) c tt)
      (only_neither (λ t. of_suit 2 t || is_honor t) (of_suit 0) (of_suit 1) c tt)
    where
      by_three :
          (a b d : Bool) {x y z : Bool} → x ≡ (not b && not d) → y ≡ (not a && not d) → z ≡ (not a && not b)
          → eqb (one a + (one b + (one d + 0))) 1 ≡ (a && x || (b && y || (d && z || false)))
      by_three true true true e f g = cc
      by_three true true false e f g = cc
      by_three true false true e f g = cc
      by_three true false false e f g = cc
      by_three false true true e f g = cc
      by_three false true false e f g = cc
      by_three false false true e f g = cc
      by_three false false false e f g = cc

  -- Honitsu has an honor and Chinitsu has none
  pub honitsu_honor : T (honitsu c) → There is_honor
  unfolding honitsu
  honitsu_honor t = some_there is_honor (and_right (one_suit c) _ t)

  pub chinitsu_no_honor : T (chinitsu c) → (t : ℕ) → t < 34 → 1 ≤ c t → T (is_honor t) → ⊥
  unfolding chinitsu
  chinitsu_no_honor f t h k i = T_not (some is_honor c) (and_right (one_suit c) _ f) (there_some is_honor t h k i)

  pub honitsu_not_chinitsu : T (honitsu c) → T (chinitsu c) → ⊥
  honitsu_not_chinitsu f g = let r = honitsu_honor f in chinitsu_no_honor g r.tile r.is_tile r.held r.passes

  pub tanyao_not_honitsu : T (tanyao c) → T (honitsu c) → ⊥
  unfolding tanyao
  tanyao_not_honitsu o f =
      let r = honitsu_honor f in
      T_not (is_simple r.tile && is_honor r.tile)
      (all_mem (λ t. not (is_simple t && is_honor t)) {l = tiles} tt (in_tiles r.tile r.is_tile))
      (and_both (is_simple r.tile) _ (only_each is_simple o r.tile r.is_tile r.held) r.passes)

  -- Chinitsu: every tile is of one suit, of which some are there
  pub record OneSuitAlone : Type 0 where
    pub suit : ℕ
    pub is_suit : suit < 3
    pub there : There (of_suit suit)
    pub alone : (t : ℕ) → t < 34 → 1 ≤ c t → T (of_suit suit t)

  pub chinitsu_means : T (chinitsu c) → OneSuitAlone
  unfolding chinitsu
  chinitsu_means f =
      let r = any_elim flush_of suits (subst T one_suit_means (and_left (one_suit c) _ f)) in
      let s = r.0 in
      record {
        suit = s;
        is_suit = ltb→lt s 3 (all_mem (λ s. ltb s 3) {l = suits} tt r.1);
        there = some_there (of_suit s) (and_left (some (of_suit s) c) _ r.2);
        alone =
            λ t h k.
            or_elim (of_suit s t) (is_honor t) (only_each (λ t. of_suit s t || is_honor t) (and_right (some (of_suit s) c) _ r.2) t h k) (λ i. i)
            (λ i. absurd (chinitsu_no_honor f t h k i));
      }

  pub means_chinitsu : OneSuitAlone → T (chinitsu c)
  unfolding chinitsu
  means_chinitsu o =
      let s = o.suit in
      and_both (one_suit c) _
      (subst T (sym one_suit_means)
      (any_of flush_of (any_mem eqb eqb→eq eqb_refl s suits (at 3 (λ s. any (eqb s) suits) tt s o.is_suit))
      (and_both (some (of_suit s) c) _ (there_some (of_suit s) o.there.tile o.there.is_tile o.there.held o.there.passes)
      (each_only (λ t. of_suit s t || is_honor t) (λ t h k. or_left (of_suit s t) (is_honor t) (o.alone t h k))))))
      (not_T (some is_honor c) (λ f.
      let r = some_there is_honor f in
      T_not (is_suited r.tile && is_honor r.tile)
      (all_mem (λ t. not (is_suited t && is_honor t)) {l = tiles} tt (in_tiles r.tile r.is_tile))
      (and_both (is_suited r.tile) _ (and_left (is_suited r.tile) _ (o.alone r.tile r.is_tile r.held)) r.passes)))
