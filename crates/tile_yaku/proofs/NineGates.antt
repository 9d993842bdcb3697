-- Nine gates in a rulebook's words: 1112345678999 of a suit and one more tile of it, and nothing else; the wait is pure exactly on that tile.
-- They are a full flush. Assumes nothing.
use mathlib.Core.Path.{◌≡◌, refl, sym, ap, ap₂, subst, ◌∙◌}
use mathlib.Core.Logic.{⊎_elim}
use mathlib.Core.Bool.{Bool, true, false, cond}
use mathlib.Core.List.Memᴰ
use mathlib.Core.List.{List, [], ◌∷◌, map, Memᴰ}
use Prim.Native.Nat.{ℕ, suc, ◌+◌, ◌*◌, ◌<◌, ◌≤◌}
use native.Mathlib.Decide.{ℕ_discrete}
use native.Mathlib.Omega.{arith}
use borrow.Author.Tests.{eq-eqb, ne_eqb}
use lib.Dec.{T, eqb, leb, ltb, eqb→eq, eqb_refl, leb→le, le→leb, ltb→lt}
use Rattle.lists.specs.Fold.{all, all_below, any, one, sum, total}
use Rattle.lists.specs.Order.{Nodup}
use Rattle.lists.proofs.Finite.{and_left, and_both, at, true→t}
use Rattle.lists.proofs.Members.{all_mem, all_intro, any_elim, map_members, any_of}
use Rattle.lists.proofs.Arranged.{any_mem}
use Rattle.lists.proofs.Sums.{sum_plus}
use Rattle.tile.specs.Tile.{is_terminal, tiles}
use Rattle.tile.specs.Named.{mans}
use Rattle.tile.proofs.Tiles.{in_tiles, tile_lt, tiles_nodup}
use Rattle.hand.specs.Named.{of_tiles}
use Rattle.tile_yaku.specs.Tiles.{suits, of_suit, chinitsu, gate, nine_gates, pure_wait}
use Rattle.tile_yaku.proofs.Rules.{means_chinitsu}
use Rattle.tile_yaku.proofs.Totals.{sum_mono, one_tile, nine_gates_fourteen}

-- ---- two functions of which one is never below the other
module _ (f g : ℕ → ℕ) where
  -- with equal sums they agree
  sums_agree :
      (l : List ℕ) → ((a : ℕ) → Memᴰ a l → f a ≤ g a) → sum f l ≡ sum g l → (a : ℕ) → Memᴰ a l → f a ≡ g a
  sums_agree [] h e a x3 = elim x3 [ ]
  sums_agree (b ∷ l) h e a (Memᴰ.head p) =
      let m = sum_mono f g l (λ x i. h x (Memᴰ.tail i)) in
      let k = h b (Memᴰ.head refl) in
      let z : f b ≡ g b = omega arith in
      ap f p ∙ z ∙ sym (ap g p)
  sums_agree (b ∷ l) h e a (Memᴰ.tail i) =
      let m = sum_mono f g l (λ x j. h x (Memᴰ.tail j)) in
      let k = h b (Memᴰ.head refl) in
      let z : sum f l ≡ sum g l = omega arith in
      sums_agree l (λ x j. h x (Memᴰ.tail j)) z a i

  -- with one more in all, they agree but for one member
  record OneMore (l : List ℕ) : Type 0 where
    extra : ℕ
    is_in : Memᴰ extra l
    exact : (a : ℕ) → Memᴰ a l → g a ≡ f a + one (eqb a extra)

  here : (a b : ℕ) → a ≡ b → g b ≡ f b + 1 → g a ≡ f a + one (eqb a b)
  here a b p e = ap g p ∙ e ∙ sym (ap₂ (λ (x y : ℕ). f x + y) p (ap one (eq-eqb a b p)))

  elsewhere : (a b : ℕ) → (a ≡ b → ⊥) → g a ≡ f a → g a ≡ f a + one (eqb a b)
  elsewhere a b p e = let z = ap one (ne_eqb a b p) in omega arith

  one_more : (l : List ℕ) → Nodup l → ((a : ℕ) → Memᴰ a l → f a ≤ g a) → sum g l ≡ suc (sum f l) → OneMore l
  one_more [] n h e = absurd (omega arith)
  one_more (b ∷ l) n h e = go (ℕ_discrete (g b) (f b)) (one_more l n.1 rest) (sum_mono f g l rest) (h b (Memᴰ.head refl))
    where
      rest : (a : ℕ) → Memᴰ a l → f a ≤ g a
      rest a i = h a (Memᴰ.tail i)

      go : Dec (g b ≡ f b) → (sum g l ≡ suc (sum f l) → OneMore l) → sum f l ≤ sum g l → f b ≤ g b → OneMore (b ∷ l)
      go (yes q) r m k =
          let z = r (omega arith) in
          record {
            extra = z.extra;
            is_in = Memᴰ.tail z.is_in;
            exact =
                λ a i.
                ⊎_elim (λ p. elsewhere a z.extra (λ w. n.0 (Memᴰ.cast (sym p ∙ w) z.is_in)) (ap g p ∙ q ∙ sym (ap f p))) (z.exact a)
                (Memᴰ.cases_cons i);
          }
      go (no q) r m k =
          let y : g b ≡ f b + 1 = omega arith in
          let z : sum f l ≡ sum g l = omega arith in
          record {
            extra = b;
            is_in = Memᴰ.head refl;
            exact =
                λ a i.
                ⊎_elim (λ p. here a b p y) (λ j. elsewhere a b (λ w. n.0 (Memᴰ.cast (sym w) j)) (sym (sums_agree l rest z a j)))
                (Memᴰ.cases_cons i);
          }

-- ---- 1112345678999 of the suit s
abbrev pub thirteen : ℕ → List ℕ
thirteen s = map (λ t. s * 9 + t) (mans 1112345678999)

-- three of each terminal and one of each other number of the suit
thirteen_test : T (all_below 3 (λ s. all_below 34 (λ t. eqb (of_tiles (thirteen s) t) (cond (of_suit s t) (cond (is_terminal t) 3 1) 0))))
thirteen_test = tt

thirteen_is : (s : ℕ) → s < 3 → (t : ℕ) → t < 34 → of_tiles (thirteen s) t ≡ cond (of_suit s t) (cond (is_terminal t) 3 1) 0
thirteen_is s k t h =
    eqb→eq _ _
    (at 34 (λ t. eqb (of_tiles (thirteen s) t) (cond (of_suit s t) (cond (is_terminal t) 3 1) 0))
    (at 3 (λ s. all_below 34 (λ t. eqb (of_tiles (thirteen s) t) (cond (of_suit s t) (cond (is_terminal t) 3 1) 0))) thirteen_test s k) t h)

thirteen_count_test : T (all_below 3 (λ s. eqb (sum (of_tiles (thirteen s)) tiles) 13))
thirteen_count_test = tt

thirteen_count : (s : ℕ) → s < 3 → sum (of_tiles (thirteen s)) tiles ≡ 13
thirteen_count s k = eqb→eq _ 13 (at 3 (λ s. eqb (sum (of_tiles (thirteen s)) tiles) 13) thirteen_count_test s k)

-- these and one more tile of the suit, and nothing else
pub record Gates (c : ℕ → ℕ) : Type 0 where
  pub suit : ℕ
  pub is_suit : suit < 3
  pub extra : ℕ
  pub is_tile : extra < 34
  pub in_suit : T (of_suit suit extra)
  pub exact : (t : ℕ) → t < 34 → c t ≡ of_tiles (thirteen suit) t + one (eqb t extra)

-- ---- nine gates are that. At one tile: n, how many are there; own, it is of the suit; term, it is a terminal
abbrev fitting : ℕ → Bool → Bool → Bool
fitting n own term = cond own (leb (cond term 3 1) n) (eqb n 0)

fitting_least : (n : ℕ) (own term : Bool) → T (fitting n own term) → cond own (cond term 3 1) 0 ≤ n
fitting_least n true term t = leb→le (cond term 3 1) n t
fitting_least n false term t = omega arith

fitting_own : (n : ℕ) (own term : Bool) → T (fitting n own term) → 1 ≤ n → T own
fitting_own n true term t h = tt
fitting_own n false term t h = let e = eqb→eq n 0 t in absurd (omega arith)

-- the one more is there
one_there : (n k u : ℕ) → n ≡ k + one (eqb u u) → 1 ≤ n
one_there n k u e = let z = ap one (eq-eqb u u refl) in omega arith

module _ (c : ℕ → ℕ) where
  some_suit : T (nine_gates c) → T (any (λ s. all (gate c s) tiles) suits)
  unfolding nine_gates
  some_suit g = and_left (any (λ s. all (gate c s) tiles) suits) _ g

  pub nine_gates_means : T (nine_gates c) → Gates c
  nine_gates_means g =
      let r = any_elim (λ s. all (gate c s) tiles) suits (some_suit g) in
      let s = r.0 in
      let k = ltb→lt s 3 (all_mem (λ s. ltb s 3) {l = suits} tt r.1) in
      let m =
      one_more (of_tiles (thirteen s)) c tiles tiles_nodup
      (λ t i. subst (λ (n : ℕ). n ≤ c t) (sym (thirteen_is s k t (tile_lt i))) (fitting_least (c t) (of_suit s t) (is_terminal t) (all_mem (gate c s) {l = tiles} r.2 i)))
      (nine_gates_fourteen c g ∙ ap suc (sym (thirteen_count s k)))
      in
      let u = m.extra in
      record {
        suit = s;
        is_suit = k;
        extra = u;
        is_tile = tile_lt m.is_in;
        in_suit = fitting_own (c u) (of_suit s u) (is_terminal u) (all_mem (gate c s) {l = tiles} r.2 m.is_in) (one_there _ _ u (m.exact u m.is_in));
        exact = λ t h. m.exact t (in_tiles t h);
      }

  module _ (g : Gates c) where
    -- at one tile: extra, it is the one more
    at_tile_holds :
        (t : ℕ) → t < 34
        → (c t ≡ cond (of_suit g.suit t) (cond (is_terminal t) 3 1) 0 + one (eqb t g.extra)) × (T (eqb t g.extra) → T (of_suit g.suit t))
    at_tile_holds t h = (
      g.exact t h ∙ ap (λ (n : ℕ). n + one (eqb t g.extra)) (thirteen_is g.suit g.is_suit t h),
      λ i. subst (λ (u : ℕ). T (of_suit g.suit u)) (sym (eqb→eq t g.extra i)) g.in_suit,
    )

    pub means_nine_gates : T (nine_gates c)
    unfolding nine_gates
    means_nine_gates =
        and_both (any (λ s. all (gate c s) tiles) suits) _
        (any_of (λ s. all (gate c s) tiles) (any_mem eqb eqb→eq eqb_refl g.suit suits (at 3 (λ s. any (eqb s) suits) tt g.suit g.is_suit))
        (all_intro (gate c g.suit) tiles
        (λ t i. let a = at_tile_holds t (tile_lt i) in fit (c t) (of_suit g.suit t) (is_terminal t) (eqb t g.extra) a.0 a.1)))
        (true→t (eqb (sum c tiles) 14)
        (eq-eqb (sum c tiles) 14
        (ap total (map_members c (λ t. of_tiles (thirteen g.suit) t + one (eqb t g.extra)) tiles (λ t i. g.exact t (tile_lt i)))
        ∙ sum_plus (of_tiles (thirteen g.suit)) (λ t. one (eqb t g.extra)) tiles
        ∙ ap₂ ◌+◌ (thirteen_count g.suit g.is_suit) (one_tile g.extra g.is_tile))))
      where
        fit : (n : ℕ) (own term extra : Bool) → n ≡ cond own (cond term 3 1) 0 + one extra → (T extra → T own) → T (fitting n own term)
        fit n true term extra e f = le→leb (cond term 3 1) n (omega arith)
        fit n false term true e f = absurd (f tt)
        fit n false term false e f = true→t (eqb n 0) (eq-eqb n 0 e)

    -- the wait is pure where the winning tile is the one more: without it stand just 1112345678999
    pub pure_wait_means : (t : ℕ) → t < 34 → pure_wait c t ≡ eqb t g.extra
    unfolding pure_wait
    pure_wait_means t h = let a = at_tile_holds t h in over (c t) (of_suit g.suit t) (is_terminal t) (eqb t g.extra) a.0 a.1
      where
        over :
            (n : ℕ) (own term extra : Bool) → n ≡ cond own (cond term 3 1) 0 + one extra → (T extra → T own) → eqb n (cond term 4 2) ≡ extra
        over n true true true e f = eq-eqb n 4 e
        over n true true false e f = ne_eqb n 4 (λ q. omega arith)
        over n true false true e f = eq-eqb n 2 e
        over n true false false e f = ne_eqb n 2 (λ q. omega arith)
        over n false term true e f = absurd (f tt)
        over n false true false e f = ne_eqb n 4 (λ q. omega arith)
        over n false false false e f = ne_eqb n 2 (λ q. omega arith)

    -- a full flush
    gates_chinitsu : T (chinitsu c)
    gates_chinitsu =
        means_chinitsu c
        record {
          suit = g.suit;
          is_suit = g.is_suit;
          there =
              record {
                tile = g.extra;
                is_tile = g.is_tile;
                held = one_there _ _ g.extra (g.exact g.extra g.is_tile);
                passes = g.in_suit;
              };
          alone =
              λ t h k. let a = at_tile_holds t h in own_there (c t) (of_suit g.suit t) (is_terminal t) (eqb t g.extra) a.0 a.1 k;
        }
      where
        own_there : (n : ℕ) (own term extra : Bool) → n ≡ cond own (cond term 3 1) 0 + one extra → (T extra → T own) → 1 ≤ n → T own
        own_there n true term extra e f h = tt
        own_there n false term true e f h = f tt
        own_there n false term false e f h = absurd (omega arith)

  pub nine_gates_chinitsu : T (nine_gates c) → T (chinitsu c)
  nine_gates_chinitsu n = gates_chinitsu (nine_gates_means n)
