-- Where there are fewer than three triplets and kans, each yaku that needs them is not there. Assumes nothing.
use mathlib.Core.Path.{◌≡◌, sym, subst, refl}
use mathlib.Core.Bool.{Bool, true, false, ◌&&◌, ◌||◌}
use mathlib.Core.List.{List, [], ◌∷◌}
use Prim.Native.Nat.{ℕ, ◌+◌, ◌<◌, ◌≤◌}
use native.Mathlib.Omega.{arith}
use lib.Dec.{T, eqb, leb, ltb, eqb→eq, leb→le, le→leb, lit≤}
use lib.ListN.{length}
use borrow.Author.Tests.{eqb-true}
use Rattle.lists.specs.Fold.{all, any, count, one}
use Rattle.lists.proofs.Finite.{and_left, and_right, and_both, or_elim, T→true, ¬T→false}
use Rattle.meld.specs.declared.Meld.{Meld}
use Rattle.meld.specs.Meld.{is_kan, is_triplet_or_kan}
use Rattle.context.specs.declared.GameContext.{GameContext}
use Rattle.hand.specs.Reading.{Reading}
use Rattle.structure.specs.declared.HandStructure.{HandStructure}
use Rattle.structure.specs.declared.HandStructure.TheVariants.{Standard, Chiitoitsu, Kokushi}
use Rattle.structure.specs.Structure.{reading_of}
use Rattle.structure.proofs.Short.{FourMelds}
use Rattle.wait.specs.Concealed.{concealed, spared}
use Rattle.meld_yaku.specs.Melds.{set_of, three_suits}
use Rattle.meld_yaku.specs.Standard.{of_standard}
use Rattle.meld_yaku.proofs.Few.{all_count, at_most_two, too_few}
use Rattle.set_yaku.specs.declared.SetYaku.{SetYaku}
use Rattle.set_yaku.specs.Sets.{toitoi, kans, san_ankou, sanshoku_doukou, suuankou}

pub kan_set : (m : Meld) → T (is_kan m) → T (is_triplet_or_kan m)
kan_set m h =
    let four = leb→le 4 m.kind (and_left (leb 4 m.kind) (ltb m.kind 7) h) in
    and_both (leb 2 m.kind) (ltb m.kind 7) (le→leb 2 m.kind (omega arith)) (and_right (leb 4 m.kind) (ltb m.kind 7) h)

pub concealed_set : (w : GameContext) (kept : Bool) (m : Meld) → T (concealed w kept m) → T (is_triplet_or_kan m)
concealed_set w kept m h =
    or_elim (eqb m.kind 4) _ h (λ i. of_kind 4 (eqb→eq m.kind 4 i) tt)
    (λ i. of_kind 2 (eqb→eq m.kind 2 (and_left (eqb m.kind 2) _ i)) tt)
  where
    of_kind : (k : ℕ) → m.kind ≡ k → T (leb 2 k && ltb k 7) → T (is_triplet_or_kan m)
    of_kind k e t = subst (λ (n : ℕ). T (leb 2 n && ltb n 7)) (sym e) t

-- a triplet or kan of one of three tiles is of one of them only
one_tile : (b : Bool) (x y z t : ℕ) → x < y → y < z → one (b && eqb x t) + (one (b && eqb y t) + one (b && eqb z t)) ≤ one b
one_tile false x y z t h k = lit≤ tt
one_tile true x y z t h k = go (eqb x t) (eqb y t) (eqb z t) refl refl refl
  where
    go : (a b c : Bool) → eqb x t ≡ a → eqb y t ≡ b → eqb z t ≡ c → one a + (one b + one c) ≤ 1
    go true true c e f g = let p = eqb-true x t e in let q = eqb-true y t f in absurd (omega arith)
    go true false true e f g = let p = eqb-true x t e in let q = eqb-true z t g in absurd (omega arith)
    go true false false e f g = lit≤ tt
    go false true true e f g = let p = eqb-true y t f in let q = eqb-true z t g in absurd (omega arith)
    go false true false e f g = lit≤ tt
    go false false true e f g = lit≤ tt
    go false false false e f g = lit≤ tt

one_or : (a b : Bool) → one (a || b) ≤ one a + one b
one_or true true = lit≤ tt
one_or true false = lit≤ tt
one_or false true = lit≤ tt
one_or false false = lit≤ tt

-- so three tiles that have one take three
module _ (x y z : ℕ) (h : x < y) (k : y < z) where
  abbrev has : ℕ → List Meld → ℕ
  has t ms = one (any (set_of (eqb t)) ms)

  three_tiles : (ms : List Meld) → has x ms + (has y ms + has z ms) ≤ count is_triplet_or_kan ms
  three_tiles [] = lit≤ tt
  three_tiles (m ∷ ms) =
      let first = one_tile (is_triplet_or_kan m) x y z m.tile h k in
      let rest = three_tiles ms in
      let a = one_or (set_of (eqb x) m) (any (set_of (eqb x)) ms) in
      let b = one_or (set_of (eqb y) m) (any (set_of (eqb y)) ms) in
      let c = one_or (set_of (eqb z) m) (any (set_of (eqb z)) ms) in
      omega arith

module _ (ms : List Meld) (few : leb 3 (count is_triplet_or_kan ms) ≡ false) where
  pub no_kans : (n : ℕ) → 3 ≤ n → eqb (kans ms) n ≡ false
  unfolding kans
  no_kans = too_few ms few is_kan kan_set

  pub no_sanankou : (w : GameContext) → san_ankou w ms ≡ false
  unfolding san_ankou
  no_sanankou w = too_few ms few (concealed w (spared w ms)) (concealed_set w (spared w ms)) 3 (lit≤ tt)

  no_toitoi : length ms ≡ 4 → toitoi ms ≡ false
  unfolding toitoi
  no_toitoi size =
      let two = at_most_two ms few in
      ¬T→false (all is_triplet_or_kan ms) (λ t. let four = all_count is_triplet_or_kan ms (T→true _ t) in omega arith)

  -- the same number in each suit
  no_line : (n : ℕ) → all (λ t. any (set_of (eqb t)) ms) (three_suits n) ≡ false
  no_line n =
      let three = three_tiles n (n + 9) (n + 18) (omega arith) (omega arith) ms in
      let two = at_most_two ms few in
      go (any (set_of (eqb n)) ms) (any (set_of (eqb (n + 9))) ms) (any (set_of (eqb (n + 18))) ms) (omega arith)
    where
      go : (a b c : Bool) → one a + (one b + one c) ≤ 2 → (a && (b && (c && true))) ≡ false
      go true true true h = absurd (omega arith)
      go true true false h = refl
      go true false c h = refl
      go false b c h = refl

  no_doukou : sanshoku_doukou ms ≡ false
  unfolding sanshoku_doukou
  no_doukou = simp (no_line 0, no_line 1, no_line 2, no_line 3, no_line 4, no_line 5, no_line 6, no_line 7, no_line 8)

  pub no_suuankou : (w : GameContext) → suuankou w ms ≡ false
  unfolding suuankou
  no_suuankou w = too_few ms few (concealed w false) (concealed_set w false) 4 (lit≤ tt)

-- the four yaku of three sets, for any reading
abbrev pub set_yaku : GameContext → Reading → SetYaku
set_yaku w r =
    record {
      toitoi = of_standard (λ p ms. toitoi ms) r;
      sanshoku_doukou = of_standard (λ p ms. sanshoku_doukou ms) r;
      sanankou = of_standard (λ p ms. san_ankou w ms) r;
      sankantsu = of_standard (λ p ms. eqb (kans ms) 3) r;
    }

abbrev pub no_sets : SetYaku
no_sets = record { toitoi = false; sanshoku_doukou = false; sanankou = false; sankantsu = false }

pub no_sets_holds :
    (w : GameContext) (h : HandStructure) → FourMelds h
    → of_standard (λ p ms. leb 3 (count is_triplet_or_kan ms)) (reading_of h) ≡ false → no_sets ≡ set_yaku w (reading_of h)
no_sets_holds w (Standard p ms) size few = cc (no_toitoi ms few (size p ms refl), no_doukou ms few, no_sanankou ms few w, no_kans ms few 3 (lit≤ tt))
no_sets_holds w (Chiitoitsu ps) size few = refl
no_sets_holds w (Kokushi p) size few = refl
