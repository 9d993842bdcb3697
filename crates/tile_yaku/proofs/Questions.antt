-- The sorts of tiles there are, taken tile by tile, and each yaku that every tile must pass by the sorts that are not there.
-- Assumes nothing.
use mathlib.Core.Path.{◌≡◌, refl, sym, ap, ap₂, ◌∙◌}
use mathlib.Core.Bool.{Bool, true, false, ◌&&◌, ◌||◌, not, and-false, and_self, beq}
use mathlib.Core.List.{List, [], ◌∷◌}
use Prim.Native.Nat.{ℕ, ◌+◌, ◌≤◌}
use lib.Dec.{T, eqb, leb}
use Rattle.lists.specs.Fold.{all, any}
use Rattle.lists.proofs.Finite.{and_left, and_right, beq→eq, leb_one}
use Rattle.tile.specs.Tile.{is_green, is_honor, is_simple, is_terminal, is_terminal_or_honor, tiles}
use Rattle.tile_yaku.specs.declared.TileYaku.{TileYaku}
use Rattle.tile_yaku.specs.declared.Sorts.{Sorts}
use Rattle.tile_yaku.specs.Tiles.{only, some, tanyao, honroutou, tsuuiisou, chinroutou, ryuuiisou, one_suit, honitsu, chinitsu, nine_gates, pure_wait, tile_yaku}
use Rattle.tile_yaku.proofs.Below.{some_below, flag_on, flag_end}

-- the tile t is there and passes the question q
abbrev pub there : (ℕ → ℕ) → (ℕ → Bool) → ℕ → Bool
there c q t = leb 1 (c t) && q t

-- at one tile: z, none of it is there; a, b, it passes two questions; m, n, some other tile there does
not_either : (z a b m n : Bool) → ((z || not (a || b)) && (not m && not n)) ≡ (not (not z && a || m) && not (not z && b || n))
not_either true a b m n = refl
not_either false true b m n = refl
not_either false false true m n = sym (and-false (not m))
not_either false false false m n = refl

-- to pass p is to pass neither q nor r, at t
abbrev pub neither : (ℕ → Bool) → (ℕ → Bool) → (ℕ → Bool) → ℕ → Bool
neither p q r t = beq (p t) (not (q t || r t))

-- then every tile there passes p exactly where none there passes q and none passes r
module _ (p q r : ℕ → Bool) (c : ℕ → ℕ) where
  only_over :
      (l : List ℕ) → T (all (neither p q r) l)
      → all (λ t. eqb (c t) 0 || p t) l ≡ (not (any (there c q) l) && not (any (there c r) l))
  only_over [] h = refl
  only_over (t ∷ l) h =
      let e : p t ≡ not (q t || r t) = beq→eq (p t) (not (q t || r t)) (and_left (neither p q r t) (all (neither p q r) l) h) in
      ap₂ (λ (x y : Bool). (eqb (c t) 0 || x) && y) e (only_over l (and_right (neither p q r t) (all (neither p q r) l) h))
      ∙ not_either (eqb (c t) 0) (q t) (r t) (any (there c q) l) (any (there c r) l)
      ∙ ap (λ (x : Bool). not (x && q t || any (there c q) l) && not (x && r t || any (there c r) l)) (sym (leb_one (c t)))

  pub only_neither : T (all (neither p q r) tiles) → only p c ≡ (not (some q c) && not (some r c))
  only_neither = only_over tiles

pub only_not : (p q : ℕ → Bool) (c : ℕ → ℕ) → T (all (neither p q q) tiles) → only p c ≡ not (some q c)
only_not p q c h = only_neither p q q c h ∙ and_self (not (some q c))

-- ---- the sorts of tiles there are: four flags over the tiles so far, one more tile, and the last
abbrev pub sorts_of : (ℕ → ℕ) → Sorts
sorts_of c =
    record {
      simple = some is_simple c;
      terminal = some is_terminal c;
      honor = some is_honor c;
      other_than_green = some (λ t. not (is_green t)) c;
    }

abbrev pub Flags : (ℕ → ℕ) → ℕ → Bool → Bool → Bool → Bool → Type 0
Flags c i simple terminal honor other =
    (simple ≡ some_below i (there c is_simple))
    × ((terminal ≡ some_below i (there c is_terminal))
    × ((honor ≡ some_below i (there c is_honor)) × (other ≡ some_below i (there c (λ t. not (is_green t))))))

module _ (c : ℕ → ℕ) (i : ℕ) where
  flag : (q : ℕ → Bool) (b x : Bool) → b ≡ some_below i (there c q) → x ≡ q i → (b || (leb 1 (c i) && x)) ≡ some_below (i + 1) (there c q)
  flag q b x e f = flag_on (there c q) i b (leb 1 (c i) && x) e (ap (λ (y : Bool). leb 1 (c i) && y) f)

  pub flags_on :
      {simple terminal honor other : Bool} → Flags c i simple terminal honor other → (s t h g : Bool)
      → s ≡ is_simple i → t ≡ is_terminal i → h ≡ is_honor i → g ≡ is_green i
      → Flags c (i + 1) (simple || (leb 1 (c i) && s)) (terminal || (leb 1 (c i) && t)) (honor || (leb 1 (c i) && h))
      (other || (leb 1 (c i) && not g))
  flags_on {simple} {terminal} {honor} {other} f s t h g d e u v = (
    flag is_simple simple s f.0 d,
    (flag is_terminal terminal t f.1.0 e, (flag is_honor honor h f.1.1.0 u, flag (λ t. not (is_green t)) other (not g) f.1.1.1 (ap not v))),
  )

  pub flags_end :
      {simple terminal honor other : Bool} → 34 ≤ i → i ≤ 34 → Flags c i simple terminal honor other
      → ◌≡◌ {A = Sorts} record { simple = simple; terminal = terminal; honor = honor; other_than_green = other } (sorts_of c)
  flags_end {simple} {terminal} {honor} {other} h k f =
      let a = flag_end (there c is_simple) i simple h k f.0 in
      let b = flag_end (there c is_terminal) i terminal h k f.1.0 in
      let d = flag_end (there c is_honor) i honor h k f.1.1.0 in
      let e = flag_end (there c (λ t. not (is_green t))) i other h k f.1.1.1 in
      cc

-- ---- the answers, by the sorts of tiles there are
module _ (c : ℕ → ℕ) (s : Sorts) (e : s ≡ sorts_of c) where
  tanyao_is : (not s.terminal && not s.honor) ≡ tanyao c
  unfolding tanyao
  tanyao_is = ap (λ (s : Sorts). not s.terminal && not s.honor) e ∙ sym (only_neither is_simple is_terminal is_honor c tt)

  honroutou_is : not s.simple ≡ honroutou c
  unfolding honroutou
  honroutou_is = ap (λ (s : Sorts). not s.simple) e ∙ sym (only_not is_terminal_or_honor is_simple c tt)

  tsuuiisou_is : (not s.simple && not s.terminal) ≡ tsuuiisou c
  unfolding tsuuiisou
  tsuuiisou_is = ap (λ (s : Sorts). not s.simple && not s.terminal) e ∙ sym (only_neither is_honor is_simple is_terminal c tt)

  chinroutou_is : (not s.simple && not s.honor) ≡ chinroutou c
  unfolding chinroutou
  chinroutou_is = ap (λ (s : Sorts). not s.simple && not s.honor) e ∙ sym (only_neither is_terminal is_simple is_honor c tt)

  ryuuiisou_is : not s.other_than_green ≡ ryuuiisou c
  unfolding ryuuiisou
  ryuuiisou_is = ap (λ (s : Sorts). not s.other_than_green) e ∙ sym (only_not is_green (λ t. not (is_green t)) c tt)

  module _ (flush : Bool) (f : flush ≡ one_suit c) where
    honitsu_is : (flush && s.honor) ≡ honitsu c
    unfolding honitsu
    honitsu_is = ap₂ (λ (x : Bool) (s : Sorts). x && s.honor) f e

    pub chinitsu_is : (flush && not s.honor) ≡ chinitsu c
    unfolding chinitsu
    chinitsu_is = ap₂ (λ (x : Bool) (s : Sorts). x && not s.honor) f e

    pub answers :
        (t : ℕ) (gates pure : Bool) → gates ≡ nine_gates c → pure ≡ pure_wait c t
        → ◌≡◌ {A = TileYaku}
        record {
          tanyao = not s.terminal && not s.honor;
          honroutou = not s.simple;
          honitsu = flush && s.honor;
          chinitsu = flush && not s.honor;
          tsuuiisou = not s.simple && not s.terminal;
          chinroutou = not s.simple && not s.honor;
          ryuuiisou = not s.other_than_green;
          nine_gates = gates;
          pure_wait = pure;
        }
        (tile_yaku c t)
    unfolding tile_yaku
    answers t gates pure g w = cc (tanyao_is, honroutou_is, honitsu_is, chinitsu_is, tsuuiisou_is, chinroutou_is, ryuuiisou_is)
