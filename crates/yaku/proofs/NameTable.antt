-- The table of names: each name once, in the order of the tallies, and what is read off a table in that order. Assumes nothing.
use mathlib.Core.Path.{◌≡◌, refl, sym, ap, ◌∙◌}
use mathlib.Core.Bool.{Bool, true, false, ◌&&◌, cond, and-false, beq}
use mathlib.Core.List.{List, ◌++◌, map}
use Prim.Native.Nat.{ℕ, zero, suc, ◌+◌, ◌-◌, ◌<◌, ◌≤◌}
use native.Mathlib.Decide.{dec_lt}
use native.Mathlib.Omega.{arith}
use lib.Dec.{T, leb, ltb, leb→le, ltb→lt}
use borrow.Author.Tests.{le-ltb}
use lib.ListN.{get_or, replicate, length, get_or-map, get_or-eq_default}
use Rattle.lists.specs.Fold.{up_from}
use Rattle.lists.proofs.Elements.{same_default}
use Rattle.lists.proofs.Finite.{at, beq→eq, and_left, and_right, true→t}
use Rattle.tile.specs.declared.Tile.{Tile}
use Rattle.tile.specs.Tile.{is_honor}
use Rattle.yaku.specs.declared.names.Yaku.{Yaku}
use Rattle.yaku.specs.declared.names.Yaku.TheVariants.{Riichi, Ippatsu, MenzenTsumo, Tanyao, Pinfu, Iipeikou, Yakuhai, RinshanKaihou, Chankan, HaiteiRaoyue, HouteiRaoyui, DoubleRiichi, Toitoi, SanshokuDoujun, SanshokuDoukou, Ittsu, Chiitoitsu, Chanta, SanAnkou, SanKantsu, Honroutou, Shousangen, Honitsu, Junchan, Ryanpeikou, Chinitsu, Tenhou, Chiihou, KokushiMusou, Suuankou, Daisangen, Shousuushii, Daisuushii, Tsuuiisou, Chinroutou, Ryuuiisou, ChuurenPoutou, SuuKantsu, Kokushi13Wait, SuuankouTanki, JunseiChuurenPoutou}
use Rattle.yaku.specs.Names.{is_yakuman_name, place, yakuhai_name, names}

-- ---- each by one computed test
-- the place of the i-th name is i
pub places : map place names ≡ up_from 47 0
unfolding names
places = refl

-- the last 15 are the yakuman, and no other is one
pub yakuman_last : map is_yakuman_name names ≡ replicate 32 false ++ replicate 15 true
unfolding names
yakuman_last = refl

-- ---- every name stands at its place, but for the honor of a Yakuhai
-- a Yakuhai of a tile that is no honor stands for what is at no place
abbrev nowhere : Yaku
nowhere = yakuhai_name 47

unfoldable name_at : ℕ → Yaku
name_at i = get_or names i nowhere

-- for an answer that is the same for each Yakuhai
module _ {A : Type 0} (f : Yaku → A) (same : (t : Tile) → f (Yakuhai t) ≡ f nowhere) where
  at_honor : (j : ℕ) → j < 7 → f (name_at (6 + j)) ≡ f nowhere
  unfolding name_at names
  at_honor zero h = same _
  at_honor (suc zero) h = same _
  at_honor (suc (suc zero)) h = same _
  at_honor (suc (suc (suc zero))) h = same _
  at_honor (suc (suc (suc (suc zero)))) h = same _
  at_honor (suc (suc (suc (suc (suc zero))))) h = same _
  at_honor (suc (suc (suc (suc (suc (suc zero)))))) h = same _
  at_honor (suc (suc (suc (suc (suc (suc (suc j))))))) h = absurd (omega arith)

  at_tile_holds : (t : ℕ) (b : Bool) → is_honor t ≡ b → f (name_at (cond b (t - 21) 47)) ≡ f nowhere
  unfolding name_at names
  at_tile_holds t false e = refl
  at_tile_holds t true e =
      let low = leb→le 27 t (and_left (leb 27 t) (ltb t 34) (true→t _ e)) in
      let high = ltb→lt t 34 (and_right (leb 27 t) (ltb t 34) (true→t _ e)) in
      let i : t - 21 ≡ 6 + (t - 27) = omega arith in
      ap (λ (n : ℕ). f (name_at n)) i ∙ at_honor (t - 27) (omega arith)

  at_place : (y : Yaku) → f (name_at (place y)) ≡ f y
  unfolding name_at names
  at_place Riichi = refl
  at_place Ippatsu = refl
  at_place MenzenTsumo = refl
  at_place Tanyao = refl
  at_place Pinfu = refl
  at_place Iipeikou = refl
  at_place (Yakuhai t) = at_tile_holds t.0 (is_honor t.0) refl ∙ sym (same t)
  at_place RinshanKaihou = refl
  at_place Chankan = refl
  at_place HaiteiRaoyue = refl
  at_place HouteiRaoyui = refl
  at_place DoubleRiichi = refl
  at_place Toitoi = refl
  at_place SanshokuDoujun = refl
  at_place SanshokuDoukou = refl
  at_place Ittsu = refl
  at_place Chiitoitsu = refl
  at_place Chanta = refl
  at_place SanAnkou = refl
  at_place SanKantsu = refl
  at_place Honroutou = refl
  at_place Shousangen = refl
  at_place Honitsu = refl
  at_place Junchan = refl
  at_place Ryanpeikou = refl
  at_place Chinitsu = refl
  at_place Tenhou = refl
  at_place Chiihou = refl
  at_place KokushiMusou = refl
  at_place Suuankou = refl
  at_place Daisangen = refl
  at_place Shousuushii = refl
  at_place Daisuushii = refl
  at_place Tsuuiisou = refl
  at_place Chinroutou = refl
  at_place Ryuuiisou = refl
  at_place ChuurenPoutou = refl
  at_place SuuKantsu = refl
  at_place Kokushi13Wait = refl
  at_place SuuankouTanki = refl
  at_place JunseiChuurenPoutou = refl

  -- the answers in the order of the names
  in_table : (y : Yaku) → get_or (map f names) (place y) (f nowhere) ≡ f y
  unfolding name_at
  in_table y = get_or-map f names (place y) nowhere ∙ at_place y

-- ---- the han of a name, read off the table
module _ (f : Yaku → ℕ) (same : (t : Tile) → f (Yakuhai t) ≡ 1) where
  value : (y : Yaku) → get_or (map f names) (place y) 1 ≡ f y
  value y = ap (λ (d : ℕ). get_or (map f names) (place y) d) (sym (same _)) ∙ in_table f (λ t. same t ∙ sym (same _)) y

  size : length (map f names) ≡ 47
  unfolding names
  size = refl

  -- i is the place of the name y
  module _ (y : Yaku) (i : ℕ) (e : i ≡ place y) where
    pub at_name : i < 47 → get_or (map f names) i 0 ≡ f y
    at_name h = same_default (map f names) i 0 1 (omega (arith, size)) ∙ ap (λ (k : ℕ). get_or (map f names) k 1) e ∙ value y

    pub past_names : 47 ≤ i → 1 ≡ f y
    past_names h = sym (get_or-eq_default (map f names) 1 {n = i} (omega (arith, size))) ∙ ap (λ (k : ℕ). get_or (map f names) k 1) e ∙ value y

-- ---- the yakuman are those from place 32 on
abbrev last_fifteen : List Bool
last_fifteen = replicate 32 false ++ replicate 15 true

from_32 : (i : ℕ) → Dec (i < 47) → (leb 32 i && ltb i 47) ≡ get_or last_fifteen i false
from_32 i (yes h) =
    beq→eq _ _ (at 47 (λ i. beq (leb 32 i && ltb i 47) (get_or last_fifteen i false)) tt i h)
from_32 i (no h) =
    rw (le-ltb i 47 (omega arith)) (and-false (leb 32 i) ∙ sym (get_or-eq_default last_fifteen false {n = i} (omega arith)))

pub yakuman_at : (y : Yaku) → (leb 32 (place y) && ltb (place y) 47) ≡ is_yakuman_name y
yakuman_at y =
    from_32 (place y) (dec_lt (place y) 47)
    ∙ ap (λ (l : List Bool). get_or l (place y) false) (sym yakuman_last)
    ∙ in_table is_yakuman_name (λ t. refl) y
