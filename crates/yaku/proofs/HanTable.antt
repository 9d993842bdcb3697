-- The table of names and han by what a rulebook lists together: the order of the tallies; the yaku of one han, of two, and so on; those that
-- need a closed hand; those that lose a han when something is called. Assumes nothing.
use mathlib.Core.Path.{◌≡◌, refl}
use mathlib.Core.Bool.{Bool, ◌&&◌}
use mathlib.Core.List.{List, [], ◌∷◌, ◌++◌, map}
use lib.Dec.{eqb, ltb}
use Rattle.lists.specs.Fold.{any, keep, up_from}
use Rattle.tile.specs.Named.{East, South, West, North, White, Green, Red}
use Rattle.yaku.specs.declared.names.Yaku.{Yaku}
use Rattle.yaku.specs.declared.names.Yaku.TheVariants.{Riichi, Ippatsu, MenzenTsumo, Tanyao, Pinfu, Iipeikou, RinshanKaihou, Chankan, HaiteiRaoyue, HouteiRaoyui, DoubleRiichi, Toitoi, SanshokuDoujun, SanshokuDoukou, Ittsu, Chiitoitsu, Chanta, SanAnkou, SanKantsu, Honroutou, Shousangen, Honitsu, Junchan, Ryanpeikou, Chinitsu, Tenhou, Chiihou, KokushiMusou, Suuankou, Daisangen, Shousuushii, Daisuushii, Tsuuiisou, Chinroutou, Ryuuiisou, ChuurenPoutou, SuuKantsu, Kokushi13Wait, SuuankouTanki, JunseiChuurenPoutou}
use Rattle.yaku.specs.Names.{han_closed, han_open, place, yakuhai_name, names}

-- the yaku that pass a question, in the order of the tallies
abbrev pub those : (Yaku → Bool) → List Yaku
unfolding names
those q = keep q names

-- a Yakuhai for each honor
abbrev pub yakuhais : List Yaku
yakuhais = map yakuhai_name (East ∷ South ∷ West ∷ North ∷ White ∷ Green ∷ Red ∷ [])

-- is the yaku among these
abbrev pub among : List Yaku → Yaku → Bool
among ys y = any (λ x. eqb (place x) (place y)) ys

-- ---- the order of the tallies: that of agari's `Yaku`, a Yakuhai for each honor, the local yaku left out
pub agari_order :
    map place
    (Riichi ∷ Ippatsu ∷ MenzenTsumo ∷ Tanyao ∷ Pinfu ∷ Iipeikou ∷ yakuhais
    ++ (RinshanKaihou ∷ Chankan ∷ HaiteiRaoyue ∷ HouteiRaoyui
    ∷ DoubleRiichi ∷ Toitoi ∷ SanshokuDoujun ∷ SanshokuDoukou ∷ Ittsu ∷ Chiitoitsu ∷ Chanta ∷ SanAnkou ∷ SanKantsu ∷ Honroutou ∷ Shousangen
    ∷ Honitsu ∷ Junchan ∷ Ryanpeikou
    ∷ Chinitsu
    ∷ Tenhou ∷ Chiihou ∷ KokushiMusou ∷ Suuankou ∷ Daisangen ∷ Shousuushii ∷ Daisuushii ∷ Tsuuiisou ∷ Chinroutou ∷ Ryuuiisou ∷ ChuurenPoutou ∷ SuuKantsu
    ∷ Kokushi13Wait ∷ SuuankouTanki ∷ JunseiChuurenPoutou
    ∷ []))
    ≡ up_from 47 0
agari_order = refl

-- ---- in a closed hand
-- one han
pub of_one_han : those (λ y. eqb (han_closed y) 1) ≡ Riichi ∷ Ippatsu ∷ MenzenTsumo ∷ Tanyao ∷ Pinfu ∷ Iipeikou ∷ yakuhais ++ (RinshanKaihou ∷ Chankan ∷ HaiteiRaoyue ∷ HouteiRaoyui ∷ [])
unfolding names
of_one_han = refl

-- two
pub of_two_han : those (λ y. eqb (han_closed y) 2) ≡ DoubleRiichi ∷ Toitoi ∷ SanshokuDoujun ∷ SanshokuDoukou ∷ Ittsu ∷ Chiitoitsu ∷ Chanta ∷ SanAnkou ∷ SanKantsu ∷ Honroutou ∷ Shousangen ∷ []
unfolding names
of_two_han = refl

-- three
pub of_three_han : those (λ y. eqb (han_closed y) 3) ≡ Honitsu ∷ Junchan ∷ Ryanpeikou ∷ []
unfolding names
of_three_han = refl

-- six
pub of_six_han : those (λ y. eqb (han_closed y) 6) ≡ Chinitsu ∷ []
unfolding names
of_six_han = refl

-- a yakuman
pub of_a_yakuman : those (λ y. eqb (han_closed y) 13) ≡ Tenhou ∷ Chiihou ∷ KokushiMusou ∷ Suuankou ∷ Daisangen ∷ Shousuushii ∷ Tsuuiisou ∷ Chinroutou ∷ Ryuuiisou ∷ ChuurenPoutou ∷ SuuKantsu ∷ []
unfolding names
of_a_yakuman = refl

-- two yakuman
pub of_two_yakuman : those (λ y. eqb (han_closed y) 26) ≡ Daisuushii ∷ Kokushi13Wait ∷ SuuankouTanki ∷ JunseiChuurenPoutou ∷ []
unfolding names
of_two_yakuman = refl

-- ---- in an open hand: nothing, one han less, or as much as in a closed one (`table_rule` of Laws)
-- those that need a closed hand
pub need_a_closed_hand : those (λ y. eqb (han_open y) 0) ≡ Riichi ∷ Ippatsu ∷ MenzenTsumo ∷ Pinfu ∷ Iipeikou ∷ DoubleRiichi ∷ Ryanpeikou ∷ Tenhou ∷ Chiihou ∷ KokushiMusou ∷ Suuankou ∷ ChuurenPoutou ∷ Kokushi13Wait ∷ SuuankouTanki ∷ JunseiChuurenPoutou ∷ []
unfolding names
need_a_closed_hand = refl

-- those that lose a han
pub lose_a_han : those (λ y. ltb 0 (han_open y) && ltb (han_open y) (han_closed y)) ≡ SanshokuDoujun ∷ Ittsu ∷ Chanta ∷ Honitsu ∷ Junchan ∷ Chinitsu ∷ []
unfolding names
lose_a_han = refl
