-- The names of the yaku in the order of the tallies; their han, and their places. These are definitions.
use Rattle.std.specs.Prelude.{Bool, true, false, cond, List, [], ◌∷◌, ℕ, ◌-◌, get_or}
use Rattle.tile.specs.Tile.{is_honor}
use Rattle.yaku.specs.declared.names.Yaku.{Yaku}
use Rattle.yaku.specs.declared.names.Yaku.TheVariants.{Riichi, Ippatsu, MenzenTsumo, Tanyao, Pinfu, Iipeikou, Yakuhai, RinshanKaihou, Chankan, HaiteiRaoyue, HouteiRaoyui, DoubleRiichi, Toitoi, SanshokuDoujun, SanshokuDoukou, Ittsu, Chiitoitsu, Chanta, SanAnkou, SanKantsu, Honroutou, Shousangen, Honitsu, Junchan, Ryanpeikou, Chinitsu, Tenhou, Chiihou, KokushiMusou, Suuankou, Daisangen, Shousuushii, Daisuushii, Tsuuiisou, Chinroutou, Ryuuiisou, ChuurenPoutou, SuuKantsu, Kokushi13Wait, SuuankouTanki, JunseiChuurenPoutou}

-- the han in a closed hand, 13 for each time that a yakuman counts
abbrev pub han_closed : Yaku → ℕ
han_closed Riichi = 1
han_closed Ippatsu = 1
han_closed MenzenTsumo = 1
han_closed Tanyao = 1
han_closed Pinfu = 1
han_closed Iipeikou = 1
han_closed (Yakuhai t) = 1
han_closed RinshanKaihou = 1
han_closed Chankan = 1
han_closed HaiteiRaoyue = 1
han_closed HouteiRaoyui = 1
han_closed DoubleRiichi = 2
han_closed Toitoi = 2
han_closed SanshokuDoujun = 2
han_closed SanshokuDoukou = 2
han_closed Ittsu = 2
han_closed Chiitoitsu = 2
han_closed Chanta = 2
han_closed SanAnkou = 2
han_closed SanKantsu = 2
han_closed Honroutou = 2
han_closed Shousangen = 2
han_closed Honitsu = 3
han_closed Junchan = 3
han_closed Ryanpeikou = 3
han_closed Chinitsu = 6
han_closed Tenhou = 13
han_closed Chiihou = 13
han_closed KokushiMusou = 13
han_closed Suuankou = 13
han_closed Daisangen = 13
han_closed Shousuushii = 13
han_closed Daisuushii = 26
han_closed Tsuuiisou = 13
han_closed Chinroutou = 13
han_closed Ryuuiisou = 13
han_closed ChuurenPoutou = 13
han_closed SuuKantsu = 13
han_closed Kokushi13Wait = 26
han_closed SuuankouTanki = 26
han_closed JunseiChuurenPoutou = 26

-- the han in an open hand, 0 where the yaku needs a closed one
abbrev pub han_open : Yaku → ℕ
han_open Riichi = 0
han_open Ippatsu = 0
han_open MenzenTsumo = 0
han_open Tanyao = 1
han_open Pinfu = 0
han_open Iipeikou = 0
han_open (Yakuhai t) = 1
han_open RinshanKaihou = 1
han_open Chankan = 1
han_open HaiteiRaoyue = 1
han_open HouteiRaoyui = 1
han_open DoubleRiichi = 0
han_open Toitoi = 2
han_open SanshokuDoujun = 1
han_open SanshokuDoukou = 2
han_open Ittsu = 1
han_open Chiitoitsu = 2
han_open Chanta = 1
han_open SanAnkou = 2
han_open SanKantsu = 2
han_open Honroutou = 2
han_open Shousangen = 2
han_open Honitsu = 2
han_open Junchan = 2
han_open Ryanpeikou = 0
han_open Chinitsu = 5
han_open Tenhou = 0
han_open Chiihou = 0
han_open KokushiMusou = 0
han_open Suuankou = 0
han_open Daisangen = 13
han_open Shousuushii = 13
han_open Daisuushii = 26
han_open Tsuuiisou = 13
han_open Chinroutou = 13
han_open Ryuuiisou = 13
han_open ChuurenPoutou = 0
han_open SuuKantsu = 13
han_open Kokushi13Wait = 0
han_open SuuankouTanki = 0
han_open JunseiChuurenPoutou = 0

-- is it a yakuman
abbrev pub is_yakuman_name : Yaku → Bool
is_yakuman_name Riichi = false
is_yakuman_name Ippatsu = false
is_yakuman_name MenzenTsumo = false
is_yakuman_name Tanyao = false
is_yakuman_name Pinfu = false
is_yakuman_name Iipeikou = false
is_yakuman_name (Yakuhai t) = false
is_yakuman_name RinshanKaihou = false
is_yakuman_name Chankan = false
is_yakuman_name HaiteiRaoyue = false
is_yakuman_name HouteiRaoyui = false
is_yakuman_name DoubleRiichi = false
is_yakuman_name Toitoi = false
is_yakuman_name SanshokuDoujun = false
is_yakuman_name SanshokuDoukou = false
is_yakuman_name Ittsu = false
is_yakuman_name Chiitoitsu = false
is_yakuman_name Chanta = false
is_yakuman_name SanAnkou = false
is_yakuman_name SanKantsu = false
is_yakuman_name Honroutou = false
is_yakuman_name Shousangen = false
is_yakuman_name Honitsu = false
is_yakuman_name Junchan = false
is_yakuman_name Ryanpeikou = false
is_yakuman_name Chinitsu = false
is_yakuman_name Tenhou = true
is_yakuman_name Chiihou = true
is_yakuman_name KokushiMusou = true
is_yakuman_name Suuankou = true
is_yakuman_name Daisangen = true
is_yakuman_name Shousuushii = true
is_yakuman_name Daisuushii = true
is_yakuman_name Tsuuiisou = true
is_yakuman_name Chinroutou = true
is_yakuman_name Ryuuiisou = true
is_yakuman_name ChuurenPoutou = true
is_yakuman_name SuuKantsu = true
is_yakuman_name Kokushi13Wait = true
is_yakuman_name SuuankouTanki = true
is_yakuman_name JunseiChuurenPoutou = true

-- the place of an honor's Yakuhai, East's first; 47, where no tally stands, for a tile that is no honor
abbrev pub honor_place : ℕ → ℕ
honor_place t = cond (is_honor t) (t - 21) 47

-- the place in the tallies
abbrev pub place : Yaku → ℕ
place Riichi = 0
place Ippatsu = 1
place MenzenTsumo = 2
place Tanyao = 3
place Pinfu = 4
place Iipeikou = 5
place (Yakuhai t) = honor_place t.0
place RinshanKaihou = 13
place Chankan = 14
place HaiteiRaoyue = 15
place HouteiRaoyui = 16
place DoubleRiichi = 17
place Toitoi = 18
place SanshokuDoujun = 19
place SanshokuDoukou = 20
place Ittsu = 21
place Chiitoitsu = 22
place Chanta = 23
place SanAnkou = 24
place SanKantsu = 25
place Honroutou = 26
place Shousangen = 27
place Honitsu = 28
place Junchan = 29
place Ryanpeikou = 30
place Chinitsu = 31
place Tenhou = 32
place Chiihou = 33
place KokushiMusou = 34
place Suuankou = 35
place Daisangen = 36
place Shousuushii = 37
place Daisuushii = 38
place Tsuuiisou = 39
place Chinroutou = 40
place Ryuuiisou = 41
place ChuurenPoutou = 42
place SuuKantsu = 43
place Kokushi13Wait = 44
place SuuankouTanki = 45
place JunseiChuurenPoutou = 46

-- how often the yaku counts by the tallies ts
abbrev pub tallied : Yaku → List ℕ → ℕ
tallied y ts = get_or ts (place y) 0

-- Yakuhai of a tile by its number
abbrev pub yakuhai_name : ℕ → Yaku
yakuhai_name t = Yakuhai (record { 0 = t })

-- the names in the order of the tallies
unfoldable pub names : List Yaku
names =
    Riichi
    ∷ Ippatsu
    ∷ MenzenTsumo
    ∷ Tanyao
    ∷ Pinfu
    ∷ Iipeikou
    ∷ yakuhai_name 27
    ∷ yakuhai_name 28
    ∷ yakuhai_name 29
    ∷ yakuhai_name 30
    ∷ yakuhai_name 31
    ∷ yakuhai_name 32
    ∷ yakuhai_name 33
    ∷ RinshanKaihou
    ∷ Chankan
    ∷ HaiteiRaoyue
    ∷ HouteiRaoyui
    ∷ DoubleRiichi
    ∷ Toitoi
    ∷ SanshokuDoujun
    ∷ SanshokuDoukou
    ∷ Ittsu
    ∷ Chiitoitsu
    ∷ Chanta
    ∷ SanAnkou
    ∷ SanKantsu
    ∷ Honroutou
    ∷ Shousangen
    ∷ Honitsu
    ∷ Junchan
    ∷ Ryanpeikou
    ∷ Chinitsu
    ∷ Tenhou
    ∷ Chiihou
    ∷ KokushiMusou
    ∷ Suuankou
    ∷ Daisangen
    ∷ Shousuushii
    ∷ Daisuushii
    ∷ Tsuuiisou
    ∷ Chinroutou
    ∷ Ryuuiisou
    ∷ ChuurenPoutou
    ∷ SuuKantsu
    ∷ Kokushi13Wait
    ∷ SuuankouTanki
    ∷ JunseiChuurenPoutou
    ∷ []
