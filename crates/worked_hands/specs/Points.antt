-- Limits, points and who pays, by worked hands and by values of han and fu. The winner is seat South in the round East, if nothing else is said.
-- These are definitions.
use Rattle.std.specs.Prelude.{[], ◌∷◌, ◌++◌}
use Rattle.tile.specs.Named.{man, pin, sou, East, North, White, Green, Red, mans, pins, sous}
use Rattle.meld.specs.Named.{pon, closed_kan}
use Rattle.context.specs.Named.{by_ron, by_tsumo, riichi, doubleRiichi, ippatsu, lastTile, win, south_wins, dealer_wins, ron}
use Rattle.hand.specs.Named.{hand}
use Rattle.yaku.specs.declared.names.Yaku.TheVariants.{Riichi, Ippatsu, MenzenTsumo, Tanyao, Pinfu, Iipeikou, HaiteiRaoyue, HouteiRaoyui, DoubleRiichi, Toitoi, SanAnkou, Honroutou, Shousangen, Honitsu, Chinitsu}
use Rattle.yaku.specs.Names.{yakuhai_name}
use Rattle.scoring.specs.declared.ScoreLevel.TheVariants.{Normal, Mangan, Haneman, Baiman, Sanbaiman, Yakuman}
use Rattle.scoring.specs.declared.Payment.TheVariants.{Ron, DealerTsumo, Tsumo}
use Rattle.played.specs.Row.{dealer, non_dealer, yakuman, no_yakuman, Row, valued, paid, scored}

-- ---- Limits: 5 han is a mangan, 6 and 7 a haneman, 8 to 10 a baiman, 11 and 12 a sanbaiman,
-- 13 and more a yakuman
-- 4 han 30 fu is just below: 7,700, the dealer gets 11,600
abbrev pub limit_below_mangan : Row
limit_below_mangan =
    scored (hand (mans 223344 ++ pins 678 ++ sous 55567)) [] (south_wins by_ron (sou 7) (riichi ∷ []))
    (Riichi ∷ Tanyao ∷ Pinfu ∷ Iipeikou ∷ []) 4 30 Normal (Ron 7700)

abbrev pub limit_below_mangan_dealer : Row
limit_below_mangan_dealer =
    scored (hand (mans 223344 ++ pins 678 ++ sous 55567)) [] (dealer_wins by_ron (sou 7) (riichi ∷ []))
    (Riichi ∷ Tanyao ∷ Pinfu ∷ Iipeikou ∷ []) 4 30 Normal (Ron 11600)

-- 4 han 20 fu: by tsumo the dealer pays 2,600, others 1,300
abbrev pub limit_four_twenty : Row
limit_four_twenty =
    scored (hand (mans 234678 ++ pins 345 ++ sous 22567)) [] (south_wins by_tsumo (sou 7) (riichi ∷ []))
    (Riichi ∷ MenzenTsumo ∷ Tanyao ∷ Pinfu ∷ []) 4 20 Normal (Tsumo 2600 1300)

-- 3 han 60 fu is just below too
abbrev pub limit_three_sixty : Row
limit_three_sixty =
    scored (hand (mans 111 ++ pins 22678 ++ sous 333)) (closed_kan (pin 5) ∷ []) (south_wins by_ron (pin 8) (riichi ∷ []))
    (Riichi ∷ SanAnkou ∷ []) 3 60 Normal (Ron 7700)

-- 3 han 70 fu is a mangan
abbrev pub limit_three_seventy : Row
limit_three_seventy =
    scored (hand (mans 22255 ++ sous 333678)) (closed_kan (pin 9) ∷ []) (south_wins by_ron (sou 8) (riichi ∷ []))
    (Riichi ∷ SanAnkou ∷ []) 3 70 Mangan (Ron 8000)

-- 4 han 40 fu is one
abbrev pub limit_four_forty : Row
limit_four_forty =
    scored (hand (mans 234 ++ pins 678 ++ (White ∷ White ∷ Red ∷ Red ∷ Red ∷ []))) (pon Green ∷ []) (ron (pin 8))
    (yakuhai_name Green ∷ yakuhai_name Red ∷ Shousangen ∷ []) 4 40 Mangan (Ron 8000)

-- 5 han: 8,000, by tsumo 4,000 and 2,000
abbrev pub limit_mangan : Row
limit_mangan =
    scored (hand (mans 234678 ++ pins 345 ++ sous 22567)) [] (south_wins by_tsumo (sou 7) (riichi ∷ ippatsu ∷ []))
    (Riichi ∷ Ippatsu ∷ MenzenTsumo ∷ Tanyao ∷ Pinfu ∷ []) 5 20 Mangan (Tsumo 4000 2000)

-- 6 han: a haneman
abbrev pub limit_haneman : Row
limit_haneman =
    scored (hand (mans 234678 ++ pins 345 ++ sous 22567)) [] (south_wins by_tsumo (sou 7) (riichi ∷ ippatsu ∷ lastTile ∷ []))
    (Riichi ∷ Ippatsu ∷ MenzenTsumo ∷ Tanyao ∷ Pinfu ∷ HaiteiRaoyue ∷ []) 6 20 Haneman (Tsumo 6000 3000)

-- 8 han: a baiman
abbrev pub limit_baiman : Row
limit_baiman =
    scored (hand (mans 123345678 ++ (East ∷ East ∷ North ∷ North ∷ North ∷ []))) [] (win by_tsumo (man 8) North North (riichi ∷ ippatsu ∷ []))
    (Riichi ∷ Ippatsu ∷ MenzenTsumo ∷ yakuhai_name North ∷ yakuhai_name North ∷ Honitsu ∷ []) 8 30 Baiman (Tsumo 8000 4000)

-- 11 han: a sanbaiman
abbrev pub limit_sanbaiman : Row
limit_sanbaiman =
    scored (hand (pins 12223345567999)) [] (south_wins by_tsumo (pin 1) (riichi ∷ doubleRiichi ∷ ippatsu ∷ lastTile ∷ []))
    (Ippatsu ∷ MenzenTsumo ∷ HaiteiRaoyue ∷ DoubleRiichi ∷ Chinitsu ∷ []) 11 30 Sanbaiman (Tsumo 12000 6000)

-- 13 han of ordinary yaku are a yakuman
abbrev pub limit_counted : Row
limit_counted =
    scored (hand (mans 111999 ++ (White ∷ White ∷ White ∷ Green ∷ Green ∷ Green ∷ Red ∷ Red ∷ []))) [] (ron (man 9))
    (yakuhai_name White ∷ yakuhai_name Green ∷ Toitoi ∷ SanAnkou ∷ Honroutou ∷ Shousangen ∷ Honitsu ∷ []) 13 60 (Yakuman 1) (Ron 32000)

-- ---- The dealer: 6 times basic by ron, 2 times from each by tsumo
-- 1 han 30 fu by ron: 1,500
abbrev pub dealer_ron : Row
dealer_ron =
    scored (hand (mans 12355 ++ pins 456 ++ sous 234678)) [] (dealer_wins by_ron (sou 8) [])
    (Pinfu ∷ []) 1 30 Normal (Ron 1500)

-- 2 han 20 fu by tsumo: 700 from each
abbrev pub dealer_tsumo : Row
dealer_tsumo =
    scored (hand (mans 12355 ++ pins 456 ++ sous 234678)) [] (dealer_wins by_tsumo (sou 8) [])
    (MenzenTsumo ∷ Pinfu ∷ []) 2 20 Normal (DealerTsumo 700)

-- a dealer's mangan by ron: 12,000
abbrev pub dealer_mangan : Row
dealer_mangan =
    scored (hand (mans 234678 ++ pins 345 ++ sous 22567)) [] (dealer_wins by_ron (sou 7) (riichi ∷ ippatsu ∷ lastTile ∷ []))
    (Riichi ∷ Ippatsu ∷ Tanyao ∷ Pinfu ∷ HouteiRaoyui ∷ []) 5 30 Mangan (Ron 12000)

-- ---- Points: round up to 100 once, after multiplication: ron 4 times basic, to the dealer 6 times; tsumo 2 times from the dealer and once from
-- each other, or 2 times from each to the dealer
-- 1 han 30 fu: 240; by ron 960 and 1,440 round up, by tsumo 480 and 240
abbrev pub han1_fu30 : Row
han1_fu30 = valued 1 30 no_yakuman Normal 240

abbrev pub han1_fu30_ron : Row
han1_fu30_ron = paid 1 30 no_yakuman by_ron non_dealer (Ron 1000)

abbrev pub han1_fu30_dealer_ron : Row
han1_fu30_dealer_ron = paid 1 30 no_yakuman by_ron dealer (Ron 1500)

abbrev pub han1_fu30_tsumo : Row
han1_fu30_tsumo = paid 1 30 no_yakuman by_tsumo non_dealer (Tsumo 500 300)

abbrev pub han1_fu30_dealer_tsumo : Row
han1_fu30_dealer_tsumo = paid 1 30 no_yakuman by_tsumo dealer (DealerTsumo 500)

-- 1 han 110 fu, the last line of a rulebook's table for 1 han: 880
abbrev pub han1_fu110_ron : Row
han1_fu110_ron = paid 1 110 no_yakuman by_ron non_dealer (Ron 3600)

-- 2 han 20 fu: 320; the dealer pays 640 rounded up, and not twice 400
abbrev pub han2_fu20_tsumo : Row
han2_fu20_tsumo = paid 2 20 no_yakuman by_tsumo non_dealer (Tsumo 700 400)

-- 3 han 25 fu: 800
abbrev pub han3_fu25_tsumo : Row
han3_fu25_tsumo = paid 3 25 no_yakuman by_tsumo non_dealer (Tsumo 1600 800)

-- 3 han 30 fu: 960
abbrev pub han3_fu30_ron : Row
han3_fu30_ron = paid 3 30 no_yakuman by_ron non_dealer (Ron 3900)

abbrev pub han3_fu30_dealer_ron : Row
han3_fu30_dealer_ron = paid 3 30 no_yakuman by_ron dealer (Ron 5800)

-- 4 han 25 fu: 1,600
abbrev pub han4_fu25_ron : Row
han4_fu25_ron = paid 4 25 no_yakuman by_ron non_dealer (Ron 6400)

abbrev pub han4_fu25_dealer_ron : Row
han4_fu25_dealer_ron = paid 4 25 no_yakuman by_ron dealer (Ron 9600)

-- 2 han 130 fu has the basic points of a mangan and is none
abbrev pub han2_fu130 : Row
han2_fu130 = valued 2 130 no_yakuman Normal 2000

-- the limits
abbrev pub han5_fu30 : Row
han5_fu30 = valued 5 30 no_yakuman Mangan 2000

abbrev pub han6_fu30 : Row
han6_fu30 = valued 6 30 no_yakuman Haneman 3000

abbrev pub han7_fu30_dealer_ron : Row
han7_fu30_dealer_ron = paid 7 30 no_yakuman by_ron dealer (Ron 18000)

abbrev pub han8_fu30 : Row
han8_fu30 = valued 8 30 no_yakuman Baiman 4000

abbrev pub han10_fu30_dealer_tsumo : Row
han10_fu30_dealer_tsumo = paid 10 30 no_yakuman by_tsumo dealer (DealerTsumo 8000)

abbrev pub han11_fu30 : Row
han11_fu30 = valued 11 30 no_yakuman Sanbaiman 6000

abbrev pub han12_fu30_tsumo : Row
han12_fu30_tsumo = paid 12 30 no_yakuman by_tsumo non_dealer (Tsumo 12000 6000)

-- 13 han and 26 han without a yakuman are one; with one among them 26 han are two and 39 three
abbrev pub han13_fu30 : Row
han13_fu30 = valued 13 30 no_yakuman (Yakuman 1) 8000

abbrev pub han26_fu30 : Row
han26_fu30 = valued 26 30 no_yakuman (Yakuman 1) 8000

abbrev pub han26_fu30_yakuman : Row
han26_fu30_yakuman = valued 26 30 yakuman (Yakuman 2) 16000

abbrev pub han39_fu30_dealer_tsumo : Row
han39_fu30_dealer_tsumo = paid 39 30 yakuman by_tsumo dealer (DealerTsumo 48000)

-- with a yakuman at least one, and one for each full 13 han: 255 han are 19, from which the 152,000 of payment comes
abbrev pub han5_fu30_yakuman : Row
han5_fu30_yakuman =
    valued 5 30 yakuman (Yakuman 1) 8000

abbrev pub han25_fu30_yakuman : Row
han25_fu30_yakuman =
    valued 25 30 yakuman (Yakuman 1) 8000

abbrev pub han255_fu255_yakuman : Row
han255_fu255_yakuman =
    valued 255 255 yakuman (Yakuman 19) 152000

-- the ends without one
abbrev pub han255_fu255 : Row
han255_fu255 =
    valued 255 255 no_yakuman (Yakuman 1) 8000

abbrev pub han0_fu0 : Row
han0_fu0 =
    valued 0 0 no_yakuman Normal 0
