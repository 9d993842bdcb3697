-- The played hands: a row for each hand and each value that the scope paper's section of that name states, in its order. The rows that
-- it marks with (P) come first; the others follow. These are definitions.
use Rattle.std.specs.Prelude.{List, [], ◌∷◌, ◌++◌}
use Rattle.yaku.specs.declared.names.Yaku.TheVariants.{MenzenTsumo, Tanyao, Pinfu, Iipeikou, Chiitoitsu, SanAnkou, Ryanpeikou, KokushiMusou, Kokushi13Wait}
use Rattle.scoring.specs.declared.ScoreLevel.TheVariants.{Normal, Mangan, Yakuman}
use Rattle.scoring.specs.declared.Payment.TheVariants.{Ron, DealerTsumo, Tsumo}
use Rattle.scoring.specs.Payment.{Refused, Paid}
use Rattle.tile.specs.Named.{man, pin, sou, East, White, mans, pins, sous, orphan_tiles}
use Rattle.meld.specs.Named.{chi, pon, closed_kan, added_kan}
use Rattle.context.specs.Named.{by_ron, by_tsumo, ron, tsumo}
use Rattle.hand.specs.Named.{hand}
use Rattle.played.specs.Row.{dealer, non_dealer, no_yakuman, Row, won, listed, valued, paid, asked, worth, refuses, chooses}

-- man 123 55, pin 456, sou 234 678, tsumo sou 8: 2 han 20 fu, dealer 700, others 400, total 1,500
abbrev pub pinfu_by_tsumo : Row
pinfu_by_tsumo =
    won (hand (mans 12355 ++ pins 456 ++ sous 234678)) [] (tsumo (sou 8))
    (worth (MenzenTsumo ∷ Pinfu ∷ []) 2 20 Normal (Tsumo 700 400) ∷ [])
    (chooses 0)

-- the same by ron: 1 han 30 fu, 1,000
abbrev pub pinfu_by_ron : Row
pinfu_by_ron =
    won (hand (mans 12355 ++ pins 456 ++ sous 234678)) [] (ron (sou 8))
    (worth (Pinfu ∷ []) 1 30 Normal (Ron 1000) ∷ [])
    (chooses 0)

-- man 222333444, pin 567, sou 88, ron sou 8: two readings; 3 han 50 fu pays 6,400, the other 2 han 40 fu 2,600
abbrev pub sequences_or_triplets : Row
sequences_or_triplets =
    won (hand (mans 222333444 ++ pins 567 ++ sous 88)) [] (ron (sou 8))
    (worth (Tanyao ∷ Iipeikou ∷ []) 2 40 Normal (Ron 2600) ∷ worth (Tanyao ∷ SanAnkou ∷ []) 3 50 Normal (Ron 6400) ∷ []) (chooses 1)

-- man 223344, pin 667788, sou 55, ron man 4: standard 5 han 8,000; seven pairs 3 han 25 fu 3,200
abbrev pub ryanpeikou_or_pairs : Row
ryanpeikou_or_pairs =
    won (hand (mans 223344 ++ pins 667788 ++ sous 55)) [] (ron (man 4))
    (worth (Tanyao ∷ Chiitoitsu ∷ []) 3 25 Normal (Ron 3200)
    ∷ worth (Tanyao ∷ Pinfu ∷ Ryanpeikou ∷ []) 5 30 Mangan (Ron 8000)
    ∷ [])
    (chooses 1)

-- man 111123, pin 456, sou 789, East East: one reading
abbrev pub four_of_one_tile : Row
four_of_one_tile = listed (hand (mans 111123 ++ pins 456 ++ sous 789 ++ (East ∷ East ∷ []))) [] 1

-- thirteen orphans, ron on the pair's tile: 26 han, 64,000; on another: 32,000
abbrev pub orphans_by_pair : Row
orphans_by_pair =
    won (hand (man 1 ∷ orphan_tiles)) [] (ron (man 1))
    (worth (Kokushi13Wait ∷ []) 26 30 (Yakuman 2) (Ron 64000) ∷ [])
    (chooses 0)

abbrev pub orphans_by_other : Row
orphans_by_other =
    won (hand (man 1 ∷ orphan_tiles)) [] (ron (man 9))
    (worth (KokushiMusou ∷ []) 13 30 (Yakuman 1) (Ron 32000) ∷ [])
    (chooses 0)

-- 4 han 30 fu: 1,920, Normal; 40 fu: Mangan
abbrev pub han4_fu30 : Row
han4_fu30 = valued 4 30 no_yakuman Normal 1920

abbrev pub han4_fu40 : Row
han4_fu40 = valued 4 40 no_yakuman Mangan 2000

-- 3 han 60 fu: 1,920, Normal; 70 fu: Mangan
abbrev pub han3_fu60 : Row
han3_fu60 = valued 3 60 no_yakuman Normal 1920

abbrev pub han3_fu70 : Row
han3_fu70 = valued 3 70 no_yakuman Mangan 2000

-- 2 han 25 fu, ron: 1,600, dealer 2,400
abbrev pub han2_fu25 : Row
han2_fu25 = paid 2 25 no_yakuman by_ron non_dealer (Ron 1600)

abbrev pub han2_fu25_dealer : Row
han2_fu25_dealer = paid 2 25 no_yakuman by_ron dealer (Ron 2400)

-- ---- not marked
-- open man 123 called, pin 456, sou 234 678, man 55, ron sou 8: 11; as reading 0 it has han 0, 30 fu, 500
abbrev pub no_yaku : Row
no_yaku =
    won (hand (mans 55 ++ pins 456 ++ sous 234678)) (chi (man 1) ∷ []) (ron (sou 8))
    (worth [] 0 30 Normal (Ron 500) ∷ [])
    (refuses 11)

-- 13 tiles, nothing called: 6
abbrev pub thirteen_tiles : Row
thirteen_tiles = won (hand (mans 1235 ++ pins 456 ++ sous 234678)) [] (ron (sou 8)) [] (refuses 6)

-- four calls and a pair: one reading
abbrev pub four_calls : Row
four_calls =
    listed (hand (White ∷ White ∷ [])) (chi (man 1) ∷ pon (pin 5) ∷ closed_kan (sou 9) ∷ added_kan East ∷ []) 1

-- payment of basic 152,000 is given, 152,001 is 13
abbrev pub most_by_ron : Row
most_by_ron = asked 152000 by_ron non_dealer (Paid (Ron 608000))

abbrev pub most_by_tsumo : Row
most_by_tsumo = asked 152000 by_tsumo non_dealer (Paid (Tsumo 304000 152000))

abbrev pub most_by_dealer_ron : Row
most_by_dealer_ron = asked 152000 by_ron dealer (Paid (Ron 912000))

abbrev pub most_by_dealer_tsumo : Row
most_by_dealer_tsumo = asked 152000 by_tsumo dealer (Paid (DealerTsumo 304000))

abbrev pub beyond_by_ron : Row
beyond_by_ron = asked 152001 by_ron non_dealer (Refused 13)

abbrev pub beyond_by_tsumo : Row
beyond_by_tsumo = asked 152001 by_tsumo non_dealer (Refused 13)

abbrev pub beyond_by_dealer_ron : Row
beyond_by_dealer_ron = asked 152001 by_ron dealer (Refused 13)

abbrev pub beyond_by_dealer_tsumo : Row
beyond_by_dealer_tsumo = asked 152001 by_tsumo dealer (Refused 13)

-- ---- the table
abbrev pub played : List Row
played =
    pinfu_by_tsumo
    ∷ pinfu_by_ron
    ∷ sequences_or_triplets
    ∷ ryanpeikou_or_pairs
    ∷ four_of_one_tile
    ∷ orphans_by_pair
    ∷ orphans_by_other
    ∷ han4_fu30
    ∷ han4_fu40
    ∷ han3_fu60
    ∷ han3_fu70
    ∷ han2_fu25
    ∷ han2_fu25_dealer
    ∷ no_yaku
    ∷ thirteen_tiles
    ∷ four_calls
    ∷ most_by_ron
    ∷ most_by_tsumo
    ∷ most_by_dealer_ron
    ∷ most_by_dealer_tsumo
    ∷ beyond_by_ron
    ∷ beyond_by_tsumo
    ∷ beyond_by_dealer_ron
    ∷ beyond_by_dealer_tsumo
    ∷ []
