-- The worked hands of specs/MoreHan.antt hold: each row is computed from the definitions. Assumes nothing.
use lib.Dec.{T}
use Rattle.played.specs.Row.{holds}
use Rattle.played.proofs.Quick.{quick}
use Rattle.worked_hands.specs.MoreHan.{double_riichi_closed, double_riichi_ippatsu, double_riichi_without_riichi, double_riichi_open, toitoi_open, toitoi_with_kans, toitoi_closed, toitoi_sequence, sanshoku_closed, sanshoku_open, sanshoku_shifted, sanshoku_two_suits, sanshoku_doukou_open, sanshoku_doukou_kan, sanshoku_doukou_closed, sanshoku_doukou_other, sanshoku_doukou_pair, ittsu_closed, ittsu_open, ittsu_two_suits, ittsu_shifted, pairs_by_ron, pairs_by_tsumo, pairs_of_simples, pairs_of_simples_tsumo, pairs_half_flush, pairs_full_flush, pairs_terminals_honors, pairs_four_of_a_kind, pairs_seven_kinds, chanta_closed, chanta_open, chanta_honor_pair, chanta_middle, chanta_simple_pair, chanta_simple_triplet, san_ankou_closed, san_ankou_open, san_ankou_kan, san_ankou_tsumo, san_ankou_ron_triplet, san_ankou_spared, san_ankou_called_sequence, san_ankou_pon, san_ankou_open_kan, san_ankou_added_kan, san_kantsu_three, san_kantsu_two, honroutou_open, honroutou_sequence, honroutou_simple, shousangen_pair, shousangen_other_pair, shousangen_one_triplet, honitsu_closed, honitsu_open, honitsu_two_suits, honitsu_call, junchan_closed, junchan_open, junchan_honors, junchan_middle, ryanpeikou_closed, ryanpeikou_four_alike, ryanpeikou_three_alike, ryanpeikou_open, chinitsu_closed, chinitsu_open, chinitsu_honors, chinitsu_other_pair}

-- ---- DoubleRiichi
pub double_riichi_closed_holds : T (holds double_riichi_closed)
unfolding holds
double_riichi_closed_holds = quick double_riichi_closed tt

pub double_riichi_ippatsu_holds : T (holds double_riichi_ippatsu)
unfolding holds
double_riichi_ippatsu_holds = quick double_riichi_ippatsu tt

pub double_riichi_without_riichi_holds : T (holds double_riichi_without_riichi)
unfolding holds
double_riichi_without_riichi_holds = quick double_riichi_without_riichi tt

pub double_riichi_open_holds : T (holds double_riichi_open)
unfolding holds
double_riichi_open_holds = quick double_riichi_open tt

-- ---- Toitoi
pub toitoi_open_holds : T (holds toitoi_open)
unfolding holds
toitoi_open_holds = quick toitoi_open tt

pub toitoi_with_kans_holds : T (holds toitoi_with_kans)
unfolding holds
toitoi_with_kans_holds = quick toitoi_with_kans tt

pub toitoi_closed_holds : T (holds toitoi_closed)
unfolding holds
toitoi_closed_holds = quick toitoi_closed tt

pub toitoi_sequence_holds : T (holds toitoi_sequence)
unfolding holds
toitoi_sequence_holds = quick toitoi_sequence tt

-- ---- SanshokuDoujun
pub sanshoku_closed_holds : T (holds sanshoku_closed)
unfolding holds
sanshoku_closed_holds = quick sanshoku_closed tt

pub sanshoku_open_holds : T (holds sanshoku_open)
unfolding holds
sanshoku_open_holds = quick sanshoku_open tt

pub sanshoku_shifted_holds : T (holds sanshoku_shifted)
unfolding holds
sanshoku_shifted_holds = quick sanshoku_shifted tt

pub sanshoku_two_suits_holds : T (holds sanshoku_two_suits)
unfolding holds
sanshoku_two_suits_holds = quick sanshoku_two_suits tt

-- ---- SanshokuDoukou
pub sanshoku_doukou_open_holds : T (holds sanshoku_doukou_open)
unfolding holds
sanshoku_doukou_open_holds = quick sanshoku_doukou_open tt

pub sanshoku_doukou_kan_holds : T (holds sanshoku_doukou_kan)
unfolding holds
sanshoku_doukou_kan_holds = quick sanshoku_doukou_kan tt

pub sanshoku_doukou_closed_holds : T (holds sanshoku_doukou_closed)
unfolding holds
sanshoku_doukou_closed_holds = quick sanshoku_doukou_closed tt

pub sanshoku_doukou_other_holds : T (holds sanshoku_doukou_other)
unfolding holds
sanshoku_doukou_other_holds = quick sanshoku_doukou_other tt

pub sanshoku_doukou_pair_holds : T (holds sanshoku_doukou_pair)
unfolding holds
sanshoku_doukou_pair_holds = quick sanshoku_doukou_pair tt

-- ---- Ittsu
pub ittsu_closed_holds : T (holds ittsu_closed)
unfolding holds
ittsu_closed_holds = quick ittsu_closed tt

pub ittsu_open_holds : T (holds ittsu_open)
unfolding holds
ittsu_open_holds = quick ittsu_open tt

pub ittsu_two_suits_holds : T (holds ittsu_two_suits)
unfolding holds
ittsu_two_suits_holds = quick ittsu_two_suits tt

pub ittsu_shifted_holds : T (holds ittsu_shifted)
unfolding holds
ittsu_shifted_holds = quick ittsu_shifted tt

-- ---- Chiitoitsu
pub pairs_by_ron_holds : T (holds pairs_by_ron)
unfolding holds
pairs_by_ron_holds = quick pairs_by_ron tt

pub pairs_by_tsumo_holds : T (holds pairs_by_tsumo)
unfolding holds
pairs_by_tsumo_holds = quick pairs_by_tsumo tt

pub pairs_of_simples_holds : T (holds pairs_of_simples)
unfolding holds
pairs_of_simples_holds = quick pairs_of_simples tt

pub pairs_of_simples_tsumo_holds : T (holds pairs_of_simples_tsumo)
unfolding holds
pairs_of_simples_tsumo_holds = quick pairs_of_simples_tsumo tt

pub pairs_half_flush_holds : T (holds pairs_half_flush)
unfolding holds
pairs_half_flush_holds = quick pairs_half_flush tt

pub pairs_full_flush_holds : T (holds pairs_full_flush)
unfolding holds
pairs_full_flush_holds = quick pairs_full_flush tt

pub pairs_terminals_honors_holds : T (holds pairs_terminals_honors)
unfolding holds
pairs_terminals_honors_holds = quick pairs_terminals_honors tt

pub pairs_four_of_a_kind_holds : T (holds pairs_four_of_a_kind)
unfolding holds
pairs_four_of_a_kind_holds = quick pairs_four_of_a_kind tt

pub pairs_seven_kinds_holds : T (holds pairs_seven_kinds)
unfolding holds
pairs_seven_kinds_holds = quick pairs_seven_kinds tt

-- ---- Chanta
pub chanta_closed_holds : T (holds chanta_closed)
unfolding holds
chanta_closed_holds = quick chanta_closed tt

pub chanta_open_holds : T (holds chanta_open)
unfolding holds
chanta_open_holds = quick chanta_open tt

pub chanta_honor_pair_holds : T (holds chanta_honor_pair)
unfolding holds
chanta_honor_pair_holds = quick chanta_honor_pair tt

pub chanta_middle_holds : T (holds chanta_middle)
unfolding holds
chanta_middle_holds = quick chanta_middle tt

pub chanta_simple_pair_holds : T (holds chanta_simple_pair)
unfolding holds
chanta_simple_pair_holds = quick chanta_simple_pair tt

pub chanta_simple_triplet_holds : T (holds chanta_simple_triplet)
unfolding holds
chanta_simple_triplet_holds = quick chanta_simple_triplet tt

-- ---- SanAnkou
pub san_ankou_closed_holds : T (holds san_ankou_closed)
unfolding holds
san_ankou_closed_holds = quick san_ankou_closed tt

pub san_ankou_open_holds : T (holds san_ankou_open)
unfolding holds
san_ankou_open_holds = quick san_ankou_open tt

pub san_ankou_kan_holds : T (holds san_ankou_kan)
unfolding holds
san_ankou_kan_holds = quick san_ankou_kan tt

pub san_ankou_tsumo_holds : T (holds san_ankou_tsumo)
unfolding holds
san_ankou_tsumo_holds = quick san_ankou_tsumo tt

pub san_ankou_ron_triplet_holds : T (holds san_ankou_ron_triplet)
unfolding holds
san_ankou_ron_triplet_holds = quick san_ankou_ron_triplet tt

pub san_ankou_spared_holds : T (holds san_ankou_spared)
unfolding holds
san_ankou_spared_holds = quick san_ankou_spared tt

pub san_ankou_called_sequence_holds : T (holds san_ankou_called_sequence)
unfolding holds
san_ankou_called_sequence_holds = quick san_ankou_called_sequence tt

pub san_ankou_pon_holds : T (holds san_ankou_pon)
unfolding holds
san_ankou_pon_holds = quick san_ankou_pon tt

pub san_ankou_open_kan_holds : T (holds san_ankou_open_kan)
unfolding holds
san_ankou_open_kan_holds = quick san_ankou_open_kan tt

pub san_ankou_added_kan_holds : T (holds san_ankou_added_kan)
unfolding holds
san_ankou_added_kan_holds = quick san_ankou_added_kan tt

-- ---- SanKantsu
pub san_kantsu_three_holds : T (holds san_kantsu_three)
unfolding holds
san_kantsu_three_holds = quick san_kantsu_three tt

pub san_kantsu_two_holds : T (holds san_kantsu_two)
unfolding holds
san_kantsu_two_holds = quick san_kantsu_two tt

-- ---- Honroutou
pub honroutou_open_holds : T (holds honroutou_open)
unfolding holds
honroutou_open_holds = quick honroutou_open tt

pub honroutou_sequence_holds : T (holds honroutou_sequence)
unfolding holds
honroutou_sequence_holds = quick honroutou_sequence tt

pub honroutou_simple_holds : T (holds honroutou_simple)
unfolding holds
honroutou_simple_holds = quick honroutou_simple tt

-- ---- Shousangen
pub shousangen_pair_holds : T (holds shousangen_pair)
unfolding holds
shousangen_pair_holds = quick shousangen_pair tt

pub shousangen_other_pair_holds : T (holds shousangen_other_pair)
unfolding holds
shousangen_other_pair_holds = quick shousangen_other_pair tt

pub shousangen_one_triplet_holds : T (holds shousangen_one_triplet)
unfolding holds
shousangen_one_triplet_holds = quick shousangen_one_triplet tt

-- ---- Honitsu
pub honitsu_closed_holds : T (holds honitsu_closed)
unfolding holds
honitsu_closed_holds = quick honitsu_closed tt

pub honitsu_open_holds : T (holds honitsu_open)
unfolding holds
honitsu_open_holds = quick honitsu_open tt

pub honitsu_two_suits_holds : T (holds honitsu_two_suits)
unfolding holds
honitsu_two_suits_holds = quick honitsu_two_suits tt

pub honitsu_call_holds : T (holds honitsu_call)
unfolding holds
honitsu_call_holds = quick honitsu_call tt

-- ---- Junchan
pub junchan_closed_holds : T (holds junchan_closed)
unfolding holds
junchan_closed_holds = quick junchan_closed tt

pub junchan_open_holds : T (holds junchan_open)
unfolding holds
junchan_open_holds = quick junchan_open tt

pub junchan_honors_holds : T (holds junchan_honors)
unfolding holds
junchan_honors_holds = quick junchan_honors tt

pub junchan_middle_holds : T (holds junchan_middle)
unfolding holds
junchan_middle_holds = quick junchan_middle tt

-- ---- Ryanpeikou
pub ryanpeikou_closed_holds : T (holds ryanpeikou_closed)
unfolding holds
ryanpeikou_closed_holds = quick ryanpeikou_closed tt

pub ryanpeikou_four_alike_holds : T (holds ryanpeikou_four_alike)
unfolding holds
ryanpeikou_four_alike_holds = quick ryanpeikou_four_alike tt

pub ryanpeikou_three_alike_holds : T (holds ryanpeikou_three_alike)
unfolding holds
ryanpeikou_three_alike_holds = quick ryanpeikou_three_alike tt

pub ryanpeikou_open_holds : T (holds ryanpeikou_open)
unfolding holds
ryanpeikou_open_holds = quick ryanpeikou_open tt

-- ---- Chinitsu
pub chinitsu_closed_holds : T (holds chinitsu_closed)
unfolding holds
chinitsu_closed_holds = quick chinitsu_closed tt

pub chinitsu_open_holds : T (holds chinitsu_open)
unfolding holds
chinitsu_open_holds = quick chinitsu_open tt

pub chinitsu_honors_holds : T (holds chinitsu_honors)
unfolding holds
chinitsu_honors_holds = quick chinitsu_honors tt

pub chinitsu_other_pair_holds : T (holds chinitsu_other_pair)
unfolding holds
chinitsu_other_pair_holds = quick chinitsu_other_pair tt
