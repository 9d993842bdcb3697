-- The worked hands of specs/Points.antt hold: each row is computed from the definitions. Assumes nothing.
use lib.Dec.{T}
use Rattle.played.specs.Row.{holds}
use Rattle.played.proofs.Quick.{quick}
use Rattle.worked_hands.specs.Points.{limit_below_mangan, limit_below_mangan_dealer, limit_four_twenty, limit_three_sixty, limit_three_seventy, limit_four_forty, limit_mangan, limit_haneman, limit_baiman, limit_sanbaiman, limit_counted, dealer_ron, dealer_tsumo, dealer_mangan, han1_fu30, han1_fu30_ron, han1_fu30_dealer_ron, han1_fu30_tsumo, han1_fu30_dealer_tsumo, han1_fu110_ron, han2_fu20_tsumo, han3_fu25_tsumo, han3_fu30_ron, han3_fu30_dealer_ron, han4_fu25_ron, han4_fu25_dealer_ron, han2_fu130, han5_fu30, han6_fu30, han7_fu30_dealer_ron, han8_fu30, han10_fu30_dealer_tsumo, han11_fu30, han12_fu30_tsumo, han13_fu30, han26_fu30, han26_fu30_yakuman, han39_fu30_dealer_tsumo, han5_fu30_yakuman, han25_fu30_yakuman, han255_fu255_yakuman, han255_fu255, han0_fu0}

-- ---- Limits
pub limit_below_mangan_holds : T (holds limit_below_mangan)
unfolding holds
limit_below_mangan_holds = quick limit_below_mangan tt

pub limit_below_mangan_dealer_holds : T (holds limit_below_mangan_dealer)
unfolding holds
limit_below_mangan_dealer_holds = quick limit_below_mangan_dealer tt

pub limit_four_twenty_holds : T (holds limit_four_twenty)
unfolding holds
limit_four_twenty_holds = quick limit_four_twenty tt

pub limit_three_sixty_holds : T (holds limit_three_sixty)
unfolding holds
limit_three_sixty_holds = quick limit_three_sixty tt

pub limit_three_seventy_holds : T (holds limit_three_seventy)
unfolding holds
limit_three_seventy_holds = quick limit_three_seventy tt

pub limit_four_forty_holds : T (holds limit_four_forty)
unfolding holds
limit_four_forty_holds = quick limit_four_forty tt

pub limit_mangan_holds : T (holds limit_mangan)
unfolding holds
limit_mangan_holds = quick limit_mangan tt

pub limit_haneman_holds : T (holds limit_haneman)
unfolding holds
limit_haneman_holds = quick limit_haneman tt

pub limit_baiman_holds : T (holds limit_baiman)
unfolding holds
limit_baiman_holds = quick limit_baiman tt

pub limit_sanbaiman_holds : T (holds limit_sanbaiman)
unfolding holds
limit_sanbaiman_holds = quick limit_sanbaiman tt

pub limit_counted_holds : T (holds limit_counted)
unfolding holds
limit_counted_holds = quick limit_counted tt

-- ---- The dealer
pub dealer_ron_holds : T (holds dealer_ron)
unfolding holds
dealer_ron_holds = quick dealer_ron tt

pub dealer_tsumo_holds : T (holds dealer_tsumo)
unfolding holds
dealer_tsumo_holds = quick dealer_tsumo tt

pub dealer_mangan_holds : T (holds dealer_mangan)
unfolding holds
dealer_mangan_holds = quick dealer_mangan tt

-- ---- Points
pub han1_fu30_holds : T (holds han1_fu30)
unfolding holds
han1_fu30_holds = quick han1_fu30 tt

pub han1_fu30_ron_holds : T (holds han1_fu30_ron)
unfolding holds
han1_fu30_ron_holds = quick han1_fu30_ron tt

pub han1_fu30_dealer_ron_holds : T (holds han1_fu30_dealer_ron)
unfolding holds
han1_fu30_dealer_ron_holds = quick han1_fu30_dealer_ron tt

pub han1_fu30_tsumo_holds : T (holds han1_fu30_tsumo)
unfolding holds
han1_fu30_tsumo_holds = quick han1_fu30_tsumo tt

pub han1_fu30_dealer_tsumo_holds : T (holds han1_fu30_dealer_tsumo)
unfolding holds
han1_fu30_dealer_tsumo_holds = quick han1_fu30_dealer_tsumo tt

pub han1_fu110_ron_holds : T (holds han1_fu110_ron)
unfolding holds
han1_fu110_ron_holds = quick han1_fu110_ron tt

pub han2_fu20_tsumo_holds : T (holds han2_fu20_tsumo)
unfolding holds
han2_fu20_tsumo_holds = quick han2_fu20_tsumo tt

pub han3_fu25_tsumo_holds : T (holds han3_fu25_tsumo)
unfolding holds
han3_fu25_tsumo_holds = quick han3_fu25_tsumo tt

pub han3_fu30_ron_holds : T (holds han3_fu30_ron)
unfolding holds
han3_fu30_ron_holds = quick han3_fu30_ron tt

pub han3_fu30_dealer_ron_holds : T (holds han3_fu30_dealer_ron)
unfolding holds
han3_fu30_dealer_ron_holds = quick han3_fu30_dealer_ron tt

pub han4_fu25_ron_holds : T (holds han4_fu25_ron)
unfolding holds
han4_fu25_ron_holds = quick han4_fu25_ron tt

pub han4_fu25_dealer_ron_holds : T (holds han4_fu25_dealer_ron)
unfolding holds
han4_fu25_dealer_ron_holds = quick han4_fu25_dealer_ron tt

pub han2_fu130_holds : T (holds han2_fu130)
unfolding holds
han2_fu130_holds = quick han2_fu130 tt

pub han5_fu30_holds : T (holds han5_fu30)
unfolding holds
han5_fu30_holds = quick han5_fu30 tt

pub han6_fu30_holds : T (holds han6_fu30)
unfolding holds
han6_fu30_holds = quick han6_fu30 tt

pub han7_fu30_dealer_ron_holds : T (holds han7_fu30_dealer_ron)
unfolding holds
han7_fu30_dealer_ron_holds = quick han7_fu30_dealer_ron tt

pub han8_fu30_holds : T (holds han8_fu30)
unfolding holds
han8_fu30_holds = quick han8_fu30 tt

pub han10_fu30_dealer_tsumo_holds : T (holds han10_fu30_dealer_tsumo)
unfolding holds
han10_fu30_dealer_tsumo_holds = quick han10_fu30_dealer_tsumo tt

pub han11_fu30_holds : T (holds han11_fu30)
unfolding holds
han11_fu30_holds = quick han11_fu30 tt

pub han12_fu30_tsumo_holds : T (holds han12_fu30_tsumo)
unfolding holds
han12_fu30_tsumo_holds = quick han12_fu30_tsumo tt

pub han13_fu30_holds : T (holds han13_fu30)
unfolding holds
han13_fu30_holds = quick han13_fu30 tt

pub han26_fu30_holds : T (holds han26_fu30)
unfolding holds
han26_fu30_holds = quick han26_fu30 tt

pub han26_fu30_yakuman_holds : T (holds han26_fu30_yakuman)
unfolding holds
han26_fu30_yakuman_holds = quick han26_fu30_yakuman tt

pub han39_fu30_dealer_tsumo_holds : T (holds han39_fu30_dealer_tsumo)
unfolding holds
han39_fu30_dealer_tsumo_holds = quick han39_fu30_dealer_tsumo tt

pub han5_fu30_yakuman_holds : T (holds han5_fu30_yakuman)
unfolding holds
han5_fu30_yakuman_holds = quick han5_fu30_yakuman tt

pub han25_fu30_yakuman_holds : T (holds han25_fu30_yakuman)
unfolding holds
han25_fu30_yakuman_holds = quick han25_fu30_yakuman tt

pub han255_fu255_yakuman_holds : T (holds han255_fu255_yakuman)
unfolding holds
han255_fu255_yakuman_holds = quick han255_fu255_yakuman tt

pub han255_fu255_holds : T (holds han255_fu255)
unfolding holds
han255_fu255_holds = quick han255_fu255 tt

pub han0_fu0_holds : T (holds han0_fu0)
unfolding holds
han0_fu0_holds = quick han0_fu0 tt
