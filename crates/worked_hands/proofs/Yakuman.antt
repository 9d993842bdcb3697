-- The worked hands of specs/Yakuman.antt hold: each row is computed from the definitions. Assumes nothing.
use lib.Dec.{T}
use Rattle.played.specs.Row.{holds}
use Rattle.played.proofs.Quick.{quick}
use Rattle.worked_hands.specs.Yakuman.{tenhou_dealer, tenhou_non_dealer, tenhou_by_ron, tenhou_open, tenhou_closed_kan, chiihou_non_dealer, chiihou_dealer, chiihou_by_ron, chiihou_open, kokushi_by_tsumo, kokushi_twelve_kinds, kokushi_simple, kokushi_other_kinds, suuankou_tsumo, suuankou_closed_kan, suuankou_ron, suuankou_pon, daisangen_pon, daisangen_kan, daisangen_pair, shousuushii_pair, shousuushii_other_pair, daisuushii_pon, daisuushii_pair, tsuuiisou_open, tsuuiisou_pairs, tsuuiisou_terminals, chinroutou_open, chinroutou_honors, chinroutou_sequence, ryuuiisou_closed, ryuuiisou_no_green, ryuuiisou_five, ryuuiisou_red, chuuren_other, chuuren_without_two, chuuren_open, chuuren_kan, suu_kantsu_four, suu_kantsu_three, kokushi_thirteen, kokushi_thirteen_dealer, kokushi_one_wait, suuankou_tanki_ron, suuankou_tanki_tsumo, suuankou_on_triplet, junsei_five, junsei_nine, winds_and_honors, winds_concealed, winds_four_kans, winds_four_kans_dealer, yakuman_with_riichi, yakuman_with_pairs}

-- ---- Tenhou
pub tenhou_dealer_holds : T (holds tenhou_dealer)
unfolding holds
tenhou_dealer_holds = quick tenhou_dealer tt

pub tenhou_non_dealer_holds : T (holds tenhou_non_dealer)
unfolding holds
tenhou_non_dealer_holds = quick tenhou_non_dealer tt

pub tenhou_by_ron_holds : T (holds tenhou_by_ron)
unfolding holds
tenhou_by_ron_holds = quick tenhou_by_ron tt

pub tenhou_open_holds : T (holds tenhou_open)
unfolding holds
tenhou_open_holds = quick tenhou_open tt

pub tenhou_closed_kan_holds : T (holds tenhou_closed_kan)
unfolding holds
tenhou_closed_kan_holds = quick tenhou_closed_kan tt

-- ---- Chiihou
pub chiihou_non_dealer_holds : T (holds chiihou_non_dealer)
unfolding holds
chiihou_non_dealer_holds = quick chiihou_non_dealer tt

pub chiihou_dealer_holds : T (holds chiihou_dealer)
unfolding holds
chiihou_dealer_holds = quick chiihou_dealer tt

pub chiihou_by_ron_holds : T (holds chiihou_by_ron)
unfolding holds
chiihou_by_ron_holds = quick chiihou_by_ron tt

pub chiihou_open_holds : T (holds chiihou_open)
unfolding holds
chiihou_open_holds = quick chiihou_open tt

-- ---- KokushiMusou
pub kokushi_by_tsumo_holds : T (holds kokushi_by_tsumo)
unfolding holds
kokushi_by_tsumo_holds = quick kokushi_by_tsumo tt

pub kokushi_twelve_kinds_holds : T (holds kokushi_twelve_kinds)
unfolding holds
kokushi_twelve_kinds_holds = quick kokushi_twelve_kinds tt

pub kokushi_simple_holds : T (holds kokushi_simple)
unfolding holds
kokushi_simple_holds = quick kokushi_simple tt

pub kokushi_other_kinds_holds : T (holds kokushi_other_kinds)
unfolding holds
kokushi_other_kinds_holds = quick kokushi_other_kinds tt

-- ---- Suuankou
pub suuankou_tsumo_holds : T (holds suuankou_tsumo)
unfolding holds
suuankou_tsumo_holds = quick suuankou_tsumo tt

pub suuankou_closed_kan_holds : T (holds suuankou_closed_kan)
unfolding holds
suuankou_closed_kan_holds = quick suuankou_closed_kan tt

pub suuankou_ron_holds : T (holds suuankou_ron)
unfolding holds
suuankou_ron_holds = quick suuankou_ron tt

pub suuankou_pon_holds : T (holds suuankou_pon)
unfolding holds
suuankou_pon_holds = quick suuankou_pon tt

-- ---- Daisangen
pub daisangen_pon_holds : T (holds daisangen_pon)
unfolding holds
daisangen_pon_holds = quick daisangen_pon tt

pub daisangen_kan_holds : T (holds daisangen_kan)
unfolding holds
daisangen_kan_holds = quick daisangen_kan tt

pub daisangen_pair_holds : T (holds daisangen_pair)
unfolding holds
daisangen_pair_holds = quick daisangen_pair tt

-- ---- Shousuushii
pub shousuushii_pair_holds : T (holds shousuushii_pair)
unfolding holds
shousuushii_pair_holds = quick shousuushii_pair tt

pub shousuushii_other_pair_holds : T (holds shousuushii_other_pair)
unfolding holds
shousuushii_other_pair_holds = quick shousuushii_other_pair tt

-- ---- Daisuushii
pub daisuushii_pon_holds : T (holds daisuushii_pon)
unfolding holds
daisuushii_pon_holds = quick daisuushii_pon tt

pub daisuushii_pair_holds : T (holds daisuushii_pair)
unfolding holds
daisuushii_pair_holds = quick daisuushii_pair tt

-- ---- Tsuuiisou
pub tsuuiisou_open_holds : T (holds tsuuiisou_open)
unfolding holds
tsuuiisou_open_holds = quick tsuuiisou_open tt

pub tsuuiisou_pairs_holds : T (holds tsuuiisou_pairs)
unfolding holds
tsuuiisou_pairs_holds = quick tsuuiisou_pairs tt

pub tsuuiisou_terminals_holds : T (holds tsuuiisou_terminals)
unfolding holds
tsuuiisou_terminals_holds = quick tsuuiisou_terminals tt

-- ---- Chinroutou
pub chinroutou_open_holds : T (holds chinroutou_open)
unfolding holds
chinroutou_open_holds = quick chinroutou_open tt

pub chinroutou_honors_holds : T (holds chinroutou_honors)
unfolding holds
chinroutou_honors_holds = quick chinroutou_honors tt

pub chinroutou_sequence_holds : T (holds chinroutou_sequence)
unfolding holds
chinroutou_sequence_holds = quick chinroutou_sequence tt

-- ---- Ryuuiisou
pub ryuuiisou_closed_holds : T (holds ryuuiisou_closed)
unfolding holds
ryuuiisou_closed_holds = quick ryuuiisou_closed tt

pub ryuuiisou_no_green_holds : T (holds ryuuiisou_no_green)
unfolding holds
ryuuiisou_no_green_holds = quick ryuuiisou_no_green tt

pub ryuuiisou_five_holds : T (holds ryuuiisou_five)
unfolding holds
ryuuiisou_five_holds = quick ryuuiisou_five tt

pub ryuuiisou_red_holds : T (holds ryuuiisou_red)
unfolding holds
ryuuiisou_red_holds = quick ryuuiisou_red tt

-- ---- ChuurenPoutou
pub chuuren_other_holds : T (holds chuuren_other)
unfolding holds
chuuren_other_holds = quick chuuren_other tt

pub chuuren_without_two_holds : T (holds chuuren_without_two)
unfolding holds
chuuren_without_two_holds = quick chuuren_without_two tt

pub chuuren_open_holds : T (holds chuuren_open)
unfolding holds
chuuren_open_holds = quick chuuren_open tt

pub chuuren_kan_holds : T (holds chuuren_kan)
unfolding holds
chuuren_kan_holds = quick chuuren_kan tt

-- ---- SuuKantsu
pub suu_kantsu_four_holds : T (holds suu_kantsu_four)
unfolding holds
suu_kantsu_four_holds = quick suu_kantsu_four tt

pub suu_kantsu_three_holds : T (holds suu_kantsu_three)
unfolding holds
suu_kantsu_three_holds = quick suu_kantsu_three tt

-- ---- Kokushi13Wait
pub kokushi_thirteen_holds : T (holds kokushi_thirteen)
unfolding holds
kokushi_thirteen_holds = quick kokushi_thirteen tt

pub kokushi_thirteen_dealer_holds : T (holds kokushi_thirteen_dealer)
unfolding holds
kokushi_thirteen_dealer_holds = quick kokushi_thirteen_dealer tt

pub kokushi_one_wait_holds : T (holds kokushi_one_wait)
unfolding holds
kokushi_one_wait_holds = quick kokushi_one_wait tt

-- ---- SuuankouTanki
pub suuankou_tanki_ron_holds : T (holds suuankou_tanki_ron)
unfolding holds
suuankou_tanki_ron_holds = quick suuankou_tanki_ron tt

pub suuankou_tanki_tsumo_holds : T (holds suuankou_tanki_tsumo)
unfolding holds
suuankou_tanki_tsumo_holds = quick suuankou_tanki_tsumo tt

pub suuankou_on_triplet_holds : T (holds suuankou_on_triplet)
unfolding holds
suuankou_on_triplet_holds = quick suuankou_on_triplet tt

-- ---- JunseiChuurenPoutou
pub junsei_five_holds : T (holds junsei_five)
unfolding holds
junsei_five_holds = quick junsei_five tt

pub junsei_nine_holds : T (holds junsei_nine)
unfolding holds
junsei_nine_holds = quick junsei_nine tt

-- ---- Several at once add up
pub winds_and_honors_holds : T (holds winds_and_honors)
unfolding holds
winds_and_honors_holds = quick winds_and_honors tt

pub winds_concealed_holds : T (holds winds_concealed)
unfolding holds
winds_concealed_holds = quick winds_concealed tt

pub winds_four_kans_holds : T (holds winds_four_kans)
unfolding holds
winds_four_kans_holds = quick winds_four_kans tt

pub winds_four_kans_dealer_holds : T (holds winds_four_kans_dealer)
unfolding holds
winds_four_kans_dealer_holds = quick winds_four_kans_dealer tt

pub yakuman_with_riichi_holds : T (holds yakuman_with_riichi)
unfolding holds
yakuman_with_riichi_holds = quick yakuman_with_riichi tt

pub yakuman_with_pairs_holds : T (holds yakuman_with_pairs)
unfolding holds
yakuman_with_pairs_holds = quick yakuman_with_pairs tt
