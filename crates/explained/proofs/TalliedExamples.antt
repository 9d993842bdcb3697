-- Flags that count, and why others do not, by examples. Assumes nothing.
use mathlib.Core.Path.{◌≡◌, refl}
use mathlib.Core.Bool.{true, false}
use mathlib.Core.List.{[], ◌∷◌}
use Rattle.tile.specs.Named.{man}
use Rattle.context.specs.Named.{riichi, doubleRiichi, ippatsu, rinshan, chankan, lastTile, tenhou, chiihou, south_wins, dealer_wins, by_ron, by_tsumo}
use Rattle.explained.specs.declared.flags.Uncounted.TheVariants.{Counts, NotSet, Open, NoRiichi, ByRon, ByTsumo, Replacement, NotDealer, Dealer}
use Rattle.explained.specs.Flags.{is_set, reason, why_uncounted}

-- ---- riichi (0): not set; closed; open
pub no_riichi : why_uncounted (south_wins by_ron (man 1) []) false 0 ≡ NotSet
unfolding is_set reason why_uncounted
no_riichi = refl

pub riichi_counts : why_uncounted (south_wins by_ron (man 1) (riichi ∷ [])) false 0 ≡ Counts
unfolding is_set reason why_uncounted
riichi_counts = refl

pub riichi_open_holds : why_uncounted (south_wins by_ron (man 1) (riichi ∷ [])) true 0 ≡ Open
unfolding is_set reason why_uncounted
riichi_open_holds = refl

-- ---- double riichi (1) beside the riichi flag, and without it
pub double_riichi_counts : why_uncounted (south_wins by_ron (man 1) (riichi ∷ doubleRiichi ∷ [])) false 1 ≡ Counts
unfolding is_set reason why_uncounted
double_riichi_counts = refl

pub double_riichi_alone : why_uncounted (south_wins by_ron (man 1) (doubleRiichi ∷ [])) false 1 ≡ NoRiichi
unfolding is_set reason why_uncounted
double_riichi_alone = refl

-- ---- ippatsu (2): a replacement tile breaks it, a ron with the rinshan flag does not; the open hand is named first
pub ippatsu_counts : why_uncounted (south_wins by_tsumo (man 1) (riichi ∷ ippatsu ∷ [])) false 2 ≡ Counts
unfolding is_set reason why_uncounted
ippatsu_counts = refl

pub ippatsu_replacement : why_uncounted (south_wins by_tsumo (man 1) (riichi ∷ ippatsu ∷ rinshan ∷ [])) false 2 ≡ Replacement
unfolding is_set reason why_uncounted
ippatsu_replacement = refl

pub ippatsu_ron_rinshan : why_uncounted (south_wins by_ron (man 1) (riichi ∷ ippatsu ∷ rinshan ∷ [])) false 2 ≡ Counts
unfolding is_set reason why_uncounted
ippatsu_ron_rinshan = refl

pub ippatsu_alone : why_uncounted (south_wins by_tsumo (man 1) (ippatsu ∷ rinshan ∷ [])) false 2 ≡ NoRiichi
unfolding is_set reason why_uncounted
ippatsu_alone = refl

pub ippatsu_open : why_uncounted (south_wins by_ron (man 1) (ippatsu ∷ [])) true 2 ≡ Open
unfolding is_set reason why_uncounted
ippatsu_open = refl

-- ---- rinshan (3) is by tsumo, chankan (4) by ron
pub rinshan_ron : why_uncounted (south_wins by_ron (man 1) (rinshan ∷ [])) false 3 ≡ ByRon
unfolding is_set reason why_uncounted
rinshan_ron = refl

pub chankan_tsumo : why_uncounted (south_wins by_tsumo (man 1) (chankan ∷ [])) true 4 ≡ ByTsumo
unfolding is_set reason why_uncounted
chankan_tsumo = refl

-- ---- the last tile (5): by tsumo and by ron; a replacement tile is not the last of the wall
pub last_tile_ron : why_uncounted (south_wins by_ron (man 1) (lastTile ∷ rinshan ∷ [])) true 5 ≡ Counts
unfolding is_set reason why_uncounted
last_tile_ron = refl

pub last_tile_replacement : why_uncounted (south_wins by_tsumo (man 1) (lastTile ∷ rinshan ∷ [])) true 5 ≡ Replacement
unfolding is_set reason why_uncounted
last_tile_replacement = refl

-- ---- tenhou (6) is the dealer's, chiihou (7) another player's; both by tsumo with a closed hand
pub tenhou_counts : why_uncounted (dealer_wins by_tsumo (man 1) (tenhou ∷ [])) false 6 ≡ Counts
unfolding is_set reason why_uncounted
tenhou_counts = refl

pub tenhou_south : why_uncounted (south_wins by_tsumo (man 1) (tenhou ∷ [])) false 6 ≡ NotDealer
unfolding is_set reason why_uncounted
tenhou_south = refl

pub tenhou_open_holds : why_uncounted (south_wins by_tsumo (man 1) (tenhou ∷ [])) true 6 ≡ Open
unfolding is_set reason why_uncounted
tenhou_open_holds = refl

pub tenhou_ron : why_uncounted (south_wins by_ron (man 1) (tenhou ∷ [])) true 6 ≡ ByRon
unfolding is_set reason why_uncounted
tenhou_ron = refl

pub chiihou_dealer_holds : why_uncounted (dealer_wins by_tsumo (man 1) (chiihou ∷ [])) false 7 ≡ Dealer
unfolding is_set reason why_uncounted
chiihou_dealer_holds = refl

-- ---- no flag has the number 8
pub no_eighth : why_uncounted (dealer_wins by_tsumo (man 1) (riichi ∷ doubleRiichi ∷ ippatsu ∷ rinshan ∷ chankan ∷ lastTile ∷ tenhou ∷ chiihou ∷ [])) false 8 ≡ NotSet
unfolding is_set reason why_uncounted
no_eighth = refl
