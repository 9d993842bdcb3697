-- Wins by the names that players use: ron and tsumo, the dealer, what is out of range, which indicators there may be, and a win renamed or in another
-- room. Assumes nothing.
use mathlib.Core.Path.{◌≡◌, refl}
use mathlib.Core.Bool.{false, ◌&&◌, ◌||◌, not}
use mathlib.Core.List.{List, [], ◌∷◌}
use Prim.Native.Nat.{ℕ}
use lib.Dec.{T, eqb, ltb}
use lib.ListN.{replicate}
use Rattle.lists.specs.Fold.{all, all_below}
use Rattle.tile.specs.Named.{man, sou, East, South, West, North, White}
use Rattle.tile.specs.declared.Order.TheVariants.{Abc, Cba}
use Rattle.tile.specs.declared.Renaming.{Renaming}
use Rattle.tile.specs.Renaming.{ren}
use Rattle.tile.proofs.Renamings.{renaming}
use Rattle.context.specs.declared.Indicators.{Indicators}
use Rattle.context.specs.declared.GameContext.{GameContext}
use Rattle.context.specs.Context.{is_tsumo, is_dealer, in_range, are_indicators, indicators_in, ren_indicators, ren_win, in_room, indicating}
use Rattle.context.specs.Named.{by_ron, by_tsumo, Flag, riichi, chankan, win, dealer_wins, ron, tsumo, showing}

-- ---- Ron and tsumo
pub drawn : T (is_tsumo (tsumo (man 5)))
drawn = tt

-- on another player's tile
pub discarded : T (not (is_tsumo (ron (man 5))))
discarded = tt

-- a robbed kan is ron
pub robbed : T (not (is_tsumo (win by_ron (man 5) East South (chankan ∷ []))))
robbed = tt

-- ---- The dealer has the seat East
pub dealer_east : T (is_dealer (dealer_wins by_ron (man 5) []))
dealer_east = tt

-- also in the round South
pub dealer_in_south : T (is_dealer (win by_tsumo (man 5) South East []))
dealer_in_south = tt

-- not the seat South in the round East
pub south_no_dealer : T (not (is_dealer (win by_tsumo (man 5) East South [])))
south_no_dealer = tt

-- not the seat West in the round West
pub west_no_dealer : T (not (is_dealer (win by_ron (man 5) West West [])))
west_no_dealer = tt

-- ---- What a win may say: ron or tsumo, winds as round and seat, and the room's setting
abbrev winds : List ℕ
winds = East ∷ South ∷ West ∷ North ∷ []

pub all_winds : T (all (λ r. all (λ s. in_range (win by_ron (man 5) r s []) && in_range (win by_tsumo (man 5) r s [])) winds) winds)
all_winds = tt

-- no third way to win
pub no_third_type : T (not (in_range (win 2 (man 5) East South [])))
no_third_type = tt

-- no dragon as round wind or seat wind
pub no_dragon_round : T (not (in_range (win by_ron (man 5) White South [])))
no_dragon_round = tt

pub no_dragon_seat : T (not (in_range (win by_ron (man 5) East White [])))
no_dragon_seat = tt

-- no tile of a suit
pub no_suited_seat : T (not (in_range (win by_ron (man 5) East (sou 9) [])))
no_suited_seat = tt

-- four and two are settings
pub two_and_four : T (in_range (in_room 2 (ron (man 5))) && in_range (in_room 4 (tsumo (man 5))))
two_and_four = tt

-- and no other byte: not 0, which a table sends that forgets the setting
pub no_other_setting : T (all_below 256 (λ n. eqb n 4 || (eqb n 2 || not (in_range (in_room n (ron (man 5)))))))
no_other_setting = tt

-- ---- Indicators: ten at most of either sort, each a tile
pub ten_of_each : T (indicators_in (showing (replicate 10 White) (replicate 10 (man 1)) (ron (man 5))))
ten_of_each = tt

-- no number above 33 among those shown, nor among those below, with riichi or without
pub bad_shown : T (not (indicators_in (showing (man 1 ∷ 34 ∷ []) [] (ron (man 5)))))
bad_shown = tt

pub bad_below : T (not (indicators_in (showing [] (34 ∷ []) (ron (man 5)))))
bad_below = tt

pub bad_below_riichi : T (not (indicators_in (showing [] (34 ∷ []) (win by_ron (man 5) East South (riichi ∷ [])))))
bad_below_riichi = tt

-- what stands behind the count is not looked at
pub behind_the_count : T (indicators_in (indicating (record { count = 1; tiles = man 1 ∷ replicate 9 255 }) (record { count = 0; tiles = replicate 10 255 }) (ron (man 5))))
behind_the_count = tt

-- no count above ten, up to 255
pub no_more_than_ten : T (all_below 256 (λ n. ltb n 11 || not (are_indicators (record { count = n; tiles = replicate 10 0 }))))
no_more_than_ten = tt

-- ---- South and North change places: the seat South in the round North becomes the seat North in the round South; the dealer stays the dealer
pub winds_exchanged : ren_win (renaming Abc false false Cba) (win by_ron West North South []) ≡ win by_ron West South North []
winds_exchanged = refl

pub dealer_stays : ren_win (renaming Abc false false Cba) (win by_ron North South East []) ≡ win by_ron South North East []
dealer_stays = refl

-- ---- A win renamed is the same win on the renamed tile, with the renamed winds, in the same room, with the renamed indicators
pub renamed_win :
    (ρ : Renaming) (d u : Indicators) (winType t round seat : ℕ) (fs : List Flag)
    → ren_win ρ (indicating d u (win winType t round seat fs))
    ≡ indicating (ren_indicators ρ d) (ren_indicators ρ u) (win winType (ren ρ t) (ren ρ round) (ren ρ seat) fs)
renamed_win ρ d u winType t round seat fs = refl

pub renamed_room : (ρ : Renaming) (n : ℕ) (w : GameContext) → ren_win ρ (in_room n w) ≡ in_room n (ren_win ρ w)
renamed_room ρ n w = refl
