-- Worked examples of the yaku of all tiles, calls included: of each rule a case that has it and near misses. Assumes nothing.
use mathlib.Core.Path.{◌≡◌, refl}
use mathlib.Core.Bool.{not}
use mathlib.Core.List.{List, [], ◌∷◌, ◌++◌}
use lib.Dec.{T}
use Prim.Native.Nat.{ℕ}
use Rattle.lists.specs.Fold.{keep, up_from}
use Rattle.tile.specs.Tile.{tiles}
use Rattle.tile.specs.Named.{man, pin, sou, East, South, West, North, White, Green, Red, mans, pins, sous, orphan_tiles}
use Rattle.hand.specs.Named.{of_tiles}
use Rattle.tile_yaku.specs.Tiles.{tanyao, honroutou, tsuuiisou, chinroutou, ryuuiisou, honitsu, chinitsu, nine_gates, pure_wait}

-- three of a tile
abbrev three : ℕ → List ℕ
three t = t ∷ t ∷ t ∷ []

-- two of a tile
abbrev two : ℕ → List ℕ
two t = t ∷ t ∷ []

-- ---- Tanyao: 2 to 8 only
pub tanyao_simples : T (tanyao (of_tiles (mans 234567 ++ pins 22 ++ sous 456888)))
unfolding tanyao
tanyao_simples = tt

pub tanyao_not_9 : T (not (tanyao (of_tiles (mans 234567 ++ pins 22 ++ sous 456789))))
unfolding tanyao
tanyao_not_9 = tt

pub tanyao_not_1 : T (not (tanyao (of_tiles (mans 123567 ++ pins 22 ++ sous 456888))))
unfolding tanyao
tanyao_not_1 = tt

pub tanyao_not_honor : T (not (tanyao (of_tiles (mans 234567 ++ sous 456888 ++ two West))))
unfolding tanyao
tanyao_not_honor = tt

-- ---- Honroutou: terminals and honors only
pub honroutou_both : T (honroutou (of_tiles (mans 111999 ++ pins 111 ++ three East ++ two Red)))
unfolding honroutou
honroutou_both = tt

pub honroutou_orphans : T (honroutou (of_tiles (orphan_tiles ++ (man 1 ∷ []))))
unfolding honroutou
honroutou_orphans = tt

pub honroutou_not_8 : T (not (honroutou (of_tiles (mans 111888 ++ pins 111 ++ three East ++ two Red))))
unfolding honroutou
honroutou_not_8 = tt

pub honroutou_not_run : T (not (honroutou (of_tiles (mans 111999 ++ pins 123 ++ three East ++ two Red))))
unfolding honroutou
honroutou_not_run = tt

-- ---- Tsuuiisou: honors only
pub tsuuiisou_honors : T (tsuuiisou (of_tiles (three East ++ three North ++ three White ++ three Green ++ two Red)))
unfolding tsuuiisou
tsuuiisou_honors = tt

pub tsuuiisou_pairs_holds : T (tsuuiisou (of_tiles (two East ++ two South ++ two West ++ two North ++ two White ++ two Green ++ two Red)))
unfolding tsuuiisou
tsuuiisou_pairs_holds = tt

pub tsuuiisou_not_terminal : T (not (tsuuiisou (of_tiles (three East ++ three North ++ three White ++ three Green ++ sous 99))))
unfolding tsuuiisou
tsuuiisou_not_terminal = tt

pub tsuuiisou_not_simple : T (not (tsuuiisou (of_tiles (three East ++ three North ++ three White ++ three Green ++ mans 55))))
unfolding tsuuiisou
tsuuiisou_not_simple = tt

-- ---- Chinroutou: terminals only
pub chinroutou_terminals : T (chinroutou (of_tiles (mans 111999 ++ pins 111999 ++ sous 99)))
unfolding chinroutou
chinroutou_terminals = tt

pub chinroutou_not_honor : T (not (chinroutou (of_tiles (mans 111999 ++ pins 111999 ++ two Red))))
unfolding chinroutou
chinroutou_not_honor = tt

pub chinroutou_not_run : T (not (chinroutou (of_tiles (mans 111999 ++ pins 111789 ++ sous 99))))
unfolding chinroutou
chinroutou_not_run = tt

-- ---- Ryuuiisou: sou 2, 3, 4, 6, 8 and Green only, with Green or without
pub ryuuiisou_with_green : T (ryuuiisou (of_tiles (sous 22334466888 ++ three Green)))
unfolding ryuuiisou
ryuuiisou_with_green = tt

pub ryuuiisou_without_green : T (ryuuiisou (of_tiles (sous 22233344466688)))
unfolding ryuuiisou
ryuuiisou_without_green = tt

pub ryuuiisou_not_5 : T (not (ryuuiisou (of_tiles (sous 22345666888 ++ three Green))))
unfolding ryuuiisou
ryuuiisou_not_5 = tt

pub ryuuiisou_not_white : T (not (ryuuiisou (of_tiles (sous 22334466888 ++ three White))))
unfolding ryuuiisou
ryuuiisou_not_white = tt

pub ryuuiisou_not_pin : T (not (ryuuiisou (of_tiles (pins 22334466888 ++ three Green))))
unfolding ryuuiisou
ryuuiisou_not_pin = tt

-- ---- Honitsu: one suit and honors
pub honitsu_one_suit_and_honors : T (honitsu (of_tiles (mans 123456777 ++ three East ++ two White)))
unfolding honitsu
honitsu_one_suit_and_honors = tt

pub honitsu_not_two_suits : T (not (honitsu (of_tiles (mans 123456 ++ pins 777 ++ three East ++ two White))))
unfolding honitsu
honitsu_not_two_suits = tt

pub honitsu_not_without_honors : T (not (honitsu (of_tiles (mans 12345677788899))))
unfolding honitsu
honitsu_not_without_honors = tt

pub honitsu_not_honors_alone : T (not (honitsu (of_tiles (three East ++ three North ++ three White ++ three Green ++ two Red))))
unfolding honitsu
honitsu_not_honors_alone = tt

-- ---- Chinitsu: one suit alone
pub chinitsu_one_suit : T (chinitsu (of_tiles (sous 12345677788899)))
unfolding chinitsu
chinitsu_one_suit = tt

pub chinitsu_not_honor : T (not (chinitsu (of_tiles (sous 123456777888 ++ two White))))
unfolding chinitsu
chinitsu_not_honor = tt

pub chinitsu_not_two_suits : T (not (chinitsu (of_tiles (sous 123456777888 ++ pins 99))))
unfolding chinitsu
chinitsu_not_two_suits = tt

-- ---- Chuuren poutou, nine gates: 1112345678999 of a suit and any tile of it besides
pub gates_with_1 : T (nine_gates (of_tiles (mans 11123456789991)))
unfolding nine_gates
gates_with_1 = tt

pub gates_with_2 : T (nine_gates (of_tiles (mans 11123456789992)))
unfolding nine_gates
gates_with_2 = tt

pub gates_with_3 : T (nine_gates (of_tiles (mans 11123456789993)))
unfolding nine_gates
gates_with_3 = tt

pub gates_with_4 : T (nine_gates (of_tiles (pins 11123456789994)))
unfolding nine_gates
gates_with_4 = tt

pub gates_with_5 : T (nine_gates (of_tiles (pins 11123456789995)))
unfolding nine_gates
gates_with_5 = tt

pub gates_with_6 : T (nine_gates (of_tiles (pins 11123456789996)))
unfolding nine_gates
gates_with_6 = tt

pub gates_with_7 : T (nine_gates (of_tiles (sous 11123456789997)))
unfolding nine_gates
gates_with_7 = tt

pub gates_with_8 : T (nine_gates (of_tiles (sous 11123456789998)))
unfolding nine_gates
gates_with_8 = tt

pub gates_with_9 : T (nine_gates (of_tiles (sous 11123456789999)))
unfolding nine_gates
gates_with_9 = tt

-- not with only two 1s or two 9s, nor without a 5
pub gates_not_two_1 : T (not (nine_gates (of_tiles (mans 11223456789999))))
unfolding nine_gates
gates_not_two_1 = tt

pub gates_not_two_9 : T (not (nine_gates (of_tiles (mans 11123456788899))))
unfolding nine_gates
gates_not_two_9 = tt

pub gates_not_without_5 : T (not (nine_gates (of_tiles (mans 11123446678999))))
unfolding nine_gates
gates_not_without_5 = tt

-- not with a tile of another suit or an honor
pub gates_not_two_suits : T (not (nine_gates (of_tiles (mans 1112345678999 ++ pins 5))))
unfolding nine_gates
gates_not_two_suits = tt

pub gates_not_honor : T (not (nine_gates (of_tiles (mans 1112345678999 ++ (White ∷ [])))))
unfolding nine_gates
gates_not_honor = tt

-- not with a kan of the 1: 1111 and 2345678999 and one more are fifteen tiles
pub gates_not_kan : T (not (nine_gates (of_tiles (mans 1111 ++ mans 23456789995))))
unfolding nine_gates
gates_not_kan = tt

-- ---- the pure wait: on the tile besides 1112345678999
pub pure_on_5 : T (pure_wait (of_tiles (mans 11123456789995)) (man 5))
unfolding pure_wait
pure_on_5 = tt

pub pure_on_1 : T (pure_wait (of_tiles (pins 11123456789991)) (pin 1))
unfolding pure_wait
pure_on_1 = tt

-- not on another of the tiles
pub pure_not_on_4 : T (not (pure_wait (of_tiles (mans 11123456789995)) (man 4)))
unfolding pure_wait
pure_not_on_4 = tt

pub pure_not_on_9 : T (not (pure_wait (of_tiles (mans 11123456789995)) (man 9)))
unfolding pure_wait
pure_not_on_9 = tt

-- ---- the tiles that each of the five admits, asked one at a time: 2 to 8 of each suit; 1 and 9 of each suit and the seven honors; these honors;
-- these terminals; and the six green tiles
pub tanyao_tiles : keep (λ t. tanyao (of_tiles (t ∷ []))) tiles ≡ up_from 7 (man 2) ++ (up_from 7 (pin 2) ++ up_from 7 (sou 2))
unfolding tanyao
tanyao_tiles = refl

pub honroutou_tiles : keep (λ t. honroutou (of_tiles (t ∷ []))) tiles ≡ man 1 ∷ man 9 ∷ pin 1 ∷ pin 9 ∷ sou 1 ∷ sou 9 ∷ up_from 7 East
unfolding honroutou
honroutou_tiles = refl

pub tsuuiisou_tiles : keep (λ t. tsuuiisou (of_tiles (t ∷ []))) tiles ≡ up_from 7 East
unfolding tsuuiisou
tsuuiisou_tiles = refl

pub chinroutou_tiles : keep (λ t. chinroutou (of_tiles (t ∷ []))) tiles ≡ man 1 ∷ man 9 ∷ pin 1 ∷ pin 9 ∷ sou 1 ∷ sou 9 ∷ []
unfolding chinroutou
chinroutou_tiles = refl

pub ryuuiisou_tiles : keep (λ t. ryuuiisou (of_tiles (t ∷ []))) tiles ≡ sou 2 ∷ sou 3 ∷ sou 4 ∷ sou 6 ∷ sou 8 ∷ Green ∷ []
unfolding ryuuiisou
ryuuiisou_tiles = refl
