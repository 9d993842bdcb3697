-- Yaku of the sequences of a standard reading with the melds ms, whatever their order. These are definitions.
use Rattle.std.specs.Prelude.{Bool, List, [], ◌∷◌, map, ℕ, ◌/◌}
use Rattle.lists.specs.Fold.{count, sum}
use Rattle.meld.specs.declared.Meld.{Meld}
use Rattle.meld_yaku.specs.Melds.{run_from, any_line, three_suits}

-- 123 456 789 of a suit
abbrev pub straights : List (List ℕ)
straights = (0 ∷ 3 ∷ 6 ∷ []) ∷ (9 ∷ 12 ∷ 15 ∷ []) ∷ (18 ∷ 21 ∷ 24 ∷ []) ∷ []

-- Ittsu: 123, 456 and 789 of one suit
unfoldable pub ittsu : List Meld → Bool
ittsu ms = any_line run_from ms straights

-- 123, 234 and so on to 789 of man, pin and sou
abbrev pub run_lines : List (List ℕ)
run_lines = map three_suits (0 ∷ 1 ∷ 2 ∷ 3 ∷ 4 ∷ 5 ∷ 6 ∷ [])

-- SanshokuDoujun: the same sequence in all three suits
unfoldable pub sanshoku_doujun : List Meld → Bool
sanshoku_doujun ms = any_line run_from ms run_lines

-- the tiles at which a sequence can start
abbrev pub starts : List ℕ
starts = 0 ∷ 1 ∷ 2 ∷ 3 ∷ 4 ∷ 5 ∷ 6 ∷ 9 ∷ 10 ∷ 11 ∷ 12 ∷ 13 ∷ 14 ∷ 15 ∷ 18 ∷ 19 ∷ 20 ∷ 21 ∷ 22 ∷ 23 ∷ 24 ∷ []

-- the pairs that so many alike make: three make one, four make two
abbrev pub pairs_among : ℕ → ℕ
pairs_among n = n / 2

-- pairs of identical sequences: one is Iipeikou, two are Ryanpeikou
unfoldable pub peikou : List Meld → ℕ
peikou ms = sum (λ t. pairs_among (count (run_from t) ms)) starts
