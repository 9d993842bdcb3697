-- Yaku of the triplets and kans of a standard reading with the melds ms, whatever their order. These are definitions.
use Rattle.std.specs.Prelude.{Bool, false, List, [], ◌∷◌, map, ℕ, eqb}
use Rattle.lists.specs.Fold.{all, count}
use Rattle.meld.specs.declared.Meld.{Meld}
use Rattle.meld.specs.Meld.{is_kan, is_triplet_or_kan}
use Rattle.context.specs.declared.GameContext.{GameContext}
use Rattle.wait.specs.Concealed.{concealed, spared}
use Rattle.meld_yaku.specs.Melds.{set_of, any_line, three_suits}

-- Toitoi: triplets and kans only
unfoldable pub toitoi : List Meld → Bool
toitoi ms = all is_triplet_or_kan ms

-- how many kans there are: three are SanKantsu, four SuuKantsu
unfoldable pub kans : List Meld → ℕ
kans ms = count is_kan ms

-- SanAnkou: exactly three concealed triplets or kans
unfoldable pub san_ankou : GameContext → List Meld → Bool
san_ankou w ms = eqb (count (concealed w (spared w ms)) ms) 3

-- 111, 222 and so on to 999 of man, pin and sou
abbrev pub set_lines : List (List ℕ)
set_lines = map three_suits (0 ∷ 1 ∷ 2 ∷ 3 ∷ 4 ∷ 5 ∷ 6 ∷ 7 ∷ 8 ∷ [])

-- SanshokuDoukou: the same triplet or kan in all three suits
unfoldable pub sanshoku_doukou : List Meld → Bool
sanshoku_doukou ms = any_line (λ t. set_of (eqb t)) ms set_lines

-- ---- yakuman
-- Suuankou: four concealed triplets or kans; by ron a triplet of the winning tile is not concealed, so only a ron on the pair is left
unfoldable pub suuankou : GameContext → List Meld → Bool
suuankou w ms = eqb (count (concealed w false) ms) 4

-- SuuKantsu: four kans
unfoldable pub suu_kantsu : List Meld → Bool
unfolding kans
suu_kantsu ms = eqb (kans ms) 4
