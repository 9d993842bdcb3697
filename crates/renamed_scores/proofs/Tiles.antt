-- What all tiles together are stays when they are renamed: the tile yaku of two hands, one of which counts of each renamed tile
-- what the other counts of the tile, where neither is all green. Assumes nothing.
use mathlib.Core.Path.{◌≡◌, refl, sym, ap, ap₂, ◌∙◌}
use mathlib.Core.Bool.{Bool, true, false, ◌&&◌, ◌||◌, not, cond, beq}
use mathlib.Core.List.{map}
use Prim.Native.Nat.{ℕ, ◌/◌, ◌<◌}
use lib.Dec.{T, T_not, eqb, ltb, leb, ltb→lt}
use borrow.Author.Tests.{ltb-true}
use Rattle.lists.specs.Fold.{all, all_below, one}
use Rattle.lists.proofs.Finite.{at, beq→eq, ¬T→false}
use Rattle.lists.proofs.Permuted.{is_perm, is_perm_perm_holds, Shuffled, all_over, any_over, sum_over}
use Rattle.tile.specs.Tile.{is_suited, is_green, is_honor, is_simple, is_terminal, is_terminal_or_honor, tiles}
use Rattle.tile.specs.declared.Renaming.{Renaming}
use Rattle.tile.specs.Renaming.{ren, order_to}
use Rattle.tile.proofs.Renamings.{numbers_test, ren_is_suited_holds, ren_is_honor_holds, ren_is_simple_holds, ren_is_terminal_holds, ren_is_terminal_or_honor_holds}
use Rattle.tile_yaku.specs.Tiles.{only, some, tanyao, honroutou, tsuuiisou, chinroutou, ryuuiisou, suits, of_suit, one_suit, honitsu, chinitsu, gate, nine_gates, pure_wait, tile_yaku}
use Rattle.tile_yaku.proofs.Below.{all_tiles}
use Rattle.renamed.specs.Renamed.{all_green}
use Rattle.renamed.proofs.Keeps.{SameCounts, tiles_over, sum_stays, keeps}

-- ---- the suits, in another order
abbrev ren_suit : Renaming → ℕ → ℕ
ren_suit ρ s = order_to ρ.numbers.suits s

suits_over : (ρ : Renaming) → Shuffled (ren_suit ρ) (λ s. ltb s 3) suits
suits_over ρ = record { each = tt; same = is_perm_perm_holds _ _ (numbers_test (λ ρ. is_perm (map (ren_suit ρ) suits) suits) ρ tt) }

-- a tile of a suit; an honor is of none
abbrev suit_moves : Renaming → ℕ → ℕ → Bool
suit_moves ρ t s = beq (of_suit (ren_suit ρ s) (ren ρ t)) (of_suit s t)

ren_of_suit_holds : (ρ : Renaming) (s : ℕ) → T (ltb s 3) → (t : ℕ) → t < 34 → of_suit (ren_suit ρ s) (ren ρ t) ≡ of_suit s t
ren_of_suit_holds ρ s k t h = go (is_suited t) refl
  where
    go : (b : Bool) → is_suited t ≡ b → of_suit (ren_suit ρ s) (ren ρ t) ≡ of_suit s t
    go true e =
        beq→eq _ _
        (at 3 (suit_moves ρ t)
        (at 27 (λ t. all_below 3 (suit_moves ρ t)) (numbers_test (λ ρ. all_below 27 (λ t. all_below 3 (suit_moves ρ t))) ρ tt) t (ltb-true t 27 e))
        s (ltb→lt s 3 k))
    go false e =
        ap₂ (λ (b c : Bool). b && c) (ren_is_suited_holds ρ t h ∙ e) refl ∙ sym (ap (λ (b : Bool). b && eqb (t / 9) s) e)

-- ---- Ryuuiisou asks whether all are green
pub ryuuiisou_green : (c : ℕ → ℕ) → ryuuiisou c ≡ all_green c
unfolding ryuuiisou
ryuuiisou_green c = all_tiles (λ t. eqb (c t) 0 || is_green t)

pub not_ryuuiisou : (c : ℕ → ℕ) → T (not (all_green c)) → ryuuiisou c ≡ false
not_ryuuiisou c n = ryuuiisou_green c ∙ ¬T→false (all_green c) (T_not (all_green c) n)

module _ (ρ : Renaming) (c d : ℕ → ℕ) (e : SameCounts (ren ρ) c d) where
  -- q answers of a renamed tile what p answers of the tile
  only_moved : (p q : ℕ → Bool) → ((t : ℕ) → t < 34 → q (ren ρ t) ≡ p t) → only q d ≡ only p c
  only_moved p q law =
      all_over (tiles_over (keeps ρ)) (λ t. eqb (c t) 0 || p t) (λ t. eqb (d t) 0 || q t)
      (λ t h. ap₂ (λ (n : ℕ) (b : Bool). eqb n 0 || b) (e t (ltb→lt t 34 h)) (law t (ltb→lt t 34 h)))

  some_moved : (p q : ℕ → Bool) → ((t : ℕ) → t < 34 → q (ren ρ t) ≡ p t) → some q d ≡ some p c
  some_moved p q law =
      any_over (tiles_over (keeps ρ)) (λ t. leb 1 (c t) && p t) (λ t. leb 1 (d t) && q t)
      (λ t h. ap₂ (λ (n : ℕ) (b : Bool). leb 1 n && b) (e t (ltb→lt t 34 h)) (law t (ltb→lt t 34 h)))

  -- ---- each tile asked alone
  pub ren_tanyao : tanyao d ≡ tanyao c
  unfolding tanyao
  ren_tanyao = only_moved is_simple is_simple (ren_is_simple_holds ρ)

  pub ren_honroutou : honroutou d ≡ honroutou c
  unfolding honroutou
  ren_honroutou = only_moved is_terminal_or_honor is_terminal_or_honor (ren_is_terminal_or_honor_holds ρ)

  pub ren_tsuuiisou : tsuuiisou d ≡ tsuuiisou c
  unfolding tsuuiisou
  ren_tsuuiisou = only_moved is_honor is_honor (ren_is_honor_holds ρ)

  pub ren_chinroutou : chinroutou d ≡ chinroutou c
  unfolding chinroutou
  ren_chinroutou = only_moved is_terminal is_terminal (ren_is_terminal_holds ρ)

  -- ---- flushes
  suit_moved : (s : ℕ) → T (ltb s 3) → some (of_suit (ren_suit ρ s)) d ≡ some (of_suit s) c
  suit_moved s k = some_moved (of_suit s) (of_suit (ren_suit ρ s)) (ren_of_suit_holds ρ s k)

  one_suit_stays_holds : one_suit d ≡ one_suit c
  one_suit_stays_holds =
      ap (λ (n : ℕ). eqb n 1)
      (sum_over (suits_over ρ) (λ s. one (some (of_suit s) c)) (λ s. one (some (of_suit s) d)) (λ s k. ap one (suit_moved s k)))

  honor_stays : some is_honor d ≡ some is_honor c
  honor_stays = some_moved is_honor is_honor (ren_is_honor_holds ρ)

  pub ren_honitsu : honitsu d ≡ honitsu c
  unfolding honitsu
  ren_honitsu = ap₂ ◌&&◌ one_suit_stays_holds honor_stays

  pub ren_chinitsu : chinitsu d ≡ chinitsu c
  unfolding chinitsu
  ren_chinitsu = ap₂ (λ (a b : Bool). a && not b) one_suit_stays_holds honor_stays

  -- ---- nine gates
  gate_moved : (s : ℕ) → T (ltb s 3) → (t : ℕ) → t < 34 → gate d (ren_suit ρ s) (ren ρ t) ≡ gate c s t
  gate_moved s k t h =
      λ i. cond (ren_of_suit_holds ρ s k t h i) (leb (cond (ren_is_terminal_holds ρ t h i) 3 1) (e t h i)) (eqb (e t h i) 0)

  pub ren_nine_gates_holds : nine_gates d ≡ nine_gates c
  unfolding nine_gates
  ren_nine_gates_holds =
      ap₂ (λ (b : Bool) (n : ℕ). b && eqb n 14)
      (any_over (suits_over ρ) (λ s. all (gate c s) tiles) (λ s. all (gate d s) tiles)
      (λ s k. all_over (tiles_over (keeps ρ)) (gate c s) (gate d (ren_suit ρ s)) (λ t h. gate_moved s k t (ltb→lt t 34 h))))
      (sum_stays (keeps ρ) c d e)

  pub ren_pure_wait_holds : (t : ℕ) → t < 34 → pure_wait d (ren ρ t) ≡ pure_wait c t
  unfolding pure_wait
  ren_pure_wait_holds t h = ap₂ (λ (n : ℕ) (b : Bool). eqb n (cond b 4 2)) (e t h) (ren_is_terminal_holds ρ t h)

  -- ---- all of them, where neither hand is all green
  pub tile_yaku_renamed_holds : T (not (all_green c)) → T (not (all_green d)) → (t : ℕ) → t < 34 → tile_yaku d (ren ρ t) ≡ tile_yaku c t
  unfolding tile_yaku
  tile_yaku_renamed_holds m n t h =
      let green : ryuuiisou d ≡ ryuuiisou c = not_ryuuiisou d n ∙ sym (not_ryuuiisou c m) in
      λ i. record {
        tanyao = ren_tanyao i;
        honroutou = ren_honroutou i;
        honitsu = ren_honitsu i;
        chinitsu = ren_chinitsu i;
        tsuuiisou = ren_tsuuiisou i;
        chinroutou = ren_chinroutou i;
        ryuuiisou = green i;
        nine_gates = ren_nine_gates_holds i;
        pure_wait = ren_pure_wait_holds t h i;
      }
