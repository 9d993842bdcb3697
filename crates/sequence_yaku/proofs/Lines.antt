-- To find a straight or the same sequence in three suits it is enough to look at the lines through the tiles of the first two melds.
-- Assumes nothing.
use mathlib.Core.Path.{◌≡◌}
use mathlib.Core.Bool.{Bool, ◌&&◌}
use mathlib.Core.List.{List, [], ◌∷◌}
use Prim.Native.Nat.{ℕ, ◌+◌, ◌*◌, ◌/◌, ◌%◌, ◌<◌}
use native.Mathlib.Omega.{arith}
use lib.Dec.{ltb}
use lib.ListN.{length, take}
use Rattle.lists.specs.Fold.{all, any}
use Rattle.meld.specs.declared.Meld.{Meld}
use Rattle.meld_yaku.specs.Melds.{run_from, three_suits}
use Rattle.meld_yaku.proofs.Lines.{Line, first_two, run_own, of_number}
use Rattle.sequence_yaku.specs.Sequences.{ittsu, sanshoku_doujun}

-- 123, 456 and 789 of a suit
abbrev pub straight : ℕ → List ℕ
straight s = (s * 9) ∷ (s * 9 + 3) ∷ (s * 9 + 6) ∷ []

of_suit_holds : (k : ℕ) → k < 3 → Line (λ t. t / 9) k (k * 9) (k * 9 + 3) (k * 9 + 6)
of_suit_holds k h = (omega arith, omega arith, omega arith, omega arith, omega arith)

module _ (ms : List Meld) where
  -- there is a sequence from each tile of the line
  abbrev pub runs : List ℕ → Bool
  runs line = all (λ t. any (run_from t) ms) line

  -- at the tile's number in each suit; in the tile's suit a straight
  abbrev pub in_three_suits : Meld → Bool
  in_three_suits m = ltb (m.tile % 9) 7 && runs (three_suits (m.tile % 9))

  abbrev pub in_suit : Meld → Bool
  in_suit m = ltb (m.tile / 9) 3 && runs (straight (m.tile / 9))

  module _ (size : length ms ≡ 4) where
    pub doujun_lines : any in_three_suits (take 2 ms) ≡ sanshoku_doujun ms
    unfolding sanshoku_doujun
    doujun_lines = first_two run_from run_own (λ t. t % 9) (λ k. k) (λ k. k + 9) (λ k. k + 18) 7 (λ k h. of_number k (omega arith)) ms size

    pub ittsu_lines : any in_suit (take 2 ms) ≡ ittsu ms
    unfolding ittsu
    ittsu_lines = first_two run_from run_own (λ t. t / 9) (λ k. k * 9) (λ k. k * 9 + 3) (λ k. k * 9 + 6) 3 of_suit_holds ms size
