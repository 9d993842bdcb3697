-- To find the same triplet in three suits it is enough to look at the lines through the tiles of the first two melds. Assumes nothing.
use mathlib.Core.Path.{◌≡◌}
use mathlib.Core.Bool.{Bool}
use mathlib.Core.List.{List}
use Prim.Native.Nat.{ℕ, ◌+◌, ◌%◌, ◌<◌}
use native.Mathlib.Omega.{arith}
use lib.Dec.{eqb}
use lib.ListN.{length, take}
use borrow.Author.Tests.{lt-ltb}
use Rattle.lists.specs.Fold.{all, any}
use Rattle.meld.specs.declared.Meld.{Meld}
use Rattle.meld_yaku.specs.Melds.{set_of, three_suits}
use Rattle.meld_yaku.proofs.Lines.{first_two, set_own, of_number}
use Rattle.set_yaku.specs.Sets.{sanshoku_doukou}

-- there is a triplet or kan of each tile of the line
abbrev pub sets : List Meld → List ℕ → Bool
sets ms line = all (λ t. any (set_of (eqb t)) ms) line

pub doukou_lines : (ms : List Meld) → length ms ≡ 4 → any (λ m. sets ms (three_suits (m.tile % 9))) (take 2 ms) ≡ sanshoku_doukou ms
unfolding sanshoku_doukou
doukou_lines ms size =
    let number : (t : ℕ) → t % 9 < 9 = λ t. omega arith in
    simp (λ (t : ℕ). lt-ltb (t % 9) 9 (number t)) at
    (first_two (λ t. set_of (eqb t)) set_own (λ t. t % 9) (λ k. k) (λ k. k + 9) (λ k. k + 18) 9 of_number ms size)
