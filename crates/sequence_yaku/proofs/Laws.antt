-- A reading without a sequence, as Toitoi is, has no yaku of sequences. Assumes nothing.
use mathlib.Core.Path.{◌≡◌, refl, ap, ◌∙◌}
use mathlib.Core.Bool.{Bool, true, false, ◌||◌}
use mathlib.Core.List.{List, [], ◌∷◌}
use Prim.Native.Nat.{ℕ, ◌+◌}
use native.Mathlib.Omega.{arith}
use Rattle.lists.specs.Fold.{any, count, one, total}
use Rattle.lists.proofs.Finite.{and_left}
use Rattle.lists.proofs.Members.{map_members}
use Rattle.lists.proofs.Sums.{sum_zero}
use Rattle.meld.specs.declared.Meld.{Meld}
use Rattle.meld.specs.Meld.{is_sequence}
use Rattle.meld_yaku.specs.Melds.{run_from}
use Rattle.meld_yaku.proofs.Few.{count_fewer, any_none}
use Rattle.sequence_yaku.specs.Sequences.{ittsu, sanshoku_doujun, starts, pairs_among, peikou}

-- where none is counted there is none
count_none : (q : Meld → Bool) (ms : List Meld) → count q ms ≡ 0 → any q ms ≡ false
count_none q [] e = refl
count_none q (m ∷ ms) e = go (q m) e (count_none q ms)
  where
    go : (b : Bool) → one b + count q ms ≡ 0 → (count q ms ≡ 0 → any q ms ≡ false) → (b || any q ms) ≡ false
    go true e rest = absurd (omega arith)
    go false e rest = rest (omega arith)

module _ (ms : List Meld) (none : any is_sequence ms ≡ false) where
  no_run_count : (t : ℕ) → count (run_from t) ms ≡ 0
  no_run_count t =
      let fewer = count_fewer (run_from t) is_sequence (λ m. and_left (is_sequence m) _) ms in
      let zero = any_none is_sequence ms none in
      omega arith

  no_run : (t : ℕ) → any (run_from t) ms ≡ false
  no_run t = count_none (run_from t) ms (no_run_count t)

  pub no_peikou : peikou ms ≡ 0
  unfolding peikou
  no_peikou =
      ap total (map_members (λ t. pairs_among (count (run_from t) ms)) (λ t. 0) starts (λ t i. ap pairs_among (no_run_count t))) ∙ sum_zero starts

  pub no_ittsu : ittsu ms ≡ false
  unfolding ittsu
  no_ittsu = simp (no_run 0, no_run 9, no_run 18)

  pub no_doujun : sanshoku_doujun ms ≡ false
  unfolding sanshoku_doujun
  no_doujun = simp (no_run 0, no_run 1, no_run 2, no_run 3, no_run 4, no_run 5, no_run 6)
