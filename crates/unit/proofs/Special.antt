-- Seven pairs and thirteen orphans as the first pass finds them. Assumes nothing.
use Rattle.std.proofs.Common.{◌≡◌, refl, sym, ap, ap₂, ◌∙◌, Bool, true, false, cond, ℕ, ◌+◌, List, [], ◌∷◌, ◌++◌, length, length-append, arith}
use mathlib.Core.List.{append-nil}
use Rattle.std.specs.Prelude.{Option, Some, None, is_some}
use Rattle.tile.specs.declared.Tile.{Tile}
use Rattle.meld.specs.declared.Meld.{Meld}
use Rattle.hand.specs.Counts.{held}
use Rattle.hand.specs.Reading.{Reading, orphans, pairs}
use Rattle.hand.specs.Records.{record_of, records}
use Rattle.hand.specs.Readings.{is_pairs, seven_pairs, thirteen_orphans, twos, uncalled}
use Rattle.hand.proofs.Lowest.{flat_append}
use Rattle.special.specs.Doubled.{doubled_in}
use Rattle.unit.specs.FirstPass.{orphan_records, seven_records, put_call}
use Prim.Native.Nat.{zero, suc, ◌≤◌}
use lib.Dec.{ltb}
use lib.ListN.{take, get_or}
use Rattle.meld.specs.Meld.{key, meld}
use Rattle.search.specs.Slots.{put_all, slots_of}

-- ---- nothing called
pub none_of : {A : Type 0} (l : List A) → length l ≡ 0 → l ≡ []
none_of [] e = refl
none_of (x ∷ l) e = absurd (omega arith)

module _ (cs : List ℕ) (seven : Bool) (p : Option Tile) (e : seven ≡ is_pairs (held cs)) (f : thirteen_orphans (held cs) ≡ doubled_in p) where
  seven_list : seven_pairs (held cs) ≡ cond seven (seven_pairs (held cs)) []
  unfolding seven_pairs
  seven_list = ap (λ (b : Bool). cond b (pairs (twos (held cs)) ∷ []) []) (sym e) ∙ again seven ∙ ap (λ (b : Bool). cond seven (cond b (pairs (twos (held cs)) ∷ []) []) []) e
    where
      again : (b : Bool) → cond b (pairs (twos (held cs)) ∷ []) [] ≡ cond b (cond b (pairs (twos (held cs)) ∷ []) []) []
      again true = refl
      again false = refl

  seven_one : length (seven_pairs (held cs)) ≡ cond seven 1 0
  unfolding seven_pairs
  seven_one = ap (λ (b : Bool). length (cond b (pairs (twos (held cs)) ∷ []) [])) (sym e) ∙ size seven
    where
      size : (b : Bool) → length (cond b (pairs (twos (held cs)) ∷ []) []) ≡ cond b 1 0
      size true = refl
      size false = refl

  orphan_one : length (thirteen_orphans (held cs)) ≡ cond (is_some p) 1 0
  orphan_one = ap length f ∙ size p
    where
      size : (o : Option Tile) → length (doubled_in o) ≡ cond (is_some o) 1 0
      size None = refl
      size (Some t) = refl

  pub special_records_holds : records (seven_pairs (held cs) ++ thirteen_orphans (held cs)) ≡ seven_records cs seven ++ orphan_records p
  special_records_holds =
      flat_append record_of (seven_pairs (held cs)) (thirteen_orphans (held cs))
      ∙ ap₂ ◌++◌ (ap records seven_list ∙ seven_part seven) (ap records f ∙ orphan_part p)
    where
      seven_part : (b : Bool) → records (cond b (seven_pairs (held cs)) []) ≡ cond b (records (seven_pairs (held cs))) []
      seven_part true = refl
      seven_part false = refl

      orphan_part : (o : Option Tile) → records (doubled_in o) ≡ orphan_records o
      orphan_part None = refl
      orphan_part (Some t) = append-nil (record_of (orphans t.0))

  pub special_count : length (seven_pairs (held cs) ++ thirteen_orphans (held cs)) ≡ cond seven 1 0 + cond (is_some p) 1 0
  special_count = length-append (seven_pairs (held cs)) (thirteen_orphans (held cs)) ∙ ap₂ ◌+◌ seven_one orphan_one

-- ---- uncalled, and called
pub nothing_called_holds : (k : List Meld) → length k ≡ 0 → (l : List Reading) → uncalled k l ≡ l
nothing_called_holds k e l = ap (λ (c : List Meld). uncalled c l) (none_of k e)

pub something_called : (k : List Meld) → (length k ≡ 0 → ⊥) → (l : List Reading) → uncalled k l ≡ []
something_called [] e l = absurd (e refl)
something_called (m ∷ k) e l = refl

-- ---- the calls in slots
pub slots_are : (n : ℕ) (ms : List Meld) → length ms ≡ 4 → n ≤ 4 → slots_of (take n ms)
    ≡ put_call (ltb 3 n) (key (get_or ms 3 (meld 0 0)))
    (put_call (ltb 2 n) (key (get_or ms 2 (meld 0 0)))
    (put_call (ltb 1 n) (key (get_or ms 1 (meld 0 0)))
    (put_call (ltb 0 n) (key (get_or ms 0 (meld 0 0))) (65535 ∷ 65535 ∷ 65535 ∷ 65535 ∷ []))))
unfolding slots_of put_all
slots_are n [] e h = absurd (omega arith)
slots_are n (a ∷ []) e h = absurd (omega arith)
slots_are n (a ∷ b ∷ []) e h = absurd (omega arith)
slots_are n (a ∷ b ∷ c ∷ []) e h = absurd (omega arith)
slots_are zero (a ∷ b ∷ c ∷ d ∷ []) e h = refl
slots_are (suc zero) (a ∷ b ∷ c ∷ d ∷ []) e h = refl
slots_are (suc (suc zero)) (a ∷ b ∷ c ∷ d ∷ []) e h = refl
slots_are (suc (suc (suc zero))) (a ∷ b ∷ c ∷ d ∷ []) e h = refl
slots_are (suc (suc (suc (suc zero)))) (a ∷ b ∷ c ∷ d ∷ []) e h = refl
slots_are (suc (suc (suc (suc (suc n))))) (a ∷ b ∷ c ∷ d ∷ []) e h = absurd (omega arith)
slots_are n (a ∷ b ∷ c ∷ d ∷ x ∷ ms) e h = absurd (omega arith)
