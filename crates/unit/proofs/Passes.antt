-- What the two passes find and write is what the definitions of readings and records say. Assumes nothing.
use mathlib.Core.Path.{◌≡◌, refl, sym, ap, ap₂, ◌∙◌}
use mathlib.Core.Bool.{Bool, true, false, ◌||◌, cond}
use mathlib.Core.List.{List, [], ◌∷◌, ◌++◌, append-nil}
use Prim.Native.Nat.{ℕ, ◌+◌, ◌-◌, ◌*◌, ◌/◌, ◌≤◌}
use native.Mathlib.Omega.{arith}
use lib.Dec.{T, eqb, eqb→eq}
use lib.ListN.{length, length-append}
use lib.Seq.{sets, length-sets}
use Rattle.std.specs.Prelude.{Option, Some, None, is_some}
use Rattle.lists.specs.Fold.{all, flat}
use Rattle.lists.proofs.Finite.{and_left, and_right, true→t}
use Rattle.lists.proofs.Members.{all_mem, all_intro}
use Rattle.tile.specs.declared.Tile.{Tile}
use Rattle.tile.specs.Tile.{tiles}
use Rattle.meld.specs.Meld.{is_call, is_meld}
use Rattle.hand.specs.Counts.{held}
use Rattle.hand.specs.Reading.{pairs}
use Rattle.hand.specs.Records.{record_of, standard_bytes, records}
use Rattle.hand.specs.Readings.{twos, is_pairs, seven_pairs, standards_at, readings}
use Rattle.hand.proofs.Lowest.{flat_append}
use Rattle.search.specs.Slots.{slots_of}
use Rattle.search.proofs.Slots.{sets_append}
use Rattle.decompose.specs.declared.Packed.{Packed}
use Rattle.decompose.specs.Packed.{in_words}
use Rattle.decompose.specs.Pairs.{found_with, records_over}
use Rattle.checks.specs.declared.Calls.{Calls}
use Rattle.checks.specs.Checks.{called, hand_check}
use Rattle.checks.proofs.Passed.{passed}
use Rattle.unit.specs.declared.Found.{Found}
use Rattle.unit.specs.declared.FoundSpecial.{FoundSpecial}
use Rattle.unit.specs.Listing.{hand_readings, hand_records}
use Rattle.unit.specs.FirstPass.{specials, standard_records, Finds, readings_found, bytes_in, bytes_found, seven_records, orphan_records, special_records}
use Rattle.unit.proofs.Standards.{standard_records_holds, standard_count, over_length, slots_length, found_few}

-- ---- seven pairs take 11 bytes, thirteen orphans 5
pub seven_length : (c : ℕ → ℕ) → is_pairs c ≡ true → length (records (seven_pairs c)) ≡ 11
unfolding seven_pairs record_of
seven_length c e =
    let seven = eqb→eq (length (twos c)) 7 (and_right (all (λ t. eqb (c t) 0 || eqb (c t) 2) tiles) _ (true→t (is_pairs c) e)) in
    ap (λ (b : Bool). length (records (cond b (pairs (twos c) ∷ []) []))) e ∙ ap length (append-nil (record_of (pairs (twos c)))) ∙ (omega arith)

seven_part : (cs : List ℕ) (b : Bool) → (b ≡ true → is_pairs (held cs) ≡ true) → length (seven_records cs b) ≡ cond b 11 0
seven_part cs true e = seven_length (held cs) (e refl)
seven_part cs false e = refl

orphan_part : (p : Option Tile) → length (orphan_records p) ≡ cond (is_some p) 5 0
unfolding record_of
orphan_part None = refl
orphan_part (Some p) = refl

pub orphans_size : (p : Tile) → length (orphan_records (Some p)) ≡ 5
orphans_size p = orphan_part (Some p)

pub special_length : (cs : List ℕ) (f : FoundSpecial) → (f.seven ≡ true → is_pairs (held cs) ≡ true) → length (special_records cs f) ≡ bytes_in f
unfolding special_records
special_length cs f e =
    let a = length-append (seven_records cs f.seven) (orphan_records f.orphan) in
    let b = seven_part cs f.seven e in
    let d = orphan_part f.orphan in
    a ∙ ap₂ ◌+◌ b d

-- the calls of a hand that has passed the checks are melds
pub melds_called : (cs : List ℕ) (k : Calls) → hand_check cs k ≡ 0 → T (all is_meld (called k))
melds_called cs k ok = all_intro is_meld (called k) (λ m i. and_left (is_meld m) _ (all_mem is_call (passed cs k ok).calls i))

-- ---- the whole
module _ (cs : List ℕ) (k : Calls) (ok : hand_check cs k ≡ 0) (long : length (called k) ≡ k.count) where
  short : length (called k) ≤ 4
  short = let few = (passed cs k ok).few in omega arith

  needed : 4 - length (called k) ≡ 4 - k.count
  needed = omega arith

  -- the records, seven pairs and orphans first
  records_found : hand_records cs k ≡ records (specials cs k) ++ standard_records (held cs) k
  unfolding hand_records hand_readings readings specials standard_records
  records_found =
      flat_append record_of (specials cs k) (flat (standards_at (held cs) (called k)) tiles)
      ∙ ap (λ (l : List ℕ). records (specials cs k) ++ l)
      (standard_records_holds (held cs) (called k) (melds_called cs k ok) short tiles ∙ ap (λ (n : ℕ). records_over n (held cs) (slots_of (called k)) tiles) needed)

  pub records_length : length (hand_records cs k) ≡ length (records (specials cs k)) + length (standard_records (held cs) k)
  records_length = ap length records_found ∙ length-append (records (specials cs k)) (standard_records (held cs) k)

  -- so many bytes for each of the standard ones
  standards_length : length (standard_records (held cs) k) ≡ standard_bytes * length (found_with (4 - k.count) (held cs) tiles)
  unfolding standard_records
  standards_length = over_length (4 - k.count) (held cs) (slots_of (called k)) (slots_length (called k)) tiles

  readings_counted : length (hand_readings cs k) ≡ length (found_with (4 - k.count) (held cs) tiles) + length (specials cs k)
  unfolding hand_readings readings specials
  readings_counted =
      let a = length-append (specials cs k) (flat (standards_at (held cs) (called k)) tiles) in
      let b = standard_count (held cs) (called k) (melds_called cs k ok) short tiles ∙ ap (λ (n : ℕ). length (found_with n (held cs) tiles)) needed in
      omega arith

  -- at most 16 lists of melds for each pair
  standards_few : length (found_with (4 - k.count) (held cs) tiles) ≤ 544
  standards_few = found_few (4 - k.count) (held cs) (omega arith) (λ u h. (passed cs k ok).four u) tiles

-- what the first pass counts
module _ (cs : List ℕ) (k : Calls) (ok : hand_check cs k ≡ 0) (f : Found) (finds : Finds cs k f) where
  pub readings_are : length (hand_readings cs k) ≡ readings_found f
  readings_are =
      let a = readings_counted cs k ok finds.special.calls in
      let b = finds.special.counted in
      let d = finds.standard in
      omega arith

  pub bytes_are : length (hand_records cs k) ≡ bytes_found f
  bytes_are =
      let a = records_length cs k ok finds.special.calls in
      let b = standards_length cs k ok finds.special.calls in
      let d = ap length finds.special.listed ∙ special_length cs f.special finds.special.pairs in
      let e = finds.standard in
      omega arith

-- ---- runs of bytes written one after the other
pub both_written :
    (x y out₀ out₁ out₂ : List ℕ) (a : ℕ) → out₁ ≡ sets out₀ 0 x → a ≡ length x → out₂ ≡ sets out₁ a y → out₂ ≡ sets out₀ 0 (x ++ y)
both_written x y out₀ out₁ out₂ a e f g =
    let start : a ≡ 0 + length x = omega arith in
    g ∙ ap (λ (l : List ℕ). sets l a y) e ∙ ap (λ (n : ℕ). sets (sets out₀ 0 x) n y) start ∙ sym (sets_append x y out₀ 0)

pub special_is : (cs : List ℕ) (f : FoundSpecial) → special_records cs f ≡ seven_records cs f.seven ++ orphan_records f.orphan
unfolding special_records
special_is cs f = refl

-- the standard readings written behind seven pairs and orphans, from words that hold the counts
module _ (cs : List ℕ) (k : Calls) (ok : hand_check cs k ≡ 0) (long : length (called k) ≡ k.count) (h : Packed) (e : in_words h ≡ held cs) where
  same_standards : standard_records (in_words h) k ≡ standard_records (held cs) k
  same_standards = ap (λ (c : ℕ → ℕ). standard_records c k) e

  module _ (out₀ out₁ : List ℕ) (start : ℕ) (first : out₁ ≡ sets out₀ 0 (records (specials cs k))) (place : start ≡ length (records (specials cs k))) where
    pub room_behind : length (hand_records cs k) ≤ length out₀ → start + length (standard_records (in_words h) k) ≤ length out₁
    room_behind room =
        let a = records_length cs k ok long in
        let b = ap length same_standards in
        let d = ap length first ∙ length-sets out₀ 0 (records (specials cs k)) in
        omega arith

    pub all_written : (out₂ : List ℕ) → out₂ ≡ sets out₁ start (standard_records (in_words h) k) → out₂ ≡ sets out₀ 0 (hand_records cs k)
    all_written out₂ g =
        both_written (records (specials cs k)) (standard_records (held cs) k) out₀ out₁ out₂ start first place (g ∙ ap (sets out₁ start) same_standards)
        ∙ ap (sets out₀ 0) (sym (records_found cs k ok long))

  -- the number of readings, from where the records begin and end
  pub all_counted :
      (start end n : ℕ) → end ≡ start + length (standard_records (in_words h) k) → n ≡ length (specials cs k) → n ≤ 2
      → ((end - start) / standard_bytes + n ≡ length (hand_readings cs k)) × ((end - start) / standard_bytes + n ≤ 2178)
  all_counted start end n f g few =
      let a = ap length same_standards in
      let b = standards_length cs k ok long in
      let d = readings_counted cs k ok long in
      let i = standards_few cs k ok long in
      (omega arith, omega arith)
