-- The records of the standard readings are those that the loop over the pairs writes, all equally long. Assumes nothing.
use mathlib.Core.Path.{◌≡◌, refl, sym, ap, ap₂, ◌∙◌}
use mathlib.Core.Bool.{Bool, true, false, cond}
use mathlib.Core.List.{List, [], ◌∷◌, ◌++◌, map, Memᴰ}
use Prim.Native.Nat.{ℕ, suc, ◌+◌, ◌-◌, ◌*◌, ◌≤◌, ◌<◌}
use native.Mathlib.Nat.{le_trans, pow-le-pow_right}
use native.Mathlib.Omega.{arith}
use lib.Dec.{T, leb, lit<}
use lib.ListN.{length, length-append, length-map}
use Rattle.lists.specs.Fold.{all, flat}
use Rattle.lists.proofs.Finite.{and_left}
use Rattle.lists.proofs.Members.{all_mem, all_intro}
use Rattle.meld.specs.declared.Meld.{Meld}
use Rattle.meld.specs.Meld.{is_meld, is_hand_meld, key, sorted}
use Rattle.hand.specs.Reading.{standard}
use Rattle.hand.specs.Records.{record_of, standard_bytes, records}
use Rattle.hand.specs.Readings.{less_pair, meld_lists, standards_at}
use Rattle.hand.proofs.Lowest.{flat_append, few, lists_length, lists_melds}
use Rattle.search.specs.Slots.{put, put_all, slots_of, slot_record, records_with}
use Rattle.search.proofs.Slots.{record_length}
use Rattle.search.proofs.Merged.{merged_all}
use Rattle.decompose.specs.Pairs.{with_pair, found_with, records_over}

flat_flat : {A B C : Type 0} (f : B → List C) (g : A → List B) (l : List A) → flat f (flat g l) ≡ flat (λ a. flat f (g a)) l
flat_flat f g [] = refl
flat_flat f g (a ∷ l) = flat_append f (g a) (flat g l) ∙ ap (λ (r : List _). flat f (g a) ++ r) (flat_flat f g l)

flat_same : {A B : Type 0} (f g : A → List B) → ((a : A) → f a ≡ g a) → (l : List A) → flat f l ≡ flat g l
flat_same f g e [] = refl
flat_same f g e (a ∷ l) = ap₂ ◌++◌ (e a) (flat_same f g e l)

-- ---- one pair
module _ (c : ℕ → ℕ) (k : List Meld) (calls : T (all is_meld k)) (four : length k ≤ 4) where
  melds_of_holds : (p : ℕ) (l : List Meld) → Memᴰ l (meld_lists (4 - length k) (less_pair c p)) → T (all is_meld l) × (length k + length l ≡ 4)
  melds_of_holds p l i =
      let hand = lists_melds (4 - length k) (less_pair c p) l i in
      let long = lists_length (4 - length k) (less_pair c p) l i in
      (all_intro is_meld l (λ m j. and_left (is_meld m) _ (all_mem is_hand_meld hand j)), omega arith)

  at_pair : (p : ℕ) → records (standards_at c k p) ≡ records_with p (slots_of k) (with_pair (4 - length k) c p)
  unfolding standards_at with_pair records_with
  at_pair p = go (leb 2 (c p))
    where
      go :
          (b : Bool) → records (cond b (map (λ l. standard p (sorted (k ++ l))) (meld_lists (4 - length k) (less_pair c p))) [])
          ≡ records_with p (slots_of k) (cond b (meld_lists (4 - length k) (less_pair c p)) [])
      go true = sym (merged_all p k (meld_lists (4 - length k) (less_pair c p)) calls (melds_of_holds p))
      go false = refl

  count_at : (p : ℕ) → length (standards_at c k p) ≡ length (with_pair (4 - length k) c p)
  unfolding standards_at with_pair
  count_at p = go (leb 2 (c p))
    where
      go :
          (b : Bool) → length (cond b (map (λ l. standard p (sorted (k ++ l))) (meld_lists (4 - length k) (less_pair c p))) [])
          ≡ length (cond b (meld_lists (4 - length k) (less_pair c p)) [])
      go true = length-map (meld_lists (4 - length k) (less_pair c p)) (λ l. standard p (sorted (k ++ l)))
      go false = refl

  -- ---- all pairs
  pub standard_records_holds : (ps : List ℕ) → records (flat (standards_at c k) ps) ≡ records_over (4 - length k) c (slots_of k) ps
  unfolding records_over
  standard_records_holds ps = flat_flat record_of (standards_at c k) ps ∙ flat_same _ _ at_pair ps

  pub standard_count : (ps : List ℕ) → length (flat (standards_at c k) ps) ≡ length (found_with (4 - length k) c ps)
  unfolding found_with
  standard_count [] = refl
  standard_count (p ∷ ps) =
      let a = length-append (standards_at c k p) (flat (standards_at c k) ps) in
      let b = length-append (with_pair (4 - length k) c p) (flat (with_pair (4 - length k) c) ps) in
      let d = count_at p in
      let e = standard_count ps in
      omega arith

-- ---- equally many bytes each
put_length : (x : ℕ) (l : List ℕ) → length (put x l) ≡ length l
unfolding put
put_length x [] = refl
put_length x (y ∷ l) = ap suc (put_length (cond (leb x y) y x) l)

put_all_length_holds : (xs l : List ℕ) → length (put_all xs l) ≡ length l
unfolding put_all
put_all_length_holds [] l = refl
put_all_length_holds (x ∷ xs) l = put_all_length_holds xs (put x l) ∙ put_length x l

with_length : (p : ℕ) (slots : List ℕ) → length slots ≡ 4 → (ls : List (List Meld)) → length (records_with p slots ls) ≡ standard_bytes * length ls
unfolding records_with
with_length p slots e [] = refl
with_length p slots e (l ∷ ls) =
    let a = length-append (slot_record p (put_all (map key l) slots)) (flat (λ l. slot_record p (put_all (map key l) slots)) ls) in
    let b = record_length p (put_all (map key l) slots) (put_all_length_holds (map key l) slots ∙ e) in
    let d = with_length p slots e ls in
    omega arith

pub over_length : (n : ℕ) (c : ℕ → ℕ) (slots : List ℕ) → length slots ≡ 4 → (ps : List ℕ) → length (records_over n c slots ps) ≡ standard_bytes * length (found_with n c ps)
unfolding records_over found_with
over_length n c slots e [] = refl
over_length n c slots e (p ∷ ps) =
    let a = length-append (records_with p slots (with_pair n c p)) (flat (λ p. records_with p slots (with_pair n c p)) ps) in
    let b = length-append (with_pair n c p) (flat (with_pair n c) ps) in
    let d = with_length p slots e (with_pair n c p) in
    let r = over_length n c slots e ps in
    omega arith

pub slots_length : (k : List Meld) → length (slots_of k) ≡ 4
unfolding slots_of
slots_length k = put_all_length_holds (map key k) _

-- ---- at most 16 for each pair
less_few : (c : ℕ → ℕ) (p : ℕ) → ((u : ℕ) → u < 34 → c u ≤ 4) → (u : ℕ) → u < 34 → less_pair c p u ≤ 4
less_few c p four u h = omega (arith, four u h)

with_few : (n : ℕ) (c : ℕ → ℕ) → n ≤ 4 → ((u : ℕ) → u < 34 → c u ≤ 4) → (p : ℕ) → length (with_pair n c p) ≤ 16
unfolding with_pair
with_few n c h four p = go (leb 2 (c p))
  where
    go : (b : Bool) → length (cond b (meld_lists n (less_pair c p)) []) ≤ 16
    go true = le_trans (few n (less_pair c p) (less_few c p four)) (pow-le-pow_right {n = 2} (lit< tt) h)
    go false = omega arith

pub found_few : (n : ℕ) (c : ℕ → ℕ) → n ≤ 4 → ((u : ℕ) → u < 34 → c u ≤ 4) → (ps : List ℕ) → length (found_with n c ps) ≤ 16 * length ps
unfolding found_with
found_few n c h four [] = omega arith
found_few n c h four (p ∷ ps) =
    let a = length-append (with_pair n c p) (flat (with_pair n c) ps) in
    let b = with_few n c h four p in
    let d = found_few n c h four ps in
    omega arith
