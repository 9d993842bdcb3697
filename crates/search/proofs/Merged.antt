-- The four slots, with the calls and then a hand's melds put in, hold the melds in ascending order: they are the record of the
-- standard reading. Assumes nothing.
use mathlib.Core.Path.{◌≡◌, refl, sym, ap, ap₂, ◌∙◌, subst}
use mathlib.Core.Logic.{⊎_elim}
use mathlib.Core.Bool.{Bool, true, false, cond}
use mathlib.Core.List.Memᴰ
use mathlib.Core.List.Permᴰ
use mathlib.Core.List.{List, [], ◌∷◌, ◌++◌, map, Memᴰ, Permᴰ, append-nil}
use Prim.Native.Nat.{ℕ, zero, suc, ◌+◌, ◌/◌, ◌%◌, ◌≤◌, ◌<◌}
use native.Mathlib.Omega.{arith}
use lib.Dec.{T, leb}
use lib.ListN.{length, length-append, replicate}
use borrow.Author.Tests.{leb-true, leb-false, le-leb}
use Rattle.lists.specs.Fold.{all}
use Rattle.lists.specs.Order.{Pick, done, skip, pick, Pairwise}
use Rattle.lists.proofs.Finite.{and_left, and_right, and_both}
use Rattle.lists.proofs.Permuted.{every_perm, map_perm}
use Rattle.lists.proofs.Members.{perm_mem, perm_eq, append_swap, length_perm, all_mem}
use Rattle.meld.specs.declared.Meld.{Meld}
use Rattle.meld.specs.Meld.{is_meld, key, melds, sorted}
use Rattle.meld.proofs.Melds.{arrange_same, arrange_id, meld_kind, meld_tile, meld_source, melds_nodup, in_melds, melds_ascend}
use Rattle.hand.specs.Reading.{standard}
use Rattle.hand.specs.Records.{meld_bytes, record_of, standard_bytes, records}
use Rattle.hand.proofs.Records.{meld_bytes_length_holds}
use Rattle.search.specs.Slots.{put, put_all, slots_of, slot_bytes, slot_record, records_with}

-- ---- insertion: the lower of two melds stays in a place, the higher goes on to the next
abbrev lower : Meld → Meld → Meld
lower m x = cond (leb (key m) (key x)) m x

abbrev higher : Meld → Meld → Meld
higher m x = cond (leb (key m) (key x)) x m

abbrev insert : Meld → List Meld → List Meld
insert m [] = m ∷ []
insert m (x ∷ xs) = lower m x ∷ insert (higher m x) xs

abbrev insert_all : List Meld → List Meld → List Meld
insert_all [] ms = ms
insert_all (m ∷ l) ms = insert_all l (insert m ms)

-- ---- it loses and adds nothing
pair_perm : (m x : Meld) (xs : List Meld) → Permᴰ (lower m x ∷ (higher m x ∷ xs)) (m ∷ (x ∷ xs))
pair_perm m x xs = go (leb (key m) (key x))
  where
    go : (b : Bool) → Permᴰ (cond b m x ∷ (cond b x m ∷ xs)) (m ∷ (x ∷ xs))
    go true = Permᴰ.refl (m ∷ (x ∷ xs))
    go false = Permᴰ.swap refl refl

insert_perm : (m : Meld) (xs : List Meld) → Permᴰ (insert m xs) (m ∷ xs)
insert_perm m [] = Permᴰ.refl (m ∷ [])
insert_perm m (x ∷ xs) = Permᴰ.trans (Permᴰ.cons refl (insert_perm (higher m x) xs)) (pair_perm m x xs)

insert_all_perm_holds : (l ms : List Meld) → Permᴰ (insert_all l ms) (l ++ ms)
insert_all_perm_holds [] ms = Permᴰ.refl ms
insert_all_perm_holds (m ∷ l) ms =
    Permᴰ.trans (insert_all_perm_holds l (insert m ms))
    (Permᴰ.trans (Permᴰ.append_left l (insert_perm m ms)) (Permᴰ.middle m l ms))

perm_melds : {a b : List Meld} → Permᴰ a b → T (all is_meld b) → T (all is_meld a)
perm_melds d t = subst T (sym (every_perm (map_perm is_meld d))) t

insert_melds : (m : Meld) (xs : List Meld) → T (is_meld m) → T (all is_meld xs) → T (all is_meld (insert m xs))
insert_melds m xs v w = perm_melds (insert_perm m xs) (and_both (is_meld m) (all is_meld xs) v w)

insert_all_melds_holds : (l ms : List Meld) → T (all is_meld l) → T (all is_meld ms) → T (all is_meld (insert_all l ms))
insert_all_melds_holds [] ms v w = w
insert_all_melds_holds (m ∷ l) ms v w =
    insert_all_melds_holds l (insert m ms) (and_right (is_meld m) _ v) (insert_melds m ms (and_left (is_meld m) _ v) w)

-- ---- it keeps melds in ascending order
abbrev Ascending : List Meld → Type 0
Ascending l = Pairwise (λ m x. key m ≤ key x) l

lower_higher : (m x : Meld) → key (lower m x) ≤ key (higher m x)
lower_higher m x = go (leb (key m) (key x)) refl
  where
    go : (b : Bool) → leb (key m) (key x) ≡ b → key (cond b m x) ≤ key (cond b x m)
    go true e = leb-true (key m) (key x) e
    go false e = let h = leb-false (key m) (key x) e in omega arith

lower_second : (m x : Meld) → key (lower m x) ≤ key x
lower_second m x = go (leb (key m) (key x)) refl
  where
    go : (b : Bool) → leb (key m) (key x) ≡ b → key (cond b m x) ≤ key x
    go true e = leb-true (key m) (key x) e
    go false e = omega arith

insert_ascends : (m : Meld) (xs : List Meld) → Ascending xs → Ascending (insert m xs)
insert_ascends m [] a = (λ y i. absurd (Memᴰ.not-nil i), tt)
insert_ascends m (x ∷ xs) a = (
  λ y i. ⊎_elim (λ (e : y ≡ higher m x). subst (λ (z : Meld). key (lower m x) ≤ key z) (sym e) (lower_higher m x))
      (λ j. let h = lower_second m x in let g = a.0 y j in omega arith)
      (Memᴰ.cases_cons (perm_mem (insert_perm (higher m x) xs) i)),
  insert_ascends (higher m x) xs a.1,
)

insert_all_ascends_holds : (l ms : List Meld) → Ascending ms → Ascending (insert_all l ms)
insert_all_ascends_holds [] ms a = a
insert_all_ascends_holds (m ∷ l) ms a = insert_all_ascends_holds l (insert m ms) (insert_ascends m ms a)

-- ---- an ascending list of melds is picked out of all melds in their order
beyond : {c x : Meld} {cs : List Meld} → key c < key x → Memᴰ x (c ∷ cs) → Memᴰ x cs
beyond {c} {x} h i =
    ⊎_elim (λ (e : x ≡ c). let q = ap key e in absurd (omega arith)) (λ j. j) (Memᴰ.cases_cons i)

above : (c : Meld) {x y : Meld} {l : List Meld} → key c < key x → Ascending (x ∷ l) → Memᴰ y (x ∷ l) → key c < key y
above c {x} {y} h a i =
    ⊎_elim (λ (e : y ≡ x). let q = ap key e in omega arith) (λ j. let g = a.0 y j in omega arith) (Memᴰ.cases_cons i)

ascending_pick :
    (cs l : List Meld) → Pairwise (λ m x. key m < key x) cs → Ascending l → ((x : Meld) → Memᴰ x l → Memᴰ x cs) → Pick cs l
ascending_pick cs [] up a f = done
ascending_pick [] (x ∷ l) up a f = absurd (Memᴰ.not-nil (f x (Memᴰ.head refl)))
ascending_pick (c ∷ cs) (x ∷ l) up a f =
    ⊎_elim (λ e. pick e (ascending_pick (c ∷ cs) l up a.1 (λ y i. f y (Memᴰ.tail i))))
    (λ j. skip (ascending_pick cs (x ∷ l) up.1 a (λ y i. beyond (above c (up.0 x j) a i) (f y i))))
    (Memᴰ.cases_cons (f x (Memᴰ.head refl)))

-- ---- the calls k and then the melds l inserted are all of them, sorted
abbrev inserted : List Meld → List Meld → List Meld
inserted k l = insert_all l (insert_all k [])

inserted_perm : (k l : List Meld) → Permᴰ (inserted k l) (k ++ l)
inserted_perm k l =
    Permᴰ.trans (insert_all_perm_holds l (insert_all k []))
    (Permᴰ.trans (Permᴰ.append_left l (insert_all_perm_holds k []))
    (Permᴰ.trans (append_swap l (k ++ [])) (perm_eq (ap (λ (r : List Meld). r ++ l) (append-nil k)))))

inserted_melds : (k l : List Meld) → T (all is_meld k) → T (all is_meld l) → T (all is_meld (inserted k l))
inserted_melds k l v w = insert_all_melds_holds l (insert_all k []) w (insert_all_melds_holds k [] v tt)

inserted_pick : (k l : List Meld) → T (all is_meld k) → T (all is_meld l) → Pick melds (inserted k l)
inserted_pick k l v w =
    ascending_pick melds (inserted k l) melds_ascend (insert_all_ascends_holds l (insert_all k []) (insert_all_ascends_holds k [] tt))
    (λ m i. in_melds m (all_mem is_meld (inserted_melds k l v w) i))

inserted_sorted : (k l : List Meld) → T (all is_meld k) → T (all is_meld l) → inserted k l ≡ sorted (k ++ l)
inserted_sorted k l v w = sym (arrange_id (inserted_pick k l v w) melds_nodup) ∙ arrange_same melds (inserted_perm k l)

-- ---- the slots go as the insertion does, as long as one is empty
empty_stays : (j : ℕ) → put 65535 (replicate j 65535) ≡ replicate j 65535
unfolding put
empty_stays zero = refl
empty_stays (suc j) = ap (λ (r : List ℕ). 65535 ∷ r) (empty_stays j)

key_small : (m : Meld) → T (is_meld m) → key m ≤ 65535
key_small m v = let h = meld_kind m v in let g = meld_tile m v in let i = meld_source m v in omega arith

key_cond : (b : Bool) (m x : Meld) → cond b (key m) (key x) ≡ key (cond b m x)
key_cond true m x = refl
key_cond false m x = refl

put_insert :
    (m : Meld) (xs : List Meld) (j : ℕ) → T (all is_meld (m ∷ xs))
    → put (key m) (map key xs ++ replicate (suc j) 65535) ≡ map key (insert m xs) ++ replicate j 65535
unfolding put
put_insert m [] j v =
    let e = le-leb (key m) 65535 (key_small m (and_left (is_meld m) _ v)) in
    rw e (ap (λ (r : List ℕ). key m ∷ r) (empty_stays j))
put_insert m (x ∷ xs) j v =
    let w : T (all is_meld (higher m x ∷ xs)) = and_right (is_meld (lower m x)) _ (perm_melds (pair_perm m x xs) v) in
    ap₂ (λ (y z : ℕ). y ∷ put z (map key xs ++ replicate (suc j) 65535)) (key_cond (leb (key m) (key x)) m x) (key_cond (leb (key m) (key x)) x m)
    ∙ ap (λ (r : List ℕ). key (lower m x) ∷ r) (put_insert (higher m x) xs j w)

put_all_insert_all_holds :
    (l ms : List Meld) (j : ℕ) → T (all is_meld l) → T (all is_meld ms)
    → put_all (map key l) (map key ms ++ replicate (j + length l) 65535) ≡ map key (insert_all l ms) ++ replicate j 65535
unfolding put_all
put_all_insert_all_holds [] ms j v w = let e : j + 0 ≡ j = omega arith in ap (λ (n : ℕ). map key ms ++ replicate n 65535) e
put_all_insert_all_holds (m ∷ l) ms j v w =
    let good = and_left (is_meld m) _ v in
    let e : j + suc (length l) ≡ suc (j + length l) = omega arith in
    ap (λ (n : ℕ). put_all (map key l) (put (key m) (map key ms ++ replicate n 65535))) e
    ∙ ap (put_all (map key l)) (put_insert m ms (j + length l) (and_both (is_meld m) (all is_meld ms) good w))
    ∙ put_all_insert_all_holds l (insert m ms) j (and_right (is_meld m) _ v) (insert_melds m ms good w)

slots_inserted :
    (k l : List Meld) → T (all is_meld k) → T (all is_meld l) → length k + length l ≡ 4
    → put_all (map key l) (slots_of k) ≡ map key (inserted k l)
unfolding slots_of
slots_inserted k l v w e =
    let four : 4 ≡ length l + length k = omega arith in
    let rest : length l ≡ 0 + length l = omega arith in
    ap (λ (n : ℕ). put_all (map key l) (put_all (map key k) (replicate n 65535))) four
    ∙ ap (put_all (map key l)) (put_all_insert_all_holds k [] (length l) v tt)
    ∙ ap (λ (n : ℕ). put_all (map key l) (map key (insert_all k []) ++ replicate n 65535)) rest
    ∙ put_all_insert_all_holds l (insert_all k []) 0 w (insert_all_melds_holds k [] v tt)
    ∙ append-nil (map key (inserted k l))

-- ---- the bytes
key_tile : (m : Meld) → T (is_meld m) → key m / 32 % 256 ≡ m.tile
key_tile m v = let h = meld_kind m v in let g = meld_tile m v in let i = meld_source m v in omega arith

key_kind : (m : Meld) → T (is_meld m) → key m / 4 % 8 ≡ m.kind
key_kind m v = let h = meld_kind m v in let i = meld_source m v in omega arith

key_source : (m : Meld) → T (is_meld m) → key m % 4 ≡ m.source
key_source m v = let i = meld_source m v in omega arith

slot_bytes_holds : (ms : List Meld) → T (all is_meld ms) → slot_bytes (map key ms) ≡ meld_bytes ms
unfolding slot_bytes
slot_bytes_holds [] v = refl
slot_bytes_holds (m ∷ ms) v =
    let good = and_left (is_meld m) _ v in
    ap₂ ◌∷◌ (key_tile m good) (ap₂ ◌∷◌ (key_kind m good) (ap₂ ◌∷◌ (key_source m good) (slot_bytes_holds ms (and_right (is_meld m) _ v))))

record_four : (p : ℕ) (ms : List Meld) → T (all is_meld ms) → length ms ≡ 4 → slot_record p (map key ms) ≡ record_of (standard p ms)
unfolding slot_record record_of
record_four p ms v e =
    let h = meld_bytes_length_holds ms in
    let n : length (p ∷ meld_bytes ms) + 4 ≡ standard_bytes = omega arith in
    ap (λ (r : List ℕ). standard_bytes ∷ (0 ∷ (3 ∷ (0 ∷ (p ∷ r))))) (slot_bytes_holds ms v)
    ∙ ap (λ (s : ℕ). s % 256 ∷ (s / 256 ∷ (3 ∷ (0 ∷ (p ∷ meld_bytes ms))))) (sym n)

-- the slots, with the calls and then a hand's melds put in, are the record of the standard reading
pub merged :
    (p : ℕ) (k l : List Meld) → T (all is_meld k) → T (all is_meld l) → length k + length l ≡ 4
    → slot_record p (put_all (map key l) (slots_of k)) ≡ record_of (standard p (sorted (k ++ l)))
merged p k l v w e =
    ap (slot_record p) (slots_inserted k l v w e)
    ∙ record_four p (inserted k l) (inserted_melds k l v w) (length_perm (inserted_perm k l) ∙ length-append k l ∙ e)
    ∙ ap (λ (ms : List Meld). record_of (standard p ms)) (inserted_sorted k l v w)

-- and for all lists of melds of a pair
pub merged_all :
    (p : ℕ) (k : List Meld) (ls : List (List Meld)) → T (all is_meld k)
    → ((l : List Meld) → Memᴰ l ls → T (all is_meld l) × (length k + length l ≡ 4))
    → records_with p (slots_of k) ls ≡ records (map (λ l. standard p (sorted (k ++ l))) ls)
unfolding records_with
merged_all p k [] v f = refl
merged_all p k (l ∷ ls) v f =
    let h = f l (Memᴰ.head refl) in
    ap₂ ◌++◌ (merged p k l v h.0 h.1) (merged_all p k ls v (λ m i. f m (Memᴰ.tail i)))
