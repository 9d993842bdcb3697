-- The search for the closed melds of a hand finds each ascending list of melds that uses up the counts, and nothing else, once.
-- Assumes nothing.
use mathlib.Core.Path.{◌≡◌, refl, sym, ap, subst}
use mathlib.Core.Logic.{⊎_elim}
use mathlib.Core.Bool.{cond}
use mathlib.Core.List.Memᴰ
use mathlib.Core.List.{List, [], ◌∷◌, map, Memᴰ, tail-eq_of_cons-eq}
use Prim.Native.Nat.{ℕ, zero, suc, ◌<◌}
use native.Mathlib.Omega.{arith}
use lib.Dec.{T, eqb, leb, eqb→eq, leb→le, le→leb}
use lib.ListN.{length}
use Rattle.lists.specs.Fold.{sum}
use Rattle.lists.specs.Order.{Pick, done, skip, pick, Nodup}
use Rattle.lists.proofs.Finite.{at, all_below_intro_holds}
use Rattle.lists.proofs.Members.{nodup_append, nodup_map, in_cond, in_true, in_single, cond_nodup, nodup_single}
use Rattle.lists.proofs.Arranged.{pick_head}
use Rattle.meld.specs.declared.Meld.{Meld}
use Rattle.meld.specs.Meld.{uses}
use Rattle.hand.specs.Readings.{is_empty, fits, minus, find}

-- the melds l use up the counts c
abbrev pub Exact : (ℕ → ℕ) → List Meld → Type 0
Exact c l = (t : ℕ) → t < 34 → c t ≡ sum (λ m. uses m t) l

-- an ascending list l of n melds out of ms that uses up the counts c
pub record Found (n : ℕ) (c : ℕ → ℕ) (ms l : List Meld) : Type 0 where
  pub picked : Pick ms l
  pub long : length l ≡ n
  pub exact : Exact c l

pub exact_cons : (c : ℕ → ℕ) (m : Meld) (l : List Meld) → T (fits m c) → Exact (minus c m) l → Exact c (m ∷ l)
exact_cons c m l f e t h =
    let a = leb→le (uses m t) (c t) (at 34 (λ t. leb (uses m t) (c t)) f t h) in
    let b = e t h in
    omega arith

pub exact_fits : (c : ℕ → ℕ) (m : Meld) (l : List Meld) → Exact c (m ∷ l) → T (fits m c)
exact_fits c m l e =
    all_below_intro_holds 34 (λ t. leb (uses m t) (c t)) (λ t h. let b = e t h in le→leb (uses m t) (c t) (omega arith))

pub exact_tail : (c : ℕ → ℕ) (m : Meld) (l : List Meld) → Exact c (m ∷ l) → Exact (minus c m) l
exact_tail c m l e t h = let b = e t h in omega arith

pub empty_exact : (c : ℕ → ℕ) → T (is_empty c) → Exact c []
empty_exact c e t h = eqb→eq (c t) 0 (at 34 (λ t. eqb (c t) 0) e t h)

pub exact_empty : (c : ℕ → ℕ) → Exact c [] → T (is_empty c)
exact_empty c e = all_below_intro_holds 34 (λ t. eqb (c t) 0) (λ t h. subst (λ (k : ℕ). T (eqb k 0)) (sym (e t h)) tt)

-- what is found with the meld m first
abbrev pub find_first : ℕ → (ℕ → ℕ) → Meld → List Meld → List (List Meld)
find_first n c m rest = cond (fits m c) (map (λ l. m ∷ l) (find n (minus c m) rest)) []

-- ---- each list found is one
empty_sound : (c : ℕ → ℕ) (ms l : List Meld) → Memᴰ l (find zero c ms) → Found zero c ms l
empty_sound c ms l i =
    subst (Found zero c ms) (sym (in_single (is_empty c) i))
    (record { picked = done; long = refl; exact = empty_exact c (in_cond (is_empty c) ([] ∷ []) i).0 })

module _ (n : ℕ) (c : ℕ → ℕ) (rec : (c : ℕ → ℕ) (ms l : List Meld) → Memᴰ l (find n c ms) → Found n c ms l) where
  first_sound : (m : Meld) (ms l : List Meld) → Memᴰ l (find_first n c m (m ∷ ms)) → Found (suc n) c (m ∷ ms) l
  first_sound m ms l i =
      let a = in_cond (fits m c) (map (λ l. m ∷ l) (find n (minus c m) (m ∷ ms))) i in
      let r = Memᴰ.of_map (λ l. m ∷ l) (find n (minus c m) (m ∷ ms)) a.1 in
      let q = rec (minus c m) (m ∷ ms) r.0 r.1 in
      subst (Found (suc n) c (m ∷ ms)) r.2
      (record {
        picked = pick refl q.picked;
        long = ap suc q.long;
        exact = exact_cons c m r.0 a.0 q.exact;
      })

  step_sound : (ms l : List Meld) → Memᴰ l (find (suc n) c ms) → Found (suc n) c ms l
  step_sound [] l i = absurd (Memᴰ.not-nil i)
  step_sound (m ∷ ms) l i =
      ⊎_elim (first_sound m ms l)
      (λ j. let q = step_sound ms l j in record { picked = skip q.picked; long = q.long; exact = q.exact })
      (Memᴰ.append_cases (find_first n c m (m ∷ ms)) i)

pub find_sound : (n : ℕ) (c : ℕ → ℕ) (ms l : List Meld) → Memᴰ l (find n c ms) → Found n c ms l
find_sound zero c ms l i = empty_sound c ms l i
find_sound (suc n) c ms l i = step_sound n c (find_sound n) ms l i

-- ---- each such list is found
pub find_complete : {ms l : List Meld} → Pick ms l → (n : ℕ) (c : ℕ → ℕ) → length l ≡ n → Exact c l → Memᴰ l (find n c ms)
find_complete done zero c e x = in_true (is_empty c) ([] ∷ []) (exact_empty c x) (Memᴰ.head refl)
find_complete done (suc n) c e x = absurd (omega arith)
find_complete (skip d) zero c e x = find_complete d zero c e x
find_complete (skip {m = m} {ms = ms} d) (suc n) c e x =
    Memᴰ.append_right (find_first n c m (m ∷ ms)) (find_complete d (suc n) c e x)
find_complete (pick q d) zero c e x = absurd (omega arith)
find_complete (pick {m = m} {ms = ms} {l = l} q d) (suc n) c e x =
    let y = subst (λ (k : Meld). Exact c (k ∷ l)) q x in
    Memᴰ.append_left _
    (in_true (fits m c) (map (λ l. m ∷ l) (find n (minus c m) (m ∷ ms))) (exact_fits c m l y)
    (Memᴰ.cast (ap (λ (k : Meld). k ∷ l) q) (Memᴰ.map (λ l. m ∷ l) (find_complete d n (minus c m) (omega arith) (exact_tail c m l y)))))

-- ---- each once
module _ (n : ℕ) (c : ℕ → ℕ) (rec : (c : ℕ → ℕ) (ms : List Meld) → Nodup ms → Nodup (find n c ms)) where
  step_nodup : (ms : List Meld) → Nodup ms → Nodup (find (suc n) c ms)
  step_nodup [] k = tt
  step_nodup (m ∷ ms) k =
      nodup_append (find_first n c m (m ∷ ms)) (find (suc n) c ms)
      (cond_nodup (fits m c) _
      (nodup_map (λ l. m ∷ l) (find n (minus c m) (m ∷ ms)) (rec (minus c m) (m ∷ ms) k) (λ a b i j q. tail-eq_of_cons-eq q)))
      (step_nodup ms k.1)
      (λ a i j.
      let r = Memᴰ.of_map (λ l. m ∷ l) (find n (minus c m) (m ∷ ms)) (in_cond (fits m c) _ i).1 in
      k.0 (pick_head {l = r.0} (find_sound (suc n) c ms (m ∷ r.0) (Memᴰ.cast r.2 j)).picked))

pub find_nodup : (n : ℕ) (c : ℕ → ℕ) (ms : List Meld) → Nodup ms → Nodup (find n c ms)
find_nodup zero c ms k = cond_nodup (is_empty c) ([] ∷ []) (nodup_single [])
find_nodup (suc n) c ms k = step_nodup n c (find_nodup n) ms k
