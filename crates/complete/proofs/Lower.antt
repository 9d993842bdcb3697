-- The search finds lists of melds in the order of their bytes. Assumes nothing.
use mathlib.Core.Path.{◌≡◌, refl, sym, subst, ap, ◌∙◌}
use mathlib.Core.Logic.{◌⊎◌, inl, inr, ⊎_elim}
use mathlib.Core.Bool.{Bool, true, false, cond}
use mathlib.Core.List.Memᴰ
use mathlib.Core.List.{List, [], ◌∷◌, ◌++◌, Memᴰ}
use Prim.Native.Nat.{ℕ, zero, suc, ◌<◌}
use native.Mathlib.Omega.{arith}
use native.Mathlib.Decide.{ℕ_discrete}
use lib.Dec.{T}
use lib.ListN.{length, length-append, replicate}
use Rattle.lists.specs.Order.{Nodup, Pairwise, Lex, Pick, times, arrange}
use Rattle.lists.proofs.Members.{in_cond}
use Rattle.lists.proofs.Arranged.{pick_mem, times_yes, times_zero}
use Rattle.lists.proofs.Relations.{pairwise_append, pairwise_map, cond_pairwise, pairwise_single}
use Rattle.meld.specs.declared.Meld.{Meld}
use Rattle.meld.specs.Meld.{is_meld, is_hand_meld, key, eq_meld, hand_melds, melds}
use Rattle.meld.proofs.Melds.{eq_meld→eq, eq_meld_refl_holds, arrange_pick, is_meld_holds, meld_kind, meld_source, melds_ascend}
use Rattle.hand.specs.Readings.{is_empty, fits, minus, find}
use Rattle.hand.specs.Records.{meld_bytes}
use Rattle.hand.proofs.Search.{find_first, find_sound}

-- ---- a has more of the first candidate of which the two have not equally many
pub data Lower : List Meld → List Meld → List Meld → Type 0 where
  more : {m : Meld} {ms a b : List Meld} → times eq_meld m b < times eq_meld m a → Lower (m ∷ ms) a b
  same : {m : Meld} {ms a b : List Meld} → times eq_meld m a ≡ times eq_meld m b → Lower ms a b → Lower (m ∷ ms) a b

lower_cons : (x : Meld) {ms a b : List Meld} → Lower ms a b → Lower ms (x ∷ a) (x ∷ b)
lower_cons x (more {m = m} {a = a} {b = b} h) =
    let g : times eq_meld m (x ∷ b) < times eq_meld m (x ∷ a) = omega arith in more g
lower_cons x (same {m = m} {a = a} {b = b} e d) =
    let g : times eq_meld m (x ∷ a) ≡ times eq_meld m (x ∷ b) = omega arith in same g (lower_cons x d)

pub lower_append : (k : List Meld) {ms a b : List Meld} → Lower ms a b → Lower ms (k ++ a) (k ++ b)
lower_append [] d = d
lower_append (x ∷ k) d = lower_cons x (lower_append k d)

pub none_of : (m : Meld) (ms l : List Meld) → Pick ms l → (Memᴰ m ms → ⊥) → times eq_meld m l ≡ 0
none_of m ms l p f = times_zero eq_meld eq_meld→eq eq_meld_refl_holds m l (λ i. f (pick_mem p i))

one_more : (m : Meld) (l : List Meld) → 0 < times eq_meld m (m ∷ l)
one_more m l = omega (arith, times_yes eq_meld eq_meld→eq eq_meld_refl_holds {m = m} {x = m} l refl)

-- ---- the lower list is found first
widen :
    (m : Meld) (ms : List Meld) → (Memᴰ m ms → ⊥) → (L : List (List Meld)) → ((l : List Meld) → Memᴰ l L → Pick ms l)
    → Pairwise (Lower ms) L → Pairwise (Lower (m ∷ ms)) L
widen m ms n [] f d = tt
widen m ms n (l ∷ L) f d = (
  λ y i. same (none_of m ms l (f l (Memᴰ.head refl)) n ∙ sym (none_of m ms y (f y (Memᴰ.tail i)) n)) (d.0 y i),
  widen m ms n L (λ a i. f a (Memᴰ.tail i)) d.1,
)

module _ (n : ℕ) (c : ℕ → ℕ) (rec : (c : ℕ → ℕ) (ms : List Meld) → Nodup ms → Pairwise (Lower ms) (find n c ms)) where
  step_lower : (ms : List Meld) → Nodup ms → Pairwise (Lower ms) (find (suc n) c ms)
  step_lower [] k = tt
  step_lower (m ∷ ms) k =
      pairwise_append (Lower (m ∷ ms)) (find_first n c m (m ∷ ms)) (find (suc n) c ms)
      (cond_pairwise (Lower (m ∷ ms)) (fits m c) _
      (pairwise_map (Lower (m ∷ ms)) (Lower (m ∷ ms)) (λ l. m ∷ l) (find n (minus c m) (m ∷ ms)) (rec (minus c m) (m ∷ ms) k) (λ x y i j d. lower_cons m d)))
      (widen m ms k.0 (find (suc n) c ms) (λ l i. (find_sound (suc n) c ms l i).picked) (step_lower ms k.1))
      (λ x y i j.
      let r = Memᴰ.of_map (λ l. m ∷ l) (find n (minus c m) (m ∷ ms)) (in_cond (fits m c) _ i).1 in
      let z = none_of m ms y (find_sound (suc n) c ms y j).picked k.0 in
      let u = one_more m r.0 in
      let g : times eq_meld m y < times eq_meld m (m ∷ r.0) = omega arith in
      subst (λ (w : List Meld). Lower (m ∷ ms) w y) r.2 (more g))

pub find_lower : (n : ℕ) (c : ℕ → ℕ) (ms : List Meld) → Nodup ms → Pairwise (Lower ms) (find n c ms)
find_lower zero c ms k = cond_pairwise (Lower ms) (is_empty c) ([] ∷ []) (pairwise_single (Lower ms) [])
find_lower (suc n) c ms k = step_lower n c (find_lower n) ms k

-- ---- from the melds of a hand to all melds: of the others the two have equally many
abbrev closed : List Meld → List Meld
closed [] = []
closed (y ∷ ns) = cond (is_hand_meld y) (y ∷ closed ns) (closed ns)

lower_cases :
    {m : Meld} {ms a b : List Meld} → Lower (m ∷ ms) a b
    → (times eq_meld m b < times eq_meld m a) ⊎ ((times eq_meld m a ≡ times eq_meld m b) × Lower ms a b)
lower_cases (more h) = inl h
lower_cases (same e d) = inr (e, d)

lower_wide : (ns a b : List Meld) → ((y : Meld) → (T (is_hand_meld y) → ⊥) → times eq_meld y a ≡ times eq_meld y b) → Lower (closed ns) a b → Lower ns a b
lower_wide [] a b f d = d
lower_wide (y ∷ ns) a b f d = go (is_hand_meld y) (λ t. t) (lower_wide ns a b f) d
  where
    go :
        (v : Bool) → (T (is_hand_meld y) → T v) → (Lower (closed ns) a b → Lower ns a b) → Lower (cond v (y ∷ closed ns) (closed ns)) a b
        → Lower (y ∷ ns) a b
    go true j r d = ⊎_elim (λ h. more h) (λ h. same h.0 (r h.1)) (lower_cases d)
    go false j r d = same (f y j) (r d)

pub lower_melds : (a b : List Meld) → ((y : Meld) → (T (is_hand_meld y) → ⊥) → times eq_meld y a ≡ times eq_meld y b) → Lower hand_melds a b → Lower melds a b
lower_melds a b f d = lower_wide melds a b f d

-- ---- a meld whose key is less comes first by its bytes
meld_lt : Meld → Meld → Type 0
meld_lt m x = (m.tile < x.tile) ⊎ ((m.tile ≡ x.tile) × ((m.kind < x.kind) ⊎ ((m.kind ≡ x.kind) × (m.source < x.source))))

key_lt : (m x : Meld) → T (is_meld m) → T (is_meld x) → key m < key x → meld_lt m x
unfolding meld_lt
key_lt m x v w l = go (ℕ_discrete m.tile x.tile) (ℕ_discrete m.kind x.kind)
  where
    go :
        Dec (m.tile ≡ x.tile) → Dec (m.kind ≡ x.kind)
        → (m.tile < x.tile) ⊎ ((m.tile ≡ x.tile) × ((m.kind < x.kind) ⊎ ((m.kind ≡ x.kind) × (m.source < x.source))))
    go (yes e) (yes f) = inr (e, inr (f, omega arith))
    go (yes e) (no f) = let s = meld_source x w in inr (e, inl (omega arith))
    go (no e) d = let k = meld_kind x w in let s = meld_source x w in inl (omega arith)

lex_head : (m x : Meld) (a b : List ℕ) → meld_lt m x → Lex (m.tile ∷ m.kind ∷ m.source ∷ a) (x.tile ∷ x.kind ∷ x.source ∷ b)
unfolding meld_lt
lex_head m x a b (inl h) = inl h
lex_head m x a b (inr h) = inr (h.0, ⊎_elim (λ l. inl l) (λ l. inr (l.0, inl l.1)) h.1)

lex_repeat : (n : ℕ) (m : Meld) (a b : List Meld) → Lex (meld_bytes a) (meld_bytes b) → Lex (meld_bytes (replicate n m ++ a)) (meld_bytes (replicate n m ++ b))
lex_repeat zero m a b h = h
lex_repeat (suc n) m a b h = inr (refl, inr (refl, inr (refl, lex_repeat n m a b h)))

-- more of m, and then melds after m
lex_more :
    (i j : ℕ) (m : Meld) (a b : List Meld) → j < i → length (replicate i m ++ a) ≡ length (replicate j m ++ b) → ((x : Meld) → Memᴰ x b → meld_lt m x)
    → Lex (meld_bytes (replicate i m ++ a)) (meld_bytes (replicate j m ++ b))
lex_more zero j m a b h e f = absurd (omega arith)
lex_more (suc i) zero m a [] h e f = absurd (omega arith)
lex_more (suc i) zero m a (x ∷ b) h e f = lex_head m x (meld_bytes (replicate i m ++ a)) (meld_bytes b) (f x (Memᴰ.head refl))
lex_more (suc i) (suc j) m a b h e f = inr (refl, inr (refl, inr (refl, lex_more i j m a b (omega arith) (omega arith) f)))

lower_lex :
    {ms a b : List Meld} → Lower ms a b → Pairwise meld_lt ms → length (arrange eq_meld ms a) ≡ length (arrange eq_meld ms b)
    → Lex (meld_bytes (arrange eq_meld ms a)) (meld_bytes (arrange eq_meld ms b))
lower_lex (more {m = m} {ms = ms} {a = a} {b = b} h) c e =
    lex_more (times eq_meld m a) (times eq_meld m b) m (arrange eq_meld ms a) (arrange eq_meld ms b) h e
    (λ x i. c.0 x (pick_mem (arrange_pick ms b) i))
lower_lex (same {m = m} {ms = ms} {a = a} {b = b} q d) c e =
    let x = length-append (replicate (times eq_meld m a) m) (arrange eq_meld ms a) in
    let y = length-append (replicate (times eq_meld m b) m) (arrange eq_meld ms b) in
    let z = ap (λ (n : ℕ). length (replicate n m)) q in
    let r = lex_repeat (times eq_meld m a) m (arrange eq_meld ms a) (arrange eq_meld ms b) (lower_lex d c.1 (omega arith)) in
    subst (λ (n : ℕ). Lex (meld_bytes (replicate (times eq_meld m a) m ++ arrange eq_meld ms a)) (meld_bytes (replicate n m ++ arrange eq_meld ms b))) q r

by_key :
    (ms : List Meld) → ((m : Meld) → Memᴰ m ms → T (is_meld m)) → Pairwise (λ m x. key m < key x) ms → Pairwise meld_lt ms
by_key [] f c = tt
by_key (m ∷ ms) f c = (
  λ x i. key_lt m x (f m (Memᴰ.head refl)) (f x (Memᴰ.tail i)) (c.0 x i),
  by_key ms (λ x i. f x (Memᴰ.tail i)) c.1,
)

-- lower lists that are equally long in order come first by their bytes
pub lower_first :
    {a b : List Meld} → Lower melds a b → length (arrange eq_meld melds a) ≡ length (arrange eq_meld melds b)
    → Lex (meld_bytes (arrange eq_meld melds a)) (meld_bytes (arrange eq_meld melds b))
lower_first d e = lower_lex d (by_key melds is_meld_holds melds_ascend) e
