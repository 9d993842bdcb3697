-- The lists of melds, by the lowest tile that is left: it stands in the sequence from it, or in a triplet. So there are at most
-- two ways at each meld. Assumes nothing.
use mathlib.Core.Path.{◌≡◌, refl, sym, ap, ap₂, ◌∙◌, subst}
use mathlib.Core.Logic.{◌⊎◌, inl, inr, ⊎_elim}
use mathlib.Core.Bool.{Bool, true, false, ◌&&◌, not, cond}
use mathlib.Core.List.Memᴰ
use mathlib.Core.List.{List, [], ◌∷◌, ◌++◌, map, append_assoc, append-nil, Memᴰ}
use Prim.Native.Nat.{ℕ, zero, suc, ◌+◌, ◌-◌, ◌^◌, ◌<◌, ◌≤◌}
use native.Mathlib.Nat.{two-pow-succ}
use native.Mathlib.Decide.{ℕ_discrete}
use native.Mathlib.Omega.{arith}
use lib.Dec.{T, eqb, ltb, leb, eqb→eq, leb→le, le→leb, ltb→lt, T_not}
use lib.ListN.{length, length-append, length-map}
use borrow.Author.Tests.{le-leb, lt-leb, lt-ltb, le-ltb, eq-eqb, ne_eqb, ltb-true, ltb-false}
use Rattle.lists.specs.Fold.{all, flat, one, up_from}
use Rattle.lists.proofs.Finite.{at, and_left, and_right, and_both, T→true, ¬T→false, T-eq, all_below_intro_holds}
use Rattle.lists.proofs.Members.{all_intro, flat_mem}
use Rattle.lists.proofs.Ranges.{up_from_split_holds, in_up_from_holds}
use Rattle.lists.proofs.Arranged.{pick_mem}
use Rattle.tile.specs.Tile.{is_start, tiles}
use Rattle.meld.specs.declared.Meld.{Meld}
use Rattle.meld.specs.Meld.{hand_melds, hand_melds_at, is_hand_meld, meld, run_uses, uses}
use Rattle.meld.proofs.Melds.{is_hand_meld_holds}
use Rattle.hand.specs.Readings.{find, fits, is_empty, meld_lists, minus}
use Rattle.hand.proofs.Search.{exact_empty, find_sound, find_first}

-- u is the lowest tile that is left
pub record LowestAt (c : ℕ → ℕ) (u : ℕ) : Type 0 where
  pub tile : u < 34
  pub there : 1 ≤ c u
  pub below : (v : ℕ) → v < u → c v ≡ 0

-- none of the tiles below u is left
abbrev Clear : (ℕ → ℕ) → ℕ → Type 0
Clear c u = (v : ℕ) → v < u → c v ≡ 0

-- the lists ls, each with the meld m in front, where the test passes
abbrev led : Bool → Meld → List (List Meld) → List (List Meld)
led b m ls = cond b (map (λ l. m ∷ l) ls) []

led_off : (b : Bool) (m : Meld) (ls : List (List Meld)) → b ≡ false → led b m ls ≡ []
led_off b m ls e = ap (λ (a : Bool). led a m ls) e

led_none : (b : Bool) (m : Meld) (ls : List (List Meld)) → ls ≡ [] → led b m ls ≡ []
led_none true m ls e = ap (map (λ l. m ∷ l)) e
led_none false m ls e = refl

-- ---- how many of a tile a sequence and a triplet hold
pub run_in : (u t : ℕ) → u ≤ t → t < u + 3 → run_uses u t ≡ 1
run_in u t h k = ap₂ (λ (a b : Bool). one (a && b)) (le-leb u t h) (lt-ltb t (u + 3) k)

pub run_before : (u t : ℕ) → t < u → run_uses u t ≡ 0
run_before u t h = ap (λ (a : Bool). one (a && ltb t (u + 3))) (lt-leb u t h)

pub run_after : (u t : ℕ) → u + 3 ≤ t → run_uses u t ≡ 0
run_after u t h = ap₂ (λ (a b : Bool). one (a && b)) (le-leb u t (omega arith)) (le-ltb t (u + 3) h)

pub set_in : (u : ℕ) → uses (meld u 2) u ≡ 3
set_in u = ap (λ (b : Bool). cond b 3 0) (eq-eqb u u refl)

pub set_out : (u t : ℕ) → (t ≡ u → ⊥) → uses (meld u 2) t ≡ 0
set_out u t f = ap (λ (b : Bool). cond b 3 0) (ne_eqb t u f)

-- ---- the melds of a hand below, at and above a tile
pub flat_append : {A B : Type 0} (g : A → List B) (l m : List A) → flat g (l ++ m) ≡ flat g l ++ flat g m
flat_append g [] m = refl
flat_append g (a ∷ l) m = ap (λ (r : List _). g a ++ r) (flat_append g l m) ∙ sym (append_assoc (g a) (flat g l) (flat g m))

abbrev before : ℕ → List Meld
before u = flat hand_melds_at (up_from u 0)

abbrev after : ℕ → List Meld
after u = flat hand_melds_at (up_from (33 - u) (suc u))

tiles_split : (u : ℕ) → u < 34 → tiles ≡ up_from u 0 ++ (u ∷ up_from (33 - u) (suc u))
tiles_split u h =
    let e : 34 ≡ u + suc (33 - u) = omega arith in
    let f : u + 0 ≡ u = omega arith in
    ap (λ (n : ℕ). up_from n 0) e ∙ up_from_split_holds u (suc (33 - u)) 0 ∙ ap (λ (n : ℕ). up_from u 0 ++ up_from (suc (33 - u)) n) f

split : (u : ℕ) → u < 34 → hand_melds ≡ before u ++ (hand_melds_at u ++ after u)
split u h = ap (flat hand_melds_at) (tiles_split u h) ∙ flat_append hand_melds_at (up_from u 0) (u ∷ up_from (33 - u) (suc u))

-- a sequence or a triplet
in_at : (t : ℕ) {m : Meld} → Memᴰ m (hand_melds_at t) → (m ≡ meld t 0) ⊎ (m ≡ meld t 2)
in_at t {m} = go (is_start t)
  where
    last : Memᴰ m (meld t 2 ∷ []) → m ≡ meld t 2
    last i = ⊎_elim (λ e. e) (λ j. absurd (Memᴰ.not-nil j)) (Memᴰ.cases_cons i)

    go : (b : Bool) → Memᴰ m (cond b (meld t 0 ∷ meld t 2 ∷ []) (meld t 2 ∷ [])) → (m ≡ meld t 0) ⊎ (m ≡ meld t 2)
    go true i = ⊎_elim (λ e. inl e) (λ j. inr (last j)) (Memᴰ.cases_cons i)
    go false i = inr (last i)

-- it holds its own tile, and none below
own_tile : (t : ℕ) (m : Meld) → (m ≡ meld t 0) ⊎ (m ≡ meld t 2) → 1 ≤ uses m t
own_tile t m (inl e) = subst (λ (x : Meld). 1 ≤ uses x t) (sym e) (let h = run_in t t (omega arith) (omega arith) in omega arith)
own_tile t m (inr e) = subst (λ (x : Meld). 1 ≤ uses x t) (sym e) (let h = set_in t in omega arith)

none_below : (t u : ℕ) (m : Meld) → u < t → (m ≡ meld t 0) ⊎ (m ≡ meld t 2) → uses m u ≡ 0
none_below t u m h (inl e) = ap (λ (x : Meld). uses x u) e ∙ run_before t u h
none_below t u m h (inr e) = ap (λ (x : Meld). uses x u) e ∙ set_out t u (λ k. omega arith)

after_none : (u : ℕ) (m : Meld) → Memᴰ m (after u) → uses m u ≡ 0
after_none u m i =
    let r = flat_mem hand_melds_at (up_from (33 - u) (suc u)) i in
    none_below r.0 u m (in_up_from_holds (33 - u) (suc u) r.0 r.1).0 (in_at r.0 r.2)

-- ---- a meld of which a tile is missing does not fit
pub unfit : (m : Meld) (c : ℕ → ℕ) (v : ℕ) → v < 34 → c v < uses m v → fits m c ≡ false
unfit m c v h k =
    ¬T→false (fits m c) (λ t. let g = leb→le (uses m v) (c v) (at 34 (λ t. leb (uses m t) (c t)) t v h) in omega arith)

before_unfit : (c : ℕ → ℕ) (u : ℕ) → u ≤ 34 → Clear c u → (m : Meld) → Memᴰ m (before u) → fits m c ≡ false
before_unfit c u h z m i =
    let r = flat_mem hand_melds_at (up_from u 0) i in
    let k : r.0 < u = (let b = (in_up_from_holds u 0 r.0 r.1).1 in omega arith) in
    let e = z r.0 k in
    let g = own_tile r.0 m (in_at r.0 r.2) in
    unfit m c r.0 (omega arith) (omega arith)

-- ---- leading melds that do not fit change nothing
pass : (n : ℕ) (c : ℕ → ℕ) (ms rest : List Meld) → ((m : Meld) → Memᴰ m ms → fits m c ≡ false) → find n c (ms ++ rest) ≡ find n c rest
pass zero c ms rest f = refl
pass (suc n) c [] rest f = refl
pass (suc n) c (m ∷ ms) rest f =
    ap₂ ◌++◌ (led_off (fits m c) m (find n (minus c m) (m ∷ (ms ++ rest))) (f m (Memᴰ.head refl))) (pass (suc n) c ms rest (λ x i. f x (Memᴰ.tail i)))

none_fit : (n : ℕ) (c : ℕ → ℕ) (ms : List Meld) → ((m : Meld) → Memᴰ m ms → fits m c ≡ false) → find (suc n) c ms ≡ []
none_fit n c ms f = ap (find (suc n) c) (sym (append-nil ms)) ∙ pass (suc n) c ms [] f

-- ---- where a tile is left that none of the melds can take, there is no list
not_empty : (c : ℕ → ℕ) (u : ℕ) → u < 34 → 1 ≤ c u → is_empty c ≡ false
not_empty c u h k =
    ¬T→false (is_empty c) (λ t. let e = eqb→eq (c u) 0 (at 34 (λ t. eqb (c t) 0) t u h) in omega arith)

-- the meld m cannot take the tile u
abbrev Leaves : (ℕ → ℕ) → ℕ → Meld → Type 0
Leaves c u m = (uses m u ≡ 0) ⊎ (c u < uses m u)

module _ (n u : ℕ) (tile : u < 34) (rec : (c : ℕ → ℕ) (ms : List Meld) → 1 ≤ c u → ((m : Meld) → Memᴰ m ms → Leaves c u m) → find n c ms ≡ []) where
  stuck_step : (c : ℕ → ℕ) (m : Meld) (ms : List Meld) → 1 ≤ c u → ((x : Meld) → Memᴰ x (m ∷ ms) → Leaves c u x) → Leaves c u m
      → find_first n c m (m ∷ ms) ≡ []
  stuck_step c m ms k f (inl e) =
      let same : minus c m u ≡ c u = omega arith in
      led_none (fits m c) m (find n (minus c m) (m ∷ ms))
      (rec (minus c m) (m ∷ ms) (omega arith) (λ x i. subst (λ (a : ℕ). (uses x u ≡ 0) ⊎ (a < uses x u)) (sym same) (f x i)))
  stuck_step c m ms k f (inr g) = led_off (fits m c) m (find n (minus c m) (m ∷ ms)) (unfit m c u tile g)

  stuck_over : (c : ℕ → ℕ) (ms : List Meld) → 1 ≤ c u → ((m : Meld) → Memᴰ m ms → Leaves c u m) → find (suc n) c ms ≡ []
  stuck_over c [] k f = refl
  stuck_over c (m ∷ ms) k f =
      ap₂ ◌++◌ (stuck_step c m ms k f (f m (Memᴰ.head refl))) (stuck_over c ms k (λ x i. f x (Memᴰ.tail i)))

stuck : (n u : ℕ) → u < 34 → (c : ℕ → ℕ) (ms : List Meld) → 1 ≤ c u → ((m : Meld) → Memᴰ m ms → Leaves c u m) → find n c ms ≡ []
stuck zero u h c ms k f = ap (λ (b : Bool). cond b ([] ∷ []) []) (not_empty c u h k)
stuck (suc n) u h c ms k f = stuck_over n u h (stuck n u h) c ms k f

-- ---- the search from the lowest tile on
from_tile : (n : ℕ) (c : ℕ → ℕ) (u : ℕ) → u < 34 → Clear c u → meld_lists n c ≡ find n c (hand_melds_at u ++ after u)
unfolding meld_lists
from_tile n c u h z = ap (find n c) (split u h) ∙ pass n c (before u) (hand_melds_at u ++ after u) (before_unfit c u (omega arith) z)

minus_clear : (c : ℕ → ℕ) (m : Meld) (u : ℕ) → Clear c u → Clear (minus c m) u
minus_clear c m u z v h = let e = z v h in omega arith

-- where none of u is left either, from its triplet on
from_triplet : (n : ℕ) (c : ℕ → ℕ) (u : ℕ) → u < 34 → c u ≡ 0 → Clear c u → meld_lists n c ≡ find n c (meld u 2 ∷ after u)
from_triplet n c u h e z = from_tile n c u h z ∙ go (is_start u)
  where
    absent : (m : Meld) → Memᴰ m (meld u 0 ∷ []) → fits m c ≡ false
    absent m i =
        ⊎_elim
        (λ q. let k = own_tile u m (inl q) in unfit m c u h (omega arith))
        (λ j. absurd (Memᴰ.not-nil j)) (Memᴰ.cases_cons i)

    go : (b : Bool) → find n c (cond b (meld u 0 ∷ meld u 2 ∷ []) (meld u 2 ∷ []) ++ after u) ≡ find n c (meld u 2 ∷ after u)
    go true = pass n c (meld u 0 ∷ []) (meld u 2 ∷ after u) absent
    go false = refl

-- ---- the triplet of the lowest tile
module _ (n : ℕ) (c : ℕ → ℕ) (u : ℕ) (low : LowestAt c u) where
  triplet_fits : 3 ≤ c u → fits (meld u 2) c ≡ true
  triplet_fits h =
      T→true (fits (meld u 2) c) (all_below_intro_holds 34 (λ t. leb (uses (meld u 2) t) (c t)) (λ t k. go t (ℕ_discrete t u)))
    where
      go : (t : ℕ) → Dec (t ≡ u) → T (leb (uses (meld u 2) t) (c t))
      go t (yes e) =
          subst (λ (v : ℕ). T (leb (uses (meld u 2) v) (c v))) (sym e)
          (let k = set_in u in le→leb (uses (meld u 2) u) (c u) (omega arith))
      go t (no f) = let k = set_out u t f in le→leb (uses (meld u 2) t) (c t) (omega arith)

  left : minus c (meld u 2) u ≡ c u - 3
  left = let k = set_in u in omega arith

  -- one of u is left over, and no later meld takes it
  left_over : c u ≡ 4 → find n (minus c (meld u 2)) (meld u 2 ∷ after u) ≡ []
  left_over e =
      let k = left in
      let g : minus c (meld u 2) u ≡ 1 = omega arith in
      stuck n u low.tile (minus c (meld u 2)) (meld u 2 ∷ after u) (omega arith)
      (λ m i.
      ⊎_elim
      (λ q. inr (let s : uses m u ≡ 3 = ap (λ (x : Meld). uses x u) q ∙ set_in u in omega arith))
      (λ j. inl (after_none u m j)) (Memᴰ.cases_cons i))

  -- it is taken where exactly three are left
  triplet_only : c u ≤ 4 → find_first n c (meld u 2) (meld u 2 ∷ after u) ≡ led (eqb (c u) 3) (meld u 2) (meld_lists n (minus c (meld u 2)))
  triplet_only h = go (ℕ_discrete (c u) 3) (ℕ_discrete (c u) 4)
    where
      m : Meld
      m = meld u 2

      found : List (List Meld)
      found = find n (minus c m) (m ∷ after u)

      wanted : List (List Meld)
      wanted = meld_lists n (minus c m)

      go : Dec (c u ≡ 3) → Dec (c u ≡ 4) → led (fits m c) m found ≡ led (eqb (c u) 3) m wanted
      go (yes e) d =
          let k = left in
          ap₂ (λ (b : Bool) (ls : List (List Meld)). led b m ls)
          (triplet_fits (omega arith) ∙ sym (eq-eqb (c u) 3 e))
          (sym (from_triplet n (minus c m) u low.tile (omega arith) (minus_clear c m u low.below)))
      go (no f) (yes e) = led_none (fits m c) m found (left_over e) ∙ sym (led_off (eqb (c u) 3) m wanted (ne_eqb (c u) 3 f))
      go (no f) (no g) =
          let k = set_in u in
          led_off (fits m c) m found (unfit m c u low.tile (omega arith)) ∙ sym (led_off (eqb (c u) 3) m wanted (ne_eqb (c u) 3 f))

  none_after : find (suc n) c (after u) ≡ []
  none_after = stuck (suc n) u low.tile c (after u) low.there (λ m i. inl (after_none u m i))

-- ---- at the lowest tile left: the sequence from it, or the triplet where exactly three are left
pub by_lowest : (n : ℕ) (c : ℕ → ℕ) (u : ℕ) → LowestAt c u → c u ≤ 4
    → meld_lists (suc n) c ≡ cond (is_start u && fits (meld u 0) c) (map (λ l. meld u 0 ∷ l) (meld_lists n (minus c (meld u 0)))) []
    ++ cond (eqb (c u) 3) (map (λ l. meld u 2 ∷ l) (meld_lists n (minus c (meld u 2)))) []
by_lowest n c u low h = from_tile (suc n) c u low.tile low.below ∙ go (is_start u) refl
  where
    run : List (List Meld)
    run = meld_lists n (minus c (meld u 0))

    triplet : List (List Meld)
    triplet = led (eqb (c u) 3) (meld u 2) (meld_lists n (minus c (meld u 2)))

    rest : find (suc n) c (meld u 2 ∷ after u) ≡ triplet
    rest = ap₂ ◌++◌ (triplet_only n c u low h) (none_after n c u low) ∙ append-nil triplet

    go : (b : Bool) → is_start u ≡ b
        → find (suc n) c (cond b (meld u 0 ∷ meld u 2 ∷ []) (meld u 2 ∷ []) ++ after u) ≡ led (b && fits (meld u 0) c) (meld u 0) run ++ triplet
    go true e =
        ap₂ (λ (l r : List (List Meld)). led (fits (meld u 0) c) (meld u 0) l ++ r)
        (ap (λ (b : Bool). find n (minus c (meld u 0)) (cond b (meld u 0 ∷ meld u 2 ∷ []) (meld u 2 ∷ []) ++ after u)) (sym e)
        ∙ sym (from_tile n (minus c (meld u 0)) u low.tile (minus_clear c (meld u 0) u low.below)))
        rest
    go false e = rest

-- ---- the sequence's tiles are there
pub fits_sequence : (c : ℕ → ℕ) (u : ℕ) → T (is_start u) → fits (meld u 0) c ≡ (leb 1 (c u) && (leb 1 (c (u + 1)) && leb 1 (c (u + 2))))
fits_sequence c u s =
    T-eq (fits (meld u 0) c) (leb 1 (c u) && (leb 1 (c (u + 1)) && leb 1 (c (u + 2))))
    (λ f.
    and_both (leb 1 (c u)) _ (one_there f u (omega arith) (omega arith))
    (and_both (leb 1 (c (u + 1))) _ (one_there f (u + 1) (omega arith) (omega arith)) (one_there f (u + 2) (omega arith) (omega arith))))
    (λ k. all_below_intro_holds 34 (λ t. leb (uses (meld u 0) t) (c t)) (λ t h. all_there k t))
  where
    suited : u < 27
    suited = ltb→lt u 27 (and_left (ltb u 27) _ s)

    one_there : T (fits (meld u 0) c) → (t : ℕ) → u ≤ t → t < u + 3 → T (leb 1 (c t))
    one_there f t h k =
        let g = suited in
        subst (λ (a : ℕ). T (leb a (c t))) (run_in u t h k) (at 34 (λ t. leb (uses (meld u 0) t) (c t)) f t (omega arith))

    here : (t v : ℕ) → t ≡ v → u ≤ v → v < u + 3 → T (leb 1 (c v)) → T (leb (uses (meld u 0) t) (c t))
    here t v e h k p = subst (λ (a : ℕ). T (leb (uses (meld u 0) a) (c a))) (sym e) (subst (λ (a : ℕ). T (leb a (c v))) (sym (run_in u v h k)) p)

    away : (t : ℕ) → run_uses u t ≡ 0 → T (leb (uses (meld u 0) t) (c t))
    away t e = le→leb (uses (meld u 0) t) (c t) (omega arith)

    all_there : T (leb 1 (c u) && (leb 1 (c (u + 1)) && leb 1 (c (u + 2)))) → (t : ℕ) → T (leb (uses (meld u 0) t) (c t))
    all_there k t = go (ℕ_discrete t u) (ℕ_discrete t (u + 1)) (ℕ_discrete t (u + 2))
      where
        go : Dec (t ≡ u) → Dec (t ≡ u + 1) → Dec (t ≡ u + 2) → T (leb (uses (meld u 0) t) (c t))
        go (yes e) d₁ d₂ = here t u e (omega arith) (omega arith) (and_left (leb 1 (c u)) _ k)
        go (no f) (yes e) d₂ = here t (u + 1) e (omega arith) (omega arith) (and_left (leb 1 (c (u + 1))) _ (and_right (leb 1 (c u)) _ k))
        go (no f) (no g) (yes e) = here t (u + 2) e (omega arith) (omega arith) (and_right (leb 1 (c (u + 1))) _ (and_right (leb 1 (c u)) _ k))
        go (no f) (no g) (no h) = away t (out (ltb t u) refl)
          where
            out : (b : Bool) → ltb t u ≡ b → run_uses u t ≡ 0
            out true e = run_before u t (omega (arith, ltb-true))
            out false e = run_after u t (omega (arith, ltb-false))

-- ---- nothing left
pub none_left : (c : ℕ → ℕ) → T (is_empty c) → meld_lists zero c ≡ [] ∷ []
unfolding meld_lists
none_left c t = ap (λ (b : Bool). cond b ([] ∷ []) []) (T→true (is_empty c) t)

pub some_left : (c : ℕ → ℕ) → T (not (is_empty c)) → meld_lists zero c ≡ []
unfolding meld_lists
some_left c t = ap (λ (b : Bool). cond b ([] ∷ []) []) (¬T→false (is_empty c) (T_not (is_empty c) t))

pub none_left_needed : (n : ℕ) (c : ℕ → ℕ) → T (is_empty c) → meld_lists (suc n) c ≡ []
unfolding meld_lists
none_left_needed n c t = none_fit n c hand_melds (before_unfit c 34 (omega arith) (λ v h. eqb→eq (c v) 0 (at 34 (λ t. eqb (c t) 0) t v h)))

-- ---- either nothing is left, or there is a lowest tile
lowest_below : (c : ℕ → ℕ) (k : ℕ) → k ≤ 34 → Clear c k ⊎ ((u : ℕ) × LowestAt c u)
lowest_below c zero h = inl (λ v g. absurd (omega arith))
lowest_below c (suc k) h = ⊎_elim (λ z. go z (ℕ_discrete (c k) 0)) (λ r. inr r) (lowest_below c k (omega arith))
  where
    next : Clear c k → c k ≡ 0 → (v : ℕ) → v < suc k → Dec (v ≡ k) → c v ≡ 0
    next z e v g (yes q) = ap c q ∙ e
    next z e v g (no f) = z v (omega arith)

    go : Clear c k → Dec (c k ≡ 0) → Clear c (suc k) ⊎ ((u : ℕ) × LowestAt c u)
    go z (yes e) = inl (λ v g. next z e v g (ℕ_discrete v k))
    go z (no f) = inr (k, record { tile = h; there = omega arith; below = z })

pub lowest_or_empty : (c : ℕ → ℕ) → T (is_empty c) ⊎ ((u : ℕ) × LowestAt c u)
lowest_or_empty c = ⊎_elim (λ z. inl (exact_empty c z)) (λ r. inr r) (lowest_below c 34 (omega arith))

-- ---- at most two ways at each meld
cond_length : {A : Type 0} (b : Bool) (l : List A) (k : ℕ) → length l ≤ k → length (cond b l []) ≤ k
cond_length true l k h = h
cond_length false l k h = omega arith

led_length : (b : Bool) (m : Meld) (ls : List (List Meld)) (k : ℕ) → length ls ≤ k → length (led b m ls) ≤ k
led_length b m ls k h = cond_length b (map (λ l. m ∷ l) ls) k (let e = length-map ls (λ l. m ∷ l) in omega arith)

at_most_one : (c : ℕ → ℕ) → length (meld_lists zero c) ≤ 1
unfolding meld_lists
at_most_one c = cond_length (is_empty c) ([] ∷ []) 1 (omega arith)

two_ways :
    (n : ℕ) (c : ℕ → ℕ) (k : ℕ) → ((u : ℕ) → u < 34 → c u ≤ 4) → ((m : Meld) → length (meld_lists n (minus c m)) ≤ k)
    → length (meld_lists (suc n) c) ≤ k + k
two_ways n c k f less = ⊎_elim nothing (λ r. ways r.0 r.1) (lowest_or_empty c)
  where
    nothing : T (is_empty c) → length (meld_lists (suc n) c) ≤ k + k
    nothing t = let e = ap length (none_left_needed n c t) in omega arith

    ways : (u : ℕ) → LowestAt c u → length (meld_lists (suc n) c) ≤ k + k
    ways u low =
        let a = led_length (is_start u && fits (meld u 0) c) (meld u 0) (meld_lists n (minus c (meld u 0))) k (less (meld u 0)) in
        let b = led_length (eqb (c u) 3) (meld u 2) (meld_lists n (minus c (meld u 2))) k (less (meld u 2)) in
        omega (arith, simp length-append at (ap length (by_lowest n c u low (f u low.tile))))

pub few : (n : ℕ) (c : ℕ → ℕ) → ((u : ℕ) → u < 34 → c u ≤ 4) → length (meld_lists n c) ≤ 2 ^ n
few zero c f = at_most_one c
few (suc n) c f =
    let h = two_ways n c (2 ^ n) f (λ m. few n (minus c m) (λ t g. let k = f t g in omega arith)) in
    let e = two-pow-succ n in
    omega arith

-- ---- every list has n closed melds
pub lists_length : (n : ℕ) (c : ℕ → ℕ) (l : List Meld) → Memᴰ l (meld_lists n c) → length l ≡ n
unfolding meld_lists
lists_length n c l i = (find_sound n c hand_melds l i).long

pub lists_melds : (n : ℕ) (c : ℕ → ℕ) (l : List Meld) → Memᴰ l (meld_lists n c) → T (all is_hand_meld l)
unfolding meld_lists
lists_melds n c l i = all_intro is_hand_meld l (λ m j. is_hand_meld_holds m (pick_mem (find_sound n c hand_melds l i).picked j))
