-- Where the pair can stand: nothing is found with a pair whose weight does not fit that of the hand. Assumes nothing.
use mathlib.Core.Path.{◌≡◌, refl, sym, ap, ◌∙◌, subst}
use mathlib.Core.Logic.{◌⊎◌, inl, inr, ⊎_elim}
use mathlib.Core.List.{List, [], ◌∷◌, Memᴰ}
use Prim.Native.Nat.{ℕ, zero, suc, ◌+◌, ◌-◌, ◌*◌, ◌/◌, ◌%◌, ◌≤◌, ◌<◌}
use native.Mathlib.Nat.{add-mul-mod_self_left, zero-add}
use native.Mathlib.Omega.{arith}
use lib.Dec.{T, eqb, leb, eqb→eq, leb→le}
use Rattle.lists.specs.Fold.{all_below, sum, up_from}
use Rattle.lists.proofs.Finite.{at}
use Rattle.lists.proofs.Members.{in_cond}
use Rattle.meld.specs.declared.Meld.{Meld}
use Rattle.hand.specs.Readings.{less_pair, meld_lists}
use Rattle.hand.specs.Weights.{weight, is_weighed, in_suit, by_three}
use Rattle.hand.proofs.Sums.{sum_next}
use Rattle.hand.proofs.Weights.{weighs_as_pair, man_weighed, pin_weighed, sou_weighed, honors_weighed, numbers_weighed}
use Rattle.decompose.specs.declared.PairPlaces.{PairPlaces}
use Rattle.decompose.specs.Pairs.{with_pair, OnlyAt}

module _ (c : ℕ → ℕ) where
  -- the weight of a suit and of the honors is the number of their tiles
  pub man_weight : weight (in_suit 0) c ≡ sum c (up_from 9 0)
  unfolding weight in_suit
  man_weight = omega arith

  pub pin_weight : weight (in_suit 1) c ≡ sum c (up_from 9 9)
  unfolding weight in_suit
  pin_weight = omega arith

  pub sou_weight : weight (in_suit 2) c ≡ sum c (up_from 9 18)
  unfolding weight in_suit
  sou_weight = omega arith

  pub honors_weight : weight (in_suit 3) c ≡ sum c (up_from 7 27)
  unfolding weight in_suit
  honors_weight = omega arith

  -- the weight of the tiles' numbers, summed up three tiles at a time
  pub record Summed (n i : ℕ) : Type 0 where
    pub third : i % 3 ≡ 0
    pub few : n ≤ 255 * i
    pub within : i ≤ 33
    pub whole : n + sum (λ t. by_three t * c t) (up_from (34 - i) i) ≡ weight by_three c

  pub sum_first : Summed 0 0
  unfolding weight
  sum_first = record { third = refl; few = omega arith; within = omega arith; whole = zero-add _ }

  weighs : (t k : ℕ) → t % 3 ≡ k → by_three t * c t ≡ k * c t
  unfolding by_three
  weighs t k e = ap (λ (w : ℕ). w * c t) e

  pub sum_on : (n i x y : ℕ) → Summed n i → i < 33 → x ≡ c (i + 1) → y ≡ c (i + 2) → x ≤ 255 → y ≤ 255 → Summed (n + (x + 2 * y)) (i + 3)
  sum_on n i x y inv h e f j k =
      let third = inv.third in
      let a = weighs i 0 (omega arith) in
      let b = weighs (i + 1) 1 (omega arith) in
      let d = weighs (i + 2) 2 (omega arith) in
      let p : i + 1 + 1 ≡ i + 2 = omega arith in
      let q : i + 2 + 1 ≡ i + 3 = omega arith in
      let s₀ = sum_next (λ t. by_three t * c t) i 34 (omega arith) in
      let s₁ = sum_next (λ t. by_three t * c t) (i + 1) 34 (omega arith) in
      let s₂ = sum_next (λ t. by_three t * c t) (i + 2) 34 (omega arith) in
      let r₁ = ap (λ (m : ℕ). sum (λ t. by_three t * c t) (up_from (34 - m) m)) p in
      let r₂ = ap (λ (m : ℕ). sum (λ t. by_three t * c t) (up_from (34 - m) m)) q in
      record {
        third = omega arith;
        few = omega arith;
        within = omega arith;
        whole = omega (arith, inv.whole, s₀, s₁, s₂, r₁, r₂, a, b, d, e, f);
      }

  pub sum_last : (n i : ℕ) → Summed n i → 33 ≤ i → (n ≡ weight by_three c) × (n ≤ 765 * 11)
  unfolding by_three
  sum_last n i inv h =
      let e : i ≡ 33 = omega (arith, inv.within) in
      let s = ap (λ (m : ℕ). sum (λ t. by_three t * c t) (up_from (34 - m) m)) e in
      (omega (arith, inv.whole, s), omega (arith, inv.few, inv.within))

  -- by each weight the hand weighs as the pair p does; else nothing is found with it
  abbrev Fits : ℕ → Type 0
  Fits p = (f : ℕ → ℕ) → T (is_weighed f) → weight f c % 3 ≡ 2 * f p % 3

  none_or_fits : (n p : ℕ) → p < 34 → (with_pair n c p ≡ []) ⊎ Fits p
  unfolding with_pair
  none_or_fits n p h = go (with_pair n c p) refl
    where
      go : (ls : List (List Meld)) → with_pair n c p ≡ ls → (with_pair n c p ≡ []) ⊎ Fits p
      go [] e = inl e
      go (l ∷ ls) e =
          let i : Memᴰ l (with_pair n c p) = subst (Memᴰ l) (sym e) (mathlib.Core.List.Memᴰ.head refl) in
          let k = in_cond (leb 2 (c p)) (meld_lists n (less_pair c p)) i in
          inr (λ f g. weighs_as_pair f g n c p h (leb→le 2 (c p) k.0) l k.1)

  -- where each pair that fits is at one of the places
  only_at :
      (places : PairPlaces) → places.first ≤ 34 → places.end ≤ 34
      → ((p : ℕ) → p < 34 → Fits p → (places.first ≤ p) × ((p < places.end) × (p % 3 ≡ places.first % 3))) → OnlyAt c places
  only_at places g h at = record {
    starts = g;
    ends = h;
    before = λ n p k t. ⊎_elim (λ e. e) (λ f. let r = at p t f in absurd (omega arith)) (none_or_fits n p t);
    between = λ n p k t. ⊎_elim (λ e. e) (λ f. absurd (k (at p t f).1.1)) (none_or_fits n p t);
    behind = λ n p k t. ⊎_elim (λ e. e) (λ f. let r = at p t f in absurd (omega arith)) (none_or_fits n p t);
  }

-- ---- the suit and the number of a pair that fits
-- a tile has one suit, whose tiles start at nine times the suit
one_suit_holds : T (all_below 34 (λ p. eqb (in_suit 0 p + in_suit 1 p + in_suit 2 p + in_suit 3 p) 1))
unfolding in_suit
one_suit_holds = tt

suit_starts : T (all_below 34 (λ p. eqb (in_suit 1 p * 9 + in_suit 2 p * 18 + in_suit 3 p * 27) (p / 9 * 9)))
unfolding in_suit
suit_starts = tt

-- twice x, and where x is twice k, by 3
twice : (x : ℕ) → 2 * x % 3 ≡ 2 * (x % 3) % 3
twice x =
    let e : 2 * x ≡ 2 * (x % 3) + 3 * (2 * (x / 3)) = omega arith in
    ap (λ (k : ℕ). k % 3) e ∙ add-mul-mod_self_left (2 * (x % 3)) 3 (2 * (x / 3))

halved : (x k : ℕ) → k < 3 → x % 3 ≡ 2 * k % 3 → k ≡ 2 * x % 3
halved x zero h e = let z = twice x in cc
halved x (suc zero) h e = let z = twice x in cc
halved x (suc (suc zero)) h e = let z = twice x in cc
halved x (suc (suc (suc k))) h e = absurd (omega arith)

-- what a suit leaves, from the pair's weight in it
double : (x y w : ℕ) → w ≤ 1 → x ≡ y → y % 3 ≡ 2 * w % 3 → x % 3 ≡ 2 * w
double x y w h e f = omega arith

-- where the pair's suit starts and ends
starts :
    (p man pin sou honors w₀ w₁ w₂ w₃ : ℕ) → p < 34 → man ≡ 2 * w₀ → pin ≡ 2 * w₁ → sou ≡ 2 * w₂ → honors ≡ 2 * w₃
    → w₀ + w₁ + w₂ + w₃ ≡ 1 → w₁ * 9 + w₂ * 18 + w₃ * 27 ≡ p / 9 * 9
    → (man + pin + sou + honors ≡ 2)
    × ((pin / 2 * 9 + sou / 2 * 18 + honors / 2 * 27 ≤ p) × (p < pin / 2 * 9 + sou / 2 * 18 + honors / 2 * 27 + 9 - honors / 2 * 2))
starts p man pin sou honors w₀ w₁ w₂ w₃ h z₀ z₁ z₂ z₃ a b =
    let f₁ : pin / 2 ≡ w₁ = omega arith in
    let f₂ : sou / 2 ≡ w₂ = omega arith in
    let f₃ : honors / 2 ≡ w₃ = omega arith in
    (omega arith, (omega (arith, f₁, f₂, f₃, b), omega (arith, f₁, f₂, f₃, a, b)))

module _
    (c : ℕ → ℕ) (man pin sou honors numbers : ℕ)
    (m : man ≡ weight (in_suit 0) c) (n : pin ≡ weight (in_suit 1) c) (s : sou ≡ weight (in_suit 2) c) (o : honors ≡ weight (in_suit 3) c)
    (v : numbers ≡ weight by_three c)
  where
    abbrev start : ℕ
    start = pin % 3 / 2 * 9 + sou % 3 / 2 * 18 + honors % 3 / 2 * 27

    -- what the remainders tell of a pair p that fits
    record Stands (p : ℕ) : Type 0 where
      two : man % 3 + pin % 3 + sou % 3 + honors % 3 ≡ 2
      low : start ≤ p
      high : p < start + 9 - honors % 3 / 2 * 2
      number : p % 3 ≡ 2 * numbers % 3

    stands : (p : ℕ) → p < 34 → Fits c p → Stands p
    unfolding by_three
    stands p h fit =
        let x₀ = fit (in_suit 0) man_weighed in
        let x₁ = fit (in_suit 1) pin_weighed in
        let x₂ = fit (in_suit 2) sou_weighed in
        let x₃ = fit (in_suit 3) honors_weighed in
        let y = fit by_three numbers_weighed in
        let a : in_suit 0 p + in_suit 1 p + in_suit 2 p + in_suit 3 p ≡ 1 = eqb→eq _ 1 (at 34 (λ p. eqb (in_suit 0 p + in_suit 1 p + in_suit 2 p + in_suit 3 p) 1) one_suit_holds p h) in
        let b : in_suit 1 p * 9 + in_suit 2 p * 18 + in_suit 3 p * 27 ≡ p / 9 * 9 = eqb→eq _ (p / 9 * 9) (at 34 (λ p. eqb (in_suit 1 p * 9 + in_suit 2 p * 18 + in_suit 3 p * 27) (p / 9 * 9)) suit_starts p h) in
        let z₀ : man % 3 ≡ 2 * in_suit 0 p = double man _ (in_suit 0 p) (omega arith) m x₀ in
        let z₁ : pin % 3 ≡ 2 * in_suit 1 p = double pin _ (in_suit 1 p) (omega arith) n x₁ in
        let z₂ : sou % 3 ≡ 2 * in_suit 2 p = double sou _ (in_suit 2 p) (omega arith) s x₂ in
        let z₃ : honors % 3 ≡ 2 * in_suit 3 p = double honors _ (in_suit 3 p) (omega arith) o x₃ in
        let r = starts p (man % 3) (pin % 3) (sou % 3) (honors % 3) (in_suit 0 p) (in_suit 1 p) (in_suit 2 p) (in_suit 3 p) h z₀ z₁ z₂ z₃ a b in
        record { two = r.0; low = r.1.0; high = r.1.1; number = halved numbers (p % 3) (omega arith) (ap (λ (k : ℕ). k % 3) v ∙ y) }

    -- where the suits' remainders do not sum up to 2 there is no place, else every third tile of the suit that leaves 2
    pub nowhere : (man % 3 + pin % 3 + sou % 3 + honors % 3 ≡ 2 → ⊥) → OnlyAt c (record { first = 34; end = 34 })
    nowhere f = only_at c (record { first = 34; end = 34 }) (omega arith) (omega arith) (λ p h fit. absurd (f (stands p h fit).two))

    pub somewhere :
        man % 3 + pin % 3 + sou % 3 + honors % 3 ≡ 2
        → OnlyAt c (record { first = start + 2 * numbers % 3; end = start + 9 - honors % 3 / 2 * 2 })
    somewhere e =
        only_at c (record { first = start + 2 * numbers % 3; end = start + 9 - honors % 3 / 2 * 2 }) (omega arith) (omega arith)
        (λ p h fit. let r = stands p h fit in (omega arith, (omega arith, omega arith)))
