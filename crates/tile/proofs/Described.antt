-- The renamings are those of the papers: one for each one-to-one choice of suits and of South, West and North, mirrored or not, with White and
-- Red exchanged or not. Assumes nothing.
use mathlib.Core.Path.{◌≡◌, refl, sym, ap, subst, ◌∙◌}
use mathlib.Core.Bool.{Bool, true, false, ◌||◌, not, cond}
use Prim.Native.Nat.{ℕ, ◌+◌, ◌-◌, ◌/◌, ◌%◌, ◌≤◌, ◌<◌}
use native.Mathlib.Omega.{arith}
use native.Mathlib.Decide.{ℕ_discrete}
use lib.Dec.{T, eqb, ltb, leb, eqb→eq, ltb→lt, leb→le}
use borrow.Author.Tests.{eq-eqb, ltb-false, le-leb, lt-ltb}
use Rattle.lists.specs.Fold.{all_below}
use Rattle.lists.proofs.Finite.{at, or_skip, and_left, and_right, and_both, T→true, true→t}
use Rattle.tile.specs.declared.Order.{Order}
use Rattle.tile.specs.declared.Numbers.{Numbers}
use Rattle.tile.specs.declared.Honors.{Honors}
use Rattle.tile.specs.declared.Renaming.{Renaming}
use Rattle.tile.specs.Renaming.{order_to, wind_to, honors_stay, ren, suits_alone}
use Rattle.tile.specs.Tile.{is_suited, is_honor, is_after_east, suit_of, value_of}
use Rattle.tile.specs.Named.{man, pin, East, South, West, North, White, Green, Red}
use Rattle.tile.specs.Described.{is_suit, OneToOne, Does, SuitsOnly}
use Rattle.tile.proofs.Orders.{order_small, order_one_to_one, order, order_sends, order_is}
use Rattle.tile.proofs.Renamings.{renaming, all_numbers, numbers_test, all_honors, honors_test, ren_above}

-- ---- every renaming is one of these

-- the winds after East are the places of an order, from South on
after_east : (t : ℕ) → T (is_after_east t) → (28 ≤ t) × (t < 31)
after_east t h = (leb→le 28 t (and_left (leb 28 t) (ltb t 31) h), ltb→lt t 31 (and_right (leb 28 t) (ltb t 31) h))

is_after_east_holds : (t : ℕ) → 28 ≤ t → t < 31 → T (is_after_east t)
is_after_east_holds t h k = and_both (leb 28 t) (ltb t 31) (true→t _ (le-leb 28 t h)) (true→t _ (lt-ltb t 31 k))

is_suit_holds : (s : ℕ) → s < 3 → T (is_suit s)
is_suit_holds s h = true→t _ (lt-ltb s 3 h)

pub winds_one_to_one : (o : Order) → OneToOne is_after_east (wind_to o)
winds_one_to_one o =
    record {
      among = λ t h. let k = order_small o (t - 28) in is_after_east_holds (wind_to o t) (omega (arith, k)) (omega (arith, k));
      apart = λ t u h k e.
          let a = after_east t h in
          let b = after_east u k in
          let i = is_suit_holds (t - 28) (omega (arith, a)) in
          let j = is_suit_holds (u - 28) (omega (arith, b)) in
          let same = (order_one_to_one o).apart (t - 28) (u - 28) i j (omega (arith, e)) in
          omega (arith, a, b, same);
    }

-- what becomes of a tile of a suit, whatever becomes of the honors
becomes :
    (q : Numbers → ℕ → ℕ → Bool) (ρ : Renaming)
    → T (all_numbers (λ ν. all_below 27 (λ t. q ν t (ren (record { numbers = ν; honors = ρ.honors }) t))))
    → (t : ℕ) → T (is_suited t) → T (q ρ.numbers t (ren ρ t))
becomes q ρ ok t i = at 27 (λ t. q ρ.numbers t (ren ρ t)) (numbers_test (λ ρ. all_below 27 (λ t. q ρ.numbers t (ren ρ t))) ρ ok) t (ltb→lt t 27 i)

-- what a renaming does, by its parts
pub ren_does :
    (ρ : Renaming) → Does (ren ρ) (order_to ρ.numbers.suits) (wind_to ρ.honors.winds) ρ.numbers.mirror ρ.honors.dragons
ren_does ρ =
    record {
      suit = λ t i. eqb→eq _ _ (becomes (λ ν t u. eqb (suit_of u) (order_to ν.suits (suit_of t))) ρ tt t i);
      number = λ t i. eqb→eq _ _ (becomes (λ ν t u. eqb (value_of u) (cond ν.mirror (10 - value_of t) (value_of t))) ρ tt t i);
      east = honor East (λ η. East) tt;
      south = honor South (λ η. wind_to η.winds South) tt;
      west = honor West (λ η. wind_to η.winds West) tt;
      north = honor North (λ η. wind_to η.winds North) tt;
      white = honor White (λ η. cond η.dragons Red White) tt;
      green = honor Green (λ η. Green) tt;
      red = honor Red (λ η. cond η.dragons White Red) tt;
      above = ren_above ρ;
    }
  where
    -- a test of one honor
    honor : (t : ℕ) (to : Honors → ℕ) → T (all_honors (λ η. eqb (ren (record { numbers = ρ.numbers; honors = η }) t) (to η))) → ren ρ t ≡ to ρ.honors
    honor t to ok = eqb→eq _ _ (honors_test (λ ρ. eqb (ren ρ t) (to ρ.honors)) ρ ok)

-- each renaming does this, for a one-to-one choice of suits and of winds
pub renaming_is :
    (ρ : Renaming)
    → (σ : ℕ → ℕ) × (τ : ℕ → ℕ) × OneToOne is_suit σ × OneToOne is_after_east τ × Does (ren ρ) σ τ ρ.numbers.mirror ρ.honors.dragons
renaming_is ρ = (
  order_to ρ.numbers.suits,
  wind_to ρ.honors.winds,
  order_one_to_one ρ.numbers.suits,
  winds_one_to_one ρ.honors.winds,
  ren_does ρ,
)

-- ---- each of these is a renaming

-- only what becomes of the three suits and the three winds matters
suit_lt : (t : ℕ) → T (is_suited t) → suit_of t < 3
suit_lt t i = ltb→lt _ _ (at 27 (λ t. ltb (suit_of t) 3) tt t (ltb→lt t 27 i))

does_alike :
    {f σ σ' τ τ' : ℕ → ℕ} {m d : Bool} → ((s : ℕ) → s < 3 → σ s ≡ σ' s) → ((t : ℕ) → T (is_after_east t) → τ t ≡ τ' t) → Does f σ τ m d
    → Does f σ' τ' m d
does_alike suits winds w =
    record {
      suit = λ t i. w.suit t i ∙ suits (suit_of t) (suit_lt t i);
      number = w.number;
      east = w.east;
      south = w.south ∙ winds South tt;
      west = w.west ∙ winds West tt;
      north = w.north ∙ winds North tt;
      white = w.white;
      green = w.green;
      red = w.red;
      above = w.above;
    }

-- the places of South, West and North
abbrev places : (ℕ → ℕ) → ℕ → ℕ
places τ s = τ (28 + s) - 28

module _ (τ : ℕ → ℕ) (one : OneToOne is_after_east τ) where
  wind_at : (s : ℕ) → T (is_suit s) → T (is_after_east (28 + s))
  wind_at s h = let k = ltb→lt s 3 h in is_after_east_holds (28 + s) (omega arith) (omega arith)

  goes_to : (s : ℕ) → T (is_suit s) → (28 ≤ τ (28 + s)) × (τ (28 + s) < 31)
  goes_to s h = after_east (τ (28 + s)) (one.among (28 + s) (wind_at s h))

  places_one_to_one : OneToOne is_suit (places τ)
  places_one_to_one =
      record {
        among = λ s h. let k = goes_to s h in is_suit_holds (places τ s) (omega (arith, k));
        apart = λ s u h k e.
            let a = goes_to s h in
            let b = goes_to u k in
            let same = one.apart (28 + s) (28 + u) (wind_at s h) (wind_at u k) (omega (arith, a, b, e)) in
            omega (arith, same);
      }

  winds_sent : (t : ℕ) → T (is_after_east t) → wind_to (order (places τ 0) (places τ 1)) t ≡ τ t
  winds_sent t h =
      let a = after_east t h in
      let there = after_east (τ t) (one.among t h) in
      let sent = order_sends (places τ) places_one_to_one (t - 28) (omega (arith, a)) in
      let same : τ (28 + (t - 28)) ≡ τ t = ap τ (omega (arith, a)) in
      omega (arith, sent, same, there)

-- for each one-to-one choice of suits and of winds, mirrored or not, White and Red exchanged or not, there is a renaming that does this
pub renaming_exists :
    (σ τ : ℕ → ℕ) → OneToOne is_suit σ → OneToOne is_after_east τ → (m d : Bool) → (ρ : Renaming) × Does (ren ρ) σ τ m d
renaming_exists σ τ one two m d =
    let ρ = renaming (order (σ 0) (σ 1)) m d (order (places τ 0) (places τ 1)) in
    (ρ, does_alike (order_sends σ one) (winds_sent τ two) (ren_does ρ))

-- ---- and one only

-- a renaming is told by what man 1, pin 1, White, South and West become
abbrev told : ℕ → ℕ → ℕ → ℕ → ℕ → Renaming
told a b c s w = renaming (order (suit_of a) (suit_of b)) (eqb (value_of a) 9) (eqb c Red) (order (s - 28) (w - 28))

told_both : (o v : Order) (m d : Bool) → renaming o (eqb (cond m 9 1) 9) (eqb (cond d Red White) Red) v ≡ renaming o m d v
told_both o v true true = refl
told_both o v true false = refl
told_both o v false true = refl
told_both o v false false = refl

told_does :
    {f σ τ : ℕ → ℕ} {m d : Bool} → Does f σ τ m d
    → told (f (man 1)) (f (pin 1)) (f White) (f South) (f West) ≡ renaming (order (σ 0) (σ 1)) m d (order (τ South - 28) (τ West - 28))
told_does {f} {σ} {τ} {m} {d} w =
    (λ i.
    renaming (order (w.suit (man 1) tt i) (w.suit (pin 1) tt i)) (eqb (w.number (man 1) tt i) 9) (eqb (w.white i) Red)
    (order (w.south i - 28) (w.west i - 28)))
    ∙ told_both (order (σ 0) (σ 1)) (order (τ South - 28) (τ West - 28)) m d

place_back : (n : ℕ) → 28 + n - 28 ≡ n
place_back n = omega arith

told_ren : (ρ : Renaming) → told (ren ρ (man 1)) (ren ρ (pin 1)) (ren ρ White) (ren ρ South) (ren ρ West) ≡ ρ
told_ren ρ =
    let v = ρ.honors.winds in
    told_does (ren_does ρ)
    ∙ (λ i.
    renaming (order_is ρ.numbers.suits i) ρ.numbers.mirror ρ.honors.dragons
    (order (place_back (order_to v 0) i) (place_back (order_to v 1) i)))
    ∙ ap (renaming ρ.numbers.suits ρ.numbers.mirror ρ.honors.dragons) (order_is v)

-- two renamings that do this are one
pub renaming_only : (σ τ : ℕ → ℕ) (m d : Bool) (ρ ρ' : Renaming) → Does (ren ρ) σ τ m d → Does (ren ρ') σ τ m d → ρ ≡ ρ'
renaming_only σ τ m d ρ ρ' v w = sym (told_ren ρ) ∙ told_does v ∙ sym (told_does w) ∙ told_ren ρ'

-- no two renamings do the same on the 34 tiles
pub renaming_one : (ρ τ : Renaming) → ((t : ℕ) → t < 34 → ren ρ t ≡ ren τ t) → ρ ≡ τ
renaming_one ρ τ same =
    sym (told_ren ρ)
    ∙ (λ i.
    told (same (man 1) (omega arith) i) (same (pin 1) (omega arith) i) (same White (omega arith) i) (same South (omega arith) i)
    (same West (omega arith) i))
    ∙ told_ren τ

-- ---- nothing else does this

-- a tile of a suit is told by its suit and its number
same_tile : (t u : ℕ) → T (is_suited t) → T (is_suited u) → suit_of t ≡ suit_of u → value_of t ≡ value_of u → t ≡ u
same_tile t u i k s v =
    let s' : t / 9 ≡ u / 9 = simp (T→true (is_suited t) i, T→true (is_suited u) k) at s in
    let v' : t % 9 + 1 ≡ u % 9 + 1 = simp (T→true (is_suited t) i, T→true (is_suited u) k) at v in
    omega arith

suited : (t : ℕ) → suit_of t < 3 → T (is_suited t)
suited t h = go (is_suited t) h
  where
    go : (b : Bool) → cond b (t / 9) 3 < 3 → T b
    go true h = tt
    go false h = absurd (omega arith)

-- what does this is determined at each number
pub does_one : {f g σ τ : ℕ → ℕ} {m d : Bool} → OneToOne is_suit σ → Does f σ τ m d → Does g σ τ m d → (t : ℕ) → f t ≡ g t
does_one {f} {g} {σ} one v w t = suit (ltb t 27) refl
  where
    from : (n : ℕ) → f n ≡ g n → (n < t → f t ≡ g t) → Dec (t ≡ n) → n ≤ t → f t ≡ g t
    from n same more (yes e) h = rw e same
    from n same more (no e) h = more (omega arith)

    honor : (n : ℕ) → f n ≡ g n → (n < t → f t ≡ g t) → n ≤ t → f t ≡ g t
    honor n same more = from n same more (ℕ_discrete t n)

    honors : 26 < t → f t ≡ g t
    honors =
        honor East (v.east ∙ sym w.east)
        (honor South (v.south ∙ sym w.south)
        (honor West (v.west ∙ sym w.west)
        (honor North (v.north ∙ sym w.north)
        (honor White (v.white ∙ sym w.white)
        (honor Green (v.green ∙ sym w.green)
        (honor Red (v.red ∙ sym w.red) (λ h. v.above t h ∙ sym (w.above t h))))))))

    suit : (b : Bool) → is_suited t ≡ b → f t ≡ g t
    suit true e =
        let i = true→t _ e in
        let there : σ (suit_of t) < 3 = ltb→lt (σ (suit_of t)) 3 (one.among (suit_of t) (is_suit_holds (suit_of t) (suit_lt t i))) in
        same_tile (f t) (g t)
        (suited (f t) (rw (v.suit t i) there))
        (suited (g t) (rw (w.suit t i) there))
        (v.suit t i ∙ sym (w.suit t i))
        (v.number t i ∙ sym (w.number t i))
    suit false e = honors (ltb-false t 27 e)

-- ---- an exchange of suits alone, and no other renaming, keeps all else
pub suits_alone_holds : (ρ : Renaming) → T (suits_alone ρ) → SuitsOnly (ren ρ)
suits_alone_holds ρ h = record { number = number; honor = honor }
  where
    number : (t : ℕ) → T (is_suited t) → value_of (ren ρ t) ≡ value_of t
    number t i =
        eqb→eq _ _
        (or_skip (not ρ.numbers.mirror) (eqb (value_of (ren ρ t)) (value_of t)) (and_left (not ρ.numbers.mirror) _ h)
        (becomes (λ ν t u. not (not ν.mirror) || eqb (value_of u) (value_of t)) ρ tt t i))

    honor : (t : ℕ) → T (is_honor t) → ren ρ t ≡ t
    honor t i =
        let low = leb→le 27 t (and_left (leb 27 t) (ltb t 34) i) in
        let high = ltb→lt t 34 (and_right (leb 27 t) (ltb t 34) i) in
        let e : 27 + (t - 27) ≡ t = omega (arith, low) in
        subst (λ (t : ℕ). ren ρ t ≡ t) e
        (eqb→eq _ _
        (at 7 (λ n. eqb (ren ρ (27 + n)) (27 + n))
        (or_skip (honors_stay ρ.honors) _ (and_right (not ρ.numbers.mirror) _ h)
        (honors_test (λ ρ. not (honors_stay ρ.honors) || all_below 7 (λ n. eqb (ren ρ (27 + n)) (27 + n))) ρ tt))
        (t - 27) (omega (arith, low, high))))

-- of two answers that differ the second was given
not_chosen : (b : Bool) (x y : ℕ) → (x ≡ y → ⊥) → cond b x y ≡ y → T (not b)
not_chosen true x y n e = absurd (n e)
not_chosen false x y n e = tt

pub suits_only : (ρ : Renaming) → SuitsOnly (ren ρ) → T (suits_alone ρ)
suits_only ρ k =
    let does = ren_does ρ in
    let v = ρ.honors.winds in
    let south : 28 + order_to v 0 ≡ 28 = sym does.south ∙ k.honor South tt in
    let west : 28 + order_to v 1 ≡ 29 = sym does.west ∙ k.honor West tt in
    and_both (not ρ.numbers.mirror) _
    (not_chosen ρ.numbers.mirror 9 1 (λ e. omega arith) (sym (does.number (man 1) tt) ∙ k.number (man 1) tt))
    (and_both (not ρ.honors.dragons) _
    (not_chosen ρ.honors.dragons Red White (λ e. omega arith) (sym does.white ∙ k.honor White tt))
    (and_both (eqb (order_to v 0) 0) _ (true→t _ (eq-eqb (order_to v 0) 0 (omega (arith, south)))) (true→t _ (eq-eqb (order_to v 1) 1 (omega (arith, west))))))
