-- A word of tiles, read place by place. Assumes nothing.
use mathlib.Core.Path.{◌≡◌, refl, sym, ap, subst, ◌∙◌}
use mathlib.Core.Bool.{Bool, true, false, ◌&&◌, cond, ◌||◌}
use mathlib.Core.List.{List, [], ◌∷◌}
use Prim.Native.Nat.{ℕ, suc, ◌+◌, ◌<◌, ◌≤◌, ◌-◌}
use native.Mathlib.Numerals.{add-one, one-add}
use native.Mathlib.Omega.{arith}
use lib.Dec.{ltb}
use lib.ListN.{length, get_or, take, drop, drop_of_length-le}
use lib.Seq.{drop-cons, get_or-drop}
use mir.Val.{bool_byte}
use Rattle.std.specs.Prelude.{Option, Some, None}
use Rattle.std.specs.Option.{is_some}
use Rattle.std.specs.List.{prefix_len}
use Rattle.lists.specs.Fold.{one, count}
use Rattle.tile_words.specs.Chars.{below, is_number, honor_of, tile_of, is_silent, is_strange}
use Rattle.tile_words.specs.Words.{leading, read_at, tiles_from, is_good, good_from, good_length, char_before, behind, suit_after, fault_place}

-- counting place by place: n so far, m of this place, r of those behind it, a from this place on, t in all
pub turn : (n m r a t : ℕ) → a ≡ m + r → n + a ≡ t → (n + m) + r ≡ t
turn n m r a t e f = omega arith

-- the character before any place but the first
pub before_later : (w : List ℕ) (i : ℕ) → (i ≡ 0 → ⊥) → get_or w (i - 1) 0 ≡ char_before w i
before_later w i f =
    let e : suc (i - 1) ≡ i = omega arith in
    ap (char_before w) e

-- the character behind numbers, by its place in the word
pub behind_at : (w : List ℕ) (i : ℕ) → get_or w (i + leading (drop i w)) 0 ≡ behind (drop i w)
behind_at w i = sym (get_or-drop i w (leading (drop i w)) 0)

abbrev pub is_tile : ℕ → Bool
is_tile t = ltb t 34

-- a tile that is named counts one, and none nothing
pub one_named : (r : ℕ) (t : Option ℕ) (b : Bool) → b ≡ is_some t → t ≡ below 34 r → (bool_byte b ≡ one (is_tile r)) × (bool_byte b ≤ 1)
one_named r t b e f = let all = e ∙ ap is_some f in (ap bool_byte all ∙ same (is_tile r), most b)
  where
    same : (b : Bool) → bool_byte (is_some (cond b (Some r) None)) ≡ one b
    same true = refl
    same false = refl

    most : (b : Bool) → bool_byte b ≤ 1
    most true = omega arith
    most false = omega arith

-- the numbers taken from a text are those that it begins with
pub leading_taken : (cs : List ℕ) → length (take (prefix_len is_number cs) cs) ≡ leading cs
unfolding leading
leading_taken [] = refl
leading_taken (c ∷ cs) = go (is_number c) (leading_taken cs)
  where
    go :
        (b : Bool) → length (take (prefix_len is_number cs) cs) ≡ leading cs
        → length (take (cond b (1 + prefix_len is_number cs) 0) (c ∷ cs)) ≡ cond b (suc (leading cs)) 0
    go true e = rw one-add (ap suc e)
    go false e = refl

-- ---- at a place within the word
module _ (w : List ℕ) (i : ℕ) (h : i < length w) where
  here : drop i w ≡ get_or w i 0 ∷ drop (i + 1) w
  here = drop-cons w i 0 h ∙ ap (λ (n : ℕ). get_or w i 0 ∷ drop n w) (sym (add-one i))

  -- the character before the next place is this one
  next_before : get_or w i 0 ≡ char_before w (i + 1)
  next_before = ap (λ (n : ℕ). get_or (0 ∷ w) n 0) (sym (add-one i))

  -- ---- numbers at the start of a text: one is skipped, any other character ends them
  leading_here : leading (drop i w) ≡ cond (is_number (get_or w i 0)) (suc (leading (drop (i + 1) w))) 0
  unfolding leading
  leading_here = ap leading here

  pub skip : is_number (get_or w i 0) ≡ true → (i + 1) + leading (drop (i + 1) w) ≡ i + leading (drop i w)
  skip e =
      let n = leading_here ∙ ap (λ (b : Bool). cond b (suc (leading (drop (i + 1) w))) 0) e in
      omega arith

  pub stop : is_number (get_or w i 0) ≡ false → i ≡ i + leading (drop i w)
  stop e =
      let n = leading_here ∙ ap (λ (b : Bool). cond b (suc (leading (drop (i + 1) w))) 0) e in
      omega arith

  -- ---- what is named here: by a number; by a letter behind a number, nothing; by any other letter
  module _ (b : ℕ) where
    read_here :
        read_at b (drop i w)
        ≡ cond (is_number (get_or w i 0)) (tile_of (get_or w i 0) (suit_after (drop (i + 1) w))) (cond (is_number b) 34 (honor_of (get_or w i 0) (get_or w (i + 1) 0)))
    read_here =
        ap (read_at b) here
        ∙ ap (λ (n : ℕ). cond (is_number (get_or w i 0)) (tile_of (get_or w i 0) (suit_after (drop (i + 1) w))) (cond (is_number b) 34 (honor_of (get_or w i 0) n)))
        (get_or-drop (i + 1) w 0 0 ∙ ap (λ (n : ℕ). get_or w n 0) (omega arith))

    pub read_number : is_number (get_or w i 0) ≡ true → tile_of (get_or w i 0) (suit_after (drop (i + 1) w)) ≡ read_at b (drop i w)
    read_number e = sym (read_here ∙ ap (λ (n : Bool). cond n (tile_of (get_or w i 0) (suit_after (drop (i + 1) w))) (cond (is_number b) 34 (honor_of (get_or w i 0) (get_or w (i + 1) 0)))) e)

    read_letter : is_number (get_or w i 0) ≡ false → read_at b (drop i w) ≡ cond (is_number b) 34 (honor_of (get_or w i 0) (get_or w (i + 1) 0))
    read_letter e = read_here ∙ ap (λ (n : Bool). cond n (tile_of (get_or w i 0) (suit_after (drop (i + 1) w))) (cond (is_number b) 34 (honor_of (get_or w i 0) (get_or w (i + 1) 0)))) e

    pub read_suit : is_number (get_or w i 0) ≡ false → is_number b ≡ true → 34 ≡ read_at b (drop i w)
    read_suit e f = sym (read_letter e ∙ ap (λ (n : Bool). cond n 34 (honor_of (get_or w i 0) (get_or w (i + 1) 0))) f)

    pub read_honor : is_number (get_or w i 0) ≡ false → is_number b ≡ false → honor_of (get_or w i 0) (get_or w (i + 1) 0) ≡ read_at b (drop i w)
    read_honor e f = sym (read_letter e ∙ ap (λ (n : Bool). cond n 34 (honor_of (get_or w i 0) (get_or w (i + 1) 0))) f)

  -- the tile of this place comes before those behind it
  pub tiles_here : (b : ℕ) → tiles_from b (drop i w) ≡ read_at b (drop i w) ∷ tiles_from (char_before w (i + 1)) (drop (i + 1) w)
  tiles_here b =
      subst (λ (l : List ℕ). tiles_from b l ≡ read_at b l ∷ tiles_from (get_or w i 0) (drop (i + 1) w)) (sym here) refl
      ∙ ap (λ (c : ℕ). read_at b (drop i w) ∷ tiles_from c (drop (i + 1) w)) next_before

  pub count_here :
      (b : ℕ) (p : ℕ → Bool)
      → count p (tiles_from b (drop i w)) ≡ one (p (read_at b (drop i w))) + count p (tiles_from (char_before w (i + 1)) (drop (i + 1) w))
  count_here b p = ap (count p) (tiles_here b)

  -- ---- good characters: one is passed, any other ends them
  pub good_here : (b : ℕ) → is_good b (drop i w) ≡ ltb (read_at b (drop i w)) 34 || is_silent b (get_or w i 0)
  good_here b = subst (λ (l : List ℕ). is_good b l ≡ ltb (read_at b l) 34 || is_silent b (get_or w i 0)) (sym here) refl

  length_here :
      (b : ℕ) → good_length b (drop i w) ≡ cond (is_good b (drop i w)) (suc (good_length (char_before w (i + 1)) (drop (i + 1) w))) 0
  unfolding good_length
  length_here b =
      subst (λ (l : List ℕ). good_length b l ≡ cond (is_good b l) (suc (good_length (get_or w i 0) (drop (i + 1) w))) 0) (sym here) refl
      ∙ ap (λ (c : ℕ). cond (is_good b (drop i w)) (suc (good_length c (drop (i + 1) w))) 0) next_before

  pub good_next :
      is_good (char_before w i) (drop i w) ≡ true
      → (i + 1) + good_length (char_before w (i + 1)) (drop (i + 1) w) ≡ i + good_length (char_before w i) (drop i w)
  good_next e =
      let n =
      length_here (char_before w i)
      ∙ ap (λ (b : Bool). cond b (suc (good_length (char_before w (i + 1)) (drop (i + 1) w))) 0) e in
      omega arith

  pub good_stop : is_good (char_before w i) (drop i w) ≡ false → i ≡ i + good_length (char_before w i) (drop i w)
  good_stop e =
      let n =
      length_here (char_before w i)
      ∙ ap (λ (b : Bool). cond b (suc (good_length (char_before w (i + 1)) (drop (i + 1) w))) 0) e in
      omega arith

-- ---- past the word
module _ (w : List ℕ) (i : ℕ) (h : length w ≤ i) where
  none : drop i w ≡ []
  none = drop_of_length-le w {i = i} h

  pub stop_end : i ≡ i + leading (drop i w)
  unfolding leading
  stop_end = let n = ap leading none in omega arith

  pub read_end : (b : ℕ) → 34 ≡ read_at b (drop i w)
  read_end b = sym (ap (read_at b) none)

  pub tiles_end : (b : ℕ) → tiles_from b (drop i w) ≡ []
  tiles_end b = ap (tiles_from b) none

  pub count_end : (b : ℕ) (p : ℕ → Bool) → count p (tiles_from b (drop i w)) ≡ 0
  count_end b p = ap (count p) (tiles_end b)

  pub good_end : i ≡ i + good_length (char_before w i) (drop i w)
  unfolding good_length
  good_end = let n = ap (good_length (char_before w i)) none in omega arith

-- ---- a text is good where all its characters are among the good ones that it begins with
pub whole : (b : ℕ) (cs : List ℕ) → length cs ≤ good_length b cs → true ≡ good_from b cs
unfolding good_length
whole b [] h = refl
whole b (c ∷ cs) h = go (is_good b (c ∷ cs)) (whole c cs) h
  where
    go :
        (g : Bool) → (length cs ≤ good_length c cs → true ≡ good_from c cs) → suc (length cs) ≤ cond g (suc (good_length c cs)) 0
        → true ≡ g && good_from c cs
    go true f h = f (omega arith)
    go false f h = absurd (omega arith)

pub broken : (b : ℕ) (cs : List ℕ) → good_length b cs < length cs → false ≡ good_from b cs
unfolding good_length
broken b [] h = absurd (omega arith)
broken b (c ∷ cs) h = go (is_good b (c ∷ cs)) (broken c cs) h
  where
    go :
        (g : Bool) → (good_length c cs < length cs → false ≡ good_from c cs) → cond g (suc (good_length c cs)) 0 < suc (length cs)
        → false ≡ g && good_from c cs
    go true f h = f (omega arith)
    go false f h = refl

-- ---- the character at fault: i, behind the good ones, or the strange one at n, behind numbers at i
module _ (w : List ℕ) (i n : ℕ) (e : i ≡ good_length 0 w) (f : n ≡ i + leading (drop i w)) where
  strange_there : is_strange (get_or w n 0) ≡ is_strange (behind (drop (good_length 0 w) w))
  strange_there = ap (λ (k : ℕ). is_strange (get_or w k 0)) f ∙ ap is_strange (behind_at w i) ∙ ap (λ (k : ℕ). is_strange (behind (drop k w))) e

  pub blame_strange : is_strange (get_or w n 0) ≡ true → n ≡ fault_place w
  blame_strange t =
      f ∙ ap (λ (k : ℕ). k + leading (drop k w)) e
      ∙ sym (ap (λ (b : Bool). cond b (good_length 0 w + leading (drop (good_length 0 w) w)) (good_length 0 w)) (sym strange_there ∙ t))

  pub blame_first : is_strange (get_or w n 0) ≡ false → i ≡ fault_place w
  blame_first t =
      e ∙ sym (ap (λ (b : Bool). cond b (good_length 0 w + leading (drop (good_length 0 w) w)) (good_length 0 w)) (sym strange_there ∙ t))
