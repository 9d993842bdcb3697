-- What a game adds to the checks: which melds are called in it, and that none of an absent tile is held. Assumes nothing.
use mathlib.Core.Path.{◌≡◌, refl, sym, ap, subst, ◌∙◌}
use mathlib.Core.Bool.{Bool, true, false, ◌&&◌, ◌||◌, not, cond}
use mathlib.Core.List.{List, Memᴰ}
use Prim.Native.Nat.{ℕ, ◌+◌, ◌<◌, ◌≤◌}
use native.Mathlib.Decide.{ℕ_discrete}
use native.Mathlib.Omega.{arith}
use lib.Dec.{T, eqb, ltb, leb, eqb→eq, eqb_refl, ltb→lt, leb→le, le→leb}
use borrow.Author.Tests.{eq-eqb, lt-ltb}
use Rattle.lists.specs.Fold.{all, one}
use Rattle.lists.proofs.Finite.{and_left, and_right, and_both, or_skip, T→true, true→t, T-eq}
use Rattle.lists.proofs.Members.{all_mem, all_intro}
use Rattle.tile.specs.Tile.{tiles}
use Rattle.rules.specs.Rules.{Game, four, most}
use Rattle.meld.specs.declared.Meld.{Meld}
use Rattle.meld.specs.Meld.{is_sequence, is_kan, is_meld, is_call, run_uses, set_size, uses}
use Rattle.meld.proofs.Melds.{meld_tile, meld_source}
use Rattle.hand.specs.Counts.{held}
use Rattle.hand.proofs.Lowest.{run_in}
use Rattle.checks.specs.Checks.{in_wall, is_played, is_call_in}
use Rattle.checks.proofs.Added.{run_below}

-- ---- the tiles of a call
some : (b : Bool) (n : ℕ) → 0 < cond b n 0 → T b
some true n h = tt
some false n h = absurd (omega arith)

some_one : (b : Bool) → 0 < one b → T b
some_one true h = tt
some_one false h = absurd (omega arith)

module _ (g : Game) (m : Meld) where
  -- a tile that a meld in the wall holds is in the wall: it is its lowest, or of a sequence one of the two after it
  of_run : T (in_wall g m) → is_sequence m ≡ true → (t : ℕ) → 0 < run_uses m.tile t → T (g.allowed t)
  of_run v e t h = go (ℕ_discrete t m.tile) (ℕ_discrete t (m.tile + 1))
    where
      in_run_holds : T (leb m.tile t && ltb t (m.tile + 3))
      in_run_holds = some_one (leb m.tile t && ltb t (m.tile + 3)) h

      after : T (g.allowed (m.tile + 1) && g.allowed (m.tile + 2))
      after =
          or_skip (is_sequence m) (g.allowed (m.tile + 1) && g.allowed (m.tile + 2)) (true→t (is_sequence m) e)
          (and_right (g.allowed m.tile) (not (is_sequence m) || (g.allowed (m.tile + 1) && g.allowed (m.tile + 2))) v)

      go : Dec (t ≡ m.tile) → Dec (t ≡ m.tile + 1) → T (g.allowed t)
      go (yes a) b = subst (λ (u : ℕ). T (g.allowed u)) (sym a) (and_left (g.allowed m.tile) _ v)
      go (no a) (yes b) = subst (λ (u : ℕ). T (g.allowed u)) (sym b) (and_left (g.allowed (m.tile + 1)) _ after)
      go (no a) (no b) =
          let l = leb→le m.tile t (and_left (leb m.tile t) _ in_run_holds) in
          let u = ltb→lt t (m.tile + 3) (and_right (leb m.tile t) _ in_run_holds) in
          let c : t ≡ m.tile + 2 = omega arith in
          subst (λ (u : ℕ). T (g.allowed u)) (sym c) (and_right (g.allowed (m.tile + 1)) (g.allowed (m.tile + 2)) after)

  pub wall_each : T (in_wall g m) → (t : ℕ) → 0 < uses m t → T (g.allowed t)
  wall_each v t h = go (is_sequence m) refl h
    where
      go : (b : Bool) → is_sequence m ≡ b → 0 < cond b (run_uses m.tile t) (cond (eqb t m.tile) (set_size (is_kan m)) 0) → T (g.allowed t)
      go true e h = of_run v e t h
      go false e h =
          let a = eqb→eq t m.tile (some (eqb t m.tile) (set_size (is_kan m)) h) in
          subst (λ (u : ℕ). T (g.allowed u)) (sym a) (and_left (g.allowed m.tile) _ v)

  -- and where each tile that it holds is, so is the meld
  pub each_wall : T (is_meld m) → ((t : ℕ) → t < 34 → 0 < uses m t → T (g.allowed t)) → T (in_wall g m)
  each_wall is f =
      and_both (g.allowed m.tile) (not (is_sequence m) || (g.allowed (m.tile + 1) && g.allowed (m.tile + 2)))
      (f m.tile (meld_tile m is) (own (is_sequence m) (eqb m.tile m.tile) (is_kan m) (eqb_refl m.tile)))
      (after (is_sequence m) refl)
    where
      size : (b : Bool) → 0 < set_size b
      size true = omega arith
      size false = omega arith

      own : (seq same kan : Bool) → T same → 0 < cond seq (run_uses m.tile m.tile) (cond same (set_size kan) 0)
      own true same kan t = let e = run_in m.tile m.tile (omega arith) (omega arith) in omega arith
      own false true kan t = size kan
      own false false kan t = absurd t

      run_uses_holds : is_sequence m ≡ true → (t : ℕ) → m.tile ≤ t → t < m.tile + 3 → 0 < uses m t
      run_uses_holds e t h l =
          let a : uses m t ≡ run_uses m.tile t = ap (λ (b : Bool). cond b (run_uses m.tile t) (cond (eqb t m.tile) (set_size (is_kan m)) 0)) e in
          let r = run_in m.tile t h l in
          omega arith

      after : (b : Bool) → is_sequence m ≡ b → T (not b || (g.allowed (m.tile + 1) && g.allowed (m.tile + 2)))
      after false e = tt
      after true e =
          let h = run_below m is e in
          and_both (g.allowed (m.tile + 1)) (g.allowed (m.tile + 2)) (f (m.tile + 1) (omega arith) (run_uses_holds e (m.tile + 1) (omega arith) (omega arith)))
          (f (m.tile + 2) (omega arith) (run_uses_holds e (m.tile + 2) (omega arith) (omega arith)))

-- with four players each meld that is called can be
pub played_four : (m : Meld) → m.source < 4 → is_played four m ≡ true
played_four m h = go (is_sequence m) refl
  where
    go : (b : Bool) → is_sequence m ≡ b → is_played four m ≡ true
    go true e = simp (e, lt-ltb m.source 4 h)
    go false e = simp (e, lt-ltb m.source 4 h)

-- so check 3 is that of a meld that is called
pub call_four : (m : Meld) → is_call_in four m ≡ is_call m
call_four m = T-eq (is_call_in four m) (is_call m) (and_left (is_call m) (is_played four m)) made
  where
    made : T (is_call m) → T (is_call_in four m)
    made v = and_both (is_call m) (is_played four m) v (true→t (is_played four m) (played_four m (meld_source m (and_left (is_meld m) _ v))))

-- what is called in a game is a call
pub calls_made : (g : Game) (ms : List Meld) → all (is_call_in g) ms ≡ true → all is_call ms ≡ true
calls_made g ms e =
    T→true _ (all_intro is_call ms (λ m i. and_left (is_call m) (is_played g m) (all_mem (is_call_in g) (true→t (all (is_call_in g) ms) e) i)))

-- ---- of each tile no more than there are: at most four, and none of an absent one
most_test : (a : Bool) (n : ℕ) → leb n (cond a 4 0) ≡ leb n 4 && (a || eqb n 0)
most_test true n = T-eq _ _ (λ t. and_both (leb n 4) true t tt) (λ t. and_left (leb n 4) true t)
most_test false n =
    T-eq _ _ (λ t. let h = leb→le n 0 t in and_both (leb n 4) (eqb n 0) (le→leb n 4 (omega arith)) (true→t _ (eq-eqb n 0 (omega arith))))
    (λ t. let h = eqb→eq n 0 (and_right (leb n 4) (eqb n 0) t) in le→leb n 0 (omega arith))

module _ (g : Game) (cs : List ℕ) where
  abbrev few : ℕ → Bool
  few t = leb (held cs t) 4

  abbrev there : ℕ → Bool
  there t = g.allowed t || eqb (held cs t) 0

  pub wall_tests : all (λ t. leb (held cs t) (most g t)) tiles ≡ all few tiles && all there tiles
  wall_tests =
      T-eq _ _
      (λ v. and_both (all few tiles) (all there tiles)
      (all_intro few tiles (λ t i. and_left (few t) (there t) (both v t i)))
      (all_intro there tiles (λ t i. and_right (few t) (there t) (both v t i))))
      (λ v. all_intro (λ t. leb (held cs t) (most g t)) tiles
      (λ t i. subst T (sym (most_test (g.allowed t) (held cs t)))
      (and_both (few t) (there t) (all_mem few (and_left (all few tiles) (all there tiles) v) i) (all_mem there (and_right (all few tiles) (all there tiles) v) i))))
    where
      both : T (all (λ t. leb (held cs t) (most g t)) tiles) → (t : ℕ) → Memᴰ t tiles → T (few t && there t)
      both v t i = subst T (most_test (g.allowed t) (held cs t)) (all_mem (λ t. leb (held cs t) (most g t)) v i)

  -- so of no tile more than four
  pub few_in_wall : all (λ t. leb (held cs t) (most g t)) tiles ≡ true → T (all few tiles)
  few_in_wall e = and_left (all few tiles) (all there tiles) (true→t _ (sym wall_tests ∙ e))
