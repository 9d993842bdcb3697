-- What the tiles of a whole hand rule out, for a win that passes the checks: nine gates beside a call, terminals alone in seven pairs, and a
-- Yakuhai that counts more than twice. Assumes nothing.
use mathlib.Core.Path.{◌≡◌, refl, sym, ap, subst, ◌∙◌}
use mathlib.Core.Bool.{Bool, true, false, ◌&&◌, ◌||◌, not}
use mathlib.Core.List.{List, [], ◌∷◌, ◌++◌, Memᴰ}
use Prim.Native.Nat.{ℕ, ◌+◌, ◌*◌, ◌<◌, ◌≤◌}
use native.Mathlib.Nat.{mul-le-mul}
use native.Mathlib.Omega.{arith}
use lib.Dec.{T, eqb, leb, ltb, leb→le, lit≤}
use lib.ListN.{length}
use borrow.Author.Tests.{le-leb, ne_eqb}
use Rattle.lists.specs.Fold.{all, any, count, one, sum}
use Rattle.lists.proofs.Finite.{and_left, and_right, one_le, or_elim, or_left, true→t, T→true, ¬T→false}
use Rattle.lists.proofs.Members.{all_append}
use Rattle.lists.proofs.Permuted.{map_perm, total_perm}
use Rattle.lists.proofs.Sums.{sum_append}
use Rattle.tile.specs.Tile.{is_dragon, is_wind, tiles}
use Rattle.tile.specs.Named.{East, South, West, North, White, Green, Red}
use Rattle.tile.proofs.Tiles.{wind_below}
use Rattle.meld.specs.declared.Meld.{Meld}
use Rattle.meld.specs.Meld.{is_call, is_concealed, is_kan, is_meld, is_open, is_triplet_or_kan, set_size, uses}
use Rattle.meld.proofs.Melds.{closed_melds, sorted_perm}
use Rattle.meld.proofs.Sorts.{call_is}
use Rattle.meld.proofs.Renamed.{not_sequence}
use Rattle.rules.specs.Rules.{Game}
use Rattle.context.specs.declared.GameContext.{GameContext}
use Rattle.context.proofs.Range.{round_in, seat_in}
use Rattle.hand.specs.Counts.{held}
use Rattle.hand.specs.Reading.{Reading, pairs, orphans, standard, Admits, AdmitsPairs, AdmitsStandard}
use Rattle.wait.specs.Wait.{weight}
use Rattle.tile_yaku.specs.declared.TileYaku.{TileYaku}
use Rattle.tile_yaku.specs.Tiles.{chinroutou, nine_gates, tile_yaku}
use Rattle.tile_yaku.proofs.Totals.{nine_gates_no_kan, pairs_not_chinroutou}
use Rattle.honor_yaku.specs.Honors.{yakuhai}
use Rattle.meld_yaku.specs.Melds.{set_of}
use Rattle.yaku.specs.declared.names.Yaku.TheVariants.{Chinroutou, ChuurenPoutou, JunseiChuurenPoutou}
use Rattle.yaku.specs.Names.{tallied, yakuhai_name}
use Rattle.yaku.specs.Tally.{one_han, more_han, ordinary, tallies}
use Rattle.yaku.proofs.Excludes.{by_answer, by_yakuman}
use Rattle.reading_score.specs.Score.{result, score_of}
use Rattle.checks.specs.declared.Calls.{Calls}
use Rattle.checks.specs.Checks.{called, hand_check_in, together}
use Rattle.checks.proofs.Passed.{passed, passes_four, called_length}
use Rattle.promises.proofs.Listing.{admitted}
use Rattle.unit.specs.Listing.{hand_readings}
use Rattle.unit.proofs.Passes.{melds_called}
use Rattle.win.specs.Win.{win_check_in, is_opened, tiles_together, score_in}
use Rattle.win.proofs.Passed.{checked}

-- ---- a call is open or a kan
open_or_kan : (m : Meld) → T (is_call m) → T (is_open m || is_kan m)
open_or_kan m v = weaker (is_open m) (is_kan m) (is_concealed m) (subst T (call_is m (and_left (is_meld m) _ v)) v)
  where
    weaker : (a b c : Bool) → T (a || (b && c)) → T (a || b)
    weaker true b c t = tt
    weaker false b c t = and_left b c t

-- so calls without an open one and without a kan are none
no_calls : (l : List Meld) → T (all is_call l) → any is_open l ≡ false → count is_kan l ≡ 0 → l ≡ []
no_calls [] v e z = refl
no_calls (m ∷ l) v e z =
    absurd
    (or_elim (is_open m) (is_kan m) (open_or_kan m (and_left (is_call m) (all is_call l) v))
    (λ o. subst T e (or_left (is_open m) (any is_open l) o))
    (λ o. let one-kan : one (is_kan m) ≡ 1 = ap one (T→true (is_kan m) o) in omega arith))

-- ---- a triplet or kan takes three of its tile, and winds and dragons are apart
three_at_least : (b : Bool) → 3 ≤ set_size b
three_at_least true = lit≤ tt
three_at_least false = lit≤ tt

set_uses : (t : ℕ) (m : Meld) → 3 * one (set_of (eqb t) m) ≤ uses m t
set_uses t m =
    by_answer (set_of (eqb t) m)
    (λ e.
    let a : one (set_of (eqb t) m) ≡ 1 = ap one e in
    let set = and_left (is_triplet_or_kan m) (eqb t m.tile) (true→t _ e) in
    let same = T→true (eqb t m.tile) (and_right (is_triplet_or_kan m) (eqb t m.tile) (true→t _ e)) in
    let b : uses m t ≡ set_size (is_kan m) = rw (not_sequence m set, same) in
    let c = three_at_least (is_kan m) in
    omega arith)
    (λ e. let a : one (set_of (eqb t) m) ≡ 0 = ap one e in omega arith)

sets_use : (t : ℕ) (ms : List Meld) → 3 * count (set_of (eqb t)) ms ≤ sum (λ m. uses m t) ms
sets_use t [] = lit≤ tt
sets_use t (m ∷ ms) = let first = set_uses t m in let rest = sets_use t ms in omega arith

no_dragon_holds : (t u : ℕ) → T (is_dragon t) → T (is_wind u) → one (eqb t u) ≡ 0
no_dragon_holds t u d v =
    let high = leb→le 31 t (and_left (leb 31 t) (ltb t 34) d) in
    let low = wind_below u v in
    ap one (ne_eqb t u (λ e. omega arith))

weight_two : (w : GameContext) → T (is_wind w.round_wind) → T (is_wind w.seat_wind) → (t : ℕ) → weight w t ≤ 2
weight_two w round seat t =
    by_answer (is_dragon t)
    (λ e.
    let a : one (is_dragon t) ≡ 1 = ap one e in
    let b = no_dragon_holds t w.round_wind (true→t _ e) round in
    let c = no_dragon_holds t w.seat_wind (true→t _ e) seat in
    omega arith)
    (λ e.
    let a : one (is_dragon t) ≡ 0 = ap one e in
    let b = one_le (eqb t w.round_wind) in
    let c = one_le (eqb t w.seat_wind) in
    omega arith)

abbrev pub honors : List ℕ
honors = East ∷ South ∷ West ∷ North ∷ White ∷ Green ∷ Red ∷ []

-- each honor counts at most twice
abbrev pub at_most_twice : List ℕ → Bool
at_most_twice ts = all (λ t. leb (tallied (yakuhai_name t) ts) 2) honors

-- ---- nine gates are asked of a closed hand only
gates_asked :
    (w : GameContext) (opened : Bool) (s : TileYaku) (r : Reading) → (not opened && s.nine_gates) ≡ false
    → (tallied ChuurenPoutou (tallies w opened s r) ≡ 0) × (tallied JunseiChuurenPoutou (tallies w opened s r) ≡ 0)
unfolding ordinary one_han more_han
gates_asked w opened s (pairs ps) e =
    by_yakuman w opened s (pairs ps) (λ ts. (tallied ChuurenPoutou ts ≡ 0) × (tallied JunseiChuurenPoutou ts ≡ 0)) (refl, refl) (refl, refl)
gates_asked w opened s (orphans p) e =
    by_yakuman w opened s (orphans p) (λ ts. (tallied ChuurenPoutou ts ≡ 0) × (tallied JunseiChuurenPoutou ts ≡ 0)) (refl, refl) (refl, refl)
gates_asked w opened s (standard p ms) e =
    let one_no = ap one (three_no (not opened) s.nine_gates (not s.pure_wait) e) in
    let pure-no = ap one (three_no (not opened) s.nine_gates s.pure_wait e) in
    by_yakuman w opened s (standard p ms) (λ ts. (tallied ChuurenPoutou ts ≡ 0) × (tallied JunseiChuurenPoutou ts ≡ 0))
    (one_no, pure-no) (one_no, pure-no)
  where
    three_no : (a b c : Bool) → (a && b) ≡ false → (a && (b && c)) ≡ false
    three_no false b c e = refl
    three_no true false c e = refl
    three_no true true c e = absurd (subst T e tt)

-- ---- a win that passes the checks of a game; the four melds of the calls are four (an array of four in the code)
module _ (g : Game) (cs : List ℕ) (k : Calls) (w : GameContext) (four : length k.melds ≡ 4) (passes : win_check_in g cs k w ≡ 0) where
  hand_passes : hand_check_in g cs k ≡ 0
  hand_passes = (checked cs k w passes).hand

  gates_no_kan : T (nine_gates (together cs (called k))) → count is_kan (called k) ≡ 0
  gates_no_kan =
      let h = passed cs k hand_passes in
      nine_gates_no_kan (held cs) (called k) (melds_called cs k (passes_four g cs k hand_passes)) (subst (λ (n : ℕ). sum (held cs) tiles + 3 * n ≡ 14) (sym (called_length k h.few four)) h.tiles)

  -- nine gates never stand beside a call, not even a closed kan
  no_gates : (called k ≡ [] → ⊥) → (not (is_opened k) && nine_gates (together cs (called k))) ≡ false
  no_gates called-some =
      by_answer (is_opened k) (λ e. rw e)
      (λ e. rw e (¬T→false _ (λ y. called-some (no_calls (called k) (passed cs k hand_passes).calls e (gates_no_kan y)))))

  pub nine_gates_uncalled :
      (called k ≡ [] → ⊥) → (r : Reading)
      → (tallied ChuurenPoutou (score_in cs k w r).tallies ≡ 0) × (tallied JunseiChuurenPoutou (score_in cs k w r).tallies ≡ 0)
  unfolding score_in score_of result tile_yaku
  nine_gates_uncalled called-some r = gates_asked w (is_opened k) (tiles_together cs k w) r (no_gates called-some)

  -- ---- terminals alone are never seven pairs
  no_chinroutou : (ps : List ℕ) → AdmitsPairs (held cs) (called k) ps → chinroutou (together cs (called k)) ≡ false
  no_chinroutou ps a =
      let all : AdmitsPairs (together cs (called k)) (called k) ps =
      record {
        uncalled = a.uncalled;
        seven = a.seven;
        ascending = a.ascending;
        tiles = a.tiles;
        exact = λ t i. rw a.uncalled (omega (arith, a.exact t i));
      } in
      pairs_not_chinroutou all

  pub no_pairs_of_terminals : (ps : List ℕ) → Memᴰ (pairs ps) (hand_readings cs k) → tallied Chinroutou (score_in cs k w (pairs ps)).tallies ≡ 0
  unfolding score_in score_of result tile_yaku ordinary one_han more_han
  no_pairs_of_terminals ps i =
      let e = ap one (no_chinroutou ps (admitted g cs k four hand_passes (pairs ps) i)) in
      by_yakuman w (is_opened k) (tiles_together cs k w) (pairs ps) (λ ts. tallied Chinroutou ts ≡ 0) e e

  -- ---- of four tiles there is one triplet or kan
  module _ (p : ℕ) (ms : List Meld) (a : AdmitsStandard (held cs) (called k) p ms) (t : ℕ) (tile : t < 34) where
    melds_hold : sum (λ m. uses m t) ms ≤ 4
    melds_hold =
        let melds = all_append is_meld (called k) a.hand (melds_called cs k (passes_four g cs k hand_passes)) (closed_melds a.hand a.closed) in
        let same : sum (λ m. uses m t) ms ≡ sum (λ m. uses m t) (called k ++ a.hand) =
        ap (sum (λ m. uses m t)) a.whole ∙ total_perm (map_perm (λ m. uses m t) (sorted_perm (called k ++ a.hand) melds)) in
        omega (arith, same, sum_append (λ m. uses m t) (called k) a.hand, a.exact t tile, (passed cs k hand_passes).whole t tile)

    one_set : count (set_of (eqb t)) ms ≤ 1
    one_set = omega (arith, sets_use t ms, melds_hold)

    twice : leb (yakuhai w ms t) 2 ≡ true
    unfolding yakuhai
    twice =
        let range = (checked cs k w passes).range in
        le-leb (count (set_of (eqb t)) ms * weight w t) 2 (mul-le-mul one_set (weight_two w (round_in w range) (seat_in w range) t))

  admitted_twice : (r : Reading) → Admits (held cs) (called k) r → T (at_most_twice (tallies w (is_opened k) (tiles_together cs k w) r))
  unfolding ordinary one_han more_han
  admitted_twice (pairs ps) a = by_yakuman w (is_opened k) (tiles_together cs k w) (pairs ps) (λ ts. T (at_most_twice ts)) tt tt
  admitted_twice (orphans p) a = by_yakuman w (is_opened k) (tiles_together cs k w) (orphans p) (λ ts. T (at_most_twice ts)) tt tt
  admitted_twice (standard p ms) a =
      let at : (t : ℕ) → t < 34 → leb (yakuhai w ms t) 2 ≡ true = twice p ms a in
      by_yakuman w (is_opened k) (tiles_together cs k w) (standard p ms) (λ ts. T (at_most_twice ts)) tt
      (simp (
        at 27 (omega arith),
        at 28 (omega arith),
        at 29 (omega arith),
        at 30 (omega arith),
        at 31 (omega arith),
        at 32 (omega arith),
        at 33 (omega arith),
      ) tt)

  pub yakuhai_at_most_twice : (r : Reading) → Memᴰ r (hand_readings cs k) → T (at_most_twice (score_in cs k w r).tallies)
  unfolding score_in score_of result
  yakuhai_at_most_twice r i = admitted_twice r (admitted g cs k four hand_passes r i)
