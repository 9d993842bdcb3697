-- A hand and its twin under a renaming of tiles and melds: the twin has the same readings, renamed, and in a game whose tiles in the wall stay in it the
-- twin passes the same checks.
-- Assumes nothing.
use mathlib.Core.Path.{◌≡◌, refl, sym, ap, ap₂, subst, ◌∙◌}
use mathlib.Core.Bool.{Bool, true, false, ◌||◌, not, cond}
use mathlib.Core.List.Memᴰ
use mathlib.Core.List.{List, map, Permᴰ}
use Prim.Native.Nat.{ℕ, ◌+◌, ◌*◌, ◌<◌, ◌≤◌}
use native.Mathlib.Omega.{arith}
use lib.Dec.{T, ltb}
use lib.ListN.{length}
use Rattle.lists.specs.Fold.{all, sum}
use Rattle.lists.proofs.Finite.{and_left, and_right, and_both}
use Rattle.lists.proofs.Members.{all_map, all_mem, all_intro}
use Rattle.tile.specs.declared.Renaming.{Renaming}
use Rattle.tile.specs.Renaming.{ren, back}
use Rattle.tile.proofs.Renamings.{ren_lt, ren_back}
use Rattle.rules.specs.Rules.{Game, most}
use Rattle.meld.specs.declared.Meld.{Meld}
use Rattle.meld.specs.Meld.{is_call, is_meld, is_sequence, uses}
use Rattle.meld.specs.Renamed.{ren_meld}
use Rattle.meld.proofs.Renamed.{ren_is_meld_holds, ren_uses}
use Rattle.context.specs.declared.Indicators.{Indicators}
use Rattle.context.specs.declared.GameContext.{GameContext}
use Rattle.context.specs.Context.{in_range, indicators_in, none_shown, ren_win, indicating}
use Rattle.context.proofs.Renamed.{range_renamed}
use Rattle.hand.specs.Counts.{held}
use Rattle.hand.specs.Readings.{readings}
use Rattle.renamed.specs.Renamed.{changed, ren_reading, ren_counts}
use Rattle.renamed.proofs.Keeps.{Keeps, SameCounts, uses_moved, counts_back, sum_stays, keeps}
use Rattle.renamed.proofs.Readings.{readings_moved}
use Rattle.renamed.proofs.Counts.{held_renamed, counts_length}
use Rattle.checks.specs.declared.Calls.{Calls}
use Rattle.checks.specs.Checks.{called, together, in_wall, is_played, hand_check_in}
use Rattle.checks.proofs.Four.{four_each}
use Rattle.checks.proofs.Played.{wall_each, each_wall}
use Rattle.checks.proofs.Passed.{Passed, passed, passes, passes_four}
use Rattle.unit.specs.Listing.{hand_readings}
use Rattle.unit.proofs.Passes.{melds_called}
use Rattle.agreement.specs.Agreement.{StaysAllowed, RenamedCalls}
use Rattle.agreement.proofs.Indicators.{BothRenamed, checked_alike, none_alike}
use Rattle.win.proofs.Passed.{Checked}

-- the hand ds with the calls j is the hand cs with the calls k, with f at each tile and g at each call
pub record Twin (f : ℕ → ℕ) (g : Meld → Meld) (cs : List ℕ) (k : Calls) (ds : List ℕ) (j : Calls) : Type 0 where
  pub long : length ds ≡ 34
  pub counts : SameCounts f (held cs) (held ds)
  pub many : j.count ≡ k.count
  pub calls : called j ≡ map g (called k)

-- in the game γ: each tile in the wall becomes one that is in it, and each call one that can be made
pub record Stays (γ : Game) (f : ℕ → ℕ) (g : Meld → Meld) : Type 0 where
  pub tile : (t : ℕ) → t < 34 → T (γ.allowed t) → T (γ.allowed (f t))
  pub call : (m : Meld) → T (is_call m) → T (is_call (g m))
  pub played : (m : Meld) → T (is_call m) → T (is_played γ m) → T (is_played γ (g m))

most_stays : (a b : Bool) → (T a → T b) → cond a 4 0 ≤ cond b 4 0
most_stays true true h = omega arith
most_stays true false h = absurd (h tt)
most_stays false b h = omega arith

module _
    {f f' : ℕ → ℕ} {g g' : Meld → Meld} (s : Keeps f f' g g') {cs ds : List ℕ} {k j : Calls} (q : Twin f g cs k ds j)
    (γ : Game)
    (hand : hand_check_in γ cs k ≡ 0)
  where
    are_melds : T (all is_meld (called k))
    are_melds = melds_called cs k (passes_four γ cs k hand)

    -- hand and calls together
    pub together_twin : SameCounts f (together cs (called k)) (together ds (called j))
    together_twin t h =
        ap₂ ◌+◌ (q.counts t h) (ap (λ (l : List Meld). sum (λ m. uses m (f t)) l) q.calls ∙ uses_moved s.forth t h (called k) are_melds)

    pub readings_twin : Permᴰ (hand_readings ds j) (map (changed f g) (hand_readings cs k))
    unfolding hand_readings
    readings_twin =
        subst (λ (l : List Meld). Permᴰ (readings (held ds) l) (map (changed f g) (readings (held cs) (called k)))) (sym q.calls)
        (readings_moved s (held cs) (held ds) q.counts (called k) are_melds)

    module _ (stays : Stays γ f g) where
      -- at most so many of each tile, where the renamed one may be there as often
      at_most :
          (c d n : ℕ → ℕ) → SameCounts f c d → ((t : ℕ) → t < 34 → n (f' t) ≤ n t) → ((t : ℕ) → t < 34 → c t ≤ n t) → (t : ℕ) → t < 34 → d t ≤ n t
      at_most c d n e grows few t h =
          let a = few (f' t) (s.back.tile t h) in
          let b = grows t h in
          let same = counts_back s c d e t h in
          omega arith

      allowed_more : (t : ℕ) → t < 34 → most γ (f' t) ≤ most γ t
      allowed_more t h =
          most_stays (γ.allowed (f' t)) (γ.allowed t)
          (λ a. subst (λ (u : ℕ). T (γ.allowed u)) (s.tile_back t h) (stays.tile (f' t) (s.back.tile t h) a))

      calls_twin : T (all is_call (called j))
      calls_twin =
          subst (λ (l : List Meld). T (all is_call l)) (sym q.calls) (all_map is_call is_call g stays.call (called k) (passed cs k hand).calls)

      played_twin : T (all (is_played γ) (called j))
      played_twin =
          subst (λ (l : List Meld). T (all (is_played γ) l)) (sym q.calls)
          (all_intro (is_played γ) (map g (called k))
          (λ m i.
          let r = Memᴰ.of_map g (called k) i in
          let p = passed cs k hand in
          subst (λ (m : Meld). T (is_played γ m)) r.2 (stays.played r.0 (all_mem is_call p.calls r.1) (all_mem (is_played γ) p.played r.1))))

      pub passed_twin : Passed γ ds j
      passed_twin =
          let p = passed cs k hand in
          let e = sum_stays s (held cs) (held ds) q.counts in
          record {
            long = q.long;
            few = subst (λ (n : ℕ). n ≤ 4) (sym q.many) p.few;
            calls = calls_twin;
            played = played_twin;
            four = four_each ds q.long (at_most (held cs) (held ds) (λ t. 4) q.counts (λ t h. omega arith) (λ t h. p.four t));
            wall = at_most (held cs) (held ds) (most γ) q.counts allowed_more p.wall;
            whole = at_most (together cs (called k)) (together ds (called j)) (λ t. 4) together_twin (λ t h. omega arith) p.whole;
            tiles = ap₂ (λ (a b : ℕ). a + 3 * b) e q.many ∙ p.tiles;
          }

-- the twin's win passes the checks 8, 14 and 9 too
pub checked_twin :
    {f f' : ℕ → ℕ} {g g' : Meld → Meld} → Keeps f f' g g' → {cs ds : List ℕ} {k j : Calls} → Twin f g cs k ds j → {γ : Game} → Stays γ f g
    → {w v : GameContext} → T (in_range v) → T (indicators_in v) → none_shown v ≡ none_shown w → v.winning_tile ≡ f w.winning_tile
    → Checked γ cs k w → Checked γ ds j v
checked_twin s {cs} {ds} {k} {j} q {γ} stays {w} {v} range indicators none e p =
    record {
      hand = passes ds j (passed_twin s q γ p.hand stays);
      range = range;
      indicators = indicators;
      shown = subst (λ (b : Bool). T (γ.dora || b)) (sym none) p.shown;
      tile = subst (λ (t : ℕ). t < 34) (sym e) (s.forth.tile w.winning_tile p.tile);
      there = subst (λ (n : ℕ). 0 < n) (sym (ap (held ds) e ∙ q.counts w.winning_tile p.tile)) p.there;
    }

-- ---- the renamings: a hand and its calls renamed are a twin
pub renamed_twin :
    (ρ : Renaming) (cs : List ℕ) {k j : Calls} → RenamedCalls ρ k j → Twin (ren ρ) (ren_meld ρ) cs k (ren_counts ρ cs) j
renamed_twin ρ cs c = record { long = counts_length ρ cs; counts = held_renamed ρ cs; many = c.many; calls = c.calls }

-- a call keeps its kind and its source, and its tiles stay in the wall
renamed_stays : (g : Game) (ρ : Renaming) → StaysAllowed g ρ → Stays g (ren ρ) (ren_meld ρ)
renamed_stays g ρ stays =
    record {
      tile = stays;
      call = λ m v. and_both (is_meld (ren_meld ρ m)) _ (is_meld_holds m v) (and_right (is_meld m) _ v);
      played = λ m v p.
          let there = and_right (g.chi || not (is_sequence m)) _ p in
          and_both (g.chi || not (is_sequence m)) _ (and_left (g.chi || not (is_sequence m)) _ p)
          (and_both (ltb m.source g.players) _ (and_left (ltb m.source g.players) _ there)
          (each_wall g (ren_meld ρ m) (is_meld_holds m v) (in_wall_holds m v (and_right (ltb m.source g.players) (in_wall g m) there))));
    }
  where
    is_meld_holds : (m : Meld) → T (is_call m) → T (is_meld (ren_meld ρ m))
    is_meld_holds m v = ren_is_meld_holds ρ m (and_left (is_meld m) _ v)

    -- a tile of the renamed meld is a tile of the meld, renamed
    in_wall_holds : (m : Meld) → T (is_call m) → T (in_wall g m) → (t : ℕ) → t < 34 → 0 < uses (ren_meld ρ m) t → T (g.allowed t)
    in_wall_holds m v wall t h u =
        let from = ren (back ρ) t in
        let is = ren_lt (back ρ) t h in
        let e = ren_back ρ t h in
        let same = ap (uses (ren_meld ρ m)) (sym e) ∙ ren_uses ρ m (and_left (is_meld m) _ v) from is in
        subst (λ (u : ℕ). T (g.allowed u)) e (stays from is (wall_each g m wall from (omega (arith, u, same))))

-- its readings are the first's renamed
pub readings_renamed :
    (g : Game) {ρ : Renaming} (cs : List ℕ) {k j : Calls} → RenamedCalls ρ k j → hand_check_in g cs k ≡ 0
    → Permᴰ (hand_readings (ren_counts ρ cs) j) (map (ren_reading ρ) (hand_readings cs k))
readings_renamed g {ρ} cs c hand = readings_twin (keeps ρ) (renamed_twin ρ cs c) g hand

-- ---- in a game whose tiles in the wall stay in it
module _ (g : Game) {ρ : Renaming} (stays : StaysAllowed g ρ) where
  -- the hand renamed passes the same checks
  pub hand_renamed : (cs : List ℕ) {k j : Calls} → RenamedCalls ρ k j → hand_check_in g cs k ≡ 0 → hand_check_in g (ren_counts ρ cs) j ≡ 0
  hand_renamed cs {j = j} c hand = passes (ren_counts ρ cs) j (passed_twin (keeps ρ) (renamed_twin ρ cs c) g hand (renamed_stays g ρ stays))

  -- the same win renamed passes the same checks, with the indicators d and u
  pub checked_renamed :
      {cs : List ℕ} {k j : Calls} {w : GameContext} {d u : Indicators} → RenamedCalls ρ k j
      → BothRenamed ρ w d u → Checked g cs k w → Checked g (ren_counts ρ cs) j (indicating d u (ren_win ρ w))
  checked_renamed {cs} {w = w} c both p =
      checked_twin (keeps ρ) (renamed_twin ρ cs c) (renamed_stays g ρ stays) (subst T (sym (range_renamed ρ w)) p.range)
      (subst T (sym (checked_alike both)) p.indicators) (none_alike both) refl p
