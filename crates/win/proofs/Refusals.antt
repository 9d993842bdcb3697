-- The number that refuses a win: that of the first check that fails, in the words of the scope paper. Assumes nothing.
use mathlib.Core.Path.{◌≡◌, refl, sym, subst, ◌∙◌}
use mathlib.Core.Logic.{◌↔◌}
use mathlib.Core.Bool.{Bool, true, false, ◌&&◌, ◌||◌, not}
use mathlib.Core.List.{List, Memᴰ}
use Prim.Native.Nat.{ℕ}
use native.Mathlib.Omega.{arith}
use lib.Dec.{T, eqb, ltb, leb, eqb→eq, ltb→lt, leb→le, eqb_refl}
use borrow.Author.Tests.{eq-eqb, lt-ltb, le-leb, ltb-true}
use Rattle.lists.specs.Fold.{all, all_below, any}
use Rattle.lists.specs.Refusals.{Answers}
use Rattle.lists.proofs.Arranged.{any_mem}
use Rattle.lists.proofs.Finite.{true→t, and_left, and_right, and_both, or_elim, or_skip, at}
use Rattle.lists.proofs.Members.{all_mem, all_intro}
use Rattle.tile.specs.Tile.{is_wind}
use Rattle.tile.proofs.Tiles.{wind_below}
use Rattle.rules.specs.Rules.{Game}
use Rattle.context.specs.declared.Indicators.{Indicators}
use Rattle.context.specs.declared.GameContext.{GameContext}
use Rattle.context.specs.Context.{is_setting, in_range, shown, are_indicators, indicators_in, none_shown}
use Rattle.context.proofs.Range.{type_in, round_in, seat_in, setting_in}
use Rattle.checks.specs.declared.Calls.{Calls}
use Rattle.checks.specs.Checks.{hand_check_in}
use Rattle.checks.specs.Refusals.{hand_checks}
use Rattle.checks.proofs.InOrder.{next_check, then_checks, exactly}
use Rattle.checks.proofs.Refusals.{hand_refusals}
use Rattle.win.specs.Win.{indicated_in, win_check_in}
use Rattle.win.specs.Refusals.{win_types, winds, settings, InRange, Indicated, BothIndicated, context_checks, win_checks}
use Rattle.win.proofs.Checked.{or_second, refused_hand}

-- ---- the win type, the winds and the setting, as a test and as a fact
type_test : T (all_below 2 (λ t. any (eqb t) win_types))
type_test = tt

wind_test : T (all_below 31 (λ t. not (is_wind t) || any (eqb t) winds))
wind_test = tt

is_type : (t : ℕ) → T (ltb t 2) → Memᴰ t win_types
is_type t h = any_mem eqb eqb→eq eqb_refl t win_types (at 2 (λ t. any (eqb t) win_types) type_test t (ltb→lt t 2 h))

is_wind_holds : (t : ℕ) → T (is_wind t) → Memᴰ t winds
is_wind_holds t h =
    any_mem eqb eqb→eq eqb_refl t winds
    (or_skip (is_wind t) (any (eqb t) winds) h
    (at 31 (λ t. not (is_wind t) || any (eqb t) winds) wind_test t (wind_below t h)))

is_setting_holds : (n : ℕ) → T (is_setting n) → Memᴰ n settings
is_setting_holds n h =
    or_elim (eqb n 4) (eqb n 2) h (λ e. Memᴰ.head (eqb→eq n 4 e)) (λ e. Memᴰ.tail {x = 4} (Memᴰ.head (eqb→eq n 2 e)))

module _ (w : GameContext) where
  pub in_range_holds : T (in_range w) → InRange w
  in_range_holds h =
      record {
        type = is_type w.win_type (type_in w h);
        round = is_wind_holds w.round_wind (round_in w h);
        seat = is_wind_holds w.seat_wind (seat_in w h);
        setting = is_setting_holds w.double_wind_fu (setting_in w h);
      }

  pub range_test : InRange w → T (in_range w)
  range_test r =
      and_both (ltb w.win_type 2) _ (all_mem (λ t. ltb t 2) {l = win_types} tt r.type)
      (and_both (is_wind w.round_wind) _ (all_mem is_wind {l = winds} tt r.round)
      (and_both (is_wind w.seat_wind) _ (all_mem is_wind {l = winds} tt r.seat) (all_mem is_setting {l = settings} tt r.setting)))

-- ---- the indicators, as a test and as a fact
indicated : (i : Indicators) → T (are_indicators i) → Indicated i
indicated i h =
    record {
      few = leb→le i.count 10 (and_left (leb i.count 10) _ h);
      tiles = λ t m. ltb→lt t 34 (all_mem (λ t. ltb t 34) (and_right (leb i.count 10) (all (λ t. ltb t 34) (shown i)) h) m);
    }

indicated_test : (i : Indicators) → Indicated i → T (are_indicators i)
indicated_test i r =
    and_both (leb i.count 10) _ (true→t _ (le-leb i.count 10 r.few))
    (all_intro (λ t. ltb t 34) (shown i) (λ t m. true→t _ (lt-ltb t 34 (r.tiles t m))))

module _ (g : Game) (w : GameContext) where
  abbrev d : Indicators
  d = w.dora_indicators

  abbrev u : Indicators
  u = w.ura_dora_indicators

  none_shown_holds : T (none_shown w) → (d.count ≡ 0) × (u.count ≡ 0)
  none_shown_holds h = (eqb→eq d.count 0 (and_left (eqb d.count 0) _ h), eqb→eq u.count 0 (and_right (eqb d.count 0) (eqb u.count 0) h))

  pub both_indicated : T (indicated_in g w) → BothIndicated g w
  both_indicated t =
      let h = and_left (indicators_in w) _ t in
      record {
        dora = indicated d (and_left (are_indicators d) (are_indicators u) h);
        ura = indicated u (and_right (are_indicators d) (are_indicators u) h);
        none = λ e.
            or_elim g.dora _ (and_right (indicators_in w) _ t) (λ y. absurd (subst T e y)) none_shown_holds;
      }

  shown_test : (b : Bool) → (b ≡ false → (d.count ≡ 0) × (u.count ≡ 0)) → T (b || none_shown w)
  shown_test true f = tt
  shown_test false f =
      and_both (eqb d.count 0) (eqb u.count 0) (true→t _ (eq-eqb d.count 0 (f refl).0)) (true→t _ (eq-eqb u.count 0 (f refl).1))

  pub indicators_test : BothIndicated g w → T (indicated_in g w)
  indicators_test r =
      and_both (indicators_in w) (g.dora || none_shown w)
      (and_both (are_indicators d) (are_indicators u) (indicated_test d r.dora) (indicated_test u r.ura))
      (shown_test g.dora r.none)

-- ---- two tests together
both_true : (a b : Bool) → (a && b) ≡ true → (a ≡ true) × (b ≡ true)
both_true true b e = (refl, e)
both_true false b e = absurd (subst T (sym e) tt)

both_false : (a b : Bool) → (a && b) ≡ false → a ≡ true → b ≡ true → ⊥
both_false a b e f g = subst T e (and_both a b (true→t a f) (true→t b g))

-- ---- the checks of a win
module _ (g : Game) (cs : List ℕ) (k : Calls) (w : GameContext) where
  context_answers : hand_check_in g cs k ≡ 0 → (n : ℕ) → n ≡ win_check_in g cs k w → Answers (context_checks g cs w) n
  unfolding win_check_in
  context_answers z n e =
      next_check _ _ _ (e ∙ or_second (hand_check_in g cs k) _ z) (λ h. in_range_holds w (true→t (in_range w) h)) (λ h r. subst T h (range_test w r))
      (λ range e. next_check _ _ _ e (λ h. both_indicated g w (true→t (indicated_in g w) h)) (λ h r. subst T h (indicators_test g w r))
      (λ shown e. next_check _ _ _ e (λ h. let p = both_true (ltb w.winning_tile 34) _ h in record { tile = omega (arith, ltb-true); there = omega (arith, ltb-true) })
      (λ h i. both_false (ltb w.winning_tile 34) _ h (lt-ltb _ _ i.tile) (lt-ltb _ _ i.there)) (λ tile e. e)))

  -- n is answered exactly where the checks before it pass and this one fails; 0 where all pass
  pub win_refusals : (n : ℕ) → (win_check_in g cs k w ≡ n) ↔ Answers (win_checks g cs k w) n
  win_refusals =
      exactly (win_checks g cs k w) (win_check_in g cs k w)
      (then_checks (hand_checks g cs k) (context_checks g cs w) tt (hand_check_in g cs k) (win_check_in g cs k w) ((hand_refusals cs k (hand_check_in g cs k)).0 refl)
      (λ z. sym (refused_hand g cs k w (hand_check_in g cs k) refl z)) (λ z. context_answers z (win_check_in g cs k w) refl))
