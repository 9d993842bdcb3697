-- Pinfu leaves out the yaku of triplets: it has sequences only. Assumes nothing.
use mathlib.Core.Path.{◌≡◌, refl, ap, ◌∙◌}
use mathlib.Core.Bool.{Bool, true, false, not, or-true, and-false}
use mathlib.Core.List.{List, [], ◌∷◌, map}
use Prim.Native.Nat.{ℕ, ◌*◌}
use native.Mathlib.Nat.{zero-mul}
use native.Mathlib.Omega.{arith}
use lib.Dec.{T, eqb, leb, ltb, leb→le, ltb→lt}
use Rattle.lists.specs.Fold.{all, any, count}
use Rattle.lists.proofs.Finite.{and_left, and_right, true→t, ¬T→false}
use Rattle.tile.specs.Tile.{is_dragon}
use Rattle.meld.specs.declared.Meld.{Meld}
use Rattle.meld.specs.Meld.{is_sequence, is_triplet_or_kan}
use Rattle.context.specs.declared.GameContext.{GameContext}
use Rattle.hand.specs.Reading.{Reading, pairs, orphans, standard}
use Rattle.wait.specs.Wait.{closed_run, two_sided, weight, pinfu}
use Rattle.tile_yaku.specs.declared.TileYaku.{TileYaku}
use Rattle.set_yaku.specs.Sets.{toitoi}
use Rattle.honor_yaku.specs.Honors.{dragons, yakuhai, shousangen}
use Rattle.meld_yaku.specs.Melds.{set_of}
use Rattle.meld_yaku.proofs.Few.{count_fewer}
use Rattle.set_yaku.proofs.Few.{no_kans, no_sanankou}
use Rattle.yaku.specs.declared.names.Yaku.{Yaku}
use Rattle.yaku.specs.declared.names.Yaku.TheVariants.{Pinfu, Toitoi, SanAnkou, SanKantsu, Shousangen}
use Rattle.yaku.specs.Tally.{one_han, more_han, ordinary, tallies}
use Rattle.yaku.proofs.HanTable.{yakuhais}
use Rattle.yaku.proofs.Excludes.{apart, by_answer, by_yakuman}

-- the yaku of triplets that are no yakuman
abbrev pub of_triplets : List Yaku
of_triplets = Toitoi ∷ SanAnkou ∷ SanKantsu ∷ Shousangen ∷ yakuhais

-- ---- sequences only
run_no_set : (m : Meld) → T (is_sequence m) → is_triplet_or_kan m ≡ false
run_no_set m h =
    ¬T→false (is_triplet_or_kan m)
    (λ i. let low = ltb→lt m.kind 2 h in let high = leb→le 2 m.kind (and_left (leb 2 m.kind) (ltb m.kind 7) i) in omega arith)

no_sets_holds : (ms : List Meld) → T (all is_sequence ms) → count is_triplet_or_kan ms ≡ 0
no_sets_holds [] h = refl
no_sets_holds (m ∷ ms) h =
    let rest = no_sets_holds ms (and_right (is_sequence m) (all is_sequence ms) h) in
    rw (run_no_set m (and_left (is_sequence m) _ h)) (omega arith)

module _ (ms : List Meld) (runs : T (all is_sequence ms)) where
  none_of : (q : ℕ → Bool) → count (set_of q) ms ≡ 0
  none_of q =
      let few = count_fewer (set_of q) is_triplet_or_kan (λ m. and_left (is_triplet_or_kan m) _) ms in
      let zero = no_sets_holds ms runs in
      omega arith

  few : leb 3 (count is_triplet_or_kan ms) ≡ false
  few = ap (leb 3) (no_sets_holds ms runs)

  no_yakuhai_holds : (w : GameContext) (t : ℕ) → yakuhai w ms t ≡ 0
  unfolding yakuhai
  no_yakuhai_holds w t = ap (λ (n : ℕ). n * weight w t) (none_of (eqb t)) ∙ zero-mul (weight w t)

  no_shousangen : (p : ℕ) → shousangen p ms ≡ false
  unfolding shousangen dragons
  no_shousangen p = simp (none_of is_dragon, and-false)

no_toitoi : (q : Meld → Bool) (ms : List Meld) → T (all is_sequence ms) → T (any q ms) → toitoi ms ≡ false
unfolding toitoi
no_toitoi q [] runs some = absurd some
no_toitoi q (m ∷ ms) runs some = simp (run_no_set m (and_left (is_sequence m) _ runs))

-- ---- what pinfu says of the melds
module _ (w : GameContext) (opened : Bool) (p : ℕ) (ms : List Meld) (is-pinfu : pinfu w opened (standard p ms) ≡ true) where
  runs_only : T (all is_sequence ms)
  unfolding pinfu
  runs_only = and_left (all is_sequence ms) _ (and_right (not opened) _ (true→t _ is-pinfu))

  one_waits : T (any (closed_run two_sided w.winning_tile) ms)
  unfolding pinfu
  one_waits = and_right (eqb (weight w p) 0) _ (and_right (all is_sequence ms) _ (and_right (not opened) _ (true→t _ is-pinfu)))

pub pinfu_or_triplets :
    (w : GameContext) (opened : Bool) (s : TileYaku) (r : Reading) → T (all (λ y. apart Pinfu y (tallies w opened s r)) of_triplets)
unfolding ordinary one_han more_han
pinfu_or_triplets w opened s (pairs ps) = by_yakuman w opened s (pairs ps) (λ ts. T (all (λ y. apart Pinfu y ts) of_triplets)) tt (simp or-true tt)
pinfu_or_triplets w opened s (orphans p) = by_yakuman w opened s (orphans p) (λ ts. T (all (λ y. apart Pinfu y ts) of_triplets)) tt (simp or-true tt)
pinfu_or_triplets w opened s (standard p ms) =
    by_yakuman w opened s (standard p ms) (λ ts. T (all (λ y. apart Pinfu y ts) of_triplets)) tt
    (by_answer (pinfu w opened (standard p ms))
    (λ e.
    let runs = runs_only w opened p ms e in
    simp (
      no_toitoi _ ms runs (one_waits w opened p ms e),
      no_sanankou ms (few ms runs) w,
      no_kans ms (few ms runs) 3 (omega arith),
      no_shousangen ms runs p,
      no_yakuhai_holds ms runs w,
      or-true,
    ) tt)
    (λ e. simp e tt))
