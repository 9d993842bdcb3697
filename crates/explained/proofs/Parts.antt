-- Laws of the parts of fu, for every win and every reading. They add up to the fu of the reading and so to that of its score; each part of a
-- pair and four melds is what its name says, in a pinfu too; and the melds' part is the sum of the melds' fu. Assumes nothing.
use mathlib.Core.Path.{◌≡◌, refl, sym, ◌∙◌}
use mathlib.Core.Bool.{Bool, true, false, not, cond}
use mathlib.Core.List.{List, [], ◌∷◌, map}
use Prim.Native.Nat.{ℕ, ◌+◌, ◌<◌, ◌≤◌}
use native.Mathlib.Omega.{arith}
use lib.Dec.{T, eqb, eqb→eq, lit<, lit≤}
use lib.ListN.{length, get_or, length-map}
use Rattle.lists.specs.Fold.{all, sum, total}
use Rattle.lists.proofs.Finite.{and_left, and_right, T→true, true→t}
use Rattle.meld.specs.declared.Meld.{Meld}
use Rattle.meld.specs.Meld.{is_sequence}
use Rattle.context.specs.declared.GameContext.{GameContext}
use Rattle.context.specs.Context.{is_tsumo}
use Rattle.hand.specs.Reading.{Reading, pairs, orphans, standard}
use Rattle.tile_yaku.specs.declared.TileYaku.{TileYaku}
use Rattle.structure.proofs.Short.{Short}
use Rattle.wait.specs.Wait.{weight, pinfu}
use Rattle.wait.specs.Concealed.{spared}
use Rattle.fu.specs.Fu.{meld_fu, pair_fu, wait_fu, win_fu, round_up_to10, at_least30, pinfu_fu, standard_fu, fu}
use Rattle.fu.proofs.DoubleWind.{no_pair_fu}
use Rattle.dora.specs.declared.DoraCount.{DoraCount}
use Rattle.reading_score.specs.Score.{result, score_of}
use Rattle.explained.specs.declared.breakdown.FuBreakdown.{FuBreakdown}
use Rattle.explained.specs.Breakdown.{menzen_ron_fu, tsumo_fu, pinfu_parts, melds_fu, unrounded, counted_parts, breakdown, meld_fu_at, parts_sum}
use Rattle.explained.proofs.Rounded.{rounding_reaches, rounding_closed, rounding_open}

-- ---- the parts add up
win_parts : (by_tsumo opened : Bool) → menzen_ron_fu by_tsumo opened + tsumo_fu by_tsumo ≡ win_fu by_tsumo opened
win_parts true opened = refl
win_parts false true = refl
win_parts false false = refl

pinfu_adds_up : (by_tsumo : Bool) → parts_sum (pinfu_parts by_tsumo) ≡ pinfu_fu by_tsumo
pinfu_adds_up true = refl
pinfu_adds_up false = refl

module _ (w : GameContext) (opened : Bool) (p : ℕ) (ms : List Meld) where
  counted_adds_up : parts_sum (counted_parts w opened p ms) ≡ at_least30 opened (round_up_to10 (unrounded w opened p ms))
  unfolding counted_parts
  counted_adds_up =
      let won = win_parts (is_tsumo w) opened in
      let up = rounding_reaches opened (unrounded w opened p ms) in
      omega arith

  standard_adds_up :
      (flat : Bool)
      → parts_sum (cond flat (pinfu_parts (is_tsumo w)) (counted_parts w opened p ms))
      ≡ cond flat (pinfu_fu (is_tsumo w)) (at_least30 opened (round_up_to10 (unrounded w opened p ms)))
  standard_adds_up true = pinfu_adds_up (is_tsumo w)
  standard_adds_up false = counted_adds_up

pub adds_up : (w : GameContext) (opened : Bool) (r : Reading) → parts_sum (breakdown w opened r) ≡ fu w opened r
unfolding breakdown fu standard_fu
adds_up w opened (pairs ps) = refl
adds_up w opened (orphans p) = refl
adds_up w opened (standard p ms) = standard_adds_up w opened p ms (pinfu w opened (standard p ms))

-- so to the fu that is answered of a reading
pub answered_fu : (w : GameContext) (opened : Bool) (s : TileYaku) (d : DoraCount) (r : Reading) → parts_sum (breakdown w opened r) ≡ (score_of w opened s d r).fu
unfolding score_of result
answered_fu w opened s d r = adds_up w opened r

-- ---- what is left out of a pinfu's parts is nothing
runs_none : (w : GameContext) (kept : Bool) (ms : List Meld) → T (all is_sequence ms) → sum (meld_fu w kept) ms ≡ 0
runs_none w kept [] t = refl
runs_none w kept (m ∷ ms) t =
    let rest = runs_none w kept ms (and_right (is_sequence m) (all is_sequence ms) t) in
    rw (T→true (is_sequence m) (and_left (is_sequence m) (all is_sequence ms) t)) (omega arith)

closed_ron : (by_tsumo opened : Bool) → T (not opened) → cond by_tsumo 0 10 ≡ menzen_ron_fu by_tsumo opened
closed_ron true opened t = refl
closed_ron false true t = absurd t
closed_ron false false t = refl

module _ (w : GameContext) (opened : Bool) (p : ℕ) (ms : List Meld) (h : pinfu w opened (standard p ms) ≡ true) where
  is_closed : T (not opened)
  unfolding pinfu
  is_closed = and_left (not opened) _ (true→t _ h)

  no_melds_fu : 0 ≡ melds_fu w ms
  unfolding pinfu
  no_melds_fu = sym (runs_none w (spared w ms) ms (and_left (all is_sequence ms) _ (and_right (not opened) _ (true→t _ h))))

  pair_without_fu : 0 ≡ pair_fu w p
  unfolding pinfu
  pair_without_fu =
      sym (no_pair_fu w p
      (eqb→eq (weight w p) 0 (and_left (eqb (weight w p) 0) _ (and_right (all is_sequence ms) _ (and_right (not opened) _ (true→t _ h))))))

-- ---- each part of a pair and four melds
module _ (w : GameContext) (opened : Bool) (p : ℕ) (ms : List Meld) where
  abbrev parts : Bool → FuBreakdown
  parts flat = cond flat (pinfu_parts (is_tsumo w)) (counted_parts w opened p ms)

  pub base_part : (breakdown w opened (standard p ms)).base ≡ 20
  unfolding breakdown counted_parts
  base_part = go (pinfu w opened (standard p ms))
    where
      go : (flat : Bool) → (parts flat).base ≡ 20
      go true = refl
      go false = refl

  pub menzen_ron_part : (breakdown w opened (standard p ms)).menzen_ron ≡ menzen_ron_fu (is_tsumo w) opened
  unfolding breakdown counted_parts
  menzen_ron_part = go (pinfu w opened (standard p ms)) refl
    where
      go : (flat : Bool) → pinfu w opened (standard p ms) ≡ flat → (parts flat).menzen_ron ≡ menzen_ron_fu (is_tsumo w) opened
      go true e = closed_ron (is_tsumo w) opened (is_closed w opened p ms e)
      go false e = refl

  pub melds_part : (breakdown w opened (standard p ms)).melds ≡ melds_fu w ms
  unfolding breakdown counted_parts
  melds_part = go (pinfu w opened (standard p ms)) refl
    where
      go : (flat : Bool) → pinfu w opened (standard p ms) ≡ flat → (parts flat).melds ≡ melds_fu w ms
      go true e = no_melds_fu w opened p ms e
      go false e = refl

  pub pair_part : (breakdown w opened (standard p ms)).pair ≡ pair_fu w p
  unfolding breakdown counted_parts
  pair_part = go (pinfu w opened (standard p ms)) refl
    where
      go : (flat : Bool) → pinfu w opened (standard p ms) ≡ flat → (parts flat).pair ≡ pair_fu w p
      go true e = pair_without_fu w opened p ms e
      go false e = refl

  -- 2 for a tsumo and 2 for a close wait, but none for either in a pinfu
  pub tsumo_part : (breakdown w opened (standard p ms)).tsumo ≡ cond (pinfu w opened (standard p ms)) 0 (tsumo_fu (is_tsumo w))
  unfolding breakdown counted_parts
  tsumo_part = go (pinfu w opened (standard p ms))
    where
      go : (flat : Bool) → (parts flat).tsumo ≡ cond flat 0 (tsumo_fu (is_tsumo w))
      go true = refl
      go false = refl

  pub wait_part : (breakdown w opened (standard p ms)).wait ≡ cond (pinfu w opened (standard p ms)) 0 (wait_fu w p ms)
  unfolding breakdown counted_parts
  wait_part = go (pinfu w opened (standard p ms))
    where
      go : (flat : Bool) → (parts flat).wait ≡ cond flat 0 (wait_fu w p ms)
      go true = refl
      go false = refl

-- ---- the melds' part is the sum of the fu of the melds at the places 0 to 3
four_places : (l : List ℕ) → length l ≤ 4 → total l ≡ get_or l 0 0 + (get_or l 1 0 + (get_or l 2 0 + (get_or l 3 0 + 0)))
four_places [] h = refl
four_places (a ∷ []) h = refl
four_places (a ∷ b ∷ []) h = refl
four_places (a ∷ b ∷ c ∷ []) h = refl
four_places (a ∷ b ∷ c ∷ d ∷ []) h = refl
four_places (a ∷ b ∷ c ∷ d ∷ e ∷ l) h = absurd (omega arith)

pub melds_by_place :
    (w : GameContext) (opened : Bool) (r : Reading) → Short r
    → (breakdown w opened r).melds ≡ sum (λ i. meld_fu_at w i r) (0 ∷ 1 ∷ 2 ∷ 3 ∷ [])
unfolding breakdown meld_fu_at
melds_by_place w opened (pairs ps) h = refl
melds_by_place w opened (orphans p) h = refl
melds_by_place w opened (standard p ms) h =
    melds_part w opened p ms ∙ four_places (map (meld_fu w (spared w ms)) ms) (rw length-map h)

-- ---- rounding adds less than 10 to a closed hand, and at most 10 to an open one
pub closed_rounding : (w : GameContext) (r : Reading) → (breakdown w false r).rounding < 10
unfolding breakdown counted_parts
closed_rounding w (pairs ps) = lit< tt
closed_rounding w (orphans p) = lit< tt
closed_rounding w (standard p ms) = go (pinfu w false (standard p ms))
  where
    go : (flat : Bool) → (parts w false p ms flat).rounding < 10
    go true = lit< tt
    go false = rounding_closed (unrounded w false p ms)

pub open_rounding : (w : GameContext) (r : Reading) → (breakdown w true r).rounding ≤ 10
unfolding breakdown counted_parts
open_rounding w (pairs ps) = lit≤ tt
open_rounding w (orphans p) = lit≤ tt
open_rounding w (standard p ms) = go (pinfu w true (standard p ms))
  where
    go : (flat : Bool) → (parts w true p ms flat).rounding ≤ 10
    go true = lit≤ tt
    go false = rounding_open (unrounded w true p ms) (omega arith)
