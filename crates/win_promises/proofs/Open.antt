-- Open hands: each reading of a hand in which something was called from another player has a meld that was, so a yaku that needs a
-- closed hand never counts there. Assumes nothing.
use mathlib.Core.Path.{◌≡◌, sym, ap, subst, ◌∙◌}
use mathlib.Core.Bool.{Bool, true}
use mathlib.Core.List.{List, [], ◌∷◌, ◌++◌, Memᴰ}
use Prim.Native.Nat.{ℕ}
use lib.Dec.{T}
use lib.ListN.{length}
use Rattle.lists.specs.Fold.{any}
use Rattle.lists.proofs.Finite.{or_elim, or_left, or_right, true→t}
use Rattle.lists.proofs.Members.{all_append}
use Rattle.lists.proofs.Permuted.{map_perm, some_perm}
use Rattle.meld.specs.declared.Meld.{Meld}
use Rattle.meld.specs.Meld.{is_meld, is_open}
use Rattle.meld.proofs.Melds.{closed_melds, sorted_perm}
use Rattle.rules.specs.Rules.{Game}
use Rattle.context.specs.declared.GameContext.{GameContext}
use Rattle.hand.specs.Counts.{held}
use Rattle.hand.specs.Reading.{Reading, pairs, orphans, standard, Admits}
use Rattle.yaku.specs.declared.names.Yaku.{Yaku}
use Rattle.yaku.specs.Names.{han_open, tallied}
use Rattle.yaku.proofs.Closed.{is_open_reading, needs_closed}
use Rattle.reading_score.specs.Score.{result, score_of}
use Rattle.checks.specs.declared.Calls.{Calls}
use Rattle.checks.specs.Checks.{called, hand_check_in}
use Rattle.checks.proofs.Passed.{passes_four}
use Rattle.promises.proofs.Listing.{admitted}
use Rattle.unit.specs.Listing.{hand_readings}
use Rattle.unit.proofs.Passes.{melds_called}
use Rattle.win.specs.Win.{win_check_in, is_opened, tiles_together, score_in}
use Rattle.win.proofs.Passed.{checked}
use Rattle.win.proofs.Readings.{listed_short}

any_first : (p : Meld → Bool) (l m : List Meld) → T (any p l) → T (any p (l ++ m))
any_first p [] m t = absurd t
any_first p (a ∷ l) m t =
    or_elim (p a) (any p l) t (or_left (p a) (any p (l ++ m))) (λ u. or_right (p a) (any p (l ++ m)) (any_first p l m u))

-- ---- a win that passes the checks of a game; the four melds of the calls are four (an array of four in the code)
module _ (g : Game) (cs : List ℕ) (k : Calls) (w : GameContext) (four : length k.melds ≡ 4) (passes : win_check_in g cs k w ≡ 0) (opened : is_opened k ≡ true) where
  hand_passes : hand_check_in g cs k ≡ 0
  hand_passes = (checked cs k w passes).hand

  nothing_called_holds : called k ≡ [] → ⊥
  nothing_called_holds e = subst T (sym opened ∙ ap (any is_open) e) tt

  open_admitted : (r : Reading) → Admits (held cs) (called k) r → T (is_open_reading r)
  open_admitted (pairs ps) a = absurd (nothing_called_holds a.uncalled)
  open_admitted (orphans p) a = absurd (nothing_called_holds a.uncalled)
  open_admitted (standard p ms) a =
      let melds = all_append is_meld (called k) a.hand (melds_called cs k (passes_four g cs k hand_passes)) (closed_melds a.hand a.closed) in
      let same : any is_open ms ≡ any is_open (called k ++ a.hand) =
      ap (any is_open) a.whole ∙ some_perm (map_perm is_open (sorted_perm (called k ++ a.hand) melds)) in
      rw same (any_first is_open (called k) a.hand (true→t _ opened))

  pub open_reading : (r : Reading) → Memᴰ r (hand_readings cs k) → T (is_open_reading r)
  open_reading r i = open_admitted r (admitted g cs k four hand_passes r i)

  -- a yaku that needs a closed hand by the table of han
  pub needs_closed_hand : (y : Yaku) → han_open y ≡ 0 → (r : Reading) → Memᴰ r (hand_readings cs k) → tallied y (score_in cs k w r).tallies ≡ 0
  unfolding score_in score_of result
  needs_closed_hand y z r i =
      rw opened (needs_closed w (tiles_together cs k w) y z r (open_reading r i) (listed_short cs k four (passes_four g cs k hand_passes) r i))
