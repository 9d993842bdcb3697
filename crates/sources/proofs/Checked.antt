-- Calls that differ in nothing but their sources, and pass check 3 of a game: hand and calls hold the same tiles together, are open alike, and every check of
-- the hand and of the win answers the same number. Assumes nothing.
use mathlib.Core.Path.{◌≡◌, refl, sym, ap, ◌∙◌}
use mathlib.Core.List.{List, map}
use Prim.Native.Nat.{ℕ, ◌+◌, ◌*◌}
use lib.Dec.{T, eqb, leb}
use lib.ListN.{length}
use Rattle.lists.specs.Fold.{all, any, sum}
use Rattle.lists.proofs.Finite.{and_left, and_both, T→true, true→t}
use Rattle.lists.proofs.Members.{all_mem, all_intro}
use Rattle.tile.specs.Tile.{tiles}
use Rattle.rules.specs.Rules.{Game, four, most}
use Rattle.meld.specs.declared.Meld.{Meld}
use Rattle.meld.specs.Meld.{is_call, is_meld, is_open, uses, but_source}
use Rattle.meld.proofs.Melds.{meld_source}
use Rattle.meld.proofs.Sources.{any_but, sum_but}
use Rattle.context.specs.declared.GameContext.{GameContext}
use Rattle.context.specs.Context.{in_range}
use Rattle.hand.specs.Counts.{held}
use Rattle.checks.specs.declared.Calls.{Calls}
use Rattle.checks.specs.Checks.{called, together, is_played, is_call_in, check, hand_check_in}
use Rattle.checks.proofs.Played.{played_four, calls_made}
use Rattle.win.specs.Win.{is_opened, or_then, in_hand, indicated_in, win_check_in}
use Rattle.sources.specs.Sources.{SameButSources}

-- calls are melds
pub calls_melds : (ms : List Meld) → T (all is_call ms) → T (all is_meld ms)
calls_melds ms v = all_intro is_meld ms (λ m i. and_left (is_meld m) _ (all_mem is_call v i))

-- what is called in a game is a meld, and with four players each call can be called
pub called_melds : (g : Game) (ms : List Meld) → T (all (is_call_in g) ms) → T (all is_meld ms)
called_melds g ms v = calls_melds ms (true→t _ (calls_made g ms (T→true _ v)))

pub calls_four_holds : (ms : List Meld) → T (all is_call ms) → T (all (is_call_in four) ms)
calls_four_holds ms v =
    all_intro (is_call_in four) ms
    (λ m i.
    let c = all_mem is_call v i in
    and_both (is_call m) (is_played four m) c (true→t _ (played_four m (meld_source m (and_left (is_meld m) _ c)))))

-- what is the same of melds with and without their sources is the same of both calls
pub of_both :
    {B : Type 0} (f : List Meld → B) → ((ms : List Meld) → f (map but_source ms) ≡ f ms) → {k j : Calls} → SameButSources k j
    → f (called j) ≡ f (called k)
of_both f blind {k} {j} s = sym (blind (called j)) ∙ ap f s.calls ∙ blind (called k)

module _ (cs : List ℕ) {k j : Calls} (s : SameButSources k j) where
  -- the tiles of hand and calls together
  pub same_together : together cs (called j) ≡ together cs (called k)
  same_together = of_both (together cs) (λ ms i t. held cs t + sum_but (λ m. uses m t) (λ m. refl) ms i) s

  -- the hand is open where the other is
  pub same_opened : is_opened j ≡ is_opened k
  same_opened = of_both (any is_open) (any_but is_open (λ m. refl)) s

  module _ (g : Game) (calls : T (all (is_call_in g) (called k))) (calls' : T (all (is_call_in g) (called j))) where
    -- checks 1 to 6 of the game
    pub same_check : hand_check_in g cs j ≡ hand_check_in g cs k
    unfolding hand_check_in
    same_check =
        let third : all (is_call_in g) (called j) ≡ all (is_call_in g) (called k) = T→true _ calls' ∙ sym (T→true _ calls) in
        λ i.
        check (eqb (length cs) 34) 1
        (check (leb (s.many i) 4) 2
        (check (third i) 3
        (check (all (λ t. leb (held cs t) (most g t)) tiles) 4
        (check (all (λ t. leb (same_together i t) 4) tiles) 5
        (check (eqb (sum (held cs) tiles + 3 * s.many i) 14) 6 0)))))

    -- and those of the win
    pub same_win_check_holds : (w : GameContext) → win_check_in g cs j w ≡ win_check_in g cs k w
    unfolding win_check_in
    same_win_check_holds w =
        ap
        (λ (n : ℕ). or_then n (check (in_range w) 8 (check (indicated_in g w) 14 (check (in_hand cs w.winning_tile) 9 0))))
        same_check
