-- Waits and yaku tell the same of thirteen orphans, so that a panel that shows both does not contradict itself. Assumes nothing.
use mathlib.Core.Path.{◌≡◌, refl}
use mathlib.Core.Bool.{Bool}
use mathlib.Core.List.{List}
use Prim.Native.Nat.{ℕ}
use Rattle.context.specs.declared.GameContext.{GameContext}
use Rattle.hand.specs.Reading.{Reading, pairs, orphans, standard}
use Rattle.wait.specs.Wait.{waits}
use Rattle.wait.proofs.Doubled.{tanki_in, kokushi13_in}
use Rattle.tile_yaku.specs.declared.TileYaku.{TileYaku}
use Rattle.yaku.specs.declared.names.Yaku.TheVariants.{KokushiMusou, Kokushi13Wait}
use Rattle.yaku.specs.Names.{tallied}
use Rattle.yaku.specs.Tally.{one_han, more_han, ordinary, tallies}
use Rattle.yaku.proofs.Excludes.{by_yakuman}

module _ (w : GameContext) (opened : Bool) (s : TileYaku) where
  -- the wait Kokushi13 is tallied exactly where the yaku Kokushi13Wait is; elsewhere than in thirteen orphans neither is
  pub kokushi13_agrees : (r : Reading) → kokushi13_in (waits w.winning_tile r) ≡ tallied Kokushi13Wait (tallies w opened s r)
  unfolding waits ordinary one_han more_han
  kokushi13_agrees (pairs ps) = by_yakuman w opened s (pairs ps) (λ (ts : List ℕ). 0 ≡ tallied Kokushi13Wait ts) refl refl
  kokushi13_agrees (orphans p) =
      by_yakuman w opened s (orphans p) (λ (ts : List ℕ). kokushi13_in (waits w.winning_tile (orphans p)) ≡ tallied Kokushi13Wait ts) refl refl
  kokushi13_agrees (standard p ms) = by_yakuman w opened s (standard p ms) (λ (ts : List ℕ). 0 ≡ tallied Kokushi13Wait ts) refl refl

  -- and of thirteen orphans the wait Tanki exactly where the yaku KokushiMusou is
  pub tanki_agrees : (p : ℕ) → tanki_in (waits w.winning_tile (orphans p)) ≡ tallied KokushiMusou (tallies w opened s (orphans p))
  unfolding waits ordinary one_han more_han
  tanki_agrees p =
      by_yakuman w opened s (orphans p) (λ (ts : List ℕ). tanki_in (waits w.winning_tile (orphans p)) ≡ tallied KokushiMusou ts) refl refl
