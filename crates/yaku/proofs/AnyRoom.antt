-- Neither what a room gives for the pair of the double wind nor an indicator changes a tally or the han of the yaku. Assumes nothing.
use mathlib.Core.Path.{◌≡◌, refl, ap}
use mathlib.Core.Bool.{Bool}
use Prim.Native.Nat.{ℕ}
use Rattle.context.specs.declared.Indicators.{Indicators}
use Rattle.context.specs.declared.GameContext.{GameContext}
use Rattle.context.specs.Context.{elsewhere}
use Rattle.hand.specs.Reading.{Reading, pairs, orphans, standard}
use Rattle.wait.specs.Wait.{pinfu}
use Rattle.set_yaku.specs.Sets.{san_ankou, suuankou}
use Rattle.honor_yaku.specs.Honors.{yakuhai}
use Rattle.tile_yaku.specs.declared.TileYaku.{TileYaku}
use Rattle.yaku.specs.Tally.{one_han, more_han, is_yakuman, ordinary, tallies}
use Rattle.yaku.specs.Han.{han_of, dot, han}

module _ (n : ℕ) (d u : Indicators) (w : GameContext) (opened : Bool) (s : TileYaku) where
  pub yakuman_any_room : (r : Reading) → is_yakuman (elsewhere n d u w) opened s r ≡ is_yakuman w opened s r
  unfolding is_yakuman suuankou
  yakuman_any_room (pairs ps) = refl
  yakuman_any_room (orphans p) = refl
  yakuman_any_room (standard p ms) = refl

  pub tallies_any_room : (r : Reading) → tallies (elsewhere n d u w) opened s r ≡ tallies w opened s r
  unfolding tallies is_yakuman ordinary one_han more_han pinfu san_ankou suuankou yakuhai
  tallies_any_room (pairs ps) = refl
  tallies_any_room (orphans p) = refl
  tallies_any_room (standard p ms) = refl

  pub han_any_room : (r : Reading) → han (elsewhere n d u w) opened s r ≡ han w opened s r
  unfolding han
  han_any_room r = ap (dot (han_of opened)) (tallies_any_room r)
