-- Where no meld is a triplet or kan of an honor, each honor is tallied 0; where there are fewer than three triplets and kans, the yakuman
-- of winds and dragons are not there. Assumes nothing.
use mathlib.Core.Path.{◌≡◌, subst, refl, ap, ◌∙◌}
use mathlib.Core.Bool.{Bool, false, ◌&&◌, not}
use mathlib.Core.List.{List}
use Prim.Native.Nat.{ℕ, ◌*◌}
use native.Mathlib.Nat.{zero-mul}
use native.Mathlib.Omega.{arith}
use lib.Dec.{T, eqb, leb, eqb→eq, lit≤}
use Rattle.lists.specs.Fold.{any, count}
use Rattle.lists.proofs.Finite.{and_left, and_right, and_both}
use Rattle.tile.specs.Tile.{is_dragon, is_honor, is_wind}
use Rattle.meld.specs.declared.Meld.{Meld}
use Rattle.meld.specs.Meld.{is_triplet_or_kan}
use Rattle.context.specs.declared.GameContext.{GameContext}
use Rattle.hand.specs.Reading.{Reading, standard}
use Rattle.structure.specs.declared.HandStructure.{HandStructure}
use Rattle.structure.specs.Structure.{reading_of}
use Rattle.structure.proofs.Cases.{NotStandard, otherwise}
use Rattle.wait.specs.Wait.{weight}
use Rattle.meld_yaku.specs.Melds.{set_of}
use Rattle.meld_yaku.proofs.Few.{count_fewer, any_none, too_few}
use Rattle.honor_yaku.specs.declared.Yakuhai.{Yakuhai}
use Rattle.honor_yaku.specs.Honors.{yakuhai, yakuhai_of, dragons, winds, daisangen, shousuushii, daisuushii}

-- ---- no triplet or kan of an honor
honor_set : (t : ℕ) → T (is_honor t) → (m : Meld) → T (set_of (eqb t) m) → T (set_of is_honor m)
honor_set t h m i =
    and_both (is_triplet_or_kan m) (is_honor m.tile) (and_left (is_triplet_or_kan m) (eqb t m.tile) i)
    (subst (λ (u : ℕ). T (is_honor u)) (eqb→eq t m.tile (and_right (is_triplet_or_kan m) (eqb t m.tile) i)) h)

module _ (w : GameContext) (ms : List Meld) (none : any (set_of is_honor) ms ≡ false) where
  no_yakuhai_holds : (t : ℕ) → T (is_honor t) → yakuhai w ms t ≡ 0
  unfolding yakuhai
  no_yakuhai_holds t h =
      let few = count_fewer (set_of (eqb t)) (set_of is_honor) (honor_set t h) ms in
      let zero = any_none (set_of is_honor) ms none in
      let e : count (set_of (eqb t)) ms ≡ 0 = omega arith in
      ap (λ (n : ℕ). n * weight w t) e ∙ zero-mul (weight w t)

-- the tallies of the seven honors, for any reading
abbrev yakuhai_all : GameContext → Reading → Yakuhai
yakuhai_all w r =
    record {
      east = yakuhai_of w r 27;
      south = yakuhai_of w r 28;
      west = yakuhai_of w r 29;
      north = yakuhai_of w r 30;
      white = yakuhai_of w r 31;
      green = yakuhai_of w r 32;
      red = yakuhai_of w r 33;
    }

abbrev no_yakuhai : Yakuhai
no_yakuhai = record { east = 0; south = 0; west = 0; north = 0; white = 0; green = 0; red = 0 }

-- the tallies of seven numbers
abbrev made : ℕ → ℕ → ℕ → ℕ → ℕ → ℕ → ℕ → Yakuhai
made a b c d e f g = record { east = a; south = b; west = c; north = d; white = e; green = f; red = g }

-- what `Yakuhai::default()` gives
pub defaulted :
    (y : Yakuhai)
    → (y.east ≡ 0) × ((y.south ≡ 0) × ((y.west ≡ 0) × ((y.north ≡ 0) × ((y.white ≡ 0) × ((y.green ≡ 0) × (y.red ≡ 0))))))
    → y ≡ no_yakuhai
defaulted y h =
    let e : made y.east y.south y.west y.north y.white y.green y.red ≡ made 0 0 0 0 0 0 0 = cc (h.0, h.1.0, h.1.1.0, h.1.1.1.0, h.1.1.1.1.0, h.1.1.1.1.1.0, h.1.1.1.1.1.1) in
    e

pub no_tallies : (w : GameContext) (p : ℕ) (ms : List Meld) → any (set_of is_honor) ms ≡ false → no_yakuhai ≡ yakuhai_all w (standard p ms)
no_tallies w p ms none =
    let tally = no_yakuhai_holds w ms none in
    cc (tally 27 tt, tally 28 tt, tally 29 tt, tally 30 tt, tally 31 tt, tally 32 tt, tally 33 tt)

-- nor in a reading that is no standard one
pub no_tallies_otherwise : (w : GameContext) (h : HandStructure) → NotStandard h → no_yakuhai ≡ yakuhai_all w (reading_of h)
no_tallies_otherwise w h = otherwise (λ r. no_yakuhai ≡ yakuhai_all w r) (λ ps. refl) (λ p. refl) h

-- ---- fewer than three triplets and kans
module _ (ms : List Meld) (few : leb 3 (count is_triplet_or_kan ms) ≡ false) where
  pub no_daisangen : daisangen ms ≡ false
  unfolding daisangen dragons
  no_daisangen = too_few ms few (set_of is_dragon) (λ m. and_left (is_triplet_or_kan m) _) 3 (lit≤ tt)

  pub no_shousuushii : (p : ℕ) → shousuushii p ms ≡ false
  unfolding shousuushii winds
  no_shousuushii p = ap (λ (b : Bool). b && (is_wind p && not (any (set_of (eqb p)) ms))) (too_few ms few (set_of is_wind) (λ m. and_left (is_triplet_or_kan m) _) 3 (lit≤ tt))

  pub no_daisuushii : daisuushii ms ≡ false
  unfolding daisuushii winds
  no_daisuushii = too_few ms few (set_of is_wind) (λ m. and_left (is_triplet_or_kan m) _) 4 (lit≤ tt)
