-- Without a first draw, rare tiles, thirteen orphans, and three triplets or kans there is no yakuman, and all their tallies are 0.
-- Assumes nothing.
use mathlib.Core.Path.{◌≡◌, refl, sym, subst, ap, ◌∙◌}
use mathlib.Core.Bool.{Bool, true, false, ◌&&◌, ◌||◌, not}
use mathlib.Core.List.{List, [], ◌∷◌, map}
use Prim.Native.Nat.{ℕ}
use lib.Dec.{T, leb, lit≤}
use Rattle.lists.specs.Fold.{any, count, one}
use Rattle.meld.specs.declared.Meld.{Meld}
use Rattle.meld.specs.Meld.{is_triplet_or_kan}
use Rattle.context.specs.declared.GameContext.{GameContext}
use Rattle.hand.specs.Reading.{Reading, pairs, orphans, standard}
use Rattle.tile_yaku.specs.declared.TileYaku.{TileYaku}
use Rattle.meld_yaku.specs.Standard.{of_standard}
use Rattle.set_yaku.specs.Sets.{suu_kantsu}
use Rattle.set_yaku.proofs.Few.{no_kans, no_suuankou}
use Rattle.honor_yaku.proofs.Few.{no_daisangen, no_shousuushii, no_daisuushii}
use Rattle.yaku.specs.Tally.{orphans_won, yakuman, is_yakuman}

pub neither : (a b : Bool) → (a || b) ≡ false → (a ≡ false) × (b ≡ false)
neither false b e = (refl, e)
neither true b e = absurd (subst T e tt)

both_no : (a b c : Bool) → (a && b) ≡ false → (a && (b && c)) ≡ false
both_no false b c e = refl
both_no true false c e = refl
both_no true true c e = absurd (subst T e tt)

no_suukantsu : (ms : List Meld) → leb 3 (count is_triplet_or_kan ms) ≡ false → suu_kantsu ms ≡ false
unfolding suu_kantsu
no_suukantsu ms few = no_kans ms few 4 (lit≤ tt)

-- ---- no first draw, no rare tiles
module _
    (w : GameContext) (opened : Bool) (s : TileYaku) (tenhou : w.is_tenhou ≡ false) (chiihou : w.is_chiihou ≡ false)
    (tsuuiisou : s.tsuuiisou ≡ false) (chinroutou : s.chinroutou ≡ false) (ryuuiisou : s.ryuuiisou ≡ false)
    (gates : (not opened && s.nine_gates) ≡ false)
  where
    pub no_yakuman_holds :
        (r : Reading) → orphans_won w true r ≡ false → orphans_won w false r ≡ false
        → of_standard (λ p ms. leb 3 (count is_triplet_or_kan ms)) r ≡ false → is_yakuman w opened s r ≡ false
    unfolding is_yakuman
    no_yakuman_holds (pairs ps) on beside few = simp (tenhou, chiihou, tsuuiisou, chinroutou)
    no_yakuman_holds (orphans p) on beside few = absurd (subst T (sym (ap not on) ∙ beside) tt)
    no_yakuman_holds (standard p ms) on beside few = simp (
      tenhou,
      chiihou,
      tsuuiisou,
      chinroutou,
      ryuuiisou,
      both_no (not opened) s.nine_gates (not s.pure_wait) gates,
      both_no (not opened) s.nine_gates s.pure_wait gates,
      no_suuankou ms few w,
      no_daisangen ms few,
      no_shousuushii ms few p,
      no_daisuushii ms few,
      no_suukantsu ms few,
    )

-- ---- no yakuman: each tally is 0
none_found : (bs : List Bool) → any (λ b. b) bs ≡ false → map one bs ≡ map (λ b. 0) bs
none_found [] e = refl
none_found (true ∷ bs) e = absurd (subst T e tt)
none_found (false ∷ bs) e = ap (λ (l : List ℕ). 0 ∷ l) (none_found bs e)

pub all_zero : (w : GameContext) (opened : Bool) (s : TileYaku) (r : Reading) → is_yakuman w opened s r ≡ false → map (λ b. 0) (yakuman w opened s r) ≡ map one (yakuman w opened s r)
unfolding is_yakuman
all_zero w opened s r e = sym (none_found (yakuman w opened s r) e)
