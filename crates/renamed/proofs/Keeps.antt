-- What the laws of renamed hands ask of a renaming, and that every renaming has it. Assumes nothing.
use mathlib.Core.Path.{◌≡◌, sym, ap, ◌∙◌, subst}
use mathlib.Core.Bool.{Bool}
use mathlib.Core.List.Memᴰ
use mathlib.Core.List.{List, map, Permᴰ}
use Prim.Native.Nat.{ℕ, ◌<◌}
use lib.Dec.{T, eqb, ltb, ltb→lt, eqb→eq, eqb_refl}
use Rattle.lists.specs.Fold.{all, sum, total}
use Rattle.lists.proofs.Finite.{T-eq}
use Rattle.lists.proofs.Permuted.{Shuffled, all_over, sum_over, map_moved}
use Rattle.lists.proofs.Members.{same_perm, nodup_map_id}
use Rattle.tile.specs.Tile.{is_terminal_or_honor, tiles}
use Rattle.tile.specs.declared.Renaming.{Renaming}
use Rattle.tile.specs.Renaming.{ren, back}
use Rattle.tile.proofs.Tiles.{in_tiles, tile_lt, tiles_nodup}
use Rattle.tile.proofs.Renamings.{ren_lt, ren_back, back_ren, ren_is_terminal_or_honor_holds}
use Rattle.meld.specs.declared.Meld.{Meld}
use Rattle.meld.specs.Meld.{is_hand_meld, is_meld, uses}
use Rattle.meld.specs.Renamed.{ren_meld}
use Rattle.meld.proofs.Renamed.{ren_is_meld_holds, ren_is_hand_meld_holds, ren_uses, back_ren_meld, ren_back_meld}

-- f takes tiles to tiles and g takes melds to melds, in step: a renamed meld holds the renamed tiles. Terminals and honors stay
-- such, and so do the melds that a hand itself can hold
pub record InStep (f : ℕ → ℕ) (g : Meld → Meld) : Type 0 where
  pub tile : (t : ℕ) → t < 34 → f t < 34
  pub outer : (t : ℕ) → t < 34 → is_terminal_or_honor (f t) ≡ is_terminal_or_honor t
  pub meld : (m : Meld) → T (is_meld m) → T (is_meld (g m))
  pub hand : (m : Meld) → T (is_hand_meld m) → T (is_hand_meld (g m))
  pub used : (m : Meld) → T (is_meld m) → (t : ℕ) → t < 34 → uses (g m) (f t) ≡ uses m t

-- f and g are in step, and f' and g', which are too, undo them
pub record Keeps (f f' : ℕ → ℕ) (g g' : Meld → Meld) : Type 0 where
  pub forth : InStep f g
  pub back : InStep f' g'
  pub tile_forth : (t : ℕ) → t < 34 → f' (f t) ≡ t
  pub tile_back : (t : ℕ) → t < 34 → f (f' t) ≡ t
  pub meld_forth : (m : Meld) → T (is_meld m) → g' (g m) ≡ m
  pub meld_back : (m : Meld) → T (is_meld m) → g (g' m) ≡ m

-- d counts of each renamed tile what c counts of the tile
abbrev pub SameCounts : (ℕ → ℕ) → (ℕ → ℕ) → (ℕ → ℕ) → Type 0
SameCounts f c d = (t : ℕ) → t < 34 → d (f t) ≡ c t

-- melds hold of a tile what the renamed melds hold of the renamed tile
pub uses_moved :
    {f : ℕ → ℕ} {g : Meld → Meld} → InStep f g → (t : ℕ) → t < 34 → (l : List Meld) → T (all is_meld l)
    → sum (λ m. uses m (f t)) (map g l) ≡ sum (λ m. uses m t) l
uses_moved {f} {g} s t h l v =
    ap total (map_moved is_meld g (λ m. uses m t) (λ m. uses m (f t)) (λ m u. s.used m u t h) l v)

module _ {f f' : ℕ → ℕ} {g g' : Meld → Meld} (k : Keeps f f' g g') where
  -- the other way round
  pub turned : Keeps f' f g' g
  turned =
      record {
        forth = k.back;
        back = k.forth;
        tile_forth = k.tile_back;
        tile_back = k.tile_forth;
        meld_forth = k.meld_back;
        meld_back = k.meld_forth;
      }

  pub counts_back : (c d : ℕ → ℕ) → SameCounts f c d → SameCounts f' d c
  counts_back c d e t h = sym (e (f' t) (k.back.tile t h)) ∙ ap d (k.tile_back t h)

  -- two tiles stay equal or different
  pub tiles_eqb : (t u : ℕ) → t < 34 → u < 34 → eqb (f t) (f u) ≡ eqb t u
  tiles_eqb t u h j =
      T-eq (eqb (f t) (f u)) (eqb t u)
      (λ s.
      let e : t ≡ u = sym (k.tile_forth t h) ∙ ap f' (eqb→eq (f t) (f u) s) ∙ k.tile_forth u j in
      subst (λ (x : ℕ). T (eqb t x)) e (eqb_refl t))
      (λ s. subst (λ (x : ℕ). T (eqb (f t) (f x))) (eqb→eq t u s) (eqb_refl (f t)))

  -- ---- the 34 tiles, renamed
  pub tiles_perm : Permᴰ (map f tiles) tiles
  tiles_perm =
      same_perm (map f tiles) tiles (nodup_map_id f f' tiles tiles_nodup (λ t i. k.tile_forth t (tile_lt i))) tiles_nodup
      (λ t i.
      let r = Memᴰ.of_map f tiles i in
      in_tiles t (subst (λ (x : ℕ). x < 34) r.2 (k.forth.tile r.0 (tile_lt r.1))))
      (λ t i. Memᴰ.cast (sym (k.tile_back t (tile_lt i))) (Memᴰ.map f (in_tiles (f' t) (k.back.tile t (tile_lt i)))))

  pub tiles_over : Shuffled f (λ t. ltb t 34) tiles
  tiles_over = record { each = tt; same = tiles_perm }

  -- what is asked of the count of every tile is answered alike, and there are equally many tiles in all
  pub each_stays : (c d : ℕ → ℕ) → SameCounts f c d → (p : ℕ → Bool) → all (λ t. p (d t)) tiles ≡ all (λ t. p (c t)) tiles
  each_stays c d e p = all_over tiles_over (λ t. p (c t)) (λ t. p (d t)) (λ t h. ap p (e t (ltb→lt t 34 h)))

  pub sum_stays : (c d : ℕ → ℕ) → SameCounts f c d → sum d tiles ≡ sum c tiles
  sum_stays c d e = sum_over tiles_over c d (λ t h. e t (ltb→lt t 34 h))

-- ---- the renamings
pub in_step : (ρ : Renaming) → InStep (ren ρ) (ren_meld ρ)
in_step ρ =
    record {
      tile = ren_lt ρ;
      outer = ren_is_terminal_or_honor_holds ρ;
      meld = ren_is_meld_holds ρ;
      hand = ren_is_hand_meld_holds ρ;
      used = ren_uses ρ;
    }

pub keeps : (ρ : Renaming) → Keeps (ren ρ) (ren (back ρ)) (ren_meld ρ) (ren_meld (back ρ))
keeps ρ =
    record {
      forth = in_step ρ;
      back = in_step (back ρ);
      tile_forth = back_ren ρ;
      tile_back = ren_back ρ;
      meld_forth = back_ren_meld ρ;
      meld_back = ren_back_meld ρ;
    }
