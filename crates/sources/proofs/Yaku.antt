-- No yaku of a reading depends on the sources of its melds: each tally is the same, and so are the yakuman and the han. Assumes nothing.
use mathlib.Core.Path.{◌≡◌, refl, ap, ◌∙◌}
use mathlib.Core.Bool.{Bool, false, ◌&&◌, ◌||◌, not, cond}
use mathlib.Core.List.{List, ◌++◌, map}
use Prim.Native.Nat.{ℕ, ◌*◌}
use lib.Dec.{eqb}
use lib.ListN.{replicate}
use Rattle.lists.specs.Fold.{all, any, count, one, sum}
use Rattle.tile.specs.Tile.{is_dragon, is_terminal, is_terminal_or_honor, is_wind}
use Rattle.meld.specs.declared.Meld.{Meld}
use Rattle.meld.specs.Meld.{is_kan, is_sequence, is_triplet_or_kan, but_source}
use Rattle.meld.proofs.Sources.{all_but, any_but, count_but}
use Rattle.context.specs.declared.GameContext.{GameContext}
use Rattle.hand.specs.Reading.{Reading, pairs, orphans, standard}
use Rattle.wait.specs.Wait.{weight}
use Rattle.wait.specs.Concealed.{concealed, spared}
use Rattle.tile_yaku.specs.declared.TileYaku.{TileYaku}
use Rattle.meld_yaku.specs.Melds.{run_from, set_of, any_line}
use Rattle.set_yaku.specs.Sets.{toitoi, kans, san_ankou, set_lines, sanshoku_doukou, suuankou, suu_kantsu}
use Rattle.honor_yaku.specs.Honors.{yakuhai, dragons, winds, shousangen, daisangen, shousuushii, daisuushii}
use Rattle.sequence_yaku.specs.Sequences.{straights, ittsu, run_lines, sanshoku_doujun, starts, pairs_among, peikou}
use Rattle.end_yaku.specs.Ends.{end_run, chanta, junchan}
use Rattle.yaku.specs.Tally.{one_han, more_han, yakuman, is_yakuman, ordinary, tallies}
use Rattle.yaku.specs.Han.{han_of, dot, han}
use Rattle.sources.specs.Sources.{but_sources}
use Rattle.sources.proofs.Waits.{spared_but, count_concealed, pinfu_but}

-- lines of melds that pass a question which does not ask for the source
lines_but :
    (q : ℕ → Meld → Bool) → ((t : ℕ) (m : Meld) → q t (but_source m) ≡ q t m) → (ms : List Meld) (ls : List (List ℕ))
    → any_line q (map but_source ms) ls ≡ any_line q ms ls
lines_but q blind ms ls = λ i. any (λ line. all (λ t. any_but (q t) (blind t) ms i) line) ls

module _ (ms : List Meld) where
  -- ---- triplets and kans
  toitoi_but : toitoi (map but_source ms) ≡ toitoi ms
  unfolding toitoi
  toitoi_but = all_but is_triplet_or_kan (λ m. refl) ms

  kans_but : kans (map but_source ms) ≡ kans ms
  unfolding kans
  kans_but = count_but is_kan (λ m. refl) ms

  suu_kantsu_but_holds : suu_kantsu (map but_source ms) ≡ suu_kantsu ms
  unfolding suu_kantsu
  suu_kantsu_but_holds = ap (λ (n : ℕ). eqb n 4) kans_but

  sanshoku_doukou_but_holds : sanshoku_doukou (map but_source ms) ≡ sanshoku_doukou ms
  unfolding sanshoku_doukou
  sanshoku_doukou_but_holds = lines_but (λ t. set_of (eqb t)) (λ t m. refl) ms set_lines

  module _ (w : GameContext) where
    san_ankou_but_holds : san_ankou w (map but_source ms) ≡ san_ankou w ms
    unfolding san_ankou
    san_ankou_but_holds =
        ap (λ (n : ℕ). eqb n 3)
        (ap (λ (kept : Bool). count (concealed w kept) (map but_source ms)) (spared_but w ms) ∙ count_concealed w (spared w ms) ms)

    suuankou_but : suuankou w (map but_source ms) ≡ suuankou w ms
    unfolding suuankou
    suuankou_but = ap (λ (n : ℕ). eqb n 4) (count_concealed w false ms)

  -- ---- winds and dragons
  yakuhai_but : (w : GameContext) (t : ℕ) → yakuhai w (map but_source ms) t ≡ yakuhai w ms t
  unfolding yakuhai
  yakuhai_but w t = ap (λ (n : ℕ). n * weight w t) (count_but (set_of (eqb t)) (λ m. refl) ms)

  dragons_but : dragons (map but_source ms) ≡ dragons ms
  unfolding dragons
  dragons_but = count_but (set_of is_dragon) (λ m. refl) ms

  winds_but : winds (map but_source ms) ≡ winds ms
  unfolding winds
  winds_but = count_but (set_of is_wind) (λ m. refl) ms

  shousangen_but : (p : ℕ) → shousangen p (map but_source ms) ≡ shousangen p ms
  unfolding shousangen
  shousangen_but p = ap (λ (n : ℕ). is_dragon p && eqb n 2) dragons_but

  daisangen_but : daisangen (map but_source ms) ≡ daisangen ms
  unfolding daisangen
  daisangen_but = ap (λ (n : ℕ). eqb n 3) dragons_but

  shousuushii_but : (p : ℕ) → shousuushii p (map but_source ms) ≡ shousuushii p ms
  unfolding shousuushii
  shousuushii_but p =
      let third = any_but (set_of (eqb p)) (λ m. refl) ms in
      λ i. eqb (winds_but i) 3 && (is_wind p && not (third i))

  daisuushii_but : daisuushii (map but_source ms) ≡ daisuushii ms
  unfolding daisuushii
  daisuushii_but = ap (λ (n : ℕ). eqb n 4) winds_but

  -- ---- sequences
  ittsu_but : ittsu (map but_source ms) ≡ ittsu ms
  unfolding ittsu
  ittsu_but = lines_but run_from (λ t m. refl) ms straights

  sanshoku_doujun_but_holds : sanshoku_doujun (map but_source ms) ≡ sanshoku_doujun ms
  unfolding sanshoku_doujun
  sanshoku_doujun_but_holds = lines_but run_from (λ t m. refl) ms run_lines

  peikou_but : peikou (map but_source ms) ≡ peikou ms
  unfolding peikou
  peikou_but = λ i. sum (λ t. pairs_among (count_but (run_from t) (λ m. refl) ms i)) starts

  -- ---- ends of suits, and honors, in each group
  chanta_but : (p : ℕ) → chanta p (map but_source ms) ≡ chanta p ms
  unfolding chanta
  chanta_but p =
      let run = any_but is_sequence (λ m. refl) ms in
      let outer = all_but (λ m. end_run m || set_of is_terminal_or_honor m) (λ m. refl) ms in
      λ i. is_terminal_or_honor p && (run i && outer i)

  junchan_but : (p : ℕ) → junchan p (map but_source ms) ≡ junchan p ms
  unfolding junchan
  junchan_but p =
      let run = any_but is_sequence (λ m. refl) ms in
      let outer = all_but (λ m. end_run m || set_of is_terminal m) (λ m. refl) ms in
      λ i. is_terminal p && (run i && outer i)

-- ---- a reading
module _ (w : GameContext) (opened : Bool) (s : TileYaku) where
  yakuman_each : (r : Reading) → yakuman w opened s (but_sources r) ≡ yakuman w opened s r
  yakuman_each (pairs ps) = refl
  yakuman_each (orphans p) = refl
  yakuman_each (standard p ms) =
      simp (suuankou_but ms w, daisangen_but ms, shousuushii_but ms p, daisuushii_but ms, suu_kantsu_but_holds ms)

  pub is_yakuman_but_holds : (r : Reading) → is_yakuman w opened s (but_sources r) ≡ is_yakuman w opened s r
  unfolding is_yakuman
  is_yakuman_but_holds r = ap (any (λ b. b)) (yakuman_each r)

  one_han_but_holds : (r : Reading) → one_han w opened s (but_sources r) ≡ one_han w opened s r
  unfolding one_han
  one_han_but_holds (pairs ps) = refl
  one_han_but_holds (orphans p) = refl
  one_han_but_holds (standard p ms) = simp (pinfu_but w opened (standard p ms), peikou_but ms, yakuhai_but ms w)

  more_han_but_holds : (r : Reading) → more_han w opened s (but_sources r) ≡ more_han w opened s r
  unfolding more_han
  more_han_but_holds (pairs ps) = refl
  more_han_but_holds (orphans p) = refl
  more_han_but_holds (standard p ms) =
      simp (
        toitoi_but ms,
        sanshoku_doujun_but_holds ms,
        sanshoku_doukou_but_holds ms,
        ittsu_but ms,
        chanta_but ms p,
        san_ankou_but_holds ms w,
        kans_but ms,
        shousangen_but ms p,
        junchan_but ms p,
        peikou_but ms,
      )

  -- all 47 tallies
  pub tallies_but : (r : Reading) → tallies w opened s (but_sources r) ≡ tallies w opened s r
  unfolding tallies ordinary
  tallies_but r =
      let yaku = yakuman_each r in
      let some = is_yakuman_but_holds r in
      let less = one_han_but_holds r in
      let more = more_han_but_holds r in
      λ i. cond (some i) (replicate 32 0) (less i ++ more i) ++ map one (yaku i)

  -- and their han
  pub han_but : (r : Reading) → han w opened s (but_sources r) ≡ han w opened s r
  unfolding han
  han_but r = ap (dot (han_of opened)) (tallies_but r)
