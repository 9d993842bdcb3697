-- Which yaku never count together, of every win and every reading: what is no yakuman beside a yakuman, and pairs of yaku of which at
-- most one counts. Assumes nothing.
use mathlib.Core.Path.{◌≡◌, refl, sym, subst, ap, ◌∙◌}
use mathlib.Core.Bool.{Bool, true, false, ◌&&◌, ◌||◌, not, cond, and-false, or-true}
use mathlib.Core.List.{List, [], ◌∷◌, ◌++◌, map}
use Prim.Native.Nat.{ℕ, ◌+◌, ◌-◌, ◌<◌, ◌≤◌}
use native.Mathlib.Decide.{dec_lt}
use native.Mathlib.Omega.{arith}
use lib.Dec.{T, not_T, eqb, leb, ltb, eqb→eq, leb→le, ltb→lt, le→leb, lt→ltb}
use lib.ListN.{get_or, replicate, length, get_or-eq_default}
use Rattle.lists.specs.Fold.{all, any, all_below, one}
use Rattle.lists.proofs.Finite.{and_left, and_right, and_both, at, true→t, T→true}
use Rattle.context.specs.declared.GameContext.{GameContext}
use Rattle.context.specs.Context.{is_dealer, is_tsumo}
use Rattle.hand.specs.Reading.{Reading, pairs, orphans, standard}
use Rattle.tile_yaku.specs.declared.TileYaku.{TileYaku}
use Rattle.tile_yaku.specs.Tiles.{honitsu, chinitsu, tile_yaku}
use Rattle.tile_yaku.proofs.Rules.{honitsu_not_chinitsu}
use Rattle.wait.specs.Wait.{pinfu}
use Rattle.honor_yaku.specs.Honors.{winds, shousuushii, daisuushii}
use Rattle.sequence_yaku.specs.Sequences.{peikou}
use Rattle.end_yaku.specs.Ends.{junchan}
use Rattle.yaku.specs.declared.names.Yaku.{Yaku}
use Rattle.yaku.specs.declared.names.Yaku.TheVariants.{Riichi, Ippatsu, MenzenTsumo, Pinfu, Iipeikou, RinshanKaihou, Chankan, HaiteiRaoyue, HouteiRaoyui, DoubleRiichi, Toitoi, SanshokuDoujun, SanshokuDoukou, Ittsu, Chiitoitsu, Chanta, SanAnkou, SanKantsu, Shousangen, Honitsu, Junchan, Ryanpeikou, Chinitsu, Tenhou, Chiihou, KokushiMusou, Suuankou, Daisangen, Shousuushii, Daisuushii, Ryuuiisou, ChuurenPoutou, SuuKantsu, Kokushi13Wait, SuuankouTanki, JunseiChuurenPoutou}
use Rattle.yaku.specs.Names.{is_yakuman_name, place, tallied}
use Rattle.yaku.specs.Tally.{unless_orphans, rinshan, one_han, more_han, yakuman, is_yakuman, ordinary, tallies}
use Rattle.yaku.proofs.Laws.{one_small}
use Rattle.yaku.proofs.HanTable.{yakuhais, among}
use Rattle.yaku.proofs.NameTable.{yakuman_at}
use Rattle.yaku.proofs.NoYakuman.{all_zero}

-- by the tallies ts at most one of the two yaku counts
abbrev pub apart : Yaku → Yaku → List ℕ → Bool
apart y z ts = eqb (tallied y ts) 0 || eqb (tallied z ts) 0

-- a proof for each answer to a question
pub by_answer : {P : Type 0} (b : Bool) → (b ≡ true → P) → (b ≡ false → P) → P
by_answer true f g = f refl
by_answer false f g = g refl

yakuman_at_32 : (y : Yaku) → 32 ≤ place y → place y < 47 → is_yakuman_name y ≡ true
yakuman_at_32 y low high =
    sym (yakuman_at y) ∙ T→true _ (and_both (leb 32 (place y)) (ltb (place y) 47) (le→leb 32 (place y) low) (lt→ltb (place y) 47 high))

no_other : (b : Bool) → T (not b) → b ≡ false
no_other true t = absurd t
no_other false t = refl

-- a question that is answered no
asked_no : (r : Reading) → unless_orphans false r ≡ false
asked_no (pairs ps) = refl
asked_no (orphans p) = refl
asked_no (standard p ms) = refl

module _ (w : GameContext) (opened : Bool) (s : TileYaku) (r : Reading) where
  -- what holds of the tallies both where a yakuman is there and where none is
  pub by_yakuman :
      (P : List ℕ → Type 0) → P (replicate 32 0 ++ map one (yakuman w opened s r))
      → P (ordinary w opened s r ++ map one (yakuman w opened s r)) → P (tallies w opened s r)
  unfolding tallies
  by_yakuman P there none = go (is_yakuman w opened s r)
    where
      go : (b : Bool) → P (cond b (replicate 32 0) (ordinary w opened s r) ++ map one (yakuman w opened s r))
      go true = there
      go false = none

  long : length (tallies w opened s r) ≡ 47
  unfolding ordinary one_han more_han
  long = by_yakuman (λ ts. length ts ≡ 47) refl refl

  -- ---- a yakuman leaves out every yaku that is none
  first_32 : is_yakuman w opened s r ≡ true → (i : ℕ) → i < 32 → T (eqb (get_or (tallies w opened s r) i 0) 0)
  unfolding tallies
  first_32 e = rw e (at 32 (λ i. eqb (get_or (replicate 32 0 ++ map one (yakuman w opened s r)) i 0) 0) tt)

  pub yakuman_alone : is_yakuman w opened s r ≡ true → (y : Yaku) → is_yakuman_name y ≡ false → tallied y (tallies w opened s r) ≡ 0
  yakuman_alone e y n = go (dec_lt (place y) 32) (dec_lt (place y) 47)
    where
      go : Dec (place y < 32) → Dec (place y < 47) → tallied y (tallies w opened s r) ≡ 0
      go (yes h) d = eqb→eq _ 0 (first_32 e (place y) h)
      go (no h) (no d) = get_or-eq_default (tallies w opened s r) 0 {n = place y} (omega (arith, long))
      go (no h) (yes d) = absurd (subst T (sym (yakuman_at_32 y (omega arith) d) ∙ n) tt)

  -- without a yakuman none is tallied
  last_15 : is_yakuman w opened s r ≡ false → (j : ℕ) → j < 15 → T (eqb (get_or (tallies w opened s r) (32 + j) 0) 0)
  unfolding tallies ordinary one_han more_han
  last_15 e = rw (e, ← all_zero w opened s r e) (at 15 (λ j. eqb (get_or (ordinary w opened s r ++ replicate 15 0) (32 + j) 0) 0) tt)

  pub no_yakuman_tallied : is_yakuman w opened s r ≡ false → (y : Yaku) → is_yakuman_name y ≡ true → tallied y (tallies w opened s r) ≡ 0
  no_yakuman_tallied e y n =
      let t = true→t _ (yakuman_at y ∙ n) in
      let low = leb→le 32 (place y) (and_left (leb 32 (place y)) (ltb (place y) 47) t) in
      let high = ltb→lt (place y) 47 (and_right (leb 32 (place y)) (ltb (place y) 47) t) in
      let i : 32 + (place y - 32) ≡ place y = omega arith in
      ap (λ (n : ℕ). get_or (tallies w opened s r) n 0) (sym i) ∙ eqb→eq _ 0 (last_15 e (place y - 32) (omega arith))

  -- so a yakuman and a yaku that is none never count together
  pub yakuman_or_other : (y z : Yaku) → is_yakuman_name y ≡ true → is_yakuman_name z ≡ false → T (apart y z (tallies w opened s r))
  yakuman_or_other y z m n =
      by_answer (is_yakuman w opened s r)
      (λ e. simp (yakuman_alone e z n, or-true) tt)
      (λ e. simp (no_yakuman_tallied e y m) tt)

  -- ---- a yaku counts once, but for Yakuhai (at most twice in a hand that passes the checks)
  abbrev once : List ℕ → ℕ → Bool
  once ts i = any (λ x. eqb (place x) i) yakuhais || leb (get_or ts i 0) 1

  all_once : T (all_below 47 (once (tallies w opened s r)))
  unfolding ordinary one_han more_han
  all_once = by_yakuman (λ ts. T (all_below 47 (once ts))) (simp one_small tt) (simp one_small tt)

  pub at_most_once : (y : Yaku) → among yakuhais y ≡ false → tallied y (tallies w opened s r) ≤ 1
  at_most_once y e = go (dec_lt (place y) 47)
    where
      go : Dec (place y < 47) → tallied y (tallies w opened s r) ≤ 1
      go (yes h) = let t = at 47 (once (tallies w opened s r)) all_once (place y) h in leb→le _ 1 (rw e at t)
      go (no h) = rw (get_or-eq_default (tallies w opened s r) 0 {n = place y} (omega (arith, long))) (omega arith)

  -- at most one of two counts, if so both where a yakuman is there and where none is
  kept_apart :
      (y z : Yaku) → T (apart y z (replicate 32 0 ++ map one (yakuman w opened s r)))
      → T (apart y z (ordinary w opened s r ++ map one (yakuman w opened s r))) → T (apart y z (tallies w opened s r))
  kept_apart y z = by_yakuman (λ ts. T (apart y z ts))

  -- ---- by the win
  -- riichi with the first discard or later
  pub riichi_or_double : T (apart Riichi DoubleRiichi (tallies w opened s r))
  unfolding ordinary one_han more_han
  riichi_or_double = kept_apart Riichi DoubleRiichi tt (by_answer w.is_double_riichi (λ e. simp (e, and-false) tt) (λ e. simp (e, and-false, or-true) tt))

  -- a replacement tile breaks ippatsu
  pub ippatsu_or_rinshan : T (apart Ippatsu RinshanKaihou (tallies w opened s r))
  unfolding ordinary one_han more_han
  ippatsu_or_rinshan = kept_apart Ippatsu RinshanKaihou tt (by_answer (rinshan w) (λ e. simp (e, and-false) tt) (λ e. simp (e, or-true) tt))

  -- a replacement tile is not of the wall
  pub haitei_or_rinshan : T (apart HaiteiRaoyue RinshanKaihou (tallies w opened s r))
  unfolding ordinary one_han more_han
  haitei_or_rinshan = kept_apart HaiteiRaoyue RinshanKaihou tt (by_answer w.is_rinshan (λ e. simp (e, and-false) tt) (λ e. simp (e, or-true) tt))

  -- a tile is drawn, or robbed from a kan, or discarded
  pub tsumo_or_chankan : T (apart MenzenTsumo Chankan (tallies w opened s r))
  unfolding ordinary one_han more_han
  tsumo_or_chankan = kept_apart MenzenTsumo Chankan tt (by_answer (is_tsumo w) (λ e. simp (e, and-false, or-true) tt) (λ e. simp e tt))

  pub tsumo_or_houtei : T (apart MenzenTsumo HouteiRaoyui (tallies w opened s r))
  unfolding ordinary one_han more_han
  tsumo_or_houtei = kept_apart MenzenTsumo HouteiRaoyui tt (by_answer (is_tsumo w) (λ e. simp (e, and-false, or-true) tt) (λ e. simp e tt))

  pub rinshan_or_chankan : T (apart RinshanKaihou Chankan (tallies w opened s r))
  unfolding ordinary one_han more_han
  rinshan_or_chankan = kept_apart RinshanKaihou Chankan tt (by_answer (is_tsumo w) (λ e. simp (e, and-false, or-true) tt) (λ e. simp (e, and-false) tt))

  pub rinshan_or_houtei : T (apart RinshanKaihou HouteiRaoyui (tallies w opened s r))
  unfolding ordinary one_han more_han
  rinshan_or_houtei = kept_apart RinshanKaihou HouteiRaoyui tt (by_answer (is_tsumo w) (λ e. simp (e, and-false, or-true) tt) (λ e. simp (e, and-false) tt))

  pub haitei_or_chankan : T (apart HaiteiRaoyue Chankan (tallies w opened s r))
  unfolding ordinary one_han more_han
  haitei_or_chankan = kept_apart HaiteiRaoyue Chankan tt (by_answer (is_tsumo w) (λ e. simp (e, and-false, or-true) tt) (λ e. simp (e, and-false) tt))

  pub haitei_or_houtei : T (apart HaiteiRaoyue HouteiRaoyui (tallies w opened s r))
  unfolding ordinary one_han more_han
  haitei_or_houtei = kept_apart HaiteiRaoyue HouteiRaoyui tt (by_answer (is_tsumo w) (λ e. simp (e, and-false, or-true) tt) (λ e. simp (e, and-false) tt))

  -- the dealer or another player
  pub tenhou_or_chiihou : T (apart Tenhou Chiihou (tallies w opened s r))
  unfolding ordinary one_han more_han
  tenhou_or_chiihou =
      let both : T (apart Tenhou Chiihou (replicate 32 0 ++ map one (yakuman w opened s r))) =
      by_answer (is_dealer w) (λ e. simp (e, and-false, or-true) tt) (λ e. simp (e, and-false) tt) in
      kept_apart Tenhou Chiihou both both

  -- ---- by the tiles: one suit with honors or without
  one_flush : T (not (s.honitsu && s.chinitsu)) → T (apart Honitsu Chinitsu (tallies w opened s r))
  unfolding ordinary one_han more_han
  one_flush one_sort =
      kept_apart Honitsu Chinitsu tt
      (by_answer s.honitsu
      (λ e. simp (e, no_other s.chinitsu (simp e at one_sort), asked_no r, or-true) tt)
      (λ e. simp (e, asked_no r) tt))

-- whatever the counts c of the tiles and the winning tile t
pub honitsu_or_chinitsu :
    (w : GameContext) (opened : Bool) (c : ℕ → ℕ) (t : ℕ) (r : Reading) → T (apart Honitsu Chinitsu (tallies w opened (tile_yaku c t) r))
unfolding tile_yaku
honitsu_or_chinitsu w opened c t r =
    one_flush w opened (tile_yaku c t) r
    (not_T (honitsu c && chinitsu c) (λ b. honitsu_not_chinitsu c (and_left (honitsu c) _ b) (and_right (honitsu c) _ b)))

-- ---- by the reading
module _ (w : GameContext) (opened : Bool) (s : TileYaku) where
  -- one pair of identical sequences or two
  pub iipeikou_or_ryanpeikou : (r : Reading) → T (apart Iipeikou Ryanpeikou (tallies w opened s r))
  unfolding ordinary one_han more_han
  iipeikou_or_ryanpeikou (pairs ps) = kept_apart w opened s (pairs ps) Iipeikou Ryanpeikou tt tt
  iipeikou_or_ryanpeikou (orphans p) = kept_apart w opened s (orphans p) Iipeikou Ryanpeikou tt tt
  iipeikou_or_ryanpeikou (standard p ms) =
      kept_apart w opened s (standard p ms) Iipeikou Ryanpeikou tt
      (by_answer (eqb (peikou ms) 1) (λ e. simp (eqb→eq (peikou ms) 1 (true→t _ e), and-false, or-true) tt) (λ e. simp (e, and-false) tt))

  -- with honors or with terminals only
  pub chanta_or_junchan : (r : Reading) → T (apart Chanta Junchan (tallies w opened s r))
  unfolding ordinary one_han more_han
  chanta_or_junchan (pairs ps) = kept_apart w opened s (pairs ps) Chanta Junchan tt tt
  chanta_or_junchan (orphans p) = kept_apart w opened s (orphans p) Chanta Junchan tt tt
  chanta_or_junchan (standard p ms) =
      kept_apart w opened s (standard p ms) Chanta Junchan tt
      (by_answer (junchan p ms) (λ e. simp (e, and-false) tt) (λ e. simp (e, or-true) tt))

  -- on the pair or not
  pub suuankou_or_tanki : (r : Reading) → T (apart Suuankou SuuankouTanki (tallies w opened s r))
  unfolding ordinary one_han more_han
  suuankou_or_tanki (pairs ps) = kept_apart w opened s (pairs ps) Suuankou SuuankouTanki tt tt
  suuankou_or_tanki (orphans p) = kept_apart w opened s (orphans p) Suuankou SuuankouTanki tt tt
  suuankou_or_tanki (standard p ms) =
      let both : T (apart Suuankou SuuankouTanki (replicate 32 0 ++ map one (yakuman w opened s (standard p ms)))) =
      by_answer (eqb w.winning_tile p) (λ e. simp (e, and-false) tt) (λ e. simp (e, and-false, or-true) tt) in
      kept_apart w opened s (standard p ms) Suuankou SuuankouTanki both both

  -- three winds and a pair of the fourth, or all four
  pub shousuushii_or_daisuushii : (r : Reading) → T (apart Shousuushii Daisuushii (tallies w opened s r))
  unfolding ordinary one_han more_han shousuushii daisuushii
  shousuushii_or_daisuushii (pairs ps) = kept_apart w opened s (pairs ps) Shousuushii Daisuushii tt tt
  shousuushii_or_daisuushii (orphans p) = kept_apart w opened s (orphans p) Shousuushii Daisuushii tt tt
  shousuushii_or_daisuushii (standard p ms) =
      let both : T (apart Shousuushii Daisuushii (replicate 32 0 ++ map one (yakuman w opened s (standard p ms)))) =
      by_answer (eqb (winds ms) 3) (λ e. simp (eqb→eq (winds ms) 3 (true→t _ e), or-true) tt) (λ e. simp e tt) in
      kept_apart w opened s (standard p ms) Shousuushii Daisuushii both both

  -- any of nine tiles or not
  pub chuuren_or_junsei : (r : Reading) → T (apart ChuurenPoutou JunseiChuurenPoutou (tallies w opened s r))
  unfolding ordinary one_han more_han
  chuuren_or_junsei (pairs ps) = kept_apart w opened s (pairs ps) ChuurenPoutou JunseiChuurenPoutou tt tt
  chuuren_or_junsei (orphans p) = kept_apart w opened s (orphans p) ChuurenPoutou JunseiChuurenPoutou tt tt
  chuuren_or_junsei (standard p ms) =
      let both : T (apart ChuurenPoutou JunseiChuurenPoutou (replicate 32 0 ++ map one (yakuman w opened s (standard p ms)))) =
      by_answer s.pure_wait (λ e. simp (e, and-false) tt) (λ e. simp (e, and-false, or-true) tt) in
      kept_apart w opened s (standard p ms) ChuurenPoutou JunseiChuurenPoutou both both

  -- on the doubled tile or on another one
  pub kokushi_or_13_wait : (r : Reading) → T (apart KokushiMusou Kokushi13Wait (tallies w opened s r))
  unfolding ordinary one_han more_han
  kokushi_or_13_wait (pairs ps) = kept_apart w opened s (pairs ps) KokushiMusou Kokushi13Wait tt tt
  kokushi_or_13_wait (standard p ms) = kept_apart w opened s (standard p ms) KokushiMusou Kokushi13Wait tt tt
  kokushi_or_13_wait (orphans p) =
      let both : T (apart KokushiMusou Kokushi13Wait (replicate 32 0 ++ map one (yakuman w opened s (orphans p)))) =
      by_answer (eqb w.winning_tile p) (λ e. simp e tt) (λ e. simp e tt) in
      kept_apart w opened s (orphans p) KokushiMusou Kokushi13Wait both both

  -- thirteen orphans are always a yakuman
  pub orphans_yakuman : (p : ℕ) → is_yakuman w opened s (orphans p) ≡ true
  unfolding is_yakuman
  orphans_yakuman p = by_answer (eqb w.winning_tile p) (λ e. simp (e, or-true)) (λ e. simp (e, or-true))

-- the yaku of melds
abbrev pub of_melds : List Yaku
of_melds =
    Pinfu ∷ Iipeikou ∷ Toitoi ∷ SanshokuDoujun ∷ SanshokuDoukou ∷ Ittsu ∷ Chanta ∷ SanAnkou ∷ SanKantsu ∷ Shousangen ∷ Junchan ∷ Ryanpeikou
    ∷ Suuankou ∷ Daisangen ∷ Shousuushii ∷ Daisuushii ∷ Ryuuiisou ∷ ChuurenPoutou ∷ SuuKantsu ∷ SuuankouTanki ∷ JunseiChuurenPoutou
    ∷ yakuhais

-- seven pairs have none of them
pub chiitoitsu_or_melds :
    (w : GameContext) (opened : Bool) (s : TileYaku) (r : Reading) → T (all (λ y. apart Chiitoitsu y (tallies w opened s r)) of_melds)
unfolding ordinary one_han more_han pinfu
chiitoitsu_or_melds w opened s (pairs ps) = by_yakuman w opened s (pairs ps) (λ ts. T (all (λ y. apart Chiitoitsu y ts) of_melds)) tt tt
chiitoitsu_or_melds w opened s (orphans p) = by_yakuman w opened s (orphans p) (λ ts. T (all (λ y. apart Chiitoitsu y ts) of_melds)) tt tt
chiitoitsu_or_melds w opened s (standard p ms) = by_yakuman w opened s (standard p ms) (λ ts. T (all (λ y. apart Chiitoitsu y ts) of_melds)) tt tt
