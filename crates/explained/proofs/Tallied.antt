-- Laws of the flags that count nothing, for every win and every reading. The yaku that a flag gives are tallied once where it counts and no
-- yakuman leaves them out, and not at all otherwise; and the reason that is named is true of the win. Assumes nothing.
use mathlib.Core.Path.{◌≡◌, refl, ◌∙◌}
use mathlib.Core.Bool.{Bool, true, false, ◌&&◌, ◌||◌, not, cond, and-false, or-true}
use mathlib.Core.List.{List, ◌++◌, map}
use Prim.Native.Nat.{ℕ, ◌+◌, ◌≤◌}
use lib.Dec.{T}
use lib.ListN.{replicate}
use borrow.Author.Tests.{le-leb}
use Rattle.lists.specs.Fold.{one}
use Rattle.context.specs.declared.GameContext.{GameContext}
use Rattle.context.specs.Context.{is_dealer, is_tsumo}
use Rattle.hand.specs.Reading.{Reading}
use Rattle.tile_yaku.specs.declared.TileYaku.{TileYaku}
use Rattle.yaku.specs.Tally.{rinshan, one_han, more_han, yakuman, is_yakuman, ordinary, tallies}
use Rattle.explained.specs.declared.flags.Uncounted.{Uncounted}
use Rattle.explained.specs.declared.flags.Uncounted.TheVariants.{Counts, NotSet, Open, NoRiichi, ByRon, ByTsumo, Replacement, NotDealer, Dealer}
use Rattle.explained.proofs.Numbers.{eight}
use Rattle.explained.specs.Flags.{is_set, declared, unreplaced, first_draw, tenhou_dealer, chiihou_dealer, reason, why_uncounted, is_counted, is_true, is_yakuman_flag, tally_of}

-- ---- a row for each flag: what its yaku are tallied, and what is said of it
-- 1 where the flag is set and the reason against it is none
abbrev said : Bool → Uncounted → ℕ
said set why = one (is_counted (cond (not set) NotSet why))

riichi_row : (set double opened : Bool) → one ((set && not opened) && not double) + (one ((set && not opened) && double) + 0) ≡ said set (declared opened set Counts)
riichi_row false double opened = refl
riichi_row true double true = refl
riichi_row true true false = refl
riichi_row true false false = refl

double_row : (set riichi opened : Bool) → one ((riichi && not opened) && set) + 0 ≡ said set (declared opened riichi Counts)
double_row false false opened = refl
double_row false true true = refl
double_row false true false = refl
double_row true false true = refl
double_row true false false = refl
double_row true true true = refl
double_row true true false = refl

ippatsu_row :
    (set riichi opened replacement : Bool)
    → one ((riichi && not opened) && (set && not replacement)) + 0 ≡ said set (declared opened riichi (unreplaced replacement))
ippatsu_row false false opened replacement = refl
ippatsu_row false true true replacement = refl
ippatsu_row false true false replacement = refl
ippatsu_row true false true replacement = refl
ippatsu_row true false false replacement = refl
ippatsu_row true true true replacement = refl
ippatsu_row true true false true = refl
ippatsu_row true true false false = refl

rinshan_row : (set by_tsumo : Bool) → one (set && by_tsumo) + 0 ≡ said set (cond (not by_tsumo) ByRon Counts)
rinshan_row false by_tsumo = refl
rinshan_row true true = refl
rinshan_row true false = refl

chankan_row : (set by_tsumo : Bool) → one (set && not by_tsumo) + 0 ≡ said set (cond by_tsumo ByTsumo Counts)
chankan_row false by_tsumo = refl
chankan_row true true = refl
chankan_row true false = refl

last_row :
    (set by_tsumo replaced : Bool)
    → one (set && (by_tsumo && not replaced)) + (one (set && not by_tsumo) + 0) ≡ said set (unreplaced (replaced && by_tsumo))
last_row false by_tsumo replaced = refl
last_row true true true = refl
last_row true true false = refl
last_row true false true = refl
last_row true false false = refl

tenhou_row :
    (set by_tsumo opened dealer : Bool)
    → one (set && (by_tsumo && (not opened && dealer))) + 0 ≡ said set (first_draw by_tsumo opened (tenhou_dealer dealer))
tenhou_row false by_tsumo opened dealer = refl
tenhou_row true false opened dealer = refl
tenhou_row true true true dealer = refl
tenhou_row true true false true = refl
tenhou_row true true false false = refl

chiihou_row :
    (set by_tsumo opened dealer : Bool)
    → one (set && (by_tsumo && (not opened && not dealer))) + 0 ≡ said set (first_draw by_tsumo opened (chiihou_dealer dealer))
chiihou_row false by_tsumo opened dealer = refl
chiihou_row true false opened dealer = refl
chiihou_row true true true dealer = refl
chiihou_row true true false true = refl
chiihou_row true true false false = refl

-- `Counts` is the only answer by which a flag counts
counts_only : (why : Uncounted) → (why ≡ Counts → ⊥) → is_counted why ≡ false
counts_only Counts n = absurd (n refl)
counts_only NotSet n = refl
counts_only Open n = refl
counts_only NoRiichi n = refl
counts_only ByRon n = refl
counts_only ByTsumo n = refl
counts_only Replacement n = refl
counts_only NotDealer n = refl
counts_only Dealer n = refl

module _ (w : GameContext) (opened : Bool) (s : TileYaku) (r : Reading) where
  -- the tallies, where there is a yakuman (`left` yes) or none
  abbrev tallies_with : Bool → List ℕ
  tallies_with left = cond left (replicate 32 0) (ordinary w opened s r) ++ map one (yakuman w opened s r)

  abbrev Row : Bool → ℕ → Type 0
  Row left f = tally_of f (tallies_with left) ≡ one ((is_yakuman_flag f || not left) && is_counted (why_uncounted w opened f))

  by_flag : (left : Bool) (f : ℕ) → Row left f
  unfolding one_han more_han ordinary is_set reason why_uncounted
  by_flag true =
      eight (Row true) refl refl refl refl refl refl (tenhou_row w.is_tenhou (is_tsumo w) opened (is_dealer w))
      (chiihou_row w.is_chiihou (is_tsumo w) opened (is_dealer w))
      (λ f. simp and-false)
  by_flag false =
      eight (Row false) (riichi_row w.is_riichi w.is_double_riichi opened)
      (double_row w.is_double_riichi w.is_riichi opened)
      (ippatsu_row w.is_ippatsu w.is_riichi opened (rinshan w))
      (rinshan_row w.is_rinshan (is_tsumo w))
      (chankan_row w.is_chankan (is_tsumo w))
      (last_row w.is_last_tile (is_tsumo w) w.is_rinshan)
      (tenhou_row w.is_tenhou (is_tsumo w) opened (is_dealer w))
      (chiihou_row w.is_chiihou (is_tsumo w) opened (is_dealer w))
      (λ f. simp and-false)

  -- once where the flag counts and no yakuman leaves its yaku out, else not at all
  pub flag_tally : (f : ℕ) → tally_of f (tallies w opened s r) ≡ one ((is_yakuman_flag f || not (is_yakuman w opened s r)) && is_counted (why_uncounted w opened f))
  unfolding tallies
  flag_tally f = by_flag (is_yakuman w opened s r) f

  -- a flag that counts is tallied where there is no yakuman
  pub counted : (f : ℕ) → why_uncounted w opened f ≡ Counts → is_yakuman w opened s r ≡ false → tally_of f (tallies w opened s r) ≡ 1
  counted f e none = flag_tally f ∙ simp (e, none, or-true)

  -- tenhou and chiihou also where there is another yakuman
  pub counted_yakuman : (f : ℕ) → 6 ≤ f → why_uncounted w opened f ≡ Counts → tally_of f (tallies w opened s r) ≡ 1
  counted_yakuman f h e = flag_tally f ∙ simp (e, le-leb 6 f h)

  -- a flag that does not count is never tallied
  pub uncounted : (f : ℕ) → (why_uncounted w opened f ≡ Counts → ⊥) → tally_of f (tallies w opened s r) ≡ 0
  uncounted f n = flag_tally f ∙ simp (counts_only (why_uncounted w opened f) n, and-false)

-- ---- the reason that is named is true of the win
module _ (w : GameContext) (opened : Bool) (f : ℕ) where
  abbrev True : Uncounted → Type 0
  True why = T (is_true w opened f why)

  first_true : (b : Bool) (why rest : Uncounted) → (T b → True why) → (T (not b) → True rest) → True (cond b why rest)
  first_true true why rest h i = h tt
  first_true false why rest h i = i tt

  declared_true : (rest : Uncounted) → True rest → True (declared opened w.is_riichi rest)
  declared_true rest h =
      first_true opened _ _ (λ t. t) (λ t. first_true (not w.is_riichi) _ rest (λ t. t) (λ t. h))

  unreplaced_true : True Counts → True (unreplaced (rinshan w))
  unreplaced_true h = first_true (rinshan w) _ Counts (λ t. t) (λ t. h)

  first_draw_true : (rest : Uncounted) → True rest → True (first_draw (is_tsumo w) opened rest)
  first_draw_true rest h =
      first_true (not (is_tsumo w)) _ _ (λ t. t) (λ t. first_true opened _ rest (λ t. t) (λ t. h))

  tenhou_dealer_true : True Counts → True (tenhou_dealer (is_dealer w))
  tenhou_dealer_true h = first_true (not (is_dealer w)) _ Counts (λ t. t) (λ t. h)

  chiihou_dealer_true : True Counts → True (chiihou_dealer (is_dealer w))
  chiihou_dealer_true h = first_true (is_dealer w) _ Counts (λ t. t) (λ t. h)

set_twice : (b : Bool) → T (not (not b)) → T b
set_twice true t = tt
set_twice false t = absurd t

module _ (w : GameContext) (opened : Bool) where
  reason_true : (f : ℕ) → T (is_set w f) → True w opened f (reason w opened f)
  unfolding is_set reason
  reason_true =
      eight (λ f. T (is_set w f) → True w opened f (reason w opened f))
      (λ t. declared_true w opened 0 Counts t)
      (λ t. declared_true w opened 1 Counts t)
      (λ t. declared_true w opened 2 (unreplaced (rinshan w)) (unreplaced_true w opened 2 t))
      (λ t. first_true w opened 3 (not (is_tsumo w)) _ Counts (λ u. u) (λ u. t))
      (λ t. first_true w opened 4 (is_tsumo w) _ Counts (λ u. u) (λ u. t))
      (λ t. unreplaced_true w opened 5 t)
      (λ t. first_draw_true w opened 6 _ (tenhou_dealer_true w opened 6 t))
      (λ t. first_draw_true w opened 7 _ (chiihou_dealer_true w opened 7 t))
      (λ f t. absurd t)

  pub named_true : (f : ℕ) → T (is_true w opened f (why_uncounted w opened f))
  unfolding why_uncounted
  named_true f =
      first_true w opened f (not (is_set w f)) NotSet (reason w opened f) (λ t. t) (λ t. reason_true f (set_twice (is_set w f) t))
