-- Why a flag of the win counts nothing; crates/yaku/specs/Tally.antt says when each counts, and the law `flag_tally` joins the two. The flags
-- by number: 0 riichi, 1 double riichi, 2 ippatsu, 3 rinshan, 4 chankan, 5 last tile, 6 tenhou, 7 chiihou. w is the win, `opened` whether
-- something was called from another player. These are definitions.
use Rattle.std.specs.Prelude.{Bool, true, false, not, cond, List, [], ◌∷◌, ℕ, leb, get_or}
use Rattle.lists.specs.Fold.{sum}
use Rattle.context.specs.declared.GameContext.{GameContext}
use Rattle.context.specs.Context.{is_dealer, is_tsumo}
use Rattle.yaku.specs.declared.names.Yaku.{Yaku}
use Rattle.yaku.specs.declared.names.Yaku.TheVariants.{Riichi, DoubleRiichi, Ippatsu, RinshanKaihou, Chankan, HaiteiRaoyue, HouteiRaoyui, Tenhou, Chiihou}
use Rattle.yaku.specs.Names.{tallied}
use Rattle.yaku.specs.Tally.{rinshan}
use Rattle.explained.specs.declared.flags.Uncounted.{Uncounted}
use Rattle.explained.specs.declared.flags.Uncounted.TheVariants.{Counts, NotSet, Open, NoRiichi, ByRon, ByTsumo, Replacement, NotDealer, Dealer}

-- the flags in the order of their numbers
abbrev pub flags : GameContext → List Bool
flags w =
    w.is_riichi
    ∷ w.is_double_riichi
    ∷ w.is_ippatsu
    ∷ w.is_rinshan
    ∷ w.is_chankan
    ∷ w.is_last_tile
    ∷ w.is_tenhou
    ∷ w.is_chiihou
    ∷ []

-- is the flag with this number set
unfoldable pub is_set : GameContext → ℕ → Bool
is_set w f = get_or (flags w) f false

-- what goes with a riichi needs a closed hand and the riichi flag
abbrev pub declared : Bool → Bool → Uncounted → Uncounted
declared opened riichi rest = cond opened Open (cond (not riichi) NoRiichi rest)

-- a replacement tile breaks ippatsu, and is never the last of the wall
abbrev pub unreplaced : Bool → Uncounted
unreplaced replacement = cond replacement Replacement Counts

-- a win on the first draw is by tsumo, with a closed hand
abbrev pub first_draw : Bool → Bool → Uncounted → Uncounted
first_draw by_tsumo opened rest = cond (not by_tsumo) ByRon (cond opened Open rest)

-- the dealer's win on the first draw is tenhou, another player's chiihou
abbrev pub tenhou_dealer : Bool → Uncounted
tenhou_dealer dealer = cond (not dealer) NotDealer Counts

abbrev pub chiihou_dealer : Bool → Uncounted
chiihou_dealer dealer = cond dealer Dealer Counts

-- the first reason against each flag, if it is set
abbrev pub reasons : GameContext → Bool → List Uncounted
reasons w opened =
    declared opened w.is_riichi Counts
    ∷ declared opened w.is_riichi Counts
    ∷ declared opened w.is_riichi (unreplaced (rinshan w))
    ∷ cond (not (is_tsumo w)) ByRon Counts
    ∷ cond (is_tsumo w) ByTsumo Counts
    ∷ unreplaced (rinshan w)
    ∷ first_draw (is_tsumo w) opened (tenhou_dealer (is_dealer w))
    ∷ first_draw (is_tsumo w) opened (chiihou_dealer (is_dealer w))
    ∷ []

-- that against the flag with this number
unfoldable pub reason : GameContext → Bool → ℕ → Uncounted
reason w opened f = get_or (reasons w opened) f NotSet

-- why the flag counts nothing
unfoldable pub why_uncounted : GameContext → Bool → ℕ → Uncounted
why_uncounted w opened f = cond (not (is_set w f)) NotSet (reason w opened f)

-- does it count, unless a yakuman leaves it out
abbrev pub is_counted : Uncounted → Bool
is_counted Counts = true
is_counted NotSet = false
is_counted Open = false
is_counted NoRiichi = false
is_counted ByRon = false
is_counted ByTsumo = false
is_counted Replacement = false
is_counted NotDealer = false
is_counted Dealer = false

-- is it true of the win
abbrev pub is_true : GameContext → Bool → ℕ → Uncounted → Bool
is_true w opened f Counts = is_set w f
is_true w opened f NotSet = not (is_set w f)
is_true w opened f Open = opened
is_true w opened f NoRiichi = not w.is_riichi
is_true w opened f ByRon = not (is_tsumo w)
is_true w opened f ByTsumo = is_tsumo w
is_true w opened f Replacement = rinshan w
is_true w opened f NotDealer = not (is_dealer w)
is_true w opened f Dealer = is_dealer w

-- the yaku that each flag gives
abbrev pub flag_yaku : List (List Yaku)
flag_yaku =
    (Riichi ∷ DoubleRiichi ∷ [])
    ∷ (DoubleRiichi ∷ [])
    ∷ (Ippatsu ∷ [])
    ∷ (RinshanKaihou ∷ [])
    ∷ (Chankan ∷ [])
    ∷ (HaiteiRaoyue ∷ HouteiRaoyui ∷ [])
    ∷ (Tenhou ∷ [])
    ∷ (Chiihou ∷ [])
    ∷ []

-- tenhou and chiihou are yakuman, which no other leaves out
abbrev pub is_yakuman_flag : ℕ → Bool
is_yakuman_flag f = leb 6 f

-- how often those of the flag with this number count by the tallies ts
abbrev pub tally_of : ℕ → List ℕ → ℕ
tally_of f ts = sum (λ y. tallied y ts) (get_or flag_yaku f [])
