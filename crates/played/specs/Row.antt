-- Rows of the tables of played and of worked hands: what a row says, and the claim that it holds. These are definitions.
use Rattle.std.specs.Prelude.{Bool, true, false, ◌&&◌, ◌||◌, cond, List, [], ◌∷◌, map, ℕ, suc, eqb, ltb, length, get_or}
use Rattle.lists.specs.Fold.{any, count, every, one}
use Rattle.rules.specs.Rules.{Game, four}
use Rattle.meld.specs.declared.Meld.{Meld}
use Rattle.context.specs.declared.GameContext.{GameContext}
use Rattle.hand.specs.Readings.{meld_lists, standards_at, seven_pairs, thirteen_orphans, readings}
use Rattle.hand.specs.Records.{record_of, always_enough}
use Rattle.wait.specs.Wait.{pinfu, waits}
use Rattle.tile_yaku.specs.Tiles.{tanyao, honroutou, tsuuiisou, chinroutou, ryuuiisou, honitsu, chinitsu, nine_gates, pure_wait, tile_yaku}
use Rattle.set_yaku.specs.Sets.{toitoi, kans, san_ankou, sanshoku_doukou, suuankou, suu_kantsu}
use Rattle.honor_yaku.specs.Honors.{yakuhai, dragons, winds, shousangen, daisangen, shousuushii, daisuushii}
use Rattle.sequence_yaku.specs.Sequences.{ittsu, sanshoku_doujun, peikou}
use Rattle.end_yaku.specs.Ends.{chanta, junchan}
use Rattle.yaku.specs.declared.names.Yaku.{Yaku}
use Rattle.yaku.specs.Names.{is_yakuman_name, place, names}
use Rattle.yaku.specs.Tally.{one_han, more_han, is_yakuman, ordinary, tallies}
use Rattle.yaku.specs.Han.{han_of, han}
use Rattle.scoring.specs.declared.ScoreLevel.{ScoreLevel}
use Rattle.scoring.specs.declared.ScoreLevel.TheVariants.{Normal, Mangan, Haneman, Baiman, Sanbaiman, Yakuman}
use Rattle.scoring.specs.declared.Payment.{Payment}
use Rattle.scoring.specs.declared.Payment.TheVariants.{Ron, DealerTsumo, Tsumo}
use Rattle.fu.specs.Fu.{standard_fu, fu}
use Rattle.dora.specs.Dora.{dora_of, dora_in, total_han}
use Rattle.scoring.specs.Level.{level, basic_points}
use Rattle.scoring.specs.Payment.{PaymentAnswer, Refused, Paid, payment, payment_answer}
use Rattle.checks.specs.Checks.{check, hand_check_in}
use Rattle.unit.specs.Listing.{Listing}
use Rattle.unit.specs.Listing.{hand_readings, hand_records, listing_in, number_of, readings_of}
use Rattle.lent.specs.Lent.{calls_of}
use Rattle.reading_score.specs.declared.ScoringResult.{ScoringResult}
use Rattle.reading_score.specs.Score.{result, score_of, rank}
use Rattle.choice.specs.declared.ScoreAnswer.{ScoreAnswer}
use Rattle.choice.specs.Choice.{choose_by, choice, numbered}
use Rattle.win.specs.declared.WaitsAnswer.{WaitsAnswer}
use Rattle.win.specs.Win.{or_then, win_check_in, score_in, scores, score_reading_in, score_win_in, name_waits_in}

-- ---- what a row says
-- who won
abbrev pub dealer : Bool
dealer = true

abbrev pub non_dealer : Bool
non_dealer = false

-- what one reading comes to: its yaku by name, each as often as it counts; han, fu, the level, and who pays what
pub record Worth : Type 0 where
  pub yaku_names : List Yaku
  pub han_count : ℕ
  pub fu_count : ℕ
  pub limit : ScoreLevel
  pub pays : Payment

abbrev pub worth : List Yaku → ℕ → ℕ → ScoreLevel → Payment → Worth
worth ys h f l p = record { yaku_names = ys; han_count = h; fu_count = f; limit = l; pays = p }

-- what scoring the win answers: a refusal's number, or the number of the chosen reading
pub data Outcome : Type 0 where
  refuses chooses : ℕ → Outcome

-- the waits by name, in the order of their tallies
pub data Wait : Type 0 where
  Ryanmen Kanchan Penchan Shanpon Tanki Kokushi13 : Wait

pub data Row : Type 0 where
  -- a win: counts, calls, the win, what each reading comes to, in the order of records, and what scoring the win answers
  won : List ℕ → List Meld → GameContext → List Worth → Outcome → Row
  -- a win of which the waits are named: counts, calls, the win, and the waits of each reading, each as often as it counts
  waiting : List ℕ → List Meld → GameContext → List (List Wait) → Row
  -- a hand that is only listed: counts, calls, the count of readings
  listed : List ℕ → List Meld → ℕ → Row
  -- han, fu, with a yakuman or without: their level and basic points
  valued : ℕ → ℕ → Bool → ScoreLevel → ℕ → Row
  -- han, fu, with a yakuman or without, win type, the dealer or not: who pays what
  paid : ℕ → ℕ → Bool → ℕ → Bool → Payment → Row
  -- basic points, win type, the dealer or not: what payment answers
  asked : ℕ → ℕ → Bool → PaymentAnswer → Row

-- a yakuman among the yaku, or none
abbrev pub yakuman : Bool
yakuman = true

abbrev pub no_yakuman : Bool
no_yakuman = false

-- a win with one reading, which is chosen: yaku, han, fu, level, who pays what
abbrev pub scored : List ℕ → List Meld → GameContext → List Yaku → ℕ → ℕ → ScoreLevel → Payment → Row
scored cs ms w ys h f l p = won cs ms w (worth ys h f l p ∷ []) (chooses 0)

-- a win with one reading, which has no yaku: refused with 11; by its number it has 0 han, this fu, and this is its payment
abbrev pub yakuless : List ℕ → List Meld → GameContext → ℕ → Payment → Row
yakuless cs ms w f p = won cs ms w (worth [] 0 f Normal p ∷ []) (refuses 11)

-- ---- the same values
abbrev pub same : List ℕ → List ℕ → Bool
same [] [] = true
same [] (y ∷ ys) = false
same (x ∷ xs) [] = false
same (x ∷ xs) (y ∷ ys) = eqb x y && same xs ys

-- a settlement (who pays what, Payment in the code), an answer of `payment` and a level, as numbers
abbrev pub settled : Payment → List ℕ
settled (Ron n) = 0 ∷ n ∷ []
settled (DealerTsumo n) = 1 ∷ n ∷ []
settled (Tsumo dealer other) = 2 ∷ dealer ∷ other ∷ []

abbrev pub answered : PaymentAnswer → List ℕ
answered (Refused n) = 0 ∷ n ∷ []
answered (Paid p) = 1 ∷ settled p

abbrev pub leveled : ScoreLevel → List ℕ
leveled Normal = 0 ∷ []
leveled Mangan = 1 ∷ []
leveled Haneman = 2 ∷ []
leveled Baiman = 3 ∷ []
leveled Sanbaiman = 4 ∷ []
leveled (Yakuman n) = 5 ∷ n ∷ []

-- how often each yaku is named, in the order of the tallies
abbrev pub tallies_of : List Yaku → List ℕ
tallies_of ys = map (λ n. count (λ y. eqb (place y) (place n)) ys) names

-- the place of a wait among the tallies
abbrev pub wait_place : Wait → ℕ
wait_place Ryanmen = 0
wait_place Kanchan = 1
wait_place Penchan = 2
wait_place Shanpon = 3
wait_place Tanki = 4
wait_place Kokushi13 = 5

-- how often each wait is named, in the order of the tallies
abbrev pub waited : List Wait → List ℕ
waited ws = map (λ n. count (λ x. eqb (wait_place x) n) ws) (0 ∷ 1 ∷ 2 ∷ 3 ∷ 4 ∷ 5 ∷ [])

-- ---- the claim
-- the score comes to this: just these yaku, a yakuman if one is among them, and these values
abbrev pub is_worth : Worth → ScoringResult → Bool
is_worth v x =
    every
    (same x.tallies (tallies_of v.yaku_names)
    ∷ eqb (one x.is_yakuman) (one (any is_yakuman_name v.yaku_names))
    ∷ eqb x.han v.han_count
    ∷ eqb x.fu v.fu_count
    ∷ same (leveled x.score_level) (leveled v.limit)
    ∷ same (settled x.payment) (settled v.pays)
    ∷ [])

-- the answer is a score, of the reading with this number, that comes to this
abbrev pub comes_to : ℕ → Worth → ScoreAnswer → Bool
comes_to i v a = eqb a.number 0 && (eqb a.reading i && is_worth v a.score)

-- the answer is a refusal with this number
abbrev pub refused_with : ℕ → ScoreAnswer → Bool
refused_with n a = eqb a.number n

-- 1 to 9 and 14 are refusals of the checks; 10 and 11 come after all checks have passed
abbrev pub by_check : ℕ → Bool
by_check n = ltb n 10 || eqb n 14

-- what the checks answer
abbrev pub checked_to : Outcome → ℕ
checked_to (refuses n) = cond (by_check n) n 0
checked_to (chooses i) = 0

-- listing refuses with 1 to 6 likewise, and else has so many readings; where the win alone is refused (8, 14, 9) nothing is said of them
abbrev pub lists_to : Outcome → ℕ → Listing → Bool
lists_to (refuses n) m l =
    cond (ltb n 7) (eqb (number_of l) n) (eqb (number_of l) 0 && (by_check n || eqb (readings_of l) m))
lists_to (chooses i) m l = eqb (number_of l) 0 && eqb (readings_of l) m

-- each reading by its number, counted from n, comes to what is said, and the number after the last one is refused with 12, or with the check's number
abbrev pub each_reading : (ℕ → ScoreAnswer) → ℕ → ℕ → List Worth → Bool
each_reading f check n [] = refused_with (cond (eqb check 0) 12 check) (f n)
each_reading f check n (v ∷ vs) = comes_to n v (f n) && each_reading f check (suc n) vs

-- scoring the win refuses, or chooses the reading, which comes to what is said of it
abbrev pub wins_with : List Worth → Outcome → ScoreAnswer → Bool
wins_with vs (refuses n) a = refused_with n a
wins_with vs (chooses i) a = comes_to i (get_or vs i (worth [] 0 0 Normal (Ron 0))) a

-- the waits of each reading by its number, counted from n, are those said, and the number after the last one is refused with 12
abbrev pub each_waits : (ℕ → WaitsAnswer) → ℕ → List (List Wait) → Bool
each_waits f n [] = eqb (f n).number 12
each_waits f n (ws ∷ wss) = eqb (f n).number 0 && (same (f n).waits (waited ws) && each_waits f (suc n) wss)

-- the answers to a win are those: the check's number, the listing, each reading by its number, and the win
abbrev pub answers : List Worth → Outcome → ℕ → Listing → (ℕ → ScoreAnswer) → ScoreAnswer → Bool
answers vs o n l f a =
    every
    (eqb n (checked_to o) ∷ lists_to o (length vs) l ∷ each_reading f (checked_to o) 0 vs ∷ wins_with vs o a ∷ [])

-- the row holds in the game g. What a proof computes with stands here once: `unfolding holds_in` opens all of it
unfoldable pub holds_in : Game → Row → Bool
unfolding meld_lists standards_at seven_pairs thirteen_orphans readings record_of pinfu waits tanyao honroutou tsuuiisou chinroutou ryuuiisou honitsu chinitsu nine_gates pure_wait tile_yaku toitoi kans yakuhai dragons winds san_ankou ittsu sanshoku_doujun sanshoku_doukou peikou chanta junchan shousangen suuankou daisangen shousuushii daisuushii suu_kantsu names one_han more_han is_yakuman ordinary tallies han_of han standard_fu fu level basic_points payment payment_answer check hand_check_in hand_readings hand_records listing_in dora_of dora_in total_han result score_of rank choose_by choice numbered or_then win_check_in score_in scores score_reading_in score_win_in name_waits_in
holds_in g (won cs ms w vs o) =
    let k = calls_of ms in
    answers vs o (win_check_in g cs k w) (listing_in g cs k always_enough) (score_reading_in g cs k w) (score_win_in g cs k w)
holds_in g (waiting cs ms w wss) = each_waits (name_waits_in g cs (calls_of ms) w) 0 wss
holds_in g (listed cs ms n) = lists_to (chooses 0) n (listing_in g cs (calls_of ms) always_enough)
holds_in g (valued h f y l n) = same (leveled (level h f y)) (leveled l) && eqb (basic_points h f y) n
holds_in g (paid h f y by dealer p) = same (settled (payment (eqb by 1) dealer (basic_points h f y))) (settled p)
holds_in g (asked n by dealer a) = same (answered (payment_answer n dealer by)) (answered a)

-- with four players and all tiles; `unfolding holds` opens as much
unfoldable pub holds : Row → Bool
unfolding holds_in
holds r = holds_in four r
