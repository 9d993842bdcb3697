-- Why the theorem asks what it asks: an all-green hand is a yakuman, and its renamed one is not; where an indicator is shown, a mirror, an exchange of
-- dragons and an exchange of winds turn it to another tile than the dora; a renaming that takes a tile out of the wall makes a hand that is refused.
-- And why East stays: its seat is the dealer's. Computed. Assumes nothing.
use mathlib.Core.Path.{◌≡◌, refl, sym, ◌∙◌}
use mathlib.Core.Bool.{true, false, cond}
use mathlib.Core.List.{List, [], ◌∷◌, map}
use Prim.Native.Nat.{ℕ}
use native.Mathlib.Omega.{arith}
use lib.Dec.{T, eqb}
use lib.ListN.{length}
use Rattle.tile.specs.Named.{man, pin, sou, sous, East, South, West, White, Green}
use Rattle.tile.specs.declared.Order.TheVariants.{Abc, Acb, Bac, Cba}
use Rattle.tile.specs.declared.Renaming.{Renaming}
use Rattle.tile.specs.Renaming.{all_stay, ren}
use Rattle.tile.proofs.Renamings.{renaming}
use Rattle.rules.specs.declared.Variant.{Variant}
use Rattle.rules.specs.declared.Variant.TheVariants.{Yonma, Sanma}
use Rattle.rules.specs.Rules.{Game, four, three, game}
use Rattle.meld.specs.declared.Meld.{Meld}
use Rattle.meld.specs.Named.{chi, pon}
use Rattle.meld.specs.Renamed.{ren_meld}
use Rattle.context.specs.declared.GameContext.{GameContext}
use Rattle.context.specs.Context.{ren_win}
use Rattle.context.specs.Named.{by_ron, win, plain, showing}
use Rattle.hand.specs.Named.{hand}
use Rattle.hand.specs.Readings.{meld_lists, standards_at, seven_pairs, thirteen_orphans, readings}
use Rattle.wait.specs.Wait.{pinfu}
use Rattle.tile_yaku.specs.Tiles.{tanyao, honroutou, tsuuiisou, chinroutou, ryuuiisou, honitsu, chinitsu, nine_gates, pure_wait, tile_yaku}
use Rattle.set_yaku.specs.Sets.{toitoi, kans, san_ankou, sanshoku_doukou, suuankou, suu_kantsu}
use Rattle.honor_yaku.specs.Honors.{yakuhai, dragons, winds, shousangen, daisangen, shousuushii, daisuushii}
use Rattle.sequence_yaku.specs.Sequences.{ittsu, sanshoku_doujun, peikou}
use Rattle.end_yaku.specs.Ends.{chanta, junchan}
use Rattle.yaku.specs.Tally.{one_han, more_han, is_yakuman, ordinary, tallies}
use Rattle.yaku.specs.Names.{names}
use Rattle.yaku.specs.Han.{han_of, han}
use Rattle.fu.specs.Fu.{standard_fu, fu}
use Rattle.dora.specs.Dora.{dora_of, dora_in, total_han}
use Rattle.scoring.specs.Level.{level, basic_points}
use Rattle.scoring.specs.Payment.{payment, total_at}
use Rattle.renamed.specs.Renamed.{ren_counts}
use Rattle.checks.specs.declared.Calls.{Calls}
use Rattle.checks.specs.Checks.{called, together, check, hand_check_in}
use Rattle.lent.specs.Lent.{calls_of}
use Rattle.unit.specs.Listing.{hand_readings}
use Rattle.reading_score.specs.Score.{result, score_of, rank}
use Rattle.choice.specs.declared.ScoreAnswer.{ScoreAnswer}
use Rattle.choice.specs.Choice.{choose_by, choice}
use Rattle.win.specs.Win.{or_then, win_check, win_check_in, score_in, scores, score_win, score_win_in}
use Rattle.agreement.specs.Agreement.{StaysAllowed, RenamedCalls, RenamedWin, NotGreen, Comparable, no_indicator}
use Rattle.agreement.proofs.Indicators.{renamed_win}
use Rattle.agreement.proofs.Demand3.{four_stays}
use Rattle.agreement.proofs.Lent.{lent_renamed}
use Rattle.agreement.proofs.ThreePlayers.{three_renamings}

-- pin and sou change places: a renaming of either game
abbrev swap : Renaming
swap = renaming Acb false false Abc

swap_stays : (v : Variant) → StaysAllowed (game v) swap
swap_stays Yonma = four_stays swap
swap_stays Sanma = (three_renamings swap).1 tt

-- 223344 666 888 of sou and a pair of Green; nothing is called
abbrev green : List ℕ
green = 0 ∷ 0 ∷ 0 ∷ 0 ∷ 0 ∷ 0 ∷ 0 ∷ 0 ∷ 0 ∷ 0 ∷ 0 ∷ 0 ∷ 0 ∷ 0 ∷ 0 ∷ 0 ∷ 0 ∷ 0 ∷ 0 ∷ 2 ∷ 2 ∷ 2 ∷ 0 ∷ 3 ∷ 0 ∷ 3 ∷ 0 ∷ 0 ∷ 0 ∷ 0 ∷ 0 ∷ 0 ∷ 2 ∷ 0 ∷ []

-- a hand with the calls ms, and the same calls renamed
abbrev none : Calls
none = calls_of []

abbrev renamed_by : Renaming → List Meld → Calls
renamed_by ρ ms = calls_of (map (ren_meld ρ) ms)

-- ron on sou 2, round East, seat South
abbrev ron : GameContext
ron = plain 0 19

-- the scored win of a game. What a proof computes with stands here once: `unfolding scored_win` opens all of it
unfoldable scored_win : Game → List ℕ → Calls → GameContext → ScoreAnswer
unfolding score_win_in win_check_in or_then check hand_check_in choice choose_by rank scores score_in score_of result dora_in dora_of total_han hand_readings readings standards_at meld_lists seven_pairs thirteen_orphans tallies ordinary is_yakuman one_han more_han han han_of names fu standard_fu pinfu level basic_points payment tile_yaku tanyao honroutou tsuuiisou chinroutou ryuuiisou honitsu chinitsu nine_gates pure_wait toitoi kans yakuhai dragons winds san_ankou ittsu sanshoku_doujun sanshoku_doukou peikou chanta junchan shousangen suuankou daisangen shousuushii daisuushii suu_kantsu
scored_win g cs k w = score_win_in g cs k w

abbrev han_of_win : Game → List ℕ → Calls → GameContext → ℕ
han_of_win g cs k w = (scored_win g cs k w).score.han

-- Ryuuiisou; and Iipeikou with Honitsu
two_han : (v : Variant) → (han_of_win (game v) green none ron ≡ 13) × (han_of_win (game v) (ren_counts swap green) none (ren_win swap ron) ≡ 4)
unfolding scored_win
two_han Yonma = (refl, refl)
two_han Sanma = (refl, refl)

-- and both wins pass
two_pass : (v : Variant) → (win_check_in (game v) green none ron ≡ 0) × (win_check_in (game v) (ren_counts swap green) none (ren_win swap ron) ≡ 0)
unfolding win_check_in or_then check hand_check_in
two_pass Yonma = (refl, refl)
two_pass Sanma = (refl, refl)

-- in the game g all that the theorem asks but what is said beside it, and two scored wins that do not agree
pub record Differ (g : Game) (ρ : Renaming) (cs : List ℕ) (k j : Calls) (w v : GameContext) : Type 0 where
  pub stays : StaysAllowed g ρ
  pub four : length k.melds ≡ 4
  pub four' : length j.melds ≡ 4
  pub renamed : RenamedCalls ρ k j
  pub win : RenamedWin ρ w v
  pub passes : win_check_in g cs k w ≡ 0
  pub han : (score_win_in g (ren_counts ρ cs) j v).score.han ≡ (score_win_in g cs k w).score.han → ⊥

-- so it is of a hand whose han, n and m, differ
differ :
    (g : Game) (ρ : Renaming) → StaysAllowed g ρ → (cs : List ℕ) (ms : List Meld) (w : GameContext) (n m : ℕ) → win_check_in g cs (calls_of ms) w ≡ 0
    → han_of_win g cs (calls_of ms) w ≡ n → han_of_win g (ren_counts ρ cs) (renamed_by ρ ms) (ren_win ρ w) ≡ m → (m ≡ n → ⊥)
    → Differ g ρ cs (calls_of ms) (renamed_by ρ ms) w (ren_win ρ w)
unfolding scored_win
differ g ρ stays cs ms w n m passes first second apart =
    record {
      stays = stays;
      four = refl;
      four' = refl;
      renamed = lent_renamed ρ ms;
      win = renamed_win ρ w;
      passes = passes;
      han = λ e. apart (sym second ∙ e ∙ first);
    }

-- in either game: the first hand is all green, the second is not
pub green_condition_needed :
    (variant : Variant)
    → (ρ : Renaming) × (cs : List ℕ) × (k : Calls) × (j : Calls) × (w : GameContext) × (v : GameContext)
    × NotGreen (ren_counts ρ cs) j × Comparable ρ w × Differ (game variant) ρ cs k j w v
green_condition_needed variant = (
  swap,
  green,
  none,
  none,
  ron,
  ren_win swap ron,
  tt,
  no_indicator (refl, refl),
  differ (game variant) swap (swap_stays variant) green [] ron 13 4 (two_pass variant).0 (two_han variant).0 (two_han variant).1 (λ e. omega arith),
)

-- and the other way round: the first hand is not all green, the second is
pub second_condition_needed :
    (variant : Variant)
    → (ρ : Renaming) × (cs : List ℕ) × (k : Calls) × (j : Calls) × (w : GameContext) × (v : GameContext)
    × NotGreen cs k × Comparable ρ w × Differ (game variant) ρ cs k j w v
second_condition_needed variant = (
  swap,
  ren_counts swap green,
  none,
  none,
  ren_win swap ron,
  ren_win swap (ren_win swap ron),
  tt,
  no_indicator (refl, refl),
  differ (game variant) swap (swap_stays variant) (ren_counts swap green) [] (ren_win swap ron) 4 13 (two_pass variant).1 (two_han variant).1 (two_han variant).0 (λ e. omega arith),
)

-- ---- a tile leaves the wall: with man and sou exchanged sou 5 becomes man 5, which three players have not
abbrev man_sou : Renaming
man_sou = renaming Cba false false Abc

pub leaves_wall : T (three.allowed (sou 5)) × (ren man_sou (sou 5) ≡ man 5) × (three.allowed (man 5) ≡ false)
leaves_wall = (tt, refl, refl)

-- so the three-player win is accepted, and the same win renamed is refused with 4
pub stays_condition_needed :
    (cs : List ℕ) × (k : Calls) × (j : Calls) × (w : GameContext) × (v : GameContext)
    × RenamedCalls man_sou k j × RenamedWin man_sou w v × ((score_win_in three cs k w).number ≡ 0)
    × ((score_win_in three (ren_counts man_sou cs) j v).number ≡ 4)
unfolding scored_win
stays_condition_needed = (green, none, none, ron, ren_win man_sou ron, lent_renamed man_sou [], renamed_win man_sou ron, refl, refl)

-- ---- an indicator is shown: 345 567 of man, 345 of pin and three Green are called, and a pair of sou 8 or of West is won by ron
abbrev with_green : List Meld
with_green = chi (man 3) ∷ chi (man 5) ∷ chi (pin 3) ∷ pon Green ∷ []

abbrev sou_pair : List ℕ
sou_pair = hand (sous 88)

abbrev west_pair : List ℕ
west_pair = hand (West ∷ West ∷ [])

-- all numbers n become 10 - n; White and Red change places; South and West change places
abbrev mirrored : Renaming
mirrored = renaming Abc true false Abc

abbrev dragons_changed : Renaming
dragons_changed = renaming Abc false true Abc

abbrev winds_changed : Renaming
winds_changed = renaming Abc false false Bac

-- man 2 makes man 3 dora, of which there is one; mirrored, man 8 makes man 9 dora, and the hand's man 3 is its man 7
abbrev man_shown : GameContext
man_shown = showing (man 2 ∷ []) [] (plain 0 (sou 8))

-- White makes Green dora, of which there are three; exchanged, Red makes White dora, and Green stays Green
abbrev white_shown : GameContext
white_shown = showing (White ∷ []) [] (plain 0 (sou 8))

-- South makes West dora, of which there are two; exchanged, West makes North dora, and the pair is South's
abbrev south_shown : GameContext
south_shown = showing (South ∷ []) [] (plain 0 West)

-- the han of the win with these calls, and of the win renamed
abbrev both_han : Renaming → List ℕ → GameContext → ℕ → ℕ → Type 0
both_han ρ cs w n m = (han_of_win four cs (calls_of with_green) w ≡ n) × (han_of_win four (ren_counts ρ cs) (renamed_by ρ with_green) (ren_win ρ w) ≡ m)

mirror_han : both_han mirrored sou_pair man_shown 2 1
unfolding scored_win
mirror_han = (refl, refl)

dragons_han : both_han dragons_changed sou_pair white_shown 4 1
unfolding scored_win
dragons_han = (refl, refl)

winds_han : both_han winds_changed west_pair south_shown 3 1
unfolding scored_win
winds_han = (refl, refl)

-- numbers stay, dragons stay, winds stay: without the first the two do not agree
pub mirror_condition_needed :
    (ρ : Renaming) × (cs : List ℕ) × (k : Calls) × (j : Calls) × (w : GameContext) × (v : GameContext)
    × NotGreen cs k × NotGreen (ren_counts ρ cs) j × (ρ.honors.dragons ≡ false) × T (all_stay ρ.honors.winds) × Differ four ρ cs k j w v
unfolding win_check_in or_then check hand_check_in
mirror_condition_needed = (
  mirrored,
  sou_pair,
  calls_of with_green,
  renamed_by mirrored with_green,
  man_shown,
  ren_win mirrored man_shown,
  tt,
  tt,
  refl,
  tt,
  differ four mirrored (four_stays mirrored) sou_pair with_green man_shown 2 1 refl mirror_han.0 mirror_han.1 (λ e. omega arith),
)

-- nor without the second
pub dragons_condition_needed :
    (ρ : Renaming) × (cs : List ℕ) × (k : Calls) × (j : Calls) × (w : GameContext) × (v : GameContext)
    × NotGreen cs k × NotGreen (ren_counts ρ cs) j × (ρ.numbers.mirror ≡ false) × T (all_stay ρ.honors.winds) × Differ four ρ cs k j w v
unfolding win_check_in or_then check hand_check_in
dragons_condition_needed = (
  dragons_changed,
  sou_pair,
  calls_of with_green,
  renamed_by dragons_changed with_green,
  white_shown,
  ren_win dragons_changed white_shown,
  tt,
  tt,
  refl,
  tt,
  differ four dragons_changed (four_stays dragons_changed) sou_pair with_green white_shown 4 1 refl dragons_han.0 dragons_han.1 (λ e. omega arith),
)

-- nor without the third
pub winds_condition_needed :
    (ρ : Renaming) × (cs : List ℕ) × (k : Calls) × (j : Calls) × (w : GameContext) × (v : GameContext)
    × NotGreen cs k × NotGreen (ren_counts ρ cs) j × (ρ.numbers.mirror ≡ false) × (ρ.honors.dragons ≡ false) × Differ four ρ cs k j w v
unfolding win_check_in or_then check hand_check_in
winds_condition_needed = (
  winds_changed,
  west_pair,
  calls_of with_green,
  renamed_by winds_changed with_green,
  south_shown,
  ren_win winds_changed south_shown,
  tt,
  tt,
  refl,
  refl,
  differ four winds_changed (four_stays winds_changed) west_pair with_green south_shown 3 1 refl winds_han.0 winds_han.1 (λ e. omega arith),
)

-- ---- East could not join: with East and South exchanged a dealer's win becomes another's, which pays less
abbrev east_south : ℕ → ℕ
east_south t = cond (eqb t East) South (cond (eqb t South) East t)

-- the total of the scored win
abbrev total_of_win : List ℕ → Calls → GameContext → ℕ
total_of_win cs k w = total_at 4 (score_win cs k w).score.payment

-- the seat East in the round East, and the seat South in the round South
east_total :
    (total_of_win sou_pair (calls_of with_green) (win by_ron (sou 8) East East []) ≡ 1500)
    × (total_of_win sou_pair (calls_of with_green) (win by_ron (sou 8) South South []) ≡ 1000)
unfolding scored_win
east_total = (refl, refl)

-- a hand that with its calls holds neither wind is the same hand after the exchange, and the two wins, which both pass, are paid differently
pub east_could_not_join :
    (cs : List ℕ) × (k : Calls) × (t : ℕ) × (round : ℕ) × (seat : ℕ)
    × (together cs (called k) East ≡ 0)
    × (together cs (called k) South ≡ 0)
    × NotGreen cs k
    × (win_check cs k (win by_ron t round seat []) ≡ 0)
    × (win_check cs k (win by_ron (east_south t) (east_south round) (east_south seat) []) ≡ 0)
    × (total_of_win cs k (win by_ron (east_south t) (east_south round) (east_south seat) []) ≡ total_of_win cs k (win by_ron t round seat []) → ⊥)
unfolding win_check_in or_then check hand_check_in
east_could_not_join = (
  sou_pair,
  calls_of with_green,
  sou 8,
  East,
  East,
  refl,
  refl,
  tt,
  refl,
  refl,
  λ e. omega (arith, e, east_total),
)
