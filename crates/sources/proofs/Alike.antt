-- Calls that differ in nothing but their sources, and pass check 3 of a game, are listed, scored and named alike. Assumes nothing.
use mathlib.Core.Path.{◌≡◌, sym, ap, ◌∙◌, subst}
use mathlib.Core.Bool.{cond}
use mathlib.Core.List.{List, map}
use Prim.Native.Nat.{ℕ}
use lib.Dec.{T, eqb, leb}
use lib.ListN.{length, length-map}
use Rattle.lists.specs.Fold.{all}
use Rattle.lists.proofs.Members.{map_map}
use Rattle.rules.specs.Rules.{Game, four}
use Rattle.meld.specs.Meld.{is_call}
use Rattle.context.specs.declared.GameContext.{GameContext}
use Rattle.hand.specs.Counts.{held}
use Rattle.hand.specs.Reading.{Reading}
use Rattle.hand.specs.Records.{records}
use Rattle.hand.specs.Readings.{readings}
use Rattle.wait.specs.Wait.{waits}
use Rattle.tile_yaku.specs.Tiles.{tile_yaku}
use Rattle.dora.specs.Dora.{dora_in}
use Rattle.checks.specs.declared.Calls.{Calls}
use Rattle.checks.specs.Checks.{called, is_call_in}
use Rattle.unit.specs.Listing.{Refused, Listed}
use Rattle.unit.specs.Listing.{hand_readings, hand_records, listing_in}
use Rattle.records.specs.Pick.{pick_at}
use Rattle.records.proofs.Pick.{pick_map}
use Rattle.reading_score.specs.Score.{score_of}
use Rattle.choice.specs.Choice.{refused, choice, numbered}
use Rattle.choice.specs.Standing.{StandsAt}
use Rattle.choice.proofs.Standing.{stands_map, stands_of_map}
use Rattle.win.specs.declared.WaitsAnswer.{WaitsAnswer}
use Rattle.win.specs.Win.{score_in, scores, score_win_in, score_reading_in, refused_waits, named_waits, name_waits_in}
use Rattle.sources.specs.Sources.{but_sources, SameButSources, AlikeIn, Alike}
use Rattle.sources.proofs.Readings.{readings_but, records_but}
use Rattle.sources.proofs.Waits.{waits_but}
use Rattle.sources.proofs.Scored.{score_but}
use Rattle.sources.proofs.Checked.{called_melds, calls_four_holds, same_together, same_opened, same_check, same_win_check_holds}

-- ---- what does not ask for the sources of readings
module _ {B : Type 0} (f : Reading → B) (blind : (r : Reading) → f (but_sources r) ≡ f r) where
  map_blind : (l : List Reading) → map f (map but_sources l) ≡ map f l
  map_blind l = map_map but_sources f l ∙ (λ i. map (λ r. blind r i) l)

  pick_blind : (z : B) (n : ℕ) (l : List Reading) → pick_at z f (map but_sources l) n ≡ pick_at z f l n
  pick_blind z n l = pick_map z f but_sources l n ∙ (λ i. pick_at z (λ r. blind r i) l n)

-- is the same of two lists of readings that are the same but for sources
same_of :
    {B : Type 0} (F : List Reading → B) → ((l : List Reading) → F (map but_sources l) ≡ F l)
    → (a b : List Reading) → map but_sources a ≡ map but_sources b → F a ≡ F b
same_of F blind a b e = sym (blind a) ∙ ap F e ∙ blind b

module _ (g : Game) (cs : List ℕ) {k j : Calls} (s : SameButSources k j) (calls : T (all (is_call_in g) (called k))) (calls' : T (all (is_call_in g) (called j))) where
  -- ---- the readings
  same_readings : map but_sources (hand_readings cs j) ≡ map but_sources (hand_readings cs k)
  unfolding hand_readings
  same_readings =
      readings_but (called j) (called_melds g (called j) calls') (held cs)
      ∙ ap (readings (held cs)) s.calls
      ∙ sym (readings_but (called k) (called_melds g (called k) calls) (held cs))

  same_many : length (hand_readings cs j) ≡ length (hand_readings cs k)
  same_many = same_of length (λ l. length-map l but_sources) (hand_readings cs j) (hand_readings cs k) same_readings

  same_bytes : length (hand_records cs j) ≡ length (hand_records cs k)
  unfolding hand_records
  same_bytes = same_of (λ l. length (records l)) records_but (hand_readings cs j) (hand_readings cs k) same_readings

  same_listing : (lent : ℕ) → listing_in g cs j lent ≡ listing_in g cs k lent
  unfolding listing_in
  same_listing lent =
      let number = same_check cs s g calls calls' in
      λ i. cond (eqb (number i) 0) (cond (leb (same_bytes i) lent) (Listed (same_many i) (same_bytes i)) (Refused 7)) (Refused (number i))

  -- ---- their scores
  module _ (w : GameContext) where
    scored_alike : (r : Reading) → score_in cs j w r ≡ score_in cs k w r
    unfolding score_in
    scored_alike r =
        let tiles = same_together cs s in
        let opened = same_opened cs s in
        λ i. score_of w (opened i) (tile_yaku (tiles i) w.winning_tile) (dora_in (tiles i) w) r

    scored_but : (r : Reading) → score_in cs k w (but_sources r) ≡ score_in cs k w r
    unfolding score_in
    scored_but r = score_but w _ _ _ r

    same_scores : scores cs j w ≡ scores cs k w
    unfolding scores
    same_scores =
        (λ i. map (λ r. scored_alike r i) (hand_readings cs j))
        ∙ same_of (map (score_in cs k w)) (map_blind (score_in cs k w) scored_but) (hand_readings cs j) (hand_readings cs k) same_readings

    same_won : score_win_in g cs j w ≡ score_win_in g cs k w
    unfolding score_win_in
    same_won =
        let number = same_win_check_holds cs s g calls calls' w in
        λ i. cond (eqb (number i) 0) (choice g.players (same_scores i)) (refused (number i))

    same_numbered : (n : ℕ) → score_reading_in g cs j w n ≡ score_reading_in g cs k w n
    unfolding score_reading_in
    same_numbered n =
        let number = same_win_check_holds cs s g calls calls' w in
        λ i. cond (eqb (number i) 0) (numbered (same_scores i) n) (refused (number i))

    -- ---- and their waits
    abbrev named : Reading → WaitsAnswer
    named r = named_waits (waits w.winning_tile r)

    named_but : (r : Reading) → named (but_sources r) ≡ named r
    named_but r = ap named_waits (waits_but w.winning_tile r)

    same_named : (n : ℕ) → pick_at (refused_waits 12) named (hand_readings cs j) n ≡ pick_at (refused_waits 12) named (hand_readings cs k) n
    same_named n =
        same_of (λ l. pick_at (refused_waits 12) named l n) (pick_blind named named_but (refused_waits 12) n) (hand_readings cs j) (hand_readings cs k)
        same_readings

    same_waits : (n : ℕ) → name_waits_in g cs j w n ≡ name_waits_in g cs k w n
    unfolding name_waits_in
    same_waits n =
        let number = same_win_check_holds cs s g calls calls' w in
        λ i. cond (eqb (number i) 0) (same_named n i) (refused_waits (number i))

-- the theorem: calls that pass check 3 of a game are answered alike in it whatever their sources; what else refuses them refuses both with the same number
pub sources_alike_in :
    (g : Game) (cs : List ℕ) (k j : Calls) → SameButSources k j → T (all (is_call_in g) (called k)) → T (all (is_call_in g) (called j)) → AlikeIn g cs k j
sources_alike_in g cs k j s calls calls' =
    record {
      listings = same_listing g cs s calls calls';
      readings = same_readings g cs s calls calls';
      won = same_won g cs s calls calls';
      numbered = same_numbered g cs s calls calls';
      waits = same_waits g cs s calls calls';
    }

-- with four players, where each call can be called
pub sources_alike : (cs : List ℕ) (k j : Calls) → SameButSources k j → T (all is_call (called k)) → T (all is_call (called j)) → Alike cs k j
sources_alike cs k j s calls calls' = sources_alike_in four cs k j s (calls_four_holds (called k) calls) (calls_four_holds (called j) calls')

-- where reading n of the one stands, there stands one of the other that is the same but for sources
pub stands_alike :
    {g : Game} {cs : List ℕ} {k j : Calls} → AlikeIn g cs k j → (n : ℕ) (r : Reading) → StandsAt r n (hand_readings cs k)
    → (q : Reading) × StandsAt q n (hand_readings cs j) × (but_sources r ≡ but_sources q)
stands_alike {g} {cs} {k} {j} a n r here =
    stands_of_map but_sources (but_sources r) n (hand_readings cs j)
    (subst (StandsAt (but_sources r) n) (sym a.readings) (stands_map but_sources r n (hand_readings cs k) here))
