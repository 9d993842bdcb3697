-- `unit::list_readings_in` meets its contract: the answer and the whole buffer, for every input of either game. What passes in a game passes
-- with all tiles too, of which the readings are found. Assumes nothing.
use Rattle.std.proofs.Common.{◌≡◌, ℕ, List, length, sym, ap₂, ◌∙◌, arith}
use Rattle.std.proofs.lemmas.Result.{err_from_is_err_and}
use Rattle.rules.specs.Rules.{Game, game}
use Rattle.checks.specs.declared.Calls.{Calls}
use Rattle.checks.specs.declared.checked.CheckedHand.{CheckedHand}
use Rattle.checks.specs.Checks.{hand_check_in}
use Rattle.checks.proofs.Passed.{passed}
use Rattle.unit.specs.Listing.{Listing, listing_in, written_in}
use Rattle.unit.proofs.Answers.{refuses, refused_answer, refused_buffer, short_answer, short_buffer, listed_answer, listed_buffer}
use Rattle.unit.proofs.Passes.{bytes_are, readings_are, records_length, room_behind, all_written}
use Rattle.unit.proofs.list_readings_in.Goals as goal

-- what is shown of the checked hand holds of the counts and calls that were passed
module _ (g : Game) (counts : List ℕ) (k : Calls) (hand : CheckedHand) (same : (hand.counts.now ≡ counts) × (hand.calls ≡ k)) (ok : 0 ≡ hand_check_in g counts k) where
  in_game : hand_check_in g hand.counts.now hand.calls ≡ 0
  in_game = ap₂ (hand_check_in g) same.0 same.1 ∙ sym ok

  answered : (room : ℕ) {l : Listing} → l ≡ listing_in g hand.counts.now hand.calls room → l ≡ listing_in g counts k room
  answered room {l} e = e ∙ ap₂ (λ (cs : List ℕ) (k : Calls). listing_in g cs k room) same.0 same.1

  left : (old : List ℕ) {new : List ℕ} → new ≡ written_in g hand.counts.now hand.calls old → new ≡ written_in g counts k old
  left old {new} e = e ∙ ap₂ (λ (cs : List ℕ) (k : Calls). written_in g cs k old) same.0 same.1

pub returns-in_err-hand : goal.returns-in_err-hand
returns-in_err-hand c =
    let a = c.args in
    let n = c.in_err-hand.ensures.answer in
    let p = err_from_is_err_and c.from_residual.result c.from_residual.ensures.1 in
    let z = refuses c.in_err-hand.field-0.0 in
    record {
      answer = rw (p.1, p.2) (refused_answer (game a.v) a.counts.now a.k _ (length a.out.now) n z);
      buffer = refused_buffer (game a.v) a.counts.now a.k _ a.out.now n z;
    }

pub of-pairs-requires : goal.of-pairs-requires
of-pairs-requires c = let h = c.in_ok-hand.hand in (passed h.counts.now h.calls h.passed).four

pub write_found-start-requires : goal.write_found-start-requires
write_found-start-requires c =
    let h = c.in_ok-hand.hand in
    let f = c.find_readings-found.ensures in
    let need = bytes_are h.counts.now h.calls h.passed _ f ∙ sym c.bytes-bytes.ensures in
    (f.special, omega (arith, need, c.if-out-bytes.false, records_length h.counts.now h.calls h.passed f.special.calls))

pub write_standards-requires : goal.write_standards-requires
write_standards-requires c =
    let h = c.in_ok-hand.hand in
    let p = c.of-pairs in
    let f = c.find_readings-found.ensures in
    let need = bytes_are h.counts.now h.calls h.passed _ f ∙ sym c.bytes-bytes.ensures in
    let w = c.write_found-start.ensures in
    room_behind h.counts.now h.calls h.passed f.special.calls p.result.hand p.ensures c.args.out.now _ _ w.1 w.0 (omega (arith, need, c.if-out-bytes.false))

pub returns-then-out-bytes : goal.returns-then-out-bytes
returns-then-out-bytes c =
    let a = c.args in
    let h = c.in_ok-hand.hand in
    let same = c.in_ok-hand.ensures.hand in
    let ok = c.in_ok-hand.ensures.answer in
    let passes = in_game (game a.v) a.counts.now a.k h same ok in
    let need = bytes_are h.counts.now h.calls h.passed _ c.find_readings-found.ensures ∙ sym c.bytes-bytes.ensures in
    let short = c.if-out-bytes.true in
    record {
      answer = answered (game a.v) a.counts.now a.k h same ok _ (short_answer (game a.v) h.counts.now h.calls passes _ (omega (arith, need, short)));
      buffer = left (game a.v) a.counts.now a.k h same ok _ (short_buffer (game a.v) h.counts.now h.calls passes _ (omega (arith, need, short)));
    }

pub returns : goal.returns
returns c =
    let a = c.args in
    let h = c.in_ok-hand.hand in
    let same = c.in_ok-hand.ensures.hand in
    let ok = c.in_ok-hand.ensures.answer in
    let passes = in_game (game a.v) a.counts.now a.k h same ok in
    let p = c.of-pairs in
    let f = c.find_readings-found.ensures in
    let need = bytes_are h.counts.now h.calls h.passed _ f ∙ sym c.bytes-bytes.ensures in
    let count = readings_are h.counts.now h.calls h.passed _ f ∙ sym c.readings.ensures in
    let room = c.if-out-bytes.false in
    let w = c.write_found-start.ensures in
    let d = c.write_standards.ensures in
    record {
      answer = answered (game a.v) a.counts.now a.k h same ok _
          (listed_answer (game a.v) h.counts.now h.calls passes _ c.readings.result c.bytes-bytes.result (omega (arith, need, room)) (sym count) (sym need));
      buffer = left (game a.v) a.counts.now a.k h same ok a.out.now
          (listed_buffer (game a.v) h.counts.now h.calls passes a.out.now _ (omega (arith, need, room))
          (all_written h.counts.now h.calls h.passed f.special.calls p.result.hand p.ensures a.out.now _ _ w.1 w.0 _ d.1));
    }
