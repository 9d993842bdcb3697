-- `search::write_meld_combinations` and `search::write_with`, which call each other, meet their contracts: the records with the sequence
-- are written, and behind them those with the triplet. Assumes nothing.
use Rattle.std.proofs.Common.{◌≡◌, ℕ, ◌+◌, ◌-◌, List, length, refl, sym, ◌∙◌, arith, rules}
use Rattle.std.proofs.lemmas.List.Edits.{sets}
use Rattle.meld.specs.Meld.{meld}
use Rattle.hand.specs.Readings.{meld_lists}
use Rattle.search.specs.Remaining.{split, left, has_sequence, has_triplet}
use Rattle.search.specs.Slots.{put, records_with}
use Rattle.search.proofs.Parts.{first, second, too_few, room_first, room_second}
use Rattle.search.proofs.Parts.{Wrote, wrote_none, left_out, wrote_part, wrote_all}
use Rattle.search.proofs.+write_meld_combinations_write_with.Goals.{write_meld_combinations-Joined-has_sequence as Joined-has_sequence}
use Rattle.search.proofs.+write_meld_combinations_write_with.Goals.{write_meld_combinations-then-has_sequence, write_meld_combinations-else-has_sequence}
use Rattle.search.proofs.+write_meld_combinations_write_with.Goals as goal

-- ---- nothing is left

pub write_meld_combinations-returns-then-is_empty : goal.write_meld_combinations-returns-then-is_empty
write_meld_combinations-returns-then-is_empty t c =
    let a = c.args in
    let w = wrote_none a.reading.pair a.reading.slots a.out.now a.at _ a.out.now a.at
    (too_few a.needed (split a.s.tiles) c.if-needed-eq0.false (sym c.is_empty.ensures ∙ c.if-is_empty.true)) refl refl in
    (w.place, w.bytes)

-- ---- the sequence

pub write_meld_combinations-write_with-pos-requires : goal.write_meld_combinations-write_with-pos-requires
write_meld_combinations-write_with-pos-requires t c =
    let r = c.without_sequence-rest in
    let k = c.key-key in
    let a = c.args in (
      search rules,
      room_first a.reading.pair a.reading.slots a.out.now a.at a.needed (split a.s.tiles) (split c.lowest-low.result.tiles)
          (record { some = c.if-needed-eq0.false; lowest = c.lowest-low.result.at_lowest; same = c.lowest-low.ensures }) c.requires
          k.result (left (split r.result.tiles)) (put k.result a.reading.slots) refl
          (sym c.has_sequence.ensures ∙ c.if-has_sequence.true) r.ensures.same (omega (arith, k.ensures)),
    )

-- what is written after the sequence
first_wrote :
    (t : ℕ) (c : Joined-has_sequence t)
    → Wrote c.args.reading.pair c.args.reading.slots c.args.out.now c.args.at (first c.args.needed (split c.lowest-low.result.tiles)) c.if-has_sequence.out c.if-has_sequence.pos
first_wrote t c =
    let a = c.args in
    let k = c.key-key in
    let j = c.if-has_sequence in
    let q = split c.lowest-low.result.tiles in
    let m = meld q.tile 0 in
    elim c.if-has_sequence.branch [
      | write_meld_combinations-then-has_sequence w ↦
          let d = w.write_with-pos in
          wrote_part a.reading.pair a.reading.slots a.out.now a.at (has_sequence q) (a.needed - 1) k.result m (left q) (left (split w.without_sequence-rest.result.tiles))
          (put k.result a.reading.slots) j.out j.pos
          (sym c.has_sequence.ensures ∙ w.if-has_sequence.true) w.without_sequence-rest.ensures.same (omega (arith, k.ensures)) refl
          (w.pos-is ∙ d.ensures.0) (w.out-is ∙ d.ensures.1) j.auto.out
      | write_meld_combinations-else-has_sequence w ↦
          left_out a.reading.pair a.reading.slots a.out.now a.at (has_sequence q) (a.needed - 1) m (left q) j.out j.pos
          (sym c.has_sequence.ensures ∙ w.if-has_sequence.false) w.out-is w.pos-is
    ]

-- ---- the triplet

pub write_meld_combinations-write_with-pos-requires-then-has_triplet :
    goal.write_meld_combinations-write_with-pos-requires-then-has_triplet
write_meld_combinations-write_with-pos-requires-then-has_triplet t c =
    let r = c.without_triplet-rest in
    let k = c.key-key in
    let a = c.args in
    let j = (goal.at.write_meld_combinations-write_with-pos-requires-then-has_triplet t c).Joined-has_sequence in (
      search rules,
      room_second a.reading.pair a.reading.slots a.out.now a.at a.needed (split a.s.tiles) (split c.lowest-low.result.tiles)
          (record { some = c.if-needed-eq0.false; lowest = c.lowest-low.result.at_lowest; same = c.lowest-low.ensures }) c.requires
          (k.result + 8) (left (split r.result.tiles)) (put (k.result + 8) a.reading.slots) refl
          (sym c.has_triplet.ensures ∙ c.if-has_triplet.true) r.ensures.same (omega (arith, k.ensures))
          c.if-has_sequence.out c.if-has_sequence.pos (first_wrote t j),
    )

-- and what is written after both
all_wrote :
    (t : ℕ) (c : Joined-has_sequence t) (out : List ℕ) (pos : ℕ)
    → Wrote c.args.reading.pair c.args.reading.slots c.if-has_sequence.out c.if-has_sequence.pos (second c.args.needed (split c.lowest-low.result.tiles)) out pos
    → (pos ≡ c.args.at + length (records_with c.args.reading.pair c.args.reading.slots (meld_lists c.args.needed (left (split c.args.s.tiles)))))
    × (out ≡ sets c.args.out.now c.args.at (records_with c.args.reading.pair c.args.reading.slots (meld_lists c.args.needed (left (split c.args.s.tiles)))))
all_wrote t c out pos v =
    let a = c.args in
    let w = wrote_all a.reading.pair a.reading.slots a.out.now a.at a.needed (split a.s.tiles) (split c.lowest-low.result.tiles)
    (record { some = c.if-needed-eq0.false; lowest = c.lowest-low.result.at_lowest; same = c.lowest-low.ensures })
    _ out _ pos (first_wrote t c) v in
    (w.place, w.bytes)

pub write_meld_combinations-returns-then-has_triplet : goal.write_meld_combinations-returns-then-has_triplet
write_meld_combinations-returns-then-has_triplet t c =
    let a = c.args in
    let d = c.write_with-pos-then-has_triplet in
    let r = c.without_triplet-rest in
    let k = c.key-key in
    let j = c.if-has_sequence in
    let q = split c.lowest-low.result.tiles in
    all_wrote t (goal.at.write_meld_combinations-returns-then-has_triplet t c).Joined-has_sequence d.new.out d.result
    (wrote_part a.reading.pair a.reading.slots j.out j.pos (has_triplet q) (a.needed - 1) (k.result + 8) (meld q.tile 2) (left q) (left (split r.result.tiles))
    (put (k.result + 8) a.reading.slots) d.new.out d.result (sym c.has_triplet.ensures ∙ c.if-has_triplet.true) r.ensures.same (omega (arith, k.ensures)) refl
    d.ensures.0 d.ensures.1 d.auto.out)

pub write_meld_combinations-returns-else-has_triplet : goal.write_meld_combinations-returns-else-has_triplet
write_meld_combinations-returns-else-has_triplet t c =
    let j = c.if-has_sequence in
    let q = split c.lowest-low.result.tiles in
    all_wrote t (goal.at.write_meld_combinations-returns-else-has_triplet t c).Joined-has_sequence j.out j.pos
    (left_out c.args.reading.pair c.args.reading.slots j.out j.pos (has_triplet q) (c.args.needed - 1) (meld q.tile 2) (left q) j.out j.pos
    (sym c.has_triplet.ensures ∙ c.if-has_triplet.false) refl refl)
