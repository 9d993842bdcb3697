-- `score_reading_in` meets its contract: a refusal, or the score of the reading at its place in the buffer. Assumes nothing.
use mathlib.Core.Path.{sym, ap, ◌∙◌}
use lib.ListN.{length, length-map}
use mathlib.Core.Path.{◌≡◌}
use Rattle.lists.proofs.Finite.{T→true}
use Rattle.rules.specs.Rules.{game}
use Rattle.promises.proofs.Listing.{room}
use Rattle.unit.proofs.Answers.{refuses}
use Rattle.win.proofs.Checked.{hand_passes}
use Rattle.win.proofs.Passed.{checked}
use Rattle.win.proofs.Readings.{held_readings}
use Rattle.win.proofs.Same.{same_passes, same_four, same_opened, same_reading}
use Rattle.win.proofs.Answers.{reading_refused, reading_none, reading_scored}
use Rattle.structure.specs.Structure.{reading_of}
use Rattle.records.specs.Buffer.{reading_at}
use Rattle.choice.specs.Choice.{refused, scored}
use borrow.Author.Rules.{rules}
use Rattle.win.proofs.score_reading_in.Goals as goal

pub returns-in-Err : goal.returns-in-Err
returns-in-Err c =
    let a = c.args in
    c.refused.ensures ∙ ap refused c.from.ensures
    ∙ reading_refused (game a.v) a.counts.now a.k a.w _ c.in-Err.ensures.answer (refuses c.in-Err.refusal) a.n

pub write_all-readings-requires : goal.write_all-readings-requires
write_all-readings-requires c =
    let a = c.args in
    let g = game a.v in
    let h = c.in-Ok.hand in
    let same = c.in-Ok.ensures.hand in
    let size : length a.k.melds ≡ 4 = search rules in
    room g h.counts.now h.calls (same_four g a.counts.now a.k a.w h same size)
    (hand_passes g h.counts.now h.calls a.w (same_passes g a.counts.now a.k a.w h same c.in-Ok.ensures.answer))

pub returns-then-readings-n : goal.returns-then-readings-n
returns-then-readings-n c =
    let a = c.args in
    let g = game a.v in
    let h = c.in-Ok.hand in
    let same = c.in-Ok.ensures.hand in
    let size : length a.k.melds ≡ 4 = search rules in
    let four = same_four g a.counts.now a.k a.w h same size in
    let passes = same_passes g a.counts.now a.k a.w h same c.in-Ok.ensures.answer in
    let b = c.write_all-readings in
    let fits = room g h.counts.now h.calls four (hand_passes g h.counts.now h.calls a.w passes) in
    let holds = held_readings h.counts.now h.calls four h.passed _ _ b.result b.ensures.1.1 fits b.ensures.0 in
    c.refused-then-readings-n.ensures
    ∙ same_reading g a.counts.now a.k a.w h same a.n (reading_none g h.counts.now h.calls a.w passes _ b.result holds a.n c.if-readings-n.true)

pub dora_together-d-requires : goal.dora_together-d-requires
dora_together-d-requires c =
    let a = c.args in
    let p = checked a.counts.now a.k a.w (sym c.in-Ok.ensures.answer) in
    T→true _ p.indicators

pub calculate_score-requires : goal.calculate_score-requires
calculate_score-requires c = c.dora_together-d.ensures.1

pub returns : goal.returns
returns c =
    let a = c.args in
    let g = game a.v in
    let h = c.in-Ok.hand in
    let same = c.in-Ok.ensures.hand in
    let size : length a.k.melds ≡ 4 = search rules in
    let four = same_four g a.counts.now a.k a.w h same size in
    let passes = same_passes g a.counts.now a.k a.w h same c.in-Ok.ensures.answer in
    let b = c.write_all-readings in
    let fits = room g h.counts.now h.calls four (hand_passes g h.counts.now h.calls a.w passes) in
    let holds = held_readings h.counts.now h.calls four h.passed _ _ b.result b.ensures.1.1 fits b.ensures.0 in
    let r = c.reading_at-h in
    let place = c.place_of in
    let dora = c.dora_together-d in
    let tiles = c.tiles_together in
    let opened = c.is_opened in
    c.scored.ensures
    ∙ ap (scored a.n) c.calculate_score.ensures
    ∙ same_reading g a.counts.now a.k a.w h same a.n
    (reading_scored g h.counts.now h.calls a.w passes _ b.result holds a.n c.if-readings-n.false tiles.result dora.result opened.result
    tiles.ensures dora.ensures.0 (same_opened g a.counts.now a.k a.w h same opened.ensures) (reading_of r.result)
    (r.ensures ∙ ap (reading_at _) place.ensures.0))
