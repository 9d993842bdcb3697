-- `name_waits_in` meets its contract: a refusal, or the waits of the reading at its place in the buffer. Assumes nothing.
use mathlib.Core.Path.{sym, ap, ◌∙◌}
use lib.ListN.{length, length-map}
use mathlib.Core.Path.{◌≡◌}
use Rattle.lists.proofs.Finite.{T→true}
use Rattle.rules.specs.Rules.{game}
use Rattle.promises.proofs.Listing.{room}
use Rattle.unit.proofs.Answers.{refuses}
use Rattle.win.proofs.Checked.{hand_passes}
use Rattle.win.proofs.Passed.{checked}
use Rattle.win.proofs.Readings.{held_readings}
use Rattle.win.proofs.Same.{same_passes, same_four, same_waits}
use Rattle.win.proofs.Answers.{waits_refused, waits_none, waits_named}
use Rattle.structure.specs.Structure.{reading_of}
use Rattle.records.specs.Buffer.{reading_at}
use Rattle.win.specs.Win.{refused_waits, named_waits}
use borrow.Author.Rules.{rules}
use Rattle.win.proofs.name_waits_in.Goals as goal

pub returns-in-Err : goal.returns-in-Err
returns-in-Err c =
    let a = c.args in
    c.refused_waits.ensures ∙ ap refused_waits c.from.ensures
    ∙ waits_refused (game a.v) a.counts.now a.k a.w _ c.in-Err.ensures.answer (refuses c.in-Err.refusal) a.n

pub write_all-count-requires : goal.write_all-count-requires
write_all-count-requires c =
    let a = c.args in
    let g = game a.v in
    let h = c.in-Ok.hand in
    let same = c.in-Ok.ensures.hand in
    let size : length a.k.melds ≡ 4 = search rules in
    room g h.counts.now h.calls (same_four g a.counts.now a.k a.w h same size)
    (hand_passes g h.counts.now h.calls a.w (same_passes g a.counts.now a.k a.w h same c.in-Ok.ensures.answer))

pub returns-then-count-n : goal.returns-then-count-n
returns-then-count-n c =
    let a = c.args in
    let g = game a.v in
    let h = c.in-Ok.hand in
    let same = c.in-Ok.ensures.hand in
    let size : length a.k.melds ≡ 4 = search rules in
    let four = same_four g a.counts.now a.k a.w h same size in
    let passes = same_passes g a.counts.now a.k a.w h same c.in-Ok.ensures.answer in
    let b = c.write_all-count in
    let fits = room g h.counts.now h.calls four (hand_passes g h.counts.now h.calls a.w passes) in
    let holds = held_readings h.counts.now h.calls four h.passed _ _ b.result b.ensures.1.1 fits b.ensures.0 in
    c.refused_waits-then-count-n.ensures
    ∙ same_waits g a.counts.now a.k a.w h same a.n (waits_none g h.counts.now h.calls a.w passes _ b.result holds a.n c.if-count-n.true)

pub returns : goal.returns
returns c =
    let a = c.args in
    let g = game a.v in
    let h = c.in-Ok.hand in
    let same = c.in-Ok.ensures.hand in
    let size : length a.k.melds ≡ 4 = search rules in
    let four = same_four g a.counts.now a.k a.w h same size in
    let passes = same_passes g a.counts.now a.k a.w h same c.in-Ok.ensures.answer in
    let b = c.write_all-count in
    let fits = room g h.counts.now h.calls four (hand_passes g h.counts.now h.calls a.w passes) in
    let holds = held_readings h.counts.now h.calls four h.passed _ _ b.result b.ensures.1.1 fits b.ensures.0 in
    let r = c.reading_at-reading in
    let place = c.place_of in
    ap named_waits c.detect_wait_types.ensures
    ∙ same_waits g a.counts.now a.k a.w h same a.n
    (waits_named g h.counts.now h.calls a.w passes _ b.result holds a.n c.if-count-n.false (reading_of r.result)
    (r.ensures ∙ ap (reading_at _) place.ensures.0))
