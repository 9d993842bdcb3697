-- `score_win_in` meets its contract: a refusal, or the choice among all readings that the buffer holds. Assumes nothing.
use mathlib.Core.Path.{sym, ap, ◌∙◌}
use lib.ListN.{length, length-map}
use mathlib.Core.Path.{◌≡◌}
use Rattle.lists.proofs.Finite.{T→true}
use Rattle.rules.specs.Rules.{game}
use Rattle.promises.proofs.Listing.{room}
use Rattle.unit.proofs.Answers.{refuses}
use Rattle.win.proofs.Checked.{hand_passes}
use Rattle.win.proofs.Passed.{checked}
use Rattle.win.proofs.Readings.{held_readings}
use Rattle.win.proofs.Same.{same_passes, same_four, same_opened, same_win}
use Rattle.win.proofs.Answers.{win_refused, win_none, win_chosen}
use Rattle.choice.specs.Choice.{refused}
use borrow.Author.Rules.{rules}
use Rattle.win.proofs.score_win_in.Goals as goal

pub returns-in-Err : goal.returns-in-Err
returns-in-Err c =
    let a = c.args in
    c.refused.ensures ∙ ap refused c.from.ensures
    ∙ win_refused (game a.v) a.counts.now a.k a.w _ c.in-Err.ensures.answer (refuses c.in-Err.refusal)

pub write_all-n-requires : goal.write_all-n-requires
write_all-n-requires c =
    let a = c.args in
    let g = game a.v in
    let h = c.in-Ok.hand in
    let same = c.in-Ok.ensures.hand in
    let size : length a.k.melds ≡ 4 = search rules in
    room g h.counts.now h.calls (same_four g a.counts.now a.k a.w h same size)
    (hand_passes g h.counts.now h.calls a.w (same_passes g a.counts.now a.k a.w h same c.in-Ok.ensures.answer))

pub returns-then-n-eq0 : goal.returns-then-n-eq0
returns-then-n-eq0 c =
    let a = c.args in
    let g = game a.v in
    let h = c.in-Ok.hand in
    let same = c.in-Ok.ensures.hand in
    let size : length a.k.melds ≡ 4 = search rules in
    let four = same_four g a.counts.now a.k a.w h same size in
    let passes = same_passes g a.counts.now a.k a.w h same c.in-Ok.ensures.answer in
    let b = c.write_all-n in
    let fits = room g h.counts.now h.calls four (hand_passes g h.counts.now h.calls a.w passes) in
    let holds = held_readings h.counts.now h.calls four h.passed _ _ b.result b.ensures.1.1 fits b.ensures.0 in
    c.refused-then-n-eq0.ensures
    ∙ same_win g a.counts.now a.k a.w h same (win_none g h.counts.now h.calls a.w passes _ b.result holds c.if-n-eq0.true)

pub dora_together-d-requires : goal.dora_together-d-requires
dora_together-d-requires c =
    let a = c.args in
    let p = checked a.counts.now a.k a.w (sym c.in-Ok.ensures.answer) in
    T→true _ p.indicators

pub choose-requires : goal.choose-requires
choose-requires c = (search rules, c.dora_together-d.ensures.1)

pub returns : goal.returns
returns c =
    let a = c.args in
    let g = game a.v in
    let h = c.in-Ok.hand in
    let same = c.in-Ok.ensures.hand in
    let size : length a.k.melds ≡ 4 = search rules in
    let four = same_four g a.counts.now a.k a.w h same size in
    let passes = same_passes g a.counts.now a.k a.w h same c.in-Ok.ensures.answer in
    let b = c.write_all-n in
    let fits = room g h.counts.now h.calls four (hand_passes g h.counts.now h.calls a.w passes) in
    let holds = held_readings h.counts.now h.calls four h.passed _ _ b.result b.ensures.1.1 fits b.ensures.0 in
    let dora = c.dora_together-d in
    let tiles = c.tiles_together-s in
    let opened = c.is_opened in
    same_win g a.counts.now a.k a.w h same
    (win_chosen g h.counts.now h.calls a.w passes _ b.result holds tiles.result dora.result opened.result tiles.ensures dora.ensures.0
    (same_opened g a.counts.now a.k a.w h same opened.ensures) c.choose.result c.choose.ensures)
