-- `say_all` is safe: the buffer has room for the records of every hand that passes the checks.
use Rattle.std.proofs.Common.{rules, ◌≡◌, sym, ap, ap₂, ◌∙◌, length}
use Rattle.rules.specs.Rules.{game}
use Rattle.checks.specs.declared.Calls.{Calls}
use Rattle.checks.specs.Checks.{hand_check_in}
use Rattle.promises.proofs.Listing.{room}
use Rattle.score.proofs.readings.say_all.Goals as goal

pub write_all-n-requires : goal.write_all-n-requires
write_all-n-requires g c =
    let h = c.in-Ok.hand in
    let same = c.in-Ok.ensures.hand in
    let v = game c.args.v in
    let in_game : hand_check_in v h.counts.now h.calls ≡ 0 = ap₂ (hand_check_in v) same.0 same.1 ∙ sym c.in-Ok.ensures.answer in
    let four : length c.args.k.melds ≡ 4 = search rules in
    room v h.counts.now h.calls (ap (λ (k : Calls). length k.melds) same.1 ∙ four) in_game
