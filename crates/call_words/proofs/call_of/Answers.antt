-- `call_of` meets its contract: the one call that there can be is tested. Assumes nothing.
use Rattle.std.proofs.Common.{sym, ◌∙◌}
use Rattle.call_words.proofs.Calls.{no_tile, no_call, not_made, tried}
use Rattle.call_words.proofs.call_of.Goals as goal

pub returns-in_err-tile : goal.returns-in_err-tile
returns-in_err-tile c = rw c.from_residual.ensures (no_tile c.args.counts.now c.args.kind c.in_err-tile.ensures)

pub returns-then-not-is_call : goal.returns-then-not-is_call
returns-then-not-is_call c =
    let a = c.args in
    λ m x. no_call a.counts.now _ a.kind c.in_ok-tile.ensures m x _ c.from_left-m.ensures (sym c.is_call.ensures ∙ c.if-not-is_call.true)

pub returns-then-not-is_made_of : goal.returns-then-not-is_made_of
returns-then-not-is_made_of c =
    let a = c.args in
    λ m x. not_made a.counts.now _ a.kind c.in_ok-tile.ensures m x _ c.from_left-m.ensures (sym c.is_made_of.ensures ∙ c.if-not-is_made_of.true)

pub returns : goal.returns
returns c =
    let a = c.args in
    let call = sym c.is_call.ensures ∙ c.if-not-is_call.false in
    let made = sym c.is_made_of.ensures ∙ c.if-not-is_made_of.false in
    tried a.counts.now _ a.kind _ c.from_left-m.ensures call made
