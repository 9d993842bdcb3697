use Rattle.std.proofs.Common.{◌≡◌, ◌+◌, List, ℕ, drop, cond, ltb, sym, ap, ◌∙◌}
use Rattle.lists.specs.Fold.{keep}
use Rattle.tile_words.specs.Words.{read_at, tiles_from, char_before}
use Rattle.tile_words.proofs.Places.{tiles_here, tiles_end}
use Rattle.notation.specs.Shown.{with_indicator, with_indicators}
use Rattle.notation.proofs.Shown.{is_tile, named, unnamed, tile_turn}
use Rattle.notation.proofs.indicators.with_word.Goals as goal
use Rattle.notation.proofs.indicators.with_word.Goals.{in-Some, in_default}

pub loop-i-preserved : goal.loop-i-preserved
loop-i-preserved c =
    let l = c.loop-i in
    let w = c.args.word.now in
    let t = read_at (char_before w l.i) (drop l.i w) in
    let rest = tiles_from (char_before w (l.i + 1)) (drop (l.i + 1) w) in
    let here = tiles_here w l.i c.loop-i-test.true (char_before w l.i) in
    let tile : c.match-tile_at.all ≡ cond (ltb t 34) (with_indicator l.all t) l.all =
    elim c.match-tile_at.branch [
      | in-Some x ↦ named l.all c.match-tile_at.all t _ (sym x.in-Some.is ∙ c.tile_at.ensures) (x.all-is ∙ x.with_one-all.ensures)
      | in_default x ↦ unnamed l.all c.match-tile_at.all t (sym x.in_default.is ∙ c.tile_at.ensures) x.all-is
    ] in
    tile_turn l.all c.match-tile_at.all t rest tile
    ∙ ap (λ (ts : List ℕ). with_indicators l.all (keep is_tile ts)) (sym here)
    ∙ l.invariant

pub returns : goal.returns
returns c =
    let l = c.loop-i in
    let w = c.args.word.now in
    ap (λ (ts : List ℕ). with_indicators l.all (keep is_tile ts)) (sym (tiles_end w l.i c.loop-i-test.false (char_before w l.i))) ∙ l.invariant
