-- `place_of` meets its contract: one record on, the records left lead to the same place. Assumes nothing.
use Rattle.std.proofs.Common.{arith, ◌∙◌}
use Rattle.records.proofs.Places.{place_next}
use Rattle.records.proofs.place_of.Goals as goal

pub loop-preserved : goal.loop-preserved
loop-preserved c =
    let l = c.loop in
    let a = c.args in (
      omega (arith, c.length_at-at.ensures.1),
      rw c.length_at-at.ensures.0 (place_next a.b.now a.n l.counter l.at c.loop-test.true) ∙ l.invariant.1,
    )
