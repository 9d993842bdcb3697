-- `special::write_chiitoitsu` meets its contract. Assumes nothing.
use Rattle.std.proofs.Common.{arith}
use Rattle.lists.proofs.Finite.{true→t}
use Rattle.hand.specs.Counts.{held}
use Rattle.hand.specs.Readings.{is_pairs}
use Rattle.hand.proofs.Tests.{seven_twos}
use Rattle.special.proofs.Special.{pairs_written}
use Rattle.special.proofs.write_chiitoitsu.Goals as goal

pub write_twos-requires : goal.write_twos-requires
write_twos-requires c =
    let h = held c.args.counts.now in
    omega (arith, c.requires.1, seven_twos h (true→t (is_pairs h) c.requires.0))

pub returns : goal.returns
returns c =
    let w = c.write_twos.ensures in
    let h = held c.args.counts.now in (
      omega (arith, w.0, seven_twos h (true→t (is_pairs h) c.requires.0)),
      pairs_written h c.requires.0 c.args.out.now _ _ c.args.at c.write_head.ensures w.1,
    )
