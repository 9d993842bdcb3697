-- `unit::write_all` meets its contract. Assumes nothing.
use native.Mathlib.Omega.{arith}
use Rattle.checks.proofs.Passed.{passed, called_length}
use Rattle.unit.proofs.Passes.{records_length, room_behind, all_written, all_counted}
use borrow.Author.Rules.{rules}
use Rattle.unit.proofs.write_all.Goals as goal

pub write_special-special-requires : goal.write_special-special-requires
write_special-special-requires c =
    let h = c.args.hand in
    let long = called_length h.calls (passed h.counts.now h.calls h.passed).few (search rules) in
    omega (arith, c.requires, records_length h.counts.now h.calls h.passed long)

pub of-pairs-requires : goal.of-pairs-requires
of-pairs-requires c = (passed c.args.hand.counts.now c.args.hand.calls c.args.hand.passed).four

pub write_standards-end-requires : goal.write_standards-end-requires
write_standards-end-requires c =
    let h = c.args.hand in
    let long = called_length h.calls (passed h.counts.now h.calls h.passed).few (search rules) in
    let w = c.write_special-special.ensures in
    room_behind h.counts.now h.calls h.passed long c.of-pairs.result.hand c.of-pairs.ensures c.args.out.now _ _ w.1.1.1 w.1.1.0 c.requires

pub returns : goal.returns
returns c =
    let h = c.args.hand in
    let long = called_length h.calls (passed h.counts.now h.calls h.passed).few (search rules) in
    let p = c.of-pairs in
    let v = c.write_special-special in
    let w = c.write_standards-end in
    let n = all_counted h.counts.now h.calls h.passed long p.result.hand p.ensures v.result.end w.result v.result.readings w.ensures.0 v.ensures.0 v.ensures.1.0 in
    (n.0, (n.1, all_written h.counts.now h.calls h.passed long p.result.hand p.ensures c.args.out.now _ _ v.ensures.1.1.1 v.ensures.1.1.0 _ w.ensures.1))
