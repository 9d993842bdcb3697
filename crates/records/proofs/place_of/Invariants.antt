-- `place_of` meets its contract. The loop's invariant: the records left lead from here to where all lead from the start, and each record passed
-- took at most 255 bytes. Assumes nothing.
use Rattle.std.proofs.Common.{◌≡◌, ◌-◌, ◌*◌, ◌≤◌}
use Rattle.records.specs.Buffer.{place_of}
use Rattle.records.proofs.place_of.Given as goal

abbrev pub invariant-loop : goal.invariant-loop
invariant-loop l = (l.at ≤ 255 * l.counter) × (place_of l.b (l.n - l.counter) l.at ≡ place_of l.b l.n 0)
