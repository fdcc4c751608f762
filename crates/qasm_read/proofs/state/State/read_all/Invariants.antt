use Rattle.std.proofs.Common.{◌≡◌, length}
use Rattle.qasm_read.specs.Step.{spelled}
use Rattle.qasm_read.proofs.state.State.read_all.Given as goal

abbrev pub invariant-loop : goal.invariant-loop
invariant-loop l = spelled l.fn.reader l.fn.self ≡ spelled l.reader l.self

abbrev pub decreases-loop : goal.decreases-loop
decreases-loop l = length l.reader.items
