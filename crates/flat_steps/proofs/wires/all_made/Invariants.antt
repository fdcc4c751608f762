use Rattle.std.proofs.Common.{◌≡◌, ◌++◌, drop}
use Rattle.bit_arith.specs.Built.{all_made}
use Rattle.flat_steps.proofs.wires.all_made.Given as goal

abbrev pub invariant-loop-wire : goal.invariant-loop-wire
invariant-loop-wire l = l.list ++ all_made (drop l.wire-index l.wires) ≡ all_made l.wires
