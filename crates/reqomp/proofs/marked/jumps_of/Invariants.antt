-- The rows of the first steps.
use Rattle.std.proofs.Common.{List}
use Rattle.flat_core.specs.declared.step.WireId.{WireId}
use Rattle.reqomp.specs.Marking.{AreFlagsOf}
use Rattle.reqomp.proofs.Jumps.{AreFirstJumps}
use Rattle.reqomp.proofs.marked.jumps_of.Given as goal

abbrev pub invariant-loop-i : goal.invariant-loop-i
invariant-loop-i l = (wires : List WireId) → AreFlagsOf l.flags wires → AreFirstJumps l.flat wires l.i l.last l.jumps.items
