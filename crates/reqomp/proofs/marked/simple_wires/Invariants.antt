-- The simple wires of the first steps.
use Rattle.std.proofs.Common.{◌≡◌, take}
use Rattle.reqomp.specs.Simple.{simple_from}
use Rattle.reqomp.proofs.marked.simple_wires.Given as goal

abbrev pub invariant-loop-i : goal.invariant-loop-i
invariant-loop-i l = l.wires ≡ simple_from l.flat 0 (take l.i l.flat.steps)
