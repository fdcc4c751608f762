-- The flags of the first simple wires.
use Rattle.std.proofs.Common.{◌≡◌, length, take}
use Rattle.reqomp.specs.Marking.{AreFlagsOf}
use Rattle.reqomp.proofs.marked.marks_at.Given as goal

abbrev pub invariant-loop-i : goal.invariant-loop-i
invariant-loop-i l = record {
  as_many : length l.flags.items ≡ length l.flat.wires;
  told : AreFlagsOf l.flags.items (take l.i l.simple);
}
