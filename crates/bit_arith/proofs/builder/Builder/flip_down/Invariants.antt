use Rattle.std.proofs.Common.{◌≤◌, length, drop}
use Rattle.bit_arith.specs.Built.{begun}
use Rattle.bit_arith.specs.Rows.{flip_down, pairs}
use Rattle.bit_arith.specs.Calls.{Went}
use Rattle.bit_arith.proofs.builder.Builder.flip_down.Given as goal

-- what is done so far
abbrev pub invariant-loop-i : goal.invariant-loop-i
invariant-loop-i l = record {
  within : l.i ≤ length l.wires;
  done : Went l.fn.self l.self (flip_down l.fn.self.setting (drop l.i l.wires) (pairs (drop l.i l.a) (drop l.i l.b)) (begun l.fn.self.draft));
}

abbrev pub decreases-loop-i : goal.decreases-loop-i
decreases-loop-i l = l.i
