use Rattle.std.proofs.Common.{length, drop}
use Rattle.bit_arith.specs.Built.{begun}
use Rattle.bit_arith.specs.Rows.{carry, carries}
use Rattle.bit_arith.specs.Calls.{Safe, no_target}
use Rattle.bit_arith.proofs.Going.{Going}
use Rattle.bit_arith.proofs.Turns.{prepend}
use Rattle.bit_arith.proofs.builder.Builder.carry.Given as goal

abbrev pub invariant-loop-i : goal.invariant-loop-i
invariant-loop-i l = record {
  going : Going l.fn.self l.self (λ at b. prepend l.carries.items (carries at l.carry (drop l.i l.a) (drop l.i l.b) b)) (carry l.fn.self.setting l.a l.b (begun l.fn.self.draft));
  safe : Safe (length l.self.draft.wires) no_target l.carry;
}
