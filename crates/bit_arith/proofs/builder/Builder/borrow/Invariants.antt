use Rattle.std.proofs.Common.{length, drop, false}
use Rattle.bit_arith.specs.declared.operand.Operand.TheVariants.{Const}
use Rattle.bit_arith.specs.Built.{begun}
use Rattle.bit_arith.specs.Rows.{borrow}
use Rattle.bit_arith.specs.Calls.{Safe, no_target}
use Rattle.bit_arith.proofs.Going.{Going}
use Rattle.bit_arith.proofs.builder.Builder.borrow.Given as goal

abbrev pub invariant-loop-i : goal.invariant-loop-i
invariant-loop-i l = record {
  going : Going l.fn.self l.self (λ at b. borrow at l.carry (drop l.i l.a) (drop l.i l.b) b) (borrow l.fn.self.setting (Const false) l.a l.b (begun l.fn.self.draft));
  safe : Safe (length l.self.draft.wires) no_target l.carry;
}
