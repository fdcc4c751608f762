use Rattle.std.proofs.Common.{drop}
use Rattle.bit_arith.specs.Built.{begun}
use Rattle.bit_arith.specs.Rows.{flip_up, triples}
use Rattle.bit_arith.proofs.Going.{Going}
use Rattle.bit_arith.proofs.builder.Builder.flip_by_three.Given as goal

abbrev pub invariant-loop-i : goal.invariant-loop-i
invariant-loop-i l =
    Going l.fn.self l.self (λ at b. flip_up at (drop l.i l.wires) (triples (drop l.i l.a) (drop l.i l.b) (drop l.i l.c)) b) (flip_up l.fn.self.setting l.wires (triples l.a l.b l.c) (begun l.fn.self.draft))
