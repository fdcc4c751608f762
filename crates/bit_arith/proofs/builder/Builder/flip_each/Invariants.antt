use Rattle.std.proofs.Common.{drop}
use Rattle.bit_arith.specs.Built.{begun}
use Rattle.bit_arith.specs.Rows.{flip_each}
use Rattle.bit_arith.proofs.Going.{Going}
use Rattle.bit_arith.proofs.builder.Builder.flip_each.Given as goal

abbrev pub invariant-loop-i : goal.invariant-loop-i
invariant-loop-i l =
    Going l.fn.self l.self (λ at b. flip_each at (drop l.i l.wires) (drop l.i l.list) b) (flip_each l.fn.self.setting l.wires l.list (begun l.fn.self.draft))
