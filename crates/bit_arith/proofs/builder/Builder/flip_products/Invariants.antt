use Rattle.std.proofs.Common.{drop}
use Rattle.bit_arith.specs.Built.{begun}
use Rattle.bit_arith.specs.Rows.{flip_up, products}
use Rattle.bit_arith.proofs.Going.{Going}
use Rattle.bit_arith.proofs.builder.Builder.flip_products.Given as goal

abbrev pub invariant-loop-i : goal.invariant-loop-i
invariant-loop-i l =
    Going l.fn.self l.self (λ at b. flip_up at (drop l.i l.wires) (products l.p (drop l.i l.list)) b) (flip_up l.fn.self.setting l.wires (products l.p l.list) (begun l.fn.self.draft))
