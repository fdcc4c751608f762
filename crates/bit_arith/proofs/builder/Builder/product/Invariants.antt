use Rattle.std.proofs.Common.{◌-◌, length, drop, take}
use Rattle.bit_arith.specs.Built.{begun}
use Rattle.bit_arith.specs.Rows.{product_into}
use Rattle.bit_arith.proofs.Going.{Going}
use Rattle.bit_arith.proofs.builder.Builder.product.Given as goal

-- from the new wires on
abbrev pub invariant-loop-i : goal.invariant-loop-i
invariant-loop-i l =
    Going l.initial.self l.self (λ at b. product_into at (drop l.i l.wires.items) (drop l.i l.a) (take (length l.b - l.i) l.b) b) (product_into l.initial.self.setting l.wires.items l.a l.b (begun l.initial.self.draft))
