-- One turn of a product.
use Rattle.std.specs.Prelude.{List, length}
use Rattle.flat_core.specs.declared.step.WireId.{WireId}
use Rattle.bit_arith.specs.declared.operand.Operand.{Operand}
use Rattle.bit_arith.specs.Built.{Built, Setting, new_wires, next_wires, all_made}
use Rattle.bit_arith.specs.Rows.{flip_up, products, add_into}

-- the multiple of a number by one bit, on new wires, and added to wires
abbrev pub multiple_into : Setting → List WireId → Operand → List Operand → Built → Built
multiple_into at ws p qs b =
    let multiple = next_wires (length qs) b in
    add_into at ws (all_made multiple) (flip_up at multiple (products p qs) (new_wires (length qs) b))
