use Rattle.std.proofs.Common.{[]}
use Rattle.bit_arith.specs.Rows.{flip}
use Rattle.bit_arith.proofs.Grows.{flip_x}
use Rattle.bit_arith.proofs.Going.{refused_out}
use Rattle.flat_form.specs.State.{last, drop_last}
use Rattle.flat_steps.proofs.Holding.{Gate, GateGrows, wire_refused}
use Rattle.flat_steps.proofs.state.Flattening.flip_last.Goals as goal

abbrev gate : Gate
gate at w b = flip at w [] b

grows : GateGrows gate
grows at w b = (flip_x at w [] b).grows

pub returns-in_err-bit-clause-refused : goal.returns-in_err-bit-clause-refused
returns-in_err-bit-clause-refused c =
    refused_out _ _ _ c.from_residual.ensures.1 (wire_refused gate grows (last c.args.self.now) (drop_last c.args.self.now) _ c.in_err-bit.ensures.refused)
