use Rattle.bit_arith.specs.Rows.{had}
use Rattle.bit_arith.proofs.Grows.{had_x}
use Rattle.bit_arith.proofs.Going.{refused_out}
use Rattle.flat_form.specs.State.{last, drop_last}
use Rattle.flat_steps.proofs.Holding.{GateGrows, wire_refused}
use Rattle.flat_steps.proofs.state.Flattening.mix.Goals as goal

grows : GateGrows had
grows at w b = (had_x at w b).grows

pub returns-in_err-bit-clause-refused : goal.returns-in_err-bit-clause-refused
returns-in_err-bit-clause-refused c =
    refused_out _ _ _ c.from_residual.ensures.1 (wire_refused had grows (last c.args.self.now) (drop_last c.args.self.now) _ c.in_err-bit.ensures.refused)
