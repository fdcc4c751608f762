use Rattle.std.proofs.Common.{ℕ, [], ◌∷◌}
use Rattle.bit_arith.specs.Built.{made, negated}
use Rattle.bit_arith.specs.Rows.{turn}
use Rattle.bit_arith.proofs.Grows.{turn_x, x_then}
use Rattle.bit_arith.proofs.Going.{refused_out}
use Rattle.flat_form.specs.State.{last, drop_last}
use Rattle.flat_form.specs.Flat.{turn_both}
use Rattle.flat_steps.proofs.Holding.{GateGrows, wire_refused}
use Rattle.flat_steps.proofs.state.Flattening.turn_by.Goals as goal

grows : (k l : ℕ) → GateGrows (turn_both k l)
grows k l at w b = (x_then (turn_x at l (negated (made w) ∷ []) b) (turn_x at k (made w ∷ []) (turn at l (negated (made w) ∷ []) b))).grows

pub returns-in_err-bit-clause-refused : goal.returns-in_err-bit-clause-refused
returns-in_err-bit-clause-refused c =
    refused_out _ _ _ c.from_residual.ensures.1 (wire_refused (turn_both c.args.one c.args.zero) (grows c.args.one c.args.zero) (last c.args.self.now) (drop_last c.args.self.now) _ c.in_err-bit.ensures.refused)
