use Rattle.std.proofs.Common.{◌≡◌, ℕ, ◌+◌, ◌++◌, length}
use Rattle.silq_types.specs.Types.{shape_bits}
use Rattle.bit_arith.specs.Built.{begun, all_made, wires_from}
use Rattle.flat_form.specs.Flat.{input_wires}
use Rattle.flat_steps.proofs.state.input.Given as goal

abbrev pub invariant-loop : goal.invariant-loop
invariant-loop l = record {
  built : (rest : ℕ) → rest + l.counter ≡ shape_bits l.shape → input_wires rest (begun l.builder.draft) ≡ input_wires (shape_bits l.shape) (begun l.fn.builder.draft);
  kept : l.builder.setting ≡ l.fn.builder.setting;
  answer : (rest : ℕ) → rest + l.counter ≡ shape_bits l.shape → l.operands ++ all_made (wires_from (length l.builder.draft.wires) rest) ≡ all_made (wires_from (length l.fn.builder.draft.wires) (shape_bits l.shape));
}
