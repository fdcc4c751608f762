use Rattle.std.proofs.Common.{◌≡◌, length, drop}
use Rattle.bit_arith.specs.Built.{begun}
use Rattle.bit_arith.specs.Does.{Below}
use Rattle.flat_form.specs.Flat.{end_all}
use Rattle.flat_steps.proofs.ends.end_all.Given as goal

abbrev pub invariant-loop-wire : goal.invariant-loop-wire
invariant-loop-wire l = record {
  same : length l.builder.draft.wires ≡ length l.fn.builder.draft.wires;
  below : Below (length l.fn.builder.draft.wires) (drop l.wire-index l.wires);
  rest : (end_all l.end (drop l.wire-index l.wires) (begun l.builder.draft)).draft ≡ (end_all l.end l.wires (begun l.fn.builder.draft)).draft;
  kept : l.builder.setting ≡ l.fn.builder.setting;
}
