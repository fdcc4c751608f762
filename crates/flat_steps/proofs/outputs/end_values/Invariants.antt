use Rattle.std.proofs.Common.{◌≡◌, length, drop}
use Rattle.bit_arith.specs.Built.{begun}
use Rattle.bit_arith.specs.Does.{Below}
use Rattle.flat_form.specs.Flat.{end_all, wire_lists, joined}
use Rattle.flat_form.specs.Names.{AllOf}
use Rattle.flat_steps.proofs.outputs.end_values.Given as goal

abbrev pub invariant-loop-value : goal.invariant-loop-value
invariant-loop-value l = record {
  built : end_all l.end (joined (wire_lists (drop l.value-index l.values))) (begun l.builder.draft) ≡ end_all l.end (joined (wire_lists l.values)) (begun l.fn.builder.draft);
  kept : l.builder.setting ≡ l.fn.builder.setting;
  below : AllOf (λ ws. Below (length l.builder.draft.wires) ws) (wire_lists (drop l.value-index l.values));
}
