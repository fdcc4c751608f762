use Rattle.std.proofs.Common.{◌≡◌, drop}
use Rattle.bit_arith.specs.Built.{begun}
use Rattle.bit_arith.specs.Calls.{AreTargets}
use Rattle.flat_form.specs.Flat.{measure_all}
use Rattle.flat_form.specs.Fine.{Distinct}
use Rattle.flat_steps.proofs.gates.measure_all.Given as goal

abbrev pub invariant-loop-wire : goal.invariant-loop-wire
invariant-loop-wire l = record {
  same : measure_all l.fn.builder.setting (drop l.wire-index l.wires) (begun l.builder.draft) ≡ measure_all l.fn.builder.setting l.wires (begun l.fn.builder.draft);
  kept : l.builder.setting ≡ l.fn.builder.setting;
  targets : AreTargets l.builder.draft (drop l.wire-index l.wires);
  distinct : Distinct (drop l.wire-index l.wires);
}
