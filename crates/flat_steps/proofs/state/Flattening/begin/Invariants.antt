use Rattle.std.proofs.Common.{◌≡◌, ◌++◌, drop, reverse, None}
use Rattle.flat_core.specs.Drafts.{empty_draft}
use Rattle.bit_arith.specs.Built.{Setting, begun}
use Rattle.flat_form.specs.Flat.{inputs}
use Rattle.flat_steps.proofs.state.Flattening.begin.Given as goal

abbrev pub invariant-loop-shape : goal.invariant-loop-shape
invariant-loop-shape l = record {
  built : (inputs (drop l.shape-index l.shapes) (begun l.builder.draft)).built ≡ (inputs l.shapes (begun empty_draft)).built;
  answer : reverse l.values ++ (inputs (drop l.shape-index l.shapes) (begun l.builder.draft)).answer ≡ (inputs l.shapes (begun empty_draft)).answer;
  setting : ◌≡◌ {A = Setting} l.builder.setting (record { line = 1; condition = None });
}
