-- Wire 1 copies the input wire 0; wire 0 is turned by an H, and the copy then flips it.
use Rattle.std.specs.Prelude.{ℕ, true, false, [], ◌∷◌, Some, None}
use Rattle.flat_core.specs.declared.step.Step.TheVariants.{X, H}
use Rattle.flat_core.specs.declared.step.End.TheVariants.{Output, Dropped}
use Rattle.flat_core.specs.declared.step.Lit.{Lit}
use Rattle.flat_core.specs.Form.{FlatForm}
use Rattle.flat_core.specs.Label.{step_id, wire_id}
use Rattle.graph_core.specs.declared.vertex.Vertex.TheVariants.{Forward, Reverse}
use Rattle.graph_core.specs.Circuit.{circuit_graph}
use Rattle.graph_core.specs.Digraph.{IsCycle}

abbrev pub on_wire : ℕ → Lit
on_wire n = record { wire = wire_id n; positive = true }

abbrev pub example : FlatForm
example = record {
  wires = record { input = true; ending = Output } ∷ (record { input = false; ending = Dropped } ∷ []);
  steps = X (wire_id 1) (Some (on_wire 0)) None ∷ (H (wire_id 0) None ∷ (X (wire_id 0) (Some (on_wire 1)) None ∷ []));
  lines = 1 ∷ (1 ∷ (1 ∷ []));
  outcomes = 0;
  ins = (wire_id 0 ∷ []) ∷ [];
  outs = (wire_id 0 ∷ []) ∷ [];
}

abbrev pub ExampleHasCycle : Type 0
ExampleHasCycle = IsCycle (circuit_graph example) (Forward (step_id 1) ∷ (Forward (step_id 2) ∷ (Reverse (step_id 0) ∷ [])))
