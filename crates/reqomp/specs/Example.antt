-- Simple and marked wires of some flat forms.
use Rattle.std.specs.Prelude.{◌≡◌, ℕ, ◌<◌, ◌≤◌, true, false, List, [], ◌∷◌, ◌++◌, replicate, Option, Some, None}
use Rattle.flat_core.specs.declared.step.Step.{Step}
use Rattle.flat_core.specs.declared.step.Step.TheVariants.{X, H}
use Rattle.flat_core.specs.declared.step.End.TheVariants.{Output, Dropped}
use Rattle.flat_core.specs.declared.step.Lit.{Lit}
use Rattle.flat_core.specs.Form.{WireForm, FlatForm}
use Rattle.flat_core.specs.Label.{step_id, wire_id}
use Rattle.graph_core.specs.declared.vertex.Vertex.TheVariants.{Forward, Reverse}
use Rattle.reqomp.specs.Simple.{simple_wires, marked_at}
use Rattle.reqomp.specs.Redone.{redone}

abbrev pub on_wire : ℕ → Option Lit
on_wire n = Some (record { wire = wire_id n; positive = true })

abbrev pub input_wire : WireForm
input_wire = record { input = true; ending = Output }

abbrev pub dropped_wire : WireForm
dropped_wire = record { input = false; ending = Dropped }

-- a form with so many input wires, which are results, and then so many new wires, which are dropped
abbrev pub form_of : ℕ → ℕ → List Step → FlatForm
form_of inputs others steps = record {
  wires = replicate inputs input_wire ++ replicate others dropped_wire;
  steps = steps;
  lines = [];
  outcomes = 0;
  ins = [];
  outs = [];
}

-- z := a && b && c; x ^= z
abbrev pub xor_of_ands : FlatForm
xor_of_ands = form_of 4 2 (X (wire_id 4) (on_wire 0) (on_wire 1) ∷ (X (wire_id 5) (on_wire 4) (on_wire 2) ∷ (X (wire_id 3) (on_wire 5) None ∷ [])))

-- t1 := a && b; t2 := c && d; x ^= t1; x ^= t2; x ^= t1
abbrev pub two_ands : FlatForm
two_ands = form_of 5 2 (
    X (wire_id 5) (on_wire 0) (on_wire 1) ∷ (X (wire_id 6) (on_wire 2) (on_wire 3)
    ∷ (X (wire_id 4) (on_wire 5) None ∷ (X (wire_id 4) (on_wire 6) None ∷ (X (wire_id 4) (on_wire 5) None ∷ []))))
    )

-- w := dup(a); y := w && x; o ^= y; w ^= b; if w { x := H(x); }
abbrev pub changed_copy : FlatForm
changed_copy = form_of 4 2 (
    X (wire_id 4) (on_wire 0) None ∷ (X (wire_id 5) (on_wire 4) (on_wire 2)
    ∷ (X (wire_id 3) (on_wire 5) None ∷ (X (wire_id 4) (on_wire 1) None ∷ (H (wire_id 2) (on_wire 4) ∷ []))))
    )

-- which wires are simple, and which of them are marked
pub record ExampleMarks : Type 0 where
  -- each temporary of the two forms with ands is used at its top only
  pub simple_of_xor : simple_wires xor_of_ands ≡ wire_id 4 ∷ (wire_id 5 ∷ [])
  pub simple_of_two : simple_wires two_ands ≡ wire_id 5 ∷ (wire_id 6 ∷ [])
  -- a copy that is changed after a use is not simple
  pub simple_of_changed : simple_wires changed_copy ≡ wire_id 5 ∷ []
  -- level 0 marks nothing, levels 1 to 8 mark the first of two simple wires, and levels 9 to 16 both
  pub none_at_first : marked_at two_ands 0 ≡ []
  pub first_from_one : marked_at two_ands 1 ≡ wire_id 5 ∷ []
  pub first_to_eight : marked_at two_ands 8 ≡ wire_id 5 ∷ []
  pub both_from_nine : marked_at two_ands 9 ≡ wire_id 5 ∷ (wire_id 6 ∷ [])
  pub both_to_last : marked_at two_ands 16 ≡ wire_id 5 ∷ (wire_id 6 ∷ [])
  pub first_of_levels : (k : ℕ) → 0 < k → k ≤ 8 → marked_at two_ands k ≡ wire_id 5 ∷ []

-- the steps that are done again at the last level and at level 1
pub record ExampleRedone : Type 0 where
  -- the use of the second and does both ands again, or the second alone where the first is not marked
  pub both : redone xor_of_ands (marked_at xor_of_ands 16) (Forward (step_id 2)) ≡ step_id 0 ∷ (step_id 1 ∷ [])
  pub first_alone : redone xor_of_ands (marked_at xor_of_ands 1) (Reverse (step_id 1)) ≡ step_id 0 ∷ []
  pub none_again : redone xor_of_ands (marked_at xor_of_ands 1) (Forward (step_id 2)) ≡ []
  -- each use of one of two ands does that one again
  pub use_of_first : redone two_ands (marked_at two_ands 16) (Forward (step_id 4)) ≡ step_id 0 ∷ []
  pub use_of_second : redone two_ands (marked_at two_ands 16) (Forward (step_id 3)) ≡ step_id 1 ∷ []
