-- A form of which nothing touches the outputs.
use Rattle.std.specs.Prelude.{true, false, [], ◌∷◌}
use Rattle.flat_core.specs.declared.step.End.TheVariants.{Output, Zeroed}
use Rattle.flat_core.specs.Form.{FlatForm, DraftForm}
use Rattle.flat_core.specs.Label.{wire_id}
use Rattle.flat_core.specs.Drafts.{finished}

abbrev pub untouched_draft : DraftForm
untouched_draft = record {
  wires = record { input = false; ending = Output } ∷ record { input = true; ending = Output } ∷ record { input = false; ending = Output } ∷ record { input = false; ending = Zeroed } ∷ [];
  steps = [];
  lines = [];
}

abbrev pub untouched : FlatForm
untouched = finished untouched_draft ((wire_id 1 ∷ []) ∷ []) ((wire_id 0 ∷ wire_id 1 ∷ wire_id 2 ∷ []) ∷ [])
