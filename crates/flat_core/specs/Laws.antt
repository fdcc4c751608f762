-- Laws of flat forms, as facts.
use Rattle.std.specs.Prelude.{List}
use Rattle.flat_core.specs.declared.step.WireId.{WireId}
use Rattle.flat_core.specs.Form.{FlatForm, DraftForm}
use Rattle.flat_core.specs.Ends.{KeepsEnds}
use Rattle.flat_core.specs.Sound.{IsFlat}
use Rattle.flat_core.specs.Drafts.{IsDraft, FitsEnds, finished}

-- a flat form keeps its ends
abbrev pub FlatKeepsEnds : Type 0
FlatKeepsEnds = (f : FlatForm) → IsFlat f → KeepsEnds f

-- a draft becomes a flat form where its ends and the lists fit
abbrev pub DraftsBecomeFlat : Type 0
DraftsBecomeFlat = (d : DraftForm) (ins outs : List (List WireId)) → IsDraft d → FitsEnds (finished d ins outs) → IsFlat (finished d ins outs)
