use Rattle.std.proofs.Common.{ap, ◌∙◌, ◌<◌, length, arith}
use Rattle.flat_core.specs.Form.{DraftForm}
use Rattle.flat_core.specs.Drafts.{with_end}
use Rattle.flat_core.proofs.KeptLabels.{length-wire_forms}
use Rattle.flat_core.proofs.RowsKept.{rows_end, draft_of-end}
use Rattle.flat_core.proofs.draft.Draft.end.Goals as goal

there : (c : goal.After-self-1) → c.args.w.number < length c.self.inside.wires.items
there c =
    let same = length-wire_forms c.self.inside.wires.items in
    let view = ap (λ (d : DraftForm). length d.wires) c.self.view_is in
    let asked = c.requires in
    omega arith

pub invariant_of-self : goal.invariant_of-self
invariant_of-self c = rows_end c.self.inside.wires.items c.self.inside.steps.items c.args.w c.index_mut-row.result.now c.args.end (there c) c.index_mut-row.ensures.value c.self.inside.outcomes c.self.invariant

pub returns : goal.returns
returns c =
    draft_of-end c.self.inside.wires.items c.self.inside.steps.items c.args.w c.index_mut-row.result.now c.args.end (there c) c.index_mut-row.ensures.value
    ∙ ap (λ (d : DraftForm). with_end d c.args.w c.args.end) c.self.view_is
