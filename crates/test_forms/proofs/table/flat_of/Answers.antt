use Rattle.std.proofs.Common.{◌≡◌, ◌<◌, length, ◌∙◌, subst}
use Rattle.flat_core.specs.declared.step.WireId.{WireId}
use Rattle.flat_core.specs.Form.{DraftForm}
use Rattle.flat_core.specs.Label.{wire_in}
use Rattle.test_forms.specs.Table.{wire_forms_of, WireFits}
use Rattle.test_forms.proofs.Fits.{made, draft_made, as_many_made, few_made, made_flat, table_flat}
use Rattle.test_forms.proofs.table.flat_of.Goals as goal

pub wires_fit-requires : goal.wires_fit-requires
wires_fit-requires c =
    let w = c.args.wires.now in
    let s = c.args.steps.now in
    as_many_made w s c.add_steps.new.draft (draft_made w s c.new-draft.result c.add_wires.new.draft c.add_steps.new.draft c.new-draft.ensures c.in_ok-add_wires.ensures c.in_ok-add_steps.ensures)

pub side_of-requires : goal.side_of-requires
side_of-requires c =
    let w = c.args.wires.now in
    let s = c.args.steps.now in
    few_made w s c.add_steps.new.draft (draft_made w s c.new-draft.result c.add_wires.new.draft c.add_steps.new.draft c.new-draft.ensures c.in_ok-add_wires.ensures c.in_ok-add_steps.ensures) c.outcomes-count.ensures.sound

pub side_of-requires-2 : goal.side_of-requires-2
side_of-requires-2 c =
    let w = c.args.wires.now in
    let s = c.args.steps.now in
    few_made w s c.add_steps.new.draft (draft_made w s c.new-draft.result c.add_wires.new.draft c.add_steps.new.draft c.new-draft.ensures c.in_ok-add_wires.ensures c.in_ok-add_steps.ensures) c.outcomes-count.ensures.sound

pub finish-requires : goal.finish-requires
finish-requires c =
    let w = c.args.wires.now in
    let s = c.args.steps.now in
    let d = c.add_steps.new.draft in
    let is : d ≡ made w s = draft_made w s c.new-draft.result c.add_wires.new.draft d c.new-draft.ensures c.in_ok-add_wires.ensures c.in_ok-add_steps.ensures in
    table_flat w s d c.in_ok-ins.ins c.in_ok-outs.outs is c.in_ok-ins.ensures c.in_ok-outs.ensures c.outcomes-count.ensures.sound
    (subst (λ (x : DraftForm). (v : WireId) → v.number < length w → WireFits x.steps (wire_in (wire_forms_of w) v) v) is (c.wires_fit.ensures.0 c.if-not-wires_fit.false))
    (c.steps_fit.ensures.0 c.if-not-steps_fit.false)

pub returns : goal.returns
returns c =
    let w = c.args.wires.now in
    let s = c.args.steps.now in
    let d = c.add_steps.new.draft in
    let is : d ≡ made w s = draft_made w s c.new-draft.result c.add_wires.new.draft d c.new-draft.ensures c.in_ok-add_wires.ensures c.in_ok-add_steps.ensures in
    c.finish.ensures ∙ made_flat w s d c.in_ok-ins.ins c.in_ok-outs.outs is c.in_ok-ins.ensures c.in_ok-outs.ensures
