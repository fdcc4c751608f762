use Rattle.std.proofs.Common.{◌≡◌, sym, ap, ◌∙◌, subst, inl, inr, Some}
use Rattle.std.proofs.lemmas.Bool.{both_ways}
use Rattle.flat_core.specs.Form.{FlatForm}
use Rattle.flat_core.specs.declared.step.Step.{Step}
use Rattle.flat_core.specs.Label.{Names, step_at, second_wire, label_before}
use Rattle.flat_core.proofs.FlatRead.{step_there, read_step, read_main, read_first, read_second}
use Rattle.flat_core.proofs.flat.Flat.label_before.Goals as goal

pub returns-then-is_it : goal.returns-then-is_it
returns-then-is_it c =
    read_main c.self.inside.wires.items c.self.inside.steps.items c.self.invariant.labels c.args.s c.index-row.result.now (step_there c.self.inside.wires.items c.self.inside.steps.items c.self.inside.outcomes c.self.inside.ins c.self.inside.outs c.args.self.now c.args.s.number c.self.view_is c.requires.there) c.index-row.ensures c.args.w (sym c.main_wire.ensures ∙ c.is_it.ensures.0 c.if-is_it.true)
    ∙ ap (λ (f : FlatForm). label_before f c.args.s c.args.w) c.self.view_is

pub returns-then-is_it-2 : goal.returns-then-is_it-2
returns-then-is_it-2 c =
    read_first c.self.inside.wires.items c.self.inside.steps.items c.self.invariant.labels c.args.s c.index-row.result.now (step_there c.self.inside.wires.items c.self.inside.steps.items c.self.inside.outcomes c.self.inside.ins c.self.inside.outs c.args.self.now c.args.s.number c.self.view_is c.requires.there) c.index-row.ensures c.args.w (sym c.first_wire.ensures ∙ c.is_it-else-is_it.ensures.0 c.if-is_it-2.true)
    ∙ ap (λ (f : FlatForm). label_before f c.args.s c.args.w) c.self.view_is

pub returns-else-is_it-2 : goal.returns-else-is_it-2
returns-else-is_it-2 c =
    let row = c.index-row.result.now in
    let named : Names row.step c.args.w = subst (λ (s : Step). Names s c.args.w) (ap (λ (f : FlatForm). step_at f c.args.s) (sym c.self.view_is) ∙ read_step c.self.inside.wires.items c.self.inside.steps.items c.self.invariant.labels c.args.s row (step_there c.self.inside.wires.items c.self.inside.steps.items c.self.inside.outcomes c.self.inside.ins c.self.inside.outs c.args.self.now c.args.s.number c.self.view_is c.requires.there) c.index-row.ensures) c.requires.named in
    let second : second_wire row.step ≡ Some c.args.w = elim named [
      | inl m ↦ absurd (both_ways c.is_it.result c.if-is_it.false (c.is_it.ensures.1 (c.main_wire.ensures ∙ m)))
      | inr r ↦ elim r [
        | inl f ↦ absurd (both_ways c.is_it-else-is_it.result c.if-is_it-2.false (c.is_it-else-is_it.ensures.1 (c.first_wire.ensures ∙ f)))
        | inr s ↦ s
      ]
    ] in
    read_second c.self.inside.wires.items c.self.inside.steps.items c.self.invariant.labels c.args.s row (step_there c.self.inside.wires.items c.self.inside.steps.items c.self.inside.outcomes c.self.inside.ins c.self.inside.outs c.args.self.now c.args.s.number c.self.view_is c.requires.there) c.index-row.ensures c.args.w second
    ∙ ap (λ (f : FlatForm). label_before f c.args.s c.args.w) c.self.view_is
