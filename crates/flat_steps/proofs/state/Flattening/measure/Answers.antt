use Rattle.std.proofs.Common.{List, length, sym, ap, ◌∙◌, subst}
use Rattle.flat_core.specs.declared.step.WireId.{WireId}
use Rattle.flat_core.specs.declared.step.End.TheVariants.{Measured}
use Rattle.bit_arith.specs.Built.{begun}
use Rattle.bit_arith.specs.Calls.{Building}
use Rattle.bit_arith.specs.Does.{Below}
use Rattle.flat_form.specs.declared.known.TypedBits.{TypedBits}
use Rattle.flat_form.specs.Flat.{end_all}
use Rattle.flat_steps.specs.Held.{Held}
use Rattle.flat_steps.specs.contracts.state.Flattening.{the_view}
use Rattle.flat_steps.proofs.Holding.{given_state}
use Rattle.bit_arith.proofs.Going.{refused_out}
use Rattle.flat_form.specs.State.{Flattening, last, drop_last, wires_in}
use Rattle.flat_steps.proofs.Measures.{value_refused, ends_there, measure_refused, measure_given}
use Rattle.flat_steps.proofs.state.Flattening.measure.Goals as goal

pub returns-in_err-value-clause-refused : goal.returns-in_err-value-clause-refused
returns-in_err-value-clause-refused c =
    refused_out _ _ _ c.from_residual.ensures.1 (value_refused (last c.args.self.now) (drop_last c.args.self.now) _ c.in_err-value.ensures.refused)

pub returns-in_err-measure_all-clause-refused : goal.returns-in_err-measure_all-clause-refused
returns-in_err-measure_all-clause-refused c =
    refused_out _ _ _ c.from_residual-in_err-measure_all.ensures.1
    (measure_refused c.args.self.now _ c.in_ok-value.value c.as_slice-2.result.now c.in_ok-value.ensures.value (c.self.view_is ∙ c.in_ok-value.ensures.ok)
    (c.as_slice-2.ensures.value ∙ c.in_ok-wires.ensures ∙ ap wires_in c.as_slice.ensures) _ c.in_err-measure_all.ensures.refused)

pub end_all-requires : goal.end_all-requires
end_all-requires c =
    let v : TypedBits = c.in_ok-value.value in
    subst (λ (ws : List WireId). Below (length c.measure_all.new.builder.draft.wires) ws) (c.as_slice-2.ensures.value ∙ sym c.as_slice-3.ensures.value)
    (ends_there v c.self.inside.builder c.measure_all.new.builder c.as_slice-2.result.now (c.as_slice-2.ensures.value ∙ c.in_ok-wires.ensures ∙ ap wires_in c.as_slice.ensures)
    (subst (λ (s : Flattening). Held v s.built.draft s.setting) (sym c.self.view_is) c.in_ok-value.ensures.held) c.in_ok-measure_all.ensures.ok)

pub returns-clause-ok : goal.returns-clause-ok
returns-clause-ok c =
    let e = c.end_all.ensures in
    given_state (begun c.end_all.new.builder.draft) _ (the_view c.self.inside) c.end_all.new.builder.setting c.push.new.self
    (ap (λ (b : Building). b.setting) e ∙ c.in_ok-measure_all.ensures.ok.kept) c.in_ok-push.ensures
    ∙ measure_given c.args.self.now _ c.in_ok-value.value c.as_slice-2.result.now c.in_ok-value.ensures.value (c.self.view_is ∙ c.in_ok-value.ensures.ok)
    (c.as_slice-2.ensures.value ∙ c.in_ok-wires.ensures ∙ ap wires_in c.as_slice.ensures) c.measure_all.new.builder c.end_all.new.builder.draft c.in_ok-measure_all.ensures.ok
    (ap (λ (b : Building). b.draft) e ∙ ap (λ (ws : List WireId). (end_all Measured ws (begun c.measure_all.new.builder.draft)).draft) (c.as_slice-3.ensures.value ∙ sym c.as_slice-2.ensures.value))
