use Rattle.std.proofs.Common.{◌+◌, drop, sym, ap, ◌∙◌, subst, arith, List, get_or}
use Rattle.std.proofs.lemmas.List.{drop_more}
use Rattle.std.proofs.lemmas.Result.{err_from_is_err_and}
use Rattle.silq_types.specs.declared.types.Shape.{Shape}
use Rattle.silq_types.specs.declared.types.Shape.TheVariants.{Bit}
use Rattle.silq_types.specs.Types.{shape_bits}
use Rattle.bit_arith.specs.Built.{begun}
use Rattle.bit_arith.specs.Calls.{Refused}
use Rattle.bit_arith.proofs.Chained.{refused_later}
use Rattle.flat_form.specs.Flat.{input_wires, inputs}
use Rattle.flat_steps.proofs.Inputs.{inputs_grows}
use Rattle.flat_steps.proofs.state.Flattening.begin.Goals as goal

pub returns-in_err-parameter-clause-refused : goal.returns-in_err-parameter-clause-refused
returns-in_err-parameter-clause-refused c =
    let p = err_from_is_err_and c.from_residual.result c.from_residual.ensures.1 in
    let ss = c.args.shapes.now in let i = c.loop-shape.shape-index in let b = begun c.loop-shape.builder.draft in let s = get_or ss i Bit in
    let later = refused_later c.in_err-parameter.field-0.0 (inputs_grows (drop (i + 1) ss) (input_wires (shape_bits s) b)) c.in_err-parameter.ensures.refused in
    let all = ap (λ (z : List Shape). (inputs z b).built) (sym (drop_more ss i Bit (omega arith))) ∙ c.loop-shape.invariant.built in
    rw (p.1, p.2) (subst (Refused c.in_err-parameter.field-0.0) all later)
