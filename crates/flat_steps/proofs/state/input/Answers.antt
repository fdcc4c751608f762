use Rattle.std.proofs.Common.{◌≡◌, ℕ, suc, ◌+◌, ◌-◌, refl, sym, ap, ◌∙◌, subst, arith, true, false, List}
use Rattle.std.proofs.lemmas.List.{append-nil}
use Rattle.std.proofs.lemmas.Result.{err_from_is_err_and}
use Rattle.silq_types.specs.Types.{shape_bits}
use Rattle.bit_arith.specs.declared.operand.Operand.{Operand}
use Rattle.bit_arith.specs.Built.{begun}
use Rattle.bit_arith.specs.Calls.{Building, Refused, Went}
use Rattle.bit_arith.proofs.Chained.{refused_later}
use Rattle.flat_form.specs.declared.known.TypedBits.{TypedBits}
use Rattle.flat_form.specs.Flat.{input_wires}
use Rattle.flat_steps.proofs.Inputs.{input_wire, input_grows, one_input, made_more}
use Rattle.flat_steps.proofs.state.input.Goals as goal

pub returns-in_err-wire-clause-refused : goal.returns-in_err-wire-clause-refused
returns-in_err-wire-clause-refused c =
    let p = err_from_is_err_and c.from_residual.result c.from_residual.ensures.1 in
    let rest : ℕ = shape_bits c.args.shape - (c.loop.counter + 1) in
    let later = refused_later c.in_err-wire.field-0.0 (input_grows rest (input_wire (begun c.loop.builder.draft))) c.in_err-wire.ensures.refused in
    rw (p.1, p.2) (subst (Refused c.in_err-wire.field-0.0) (c.loop.invariant.built (suc rest) (omega arith)) later)

pub loop-preserved : goal.loop-preserved
loop-preserved c =
    let one = one_input c.loop.builder c.wire.new.self c.in_ok-wire.ensures.made.1 c.in_ok-wire.ensures.ok in record {
      built = λ rest e. ap (input_wires rest) (sym one) ∙ c.loop.invariant.built (suc rest) (omega arith);
      kept = ap (λ (b : Building). b.setting) c.in_ok-wire.ensures.made.1 ∙ c.loop.invariant.kept;
      answer = λ rest e. made_more c.loop.operands c.push.new.self c.loop.builder c.wire.new.self c.in_ok-wire.wire rest c.in_ok-wire.ensures.made.1 c.in_ok-wire.ensures.made.0 c.in_ok-push.ensures.ok ∙ c.loop.invariant.answer (suc rest) (omega arith);
    }

pub returns-clause-answer : goal.returns-clause-answer
returns-clause-answer c =
    ap (λ (ps : List Operand). let v : TypedBits = record { classical = false; shape = c.args.shape; operands = ps; own = true; began = 0 } in v) (sym (append-nil c.loop.operands) ∙ c.loop.invariant.answer 0 (omega arith))

pub returns-clause-ok : goal.returns-clause-ok
returns-clause-ok c =
    let e : begun c.loop.builder.draft ≡ input_wires (shape_bits c.args.shape) (begun c.args.builder.now.draft) = c.loop.invariant.built 0 (omega arith) in
    subst (Went c.args.builder.now c.loop.builder) e (record { within = refl; built = refl; kept = c.loop.invariant.kept })
