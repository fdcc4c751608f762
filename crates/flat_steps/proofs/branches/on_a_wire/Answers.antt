use Rattle.std.proofs.Common.{rules, ◌≡◌, [], ◌∷◌, ◌<◌, length, refl, sym, ap, ◌∙◌, subst, arith}
use Rattle.flat_core.specs.declared.step.WireId.{WireId}
use Rattle.bit_arith.specs.Built.{begun, made, next_wire}
use Rattle.bit_arith.proofs.Going.{went_as, refused_as, refused_out}
use Rattle.flat_steps.proofs.Branching.{copy_one, one_copy, one_there, only_one}
use Rattle.flat_steps.proofs.branches.on_a_wire.Goals as goal

pub returns-in_err-wires-clause-refused : goal.returns-in_err-wires-clause-refused
returns-in_err-wires-clause-refused c =
    refused_out _ _ _ c.from_residual.ensures.1
    (refused_as _ _ _ (copy_one c.args.builder.now.setting c.args.p (begun c.args.builder.now.draft)) c.in_err-wires.ensures.refused)

pub index-requires : goal.index-requires
index-requires c =
    let e : c.in_ok-wires.wires.items ≡ next_wire (begun c.args.builder.now.draft) ∷ [] = c.in_ok-wires.ensures.answer ∙ one_copy c.args.builder.now.setting c.args.p (begun c.args.builder.now.draft) in
    let l = ap length e in
    first_of (omega arith, search rules, grind arith)

pub returns-clause-safe : goal.returns-clause-safe
returns-clause-safe c =
    let w : WireId = next_wire (begun c.args.builder.now.draft) in
    let there : length c.args.builder.now.draft.wires < length c.copy.new.self.draft.wires = one_there c.args.builder.now.setting c.args.p c.args.builder.now.draft c.args.builder.now c.copy.new.self c.in_ok-wires.ensures.ok in
    let is : c.index.result.now ≡ w = only_one _ w _ (c.in_ok-wires.ensures.answer ∙ one_copy c.args.builder.now.setting c.args.p (begun c.args.builder.now.draft)) c.index.ensures in
    (subst (λ (v : WireId). v.number < length c.copy.new.self.draft.wires) (sym is) there, refl)

pub returns-clause-answer : goal.returns-clause-answer
returns-clause-answer c =
    let w : WireId = next_wire (begun c.args.builder.now.draft) in
    ap made (only_one _ w _ (c.in_ok-wires.ensures.answer ∙ one_copy c.args.builder.now.setting c.args.p (begun c.args.builder.now.draft)) c.index.ensures)

pub returns-clause-ok : goal.returns-clause-ok
returns-clause-ok c = went_as _ _ _ _ (copy_one c.args.builder.now.setting c.args.p (begun c.args.builder.now.draft)) c.in_ok-wires.ensures.ok
