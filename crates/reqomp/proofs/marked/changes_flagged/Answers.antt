use Rattle.std.proofs.Common.{◌≡◌, Some, None, sym, ap, ◌∙◌, inl, inr}
use Rattle.flat_core.specs.Label.{step_at}
use Rattle.unqomp.specs.Making.{target_of}
use Rattle.reqomp.proofs.Passing.{one_of_target, one_of_none}
use Rattle.reqomp.proofs.marked.changes_flagged.Goals as goal

pub returns-in-P : goal.returns-in-P
returns-in-P c = λ wires are.
    let none : target_of (step_at c.args.flat.now c.args.s) ≡ None = ap target_of (sym c.step.ensures) ∙ elim c.in-P.is [ inl a ↦ ap target_of a.2 | inr a ↦ ap target_of a.2 ] in
    one_of_none (step_at c.args.flat.now c.args.s) none wires

pub returns-in-X : goal.returns-in-X
returns-in-X c = λ wires are.
    let f = c.args.flat.now in
    let target : target_of (step_at f c.args.s) ≡ Some c.in-X.target = ap target_of (sym c.step.ensures) ∙ elim c.in-X.is [ inl a ↦ ap target_of a.2 | inr a ↦ ap target_of a.1 ] in
    are c.in-X.target ∙ one_of_target (step_at f c.args.s) c.in-X.target target wires
