use Rattle.std.proofs.Common.{◌≡◌, Some, None, eqb, length, sym, ap, ◌∙◌, inl, inr, arith}
use Rattle.std.proofs.lemmas.List.{get_or_read}
use Rattle.flat_core.specs.Label.{step_at}
use Rattle.unqomp.specs.Making.{target_of}
use Rattle.unqomp.proofs.Links.{target_there}
use Rattle.reqomp.proofs.Passing.{one_of_target, one_of_none}
use Rattle.reqomp.proofs.pass_back.Search.changes_found.Goals as goal

pub returns-in-P : goal.returns-in-P
returns-in-P c = λ wires are.
    let none : target_of (step_at c.args.flat.now c.args.s) ≡ None = ap target_of (sym c.step.ensures) ∙ elim c.in-P.is [ inl a ↦ ap target_of a.2 | inr a ↦ ap target_of a.2 ] in
    one_of_none (step_at c.args.flat.now c.args.s) none wires

pub returns-in-X : goal.returns-in-X
returns-in-X c = λ wires are.
    let f = c.args.flat.now in
    let target : target_of (step_at f c.args.s) ≡ Some c.in-X.target = ap target_of (sym c.step.ensures) ∙ elim c.in-X.is [ inl a ↦ ap target_of a.2 | inr a ↦ ap target_of a.1 ] in
    let there = target_there (step_at f c.args.s) (length f.wires) c.in-X.target (c.requires.sound.in_range c.args.s c.requires.there) target in
    let many = c.requires.search.as_many in
    let read = get_or_read c.args.self.now.stamps.items _ _ (omega arith) c.index.ensures 0 in
    ap (λ n. eqb n c.args.self.now.newest) read ∙ are c.in-X.target ∙ one_of_target (step_at f c.args.s) c.in-X.target target wires
