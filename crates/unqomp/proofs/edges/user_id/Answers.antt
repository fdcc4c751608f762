use Rattle.std.proofs.Common.{sym, ◌∙◌, subst, Some}
use Rattle.graph_core.specs.declared.vertex.Vertex.{Vertex}
use Rattle.graph_core.specs.Circuit.{Uses}
use Rattle.unqomp.specs.Making.{vertex_id, IsIdOf}
use Rattle.unqomp.proofs.UserIds.{forward_id, undone_is_x, user_there, reverse_there}
use Rattle.unqomp.proofs.edges.user_id.Goals as goal

pub returns-in-Forward : goal.returns-in-Forward
returns-in-Forward c =
    let f = c.args.flat.now in
    let there = user_there f c.in-Forward.s c.args.u.wire c.args.u.label (subst (λ (v : Vertex). Uses f v c.args.u.wire c.args.u.label) c.in-Forward.is c.requires.uses) in
    subst (IsIdOf f c.args.chains.now (Some (vertex_id c.in-Forward.s.number))) (sym c.in-Forward.is) (forward_id f c.args.chains.now c.in-Forward.s there)

pub returns-in_default : goal.returns-in_default
returns-in_default c =
    let f = c.args.flat.now in
    let there = reverse_there f c.in-Reverse.s c.args.u.wire c.args.u.label (subst (λ (v : Vertex). Uses f v c.args.u.wire c.args.u.label) c.in-Reverse.is c.requires.uses) in
    absurd (undone_is_x f c.in-Reverse.s there.1 (λ t a b e. c.in_default.not-X t a b (c.step.ensures ∙ e)))
