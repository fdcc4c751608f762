use Rattle.std.proofs.Common.{sym, ap, ◌∙◌, subst}
use Rattle.graph_core.specs.Links.{CanFollow, edges_from}
use Rattle.graph_core.proofs.Linked.{follow_next, follow_is}
use Rattle.graph_core.proofs.edges.Edges.next.Goals as goal

pub invariant_of-self : goal.invariant_of-self
invariant_of-self c =
    let ok = subst (CanFollow c.self.inside.entering c.self.inside.at c.self.inside.edges.now) c.in-Some.is c.self.invariant in
    rw c.get-self-inside.ensures (follow_next c.self.inside.entering c.self.inside.at c.self.inside.edges.now c.in-Some.id _ ok)

pub returns-in-Some-clause-next : goal.returns-in-Some-clause-next
returns-in-Some-clause-next c =
    let ok = subst (CanFollow c.self.inside.entering c.self.inside.at c.self.inside.edges.now) c.in-Some.is c.self.invariant in
    let begin = sym c.self.view_is ∙ ap (edges_from c.self.inside.entering c.self.inside.at c.self.inside.edges.now) c.in-Some.is in
    rw (c.other_end-other.ensures, c.get-self-inside.ensures) (begin ∙ follow_is c.self.inside.entering c.self.inside.at c.self.inside.edges.now c.in-Some.id _ ok)
