use Rattle.std.proofs.Common.{length, sym, ap, ◌∙◌, subst}
use Rattle.graph_core.specs.declared.graph.VertexId.{VertexId}
use Rattle.graph_core.specs.Arena.{Arena, IsFreeFor}
use Rattle.unqomp.specs.Making.{vertex_id}
use Rattle.unqomp.specs.Linking.{target_arrow}
use Rattle.unqomp.proofs.Links.{link_free}
use Rattle.unqomp.proofs.chain.Chain.add.Goals as goal

pub add_edge-requires-clause-free : goal.add_edge-requires-clause-free
add_edge-requires-clause-free c =
    let free = link_free c.args.graph.now c.requires.arena c.args.self.now c.requires.linkable c.args.v c.in-Some.before (sym c.last-before.ensures ∙ c.in-Some.is) in
    subst (λ (id : VertexId). IsFreeFor c.add_vertex.new.self (target_arrow c.in-Some.before id)) (ap vertex_id (sym c.in_ok-id.ensures.added.0))
    (subst (λ (g : Arena). IsFreeFor g (target_arrow c.in-Some.before (vertex_id (length c.args.graph.now.vertices)))) (sym c.in_ok-id.ensures.added.1) free)
