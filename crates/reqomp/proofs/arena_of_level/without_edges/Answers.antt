use Rattle.std.proofs.Common.{List, [], ◌∷◌, ◌++◌, Contains, subst, ap, ◌∙◌, arith}
use Rattle.graph_core.specs.declared.vertex.Vertex.{Vertex}
use Rattle.graph_core.specs.Arena.{Arena}
use Rattle.reqomp.proofs.LevelRows.{group_at, first_fresh, first_more, first_all}
use Rattle.reqomp.proofs.arena_of_level.without_edges.Goals as goal

pub add_vertex-requires-clause-fresh : goal.add_vertex-requires-clause-fresh
add_vertex-requires-clause-fresh c = λ i.
    let group = c.group-item.result in
    let at = group_at c.args.groups.now c.loop-group.group-index group (omega arith) c.group-item.is in
    first_fresh c.args.groups.now c.requires.once c.loop-group.group-index group at
    (subst (λ (l : List Vertex). Contains l group.vertex) c.loop-group.invariant.vertices i)

pub loop-group-preserved : goal.loop-group-preserved
loop-group-preserved c =
    let group = c.group-item.result in
    let at = group_at c.args.groups.now c.loop-group.group-index group (omega arith) c.group-item.is in
    let added = c.in_ok-add_vertex.ensures.added.1 in
    record {
      vertices = ap (λ (g : Arena). g.vertices) added
          ∙ ap (λ (l : List Vertex). l ++ group.vertex ∷ []) c.loop-group.invariant.vertices
          ∙ first_more c.args.groups.now c.loop-group.group-index group at;
      no_edges = ap (λ (g : Arena). g.arrows) added ∙ c.loop-group.invariant.no_edges;
    }

pub returns-clause-vertices : goal.returns-clause-vertices
returns-clause-vertices c = c.loop-group.invariant.vertices ∙ first_all c.args.groups.now c.loop-group.group-index (omega arith)
