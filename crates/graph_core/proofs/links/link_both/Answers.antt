use Rattle.std.proofs.Common.{◌+◌}
use Rattle.graph_core.proofs.Stored.{ends_kept}
use Rattle.graph_core.proofs.links.link_both.Goals as goal

pub link_edge-requires-2-clause-ends : goal.link_edge-requires-2-clause-ends
link_edge-requires-2-clause-ends c = ends_kept c.args.vertices.now c.link_edge.new.vertices c.args.edges.now c.link_edge.new.edges c.requires.ends c.link_edge.ensures.vertices c.link_edge.ensures.arrows (c.args.id.number + 1)
