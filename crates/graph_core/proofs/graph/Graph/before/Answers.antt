use Rattle.std.proofs.Common.{true}
use Rattle.graph_core.proofs.Stored.{can_follow, gives_all}
use Rattle.graph_core.proofs.graph.Graph.before.Goals as goal

pub edges_linked-requires : goal.edges_linked-requires
edges_linked-requires c = can_follow true c.args.v c.self.inside.vertices.items c.self.inside.edges.items _ c.self.view_is c.self.invariant c.requires c.index.result.now c.index.ensures c.deref.result.now c.deref.ensures.value

pub returns : goal.returns
returns c = gives_all true c.args.v c.self.inside.vertices.items c.self.inside.edges.items _ c.self.view_is c.self.invariant c.requires c.index.result.now c.index.ensures c.deref.result.now c.deref.ensures.value _ c.edges_linked.ensures
