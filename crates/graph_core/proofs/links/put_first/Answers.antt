use Rattle.std.proofs.Common.{refl}
use Rattle.graph_core.proofs.Linked.{vertices_set}
use Rattle.graph_core.proofs.links.put_first.Goals as goal

pub returns-clause-vertices : goal.returns-clause-vertices
returns-clause-vertices c = vertices_set c.args.vertices.now c.args.v.number _ _ refl
