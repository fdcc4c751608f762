use Rattle.std.proofs.Common.{refl}
use Rattle.graph_core.proofs.Linked.{arrows_set, linked_step}
use Rattle.graph_core.proofs.links.link_edge.Goals as goal

pub returns-clause-linked : goal.returns-clause-linked
returns-clause-linked c = linked_step c.args.vertices.now c.put_first.new.vertices c.put_first-2.new.vertices c.args.edges.now c.args.id _ _ _ c.requires.there c.requires.ends c.requires.linked c.put_first.ensures.put c.put_first-2.ensures.put

pub returns-clause-arrows : goal.returns-clause-arrows
returns-clause-arrows c = arrows_set c.args.edges.now c.args.id.number _ _ refl
