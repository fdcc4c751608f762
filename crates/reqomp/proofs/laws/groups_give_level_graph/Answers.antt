use Rattle.reqomp.proofs.LevelArena.{groups_give_level_graph}
use Rattle.reqomp.proofs.laws.groups_give_level_graph.Goals as goal

pub returns : goal.returns
returns c = groups_give_level_graph
