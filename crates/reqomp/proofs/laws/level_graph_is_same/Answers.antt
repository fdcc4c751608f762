use Rattle.reqomp.proofs.LevelSlots.{level_graph_is_same}
use Rattle.reqomp.proofs.laws.level_graph_is_same.Goals as goal

pub returns : goal.returns
returns c = level_graph_is_same
