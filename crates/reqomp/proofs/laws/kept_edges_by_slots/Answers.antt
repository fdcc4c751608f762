use Rattle.reqomp.proofs.LevelSlots.{kept_edges_by_slots}
use Rattle.reqomp.proofs.laws.kept_edges_by_slots.Goals as goal

pub returns : goal.returns
returns c = kept_edges_by_slots
