use Rattle.reqomp.proofs.Contracted.{contracted_edges}
use Rattle.reqomp.proofs.laws.contracted_edges.Goals as goal

pub returns : goal.returns
returns c = contracted_edges
