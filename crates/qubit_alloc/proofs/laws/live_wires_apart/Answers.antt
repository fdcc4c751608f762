use Rattle.qubit_alloc.proofs.ApartLaws.{live_wires_apart}
use Rattle.qubit_alloc.proofs.laws.live_wires_apart.Goals as goal

pub returns : goal.returns
returns c = live_wires_apart
