use Rattle.reqomp.proofs.Sameness.{orders_of_circuit}
use Rattle.reqomp.proofs.laws.orders_of_circuit.Goals as goal

pub returns : goal.returns
returns c = orders_of_circuit
