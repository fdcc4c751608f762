use Rattle.bit_arith.proofs.Published.{measure_measures}
use Rattle.bit_arith.proofs.laws.measure_measures.Goals as goal

pub returns : goal.returns
returns c = measure_measures
