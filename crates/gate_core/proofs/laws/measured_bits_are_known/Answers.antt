use Rattle.gate_core.proofs.Runs.{known_after_all-at}
use Rattle.gate_core.proofs.laws.measured_bits_are_known.Goals as goal

pub returns : goal.returns
returns c = known_after_all-at
