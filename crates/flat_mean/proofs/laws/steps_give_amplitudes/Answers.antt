use Rattle.flat_mean.proofs.Amplitudes.{amplitudes}
use Rattle.flat_mean.proofs.laws.steps_give_amplitudes.Goals as goal

pub returns : goal.returns
returns c = amplitudes
