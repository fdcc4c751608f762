use Rattle.flat_mean.proofs.Amplitudes.{paths_at_amplitudes}
use Rattle.flat_mean.proofs.laws.steps_give_paths.Goals as goal

pub returns : goal.returns
returns c = paths_at_amplitudes
