use Rattle.flat_mean.proofs.Weights.{weights_tell_possible}
use Rattle.flat_mean.proofs.laws.weights_tell_possible.Goals as goal

pub returns : goal.returns
returns c = weights_tell_possible
