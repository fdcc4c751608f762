use Rattle.flat_laws.proofs.EndsWhole.{ends_fit}
use Rattle.flat_laws.proofs.laws.ends_fit.Goals as goal

pub returns : goal.returns
returns c = ends_fit
