use Rattle.path_laws.proofs.PathJoints.{terms_fit}
use Rattle.path_laws.proofs.laws.terms_fit.Goals as goal

pub returns : goal.returns
returns c = terms_fit
