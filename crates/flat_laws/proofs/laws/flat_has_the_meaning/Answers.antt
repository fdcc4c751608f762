use Rattle.flat_laws.proofs.Whole.{flat_has_the_meaning}
use Rattle.flat_laws.proofs.laws.flat_has_the_meaning.Goals as goal

pub returns : goal.returns
returns c = flat_has_the_meaning
