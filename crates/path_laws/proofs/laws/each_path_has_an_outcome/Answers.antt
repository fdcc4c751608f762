use Rattle.path_laws.proofs.PathTerms.{each_path_has_an_outcome}
use Rattle.path_laws.proofs.laws.each_path_has_an_outcome.Goals as goal

pub returns : goal.returns
returns c = each_path_has_an_outcome
