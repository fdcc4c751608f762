use Rattle.path_laws.proofs.PathTerms.{each_path_has_a_term}
use Rattle.path_laws.proofs.laws.each_path_has_a_term.Goals as goal

pub returns : goal.returns
returns c = each_path_has_a_term
