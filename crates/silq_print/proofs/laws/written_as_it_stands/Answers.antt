use Rattle.silq_print.proofs.DerivedTrees.{derived_stands}
use Rattle.silq_print.proofs.Even.{derived_fine}
use Rattle.silq_print.proofs.laws.written_as_it_stands.Goals as goal

pub returns : goal.returns
returns c = record { tree = derived_stands; fine = derived_fine }
