use Rattle.silq_gen.proofs.Told.{short}
use Rattle.silq_gen.proofs.laws.programs_are_short.Goals as goal

pub returns : goal.returns
returns c = short
