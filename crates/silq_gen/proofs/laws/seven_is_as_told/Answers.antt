use Rattle.silq_gen.proofs.Told.{told_seven}
use Rattle.silq_gen.proofs.laws.seven_is_as_told.Goals as goal

pub returns : goal.returns
returns c = told_seven
