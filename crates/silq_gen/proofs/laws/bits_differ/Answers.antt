use Rattle.silq_gen.proofs.Told.{differ}
use Rattle.silq_gen.proofs.laws.bits_differ.Goals as goal

pub returns : goal.returns
returns c = differ
