use Rattle.flat_laws.proofs.Whole.{zeroed_are_zero}
use Rattle.flat_laws.proofs.laws.zeroed_are_zero.Goals as goal

pub returns : goal.returns
returns c = zeroed_are_zero
