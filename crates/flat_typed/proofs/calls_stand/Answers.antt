use Rattle.flat_typed.proofs.Scopes.{found_stands}
use Rattle.flat_typed.proofs.calls_stand.Goals as goal

pub returns : goal.returns
returns c = found_stands
