use Rattle.flat_typed.proofs.CallsStated.{own_calls}
use Rattle.flat_typed.proofs.calls.own_call_is_fine.Goals as goal

pub returns : goal.returns
returns c = own_calls
