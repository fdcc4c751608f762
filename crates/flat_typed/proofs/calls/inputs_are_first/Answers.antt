use Rattle.flat_typed.proofs.CallsStated.{first_inputs}
use Rattle.flat_typed.proofs.calls.inputs_are_first.Goals as goal

pub returns : goal.returns
returns c = first_inputs
