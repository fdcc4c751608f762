-- The laws on calls of own functions, as they are stated.
use Rattle.flat_typed.specs.CallLaws.{OwnCallIsFine, InputsAreFirst}
use Rattle.flat_typed.proofs.Inputs.{later_none}
use Rattle.flat_typed.proofs.OwnCalls.{own_call_is_fine}

pub own_calls : OwnCallIsFine
own_calls = own_call_is_fine

pub first_inputs : InputsAreFirst
first_inputs = later_none
