use Rattle.plan_gates.proofs.Inputs.{inputs_begin_in_order}
use Rattle.plan_gates.proofs.laws.inputs_begin_in_order.Goals as goal

pub returns : goal.returns
returns c = inputs_begin_in_order
