use Rattle.gate_core.proofs.Embedded.{acts_as_statements}
use Rattle.gate_core.proofs.laws.small_actions_are_large_actions.Goals as goal

pub returns : goal.returns
returns c = acts_as_statements
