use Rattle.flat_typed.proofs.Scopes.{body_scope}
use Rattle.flat_typed.proofs.bodies_see.Goals as goal

pub returns : goal.returns
returns c = body_scope
