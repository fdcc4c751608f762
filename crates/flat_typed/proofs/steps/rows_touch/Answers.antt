use Rattle.flat_typed.proofs.Quiet.{rows_touch}
use Rattle.flat_typed.proofs.steps.rows_touch.Goals as goal

pub returns : goal.returns
returns c = rows_touch
