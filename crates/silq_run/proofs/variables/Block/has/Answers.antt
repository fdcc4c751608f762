use Rattle.silq_run.proofs.Places.{is_placed}
use Rattle.silq_run.proofs.variables.Block.has.Goals as goal

pub returns : goal.returns
returns c = let e = is_placed c.args.self.now c.args.name in cc
