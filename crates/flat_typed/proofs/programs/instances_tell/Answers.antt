use Rattle.flat_typed.proofs.Instances.{instances_tell}
use Rattle.flat_typed.proofs.programs.instances_tell.Goals as goal

pub returns : goal.returns
returns c = instances_tell
