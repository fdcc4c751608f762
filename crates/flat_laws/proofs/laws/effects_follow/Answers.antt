use Rattle.flat_laws.proofs.Steps.{effects_follow}
use Rattle.flat_laws.proofs.laws.effects_follow.Goals as goal

pub returns : goal.returns
returns c = effects_follow
