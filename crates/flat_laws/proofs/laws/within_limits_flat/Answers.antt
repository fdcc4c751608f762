use Rattle.flat_laws.proofs.EndsWhole.{within_limits_flat}
use Rattle.flat_laws.proofs.laws.within_limits_flat.Goals as goal

pub returns : goal.returns
returns c = within_limits_flat
