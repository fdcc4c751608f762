use Rattle.path_laws.proofs.PathJoints.{honest_gives_zeros}
use Rattle.path_laws.proofs.laws.honest_gives_zeros.Goals as goal

pub returns : goal.returns
returns c = honest_gives_zeros
