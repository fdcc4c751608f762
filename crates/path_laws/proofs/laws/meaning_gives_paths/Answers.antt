use Rattle.path_laws.proofs.PathJoints.{meaning_gives_paths}
use Rattle.path_laws.proofs.laws.meaning_gives_paths.Goals as goal

pub returns : goal.returns
returns c = meaning_gives_paths
