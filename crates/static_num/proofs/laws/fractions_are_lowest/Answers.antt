use Rattle.static_num.proofs.Lowest.{fractions_are_lowest}
use Rattle.static_num.proofs.laws.fractions_are_lowest.Goals as goal

pub returns : goal.returns
returns c = fractions_are_lowest
