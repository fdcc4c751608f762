use Rattle.silq_print.proofs.Alike.{places_aside}
use Rattle.silq_print.proofs.laws.places_aside.Goals as goal

pub returns : goal.returns
returns c = places_aside
