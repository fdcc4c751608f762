use Rattle.flat_typed.proofs.PlacesThere.{places_are_there}
use Rattle.flat_typed.proofs.places_are_there.Goals as goal

pub returns : goal.returns
returns c = places_are_there
