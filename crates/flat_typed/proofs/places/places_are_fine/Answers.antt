use Rattle.flat_typed.proofs.PlacesStated.{fine_places}
use Rattle.flat_typed.proofs.places.places_are_fine.Goals as goal

pub returns : goal.returns
returns c = fine_places
