use Rattle.flat_typed.proofs.PlacesStated.{fine_numbers}
use Rattle.flat_typed.proofs.places.numbers_are_fine.Goals as goal

pub returns : goal.returns
returns c = fine_numbers
