use Rattle.flat_typed.proofs.PlacesStated.{fine_part_assignments}
use Rattle.flat_typed.proofs.places.part_assignments_are_fine.Goals as goal

pub returns : goal.returns
returns c = fine_part_assignments
