-- The laws on numbers, places and assignments to parts, by name.
use Rattle.flat_typed.specs.PlaceLaws.{NumbersAreFine, PlacesAreFine, PartAssignmentsAreFine}
use Rattle.flat_typed.proofs.Numbers.{number_is_fine, typed_number_is_fine, truth_is_fine, pi_is_fine}
use Rattle.flat_typed.proofs.UsedPlaces.{place_is_fine}
use Rattle.flat_typed.proofs.PartAssignments.{assign_part_is_fine, assign_part_of_part_is_fine}

pub fine_numbers : NumbersAreFine
fine_numbers = record { static_number = number_is_fine; with_type = typed_number_is_fine; truth_value = truth_is_fine; no_angle = pi_is_fine }

pub fine_places : PlacesAreFine
fine_places = place_is_fine

pub fine_part_assignments : PartAssignmentsAreFine
fine_part_assignments = record { of_variable = assign_part_is_fine; of_item = assign_part_of_part_is_fine }
