-- The law on values that are taken over in turn, as it is stated.
use Rattle.flat_typed.specs.ArgumentLaws.{ListsAreFine}
use Rattle.flat_typed.proofs.Arguments.{arguments_are_fine}

pub lists : ListsAreFine
lists = arguments_are_fine
