use Rattle.std.proofs.Common.{drop}
use Rattle.flat_form.specs.Flat.{flat}
use Rattle.tree_walk.specs.Written.{give_names}
use Rattle.flat_build.proofs.Carrying.{Onward}
use Rattle.flat_build.proofs.entry.give_held.Given as goal

abbrev pub invariant-loop-name : goal.invariant-loop-name
invariant-loop-name l = Onward (give_names (drop l.name-index l.fn.names)) (flat (give_names l.fn.names) l.fn.state) l.state
