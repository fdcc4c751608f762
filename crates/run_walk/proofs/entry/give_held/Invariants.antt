use Rattle.std.proofs.Common.{drop}
use Rattle.run_stage.specs.Stages.{carried}
use Rattle.tree_walk.specs.Written.{give_names}
use Rattle.run_walk.proofs.Carrying.{Onward}
use Rattle.run_walk.proofs.entry.give_held.Given as goal

abbrev pub invariant-loop-name : goal.invariant-loop-name
invariant-loop-name l = Onward (give_names (drop l.name-index l.fn.names)) (carried (give_names l.fn.names) l.fn.stage) l.stage
