use Rattle.std.proofs.Common.{◌≡◌, ◌++◌, drop}
use Rattle.silq_mean.specs.Term.{paired}
use Rattle.silq_run.proofs.variables.Block.of_values.Given as goal

abbrev pub invariant-loop-name : goal.invariant-loop-name
invariant-loop-name l = l.items.items ++ paired (drop l.name-index l.names) l.values ≡ paired l.names l.initial.values
