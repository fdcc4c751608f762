use Rattle.std.proofs.Common.{◌≡◌, ◌++◌, drop}
use Rattle.flat_form.specs.Flat.{paired}
use Rattle.flat_steps.proofs.variables.Block.of_values.Given as goal

abbrev pub invariant-loop-name : goal.invariant-loop-name
invariant-loop-name l = l.items.items ++ paired (drop l.name-index l.names) l.values ≡ paired l.names l.initial.values
