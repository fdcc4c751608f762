use Rattle.std.proofs.Common.{◌≡◌, map, take}
use Rattle.silq_mean.specs.declared.receiver.Receiver.TheVariants.{Variable}
use Rattle.tree_walk.proofs.statement.variables.Given as goal

abbrev pub invariant-loop-name : goal.invariant-loop-name
invariant-loop-name l = l.takers ≡ map (λ x. Variable) (take l._name-index l.names)
