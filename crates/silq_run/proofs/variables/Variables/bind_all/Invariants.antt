use Rattle.std.proofs.Common.{◌≡◌, drop}
use Rattle.silq_mean.specs.Term.{bind_all}
use Rattle.silq_run.proofs.variables.Variables.bind_all.Given as goal

abbrev pub invariant-loop-name : goal.invariant-loop-name
invariant-loop-name l = bind_all l.self (drop l.name-index l.names) l.values ≡ bind_all l.initial.self l.names l.initial.values
