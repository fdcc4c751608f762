use Rattle.std.proofs.Common.{drop, sym, ap, ◌∙◌}
use Rattle.silq_mean.specs.Term.{bind_all}
use Rattle.silq_run.proofs.Turned.{none_bound}
use Rattle.silq_run.proofs.variables.Variables.bind_all.Goals as goal

pub returns-in_default : goal.returns-in_default
returns-in_default c =
    let i = c.loop-name.name-index in let xs = c.args.names.now in
    sym (none_bound c.loop-name.self (drop i xs)) ∙ ap (bind_all c.loop-name.self (drop i xs)) (sym c.in_default.ensures.none.0) ∙ c.loop-name.invariant
