use Rattle.std.proofs.Common.{◌++◌, drop, sym, ap, ◌∙◌}
use Rattle.std.proofs.lemmas.List.{append-nil}
use Rattle.silq_mean.specs.Term.{paired}
use Rattle.silq_run.proofs.Turned.{none_paired}
use Rattle.silq_run.proofs.variables.Block.of_values.Goals as goal

pub returns-in_default : goal.returns-in_default
returns-in_default c =
    let i = c.loop-name.name-index in let xs = c.args.names.now in let items = c.loop-name.items.items in
    sym (append-nil items) ∙ ap (λ z. items ++ z) (sym (none_paired (drop i xs)) ∙ ap (paired (drop i xs)) (sym c.in_default.ensures.none.0)) ∙ c.loop-name.invariant
