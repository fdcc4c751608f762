use Rattle.std.proofs.Common.{ap, ◌∙◌}
use Rattle.silq_mean.specs.Env.{bound}
use Rattle.flat_steps.specs.contracts.state.Flattening.{the_view}
use Rattle.flat_steps.proofs.Using.{assigned_is}
use Rattle.flat_steps.proofs.state.Flattening.assign_to.Goals as goal

pub returns-clause-ok : goal.returns-clause-ok
returns-clause-ok c =
    assigned_is c.args.name c.args.indices.now (the_view c.self.inside) c.args.self.now c.replace-lent.result c.in_ok-known.known c.take_last-value.result
    c.replace-lent.new.self c.bind-2.new.self c.take_last-value.new.self
    c.self.view_is c.take_last-value.ensures.value c.take_last-value.ensures.rest c.replace-lent.ensures.old c.replace-lent.ensures.new c.in_ok-known.ensures
    (c.in_ok-bind-2.ensures ∙ ap (bound c.replace-lent.new.self c.args.name) c.as_variable-2.ensures)
