use Rattle.std.proofs.Common.{[], ◌∷◌, ◌++◌, sym, ap, ◌∙◌}
use Rattle.flat_steps.proofs.Numbers.{block_with_new}
use Rattle.flat_steps.proofs.variables.Block.define.Goals as goal

pub returns-clause-ok : goal.returns-clause-ok
returns-clause-ok c = c.in_ok-push.ensures.items ∙ ap (λ z. z ++ (c.args.name, c.args.known) ∷ []) c.self.view_is ∙ sym (block_with_new c.args.self.now c.args.name c.args.known c.requires)
