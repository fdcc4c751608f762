use Rattle.std.proofs.Common.{[], ◌∷◌, ◌++◌, sym, ap, ◌∙◌}
use Rattle.silq_run.proofs.Places.{block_with_new}
use Rattle.silq_run.proofs.variables.Block.define.Goals as goal

pub returns : goal.returns
returns c = c.in_ok-push.ensures.items ∙ ap (λ z. z ++ (c.args.name, c.args.value) ∷ []) c.self.view_is ∙ sym (block_with_new c.args.self.now c.args.name c.args.value c.requires)
