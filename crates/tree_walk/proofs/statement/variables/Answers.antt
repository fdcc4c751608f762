use Rattle.std.proofs.Common.{[], ◌∷◌, ◌++◌, sym, ap, ◌∙◌}
use Rattle.silq_mean.specs.declared.receiver.Receiver.TheVariants.{Variable}
use Rattle.tree_walk.proofs.Statements.{variables_more}
use Rattle.tree_walk.proofs.statement.variables.Goals as goal

pub loop-name-preserved : goal.loop-name-preserved
loop-name-preserved c =
    c.in_ok-push.ensures.ok
    ∙ (ap (λ ts. ts ++ Variable ∷ []) c.loop-name.invariant ∙ sym (variables_more c.args.names.now c.loop-name._name-index c.loop-name-test.true))
