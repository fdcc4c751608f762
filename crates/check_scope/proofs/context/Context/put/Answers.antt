use Rattle.check_scope.proofs.KeptVariables.{kept_fresh}
use Rattle.check_scope.proofs.VariableWalks.{names_joined}
use Rattle.check_scope.proofs.context.Context.put.Goals as goal

pub invariant_of-self : goal.invariant_of-self
invariant_of-self c =
    let whole = rw c.as_slice-3.ensures.value at c.in-Ok.ensures in
    kept_fresh c.args.vars.items _ _ c.clear.ensures.items (names_joined c.self.inside.vars.items _ c.args.vars.items _ c.self.inside.names _ c.push_names.new.names c.same_names-same.result c.self.invariant.named c.as_slice.ensures.value c.as_slice-2.ensures.value c.same_names-same.ensures.same c.truncate.ensures whole)
