use Rattle.std.proofs.Common.{◌≡◌, ◌∙◌, ap, sym, take}
use Rattle.check_scope.specs.Kept.{variable_names}
use Rattle.check_scope.proofs.KeptVariables.{kept_fresh}
use Rattle.check_scope.proofs.VariableWalks.{names_taken}
use Rattle.check_scope.proofs.context.Context.cut.Goals as goal

pub invariant_of-self : goal.invariant_of-self
invariant_of-self c =
    let named : c.truncate-2.new.self ≡ variable_names c.truncate.new.self.items = rw c.truncate.ensures.items (c.truncate-2.ensures ∙ ap (take c.args.n) c.self.invariant.named ∙ sym (names_taken c.self.inside.vars.items c.args.n)) in
    kept_fresh c.truncate.new.self.items _ _ c.clear.ensures.items named
