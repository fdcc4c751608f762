use Rattle.std.proofs.Common.{◌∙◌, sym, refl}
use Rattle.check_scope.proofs.Undoing.{set_at_slot}
use Rattle.check_scope.proofs.KeptVariables.{kept_fresh, names_set}
use Rattle.check_scope.proofs.context.Context.replace.Goals as goal

pub invariant_of-self : goal.invariant_of-self
invariant_of-self c =
    let f = rw c.as_slice.ensures.value at c.in-Some.ensures in
    kept_fresh _ _ _ c.clear.ensures.items (c.self.invariant.named ∙ sym (names_set c.self.inside.vars.items c.args.var.part c.in-Some.i c.args.var f refl))

pub returns-in-Some : goal.returns-in-Some
returns-in-Some c =
    let f = rw c.as_slice.ensures.value at c.in-Some.ensures in
    rw (c.clear.ensures.items, ← c.self.view_is, f.replaced c.args.var refl, set_at_slot c.self.inside.vars.items c.in-Some.i c.args.var f.within)
