use Rattle.std.proofs.Common.{◌≡◌, Some, true, refl, ◌∙◌, sym, slice_get}
use Rattle.silq_types.specs.declared.values.Var.{Var}
use Rattle.check_scope.proofs.Undoing.{set_at_slot, undone_noted}
use Rattle.check_scope.proofs.KeptVariables.{kept_noted}
use Rattle.check_scope.proofs.context.Context.consume.Goals as goal

pub invariant_of-self-in-Some : goal.invariant_of-self-in-Some
invariant_of-self-in-Some c =
    let f = rw c.as_slice.ensures.value at c.in-Some.ensures in
    let is : slice_get c.self.inside.vars.items c.in-Some.i ≡ Some c.args.var = sym f.found ∙ (rw (← c.self.view_is) at c.requires) in
    kept_noted c.self.inside.vars.items _ _ c.self.inside.names c.args.var.part c.in-Some.i c.args.var _ c.self.invariant f refl is c.in_ok-push.ensures.items

pub returns-in_ok-push-clause-ok : goal.returns-in_ok-push-clause-ok
returns-in_ok-push-clause-ok c =
    let f = rw c.as_slice.ensures.value at c.in-Some.ensures in
    let moved_var : Var = record c.args.var { consumed = true } in
    let is : slice_get c.self.inside.vars.items c.in-Some.i ≡ Some c.args.var = sym f.found ∙ (rw (← c.self.view_is) at c.requires) in
    rw (c.in_ok-push.ensures.items, ← c.self.view_is, f.replaced moved_var refl, ← (set_at_slot c.self.inside.vars.items c.in-Some.i moved_var f.within), undone_noted c.self.inside.vars.items c.self.inside.moved.items c.in-Some.i c.args.var moved_var f.within is)
