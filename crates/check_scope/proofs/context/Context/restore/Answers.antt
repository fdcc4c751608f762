use Rattle.std.proofs.Common.{ℕ, List, arith, ◌∙◌, ap, sym, length-set}
use Rattle.silq_types.specs.declared.values.Var.{Var}
use Rattle.check_scope.specs.Kept.{variable_names}
use Rattle.check_scope.specs.Undo.{undone}
use Rattle.check_scope.proofs.Undoing.{set_at_slot, undone_push, below_front, below_last}
use Rattle.check_scope.proofs.KeptVariables.{kept_fresh, no_items}
use Rattle.check_scope.proofs.context.Context.restore.Goals as goal

pub index_mut-requires : goal.index_mut-requires
index_mut-requires c = omega (arith, below_last _ _ c.in-Some.i c.in-Some.var (rw c.in-Some.ensures.items at c.loop-i.invariant.below), c.loop-i.self-inside.vars.ok.0)

pub loop-i-preserved : goal.loop-i-preserved
loop-i-preserved c =
    let before = rw c.in-Some.ensures.items at c.loop-i.invariant.below in
    let l = below_last _ _ c.in-Some.i c.in-Some.var before in
    record {
      below = rw length-set (below_front _ _ c.in-Some.i c.in-Some.var before);
      start = rw (set_at_slot c.loop-i.self-inside.vars.items c.in-Some.i c.in-Some.var l) (sym (undone_push c.loop-i.self-inside.vars.items c.pop.new.self.items c.in-Some.i c.in-Some.var) ∙ (rw c.in-Some.ensures.items at c.loop-i.invariant.start));
      before = c.loop-i.invariant.before ∙ ap variable_names (rw (set_at_slot c.loop-i.self-inside.vars.items c.in-Some.i c.in-Some.var l) (ap (undone c.loop-i.self-inside.vars.items) c.in-Some.ensures.items ∙ undone_push c.loop-i.self-inside.vars.items c.pop.new.self.items c.in-Some.i c.in-Some.var));
      this = c.loop-i.invariant.this;
      results = c.loop-i.invariant.results;
      depth = c.loop-i.invariant.depth;
      statics = c.loop-i.invariant.statics;
      held = c.loop-i.invariant.held;
    }

pub invariant_of-self : goal.invariant_of-self
invariant_of-self c =
    let empty = no_items c.pop.new.self.items (omega (arith, c.in_default.ensures.cases.1, c.pop.new.self.ok.0)) in
    let none = no_items c.loop-i.self-inside.moved.items (omega (arith, c.in_default.ensures.cases.0, c.loop-i.self-inside.moved.ok.0)) in
    kept_fresh c.loop-i.self-inside.vars.items _ _ empty (c.loop-i.invariant.before ∙ ap (λ (js : List (ℕ × Var)). variable_names (undone c.loop-i.self-inside.vars.items js)) none)
