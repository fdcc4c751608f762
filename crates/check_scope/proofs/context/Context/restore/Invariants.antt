use Rattle.std.proofs.Common.{◌≡◌, length}
use Rattle.check_scope.specs.Kept.{variable_names}
use Rattle.check_scope.specs.Undo.{undone, AreBelow}
use Rattle.check_scope.proofs.context.Context.restore.Given as goal

-- what is left to undo leads back to the start
abbrev pub invariant-loop-i : goal.invariant-loop-i
invariant-loop-i l = record {
  below : AreBelow (length l.self-inside.vars.items) l.self-inside.moved.items;
  start : undone l.self-inside.vars.items l.self-inside.moved.items ≡ l.fn.self.start;
  before : l.self-inside.names ≡ variable_names (undone l.self-inside.vars.items l.self-inside.moved.items);
  this : l.self-inside.this ≡ l.fn.self.this;
  results : l.self-inside.results ≡ l.fn.self.results;
  depth : l.self-inside.depth ≡ l.fn.self.depth;
  statics : l.self-inside.statics ≡ l.fn.self.statics;
  held : l.self-inside.held.items ≡ l.fn.self.held;
}

abbrev pub decreases-loop-i : goal.decreases-loop-i
decreases-loop-i l = length l.self-inside.moved.items
