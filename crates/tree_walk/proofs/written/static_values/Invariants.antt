use Rattle.std.proofs.Common.{◌≡◌, ◌++◌, drop}
use Rattle.silq_tree.specs.Arena.{expr_at}
use Rattle.silq_tree.specs.Standing.{expressions_of}
use Rattle.silq_mean.specs.Meaning.{static_values}
use Rattle.tree_walk.proofs.written.static_values.Given as goal

-- the values of the expressions that are left stand behind
abbrev pub invariant-loop-e : goal.invariant-loop-e
invariant-loop-e l =
    l.values ++ static_values (expressions_of (expr_at l.fn.tree) (drop l.e-index l.fn.es)) l.fn.statics
    ≡ static_values (expressions_of (expr_at l.fn.tree) l.fn.es) l.fn.statics
