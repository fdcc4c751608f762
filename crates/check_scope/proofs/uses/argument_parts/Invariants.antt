use Rattle.std.proofs.Common.{◌≡◌, ◌++◌, drop}
use Rattle.silq_tree.specs.Arena.{expr_at}
use Rattle.silq_tree.specs.Standing.{expressions_of}
use Rattle.check_scope.specs.State.{scope_in}
use Rattle.check_scope.specs.Uses.{argument_uses}
use Rattle.check_scope.proofs.uses.argument_parts.Given as goal

-- what the arguments that are left name stands behind
abbrev pub invariant-loop-arg : goal.invariant-loop-arg
invariant-loop-arg l =
    l.parts ++ argument_uses (expressions_of (expr_at l.library.nodes) (drop l.arg-index l.args)) (scope_in l.library l.cx) l.cx.vars l.rest
    ≡ argument_uses (expressions_of (expr_at l.fn.library.nodes) l.fn.args) (scope_in l.fn.library l.fn.cx) l.fn.cx.vars l.fn.needs
