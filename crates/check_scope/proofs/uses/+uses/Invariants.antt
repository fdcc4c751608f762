use Rattle.std.proofs.Common.{◌≡◌, ◌+◌, ◌*◌, ◌++◌, drop}
use Rattle.silq_tree.specs.Arena.{expr_at}
use Rattle.silq_tree.specs.Children.{place_exprs, scalar_exprs}
use Rattle.silq_tree.specs.Standing.{expressions_of}
use Rattle.silq_tree.proofs.Lists.{exprs_top}
use Rattle.check_scope.specs.State.{scope_in}
use Rattle.check_scope.specs.Uses.{all_uses}
use Rattle.check_scope.proofs.uses.+uses.Given as goal

abbrev pub decreases-add_uses : goal.decreases-add_uses
decreases-add_uses l = 2 * l.e.number + 1

abbrev pub decreases-add_all : goal.decreases-add_all
decreases-add_all l = 2 * exprs_top l.items.now

abbrev pub decreases-add_indices : goal.decreases-add_indices
decreases-add_indices l = 2 * exprs_top (place_exprs l.place)

abbrev pub decreases-add_width : goal.decreases-add_width
decreases-add_width l = 2 * exprs_top (scalar_exprs l.ty)

-- what the expressions that are left name stands behind
abbrev pub invariant-add_all-loop-item : goal.invariant-add_all-loop-item
invariant-add_all-loop-item l =
    l.out ++ all_uses (expressions_of (expr_at l.library.nodes) (drop l.item-index l.items)) (scope_in l.library l.cx) l.cx.vars l.rest
    ≡ l.fn.out ++ all_uses (expressions_of (expr_at l.fn.library.nodes) l.fn.items) (scope_in l.fn.library l.fn.cx) l.fn.cx.vars l.fn.asked
