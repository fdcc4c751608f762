use Rattle.std.proofs.Common.{◌≡◌, ◌+◌, ◌*◌, [], drop}
use Rattle.silq_tree.specs.Arena.{expr_at}
use Rattle.silq_tree.specs.Children.{place_exprs, scalar_exprs}
use Rattle.silq_tree.specs.Standing.{expressions_of}
use Rattle.silq_tree.proofs.Lists.{exprs_top}
use Rattle.silq_types.specs.Types.{first_unknown, all_names}
use Rattle.check_scope.specs.Reach.{is_in_reach}
use Rattle.check_scope.proofs.reach.+reach.Given as goal

abbrev pub decreases-first_unknown : goal.decreases-first_unknown
decreases-first_unknown l = 2 * l.e.number + 1

abbrev pub decreases-unknown_in_all : goal.decreases-unknown_in_all
decreases-unknown_in_all l = 2 * exprs_top l.items.now

abbrev pub decreases-unknown_in_place : goal.decreases-unknown_in_place
decreases-unknown_in_place l = 2 * exprs_top (place_exprs l.place)

abbrev pub decreases-unknown_in_width : goal.decreases-unknown_in_width
decreases-unknown_in_width l = 2 * exprs_top (scalar_exprs l.ty)

-- what the expressions that are left name gives the answer
abbrev pub invariant-unknown_in_all-loop-item : goal.invariant-unknown_in_all-loop-item
invariant-unknown_in_all-loop-item l =
    first_unknown (is_in_reach l.statics []) (all_names (expressions_of (expr_at l.tree) (drop l.item-index l.items)))
    ≡ first_unknown (is_in_reach l.fn.statics []) (all_names (expressions_of (expr_at l.fn.tree) l.fn.items))
