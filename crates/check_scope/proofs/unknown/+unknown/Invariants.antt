use Rattle.std.proofs.Common.{◌≡◌, ◌+◌, ◌*◌, drop}
use Rattle.silq_tree.specs.Arena.{expr_at}
use Rattle.silq_tree.specs.Children.{place_exprs, scalar_exprs}
use Rattle.silq_tree.specs.Standing.{expressions_of}
use Rattle.silq_tree.proofs.Lists.{exprs_top}
use Rattle.silq_types.specs.Types.{first_unknown, all_names}
use Rattle.check_scope.specs.Context.{is_known_name}
use Rattle.check_scope.specs.State.{scope_in}
use Rattle.check_scope.proofs.unknown.+unknown.Given as goal

abbrev pub decreases-first_unknown : goal.decreases-first_unknown
decreases-first_unknown l = 2 * l.e.number + 1

abbrev pub decreases-unknown_in_place : goal.decreases-unknown_in_place
decreases-unknown_in_place l = 2 * exprs_top (place_exprs l.place)

abbrev pub decreases-unknown_in_width : goal.decreases-unknown_in_width
decreases-unknown_in_width l = 2 * exprs_top (scalar_exprs l.ty)

abbrev pub decreases-unknown_among : goal.decreases-unknown_among
decreases-unknown_among l = 2 * exprs_top l.items.now

-- the rest tells
abbrev pub invariant-unknown_among-loop-item : goal.invariant-unknown_among-loop-item
invariant-unknown_among-loop-item l =
    first_unknown (is_known_name (scope_in l.library l.cx) l.cx.vars) (all_names (expressions_of (expr_at l.library.nodes) (drop l.item-index l.items)))
    ≡ first_unknown (is_known_name (scope_in l.library l.cx) l.cx.vars) (all_names (expressions_of (expr_at l.library.nodes) l.items))
