use Rattle.std.proofs.Common.{◌≡◌, ◌+◌, ◌*◌, ◌≤◌, drop}
use Rattle.silq_tree.specs.Arena.{expr_at}
use Rattle.silq_tree.specs.Standing.{expressions_of}
use Rattle.silq_tree.specs.Children.{scalar_exprs, number_exprs, listed}
use Rattle.silq_tree.proofs.Lists.{exprs_top}
use Rattle.silq_print.specs.Ways.{greater}
use Rattle.silq_print.specs.Depths.{capped, deepest}
use Rattle.silq_print.proofs.depth.+depth.Given as goal

-- the number of the expression, and then the order of the calls

abbrev pub decreases-depths : goal.decreases-depths
decreases-depths l = 8 * l.e.number + 3

abbrev pub decreases-depth : goal.decreases-depth
decreases-depth l = 8 * l.e.number + 4

abbrev pub decreases-operand_depth : goal.decreases-operand_depth
decreases-operand_depth l = 8 * l.e.number + 5

abbrev pub decreases-chain_depths : goal.decreases-chain_depths
decreases-chain_depths l = 8 * l.e.number + 5

abbrev pub decreases-deepest : goal.decreases-deepest
decreases-deepest l = 8 * exprs_top l.ids.now

abbrev pub decreases-width_depth : goal.decreases-width_depth
decreases-width_depth l = 8 * exprs_top (scalar_exprs l.ty)

abbrev pub decreases-number_depth : goal.decreases-number_depth
decreases-number_depth l = 8 * exprs_top (number_exprs l.ty) + 1

abbrev pub decreases-index_depth : goal.decreases-index_depth
decreases-index_depth l = 8 * exprs_top (listed l.index)

-- the most so far, and what is left
abbrev pub invariant-deepest-loop-id : goal.invariant-deepest-loop-id
invariant-deepest-loop-id l =
    let at = expr_at l.fn.tree in
    (greater l.most (capped (deepest l.fn.tight (expressions_of at (drop l.id-index l.ids)))) ≡ capped (deepest l.fn.tight (expressions_of at l.fn.ids))) × (l.most ≤ 65)
