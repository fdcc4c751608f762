use Rattle.std.proofs.Common.{◌+◌, ◌*◌, max}
use Rattle.silq_tree.proofs.Lists.{exprs_top}
use Rattle.check_expr.proofs.shape.+shape.Given as goal

-- an expression's number, and how far above its type

abbrev pub decreases-type_at : goal.decreases-type_at
decreases-type_at l = 8 * l.e.number + 7

abbrev pub decreases-binary_type : goal.decreases-binary_type
decreases-binary_type l = 8 * max l.sides.0.number l.sides.1.number + 8

abbrev pub decreases-first_item : goal.decreases-first_item
decreases-first_item l = 8 * exprs_top l.args.now

abbrev pub decreases-vector_type : goal.decreases-vector_type
decreases-vector_type l = 8 * exprs_top l.args.now + 1

abbrev pub decreases-built_in_type : goal.decreases-built_in_type
decreases-built_in_type l = 8 * exprs_top l.args.now + 2

abbrev pub decreases-call_types : goal.decreases-call_types
decreases-call_types l = 8 * exprs_top l.args.now + 3
