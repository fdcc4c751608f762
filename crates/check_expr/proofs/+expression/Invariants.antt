use Rattle.std.proofs.Common.{◌+◌, ◌*◌, max}
use Rattle.silq_tree.specs.Arena.{expr_at}
use Rattle.silq_tree.proofs.Lists.{exprs_top}
use Rattle.check_expr.proofs.Walks.{Onward}
use Rattle.check_expr.proofs.+expression.Given as goal

-- an expression's number, and how far above its walk

abbrev pub decreases-expr::walk : goal.decreases-expr::walk
decreases-expr::walk l = 8 * l.e.number + 7

abbrev pub decreases-expr::unary : goal.decreases-expr::unary
decreases-expr::unary l = 8 * l.arg.number + 8

abbrev pub decreases-expr::operand : goal.decreases-expr::operand
decreases-expr::operand l = 8 * l.e.number + 8

abbrev pub decreases-expr::operands : goal.decreases-expr::operands
decreases-expr::operands l = 8 * max l.sides.0.number l.sides.1.number + 9

abbrev pub decreases-expr::binary : goal.decreases-expr::binary
decreases-expr::binary l = 8 * max l.sides.0.number l.sides.1.number + 10

abbrev pub decreases-expr::tuple : goal.decreases-expr::tuple
decreases-expr::tuple l = 8 * exprs_top l.items.now + 1

abbrev pub decreases-expr::arguments : goal.decreases-expr::arguments
decreases-expr::arguments l = 8 * exprs_top l.items.now

abbrev pub decreases-calls::call : goal.decreases-calls::call
decreases-calls::call l = 8 * exprs_top l.args.now + 4

abbrev pub decreases-built_in::call_built_in : goal.decreases-built_in::call_built_in
decreases-built_in::call_built_in l = 8 * exprs_top l.args.now + 3

abbrev pub decreases-built_in::call_gate : goal.decreases-built_in::call_gate
decreases-built_in::call_gate l = 8 * exprs_top l.args.now + 1

abbrev pub decreases-built_in::vector_value : goal.decreases-built_in::vector_value
decreases-built_in::vector_value l = 8 * exprs_top l.args.now + 2

abbrev pub decreases-built_in::vector_of : goal.decreases-built_in::vector_of
decreases-built_in::vector_of l = 8 * exprs_top l.rest.now + 1

abbrev pub decreases-own::call_own : goal.decreases-own::call_own
decreases-own::call_own l = 8 * exprs_top l.args.now + 1

abbrev pub invariant-expr::arguments-loop-i : goal.invariant-expr::arguments-loop-i
invariant-expr::arguments-loop-i l = Onward l.fn.known l.fn.library (expr_at l.fn.library.nodes) l.fn.other l.fn.items l.fn.asks l.fn.cx l.values l.i l.cx
