use Rattle.std.proofs.Common.{ap, sym, true, ◌∙◌, ◌+◌, get_or}
use Rattle.silq_print.specs.Depths.{capped, lesser, least_of, only_at, chain_at, operand_low, index_low, deepest}
use Rattle.silq_print.proofs.Deeper.{chain_tight, single, chained, number_leaf, call_leaf, tuple_leaf, unary_leaf, place_leaf}
use Rattle.std.specs.Prelude.{option_map}
use Rattle.silq_print.proofs.Depths.{capped_behind}
use Rattle.silq_print.specs.Levels.{left_level, right_level, goes_on_at}
use Rattle.silq_tree.specs.Standing.{expr_grown, expressions_of}
use Rattle.silq_tree.specs.Arena.{expr_at}
use Rattle.silq_print.specs.Ways.{greater, ways}
use Rattle.silq_print.proofs.Depths.{lowest_is}
use Rattle.silq_print.proofs.depth.+depth.Goals as goal

pub depth-returns : goal.depth-returns
depth-returns n c = c.least.ensures.value ∙ lowest_is c.depths.result (ways c.args.tight (expr_at c.args.tree.now c.args.e)) c.least.ensures.long c.depths.ensures

pub chain_depths-returns-then-tight : goal.chain_depths-returns-then-tight
chain_depths-returns-then-tight n c = rw c.if-tight.true
    (chain_tight (ways true (expr_at c.args.tree.now c.args.e)) c.depths-lefts.result c.longer-all.result c.args.right c.lesser.result c.least.ensures.long c.longer-all.ensures.long (rw c.if-tight.true at c.depths-lefts.ensures) c.longer-all.ensures.at
    (c.lesser.ensures ∙ ap (lesser (get_or c.longer-all.result 1 0)) (c.greater-parens.ensures ∙ ap (λ x. greater x c.behind-then-tight.result) (c.behind.ensures ∙ ap (λ x. capped (1 + x)) c.least.ensures.value)
    ∙ ap (greater (capped (1 + least_of c.depths-lefts.result))) c.behind-then-tight.ensures)))

pub depths-returns-in-Number : goal.depths-returns-in-Number
depths-returns-in-Number n c = λ s l.
    let at = expr_at c.args.tree.now in
    rw (c.expr.ensures.tree ∙ ap (expr_grown at) c.in-Number.is)
    (c.one_way.ensures s l ∙ ap (λ d. only_at 0 d s) c.number_depth.ensures ∙ number_leaf at c.args.tight c.in-Number.value c.in-Number.ty c.in-Number.at s)

pub depths-returns-in-Place : goal.depths-returns-in-Place
depths-returns-in-Place n c = λ s l.
    let at = expr_at c.args.tree.now in
    rw (c.expr.ensures.tree ∙ ap (expr_grown at) c.in-Place.is)
    (c.one_way-in-Place.ensures s l ∙ ap (λ d. only_at 0 d s) (c.greater.ensures ∙ ap (λ d. greater d c.index_depth-second.result) c.index_depth-first.ensures ∙ ap (greater (capped (index_low c.args.tight (option_map at c.in-Place.place.first)))) c.index_depth-second.ensures)
    ∙ place_leaf at c.args.tight c.in-Place.place.name c.in-Place.place.first c.in-Place.place.second s (rw c.in-Place.is at c.expr.ensures.first))

pub depths-returns-in-Call : goal.depths-returns-in-Call
depths-returns-in-Call n c = λ s l.
    let at = expr_at c.args.tree.now in
    rw (c.expr.ensures.tree ∙ ap (expr_grown at) c.in-Call.is)
    (c.one_way-in-Call.ensures s l ∙ ap (λ d. only_at 0 d s) (c.behind.ensures ∙ ap (λ d. capped (1 + d)) (c.greater-in-Call.ensures ∙ ap (λ d. greater d c.deepest-second.result) (rw c.as_slice.ensures at c.deepest-first.ensures) ∙ ap (greater (capped (deepest c.args.tight (expressions_of at c.in-Call.statics)))) (rw c.as_slice-in-Call.ensures at c.deepest-second.ensures)))
    ∙ call_leaf c.in-Call.fun c.args.tight (expressions_of at c.in-Call.statics) (expressions_of at c.in-Call.args) s)

pub depths-returns-in-Tuple : goal.depths-returns-in-Tuple
depths-returns-in-Tuple n c = λ s l.
    let at = expr_at c.args.tree.now in
    rw (c.expr.ensures.tree ∙ ap (expr_grown at) c.in-Tuple.is)
    (c.one_way-in-Tuple.ensures s l ∙ ap (λ d. only_at 0 d s) (c.behind-in-Tuple.ensures ∙ ap (λ d. capped (1 + d)) (rw c.as_slice-in-Tuple.ensures at c.deepest.ensures)) ∙ tuple_leaf c.args.tight (expressions_of at c.in-Tuple.items) s)

pub depths-returns-in-Unary : goal.depths-returns-in-Unary
depths-returns-in-Unary n c = λ s l.
    let at = expr_at c.args.tree.now in
    rw (c.expr.ensures.tree ∙ ap (expr_grown at) c.in-Unary.is)
    (c.one_way-in-Unary.ensures s l ∙ ap (λ d. only_at 0 d s) (c.behind-in-Unary.ensures ∙ ap (λ d. capped (1 + d)) c.operand_depth.ensures) ∙ unary_leaf c.in-Unary.op c.args.tight (at c.in-Unary.arg) s)

pub depths-returns-then-goes_on : goal.depths-returns-then-goes_on
depths-returns-then-goes_on n c = λ s l.
    let at = expr_at c.args.tree.now in
    rw (c.expr.ensures.tree ∙ ap (expr_grown at) c.in-Binary.is)
    (c.chain_depths.ensures s l ∙ ap (λ r. chain_at c.args.tight (ways c.args.tight (at c.in-Binary.left)) r s) (rw c.right_level.ensures at c.operand_depth-right.ensures)
    ∙ chained c.in-Binary.op c.args.tight (at c.in-Binary.left) (at c.in-Binary.right) s (sym (ap (goes_on_at c.in-Binary.op) c.top_level.ensures) ∙ sym c.goes_on.ensures ∙ c.if-goes_on.true))

pub depths-returns-else-goes_on : goal.depths-returns-else-goes_on
depths-returns-else-goes_on n c = λ s l.
    let at = expr_at c.args.tree.now in
    rw (c.expr.ensures.tree ∙ ap (expr_grown at) c.in-Binary.is)
    (c.one_way-else-goes_on.ensures s l ∙ ap (λ d. only_at 1 d s)
    (c.greater-else-goes_on.ensures ∙ ap (λ d. greater d c.behind-else-goes_on.result) (rw c.left_level.ensures at c.operand_depth-left.ensures)
    ∙ ap (greater (capped (operand_low (left_level c.in-Binary.op) c.args.tight (at c.in-Binary.left))))
    (c.behind-else-goes_on.ensures ∙ ap (λ d. capped (1 + d)) (rw c.right_level.ensures at c.operand_depth-right.ensures) ∙ capped_behind 1 (operand_low (right_level c.in-Binary.op) c.args.tight (at c.in-Binary.right))))
    ∙ single c.in-Binary.op c.args.tight (at c.in-Binary.left) (at c.in-Binary.right) s (sym (ap (goes_on_at c.in-Binary.op) c.top_level.ensures) ∙ sym c.goes_on.ensures ∙ c.if-goes_on.false))
