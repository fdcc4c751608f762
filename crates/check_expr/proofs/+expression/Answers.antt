use Rattle.check_expr.proofs.Called.{gates}
use Rattle.check_expr.proofs.Scopes.{if_err, same_scope, reads_as, stops_as}
use Rattle.check_scope.proofs.Sequence.{reads_bind, reads_then, reads_variables, stops_bind, stops_then, stops_later, stops_after}
use Rattle.check_expr.proofs.Walks.{Onward, item_stops, single_stops, suits_stops, memory_stops, onward, onward_none, onward_all, by_binary, by_call, number_reads, number_stops, truth_open, left_static, left_static_number, left_static_right, left_static_last, left_first, left_first_stops, left_first_right, at_static}
use Rattle.check_expr.specs.Expression.{expr, binary_value, lone_wants}
use Rattle.check_scope.specs.State.{scope_in}
use Rattle.check_scope.specs.Steps.{Reads, Stops}
use Rattle.silq_tree.proofs.Lists.{expr_below, expr_below_top, exprs_top_le, exprs_below_front, exprs_below_back, exprs_below_more}
use Rattle.silq_tree.specs.Arena.{expr_at}
use Rattle.silq_tree.specs.Children.{AreExprsBelow, expr_exprs}
use Rattle.silq_tree.specs.Standing.{expr_grown}
use Rattle.std.proofs.Common.{get_or, ◌<◌, length, rules, ◌++◌, ◌≡◌, arith, w64, IfOk, IfErr, subst}
use Rattle.std.proofs.lemmas.Int.{to_z-of_z}
use Rattle.std.proofs.lemmas.Result.{IfOk-weaker, IfErr-weaker}
use mathlib.Core.Path.{sym, ap, ◌∙◌}
use mir.Val.{SFits}
use Rattle.silq_types.specs.declared.need.Need.TheVariants as needs
use Rattle.check_expr.proofs.+expression.Goals as goal

pub expr::unary-returns-in_err-values-clause-stops : goal.expr::unary-returns-in_err-values-clause-stops
expr::unary-returns-in_err-values-clause-stops t c = let K = c.args.known.now in if_err _ _ _ c.from_residual.ensures.1 (stops_bind K _ _ _ _ _ c.in_err-values.ensures.stops)

pub expr::unary-returns-in_err-value-clause-stops : goal.expr::unary-returns-in_err-value-clause-stops
expr::unary-returns-in_err-value-clause-stops t c = let K = c.args.known.now in if_err _ _ _ c.from_residual-in_err-value.ensures.1 (stops_later K _ _ _ _ _ _ _ c.in_ok-values.ensures.reads (stops_bind K _ _ _ _ _ (c.in_err-value.ensures.stops K _)))

pub expr::unary-returns-in_err-list-clause-stops : goal.expr::unary-returns-in_err-list-clause-stops
expr::unary-returns-in_err-list-clause-stops t c = let K = c.args.known.now in if_err _ _ _ c.from_residual-in_err-list.ensures.1 (stops_later K _ _ _ _ _ _ _ c.in_ok-values.ensures.reads (stops_later K _ _ _ _ _ _ _ (c.in_ok-value.ensures.reads K _) (c.in_err-list.ensures.stops K)))

pub expr::unary-returns-clause-reads : goal.expr::unary-returns-clause-reads
expr::unary-returns-clause-reads t c = let K = c.args.known.now in (reads_bind K _ _ _ _ _ _ _ c.in_ok-values.ensures.reads (reads_bind K _ _ _ _ _ _ _ (c.in_ok-value.ensures.reads K _) (c.in_ok-list.ensures.reads K)))

pub expr::operand-returns-in_err-values-clause-stops : goal.expr::operand-returns-in_err-values-clause-stops
expr::operand-returns-in_err-values-clause-stops t c = let K = c.args.known.now in if_err _ _ _ c.from_residual.ensures.1 (stops_bind K _ _ _ _ _ (stops_as K _ _ _ _ _ (ap (λ w. expr (expr_at c.args.library.now.nodes c.args.e) (scope_in c.args.library.now c.args.cx.now) needs.Held w) c.lone_wants.ensures) c.in_err-values.ensures.stops))

pub expr::operand-returns-in_err-value-clause-stops : goal.expr::operand-returns-in_err-value-clause-stops
expr::operand-returns-in_err-value-clause-stops t c = let K = c.args.known.now in if_err _ _ _ c.from_residual-in_err-value.ensures.1 (stops_later K _ _ _ _ _ _ _ (reads_as K _ _ _ _ _ (ap (λ w. expr (expr_at c.args.library.now.nodes c.args.e) (scope_in c.args.library.now c.args.cx.now) needs.Held w) c.lone_wants.ensures) c.in_ok-values.ensures.reads) (c.in_err-value.ensures.stops K _))

pub expr::operand-returns-clause-reads : goal.expr::operand-returns-clause-reads
expr::operand-returns-clause-reads t c = let K = c.args.known.now in (reads_bind K _ _ _ _ _ _ _ (reads_as K _ _ _ _ _ (ap (λ w. expr (expr_at c.args.library.now.nodes c.args.e) (scope_in c.args.library.now c.args.cx.now) needs.Held w) c.lone_wants.ensures) c.in_ok-values.ensures.reads) (c.in_ok-value.ensures.reads K _))

pub expr::operands-returns-in_err-static_number-clause-stops : goal.expr::operands-returns-in_err-static_number-clause-stops
expr::operands-returns-in_err-static_number-clause-stops t c = let K = c.args.known.now in if_err _ _ _ c.from_residual.ensures.1 (left_static_number K c.args.library.now (expr_at c.args.library.now.nodes c.args.sides.0) (expr_at c.args.library.now.nodes c.args.sides.1) _ _ _ (sym c.is_static.ensures ∙ c.if-is_static.true) (c.in_err-static_number.ensures.stops K))

pub expr::operands-returns-in_err-y-clause-stops : goal.expr::operands-returns-in_err-y-clause-stops
expr::operands-returns-in_err-y-clause-stops t c = let K = c.args.known.now in if_err _ _ _ c.from_residual-in_err-y.ensures.1 (left_static_right K c.args.library.now (expr_at c.args.library.now.nodes c.args.sides.0) (expr_at c.args.library.now.nodes c.args.sides.1) _ _ _ _ (sym c.is_static.ensures ∙ c.if-is_static.true) (c.in_ok-static_number.ensures.reads K) c.in_err-y.ensures.stops)

pub expr::operands-returns-in_err-x-clause-stops : goal.expr::operands-returns-in_err-x-clause-stops
expr::operands-returns-in_err-x-clause-stops t c = let K = c.args.known.now in if_err _ _ _ c.from_residual-in_err-x.ensures.1 (left_static_last K c.args.library.now (expr_at c.args.library.now.nodes c.args.sides.0) (expr_at c.args.library.now.nodes c.args.sides.1) _ _ _ _ _ _ (sym c.is_static.ensures ∙ c.if-is_static.true) (c.in_ok-static_number.ensures.reads K) c.in_ok-y.ensures.reads c.in_err-x.ensures.stops)

pub expr::operands-returns-in_ok-x-clause-reads : goal.expr::operands-returns-in_ok-x-clause-reads
expr::operands-returns-in_ok-x-clause-reads t c = let K = c.args.known.now in (left_static K c.args.library.now (expr_at c.args.library.now.nodes c.args.sides.0) (expr_at c.args.library.now.nodes c.args.sides.1) _ _ _ _ _ _ (sym c.is_static.ensures ∙ c.if-is_static.true) (c.in_ok-static_number.ensures.reads K) c.in_ok-y.ensures.reads c.in_ok-x.ensures.reads)

pub expr::operands-returns-in_err-x-2-clause-stops : goal.expr::operands-returns-in_err-x-2-clause-stops
expr::operands-returns-in_err-x-2-clause-stops t c = let K = c.args.known.now in if_err _ _ _ c.from_residual-in_err-x-2.ensures.1 (left_first_stops K c.args.library.now (expr_at c.args.library.now.nodes c.args.sides.0) (expr_at c.args.library.now.nodes c.args.sides.1) _ _ _ (sym c.is_static.ensures ∙ c.if-is_static.false) c.in_err-x-2.ensures.stops)

pub expr::operands-returns-in_err-y-2-clause-stops : goal.expr::operands-returns-in_err-y-2-clause-stops
expr::operands-returns-in_err-y-2-clause-stops t c = let K = c.args.known.now in if_err _ _ _ c.from_residual-in_err-y-2.ensures.1 (left_first_right K c.args.library.now (expr_at c.args.library.now.nodes c.args.sides.0) (expr_at c.args.library.now.nodes c.args.sides.1) _ _ _ _ _ (sym c.is_static.ensures ∙ c.if-is_static.false) c.in_ok-x-2.ensures.reads c.in_err-y-2.ensures.stops)

pub expr::operands-returns-in_ok-y-2-clause-reads : goal.expr::operands-returns-in_ok-y-2-clause-reads
expr::operands-returns-in_ok-y-2-clause-reads t c = let K = c.args.known.now in (left_first K c.args.library.now (expr_at c.args.library.now.nodes c.args.sides.0) (expr_at c.args.library.now.nodes c.args.sides.1) _ _ _ _ _ (sym c.is_static.ensures ∙ c.if-is_static.false) c.in_ok-x-2.ensures.reads c.in_ok-y-2.ensures.reads)

pub expr::binary-returns-in_err-values-clause-stops : goal.expr::binary-returns-in_err-values-clause-stops
expr::binary-returns-in_err-values-clause-stops t c = let K = c.args.known.now in if_err _ _ _ c.from_residual.ensures.1 (stops_bind K _ _ _ _ _ c.in_err-values.ensures.stops)

pub expr::binary-returns-in_err-list-clause-stops : goal.expr::binary-returns-in_err-list-clause-stops
expr::binary-returns-in_err-list-clause-stops t c = let K = c.args.known.now in if_err _ _ _ c.from_residual-in_err-list.ensures.1 (stops_later K _ _ _ _ _ _ _ c.in_ok-values.ensures.reads (stops_as K _ _ _ _ _ (ap (λ sc. binary_value sc c.args.op (expr_at c.args.library.now.nodes c.args.sides.0) (expr_at c.args.library.now.nodes c.args.sides.1) c.args.at c.in_ok-values.values.0 c.in_ok-values.values.1) (same_scope c.args.library.now _ _ c.in_ok-values.ensures.reads.keeps)) (c.in_err-list.ensures.stops K)))

pub expr::binary-returns-clause-reads : goal.expr::binary-returns-clause-reads
expr::binary-returns-clause-reads t c = let K = c.args.known.now in (reads_bind K _ _ _ _ _ _ _ c.in_ok-values.ensures.reads (reads_as K _ _ _ _ _ (ap (λ sc. binary_value sc c.args.op (expr_at c.args.library.now.nodes c.args.sides.0) (expr_at c.args.library.now.nodes c.args.sides.1) c.args.at c.in_ok-values.values.0 c.in_ok-values.values.1) (same_scope c.args.library.now _ _ c.in_ok-values.ensures.reads.keeps)) (c.in_ok-list.ensures.reads K)))

pub expr::walk-returns-in-Binary-clause-reads : goal.expr::walk-returns-in-Binary-clause-reads
expr::walk-returns-in-Binary-clause-reads t c = let K = c.args.known.now in subst (λ m. IfOk c.binary.result (λ vs. Reads K m c.args.cx.now vs c.binary.new.cx)) (by_binary _ _ _ _ _ (scope_in c.args.library.now c.args.cx.now) c.args.need c.args.wants.now (subst (λ n. expr_at n c.args.e ≡ expr_grown (expr_at n) c.expr.result.now) c.tree.ensures c.expr.ensures.tree ∙ ap (expr_grown (expr_at c.args.library.now.nodes)) c.in-Binary.is) (sym c.is_static.ensures ∙ c.if-is_static.false)) c.binary.ensures.reads

pub expr::walk-returns-in-Binary-clause-stops : goal.expr::walk-returns-in-Binary-clause-stops
expr::walk-returns-in-Binary-clause-stops t c = let K = c.args.known.now in subst (λ m. IfErr c.binary.result (λ f. Stops K m c.args.cx.now f c.binary.new.cx)) (by_binary _ _ _ _ _ (scope_in c.args.library.now c.args.cx.now) c.args.need c.args.wants.now (subst (λ n. expr_at n c.args.e ≡ expr_grown (expr_at n) c.expr.result.now) c.tree.ensures c.expr.ensures.tree ∙ ap (expr_grown (expr_at c.args.library.now.nodes)) c.in-Binary.is) (sym c.is_static.ensures ∙ c.if-is_static.false)) c.binary.ensures.stops

pub expr::walk-returns-in-Truth-clause-stops : goal.expr::walk-returns-in-Truth-clause-stops
expr::walk-returns-in-Truth-clause-stops t c = let K = c.args.known.now in absurd (truth_open _ _ _ _ (subst (λ n. expr_at n c.args.e ≡ expr_grown (expr_at n) c.expr.result.now) c.tree.ensures c.expr.ensures.tree ∙ ap (expr_grown (expr_at c.args.library.now.nodes)) c.in-Truth.is) (sym c.is_static.ensures ∙ c.if-is_static.false))

pub expr::walk-returns-in-Number-clause-reads : goal.expr::walk-returns-in-Number-clause-reads
expr::walk-returns-in-Number-clause-reads t c = let K = c.args.known.now in number_reads (expr_at c.args.library.now.nodes) _ (scope_in c.args.library.now c.args.cx.now) c.args.need c.args.wants.now K _ _ _ _ _ _ _ (subst (λ n. expr_at n c.args.e ≡ expr_grown (expr_at n) c.expr.result.now) c.tree.ensures c.expr.ensures.tree ∙ ap (expr_grown (expr_at c.args.library.now.nodes)) c.in-Number.is) (sym c.is_static.ensures ∙ c.if-is_static.false) (to_z-of_z w64 c.in-Number.value (search rules)) (c.number.ensures.reads K)

pub expr::walk-returns-in-Number-clause-stops : goal.expr::walk-returns-in-Number-clause-stops
expr::walk-returns-in-Number-clause-stops t c = let K = c.args.known.now in number_stops (expr_at c.args.library.now.nodes) _ (scope_in c.args.library.now c.args.cx.now) c.args.need c.args.wants.now K _ _ _ _ _ _ _ (subst (λ n. expr_at n c.args.e ≡ expr_grown (expr_at n) c.expr.result.now) c.tree.ensures c.expr.ensures.tree ∙ ap (expr_grown (expr_at c.args.library.now.nodes)) c.in-Number.is) (sym c.is_static.ensures ∙ c.if-is_static.false) (to_z-of_z w64 c.in-Number.value (search rules)) (c.number.ensures.stops K)

pub expr::walk-returns-then-is_static-clause-reads : goal.expr::walk-returns-then-is_static-clause-reads
expr::walk-returns-then-is_static-clause-reads t c = let K = c.args.known.now in subst (λ m. IfOk c.static_value.result (λ vs. Reads K m c.args.cx.now vs c.static_value.new.cx)) (at_static _ (scope_in c.args.library.now c.args.cx.now) c.args.need c.args.wants.now (sym c.is_static.ensures ∙ c.if-is_static.true)) (c.static_value.ensures.reads K)

pub expr::walk-returns-then-is_static-clause-stops : goal.expr::walk-returns-then-is_static-clause-stops
expr::walk-returns-then-is_static-clause-stops t c = let K = c.args.known.now in subst (λ m. IfErr c.static_value.result (λ f. Stops K m c.args.cx.now f c.static_value.new.cx)) (at_static _ (scope_in c.args.library.now c.args.cx.now) c.args.need c.args.wants.now (sym c.is_static.ensures ∙ c.if-is_static.true)) (c.static_value.ensures.stops K)

pub expr::walk-returns-in-Call-clause-reads : goal.expr::walk-returns-in-Call-clause-reads
expr::walk-returns-in-Call-clause-reads t c = let K = c.args.known.now in subst (λ m. IfOk c.call.result (λ vs. Reads K m c.args.cx.now vs c.call.new.cx)) (by_call (expr_at c.args.library.now.nodes) _ (scope_in c.args.library.now c.args.cx.now) c.args.need c.args.wants.now c.in-Call.fun _ _ _ _ _ (subst (λ n. expr_at n c.args.e ≡ expr_grown (expr_at n) c.expr.result.now) c.tree.ensures c.expr.ensures.tree ∙ ap (expr_grown (expr_at c.args.library.now.nodes)) c.in-Call.is) c.as_slice.ensures c.as_slice-in-Call.ensures) c.call.ensures.reads

pub expr::walk-returns-in-Call-clause-stops : goal.expr::walk-returns-in-Call-clause-stops
expr::walk-returns-in-Call-clause-stops t c = let K = c.args.known.now in subst (λ m. IfErr c.call.result (λ f. Stops K m c.args.cx.now f c.call.new.cx)) (by_call (expr_at c.args.library.now.nodes) _ (scope_in c.args.library.now c.args.cx.now) c.args.need c.args.wants.now c.in-Call.fun _ _ _ _ _ (subst (λ n. expr_at n c.args.e ≡ expr_grown (expr_at n) c.expr.result.now) c.tree.ensures c.expr.ensures.tree ∙ ap (expr_grown (expr_at c.args.library.now.nodes)) c.in-Call.is) c.as_slice.ensures c.as_slice-in-Call.ensures) c.call.ensures.stops

pub expr::walk-call-requires : goal.expr::walk-call-requires
expr::walk-call-requires t c = let K = c.args.known.now in let S : AreExprsBelow c.args.e.number (c.in-Call.statics ++ c.in-Call.args) = (subst (λ x. AreExprsBelow c.args.e.number (expr_exprs x)) c.in-Call.is c.expr.ensures.smaller) in let A : AreExprsBelow c.args.e.number c.as_slice-in-Call.result.now = subst (λ xs. AreExprsBelow c.args.e.number xs) (sym c.as_slice-in-Call.ensures) (exprs_below_back _ c.in-Call.statics _ S) in let B : AreExprsBelow c.args.e.number c.as_slice.result.now = subst (λ xs. AreExprsBelow c.args.e.number xs) (sym c.as_slice.ensures) (exprs_below_front _ _ c.in-Call.args S) in (omega (arith, c.decreases, exprs_top_le c.args.e.number c.as_slice-in-Call.result.now A), ((exprs_below_more c.args.e.number (length c.args.library.now.nodes.exprs) c.as_slice.result.now (omega arith) B), ((exprs_below_more c.args.e.number (length c.args.library.now.nodes.exprs) c.as_slice-in-Call.result.now (omega arith) A), c.requires.this)))

pub expr::walk-tuple-requires : goal.expr::walk-tuple-requires
expr::walk-tuple-requires t c = let K = c.args.known.now in let A : AreExprsBelow c.args.e.number c.as_slice-in-Tuple.result.now = subst (λ xs. AreExprsBelow c.args.e.number xs) (sym c.as_slice-in-Tuple.ensures) (subst (λ x. AreExprsBelow c.args.e.number (expr_exprs x)) c.in-Tuple.is c.expr.ensures.smaller) in (omega (arith, c.decreases, exprs_top_le c.args.e.number c.as_slice-in-Tuple.result.now A), ((exprs_below_more c.args.e.number (length c.args.library.now.nodes.exprs) c.as_slice-in-Tuple.result.now (omega arith) A), c.requires.this))

pub expr::arguments-lone_need-need-requires : goal.expr::arguments-lone_need-need-requires
expr::arguments-lone_need-need-requires t c = let K = c.args.known.now in (expr_below _ c.args.items.now c.loop-i.i (record { number = 0 }) c.requires.ids c.loop-i-test.true)

pub expr::arguments-lone_wants-wants-requires : goal.expr::arguments-lone_wants-wants-requires
expr::arguments-lone_wants-wants-requires t c = let K = c.args.known.now in (expr_below _ c.args.items.now c.loop-i.i (record { number = 0 }) c.requires.ids c.loop-i-test.true)

pub expr::arguments-single-requires : goal.expr::arguments-single-requires
expr::arguments-single-requires t c = let K = c.args.known.now in (expr_below _ c.args.items.now c.loop-i.i (record { number = 0 }) c.requires.ids c.loop-i-test.true)

pub expr::arguments-suits-requires : goal.expr::arguments-suits-requires
expr::arguments-suits-requires t c = let K = c.args.known.now in (expr_below _ c.args.items.now c.loop-i.i (record { number = 0 }) c.requires.ids c.loop-i-test.true)

pub expr::arguments-walk-requires : goal.expr::arguments-walk-requires
expr::arguments-walk-requires t c = let K = c.args.known.now in (omega (arith, c.decreases, expr_below_top c.args.items.now c.loop-i.i (record { number = 0 }) c.loop-i-test.true), ((expr_below _ c.args.items.now c.loop-i.i (record { number = 0 }) c.requires.ids c.loop-i-test.true), (subst (λ n. n < length c.args.library.now.funs) (sym c.loop-i.invariant.keeps.this) c.requires.this)))

pub expr::arguments-returns-in_err-list-clause-stops : goal.expr::arguments-returns-in_err-list-clause-stops
expr::arguments-returns-in_err-list-clause-stops t c = let K = c.args.known.now in if_err _ _ _ c.from_residual.ensures.1 (item_stops K _ _ _ _ _ _ _ _ _ _ c.loop-i.invariant c.loop-i-test.true _ c.ask_at-ask.ensures _ _ c.lone_need-need.ensures (c.lone_wants-wants.ensures ∙ ap (lone_wants (expr_at c.args.library.now.nodes (get_or c.args.items.now c.loop-i.i (record { number = 0 })))) c.wanted.ensures) _ _ c.in_err-list.ensures.stops)

pub expr::arguments-returns-in_err-value-clause-stops : goal.expr::arguments-returns-in_err-value-clause-stops
expr::arguments-returns-in_err-value-clause-stops t c = let K = c.args.known.now in if_err _ _ _ c.from_residual-in_err-value.ensures.1 (single_stops K _ _ _ _ _ _ _ _ _ _ c.loop-i.invariant c.loop-i-test.true _ c.ask_at-ask.ensures _ _ c.lone_need-need.ensures (c.lone_wants-wants.ensures ∙ ap (lone_wants (expr_at c.args.library.now.nodes (get_or c.args.items.now c.loop-i.i (record { number = 0 })))) c.wanted.ensures) _ _ c.in_ok-list.ensures.reads _ _ (c.in_err-value.ensures.stops K _))

pub expr::arguments-returns-in_err-suits-clause-stops : goal.expr::arguments-returns-in_err-suits-clause-stops
expr::arguments-returns-in_err-suits-clause-stops t c = let K = c.args.known.now in if_err _ _ _ c.from_residual-in_err-suits.ensures.1 (suits_stops K _ _ _ _ _ _ _ _ _ _ c.loop-i.invariant c.loop-i-test.true _ c.ask_at-ask.ensures _ _ c.lone_need-need.ensures (c.lone_wants-wants.ensures ∙ ap (lone_wants (expr_at c.args.library.now.nodes (get_or c.args.items.now c.loop-i.i (record { number = 0 })))) c.wanted.ensures) _ _ c.in_ok-list.ensures.reads _ (c.in_ok-value.ensures.reads K _) _ _ (c.in_err-suits.ensures.stops K _))

pub expr::arguments-returns-in_err-push-clause-stops : goal.expr::arguments-returns-in_err-push-clause-stops
expr::arguments-returns-in_err-push-clause-stops t c = let K = c.args.known.now in if_err _ _ _ c.from_residual-in_err-push.ensures.1 (memory_stops K _ _ _ _ _ _ _ _ _ _ c.loop-i.invariant c.loop-i-test.true _ c.ask_at-ask.ensures _ _ c.lone_need-need.ensures (c.lone_wants-wants.ensures ∙ ap (lone_wants (expr_at c.args.library.now.nodes (get_or c.args.items.now c.loop-i.i (record { number = 0 })))) c.wanted.ensures) _ _ c.in_ok-list.ensures.reads _ (c.in_ok-value.ensures.reads K _) (c.in_ok-suits.ensures.reads K _) _ c.in_err-push.ensures.memory)

pub expr::arguments-loop-i-preserved : goal.expr::arguments-loop-i-preserved
expr::arguments-loop-i-preserved t c = let K = c.args.known.now in onward K _ _ _ _ _ _ _ _ _ _ c.loop-i.invariant c.loop-i-test.true _ c.ask_at-ask.ensures _ _ c.lone_need-need.ensures (c.lone_wants-wants.ensures ∙ ap (lone_wants (expr_at c.args.library.now.nodes (get_or c.args.items.now c.loop-i.i (record { number = 0 })))) c.wanted.ensures) _ _ c.in_ok-list.ensures.reads _ (c.in_ok-value.ensures.reads K _) (c.in_ok-suits.ensures.reads K _) _ c.in_ok-push.ensures.ok

pub expr::arguments-loop-i-init : goal.expr::arguments-loop-i-init
expr::arguments-loop-i-init t c = let K = c.args.known.now in subst (λ vs. Onward K c.args.library.now (expr_at c.args.library.now.nodes) c.args.other c.args.items.now c.args.asks.now c.args.cx.now vs 0 c.args.cx.now) (sym c.new-values.ensures) (onward_none K _ _ _ _ _ _)

pub expr::arguments-returns-clause-reads : goal.expr::arguments-returns-clause-reads
expr::arguments-returns-clause-reads t c = let K = c.args.known.now in onward_all K _ _ _ _ _ _ _ _ _ c.loop-i.invariant (omega arith)

pub built_in::call_gate-returns-in_err-built_in_rules-clause-stops : goal.built_in::call_gate-returns-in_err-built_in_rules-clause-stops
built_in::call_gate-returns-in_err-built_in_rules-clause-stops t c = if_err _ _ _ c.from_residual.ensures.1 (stops_then c.args.known.now _ _ _ _ _ (c.in_err-built_in_rules.ensures.stops c.args.known.now))

pub built_in::call_gate-returns-in_err-values-clause-stops : goal.built_in::call_gate-returns-in_err-values-clause-stops
built_in::call_gate-returns-in_err-values-clause-stops t c = if_err _ _ _ c.from_residual-in_err-values.ensures.1
    (stops_after c.args.known.now _ _ _ _ _ _ _ (c.in_ok-built_in_rules.ensures.reads c.args.known.now)
    (stops_bind c.args.known.now _ _ _ _ _ (rw c.ask_of.ensures at c.in_err-values.ensures.stops)))

pub built_in::call_gate-returns-clause-reads : goal.built_in::call_gate-returns-clause-reads
built_in::call_gate-returns-clause-reads t c = IfOk-weaker c.gate_values.result _ _
    (λ vs r. reads_then c.args.known.now _ _ _ _ _ _ _ (c.in_ok-built_in_rules.ensures.reads c.args.known.now)
    (reads_bind c.args.known.now _ _ _ _ _ _ _ (rw c.ask_of.ensures at c.in_ok-values.ensures.reads) (rw c.as_slice.ensures at r)))
    (c.gate_values.ensures.reads c.args.known.now)

pub built_in::call_gate-returns-clause-stops : goal.built_in::call_gate-returns-clause-stops
built_in::call_gate-returns-clause-stops t c = IfErr-weaker c.gate_values.result _ _
    (λ vs r. stops_after c.args.known.now _ _ _ _ _ _ _ (c.in_ok-built_in_rules.ensures.reads c.args.known.now)
    (stops_later c.args.known.now _ _ _ _ _ _ _ (rw c.ask_of.ensures at c.in_ok-values.ensures.reads) (rw c.as_slice.ensures at r)))
    (c.gate_values.ensures.stops c.args.known.now)

pub built_in::vector_of-returns-in_err-known_names-clause-stops : goal.built_in::vector_of-returns-in_err-known_names-clause-stops
built_in::vector_of-returns-in_err-known_names-clause-stops t c = if_err _ _ _ c.from_residual.ensures.1 (stops_then c.args.known.now _ _ _ _ _ (c.in_err-known_names.ensures.stops c.args.known.now))

pub built_in::vector_of-returns-in_err-count-clause-stops : goal.built_in::vector_of-returns-in_err-count-clause-stops
built_in::vector_of-returns-in_err-count-clause-stops t c = if_err _ _ _ c.from_residual-in_err-count.ensures.1
    (stops_after c.args.known.now _ _ _ _ _ _ _ (c.in_ok-known_names.ensures.reads c.args.known.now)
    (stops_bind c.args.known.now _ _ _ _ _ (c.in_err-count.ensures.stops c.args.known.now)))

pub built_in::vector_of-returns-in_err-values-clause-stops : goal.built_in::vector_of-returns-in_err-values-clause-stops
built_in::vector_of-returns-in_err-values-clause-stops t c = if_err _ _ _ c.from_residual-in_err-values.ensures.1
    (stops_after c.args.known.now _ _ _ _ _ _ _ (c.in_ok-known_names.ensures.reads c.args.known.now)
    (stops_later c.args.known.now _ _ _ _ _ _ _ (c.in_ok-count.ensures.reads c.args.known.now)
    (stops_bind c.args.known.now _ _ _ _ _ c.in_err-values.ensures.stops)))

pub built_in::vector_of-returns-in_err-count-2-clause-stops : goal.built_in::vector_of-returns-in_err-count-2-clause-stops
built_in::vector_of-returns-in_err-count-2-clause-stops t c = if_err _ _ _ c.from_residual-in_err-count-2.ensures.1
    (stops_after c.args.known.now _ _ _ _ _ _ _ (c.in_ok-known_names.ensures.reads c.args.known.now)
    (stops_later c.args.known.now _ _ _ _ _ _ _ (c.in_ok-count.ensures.reads c.args.known.now)
    (stops_later c.args.known.now _ _ _ _ _ _ _ c.in_ok-values.ensures.reads
    (stops_then c.args.known.now _ _ _ _ _ (let f : SFits w64 c.in_ok-count.count = search rules in simp (to_z-of_z w64 c.in_ok-count.count f, c.is_plain-plain.ensures) at (c.in_err-count-2.ensures.stops c.args.known.now c.arguments.new.cx))))))

pub built_in::vector_of-returns-clause-reads : goal.built_in::vector_of-returns-clause-reads
built_in::vector_of-returns-clause-reads t c = IfOk-weaker c.many.result _ _
    (λ vs r. reads_then c.args.known.now _ _ _ _ _ _ _ (c.in_ok-known_names.ensures.reads c.args.known.now)
    (reads_bind c.args.known.now _ _ _ _ _ _ _ (c.in_ok-count.ensures.reads c.args.known.now)
    (reads_bind c.args.known.now _ _ _ _ _ _ _ c.in_ok-values.ensures.reads
    (reads_then c.args.known.now _ _ _ _ _ _ _ (let f : SFits w64 c.in_ok-count.count = search rules in simp (to_z-of_z w64 c.in_ok-count.count f, c.is_plain-plain.ensures) at (c.in_ok-count-2.ensures.reads c.args.known.now c.arguments.new.cx)) (let f : SFits w64 c.in_ok-count.count = search rules in simp (to_z-of_z w64 c.in_ok-count.count f) at (rw (c.as_slice.ensures, c.in_ok-count-2.ensures.len) at r))))))
    (c.many.ensures.reads c.args.known.now)

pub built_in::vector_of-returns-clause-stops : goal.built_in::vector_of-returns-clause-stops
built_in::vector_of-returns-clause-stops t c = IfErr-weaker c.many.result _ _
    (λ vs r. stops_after c.args.known.now _ _ _ _ _ _ _ (c.in_ok-known_names.ensures.reads c.args.known.now)
    (stops_later c.args.known.now _ _ _ _ _ _ _ (c.in_ok-count.ensures.reads c.args.known.now)
    (stops_later c.args.known.now _ _ _ _ _ _ _ c.in_ok-values.ensures.reads
    (stops_after c.args.known.now _ _ _ _ _ _ _ (let f : SFits w64 c.in_ok-count.count = search rules in simp (to_z-of_z w64 c.in_ok-count.count f, c.is_plain-plain.ensures) at (c.in_ok-count-2.ensures.reads c.args.known.now c.arguments.new.cx)) (let f : SFits w64 c.in_ok-count.count = search rules in simp (to_z-of_z w64 c.in_ok-count.count f) at (rw (c.as_slice.ensures, c.in_ok-count-2.ensures.len) at r))))))
    (c.many.ensures.stops c.args.known.now)

pub built_in::call_built_in-returns-in_err-built_in_rules-in-Vector-clause-stops : goal.built_in::call_built_in-returns-in_err-built_in_rules-in-Vector-clause-stops
built_in::call_built_in-returns-in_err-built_in_rules-in-Vector-clause-stops t c = rw c.in-Vector.is (if_err _ _ _ c.from_residual.ensures.1
    (stops_then c.args.known.now _ _ _ _ _ (rw c.in-Vector.is at (c.in_err-built_in_rules-in-Vector.ensures.stops c.args.known.now))))

pub built_in::call_built_in-returns-in_ok-built_in_rules-in-Vector-clause-reads : goal.built_in::call_built_in-returns-in_ok-built_in_rules-in-Vector-clause-reads
built_in::call_built_in-returns-in_ok-built_in_rules-in-Vector-clause-reads t c = rw c.in-Vector.is (IfOk-weaker c.vector_value.result _ _
    (λ vs r. reads_then c.args.known.now _ _ _ _ _ _ _ (rw c.in-Vector.is at (c.in_ok-built_in_rules-in-Vector.ensures.reads c.args.known.now)) r)
    c.vector_value.ensures.reads)

pub built_in::call_built_in-returns-in_ok-built_in_rules-in-Vector-clause-stops : goal.built_in::call_built_in-returns-in_ok-built_in_rules-in-Vector-clause-stops
built_in::call_built_in-returns-in_ok-built_in_rules-in-Vector-clause-stops t c = rw c.in-Vector.is (IfErr-weaker c.vector_value.result _ _
    (λ vs r. stops_after c.args.known.now _ _ _ _ _ _ _ (rw c.in-Vector.is at (c.in_ok-built_in_rules-in-Vector.ensures.reads c.args.known.now)) r)
    c.vector_value.ensures.stops)

pub built_in::call_built_in-returns-in_default : goal.built_in::call_built_in-returns-in_default
built_in::call_built_in-returns-in_default t c =
    rw (gates c.args.fun _ _ _ _ _ _ _ c.in_default.not-RotateX c.in_default.not-RotateY c.in_default.not-RotateZ c.in_default.not-Vector) c.call_gate.ensures

pub own::call_own-returns-in_err-mark_rules-clause-stops : goal.own::call_own-returns-in_err-mark_rules-clause-stops
own::call_own-returns-in_err-mark_rules-clause-stops t c = if_err _ _ _ c.from_residual.ensures.1
    (stops_then c.args.known.now _ _ _ _ _ (c.in_err-mark_rules.ensures.stops c.args.known.now))

pub own::call_own-returns-in_err-numbers-clause-stops : goal.own::call_own-returns-in_err-numbers-clause-stops
own::call_own-returns-in_err-numbers-clause-stops t c = if_err _ _ _ c.from_residual-in_err-numbers.ensures.1
    (stops_after c.args.known.now _ _ _ _ _ _ _ (c.in_ok-mark_rules.ensures.reads c.args.known.now)
    (stops_bind c.args.known.now _ _ _ _ _ (c.in_err-numbers.ensures.stops c.args.known.now)))

pub own::call_own-returns-in_err-header-clause-stops : goal.own::call_own-returns-in_err-header-clause-stops
own::call_own-returns-in_err-header-clause-stops t c = if_err _ _ _ c.from_residual-in_err-header.ensures.1
    (stops_after c.args.known.now _ _ _ _ _ _ _ (c.in_ok-mark_rules.ensures.reads c.args.known.now)
    (stops_later c.args.known.now _ _ _ _ _ _ _ (c.in_ok-numbers.ensures.reads c.args.known.now)
    (stops_bind c.args.known.now _ _ _ _ _ (rw c.as_slice.ensures at (c.in_err-header.ensures.stops c.args.known.now c.args.cx.now)))))

pub own::call_own-returns-in_err-argument_rules-clause-stops : goal.own::call_own-returns-in_err-argument_rules-clause-stops
own::call_own-returns-in_err-argument_rules-clause-stops t c = if_err _ _ _ c.from_residual-in_err-argument_rules.ensures.1
    (stops_after c.args.known.now _ _ _ _ _ _ _ (c.in_ok-mark_rules.ensures.reads c.args.known.now)
    (stops_later c.args.known.now _ _ _ _ _ _ _ (c.in_ok-numbers.ensures.reads c.args.known.now)
    (stops_later c.args.known.now _ _ _ _ _ _ _ (rw c.as_slice.ensures at (c.in_ok-header.ensures.reads c.args.known.now c.args.cx.now))
    (stops_later c.args.known.now _ _ _ _ _ _ _ (reads_variables c.args.known.now c.args.cx.now)
    (stops_then c.args.known.now _ _ _ _ _ (c.in_err-argument_rules.ensures.stops c.args.known.now))))))

pub own::call_own-returns-in_err-values-clause-stops : goal.own::call_own-returns-in_err-values-clause-stops
own::call_own-returns-in_err-values-clause-stops t c = if_err _ _ _ c.from_residual-in_err-values.ensures.1
    (stops_after c.args.known.now _ _ _ _ _ _ _ (c.in_ok-mark_rules.ensures.reads c.args.known.now)
    (stops_later c.args.known.now _ _ _ _ _ _ _ (c.in_ok-numbers.ensures.reads c.args.known.now)
    (stops_later c.args.known.now _ _ _ _ _ _ _ (rw c.as_slice.ensures at (c.in_ok-header.ensures.reads c.args.known.now c.args.cx.now))
    (stops_later c.args.known.now _ _ _ _ _ _ _ (reads_variables c.args.known.now c.args.cx.now)
    (stops_after c.args.known.now _ _ _ _ _ _ _ (c.in_ok-argument_rules.ensures.reads c.args.known.now)
    (stops_bind c.args.known.now _ _ _ _ _ (rw (c.as_slice-3.ensures, c.in_ok-asks.ensures, c.as_slice-2.ensures) at c.in_err-values.ensures.stops)))))))

pub own::call_own-returns-in_err-signed-clause-stops : goal.own::call_own-returns-in_err-signed-clause-stops
own::call_own-returns-in_err-signed-clause-stops t c = if_err _ _ _ c.from_residual-in_err-signed.ensures.1
    (stops_after c.args.known.now _ _ _ _ _ _ _ (c.in_ok-mark_rules.ensures.reads c.args.known.now)
    (stops_later c.args.known.now _ _ _ _ _ _ _ (c.in_ok-numbers.ensures.reads c.args.known.now)
    (stops_later c.args.known.now _ _ _ _ _ _ _ (rw c.as_slice.ensures at (c.in_ok-header.ensures.reads c.args.known.now c.args.cx.now))
    (stops_later c.args.known.now _ _ _ _ _ _ _ (reads_variables c.args.known.now c.args.cx.now)
    (stops_after c.args.known.now _ _ _ _ _ _ _ (c.in_ok-argument_rules.ensures.reads c.args.known.now)
    (stops_later c.args.known.now _ _ _ _ _ _ _ (rw (c.as_slice-3.ensures, c.in_ok-asks.ensures, c.as_slice-2.ensures) at c.in_ok-values.ensures.reads)
    (stops_bind c.args.known.now _ _ _ _ _ c.in_err-signed.ensures.stops)))))))

pub own::call_own-returns-clause-reads : goal.own::call_own-returns-clause-reads
own::call_own-returns-clause-reads t c = IfOk-weaker c.instance_values.result _ _ (λ vs r.
    (reads_then c.args.known.now _ _ _ _ _ _ _ (c.in_ok-mark_rules.ensures.reads c.args.known.now)
    (reads_bind c.args.known.now _ _ _ _ _ _ _ (c.in_ok-numbers.ensures.reads c.args.known.now)
    (reads_bind c.args.known.now _ _ _ _ _ _ _ (rw c.as_slice.ensures at (c.in_ok-header.ensures.reads c.args.known.now c.args.cx.now))
    (reads_bind c.args.known.now _ _ _ _ _ _ _ (reads_variables c.args.known.now c.args.cx.now)
    (reads_then c.args.known.now _ _ _ _ _ _ _ (c.in_ok-argument_rules.ensures.reads c.args.known.now)
    (reads_bind c.args.known.now _ _ _ _ _ _ _ (rw (c.as_slice-3.ensures, c.in_ok-asks.ensures, c.as_slice-2.ensures) at c.in_ok-values.ensures.reads)
    (reads_bind c.args.known.now _ _ _ _ _ _ _ c.in_ok-signed.ensures.reads
    (rw (c.lifts-lifted.ensures, c.as_slice-4.ensures, c.as_slice-5.ensures, c.as_slice-6.ensures, c.as_slice-7.ensures) at r)))))))))
    (c.instance_values.ensures.reads c.args.known.now)

pub own::call_own-returns-clause-stops : goal.own::call_own-returns-clause-stops
own::call_own-returns-clause-stops t c = IfErr-weaker c.instance_values.result _ _ (λ f r.
    (stops_after c.args.known.now _ _ _ _ _ _ _ (c.in_ok-mark_rules.ensures.reads c.args.known.now)
    (stops_later c.args.known.now _ _ _ _ _ _ _ (c.in_ok-numbers.ensures.reads c.args.known.now)
    (stops_later c.args.known.now _ _ _ _ _ _ _ (rw c.as_slice.ensures at (c.in_ok-header.ensures.reads c.args.known.now c.args.cx.now))
    (stops_later c.args.known.now _ _ _ _ _ _ _ (reads_variables c.args.known.now c.args.cx.now)
    (stops_after c.args.known.now _ _ _ _ _ _ _ (c.in_ok-argument_rules.ensures.reads c.args.known.now)
    (stops_later c.args.known.now _ _ _ _ _ _ _ (rw (c.as_slice-3.ensures, c.in_ok-asks.ensures, c.as_slice-2.ensures) at c.in_ok-values.ensures.reads)
    (stops_later c.args.known.now _ _ _ _ _ _ _ c.in_ok-signed.ensures.reads
    (rw (c.lifts-lifted.ensures, c.as_slice-4.ensures, c.as_slice-5.ensures, c.as_slice-6.ensures, c.as_slice-7.ensures) at r)))))))))
    (c.instance_values.ensures.stops c.args.known.now)

pub calls::call-returns-in-Some-find-clause-stops : goal.calls::call-returns-in-Some-find-clause-stops
calls::call-returns-in-Some-find-clause-stops t c =
    let found = rw c.this.ensures at c.in-Some-find.ensures.found in
    rw (← c.in-None.ensures, found) c.call_own.ensures.stops
