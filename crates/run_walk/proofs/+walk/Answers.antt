use Rattle.std.proofs.Common.{rules, ◌<◌, length, ◌+◌, ◌*◌, w64, to_z, of_z}
use Rattle.silq_tree.specs.Children.{AreStmtsBelow, else_stmts}
use Rattle.run_stage.specs.Stages.{carried}
use Rattle.tree_walk.specs.Seen.{block_in}
use Rattle.std.proofs.Common.{SFits, sym, subst, ap, ◌∙◌, max, get_or, arith}
use Rattle.std.proofs.lemmas.Int.{to_z-of_z}
use Rattle.silq_tree.proofs.Lists.{exprs_top, expr_below_top, expr_below, stmts_top, stmts_top_le}
use Rattle.tree_walk.specs.declared.body.Body.{Body}
use Rattle.tree_walk.proofs.Calling.{call_word, call_own, call_earlier}
use Rattle.tree_walk.proofs.Faults.{if_err_from}
use Rattle.tree_walk.proofs.Forms.{told_static, told_dynamic, told_call, told_tuple, told_unary, told_binary}
use Rattle.tree_walk.proofs.Forms.{statics_below, args_below, tuple_below, unary_below, left_below, right_below}
use Rattle.tree_walk.proofs.Levels.{level_less, level_call}
use Rattle.tree_walk.proofs.Owning.{told_run, told_arguments}
use Rattle.run_walk.proofs.Carrying.{ok_as, refused_as}
use Rattle.run_walk.proofs.Calling.{none_is, word_refused, gate_is}
use Rattle.run_walk.proofs.Entries.{body_is}
use Rattle.run_walk.proofs.Owning.{arguments_refused, run_refused, leave_is}
use Rattle.run_walk.proofs.Walking.{item_refused, items_more}
use Rattle.run_walk.proofs.Blocks.{one_refused, one_more, loop_still, round_refused, round_more}
use Rattle.run_walk.proofs.Statements.{count_refused, counted_is, single_is, single_refused}
use Rattle.run_walk.proofs.Carrying.{stop_as}
use Rattle.run_stage.proofs.Composing.{turn_refused_first}
use Rattle.silq_mean.specs.Effect.{step, assign_in_turn}
use Rattle.silq_mean.specs.declared.receiver.Receiver.TheVariants.{Variable}
use Rattle.silq_types.specs.declared.need.Need.TheVariants.{Consumed}
use Rattle.silq_tree.proofs.Lists.{stmt_below_top, stmt_below}
use Rattle.std.specs.Prelude.{IfSome}
use Rattle.std.proofs.Common.{map}
use Rattle.std.proofs.lemmas.Bool.{eqb-true}
use Rattle.std.proofs.Math.Facts.{sfits_to_z}
use Rattle.tree_walk.specs.Seen.{items_in, return_in}
use Rattle.tree_walk.proofs.Acts.{told_assign, told_spread, told_update, told_if, told_for, told_do, told_forget}
use Rattle.tree_walk.proofs.Acts.{assign_parts, assign_value, spread_value, update_parts, update_value, forget_value, if_condition, for_low, for_high}
use Rattle.tree_walk.proofs.Acts.{return_value, do_value, assign_first, update_first, then_below, else_below, loop_below}
use Rattle.tree_walk.proofs.Blocks.{told_else_block, else_ids, else_same, else_one, lt_told, next_number}
use Rattle.tree_walk.proofs.Forms.{told_items, told_single}
use Rattle.tree_walk.proofs.Levels.{level}
use Rattle.run_walk.proofs.+walk.Goals as goal

pub expr::unary-expr-requires : goal.expr::unary-expr-requires
expr::unary-expr-requires t c =
    let l = c.args.library.now in
    let b = c.args.body.now in
    let below = level_less b.this (length l.nodes.exprs) (length l.nodes.stmts)
    (8 * c.args.arg.number + 7) (8 * c.args.arg.number + 8) (omega arith) in
    (omega (arith, c.decreases, below), (c.requires.id, c.requires.this))

pub expr::binary-expr-requires : goal.expr::binary-expr-requires
expr::binary-expr-requires t c =
    let l = c.args.library.now in
    let b = c.args.body.now in
    let below = level_less b.this (length l.nodes.exprs) (length l.nodes.stmts)
    (8 * c.args.left.number + 7) (8 * max c.args.left.number c.args.right.number + 8) (omega arith) in
    (omega (arith, c.decreases, below), (c.requires.left, c.requires.this))

pub expr::binary-expr-requires-2 : goal.expr::binary-expr-requires-2
expr::binary-expr-requires-2 t c =
    let l = c.args.library.now in
    let b = c.args.body.now in
    let below = level_less b.this (length l.nodes.exprs) (length l.nodes.stmts)
    (8 * c.args.right.number + 7) (8 * max c.args.left.number c.args.right.number + 8) (omega arith) in
    (omega (arith, c.decreases, below), (c.requires.right, c.requires.this))

pub expr::values-expr-requires : goal.expr::values-expr-requires
expr::values-expr-requires t c =
    let l = c.args.library.now in
    let b = c.args.body.now in
    let top = expr_below_top c.args.items.now c.loop-item.item-index (record { number = 0 }) c.loop-item-test.true in
    let below = level_less b.this (length l.nodes.exprs) (length l.nodes.stmts)
    (8 * (get_or c.args.items.now c.loop-item.item-index (record { number = 0 })).number + 7) (8 * exprs_top c.args.items.now) (omega (arith, top)) in
    (omega (arith, c.decreases, below), (expr_below _ c.args.items.now c.loop-item.item-index _ c.requires.ids c.loop-item-test.true, c.requires.this))

pub expr::values-returns-in_err-expr-clause-refused : goal.expr::values-returns-in_err-expr-clause-refused
expr::values-returns-in_err-expr-clause-refused t c =
    let l = c.args.library.now in
    let b = c.args.body.now in
    if_err_from _ _ _ c.from_residual.ensures.1
    (item_refused l b c.args.items.now c.loop-item.item-index (record { number = 0 }) c.args.other
    c.loop-item.asked.now c.loop-item.receivers.now c.need_or.result _ c.loop-item.stage c.loop-item-test.true c.need_or.ensures
    c.loop-item.invariant _ c.in_err-expr.ensures.refused)

pub expr::values-loop-item-preserved : goal.expr::values-loop-item-preserved
expr::values-loop-item-preserved t c =
    let l = c.args.library.now in
    let b = c.args.body.now in
    items_more l b c.args.items.now c.loop-item.item-index (record { number = 0 }) c.args.other
    c.loop-item.asked.now c.loop-item.receivers.now c.need_or.result _ c.loop-item.stage c.loop-item-test.true c.need_or.ensures
    c.loop-item.invariant _ _ _ _ c.in_ok-expr.ensures.ok c.in_ok-receive.ensures.ok
    c.behind_first-asked.ensures c.behind_first-receivers.ensures

pub call::built_in_call-values-requires : goal.call::built_in_call-values-requires
call::built_in_call-values-requires t c =
    let l = c.args.library.now in
    let b = c.args.body.now in
    let below = level_less b.this (length l.nodes.exprs) (length l.nodes.stmts)
    (8 * exprs_top c.args.args.now) (8 * exprs_top c.args.args.now + 1) (omega arith) in
    (omega (arith, c.decreases, below), (c.requires.args, c.requires.this))

pub call::built_in_call-returns-in_err-values-clause-refused : goal.call::built_in_call-returns-in_err-values-clause-refused
call::built_in_call-returns-in_err-values-clause-refused t c =
    let l = c.args.library.now in
    let b = c.args.body.now in
    if_err_from _ _ _ c.from_residual.ensures.1
    (word_refused l b c.args.args.now c.args.stage.now c.args.word c.needs_of.result.now c.needs_of.ensures _ c.in_err-values.ensures.refused)

pub call::built_in_call-returns-clause-refused : goal.call::built_in_call-returns-clause-refused
call::built_in_call-returns-clause-refused t c =
    let l = c.args.library.now in
    let b = c.args.body.now in
    refused_as _ _ (gate_is l b c.args.args.now c.args.stage.now c.args.word c.needs_of.result.now c.needs_of.ensures _ c.in_ok-values.ensures.ok)
    c.apply.result c.apply.ensures.refused

pub call::call-built_in_call-requires : goal.call::call-built_in_call-requires
call::call-built_in_call-requires t c =
    let l = c.args.library.now in
    let b = c.args.body.now in
    let below = level_less b.this (length l.nodes.exprs) (length l.nodes.stmts)
    (8 * exprs_top c.args.args.now + 1) (8 * exprs_top c.args.args.now + 3) (omega arith) in
    (omega (arith, c.decreases, below), (c.requires.args, c.requires.this))

pub call::call-own_call-requires : goal.call::call-own_call-requires
call::call-own_call-requires t c =
    let l = c.args.library.now in
    let b = c.args.body.now in
    let below = level_less b.this (length l.nodes.exprs) (length l.nodes.stmts)
    (8 * exprs_top c.args.args.now + 2) (8 * exprs_top c.args.args.now + 3) (omega arith) in (
      omega (arith, c.decreases, below),
      (
        c.requires.statics,
        (
          c.requires.args,
          (
            c.requires.this,
            call_earlier l b c.args.name c.args.statics.now c.args.args.now c.in-Some-find.fun c.requires.this c.in-Some-find.ensures.found,
          ),
        ),
      ),
    )

pub call::call-values-requires : goal.call::call-values-requires
call::call-values-requires t c =
    let l = c.args.library.now in
    let b = c.args.body.now in
    let below = level_less b.this (length l.nodes.exprs) (length l.nodes.stmts)
    (8 * exprs_top c.args.args.now) (8 * exprs_top c.args.args.now + 3) (omega arith) in
    (omega (arith, c.decreases, below), (c.requires.args, c.requires.this))

pub call::call-returns-in-Some-clause-refused : goal.call::call-returns-in-Some-clause-refused
call::call-returns-in-Some-clause-refused t c =
    let l = c.args.library.now in
    let b = c.args.body.now in
    refused_as _ _ (ap (λ e. carried e c.args.stage.now)
    (call_word l b c.args.name c.args.statics.now c.args.args.now c.in-Some.word (sym c.built_in.ensures ∙ c.in-Some.is))) c.built_in_call.result
    c.built_in_call.ensures.refused

pub call::call-returns-in-Some-find-clause-ok : goal.call::call-returns-in-Some-find-clause-ok
call::call-returns-in-Some-find-clause-ok t c =
    let l = c.args.library.now in
    let b = c.args.body.now in
    ok_as _ _ (ap (λ e. carried e c.args.stage.now)
    (call_own l b c.args.name c.args.statics.now c.args.args.now c.in-Some-find.fun c.requires.this (sym c.built_in.ensures ∙ c.in-None.is)
    c.in-Some-find.ensures.found)) c.own_call.result _ c.own_call.ensures.ok

pub call::call-returns-in-Some-find-clause-refused : goal.call::call-returns-in-Some-find-clause-refused
call::call-returns-in-Some-find-clause-refused t c =
    let l = c.args.library.now in
    let b = c.args.body.now in
    refused_as _ _ (ap (λ e. carried e c.args.stage.now)
    (call_own l b c.args.name c.args.statics.now c.args.args.now c.in-Some-find.fun c.requires.this (sym c.built_in.ensures ∙ c.in-None.is)
    c.in-Some-find.ensures.found)) c.own_call.result c.own_call.ensures.refused

pub call::call-returns-in-None-find-clause-ok : goal.call::call-returns-in-None-find-clause-ok
call::call-returns-in-None-find-clause-ok t c =
    let l = c.args.library.now in
    let b = c.args.body.now in
    ok_as _ _ (none_is l b c.args.args.now c.args.stage.now c.args.name c.args.statics.now
    (sym c.built_in.ensures ∙ c.in-None.is) c.in-None-find.ensures.found) c.values.result _ c.values.ensures.ok

pub call::call-returns-in-None-find-clause-refused : goal.call::call-returns-in-None-find-clause-refused
call::call-returns-in-None-find-clause-refused t c =
    let l = c.args.library.now in
    let b = c.args.body.now in
    refused_as _ _ (none_is l b c.args.args.now c.args.stage.now c.args.name c.args.statics.now
    (sym c.built_in.ensures ∙ c.in-None.is) c.in-None-find.ensures.found) c.values.result c.values.ensures.refused

pub expr::expr-returns-then-is_static-clause-ok : goal.expr::expr-returns-then-is_static-clause-ok
expr::expr-returns-then-is_static-clause-ok t c =
    let l = c.args.library.now in
    let b = c.args.body.now in
    let fits : SFits w64 c.static_value.result = search rules in
    ok_as _ _ (ap (λ e. carried e c.args.stage.now)
    (told_static l b c.args.e c.args.need c.tree.result.now c.tree-then-is_static.result.now c.is_static.result (to_z w64 (of_z w64 c.static_value.result))
    c.tree.ensures c.is_static.ensures c.if-is_static.true c.tree-then-is_static.ensures (to_z-of_z w64 c.static_value.result fits ∙
    c.static_value.ensures))) c.step.result _ c.step.ensures.ok

pub expr::expr-call-requires : goal.expr::expr-call-requires
expr::expr-call-requires t c =
    let l = c.args.library.now in
    let b = c.args.body.now in
    let args = args_below c.args.e.number (length l.nodes.exprs) c.expr.result.now c.requires.id c.expr.ensures.smaller
    c.in-Call.fun c.in-Call.statics c.in-Call.args c.as_slice-in-Call.result.now c.in-Call.at c.in-Call.is c.as_slice-in-Call.ensures in
    let statics = statics_below c.args.e.number (length l.nodes.exprs) c.expr.result.now c.requires.id c.expr.ensures.smaller
    c.in-Call.fun c.in-Call.statics c.in-Call.args c.as_slice.result.now c.in-Call.at c.in-Call.is c.as_slice.ensures in
    let top = args.1 in
    let below = level_less b.this (length l.nodes.exprs) (length l.nodes.stmts)
    (8 * exprs_top c.as_slice-in-Call.result.now + 3) (8 * c.args.e.number + 7) (omega (arith, top)) in
    (omega (arith, c.decreases, below), (statics.0, (args.0, c.requires.this)))

pub expr::expr-returns-in-Call-clause-refused : goal.expr::expr-returns-in-Call-clause-refused
expr::expr-returns-in-Call-clause-refused t c =
    let l = c.args.library.now in
    let b = c.args.body.now in
    refused_as _ _ (ap (λ e. carried e c.args.stage.now)
    (told_call l b c.args.e c.args.need c.tree-2.result.now c.expr.result.now c.tree-2.ensures c.expr.ensures.tree
    c.in-Call.fun c.in-Call.statics c.in-Call.args c.as_slice.result.now c.as_slice-in-Call.result.now c.in-Call.at c.in-Call.is
    c.as_slice.ensures c.as_slice-in-Call.ensures)) c.call.result c.call.ensures.refused

pub expr::expr-values-requires : goal.expr::expr-values-requires
expr::expr-values-requires t c =
    let l = c.args.library.now in
    let b = c.args.body.now in
    let items = tuple_below c.args.e.number (length l.nodes.exprs) c.expr.result.now c.requires.id c.expr.ensures.smaller
    c.in-Tuple.items c.as_slice-in-Tuple.result.now c.in-Tuple.at c.in-Tuple.is c.as_slice-in-Tuple.ensures in
    let top = items.1 in
    let below = level_less b.this (length l.nodes.exprs) (length l.nodes.stmts)
    (8 * exprs_top c.as_slice-in-Tuple.result.now) (8 * c.args.e.number + 7) (omega (arith, top)) in
    (omega (arith, c.decreases, below), (items.0, c.requires.this))

pub expr::expr-returns-in-Tuple-clause-refused : goal.expr::expr-returns-in-Tuple-clause-refused
expr::expr-returns-in-Tuple-clause-refused t c =
    let l = c.args.library.now in
    let b = c.args.body.now in
    refused_as _ _ (ap (λ e. carried e c.args.stage.now)
    (told_tuple l b c.args.e c.args.need c.tree-2.result.now c.expr.result.now c.tree-2.ensures c.expr.ensures.tree
    c.in-Tuple.items c.as_slice-in-Tuple.result.now c.in-Tuple.at c.in-Tuple.is c.as_slice-in-Tuple.ensures)) c.values.result c.values.ensures.refused

pub expr::expr-unary-requires : goal.expr::expr-unary-requires
expr::expr-unary-requires t c =
    let l = c.args.library.now in
    let b = c.args.body.now in
    let less = unary_below c.args.e.number (length l.nodes.exprs) c.expr.result.now c.requires.id c.expr.ensures.smaller c.in-Unary.op c.in-Unary.arg
    c.in-Unary.at c.in-Unary.is in
    let below = level_less b.this (length l.nodes.exprs) (length l.nodes.stmts)
    (8 * c.in-Unary.arg.number + 8) (8 * c.args.e.number + 7) (omega (arith, less)) in
    (omega (arith, c.decreases, below), (omega (arith, less, c.requires.id), c.requires.this))

pub expr::expr-returns-in-Unary-clause-refused : goal.expr::expr-returns-in-Unary-clause-refused
expr::expr-returns-in-Unary-clause-refused t c =
    let l = c.args.library.now in
    let b = c.args.body.now in
    refused_as _ _ (ap (λ e. carried e c.args.stage.now)
    (told_unary l b c.args.e c.args.need c.tree-2.result.now c.expr.result.now c.tree-2.ensures c.expr.ensures.tree c.in-Unary.op c.in-Unary.arg
    c.in-Unary.at c.in-Unary.is
    (told_dynamic l b c.args.e c.args.need c.tree.result.now c.is_static.result c.tree.ensures c.is_static.ensures c.if-is_static.false))) c.unary.result
    c.unary.ensures.refused

pub expr::expr-binary-requires : goal.expr::expr-binary-requires
expr::expr-binary-requires t c =
    let l = c.args.library.now in
    let b = c.args.body.now in
    let left = left_below c.args.e.number (length l.nodes.exprs) c.expr.result.now c.requires.id c.expr.ensures.smaller
    c.in-Binary.op c.in-Binary.left c.in-Binary.right c.in-Binary.at c.in-Binary.is in
    let right = right_below c.args.e.number (length l.nodes.exprs) c.expr.result.now c.requires.id c.expr.ensures.smaller
    c.in-Binary.op c.in-Binary.left c.in-Binary.right c.in-Binary.at c.in-Binary.is in
    let below = level_less b.this (length l.nodes.exprs) (length l.nodes.stmts)
    (8 * max c.in-Binary.left.number c.in-Binary.right.number + 8) (8 * c.args.e.number + 7) (omega (arith, left, right)) in
    (omega (arith, c.decreases, below), (omega (arith, left, c.requires.id), (omega (arith, right, c.requires.id), c.requires.this)))

pub expr::expr-returns-in-Binary-clause-refused : goal.expr::expr-returns-in-Binary-clause-refused
expr::expr-returns-in-Binary-clause-refused t c =
    let l = c.args.library.now in
    let b = c.args.body.now in
    refused_as _ _ (ap (λ e. carried e c.args.stage.now)
    (told_binary l b c.args.e c.args.need c.tree-2.result.now c.expr.result.now c.tree-2.ensures c.expr.ensures.tree c.in-Binary.op c.in-Binary.left
    c.in-Binary.right c.in-Binary.at c.in-Binary.is
    (told_dynamic l b c.args.e c.args.need c.tree.result.now c.is_static.result c.tree.ensures c.is_static.ensures c.if-is_static.false))) c.binary.result
    c.binary.ensures.refused

pub call::arguments-values-requires : goal.call::arguments-values-requires
call::arguments-values-requires t c =
    let l = c.args.library.now in
    let b = c.args.body.now in
    let below = level_less b.this (length l.nodes.exprs) (length l.nodes.stmts)
    (8 * exprs_top c.args.args.now) (8 * exprs_top c.args.args.now + 1) (omega arith) in
    (omega (arith, c.decreases, below), (c.requires.args, c.requires.this))

pub call::arguments-returns-clause-refused : goal.call::arguments-returns-clause-refused
call::arguments-returns-clause-refused t c =
    let l = c.args.library.now in
    let b = c.args.body.now in
    refused_as _ _ (ap (λ e. carried e c.args.stage.now)
    (told_arguments l b c.args.inner.now c.args.args.now c.as_slice.result.now c.as_slice-2.result.now
    (c.as_slice.ensures ∙ c.in_ok-needs.ensures) (c.as_slice-2.ensures ∙ c.in_ok-takers.ensures))) c.values.result c.values.ensures.refused

pub call::run_body-statements-requires : goal.call::run_body-statements-requires
call::run_body-statements-requires t c =
    let l = c.args.library.now in
    let b = c.args.body.now in
    let ids = subst (λ xs. AreStmtsBelow (length l.nodes.stmts) xs) (sym c.as_slice-2.ensures) c.fun-fun.ensures.body in
    let top = stmts_top_le (length l.nodes.stmts) c.as_slice-2.result.now ids in
    let below = level_less b.this (length l.nodes.exprs) (length l.nodes.stmts)
    (8 * length l.nodes.exprs + 8 * stmts_top c.as_slice-2.result.now) (8 * length l.nodes.exprs + (8 * length l.nodes.stmts + 8)) (omega (arith, top))
    in
    (omega (arith, c.decreases, below), (ids, c.requires.this))

pub call::run_body-returns-clause-ok : goal.call::run_body-returns-clause-ok
call::run_body-returns-clause-ok t c =
    let l = c.args.library.now in
    let b = c.args.body.now in
    ok_as _ _ (body_is l b c.as_slice.result.now c.as_slice-2.result.now c.args.stage.now _ (told_run l b c.fun-fun.result.now c.as_slice.result.now
    c.as_slice-2.result.now
    c.fun-fun.ensures.tree (c.as_slice.ensures ∙ c.in_ok-parameters.ensures b.statics) c.as_slice-2.ensures)
    c.in_ok-step.ensures.ok) c.statements.result _ c.statements.ensures.ok

pub call::run_body-returns-clause-refused : goal.call::run_body-returns-clause-refused
call::run_body-returns-clause-refused t c =
    let l = c.args.library.now in
    let b = c.args.body.now in
    refused_as _ _ (body_is l b c.as_slice.result.now c.as_slice-2.result.now c.args.stage.now _ (told_run l b c.fun-fun.result.now c.as_slice.result.now
    c.as_slice-2.result.now
    c.fun-fun.ensures.tree (c.as_slice.ensures ∙ c.in_ok-parameters.ensures b.statics) c.as_slice-2.ensures)
    c.in_ok-step.ensures.ok) c.statements.result c.statements.ensures.refused

pub call::own_call-arguments-requires : goal.call::own_call-arguments-requires
call::own_call-arguments-requires t c =
    let l = c.args.library.now in
    let b = c.args.body.now in
    let below = level_less b.this (length l.nodes.exprs) (length l.nodes.stmts)
    (8 * exprs_top c.args.args.now + 1) (8 * exprs_top c.args.args.now + 2) (omega arith) in
    let there = subst (λ (i : Body). i.this < length l.funs) (sym c.in_ok-inner.ensures) (omega (arith, c.requires.earlier, c.requires.this)) in
    (omega (arith, c.decreases, below), (c.requires.args, (c.requires.this, there)))

pub call::own_call-returns-in_err-arguments-clause-refused : goal.call::own_call-returns-in_err-arguments-clause-refused
call::own_call-returns-in_err-arguments-clause-refused t c =
    let l = c.args.library.now in
    let b = c.args.body.now in
    if_err_from _ _ _ c.from_residual-in_err-arguments.ensures.1
    (arguments_refused l b c.args.fun c.args.statics.now c.args.args.now c.in_ok-inner.inner c.in_ok-inner.ensures c.args.stage.now _
    c.in_err-arguments.ensures.refused)

pub call::own_call-run_body-requires : goal.call::own_call-run_body-requires
call::own_call-run_body-requires t c =
    let l = c.args.library.now in
    let b = c.args.body.now in
    let below = level_call c.in_ok-inner.inner.this b.this (length l.nodes.exprs) (length l.nodes.stmts)
    (8 * length l.nodes.exprs + (8 * length l.nodes.stmts + 8)) (8 * exprs_top c.args.args.now + 2)
    (subst (λ (i : Body). i.this < b.this) (sym c.in_ok-inner.ensures) c.requires.earlier) (omega arith) in
    let there = subst (λ (i : Body). i.this < length l.funs) (sym c.in_ok-inner.ensures) (omega (arith, c.requires.earlier, c.requires.this)) in
    (omega (arith, c.decreases, below), there)

pub call::own_call-returns-in_err-run_body-clause-refused : goal.call::own_call-returns-in_err-run_body-clause-refused
call::own_call-returns-in_err-run_body-clause-refused t c =
    let l = c.args.library.now in
    let b = c.args.body.now in
    if_err_from _ _ _ c.from_residual-in_err-run_body.ensures.1
    (run_refused l b c.args.fun c.args.statics.now c.args.args.now c.in_ok-inner.inner c.in_ok-inner.ensures c.args.stage.now _ c.in_ok-arguments.ensures.ok
    _ c.in_err-run_body.ensures.refused)

pub call::own_call-returns-clause-ok : goal.call::own_call-returns-clause-ok
call::own_call-returns-clause-ok t c =
    let l = c.args.library.now in
    let b = c.args.body.now in
    ok_as _ _ (leave_is l b c.args.fun c.args.statics.now c.args.args.now c.in_ok-inner.inner c.in_ok-inner.ensures c.args.stage.now
    _ c.in_ok-arguments.ensures.ok _ c.in_ok-run_body.ensures.ok) c.step.result _ c.step.ensures.ok

pub block::block-statements-requires : goal.block::block-statements-requires
block::block-statements-requires t c =
    let l = c.args.library.now in
    let b = c.args.body.now in (
      (let below = level_less b.this (length l.nodes.exprs) (length l.nodes.stmts) (8 * length l.nodes.exprs + 8 * stmts_top c.args.ids.now) (8 * length
          l.nodes.exprs + (8 * stmts_top c.args.ids.now + 1)) (omega arith) in omega (arith, c.decreases, below)),
      (c.requires.ids, c.requires.this),
    )

pub block::both-taken-requires : goal.block::both-taken-requires
block::both-taken-requires t c =
    let l = c.args.library.now in
    let b = c.args.body.now in (
      (let below = level_less b.this (length l.nodes.exprs) (length l.nodes.stmts) (8 * length l.nodes.exprs + (8 * max (stmts_top c.args.then.now)
          (stmts_top (else_stmts c.args.other.now)) + 3)) (8 * length l.nodes.exprs + (8 * max (stmts_top c.args.then.now) (stmts_top (else_stmts
          c.args.other.now)) + 4)) (omega arith) in omega (arith, c.decreases, below)),
      (c.requires.then, (c.requires.other, c.requires.this)),
    )

pub block::both-block-requires : goal.block::both-block-requires
block::both-block-requires t c =
    let l = c.args.library.now in
    let b = c.args.body.now in (
      (let below = level_less b.this (length l.nodes.exprs) (length l.nodes.stmts) (8 * length l.nodes.exprs + (8 * stmts_top c.args.then.now + 1)) (8 *
          length l.nodes.exprs + (8 * max (stmts_top c.args.then.now) (stmts_top (else_stmts c.args.other.now)) + 4)) (omega arith) in omega (
            arith,
            c.decreases,
            below,
          )),
      (c.requires.then, c.requires.this),
    )

pub block::both-otherwise-requires : goal.block::both-otherwise-requires
block::both-otherwise-requires t c =
    let l = c.args.library.now in
    let b = c.args.body.now in (
      (let below = level_less b.this (length l.nodes.exprs) (length l.nodes.stmts) (8 * length l.nodes.exprs + (8 * stmts_top (else_stmts c.args.other.now)
          + 2)) (8 * length l.nodes.exprs + (8 * max (stmts_top c.args.then.now) (stmts_top (else_stmts c.args.other.now)) + 4)) (omega arith) in omega (
            arith,
            c.decreases,
            below,
          )),
      (c.requires.other, c.requires.this),
    )

pub block::choose-taken-requires : goal.block::choose-taken-requires
block::choose-taken-requires t c =
    let l = c.args.library.now in
    let b = c.args.body.now in (
      (let below = level_less b.this (length l.nodes.exprs) (length l.nodes.stmts) (8 * length l.nodes.exprs + (8 * max (stmts_top c.args.then.now)
          (stmts_top (else_stmts c.args.other.now)) + 3)) (8 * length l.nodes.exprs + (8 * max (stmts_top c.args.then.now) (stmts_top (else_stmts
          c.args.other.now)) + 5)) (omega arith) in omega (arith, c.decreases, below)),
      (c.requires.then, (c.requires.other, c.requires.this)),
    )

pub block::choose-expr-requires : goal.block::choose-expr-requires
block::choose-expr-requires t c =
    let l = c.args.library.now in
    let b = c.args.body.now in (
      (let below = level_less b.this (length l.nodes.exprs) (length l.nodes.stmts) (8 * c.args.cond.number + 7) (8 * length l.nodes.exprs + (8 * max
          (stmts_top c.args.then.now) (stmts_top (else_stmts c.args.other.now)) + 5)) (omega (arith, c.requires.cond)) in omega (arith, c.decreases, below)),
      (c.requires.cond, c.requires.this),
    )

pub block::choose-both-requires : goal.block::choose-both-requires
block::choose-both-requires t c =
    let l = c.args.library.now in
    let b = c.args.body.now in (
      (let below = level_less b.this (length l.nodes.exprs) (length l.nodes.stmts) (8 * length l.nodes.exprs + (8 * max (stmts_top c.args.then.now)
          (stmts_top (else_stmts c.args.other.now)) + 4)) (8 * length l.nodes.exprs + (8 * max (stmts_top c.args.then.now) (stmts_top (else_stmts
          c.args.other.now)) + 5)) (omega arith) in omega (arith, c.decreases, below)),
      (c.requires.then, (c.requires.other, c.requires.this)),
    )

pub block::otherwise-block-requires : goal.block::otherwise-block-requires
block::otherwise-block-requires t c =
    let l = c.args.library.now in
    let b = c.args.body.now in (
      let top = ap stmts_top (else_same c.args.other.now c.in-Block.inner c.as_slice.result.now c.in-Block.is c.as_slice.ensures) in (let below =
          level_less b.this (length l.nodes.exprs) (length l.nodes.stmts) (8 * length l.nodes.exprs + (8 * stmts_top c.as_slice.result.now + 1)) (8 * length
          l.nodes.exprs + (8 * stmts_top (else_stmts c.args.other.now) + 2)) (omega (arith, top)) in omega (arith, c.decreases, below)),
      (
        else_ids _
            c.args.other.now c.in-Block.inner c.as_slice.result.now c.in-Block.is c.as_slice.ensures c.requires.ids,
        c.requires.this,
      ),
    )

pub block::otherwise-statement-requires : goal.block::otherwise-statement-requires
block::otherwise-statement-requires t c =
    let l = c.args.library.now in
    let b = c.args.body.now in (
      let top = ap stmts_top (else_one c.args.other.now c.in-Choice.id c.in-Choice.is) in (let below = level_less b.this (length l.nodes.exprs) (length
          l.nodes.stmts) (8 * length l.nodes.exprs + (8 * c.in-Choice.id.number + 7)) (8 * length l.nodes.exprs + (8 * stmts_top (else_stmts c.args.other.now) +
          2)) (omega (arith, top)) in omega (arith, c.decreases, below)),
      (
        (subst (λ o. AreStmtsBelow (length l.nodes.stmts) (else_stmts o)) c.in-Choice.is
            c.requires.ids).0,
        c.requires.this,
      ),
    )

pub block::otherwise-returns-in-Block-clause-refused : goal.block::otherwise-returns-in-Block-clause-refused
block::otherwise-returns-in-Block-clause-refused t c =
    let l = c.args.library.now in
    let b = c.args.body.now in
    refused_as _ _ (ap (λ e. carried e c.args.stage.now) (told_else_block l b c.args.other.now c.in-Block.inner c.as_slice.result.now c.in-Block.is
    c.as_slice.ensures)) c.block.result c.block.ensures.refused

pub block::round-block-requires : goal.block::round-block-requires
block::round-block-requires t c =
    let l = c.args.library.now in
    let b = c.args.body.now in (
      let below = subst (λ (i : Body). level i.this (length l.nodes.exprs) (length l.nodes.stmts) (8 * length l.nodes.exprs + (8 * stmts_top c.args.ids.now
          + 1)) < level b.this (length l.nodes.exprs) (length l.nodes.stmts) (8 * length l.nodes.exprs + (8 * stmts_top c.args.ids.now + 2))) (sym (rw
          (to_z-of_z w64 c.args.value c.ranges.value) at c.in_ok-inner.ensures)) (level_less b.this (length l.nodes.exprs) (length l.nodes.stmts) (8 * length
          l.nodes.exprs + (8 * stmts_top c.args.ids.now + 1)) (8 * length l.nodes.exprs + (8 * stmts_top c.args.ids.now + 2)) (omega arith)) in omega (
            arith,
            c.decreases,
            below,
          ),
      (
        c.requires.ids,
        subst (λ (i : Body). i.this < length l.funs) (sym (rw (to_z-of_z w64 c.args.value c.ranges.value) at
            c.in_ok-inner.ensures)) c.requires.this,
      ),
    )

pub block::round-returns-clause-refused : goal.block::round-returns-clause-refused
block::round-returns-clause-refused t c =
    let l = c.args.library.now in
    refused_as _ _ (ap (λ (i : Body). carried (block_in l i c.args.ids.now) c.args.stage.now) (sym (rw (to_z-of_z w64 c.args.value c.ranges.value) at
    c.in_ok-inner.ensures))) c.block.result c.block.ensures.refused

pub block::statements-statement-requires : goal.block::statements-statement-requires
block::statements-statement-requires t c =
    let l = c.args.library.now in
    let b = c.args.body.now in (
      let top = stmt_below_top c.args.ids.now c.loop-id.id-index (record { number = 0 }) c.loop-id-test.true in (let below = level_less b.this (length
          l.nodes.exprs) (length l.nodes.stmts) (8 * length l.nodes.exprs + (8 * (get_or c.args.ids.now c.loop-id.id-index (record { number = 0 })).number + 7))
          (8 * length l.nodes.exprs + 8 * stmts_top c.args.ids.now) (omega (arith, top)) in omega (arith, c.decreases, below)),
      (
        stmt_below _ c.args.ids.now
            c.loop-id.id-index _ c.requires.ids c.loop-id-test.true,
        c.requires.this,
      ),
    )

pub block::statements-returns-in_err-statement-clause-refused : goal.block::statements-returns-in_err-statement-clause-refused
block::statements-returns-in_err-statement-clause-refused t c =
    let l = c.args.library.now in
    let b = c.args.body.now in
    if_err_from _ _ _ c.from_residual.ensures.1 (one_refused l b c.args.ids.now c.loop-id.id-index (record { number = 0 }) _ c.loop-id.stage
    c.loop-id-test.true c.loop-id.invariant _ c.in_err-statement.ensures.refused)

pub block::statements-loop-id-preserved : goal.block::statements-loop-id-preserved
block::statements-loop-id-preserved t c =
    let l = c.args.library.now in
    let b = c.args.body.now in
    one_more l b c.args.ids.now c.loop-id.id-index (record { number = 0 }) _ c.loop-id.stage c.loop-id-test.true c.loop-id.invariant _
    c.in_ok-statement.ensures.ok

pub block::taken-block-requires : goal.block::taken-block-requires
block::taken-block-requires t c =
    let l = c.args.library.now in
    let b = c.args.body.now in (
      (let below = level_less b.this (length l.nodes.exprs) (length l.nodes.stmts) (8 * length l.nodes.exprs + (8 * stmts_top c.args.then.now + 1)) (8 *
          length l.nodes.exprs + (8 * max (stmts_top c.args.then.now) (stmts_top (else_stmts c.args.other.now)) + 3)) (omega arith) in omega (
            arith,
            c.decreases,
            below,
          )),
      (c.requires.then, c.requires.this),
    )

pub block::taken-otherwise-requires : goal.block::taken-otherwise-requires
block::taken-otherwise-requires t c =
    let l = c.args.library.now in
    let b = c.args.body.now in (
      (let below = level_less b.this (length l.nodes.exprs) (length l.nodes.stmts) (8 * length l.nodes.exprs + (8 * stmts_top (else_stmts c.args.other.now)
          + 2)) (8 * length l.nodes.exprs + (8 * max (stmts_top c.args.then.now) (stmts_top (else_stmts c.args.other.now)) + 3)) (omega arith) in omega (
            arith,
            c.decreases,
            below,
          )),
      (c.requires.other, c.requires.this),
    )

pub block::unroll-returns-then-is_empty-clause-ok : goal.block::unroll-returns-then-is_empty-clause-ok
block::unroll-returns-then-is_empty-clause-ok t c =
    let l = c.args.library.now in
    let b = c.args.body.now in
    loop_still l b c.args.name c.args.low c.args.high c.args.ids.now c.args.stage.now (eqb-true (length c.args.ids.now) 0 (sym c.if-is_empty.ensures))

pub block::unroll-round-requires : goal.block::unroll-round-requires
block::unroll-round-requires t c =
    let l = c.args.library.now in
    let b = c.args.body.now in (
      (let below = level_less b.this (length l.nodes.exprs) (length l.nodes.stmts) (8 * length l.nodes.exprs + (8 * stmts_top c.args.ids.now + 2)) (8 *
          length l.nodes.exprs + (8 * stmts_top c.args.ids.now + 4)) (omega arith) in omega (arith, c.decreases, below)),
      (c.requires.ids, c.requires.this),
    )

pub block::unroll-returns-in_err-round-clause-refused : goal.block::unroll-returns-in_err-round-clause-refused
block::unroll-returns-in_err-round-clause-refused t c =
    let l = c.args.library.now in
    let b = c.args.body.now in
    if_err_from _ _ _ c.from_residual.ensures.1 (round_refused l b c.args.name c.args.ids.now _ _ _ _ c.loop-value.invariant (lt_told (to_z w64
    c.loop-value.value-bits) _ c.loop-value-test.true) _ c.in_err-round.ensures.refused)

pub block::unroll-loop-value-preserved : goal.block::unroll-loop-value-preserved
block::unroll-loop-value-preserved t c =
    let l = c.args.library.now in
    let b = c.args.body.now in
    round_more l b c.args.name c.args.ids.now _ _ _ _ c.loop-value.invariant (lt_told (to_z w64 c.loop-value.value-bits) _ c.loop-value-test.true) _ _
    (next_number (to_z w64 c.loop-value.value-bits) _ (search rules) (sfits_to_z c.loop-value.auto.value) (lt_told (to_z w64 c.loop-value.value-bits) _
    c.loop-value-test.true)) c.in_ok-round.ensures.ok

pub statement::act-assign-requires : goal.statement::act-assign-requires
statement::act-assign-requires t c =
    let l = c.args.library.now in
    let b = c.args.body.now in (
      (let below = level_less b.this (length l.nodes.exprs) (length l.nodes.stmts) (8 * length l.nodes.exprs + 3) (8 * length l.nodes.exprs + (8 *
          c.args.id.number + 6)) (omega arith) in omega (arith, c.decreases, below)),
      (
        assign_parts l c.tree.result.now c.stmt.result.now c.tree.ensures
            c.stmt.ensures.parts c.in-Assign.target c.in-Assign.value c.in-Assign.at c.in-Assign.is,
        (
          assign_first c.stmt.result.now c.in-Assign.target
              c.in-Assign.value c.in-Assign.at c.in-Assign.is c.stmt.ensures.first,
          (
            assign_value l c.tree.result.now c.stmt.result.now c.tree.ensures
                c.stmt.ensures.parts c.in-Assign.target c.in-Assign.value c.in-Assign.at c.in-Assign.is,
            c.requires.this,
          ),
        ),
      ),
    )

pub statement::act-spread-requires : goal.statement::act-spread-requires
statement::act-spread-requires t c =
    let l = c.args.library.now in
    let b = c.args.body.now in (
      (let below = level_less b.this (length l.nodes.exprs) (length l.nodes.stmts) (8 * length l.nodes.exprs + 3) (8 * length l.nodes.exprs + (8 *
          c.args.id.number + 6)) (omega arith) in omega (arith, c.decreases, below)),
      (
        spread_value l c.tree.result.now c.stmt.result.now c.tree.ensures
            c.stmt.ensures.parts c.in-Spread.names c.in-Spread.value c.in-Spread.at c.in-Spread.is,
        c.requires.this,
      ),
    )

pub statement::act-update-requires : goal.statement::act-update-requires
statement::act-update-requires t c =
    let l = c.args.library.now in
    let b = c.args.body.now in (
      (let below = level_less b.this (length l.nodes.exprs) (length l.nodes.stmts) (8 * length l.nodes.exprs + 3) (8 * length l.nodes.exprs + (8 *
          c.args.id.number + 6)) (omega arith) in omega (arith, c.decreases, below)),
      (
        update_parts l c.tree.result.now c.stmt.result.now c.tree.ensures
            c.stmt.ensures.parts c.in-Update.target c.in-Update.op c.in-Update.value c.in-Update.at c.in-Update.is,
        (
          update_first c.stmt.result.now
              c.in-Update.target c.in-Update.op c.in-Update.value c.in-Update.at c.in-Update.is c.stmt.ensures.first,
          (
            update_value l c.tree.result.now
                c.stmt.result.now c.tree.ensures c.stmt.ensures.parts c.in-Update.target c.in-Update.op c.in-Update.value c.in-Update.at c.in-Update.is,
            c.requires.this,
          ),
        ),
      ),
    )

pub statement::act-forget-requires : goal.statement::act-forget-requires
statement::act-forget-requires t c =
    let l = c.args.library.now in
    let b = c.args.body.now in (
      (let below = level_less b.this (length l.nodes.exprs) (length l.nodes.stmts) (8 * length l.nodes.exprs + 3) (8 * length l.nodes.exprs + (8 *
          c.args.id.number + 6)) (omega arith) in omega (arith, c.decreases, below)),
      (
        forget_value l c.tree.result.now c.stmt.result.now c.tree.ensures
            c.stmt.ensures.parts c.in-Forget.name c.in-Forget.value c.in-Forget.at c.in-Forget.is,
        c.requires.this,
      ),
    )

pub statement::act-choose-requires : goal.statement::act-choose-requires
statement::act-choose-requires t c =
    let l = c.args.library.now in
    let b = c.args.body.now in (
      let one = (then_below c.args.id.number (length l.nodes.stmts) c.stmt.result.now c.requires.id c.stmt.ensures.smaller c.in-If.cond c.in-If.then
          c.in-If.other c.in-If.at c.as_slice-in-If.result.now c.in-If.is c.as_slice-in-If.ensures).1 in let two = (else_below c.args.id.number (length
          l.nodes.stmts) c.stmt.result.now c.requires.id c.stmt.ensures.smaller c.in-If.cond c.in-If.then c.in-If.other c.in-If.at c.in-If.is).1 in (let below =
          level_less b.this (length l.nodes.exprs) (length l.nodes.stmts) (8 * length l.nodes.exprs + (8 * max (stmts_top c.as_slice-in-If.result.now)
          (stmts_top (else_stmts c.in-If.other)) + 5)) (8 * length l.nodes.exprs + (8 * c.args.id.number + 6)) (omega (arith, one, two)) in omega (
            arith,
            c.decreases,
            below,
          )),
      (
        if_condition l c.tree.result.now c.stmt.result.now c.tree.ensures c.stmt.ensures.parts c.in-If.cond c.in-If.then c.in-If.other
            c.in-If.at c.in-If.is,
        (
          (then_below c.args.id.number (length l.nodes.stmts) c.stmt.result.now c.requires.id c.stmt.ensures.smaller c.in-If.cond
              c.in-If.then c.in-If.other c.in-If.at c.as_slice-in-If.result.now c.in-If.is c.as_slice-in-If.ensures).0,
          (
            (else_below c.args.id.number (length
                l.nodes.stmts) c.stmt.result.now c.requires.id c.stmt.ensures.smaller c.in-If.cond c.in-If.then c.in-If.other c.in-If.at c.in-If.is).0,
            c.requires.this,
          ),
        ),
      ),
    )

pub statement::act-unroll-requires : goal.statement::act-unroll-requires
statement::act-unroll-requires t c =
    let l = c.args.library.now in
    let b = c.args.body.now in (
      let one = (loop_below c.args.id.number (length l.nodes.stmts) c.stmt.result.now c.requires.id c.stmt.ensures.smaller c.in-For.name c.in-For.low
          c.in-For.high c.in-For.inner c.in-For.at c.as_slice-in-For.result.now c.in-For.is c.as_slice-in-For.ensures).1 in (let below = level_less b.this
          (length l.nodes.exprs) (length l.nodes.stmts) (8 * length l.nodes.exprs + (8 * stmts_top c.as_slice-in-For.result.now + 4)) (8 * length l.nodes.exprs
          + (8 * c.args.id.number + 6)) (omega (arith, one)) in omega (arith, c.decreases, below)),
      (
        for_low l c.tree.result.now c.stmt.result.now
            c.tree.ensures c.stmt.ensures.parts c.in-For.name c.in-For.low c.in-For.high c.in-For.inner c.in-For.at c.in-For.is,
        (
          for_high l c.tree.result.now
              c.stmt.result.now c.tree.ensures c.stmt.ensures.parts c.in-For.name c.in-For.low c.in-For.high c.in-For.inner c.in-For.at c.in-For.is,
          (
            (loop_below
                c.args.id.number (length l.nodes.stmts) c.stmt.result.now c.requires.id c.stmt.ensures.smaller c.in-For.name c.in-For.low c.in-For.high c.in-For.inner
                c.in-For.at c.as_slice-in-For.result.now c.in-For.is c.as_slice-in-For.ensures).0,
            c.requires.this,
          ),
        ),
      ),
    )

pub statement::act-returned-requires : goal.statement::act-returned-requires
statement::act-returned-requires t c =
    let l = c.args.library.now in
    let b = c.args.body.now in (
      (let below = level_less b.this (length l.nodes.exprs) (length l.nodes.stmts) (8 * length l.nodes.exprs + 3) (8 * length l.nodes.exprs + (8 *
          c.args.id.number + 6)) (omega arith) in omega (arith, c.decreases, below)),
      (
        return_value l c.tree.result.now c.stmt.result.now c.tree.ensures
            c.stmt.ensures.parts c.in-Return.value c.in-Return.at c.in-Return.is,
        c.requires.this,
      ),
    )

pub statement::act-expr-requires : goal.statement::act-expr-requires
statement::act-expr-requires t c =
    let l = c.args.library.now in
    let b = c.args.body.now in (
      let id = do_value l c.tree.result.now c.stmt.result.now c.tree.ensures c.stmt.ensures.parts c.in-Call.call c.in-Call.at c.in-Call.is in (let below =
          level_less b.this (length l.nodes.exprs) (length l.nodes.stmts) (8 * c.in-Call.call.number + 7) (8 * length l.nodes.exprs + (8 * c.args.id.number +
          6)) (omega (arith, id)) in omega (arith, c.decreases, below)),
      (
        do_value l c.tree.result.now c.stmt.result.now c.tree.ensures c.stmt.ensures.parts
            c.in-Call.call c.in-Call.at c.in-Call.is,
        c.requires.this,
      ),
    )

pub statement::act-returns-in-Assign-clause-refused : goal.statement::act-returns-in-Assign-clause-refused
statement::act-returns-in-Assign-clause-refused t c =
    let l = c.args.library.now in
    let b = c.args.body.now in
    refused_as _ _ (ap (λ e. carried e c.args.stage.now) (told_assign l b c.args.id c.tree.result.now c.stmt.result.now c.tree.ensures c.stmt.ensures.tree
    c.in-Assign.target c.in-Assign.value c.in-Assign.at c.in-Assign.is)) c.assign.result c.assign.ensures.refused

pub statement::act-returns-in-Spread-clause-refused : goal.statement::act-returns-in-Spread-clause-refused
statement::act-returns-in-Spread-clause-refused t c =
    let l = c.args.library.now in
    let b = c.args.body.now in
    refused_as _ _ (ap (λ e. carried e c.args.stage.now) (told_spread l b c.args.id c.tree.result.now c.stmt.result.now c.tree.ensures c.stmt.ensures.tree
    c.in-Spread.names c.as_slice.result.now c.in-Spread.value c.in-Spread.at c.in-Spread.is c.as_slice.ensures)) c.spread.result c.spread.ensures.refused

pub statement::act-returns-in-Update-clause-refused : goal.statement::act-returns-in-Update-clause-refused
statement::act-returns-in-Update-clause-refused t c =
    let l = c.args.library.now in
    let b = c.args.body.now in
    refused_as _ _ (ap (λ e. carried e c.args.stage.now) (told_update l b c.args.id c.tree.result.now c.stmt.result.now c.tree.ensures c.stmt.ensures.tree
    c.in-Update.target c.in-Update.op c.in-Update.value c.in-Update.at c.in-Update.is)) c.update.result c.update.ensures.refused

pub statement::act-returns-in-Forget-clause-ok : goal.statement::act-returns-in-Forget-clause-ok
statement::act-returns-in-Forget-clause-ok t c =
    let l = c.args.library.now in
    let b = c.args.body.now in
    ok_as _ _ (ap (λ e. carried e c.args.stage.now) (told_forget l b c.args.id c.tree.result.now c.stmt.result.now c.tree.ensures c.stmt.ensures.tree
    c.in-Forget.name c.in-Forget.value c.in-Forget.at c.in-Forget.is)) c.forget.result _ c.forget.ensures.ok

pub statement::act-returns-in-Forget-clause-refused : goal.statement::act-returns-in-Forget-clause-refused
statement::act-returns-in-Forget-clause-refused t c =
    let l = c.args.library.now in
    let b = c.args.body.now in
    refused_as _ _ (ap (λ e. carried e c.args.stage.now) (told_forget l b c.args.id c.tree.result.now c.stmt.result.now c.tree.ensures c.stmt.ensures.tree
    c.in-Forget.name c.in-Forget.value c.in-Forget.at c.in-Forget.is)) c.forget.result c.forget.ensures.refused

pub statement::act-returns-in-If-clause-ok : goal.statement::act-returns-in-If-clause-ok
statement::act-returns-in-If-clause-ok t c =
    let l = c.args.library.now in
    let b = c.args.body.now in
    ok_as _ _ (ap (λ e. carried e c.args.stage.now) (told_if l b c.args.id c.tree.result.now c.stmt.result.now c.tree.ensures c.stmt.ensures.tree
    c.in-If.cond c.in-If.then c.in-If.other c.in-If.at c.as_slice-in-If.result.now c.in-If.is c.as_slice-in-If.ensures)) c.choose.result _
    c.choose.ensures.ok

pub statement::act-returns-in-If-clause-refused : goal.statement::act-returns-in-If-clause-refused
statement::act-returns-in-If-clause-refused t c =
    let l = c.args.library.now in
    let b = c.args.body.now in
    refused_as _ _ (ap (λ e. carried e c.args.stage.now) (told_if l b c.args.id c.tree.result.now c.stmt.result.now c.tree.ensures c.stmt.ensures.tree
    c.in-If.cond c.in-If.then c.in-If.other c.in-If.at c.as_slice-in-If.result.now c.in-If.is c.as_slice-in-If.ensures)) c.choose.result
    c.choose.ensures.refused

pub statement::act-returns-in-For-clause-ok : goal.statement::act-returns-in-For-clause-ok
statement::act-returns-in-For-clause-ok t c =
    let l = c.args.library.now in
    let b = c.args.body.now in
    ok_as _ _ (ap (λ e. carried e c.args.stage.now) (told_for l b c.args.id c.tree.result.now c.stmt.result.now c.tree.ensures c.stmt.ensures.tree
    c.in-For.name c.in-For.low c.in-For.high c.in-For.inner c.in-For.at c.as_slice-in-For.result.now c.in-For.is c.as_slice-in-For.ensures))
    c.unroll.result _ c.unroll.ensures.ok

pub statement::act-returns-in-For-clause-refused : goal.statement::act-returns-in-For-clause-refused
statement::act-returns-in-For-clause-refused t c =
    let l = c.args.library.now in
    let b = c.args.body.now in
    refused_as _ _ (ap (λ e. carried e c.args.stage.now) (told_for l b c.args.id c.tree.result.now c.stmt.result.now c.tree.ensures c.stmt.ensures.tree
    c.in-For.name c.in-For.low c.in-For.high c.in-For.inner c.in-For.at c.as_slice-in-For.result.now c.in-For.is c.as_slice-in-For.ensures))
    c.unroll.result c.unroll.ensures.refused

pub statement::act-returns-in-Call-clause-refused : goal.statement::act-returns-in-Call-clause-refused
statement::act-returns-in-Call-clause-refused t c =
    let l = c.args.library.now in
    let b = c.args.body.now in
    refused_as _ _ (ap (λ e. carried e c.args.stage.now) (told_do l b c.args.id c.tree.result.now c.stmt.result.now c.tree.ensures c.stmt.ensures.tree
    c.in-Call.call c.in-Call.at c.in-Call.is)) c.expr.result c.expr.ensures.refused

pub statement::assign-expr-requires : goal.statement::assign-expr-requires
statement::assign-expr-requires t c =
    let l = c.args.library.now in
    let b = c.args.body.now in (
      (let below = level_less b.this (length l.nodes.exprs) (length l.nodes.stmts) (8 * c.args.value.number + 7) (8 * length l.nodes.exprs + 3) (omega
          (arith, c.requires.id)) in omega (arith, c.decreases, below)),
      (c.requires.id, c.requires.this),
    )

pub statement::forget-expr-requires : goal.statement::forget-expr-requires
statement::forget-expr-requires t c =
    let l = c.args.library.now in
    let b = c.args.body.now in (
      let id = (subst (λ v. IfSome v (λ e. e.number < length l.nodes.exprs)) c.in-Some.is c.requires.id) in (let below = level_less b.this (length
          l.nodes.exprs) (length l.nodes.stmts) (8 * c.in-Some.e.number + 7) (8 * length l.nodes.exprs + 3) (omega (arith, id)) in omega (
            arith,
            c.decreases,
            below,
          )),
      ((subst (λ v. IfSome v (λ e. e.number < length l.nodes.exprs)) c.in-Some.is c.requires.id), c.requires.this),
    )

pub statement::items-values-requires : goal.statement::items-values-requires
statement::items-values-requires t c =
    let l = c.args.library.now in
    let b = c.args.body.now in (
      let top = (tuple_below c.args.e.number (length l.nodes.exprs) c.expr.result.now c.requires.id c.expr.ensures.smaller c.in-Tuple.items
          c.as_slice.result.now c.in-Tuple.at c.in-Tuple.is c.as_slice.ensures).1 in let id = c.requires.id in (let below = level_less b.this (length
          l.nodes.exprs) (length l.nodes.stmts) (8 * exprs_top c.as_slice.result.now) (8 * length l.nodes.exprs + 2) (omega (arith, top, id)) in omega (
            arith,
            c.decreases,
            below,
          )),
      (
        (tuple_below c.args.e.number (length l.nodes.exprs) c.expr.result.now c.requires.id c.expr.ensures.smaller c.in-Tuple.items
            c.as_slice.result.now c.in-Tuple.at c.in-Tuple.is c.as_slice.ensures).0,
        c.requires.this,
      ),
    )

pub statement::items-returns-in-Tuple-clause-refused : goal.statement::items-returns-in-Tuple-clause-refused
statement::items-returns-in-Tuple-clause-refused t c =
    let l = c.args.library.now in
    let b = c.args.body.now in
    refused_as _ _ (ap (λ e. carried e c.args.stage.now) (told_items l b c.args.e Consumed c.tree.result.now c.expr.result.now c.tree.ensures
    c.expr.ensures.tree c.in-Tuple.items c.as_slice.result.now c.args.takers.now c.in-Tuple.at c.in-Tuple.is c.as_slice.ensures)) c.values.result
    c.values.ensures.refused

pub statement::items-expr-requires-2 : goal.statement::items-expr-requires-2
statement::items-expr-requires-2 t c =
    let l = c.args.library.now in
    let b = c.args.body.now in (
      (let below = level_less b.this (length l.nodes.exprs) (length l.nodes.stmts) (8 * c.args.e.number + 7) (8 * length l.nodes.exprs + 2) (omega (
        arith,
        c.requires.id,
      )) in omega (arith, c.decreases, below)),
      (c.requires.id, c.requires.this),
    )

pub statement::items-returns-in_err-expr : goal.statement::items-returns-in_err-expr
statement::items-returns-in_err-expr t c =
    let l = c.args.library.now in
    let b = c.args.body.now in
    single_refused l b c.args.e c.args.takers.now c.args.stage.now (told_single l b c.args.e Consumed c.tree.result.now c.expr.result.now c.tree.ensures
    c.expr.ensures.tree c.args.takers.now c.in_default.not-Tuple) c.from_residual.result _ c.from_residual.ensures.1 c.expr-2.new.stage
    c.in_err-expr.ensures.refused

pub statement::items-returns : goal.statement::items-returns
statement::items-returns t c =
    let l = c.args.library.now in
    let b = c.args.body.now in
    record {
      ok = ok_as _ _ (single_is l b c.args.e c.args.takers.now c.args.stage.now (told_single l b c.args.e Consumed c.tree.result.now
          c.expr.result.now c.tree.ensures c.expr.ensures.tree c.args.takers.now c.in_default.not-Tuple) _ c.in_ok-expr.ensures.ok) c.receive.result _
          c.receive.ensures.ok;
      refused = refused_as _ _ (single_is l b c.args.e c.args.takers.now c.args.stage.now (told_single l b c.args.e Consumed
          c.tree.result.now c.expr.result.now c.tree.ensures c.expr.ensures.tree c.args.takers.now c.in_default.not-Tuple) _ c.in_ok-expr.ensures.ok)
          c.receive.result c.receive.ensures.refused;
    }

pub statement::returned-items-requires : goal.statement::returned-items-requires
statement::returned-items-requires t c =
    let l = c.args.library.now in
    let b = c.args.body.now in (
      (let below = level_less b.this (length l.nodes.exprs) (length l.nodes.stmts) (8 * length l.nodes.exprs + 2) (8 * length l.nodes.exprs + 3) (omega
          arith) in omega (arith, c.decreases, below)),
      (
        (subst (λ v. IfSome v (λ e. e.number < length l.nodes.exprs)) c.in-Some.is c.requires.id),
        c.requires.this,
      ),
    )

pub statement::returned-returns-in-Some-clause-refused : goal.statement::returned-returns-in-Some-clause-refused
statement::returned-returns-in-Some-clause-refused t c =
    let l = c.args.library.now in
    let b = c.args.body.now in
    refused_as _ _ (ap (λ v. carried (return_in l b v) c.args.stage.now) c.in-Some.is ∙ ap (λ ts. carried (items_in l b c.in-Some.e ts) c.args.stage.now)
    (sym c.as_slice.ensures)) c.items.result c.items.ensures.refused

pub statement::spread-items-requires : goal.statement::spread-items-requires
statement::spread-items-requires t c =
    let l = c.args.library.now in
    let b = c.args.body.now in (
      (let below = level_less b.this (length l.nodes.exprs) (length l.nodes.stmts) (8 * length l.nodes.exprs + 2) (8 * length l.nodes.exprs + 3) (omega
          arith) in omega (arith, c.decreases, below)),
      (c.requires.id, c.requires.this),
    )

pub statement::spread-returns-in_err-items-clause-refused : goal.statement::spread-returns-in_err-items-clause-refused
statement::spread-returns-in_err-items-clause-refused t c =
    let l = c.args.library.now in
    let b = c.args.body.now in
    if_err_from _ _ _ c.from_residual-in_err-items.ensures.1 (turn_refused_first (items_in l b c.args.value (map (λ x. Variable) c.args.names.now)) (step
    (assign_in_turn c.args.names.now)) c.args.stage.now _ (stop_as _ (carried (items_in l b c.args.value c.as_slice.result.now) c.args.stage.now) (carried
    (items_in l b c.args.value (map (λ x. Variable) c.args.names.now)) c.args.stage.now) (ap (λ ts. carried (items_in l b c.args.value ts)
    c.args.stage.now) (c.as_slice.ensures ∙ c.in_ok-takers.ensures)) c.in_err-items.ensures.refused))

pub statement::statement-returns-in_err-begin_statement-clause-refused : goal.statement::statement-returns-in_err-begin_statement-clause-refused
statement::statement-returns-in_err-begin_statement-clause-refused t c =
    let l = c.args.library.now in
    let b = c.args.body.now in
    if_err_from _ _ _ c.from_residual.ensures.1 (count_refused l b c.args.id c.args.stage.now _ c.in_err-begin_statement.ensures.refused)

pub statement::statement-act-requires : goal.statement::statement-act-requires
statement::statement-act-requires t c =
    let l = c.args.library.now in
    let b = c.args.body.now in (
      (let below = level_less b.this (length l.nodes.exprs) (length l.nodes.stmts) (8 * length l.nodes.exprs + (8 * c.args.id.number + 6)) (8 * length
          l.nodes.exprs + (8 * c.args.id.number + 7)) (omega arith) in omega (arith, c.decreases, below)),
      (c.requires.id, c.requires.this),
    )

pub statement::statement-returns-clause-ok : goal.statement::statement-returns-clause-ok
statement::statement-returns-clause-ok t c =
    let l = c.args.library.now in
    let b = c.args.body.now in
    ok_as _ _ (counted_is l b c.args.id c.args.stage.now _ c.in_ok-begin_statement.ensures.ok) c.act.result _ c.act.ensures.ok

pub statement::statement-returns-clause-refused : goal.statement::statement-returns-clause-refused
statement::statement-returns-clause-refused t c =
    let l = c.args.library.now in
    let b = c.args.body.now in
    refused_as _ _ (counted_is l b c.args.id c.args.stage.now _ c.in_ok-begin_statement.ensures.ok) c.act.result c.act.ensures.refused

pub statement::update-expr-requires : goal.statement::update-expr-requires
statement::update-expr-requires t c =
    let l = c.args.library.now in
    let b = c.args.body.now in (
      (let below = level_less b.this (length l.nodes.exprs) (length l.nodes.stmts) (8 * c.args.value.number + 7) (8 * length l.nodes.exprs + 3) (omega
          (arith, c.requires.id)) in omega (arith, c.decreases, below)),
      (c.requires.id, c.requires.this),
    )
