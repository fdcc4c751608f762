use Rattle.bit_arith.specs.Calls.{Refused}
use Rattle.tree_walk.proofs.Calling.{call_word, call_own, call_none, call_earlier}
use Rattle.flat_build.proofs.Carrying.{claim_ready, ready_after, ready_as, refused_as, ready_first, refused_after, onward_start}
use Rattle.tree_walk.proofs.Faults.{if_err_from}
use Rattle.tree_walk.proofs.Forms.{told_items, told_single, tuple_below, told_static, told_dynamic, told_pi, told_call, told_tuple, told_unary, told_binary, statics_below, args_below, unary_below, left_below, right_below}
use Rattle.tree_walk.proofs.Levels.{level_less, level_call, level}
use Rattle.flat_build.proofs.Walking.{item_ready, item_refused, taken_ready, taken_refused, items_more}
use Rattle.tree_walk.specs.Seen.{expr_in, exprs_in, call_in, built_in_call_in, own_call_in, forget_in, indices_in, items_in, return_in, stmt_in, stmts_in, block_in, else_in, taken_in, choose_in, acts, arguments_in, run_in}
use Rattle.flat_form.specs.Flat.{flat}
use Rattle.flat_steps.proofs.Stays.{refused_first}
use Rattle.flat_steps.specs.Ready.{Ready}
use Rattle.silq_mean.specs.Effect.{nothing, ◌>>◌, step, one_operand, two_operands, assign_in_turn, update_to, claim, end_compared, receive, assign_to, choice, enter_block, leave_block, enter_body}
use Rattle.silq_mean.specs.Meaning.{gate, taken_by, in_block}
use Rattle.silq_mean.specs.declared.receiver.Receiver.TheVariants.{Variable}
use Rattle.silq_tree.proofs.Lists.{exprs_top, expr_below_top, expr_below, stmts_top, stmt_below_top, stmt_below, stmts_top_le}
use Rattle.silq_types.specs.Calls.{needs_of_built_in}
use Rattle.silq_types.specs.declared.need.Need.TheVariants.{Consumed, Held}
use Rattle.std.proofs.Common.{IfErr, sym, subst, length, map, ap, ◌∙◌, rules, w64, SFits, ◌≡◌, ◌+◌, ◌*◌, max, [], get_or, OnOk, arith, refl, to_z, of_z, ◌<◌, IfSome}
use Rattle.std.proofs.lemmas.Int.{to_z-of_z}
use Rattle.silq_tree.specs.Arena.{Forest}
use Rattle.silq_tree.specs.Children.{AreStmtsBelow, else_stmts}
use Rattle.flat_form.specs.State.{Flattening}
use Rattle.tree_walk.specs.declared.body.Body.{Body}
use Rattle.flat_build.proofs.Acts.{act_refused, statement_done, forget_ready, forget_flat}
use Rattle.tree_walk.proofs.Acts.{line_told, told_assign, told_spread, told_update, told_phase, told_if, told_for, told_return, told_do, assign_parts, assign_value, spread_value, update_parts, update_value, forget_value, phase_value, if_condition, for_low, for_high, return_value, do_value, assign_first, update_first, then_below, else_below, loop_below}
use Rattle.flat_build.proofs.Blocks.{one_ready, one_refused, one_more, all_done, loop_still, loop_start, round_ready, round_refused, round_more, rounds_over}
use Rattle.tree_walk.proofs.Blocks.{told_else_block, told_else_choice, else_ids, else_same, else_one, told_static_choice, told_run_choice, taken_first, taken_other, lt_told, ge_told, next_number, distance_less}
use Rattle.std.proofs.lemmas.Bool.{eqb-true}
use Rattle.std.proofs.Math.Facts.{sfits_to_z}
use Rattle.std.specs.Prelude.{pos, ◌+ℤ◌}
use Rattle.flat_build.proofs.Choosing.{first_ready, first_refused, second_good, second_safe, second_refused, other_ready, other_refused, choice_done, refused_start}
use Rattle.flat_build.proofs.Owning.{arguments_ready, arguments_refused, run_ready, run_refused, leave_is}
use Rattle.tree_walk.proofs.Owning.{told_run, told_arguments}
use Rattle.flat_build.proofs.Statements.{act_ready, count_refused}
use Rattle.flat_build.proofs.+walk.Goals as goal

pub expr::unary-expr-requires : goal.expr::unary-expr-requires
expr::unary-expr-requires t c = ((let below = level_less c.args.body.now.this (length c.args.library.now.nodes.exprs) (length c.args.library.now.nodes.stmts) (8 * c.args.arg.number + 7) (8 * c.args.arg.number + 8) (omega arith) in omega (arith, c.decreases, below)), (c.requires.id, (c.requires.this, ready_first (expr_in c.args.library.now c.args.body.now c.args.arg Held) (step (one_operand c.args.op)) c.args.state.now c.requires.ready)))

pub expr::unary-returns-in_err-expr-clause-refused : goal.expr::unary-returns-in_err-expr-clause-refused
expr::unary-returns-in_err-expr-clause-refused t c = if_err_from _ _ _ c.from_residual.ensures.1 (refused_first _ (expr_in c.args.library.now c.args.body.now c.args.arg Held) (step (one_operand c.args.op)) c.args.state.now c.in_err-expr.ensures.refused)

pub expr::unary-one_operand-requires : goal.expr::unary-one_operand-requires
expr::unary-one_operand-requires t c = ready_after (expr_in c.args.library.now c.args.body.now c.args.arg Held) (step (one_operand c.args.op)) c.args.state.now _ c.in_ok-expr.ensures.ok c.requires.ready

pub expr::binary-expr-requires : goal.expr::binary-expr-requires
expr::binary-expr-requires t c = ((let below = level_less c.args.body.now.this (length c.args.library.now.nodes.exprs) (length c.args.library.now.nodes.stmts) (8 * c.args.left.number + 7) (8 * max c.args.left.number c.args.right.number + 8) (omega arith) in omega (arith, c.decreases, below)), (c.requires.left, (c.requires.this, ready_first (expr_in c.args.library.now c.args.body.now c.args.left Held) (expr_in c.args.library.now c.args.body.now c.args.right Held) c.args.state.now (ready_first ((expr_in c.args.library.now c.args.body.now c.args.left Held) >> (expr_in c.args.library.now c.args.body.now c.args.right Held)) (step (two_operands c.args.op)) c.args.state.now c.requires.ready))))

pub expr::binary-returns-in_err-expr-clause-refused : goal.expr::binary-returns-in_err-expr-clause-refused
expr::binary-returns-in_err-expr-clause-refused t c = if_err_from _ _ _ c.from_residual.ensures.1 (refused_first _ ((expr_in c.args.library.now c.args.body.now c.args.left Held) >> (expr_in c.args.library.now c.args.body.now c.args.right Held)) (step (two_operands c.args.op)) c.args.state.now (refused_first _ (expr_in c.args.library.now c.args.body.now c.args.left Held) (expr_in c.args.library.now c.args.body.now c.args.right Held) c.args.state.now c.in_err-expr.ensures.refused))

pub expr::binary-expr-requires-2 : goal.expr::binary-expr-requires-2
expr::binary-expr-requires-2 t c = ((let below = level_less c.args.body.now.this (length c.args.library.now.nodes.exprs) (length c.args.library.now.nodes.stmts) (8 * c.args.right.number + 7) (8 * max c.args.left.number c.args.right.number + 8) (omega arith) in omega (arith, c.decreases, below)), (c.requires.right, (c.requires.this, ready_after (expr_in c.args.library.now c.args.body.now c.args.left Held) (expr_in c.args.library.now c.args.body.now c.args.right Held) c.args.state.now _ c.in_ok-expr.ensures.ok (ready_first ((expr_in c.args.library.now c.args.body.now c.args.left Held) >> (expr_in c.args.library.now c.args.body.now c.args.right Held)) (step (two_operands c.args.op)) c.args.state.now c.requires.ready))))

pub expr::binary-returns-in_err-expr-2-clause-refused : goal.expr::binary-returns-in_err-expr-2-clause-refused
expr::binary-returns-in_err-expr-2-clause-refused t c = if_err_from _ _ _ c.from_residual-in_err-expr-2.ensures.1 (refused_first _ ((expr_in c.args.library.now c.args.body.now c.args.left Held) >> (expr_in c.args.library.now c.args.body.now c.args.right Held)) (step (two_operands c.args.op)) c.args.state.now (refused_after _ (expr_in c.args.library.now c.args.body.now c.args.left Held) (expr_in c.args.library.now c.args.body.now c.args.right Held) c.args.state.now _ c.in_ok-expr.ensures.ok c.in_err-expr-2.ensures.refused))

pub expr::binary-two_operands-requires : goal.expr::binary-two_operands-requires
expr::binary-two_operands-requires t c = ready_after ((expr_in c.args.library.now c.args.body.now c.args.left Held) >> (expr_in c.args.library.now c.args.body.now c.args.right Held)) (step (two_operands c.args.op)) c.args.state.now _ (c.in_ok-expr-2.ensures.ok ∙ ap (λ u. flat (expr_in c.args.library.now c.args.body.now c.args.right Held) u) c.in_ok-expr.ensures.ok) c.requires.ready

pub expr::values-expr-requires : goal.expr::values-expr-requires
expr::values-expr-requires t c = ((let below = level_less c.args.body.now.this (length c.args.library.now.nodes.exprs) (length c.args.library.now.nodes.stmts) (8 * (get_or c.args.items.now c.loop-item.item-index (record { number = 0 })).number + 7) (8 * exprs_top c.args.items.now) (omega (arith, expr_below_top c.args.items.now c.loop-item.item-index (record { number = 0 }) c.loop-item-test.true)) in omega (arith, c.decreases, below)), (expr_below _ c.args.items.now c.loop-item.item-index _ c.requires.ids c.loop-item-test.true, (c.requires.this, item_ready c.args.library.now c.args.body.now c.args.items.now c.loop-item.item-index (record { number = 0 }) c.args.other c.loop-item.asked.now c.loop-item.receivers.now c.need_or.result (flat (exprs_in c.args.library.now c.args.body.now c.args.items.now c.args.other c.args.needs.now c.args.takers.now) c.args.state.now) c.loop-item.state c.loop-item-test.true c.need_or.ensures c.loop-item.invariant)))

pub expr::values-returns-in_err-expr-clause-refused : goal.expr::values-returns-in_err-expr-clause-refused
expr::values-returns-in_err-expr-clause-refused t c = if_err_from _ _ _ c.from_residual.ensures.1 (item_refused c.args.library.now c.args.body.now c.args.items.now c.loop-item.item-index (record { number = 0 }) c.args.other c.loop-item.asked.now c.loop-item.receivers.now c.need_or.result (flat (exprs_in c.args.library.now c.args.body.now c.args.items.now c.args.other c.args.needs.now c.args.takers.now) c.args.state.now) c.loop-item.state c.loop-item-test.true c.need_or.ensures c.loop-item.invariant _ c.in_err-expr.ensures.refused)

pub expr::values-receive-requires : goal.expr::values-receive-requires
expr::values-receive-requires t c = taken_ready c.args.library.now c.args.body.now c.args.items.now c.loop-item.item-index (record { number = 0 }) c.args.other c.loop-item.asked.now c.loop-item.receivers.now c.need_or.result (flat (exprs_in c.args.library.now c.args.body.now c.args.items.now c.args.other c.args.needs.now c.args.takers.now) c.args.state.now) c.loop-item.state c.loop-item-test.true c.need_or.ensures c.loop-item.invariant _ c.in_ok-expr.ensures.ok

pub expr::values-returns-in_err-receive-clause-refused : goal.expr::values-returns-in_err-receive-clause-refused
expr::values-returns-in_err-receive-clause-refused t c = if_err_from _ _ _ c.from_residual-in_err-receive.ensures.1 (taken_refused c.args.library.now c.args.body.now c.args.items.now c.loop-item.item-index (record { number = 0 }) c.args.other c.loop-item.asked.now c.loop-item.receivers.now c.need_or.result (flat (exprs_in c.args.library.now c.args.body.now c.args.items.now c.args.other c.args.needs.now c.args.takers.now) c.args.state.now) c.loop-item.state c.loop-item-test.true c.need_or.ensures c.loop-item.invariant _ _ c.in_ok-expr.ensures.ok c.in_err-receive.ensures.refused)

pub expr::values-loop-item-preserved : goal.expr::values-loop-item-preserved
expr::values-loop-item-preserved t c = items_more c.args.library.now c.args.body.now c.args.items.now c.loop-item.item-index (record { number = 0 }) c.args.other c.loop-item.asked.now c.loop-item.receivers.now c.need_or.result (flat (exprs_in c.args.library.now c.args.body.now c.args.items.now c.args.other c.args.needs.now c.args.takers.now) c.args.state.now) c.loop-item.state c.loop-item-test.true c.need_or.ensures c.loop-item.invariant _ _ _ _ c.in_ok-expr.ensures.ok c.in_ok-receive.ensures.ok c.behind_first-asked.ensures c.behind_first-receivers.ensures

pub call::built_in_call-values-requires : goal.call::built_in_call-values-requires
call::built_in_call-values-requires t c = ((let below = level_less c.args.body.now.this (length c.args.library.now.nodes.exprs) (length c.args.library.now.nodes.stmts) (8 * exprs_top c.args.args.now) (8 * exprs_top c.args.args.now + 1) (omega arith) in omega (arith, c.decreases, below)), (c.requires.args, (c.requires.this, subst (λ ns. Ready (exprs_in c.args.library.now c.args.body.now c.args.args.now Held ns []) c.args.state.now) (sym c.needs_of.ensures) (ready_first (exprs_in c.args.library.now c.args.body.now c.args.args.now Held (needs_of_built_in c.args.word) []) (gate c.args.word) c.args.state.now c.requires.ready))))

pub call::built_in_call-returns-in_err-values-clause-refused : goal.call::built_in_call-returns-in_err-values-clause-refused
call::built_in_call-returns-in_err-values-clause-refused t c = if_err_from _ _ _ c.from_residual.ensures.1 (refused_first _ (exprs_in c.args.library.now c.args.body.now c.args.args.now Held (needs_of_built_in c.args.word) []) (gate c.args.word) c.args.state.now (refused_as _ (exprs_in c.args.library.now c.args.body.now c.args.args.now Held c.needs_of.result.now []) (exprs_in c.args.library.now c.args.body.now c.args.args.now Held (needs_of_built_in c.args.word) []) c.args.state.now (ap (λ ns. exprs_in c.args.library.now c.args.body.now c.args.args.now Held ns []) c.needs_of.ensures) c.in_err-values.ensures.refused))

pub call::built_in_call-apply-requires : goal.call::built_in_call-apply-requires
call::built_in_call-apply-requires t c = ready_after (exprs_in c.args.library.now c.args.body.now c.args.args.now Held (needs_of_built_in c.args.word) []) (gate c.args.word) c.args.state.now _ (c.in_ok-values.ensures.ok ∙ ap (λ ns. flat (exprs_in c.args.library.now c.args.body.now c.args.args.now Held ns []) c.args.state.now) c.needs_of.ensures) c.requires.ready

pub call::built_in_call-returns-clause-refused : goal.call::built_in_call-returns-clause-refused
call::built_in_call-returns-clause-refused t c = subst (λ u. IfErr c.apply.result (λ f. Refused f (flat (gate c.args.word) u).built)) (c.in_ok-values.ensures.ok ∙ ap (λ ns. flat (exprs_in c.args.library.now c.args.body.now c.args.args.now Held ns []) c.args.state.now) c.needs_of.ensures) c.apply.ensures.refused

pub call::call-built_in_call-requires : goal.call::call-built_in_call-requires
call::call-built_in_call-requires t c = ((let below = level_less c.args.body.now.this (length c.args.library.now.nodes.exprs) (length c.args.library.now.nodes.stmts) (8 * exprs_top c.args.args.now + 1) (8 * exprs_top c.args.args.now + 3) (omega arith) in omega (arith, c.decreases, below)), (c.requires.args, (c.requires.this, ready_as (call_in c.args.library.now c.args.body.now c.args.name c.args.statics.now c.args.args.now) (built_in_call_in c.args.library.now c.args.body.now c.in-Some.word c.args.args.now) c.args.state.now (call_word c.args.library.now c.args.body.now c.args.name c.args.statics.now c.args.args.now c.in-Some.word (sym c.built_in.ensures ∙ c.in-Some.is)) c.requires.ready)))

pub call::call-returns-in-Some-clause-refused : goal.call::call-returns-in-Some-clause-refused
call::call-returns-in-Some-clause-refused t c = subst (λ e. IfErr c.built_in_call.result (λ f. Refused f (flat e c.args.state.now).built)) (sym (call_word c.args.library.now c.args.body.now c.args.name c.args.statics.now c.args.args.now c.in-Some.word (sym c.built_in.ensures ∙ c.in-Some.is))) c.built_in_call.ensures.refused

pub call::call-returns-in-Some-find-clause-ok : goal.call::call-returns-in-Some-find-clause-ok
call::call-returns-in-Some-find-clause-ok t c = subst (λ e. OnOk c.own_call.result (c.own_call.new.state ≡ flat e c.args.state.now)) (sym (call_own c.args.library.now c.args.body.now c.args.name c.args.statics.now c.args.args.now c.in-Some-find.fun c.requires.this (sym c.built_in.ensures ∙ c.in-None.is) c.in-Some-find.ensures.found)) c.own_call.ensures.ok

pub call::call-returns-in-Some-find-clause-refused : goal.call::call-returns-in-Some-find-clause-refused
call::call-returns-in-Some-find-clause-refused t c = subst (λ e. IfErr c.own_call.result (λ f. Refused f (flat e c.args.state.now).built)) (sym (call_own c.args.library.now c.args.body.now c.args.name c.args.statics.now c.args.args.now c.in-Some-find.fun c.requires.this (sym c.built_in.ensures ∙ c.in-None.is) c.in-Some-find.ensures.found)) c.own_call.ensures.refused

pub call::call-values-requires : goal.call::call-values-requires
call::call-values-requires t c = ((let below = level_less c.args.body.now.this (length c.args.library.now.nodes.exprs) (length c.args.library.now.nodes.stmts) (8 * exprs_top c.args.args.now) (8 * exprs_top c.args.args.now + 3) (omega arith) in omega (arith, c.decreases, below)), (c.requires.args, (c.requires.this, ready_first (exprs_in c.args.library.now c.args.body.now c.args.args.now Held [] []) nothing c.args.state.now (ready_as (call_in c.args.library.now c.args.body.now c.args.name c.args.statics.now c.args.args.now) (exprs_in c.args.library.now c.args.body.now c.args.args.now Held [] [] >> nothing) c.args.state.now (call_none c.args.library.now c.args.body.now c.args.name c.args.statics.now c.args.args.now (sym c.built_in.ensures ∙ c.in-None.is) c.in-None-find.ensures.found) c.requires.ready))))

pub call::call-returns-in-None-find-clause-ok : goal.call::call-returns-in-None-find-clause-ok
call::call-returns-in-None-find-clause-ok t c = subst (λ e. OnOk c.values.result (c.values.new.state ≡ flat e c.args.state.now)) (sym (call_none c.args.library.now c.args.body.now c.args.name c.args.statics.now c.args.args.now (sym c.built_in.ensures ∙ c.in-None.is) c.in-None-find.ensures.found)) c.values.ensures.ok

pub call::call-returns-in-None-find-clause-refused : goal.call::call-returns-in-None-find-clause-refused
call::call-returns-in-None-find-clause-refused t c = subst (λ e. IfErr c.values.result (λ f. Refused f (flat e c.args.state.now).built)) (sym (call_none c.args.library.now c.args.body.now c.args.name c.args.statics.now c.args.args.now (sym c.built_in.ensures ∙ c.in-None.is) c.in-None-find.ensures.found)) c.values.ensures.refused

pub expr::expr-returns-then-is_static-clause-ok : goal.expr::expr-returns-then-is_static-clause-ok
expr::expr-returns-then-is_static-clause-ok t c = let f : SFits w64 c.static_value.result = search rules in subst (λ e. OnOk c.give_static.result (c.give_static.new.self ≡ flat e c.args.state.now)) (sym (told_static c.args.library.now c.args.body.now c.args.e c.args.need c.tree.result.now c.tree-then-is_static.result.now c.is_static.result c.static_value.result c.tree.ensures c.is_static.ensures c.if-is_static.true c.tree-then-is_static.ensures c.static_value.ensures)) (rw (to_z-of_z w64 c.static_value.result f) at c.give_static.ensures.ok)

pub expr::expr-returns-then-is_static-clause-refused : goal.expr::expr-returns-then-is_static-clause-refused
expr::expr-returns-then-is_static-clause-refused t c = subst (λ e. IfErr c.give_static.result (λ f. Refused f (flat e c.args.state.now).built)) (sym (told_static c.args.library.now c.args.body.now c.args.e c.args.need c.tree.result.now c.tree-then-is_static.result.now c.is_static.result c.static_value.result c.tree.ensures c.is_static.ensures c.if-is_static.true c.tree-then-is_static.ensures c.static_value.ensures)) c.give_static.ensures.refused

pub expr::expr-call-requires : goal.expr::expr-call-requires
expr::expr-call-requires t c = (let top = (args_below c.args.e.number (length c.args.library.now.nodes.exprs) c.expr.result.now c.requires.id c.expr.ensures.smaller c.in-Call.fun c.in-Call.statics c.in-Call.args c.as_slice-in-Call.result.now c.in-Call.at c.in-Call.is c.as_slice-in-Call.ensures).1 in (let below = level_less c.args.body.now.this (length c.args.library.now.nodes.exprs) (length c.args.library.now.nodes.stmts) (8 * exprs_top c.as_slice-in-Call.result.now + 3) (8 * c.args.e.number + 7) (omega (arith, top)) in omega (arith, c.decreases, below)), ((statics_below c.args.e.number (length c.args.library.now.nodes.exprs) c.expr.result.now c.requires.id c.expr.ensures.smaller c.in-Call.fun c.in-Call.statics c.in-Call.args c.as_slice.result.now c.in-Call.at c.in-Call.is c.as_slice.ensures).0, ((args_below c.args.e.number (length c.args.library.now.nodes.exprs) c.expr.result.now c.requires.id c.expr.ensures.smaller c.in-Call.fun c.in-Call.statics c.in-Call.args c.as_slice-in-Call.result.now c.in-Call.at c.in-Call.is c.as_slice-in-Call.ensures).0, (c.requires.this, ready_as (expr_in c.args.library.now c.args.body.now c.args.e c.args.need) _ c.args.state.now (told_call c.args.library.now c.args.body.now c.args.e c.args.need c.tree-2.result.now c.expr.result.now c.tree-2.ensures c.expr.ensures.tree c.in-Call.fun c.in-Call.statics c.in-Call.args c.as_slice.result.now c.as_slice-in-Call.result.now c.in-Call.at c.in-Call.is c.as_slice.ensures c.as_slice-in-Call.ensures) c.requires.ready))))

pub expr::expr-returns-in-Call-clause-refused : goal.expr::expr-returns-in-Call-clause-refused
expr::expr-returns-in-Call-clause-refused t c = subst (λ e. IfErr c.call.result (λ f. Refused f (flat e c.args.state.now).built)) (sym (told_call c.args.library.now c.args.body.now c.args.e c.args.need c.tree-2.result.now c.expr.result.now c.tree-2.ensures c.expr.ensures.tree c.in-Call.fun c.in-Call.statics c.in-Call.args c.as_slice.result.now c.as_slice-in-Call.result.now c.in-Call.at c.in-Call.is c.as_slice.ensures c.as_slice-in-Call.ensures)) c.call.ensures.refused

pub expr::expr-values-requires : goal.expr::expr-values-requires
expr::expr-values-requires t c = (let top = (tuple_below c.args.e.number (length c.args.library.now.nodes.exprs) c.expr.result.now c.requires.id c.expr.ensures.smaller c.in-Tuple.items c.as_slice-in-Tuple.result.now c.in-Tuple.at c.in-Tuple.is c.as_slice-in-Tuple.ensures).1 in (let below = level_less c.args.body.now.this (length c.args.library.now.nodes.exprs) (length c.args.library.now.nodes.stmts) (8 * exprs_top c.as_slice-in-Tuple.result.now) (8 * c.args.e.number + 7) (omega (arith, top)) in omega (arith, c.decreases, below)), ((tuple_below c.args.e.number (length c.args.library.now.nodes.exprs) c.expr.result.now c.requires.id c.expr.ensures.smaller c.in-Tuple.items c.as_slice-in-Tuple.result.now c.in-Tuple.at c.in-Tuple.is c.as_slice-in-Tuple.ensures).0, (c.requires.this, ready_as (expr_in c.args.library.now c.args.body.now c.args.e c.args.need) _ c.args.state.now (told_tuple c.args.library.now c.args.body.now c.args.e c.args.need c.tree-2.result.now c.expr.result.now c.tree-2.ensures c.expr.ensures.tree c.in-Tuple.items c.as_slice-in-Tuple.result.now c.in-Tuple.at c.in-Tuple.is c.as_slice-in-Tuple.ensures) c.requires.ready)))

pub expr::expr-returns-in-Tuple-clause-refused : goal.expr::expr-returns-in-Tuple-clause-refused
expr::expr-returns-in-Tuple-clause-refused t c = subst (λ e. IfErr c.values.result (λ f. Refused f (flat e c.args.state.now).built)) (sym (told_tuple c.args.library.now c.args.body.now c.args.e c.args.need c.tree-2.result.now c.expr.result.now c.tree-2.ensures c.expr.ensures.tree c.in-Tuple.items c.as_slice-in-Tuple.result.now c.in-Tuple.at c.in-Tuple.is c.as_slice-in-Tuple.ensures)) c.values.ensures.refused

pub expr::expr-unary-requires : goal.expr::expr-unary-requires
expr::expr-unary-requires t c = (let less = (unary_below c.args.e.number (length c.args.library.now.nodes.exprs) c.expr.result.now c.requires.id c.expr.ensures.smaller c.in-Unary.op c.in-Unary.arg c.in-Unary.at c.in-Unary.is) in (let below = level_less c.args.body.now.this (length c.args.library.now.nodes.exprs) (length c.args.library.now.nodes.stmts) (8 * c.in-Unary.arg.number + 8) (8 * c.args.e.number + 7) (omega (arith, less)) in omega (arith, c.decreases, below)), (omega (arith, (unary_below c.args.e.number (length c.args.library.now.nodes.exprs) c.expr.result.now c.requires.id c.expr.ensures.smaller c.in-Unary.op c.in-Unary.arg c.in-Unary.at c.in-Unary.is), c.requires.id), (c.requires.this, ready_as (expr_in c.args.library.now c.args.body.now c.args.e c.args.need) _ c.args.state.now (told_unary c.args.library.now c.args.body.now c.args.e c.args.need c.tree-2.result.now c.expr.result.now c.tree-2.ensures c.expr.ensures.tree c.in-Unary.op c.in-Unary.arg c.in-Unary.at c.in-Unary.is (told_dynamic c.args.library.now c.args.body.now c.args.e c.args.need c.tree.result.now c.is_static.result c.tree.ensures c.is_static.ensures c.if-is_static.false)) c.requires.ready)))

pub expr::expr-returns-in-Unary-clause-refused : goal.expr::expr-returns-in-Unary-clause-refused
expr::expr-returns-in-Unary-clause-refused t c = subst (λ e. IfErr c.unary.result (λ f. Refused f (flat e c.args.state.now).built)) (sym (told_unary c.args.library.now c.args.body.now c.args.e c.args.need c.tree-2.result.now c.expr.result.now c.tree-2.ensures c.expr.ensures.tree c.in-Unary.op c.in-Unary.arg c.in-Unary.at c.in-Unary.is (told_dynamic c.args.library.now c.args.body.now c.args.e c.args.need c.tree.result.now c.is_static.result c.tree.ensures c.is_static.ensures c.if-is_static.false))) c.unary.ensures.refused

pub expr::expr-binary-requires : goal.expr::expr-binary-requires
expr::expr-binary-requires t c = (let less = (left_below c.args.e.number (length c.args.library.now.nodes.exprs) c.expr.result.now c.requires.id c.expr.ensures.smaller c.in-Binary.op c.in-Binary.left c.in-Binary.right c.in-Binary.at c.in-Binary.is) in let right_less = (right_below c.args.e.number (length c.args.library.now.nodes.exprs) c.expr.result.now c.requires.id c.expr.ensures.smaller c.in-Binary.op c.in-Binary.left c.in-Binary.right c.in-Binary.at c.in-Binary.is) in (let below = level_less c.args.body.now.this (length c.args.library.now.nodes.exprs) (length c.args.library.now.nodes.stmts) (8 * max c.in-Binary.left.number c.in-Binary.right.number + 8) (8 * c.args.e.number + 7) (omega (arith, less, right_less)) in omega (arith, c.decreases, below)), (omega (arith, (left_below c.args.e.number (length c.args.library.now.nodes.exprs) c.expr.result.now c.requires.id c.expr.ensures.smaller c.in-Binary.op c.in-Binary.left c.in-Binary.right c.in-Binary.at c.in-Binary.is), c.requires.id), (omega (arith, (right_below c.args.e.number (length c.args.library.now.nodes.exprs) c.expr.result.now c.requires.id c.expr.ensures.smaller c.in-Binary.op c.in-Binary.left c.in-Binary.right c.in-Binary.at c.in-Binary.is), c.requires.id), (c.requires.this, ready_as (expr_in c.args.library.now c.args.body.now c.args.e c.args.need) _ c.args.state.now (told_binary c.args.library.now c.args.body.now c.args.e c.args.need c.tree-2.result.now c.expr.result.now c.tree-2.ensures c.expr.ensures.tree c.in-Binary.op c.in-Binary.left c.in-Binary.right c.in-Binary.at c.in-Binary.is (told_dynamic c.args.library.now c.args.body.now c.args.e c.args.need c.tree.result.now c.is_static.result c.tree.ensures c.is_static.ensures c.if-is_static.false)) c.requires.ready))))

pub expr::expr-returns-in-Binary-clause-ok : goal.expr::expr-returns-in-Binary-clause-ok
expr::expr-returns-in-Binary-clause-ok t c = subst (λ e. OnOk c.binary.result (c.binary.new.state ≡ flat e c.args.state.now)) (sym (told_binary c.args.library.now c.args.body.now c.args.e c.args.need c.tree-2.result.now c.expr.result.now c.tree-2.ensures c.expr.ensures.tree c.in-Binary.op c.in-Binary.left c.in-Binary.right c.in-Binary.at c.in-Binary.is (told_dynamic c.args.library.now c.args.body.now c.args.e c.args.need c.tree.result.now c.is_static.result c.tree.ensures c.is_static.ensures c.if-is_static.false))) c.binary.ensures.ok

pub expr::expr-returns-in-Binary-clause-refused : goal.expr::expr-returns-in-Binary-clause-refused
expr::expr-returns-in-Binary-clause-refused t c = subst (λ e. IfErr c.binary.result (λ f. Refused f (flat e c.args.state.now).built)) (sym (told_binary c.args.library.now c.args.body.now c.args.e c.args.need c.tree-2.result.now c.expr.result.now c.tree-2.ensures c.expr.ensures.tree c.in-Binary.op c.in-Binary.left c.in-Binary.right c.in-Binary.at c.in-Binary.is (told_dynamic c.args.library.now c.args.body.now c.args.e c.args.need c.tree.result.now c.is_static.result c.tree.ensures c.is_static.ensures c.if-is_static.false))) c.binary.ensures.refused

pub expr::expr-returns-in-Pi-clause-ok : goal.expr::expr-returns-in-Pi-clause-ok
expr::expr-returns-in-Pi-clause-ok t c = sym (ap (λ e. flat e c.args.state.now) (told_pi c.args.library.now c.args.body.now c.args.e c.args.need c.tree-2.result.now c.expr.result.now c.tree-2.ensures c.expr.ensures.tree c.in-Pi.at c.in-Pi.is))

pub statement::assign-returns-in_err-expr-clause-refused : goal.statement::assign-returns-in_err-expr-clause-refused
statement::assign-returns-in_err-expr-clause-refused t c = if_err_from _ _ _ c.from_residual-in_err-expr.ensures.1 (refused_first _ ((expr_in c.args.library.now c.args.body.now c.args.value Consumed) >> (step (receive Variable))) (step (assign_to c.args.target.name (indices_in c.args.library.now c.args.body.now c.args.target))) c.args.state.now (refused_first _ (expr_in c.args.library.now c.args.body.now c.args.value Consumed) (step (receive Variable)) c.args.state.now c.in_err-expr.ensures.refused))

pub statement::assign-receive-requires : goal.statement::assign-receive-requires
statement::assign-receive-requires t c = ready_after (expr_in c.args.library.now c.args.body.now c.args.value Consumed) (step (receive Variable)) c.args.state.now _ c.in_ok-expr.ensures.ok (ready_first ((expr_in c.args.library.now c.args.body.now c.args.value Consumed) >> (step (receive Variable))) (step (assign_to c.args.target.name (indices_in c.args.library.now c.args.body.now c.args.target))) c.args.state.now c.requires.ready)

pub statement::assign-assign_to-requires : goal.statement::assign-assign_to-requires
statement::assign-assign_to-requires t c = subst (λ is. Ready (step (assign_to c.args.target.name is)) c.receive.new.self) (sym (c.as_slice.ensures ∙ c.in_ok-indices.ensures)) (ready_after ((expr_in c.args.library.now c.args.body.now c.args.value Consumed) >> (step (receive Variable))) (step (assign_to c.args.target.name (indices_in c.args.library.now c.args.body.now c.args.target))) c.args.state.now _ (c.in_ok-receive.ensures.ok ∙ ap (λ u. flat (step (receive Variable)) u) c.in_ok-expr.ensures.ok) c.requires.ready)

pub statement::spread-returns-in_err-items-clause-refused : goal.statement::spread-returns-in_err-items-clause-refused
statement::spread-returns-in_err-items-clause-refused t c = if_err_from _ _ _ c.from_residual-in_err-items.ensures.1 (refused_first _ (items_in c.args.library.now c.args.body.now c.args.value (map (λ x. Variable) c.args.names.now)) (step (assign_in_turn c.args.names.now)) c.args.state.now (refused_as _ (items_in c.args.library.now c.args.body.now c.args.value c.as_slice.result.now) (items_in c.args.library.now c.args.body.now c.args.value (map (λ x. Variable) c.args.names.now)) c.args.state.now (ap (λ ts. items_in c.args.library.now c.args.body.now c.args.value ts) (c.as_slice.ensures ∙ c.in_ok-takers.ensures)) c.in_err-items.ensures.refused))

pub statement::spread-assign_in_turn-requires : goal.statement::spread-assign_in_turn-requires
statement::spread-assign_in_turn-requires t c = ready_after (items_in c.args.library.now c.args.body.now c.args.value (map (λ x. Variable) c.args.names.now)) (step (assign_in_turn c.args.names.now)) c.args.state.now _ (c.in_ok-items.ensures.ok ∙ ap (λ ts. flat (items_in c.args.library.now c.args.body.now c.args.value ts) c.args.state.now) (c.as_slice.ensures ∙ c.in_ok-takers.ensures)) c.requires.ready

pub statement::spread-returns-clause-refused : goal.statement::spread-returns-clause-refused
statement::spread-returns-clause-refused t c = subst (λ u. IfErr c.assign_in_turn.result (λ f. Refused f (flat (step (assign_in_turn c.args.names.now)) u).built)) (c.in_ok-items.ensures.ok ∙ ap (λ ts. flat (items_in c.args.library.now c.args.body.now c.args.value ts) c.args.state.now) (c.as_slice.ensures ∙ c.in_ok-takers.ensures)) c.assign_in_turn.ensures.refused

pub statement::items-returns-in-Tuple-clause-refused : goal.statement::items-returns-in-Tuple-clause-refused
statement::items-returns-in-Tuple-clause-refused t c = subst (λ e. IfErr c.values.result (λ f. Refused f (flat e c.args.state.now).built)) (sym (told_items c.args.library.now c.args.body.now c.args.e Consumed c.tree.result.now c.expr.result.now c.tree.ensures c.expr.ensures.tree c.in-Tuple.items c.as_slice.result.now c.args.takers.now c.in-Tuple.at c.in-Tuple.is c.as_slice.ensures)) c.values.ensures.refused

pub statement::items-returns-in_err-expr-clause-refused : goal.statement::items-returns-in_err-expr-clause-refused
statement::items-returns-in_err-expr-clause-refused t c = if_err_from _ _ _ c.from_residual.ensures.1 (refused_as _ ((expr_in c.args.library.now c.args.body.now c.args.e Consumed) >> (taken_by c.args.takers.now)) (items_in c.args.library.now c.args.body.now c.args.e c.args.takers.now) c.args.state.now (sym (told_single c.args.library.now c.args.body.now c.args.e Consumed c.tree.result.now c.expr.result.now c.tree.ensures c.expr.ensures.tree c.args.takers.now c.in_default.not-Tuple)) (refused_first _ (expr_in c.args.library.now c.args.body.now c.args.e Consumed) (taken_by c.args.takers.now) c.args.state.now c.in_err-expr.ensures.refused))

pub statement::items-receive-requires : goal.statement::items-receive-requires
statement::items-receive-requires t c = ready_after (expr_in c.args.library.now c.args.body.now c.args.e Consumed) (taken_by c.args.takers.now) c.args.state.now _ c.in_ok-expr.ensures.ok (ready_as (items_in c.args.library.now c.args.body.now c.args.e c.args.takers.now) ((expr_in c.args.library.now c.args.body.now c.args.e Consumed) >> (taken_by c.args.takers.now)) c.args.state.now (told_single c.args.library.now c.args.body.now c.args.e Consumed c.tree.result.now c.expr.result.now c.tree.ensures c.expr.ensures.tree c.args.takers.now c.in_default.not-Tuple) c.requires.ready)

pub statement::update-returns-in_err-expr-clause-refused : goal.statement::update-returns-in_err-expr-clause-refused
statement::update-returns-in_err-expr-clause-refused t c = if_err_from _ _ _ c.from_residual-in_err-expr.ensures.1 (refused_first _ (expr_in c.args.library.now c.args.body.now c.args.value Held) (step (update_to c.args.target.name (indices_in c.args.library.now c.args.body.now c.args.target) c.args.op)) c.args.state.now c.in_err-expr.ensures.refused)

pub statement::update-update_to-requires : goal.statement::update-update_to-requires
statement::update-update_to-requires t c = subst (λ is. Ready (step (update_to c.args.target.name is c.args.op)) c.expr.new.state) (sym (c.as_slice.ensures ∙ c.in_ok-indices.ensures)) (ready_after (expr_in c.args.library.now c.args.body.now c.args.value Held) (step (update_to c.args.target.name (indices_in c.args.library.now c.args.body.now c.args.target) c.args.op)) c.args.state.now _ c.in_ok-expr.ensures.ok c.requires.ready)

pub statement::forget-returns-in_err-expr-in-Some-clause-refused : goal.statement::forget-returns-in_err-expr-in-Some-clause-refused
statement::forget-returns-in_err-expr-in-Some-clause-refused t c = subst (λ v. IfErr c.from_residual.result (λ f. Refused f (flat (forget_in c.args.library.now c.args.body.now 0 c.args.name v) c.args.state.now).built)) (sym c.in-Some.is) (if_err_from _ _ _ c.from_residual.ensures.1 (refused_first _ ((expr_in c.args.library.now c.args.body.now c.in-Some.e Held) >> (claim 0 c.args.name)) (step (end_compared c.args.name)) c.args.state.now (refused_first _ (expr_in c.args.library.now c.args.body.now c.in-Some.e Held) (claim 0 c.args.name) c.args.state.now c.in_err-expr-in-Some.ensures.refused)))

pub statement::forget-claim-requires : goal.statement::forget-claim-requires
statement::forget-claim-requires t c = record { ready = claim_ready c.args.name _ (ready_after (expr_in c.args.library.now c.args.body.now c.in-Some.e Held) (claim 0 c.args.name) c.args.state.now _ c.in_ok-expr-in-Some.ensures.ok (ready_first ((expr_in c.args.library.now c.args.body.now c.in-Some.e Held) >> (claim 0 c.args.name)) (step (end_compared c.args.name)) c.args.state.now (subst (λ v. Ready (forget_in c.args.library.now c.args.body.now 0 c.args.name v) c.args.state.now) c.in-Some.is c.requires.ready))) }

pub statement::forget-returns-in_err-claim-in-Some-clause-refused : goal.statement::forget-returns-in_err-claim-in-Some-clause-refused
statement::forget-returns-in_err-claim-in-Some-clause-refused t c = subst (λ v. IfErr c.from_residual-in_err-claim-in-Some.result (λ f. Refused f (flat (forget_in c.args.library.now c.args.body.now 0 c.args.name v) c.args.state.now).built)) (sym c.in-Some.is) (if_err_from _ _ _ c.from_residual-in_err-claim-in-Some.ensures.1 (refused_first _ ((expr_in c.args.library.now c.args.body.now c.in-Some.e Held) >> (claim 0 c.args.name)) (step (end_compared c.args.name)) c.args.state.now (refused_after _ (expr_in c.args.library.now c.args.body.now c.in-Some.e Held) (claim 0 c.args.name) c.args.state.now _ c.in_ok-expr-in-Some.ensures.ok (c.in_err-claim-in-Some.ensures.refused 0))))

pub statement::forget-returns-in_ok-claim-in-Some-clause-ok : goal.statement::forget-returns-in_ok-claim-in-Some-clause-ok
statement::forget-returns-in_ok-claim-in-Some-clause-ok t c = subst (λ v. OnOk c.end_compared.result (c.end_compared.new.self ≡ flat (forget_in c.args.library.now c.args.body.now 0 c.args.name v) c.args.state.now)) (sym c.in-Some.is) (subst (λ u. OnOk c.end_compared.result (c.end_compared.new.self ≡ flat (step (end_compared c.args.name)) u)) (c.in_ok-claim-in-Some.ensures.ok 0 ∙ ap (λ u. flat (claim 0 c.args.name) u) c.in_ok-expr-in-Some.ensures.ok) c.end_compared.ensures.ok)

pub statement::forget-returns-in_ok-claim-in-Some-clause-refused : goal.statement::forget-returns-in_ok-claim-in-Some-clause-refused
statement::forget-returns-in_ok-claim-in-Some-clause-refused t c = subst (λ v. IfErr c.end_compared.result (λ f. Refused f (flat (forget_in c.args.library.now c.args.body.now 0 c.args.name v) c.args.state.now).built)) (sym c.in-Some.is) (subst (λ u. IfErr c.end_compared.result (λ f. Refused f (flat (step (end_compared c.args.name)) u).built)) (c.in_ok-claim-in-Some.ensures.ok 0 ∙ ap (λ u. flat (claim 0 c.args.name) u) c.in_ok-expr-in-Some.ensures.ok) c.end_compared.ensures.refused)

pub statement::returned-returns-in-Some-clause-refused : goal.statement::returned-returns-in-Some-clause-refused
statement::returned-returns-in-Some-clause-refused t c = subst (λ v. IfErr c.items.result (λ f. Refused f (flat (return_in c.args.library.now c.args.body.now v) c.args.state.now).built)) (sym c.in-Some.is) (subst (λ ts. IfErr c.items.result (λ f. Refused f (flat (items_in c.args.library.now c.args.body.now c.in-Some.e ts) c.args.state.now).built)) c.as_slice.ensures c.items.ensures.refused)

pub statement::assign-expr-requires : goal.statement::assign-expr-requires
statement::assign-expr-requires t c = ((let below = level_less c.args.body.now.this (length c.args.library.now.nodes.exprs) (length c.args.library.now.nodes.stmts) (8 * c.args.value.number + 7) (8 * length c.args.library.now.nodes.exprs + 3) (omega (arith, c.requires.id)) in omega (arith, c.decreases, below)), (c.requires.id, (c.requires.this, ready_first (expr_in c.args.library.now c.args.body.now c.args.value Consumed) (step (receive Variable)) c.args.state.now (ready_first ((expr_in c.args.library.now c.args.body.now c.args.value Consumed) >> step (receive Variable)) (step (assign_to c.args.target.name (indices_in c.args.library.now c.args.body.now c.args.target))) c.args.state.now c.requires.ready))))

pub statement::update-expr-requires : goal.statement::update-expr-requires
statement::update-expr-requires t c = ((let below = level_less c.args.body.now.this (length c.args.library.now.nodes.exprs) (length c.args.library.now.nodes.stmts) (8 * c.args.value.number + 7) (8 * length c.args.library.now.nodes.exprs + 3) (omega (arith, c.requires.id)) in omega (arith, c.decreases, below)), (c.requires.id, (c.requires.this, ready_first (expr_in c.args.library.now c.args.body.now c.args.value Held) (step (update_to c.args.target.name (indices_in c.args.library.now c.args.body.now c.args.target) c.args.op)) c.args.state.now c.requires.ready)))

pub statement::spread-items-requires : goal.statement::spread-items-requires
statement::spread-items-requires t c = ((let below = level_less c.args.body.now.this (length c.args.library.now.nodes.exprs) (length c.args.library.now.nodes.stmts) (8 * length c.args.library.now.nodes.exprs + 2) (8 * length c.args.library.now.nodes.exprs + 3) (omega arith) in omega (arith, c.decreases, below)), (c.requires.id, (c.requires.this, ready_as (items_in c.args.library.now c.args.body.now c.args.value (map (λ x. Variable) c.args.names.now)) (items_in c.args.library.now c.args.body.now c.args.value c.as_slice.result.now) c.args.state.now (ap (λ ts. items_in c.args.library.now c.args.body.now c.args.value ts) (sym (c.as_slice.ensures ∙ c.in_ok-takers.ensures))) (ready_first (items_in c.args.library.now c.args.body.now c.args.value (map (λ x. Variable) c.args.names.now)) (step (assign_in_turn c.args.names.now)) c.args.state.now c.requires.ready))))

pub statement::items-values-requires : goal.statement::items-values-requires
statement::items-values-requires t c = (let top = (tuple_below c.args.e.number (length c.args.library.now.nodes.exprs) c.expr.result.now c.requires.id c.expr.ensures.smaller c.in-Tuple.items c.as_slice.result.now c.in-Tuple.at c.in-Tuple.is c.as_slice.ensures).1 in let id = c.requires.id in (let below = level_less c.args.body.now.this (length c.args.library.now.nodes.exprs) (length c.args.library.now.nodes.stmts) (8 * exprs_top c.as_slice.result.now) (8 * length c.args.library.now.nodes.exprs + 2) (omega (arith, top, id)) in omega (arith, c.decreases, below)), ((tuple_below c.args.e.number (length c.args.library.now.nodes.exprs) c.expr.result.now c.requires.id c.expr.ensures.smaller c.in-Tuple.items c.as_slice.result.now c.in-Tuple.at c.in-Tuple.is c.as_slice.ensures).0, (c.requires.this, ready_as (items_in c.args.library.now c.args.body.now c.args.e c.args.takers.now) _ c.args.state.now (told_items c.args.library.now c.args.body.now c.args.e Consumed c.tree.result.now c.expr.result.now c.tree.ensures c.expr.ensures.tree c.in-Tuple.items c.as_slice.result.now c.args.takers.now c.in-Tuple.at c.in-Tuple.is c.as_slice.ensures) c.requires.ready)))

pub statement::items-expr-requires-2 : goal.statement::items-expr-requires-2
statement::items-expr-requires-2 t c = ((let below = level_less c.args.body.now.this (length c.args.library.now.nodes.exprs) (length c.args.library.now.nodes.stmts) (8 * c.args.e.number + 7) (8 * length c.args.library.now.nodes.exprs + 2) (omega (arith, c.requires.id)) in omega (arith, c.decreases, below)), (c.requires.id, (c.requires.this, ready_first (expr_in c.args.library.now c.args.body.now c.args.e Consumed) (taken_by c.args.takers.now) c.args.state.now (ready_as (items_in c.args.library.now c.args.body.now c.args.e c.args.takers.now) ((expr_in c.args.library.now c.args.body.now c.args.e Consumed) >> taken_by c.args.takers.now) c.args.state.now (told_single c.args.library.now c.args.body.now c.args.e Consumed c.tree.result.now c.expr.result.now c.tree.ensures c.expr.ensures.tree c.args.takers.now c.in_default.not-Tuple) c.requires.ready))))

pub statement::forget-expr-requires : goal.statement::forget-expr-requires
statement::forget-expr-requires t c = (let id = (subst (λ v. IfSome v (λ e. e.number < length c.args.library.now.nodes.exprs)) c.in-Some.is c.requires.id) in (let below = level_less c.args.body.now.this (length c.args.library.now.nodes.exprs) (length c.args.library.now.nodes.stmts) (8 * c.in-Some.e.number + 7) (8 * length c.args.library.now.nodes.exprs + 3) (omega (arith, id)) in omega (arith, c.decreases, below)), ((subst (λ v. IfSome v (λ e. e.number < length c.args.library.now.nodes.exprs)) c.in-Some.is c.requires.id), (c.requires.this, ready_first (expr_in c.args.library.now c.args.body.now c.in-Some.e Held) (claim 0 c.args.name) c.args.state.now (ready_first ((expr_in c.args.library.now c.args.body.now c.in-Some.e Held) >> claim 0 c.args.name) (step (end_compared c.args.name)) c.args.state.now (subst (λ v. Ready (forget_in c.args.library.now c.args.body.now 0 c.args.name v) c.args.state.now) c.in-Some.is c.requires.ready)))))

pub statement::returned-items-requires : goal.statement::returned-items-requires
statement::returned-items-requires t c = ((let below = level_less c.args.body.now.this (length c.args.library.now.nodes.exprs) (length c.args.library.now.nodes.stmts) (8 * length c.args.library.now.nodes.exprs + 2) (8 * length c.args.library.now.nodes.exprs + 3) (omega arith) in omega (arith, c.decreases, below)), ((subst (λ v. IfSome v (λ e. e.number < length c.args.library.now.nodes.exprs)) c.in-Some.is c.requires.id), (c.requires.this, subst (λ ts. Ready (items_in c.args.library.now c.args.body.now c.in-Some.e ts) c.args.state.now) (sym c.as_slice.ensures) (subst (λ v. Ready (return_in c.args.library.now c.args.body.now v) c.args.state.now) c.in-Some.is c.requires.ready))))

pub statement::statement-act-requires : goal.statement::statement-act-requires
statement::statement-act-requires t c = ((let below = level_less c.args.body.now.this (length c.args.library.now.nodes.exprs) (length c.args.library.now.nodes.stmts) (8 * length c.args.library.now.nodes.exprs + (8 * c.args.id.number + 6)) (8 * length c.args.library.now.nodes.exprs + (8 * c.args.id.number + 7)) (omega arith) in omega (arith, c.decreases, below)), (c.requires.id, (c.requires.this, act_ready c.args.library.now c.args.body.now c.args.id c.line_of.result c.args.state.now _ (line_told c.args.library.now c.args.body.now c.args.id c.tree.result.now c.stmt.result.now c.line_of.result c.tree.ensures c.stmt.ensures.tree c.line_of.ensures) c.in_ok-outer.ensures.ok c.requires.ready)))

pub statement::statement-returns-in_err-outer-clause-refused : goal.statement::statement-returns-in_err-outer-clause-refused
statement::statement-returns-in_err-outer-clause-refused t c = if_err_from _ _ _ c.from_residual.ensures.1 (count_refused c.args.library.now c.args.body.now c.args.id _ c.args.state.now c.in_err-outer.ensures.refused)

pub statement::statement-returns-in_err-act-clause-refused : goal.statement::statement-returns-in_err-act-clause-refused
statement::statement-returns-in_err-act-clause-refused t c = if_err_from _ _ _ c.from_residual-in_err-act.ensures.1 (act_refused c.args.library.now c.args.body.now c.args.id c.args.state.now _ c.line_of.result (line_told c.args.library.now c.args.body.now c.args.id c.tree.result.now c.stmt.result.now c.line_of.result c.tree.ensures c.stmt.ensures.tree c.line_of.ensures) c.in_ok-outer.ensures.ok _ c.in_err-act.ensures.refused)

pub statement::statement-returns-clause-ok : goal.statement::statement-returns-clause-ok
statement::statement-returns-clause-ok t c = statement_done c.args.library.now c.args.body.now c.args.id c.args.state.now _ c.line_of.result (line_told c.args.library.now c.args.body.now c.args.id c.tree.result.now c.stmt.result.now c.line_of.result c.tree.ensures c.stmt.ensures.tree c.line_of.ensures) c.in_ok-outer.ensures.ok _ _ c.in_ok-outer.outer c.in_ok-outer.ensures.outer c.in_ok-act.ensures.ok c.end_statement.ensures

pub statement::act-assign-requires : goal.statement::act-assign-requires
statement::act-assign-requires t c = ((let below = level_less c.args.body.now.this (length c.args.library.now.nodes.exprs) (length c.args.library.now.nodes.stmts) (8 * length c.args.library.now.nodes.exprs + 3) (8 * length c.args.library.now.nodes.exprs + (8 * c.args.id.number + 6)) (omega arith) in omega (arith, c.decreases, below)), (assign_parts c.args.library.now c.tree.result.now c.stmt.result.now c.tree.ensures c.stmt.ensures.parts c.in-Assign.target c.in-Assign.value c.in-Assign.at c.in-Assign.is, (assign_first c.stmt.result.now c.in-Assign.target c.in-Assign.value c.in-Assign.at c.in-Assign.is c.stmt.ensures.first, (assign_value c.args.library.now c.tree.result.now c.stmt.result.now c.tree.ensures c.stmt.ensures.parts c.in-Assign.target c.in-Assign.value c.in-Assign.at c.in-Assign.is, (c.requires.this, ready_as (acts (stmt_in c.args.library.now c.args.body.now c.args.id)) _ c.args.state.now (told_assign c.args.library.now c.args.body.now c.args.id c.tree.result.now c.stmt.result.now c.tree.ensures c.stmt.ensures.tree c.in-Assign.target c.in-Assign.value c.in-Assign.at c.in-Assign.is) c.requires.ready)))))

pub statement::act-returns-in-Assign-clause-ok : goal.statement::act-returns-in-Assign-clause-ok
statement::act-returns-in-Assign-clause-ok t c = subst (λ e. OnOk c.assign.result (c.assign.new.state ≡ flat e c.args.state.now)) (sym (told_assign c.args.library.now c.args.body.now c.args.id c.tree.result.now c.stmt.result.now c.tree.ensures c.stmt.ensures.tree c.in-Assign.target c.in-Assign.value c.in-Assign.at c.in-Assign.is)) c.assign.ensures.ok

pub statement::act-returns-in-Assign-clause-refused : goal.statement::act-returns-in-Assign-clause-refused
statement::act-returns-in-Assign-clause-refused t c = subst (λ e. IfErr c.assign.result (λ f. Refused f (flat e c.args.state.now).built)) (sym (told_assign c.args.library.now c.args.body.now c.args.id c.tree.result.now c.stmt.result.now c.tree.ensures c.stmt.ensures.tree c.in-Assign.target c.in-Assign.value c.in-Assign.at c.in-Assign.is)) c.assign.ensures.refused

pub statement::act-spread-requires : goal.statement::act-spread-requires
statement::act-spread-requires t c = ((let below = level_less c.args.body.now.this (length c.args.library.now.nodes.exprs) (length c.args.library.now.nodes.stmts) (8 * length c.args.library.now.nodes.exprs + 3) (8 * length c.args.library.now.nodes.exprs + (8 * c.args.id.number + 6)) (omega arith) in omega (arith, c.decreases, below)), (spread_value c.args.library.now c.tree.result.now c.stmt.result.now c.tree.ensures c.stmt.ensures.parts c.in-Spread.names c.in-Spread.value c.in-Spread.at c.in-Spread.is, (c.requires.this, ready_as (acts (stmt_in c.args.library.now c.args.body.now c.args.id)) _ c.args.state.now (told_spread c.args.library.now c.args.body.now c.args.id c.tree.result.now c.stmt.result.now c.tree.ensures c.stmt.ensures.tree c.in-Spread.names c.as_slice.result.now c.in-Spread.value c.in-Spread.at c.in-Spread.is c.as_slice.ensures) c.requires.ready)))

pub statement::act-returns-in-Spread-clause-ok : goal.statement::act-returns-in-Spread-clause-ok
statement::act-returns-in-Spread-clause-ok t c = subst (λ e. OnOk c.spread.result (c.spread.new.state ≡ flat e c.args.state.now)) (sym (told_spread c.args.library.now c.args.body.now c.args.id c.tree.result.now c.stmt.result.now c.tree.ensures c.stmt.ensures.tree c.in-Spread.names c.as_slice.result.now c.in-Spread.value c.in-Spread.at c.in-Spread.is c.as_slice.ensures)) c.spread.ensures.ok

pub statement::act-returns-in-Spread-clause-refused : goal.statement::act-returns-in-Spread-clause-refused
statement::act-returns-in-Spread-clause-refused t c = subst (λ e. IfErr c.spread.result (λ f. Refused f (flat e c.args.state.now).built)) (sym (told_spread c.args.library.now c.args.body.now c.args.id c.tree.result.now c.stmt.result.now c.tree.ensures c.stmt.ensures.tree c.in-Spread.names c.as_slice.result.now c.in-Spread.value c.in-Spread.at c.in-Spread.is c.as_slice.ensures)) c.spread.ensures.refused

pub statement::act-update-requires : goal.statement::act-update-requires
statement::act-update-requires t c = ((let below = level_less c.args.body.now.this (length c.args.library.now.nodes.exprs) (length c.args.library.now.nodes.stmts) (8 * length c.args.library.now.nodes.exprs + 3) (8 * length c.args.library.now.nodes.exprs + (8 * c.args.id.number + 6)) (omega arith) in omega (arith, c.decreases, below)), (update_parts c.args.library.now c.tree.result.now c.stmt.result.now c.tree.ensures c.stmt.ensures.parts c.in-Update.target c.in-Update.op c.in-Update.value c.in-Update.at c.in-Update.is, (update_first c.stmt.result.now c.in-Update.target c.in-Update.op c.in-Update.value c.in-Update.at c.in-Update.is c.stmt.ensures.first, (update_value c.args.library.now c.tree.result.now c.stmt.result.now c.tree.ensures c.stmt.ensures.parts c.in-Update.target c.in-Update.op c.in-Update.value c.in-Update.at c.in-Update.is, (c.requires.this, ready_as (acts (stmt_in c.args.library.now c.args.body.now c.args.id)) _ c.args.state.now (told_update c.args.library.now c.args.body.now c.args.id c.tree.result.now c.stmt.result.now c.tree.ensures c.stmt.ensures.tree c.in-Update.target c.in-Update.op c.in-Update.value c.in-Update.at c.in-Update.is) c.requires.ready)))))

pub statement::act-returns-in-Update-clause-ok : goal.statement::act-returns-in-Update-clause-ok
statement::act-returns-in-Update-clause-ok t c = subst (λ e. OnOk c.update.result (c.update.new.state ≡ flat e c.args.state.now)) (sym (told_update c.args.library.now c.args.body.now c.args.id c.tree.result.now c.stmt.result.now c.tree.ensures c.stmt.ensures.tree c.in-Update.target c.in-Update.op c.in-Update.value c.in-Update.at c.in-Update.is)) c.update.ensures.ok

pub statement::act-returns-in-Update-clause-refused : goal.statement::act-returns-in-Update-clause-refused
statement::act-returns-in-Update-clause-refused t c = subst (λ e. IfErr c.update.result (λ f. Refused f (flat e c.args.state.now).built)) (sym (told_update c.args.library.now c.args.body.now c.args.id c.tree.result.now c.stmt.result.now c.tree.ensures c.stmt.ensures.tree c.in-Update.target c.in-Update.op c.in-Update.value c.in-Update.at c.in-Update.is)) c.update.ensures.refused

pub statement::act-forget-requires : goal.statement::act-forget-requires
statement::act-forget-requires t c = ((let below = level_less c.args.body.now.this (length c.args.library.now.nodes.exprs) (length c.args.library.now.nodes.stmts) (8 * length c.args.library.now.nodes.exprs + 3) (8 * length c.args.library.now.nodes.exprs + (8 * c.args.id.number + 6)) (omega arith) in omega (arith, c.decreases, below)), (forget_value c.args.library.now c.tree.result.now c.stmt.result.now c.tree.ensures c.stmt.ensures.parts c.in-Forget.name c.in-Forget.value c.in-Forget.at c.in-Forget.is, (c.requires.this, forget_ready c.args.library.now c.args.body.now c.args.id c.tree.result.now c.stmt.result.now c.tree.ensures c.stmt.ensures.tree c.in-Forget.name c.in-Forget.value c.in-Forget.at c.args.state.now c.in-Forget.is c.requires.ready)))

pub statement::act-returns-in-Forget-clause-ok : goal.statement::act-returns-in-Forget-clause-ok
statement::act-returns-in-Forget-clause-ok t c = subst (λ u. OnOk c.forget.result (c.forget.new.state ≡ u)) (forget_flat c.args.library.now c.args.body.now c.args.id c.tree.result.now c.stmt.result.now c.tree.ensures c.stmt.ensures.tree c.in-Forget.name c.in-Forget.value c.in-Forget.at c.args.state.now c.in-Forget.is) c.forget.ensures.ok

pub statement::act-returns-in-Forget-clause-refused : goal.statement::act-returns-in-Forget-clause-refused
statement::act-returns-in-Forget-clause-refused t c = subst (λ (u : Flattening). IfErr c.forget.result (λ f. Refused f u.built)) (forget_flat c.args.library.now c.args.body.now c.args.id c.tree.result.now c.stmt.result.now c.tree.ensures c.stmt.ensures.tree c.in-Forget.name c.in-Forget.value c.in-Forget.at c.args.state.now c.in-Forget.is) c.forget.ensures.refused

pub statement::act-eighths-requires : goal.statement::act-eighths-requires
statement::act-eighths-requires t c = subst (λ (m : Forest). c.in-Phase.angle.number < length m.exprs) (sym c.tree-in-Phase.ensures) (phase_value c.args.library.now c.tree.result.now c.stmt.result.now c.tree.ensures c.stmt.ensures.parts c.in-Phase.angle c.in-Phase.at c.in-Phase.is)

pub statement::act-turn_all-requires : goal.statement::act-turn_all-requires
statement::act-turn_all-requires t c = ready_as (acts (stmt_in c.args.library.now c.args.body.now c.args.id)) _ c.args.state.now (told_phase c.args.library.now c.args.body.now c.args.id c.tree.result.now c.stmt.result.now c.tree.ensures c.stmt.ensures.tree c.in-Phase.angle c.in-Phase.at c.tree-in-Phase.result.now c.eighths.result c.in-Phase.is c.tree-in-Phase.ensures c.eighths.ensures) c.requires.ready

pub statement::act-returns-in-Phase-clause-ok : goal.statement::act-returns-in-Phase-clause-ok
statement::act-returns-in-Phase-clause-ok t c = subst (λ e. OnOk c.turn_all.result (c.turn_all.new.self ≡ flat e c.args.state.now)) (sym (told_phase c.args.library.now c.args.body.now c.args.id c.tree.result.now c.stmt.result.now c.tree.ensures c.stmt.ensures.tree c.in-Phase.angle c.in-Phase.at c.tree-in-Phase.result.now c.eighths.result c.in-Phase.is c.tree-in-Phase.ensures c.eighths.ensures)) c.turn_all.ensures.ok

pub statement::act-returns-in-Phase-clause-refused : goal.statement::act-returns-in-Phase-clause-refused
statement::act-returns-in-Phase-clause-refused t c = subst (λ e. IfErr c.turn_all.result (λ f. Refused f (flat e c.args.state.now).built)) (sym (told_phase c.args.library.now c.args.body.now c.args.id c.tree.result.now c.stmt.result.now c.tree.ensures c.stmt.ensures.tree c.in-Phase.angle c.in-Phase.at c.tree-in-Phase.result.now c.eighths.result c.in-Phase.is c.tree-in-Phase.ensures c.eighths.ensures)) c.turn_all.ensures.refused

pub statement::act-choose-requires : goal.statement::act-choose-requires
statement::act-choose-requires t c = (let one = (then_below c.args.id.number (length c.args.library.now.nodes.stmts) c.stmt.result.now c.requires.id c.stmt.ensures.smaller c.in-If.cond c.in-If.then c.in-If.other c.in-If.at c.as_slice-in-If.result.now c.in-If.is c.as_slice-in-If.ensures).1 in let two = (else_below c.args.id.number (length c.args.library.now.nodes.stmts) c.stmt.result.now c.requires.id c.stmt.ensures.smaller c.in-If.cond c.in-If.then c.in-If.other c.in-If.at c.in-If.is).1 in (let below = level_less c.args.body.now.this (length c.args.library.now.nodes.exprs) (length c.args.library.now.nodes.stmts) (8 * length c.args.library.now.nodes.exprs + (8 * max (stmts_top c.as_slice-in-If.result.now) (stmts_top (else_stmts c.in-If.other)) + 4)) (8 * length c.args.library.now.nodes.exprs + (8 * c.args.id.number + 6)) (omega (arith, one, two)) in omega (arith, c.decreases, below)), (if_condition c.args.library.now c.tree.result.now c.stmt.result.now c.tree.ensures c.stmt.ensures.parts c.in-If.cond c.in-If.then c.in-If.other c.in-If.at c.in-If.is, ((then_below c.args.id.number (length c.args.library.now.nodes.stmts) c.stmt.result.now c.requires.id c.stmt.ensures.smaller c.in-If.cond c.in-If.then c.in-If.other c.in-If.at c.as_slice-in-If.result.now c.in-If.is c.as_slice-in-If.ensures).0, ((else_below c.args.id.number (length c.args.library.now.nodes.stmts) c.stmt.result.now c.requires.id c.stmt.ensures.smaller c.in-If.cond c.in-If.then c.in-If.other c.in-If.at c.in-If.is).0, (c.requires.this, ready_as (acts (stmt_in c.args.library.now c.args.body.now c.args.id)) _ c.args.state.now (told_if c.args.library.now c.args.body.now c.args.id c.tree.result.now c.stmt.result.now c.tree.ensures c.stmt.ensures.tree c.in-If.cond c.in-If.then c.in-If.other c.in-If.at c.as_slice-in-If.result.now c.in-If.is c.as_slice-in-If.ensures) c.requires.ready)))))

pub statement::act-returns-in-If-clause-ok : goal.statement::act-returns-in-If-clause-ok
statement::act-returns-in-If-clause-ok t c = subst (λ e. OnOk c.choose.result (c.choose.new.state ≡ flat e c.args.state.now)) (sym (told_if c.args.library.now c.args.body.now c.args.id c.tree.result.now c.stmt.result.now c.tree.ensures c.stmt.ensures.tree c.in-If.cond c.in-If.then c.in-If.other c.in-If.at c.as_slice-in-If.result.now c.in-If.is c.as_slice-in-If.ensures)) c.choose.ensures.ok

pub statement::act-returns-in-If-clause-refused : goal.statement::act-returns-in-If-clause-refused
statement::act-returns-in-If-clause-refused t c = subst (λ e. IfErr c.choose.result (λ f. Refused f (flat e c.args.state.now).built)) (sym (told_if c.args.library.now c.args.body.now c.args.id c.tree.result.now c.stmt.result.now c.tree.ensures c.stmt.ensures.tree c.in-If.cond c.in-If.then c.in-If.other c.in-If.at c.as_slice-in-If.result.now c.in-If.is c.as_slice-in-If.ensures)) c.choose.ensures.refused

pub statement::act-unroll-requires : goal.statement::act-unroll-requires
statement::act-unroll-requires t c = (let one = (loop_below c.args.id.number (length c.args.library.now.nodes.stmts) c.stmt.result.now c.requires.id c.stmt.ensures.smaller c.in-For.name c.in-For.low c.in-For.high c.in-For.inner c.in-For.at c.as_slice-in-For.result.now c.in-For.is c.as_slice-in-For.ensures).1 in (let below = level_less c.args.body.now.this (length c.args.library.now.nodes.exprs) (length c.args.library.now.nodes.stmts) (8 * length c.args.library.now.nodes.exprs + (8 * stmts_top c.as_slice-in-For.result.now + 4)) (8 * length c.args.library.now.nodes.exprs + (8 * c.args.id.number + 6)) (omega (arith, one)) in omega (arith, c.decreases, below)), (for_low c.args.library.now c.tree.result.now c.stmt.result.now c.tree.ensures c.stmt.ensures.parts c.in-For.name c.in-For.low c.in-For.high c.in-For.inner c.in-For.at c.in-For.is, (for_high c.args.library.now c.tree.result.now c.stmt.result.now c.tree.ensures c.stmt.ensures.parts c.in-For.name c.in-For.low c.in-For.high c.in-For.inner c.in-For.at c.in-For.is, ((loop_below c.args.id.number (length c.args.library.now.nodes.stmts) c.stmt.result.now c.requires.id c.stmt.ensures.smaller c.in-For.name c.in-For.low c.in-For.high c.in-For.inner c.in-For.at c.as_slice-in-For.result.now c.in-For.is c.as_slice-in-For.ensures).0, (c.requires.this, ready_as (acts (stmt_in c.args.library.now c.args.body.now c.args.id)) _ c.args.state.now (told_for c.args.library.now c.args.body.now c.args.id c.tree.result.now c.stmt.result.now c.tree.ensures c.stmt.ensures.tree c.in-For.name c.in-For.low c.in-For.high c.in-For.inner c.in-For.at c.as_slice-in-For.result.now c.in-For.is c.as_slice-in-For.ensures) c.requires.ready)))))

pub statement::act-returns-in-For-clause-ok : goal.statement::act-returns-in-For-clause-ok
statement::act-returns-in-For-clause-ok t c = subst (λ e. OnOk c.unroll.result (c.unroll.new.state ≡ flat e c.args.state.now)) (sym (told_for c.args.library.now c.args.body.now c.args.id c.tree.result.now c.stmt.result.now c.tree.ensures c.stmt.ensures.tree c.in-For.name c.in-For.low c.in-For.high c.in-For.inner c.in-For.at c.as_slice-in-For.result.now c.in-For.is c.as_slice-in-For.ensures)) c.unroll.ensures.ok

pub statement::act-returns-in-For-clause-refused : goal.statement::act-returns-in-For-clause-refused
statement::act-returns-in-For-clause-refused t c = subst (λ e. IfErr c.unroll.result (λ f. Refused f (flat e c.args.state.now).built)) (sym (told_for c.args.library.now c.args.body.now c.args.id c.tree.result.now c.stmt.result.now c.tree.ensures c.stmt.ensures.tree c.in-For.name c.in-For.low c.in-For.high c.in-For.inner c.in-For.at c.as_slice-in-For.result.now c.in-For.is c.as_slice-in-For.ensures)) c.unroll.ensures.refused

pub statement::act-returned-requires : goal.statement::act-returned-requires
statement::act-returned-requires t c = ((let below = level_less c.args.body.now.this (length c.args.library.now.nodes.exprs) (length c.args.library.now.nodes.stmts) (8 * length c.args.library.now.nodes.exprs + 3) (8 * length c.args.library.now.nodes.exprs + (8 * c.args.id.number + 6)) (omega arith) in omega (arith, c.decreases, below)), (return_value c.args.library.now c.tree.result.now c.stmt.result.now c.tree.ensures c.stmt.ensures.parts c.in-Return.value c.in-Return.at c.in-Return.is, (c.requires.this, ready_as (acts (stmt_in c.args.library.now c.args.body.now c.args.id)) _ c.args.state.now (told_return c.args.library.now c.args.body.now c.args.id c.tree.result.now c.stmt.result.now c.tree.ensures c.stmt.ensures.tree c.in-Return.value c.in-Return.at c.in-Return.is) c.requires.ready)))

pub statement::act-returns-in-Return-clause-ok : goal.statement::act-returns-in-Return-clause-ok
statement::act-returns-in-Return-clause-ok t c = subst (λ e. OnOk c.returned.result (c.returned.new.state ≡ flat e c.args.state.now)) (sym (told_return c.args.library.now c.args.body.now c.args.id c.tree.result.now c.stmt.result.now c.tree.ensures c.stmt.ensures.tree c.in-Return.value c.in-Return.at c.in-Return.is)) c.returned.ensures.ok

pub statement::act-returns-in-Return-clause-refused : goal.statement::act-returns-in-Return-clause-refused
statement::act-returns-in-Return-clause-refused t c = subst (λ e. IfErr c.returned.result (λ f. Refused f (flat e c.args.state.now).built)) (sym (told_return c.args.library.now c.args.body.now c.args.id c.tree.result.now c.stmt.result.now c.tree.ensures c.stmt.ensures.tree c.in-Return.value c.in-Return.at c.in-Return.is)) c.returned.ensures.refused

pub statement::act-expr-requires : goal.statement::act-expr-requires
statement::act-expr-requires t c = (let id = do_value c.args.library.now c.tree.result.now c.stmt.result.now c.tree.ensures c.stmt.ensures.parts c.in-Call.call c.in-Call.at c.in-Call.is in (let below = level_less c.args.body.now.this (length c.args.library.now.nodes.exprs) (length c.args.library.now.nodes.stmts) (8 * c.in-Call.call.number + 7) (8 * length c.args.library.now.nodes.exprs + (8 * c.args.id.number + 6)) (omega (arith, id)) in omega (arith, c.decreases, below)), (do_value c.args.library.now c.tree.result.now c.stmt.result.now c.tree.ensures c.stmt.ensures.parts c.in-Call.call c.in-Call.at c.in-Call.is, (c.requires.this, ready_as (acts (stmt_in c.args.library.now c.args.body.now c.args.id)) _ c.args.state.now (told_do c.args.library.now c.args.body.now c.args.id c.tree.result.now c.stmt.result.now c.tree.ensures c.stmt.ensures.tree c.in-Call.call c.in-Call.at c.in-Call.is) c.requires.ready)))

pub statement::act-returns-in-Call-clause-ok : goal.statement::act-returns-in-Call-clause-ok
statement::act-returns-in-Call-clause-ok t c = subst (λ e. OnOk c.expr.result (c.expr.new.state ≡ flat e c.args.state.now)) (sym (told_do c.args.library.now c.args.body.now c.args.id c.tree.result.now c.stmt.result.now c.tree.ensures c.stmt.ensures.tree c.in-Call.call c.in-Call.at c.in-Call.is)) c.expr.ensures.ok

pub statement::act-returns-in-Call-clause-refused : goal.statement::act-returns-in-Call-clause-refused
statement::act-returns-in-Call-clause-refused t c = subst (λ e. IfErr c.expr.result (λ f. Refused f (flat e c.args.state.now).built)) (sym (told_do c.args.library.now c.args.body.now c.args.id c.tree.result.now c.stmt.result.now c.tree.ensures c.stmt.ensures.tree c.in-Call.call c.in-Call.at c.in-Call.is)) c.expr.ensures.refused

pub block::statements-loop-id-init : goal.block::statements-loop-id-init
block::statements-loop-id-init t c = onward_start (stmts_in c.args.library.now c.args.body.now c.args.ids.now) c.args.state.now c.requires.ready

pub block::statements-statement-requires : goal.block::statements-statement-requires
block::statements-statement-requires t c = (let top = stmt_below_top c.args.ids.now c.loop-id.id-index (record { number = 0 }) c.loop-id-test.true in (let below = level_less c.args.body.now.this (length c.args.library.now.nodes.exprs) (length c.args.library.now.nodes.stmts) (8 * length c.args.library.now.nodes.exprs + (8 * (get_or c.args.ids.now c.loop-id.id-index (record { number = 0 })).number + 7)) (8 * length c.args.library.now.nodes.exprs + 8 * stmts_top c.args.ids.now) (omega (arith, top)) in omega (arith, c.decreases, below)), (stmt_below _ c.args.ids.now c.loop-id.id-index _ c.requires.ids c.loop-id-test.true, (c.requires.this, one_ready c.args.library.now c.args.body.now c.args.ids.now c.loop-id.id-index (record { number = 0 }) (flat (stmts_in c.args.library.now c.args.body.now c.args.ids.now) c.args.state.now) c.loop-id.state c.loop-id-test.true c.loop-id.invariant)))

pub block::statements-returns-in_err-statement-clause-refused : goal.block::statements-returns-in_err-statement-clause-refused
block::statements-returns-in_err-statement-clause-refused t c = if_err_from _ _ _ c.from_residual.ensures.1 (one_refused c.args.library.now c.args.body.now c.args.ids.now c.loop-id.id-index (record { number = 0 }) (flat (stmts_in c.args.library.now c.args.body.now c.args.ids.now) c.args.state.now) c.loop-id.state c.loop-id-test.true c.loop-id.invariant _ c.in_err-statement.ensures.refused)

pub block::statements-loop-id-preserved : goal.block::statements-loop-id-preserved
block::statements-loop-id-preserved t c = one_more c.args.library.now c.args.body.now c.args.ids.now c.loop-id.id-index (record { number = 0 }) (flat (stmts_in c.args.library.now c.args.body.now c.args.ids.now) c.args.state.now) c.loop-id.state c.loop-id-test.true c.loop-id.invariant _ c.in_ok-statement.ensures.ok

pub block::statements-returns-clause-ok : goal.block::statements-returns-clause-ok
block::statements-returns-clause-ok t c = all_done c.args.library.now c.args.body.now c.args.ids.now c.loop-id.id-index _ _ c.loop-id-test.false c.loop-id.invariant

pub block::block-returns-in_err-enter_block-clause-refused : goal.block::block-returns-in_err-enter_block-clause-refused
block::block-returns-in_err-enter_block-clause-refused t c = if_err_from _ _ _ c.from_residual.ensures.1 (refused_first _ (step enter_block >> (stmts_in c.args.library.now c.args.body.now c.args.ids.now)) (step leave_block) c.args.state.now (refused_first _ (step enter_block) (stmts_in c.args.library.now c.args.body.now c.args.ids.now) c.args.state.now c.in_err-enter_block.ensures.refused))

pub block::block-statements-requires : goal.block::block-statements-requires
block::block-statements-requires t c = ((let below = level_less c.args.body.now.this (length c.args.library.now.nodes.exprs) (length c.args.library.now.nodes.stmts) (8 * length c.args.library.now.nodes.exprs + 8 * stmts_top c.args.ids.now) (8 * length c.args.library.now.nodes.exprs + (8 * stmts_top c.args.ids.now + 1)) (omega arith) in omega (arith, c.decreases, below)), (c.requires.ids, (c.requires.this, ready_after (step enter_block) (stmts_in c.args.library.now c.args.body.now c.args.ids.now) c.args.state.now _ c.in_ok-enter_block.ensures.ok (ready_first (step enter_block >> (stmts_in c.args.library.now c.args.body.now c.args.ids.now)) (step leave_block) c.args.state.now c.requires.ready))))

pub block::block-returns-in_err-statements-clause-refused : goal.block::block-returns-in_err-statements-clause-refused
block::block-returns-in_err-statements-clause-refused t c = if_err_from _ _ _ c.from_residual-in_err-statements.ensures.1 (refused_first _ (step enter_block >> (stmts_in c.args.library.now c.args.body.now c.args.ids.now)) (step leave_block) c.args.state.now (refused_after _ (step enter_block) (stmts_in c.args.library.now c.args.body.now c.args.ids.now) c.args.state.now _ c.in_ok-enter_block.ensures.ok c.in_err-statements.ensures.refused))

pub block::block-returns-clause-ok : goal.block::block-returns-clause-ok
block::block-returns-clause-ok t c = c.leave_block.ensures ∙ ap (λ u. flat (step leave_block) u) (c.in_ok-statements.ensures.ok ∙ ap (λ u. flat (stmts_in c.args.library.now c.args.body.now c.args.ids.now) u) c.in_ok-enter_block.ensures.ok)

pub block::otherwise-block-requires : goal.block::otherwise-block-requires
block::otherwise-block-requires t c = (let top = ap stmts_top (else_same c.args.other.now c.in-Block.inner c.as_slice.result.now c.in-Block.is c.as_slice.ensures) in (let below = level_less c.args.body.now.this (length c.args.library.now.nodes.exprs) (length c.args.library.now.nodes.stmts) (8 * length c.args.library.now.nodes.exprs + (8 * stmts_top c.as_slice.result.now + 1)) (8 * length c.args.library.now.nodes.exprs + (8 * stmts_top (else_stmts c.args.other.now) + 2)) (omega (arith, top)) in omega (arith, c.decreases, below)), (else_ids _ c.args.other.now c.in-Block.inner c.as_slice.result.now c.in-Block.is c.as_slice.ensures c.requires.ids, (c.requires.this, ready_as (else_in c.args.library.now c.args.body.now c.args.other.now) _ c.args.state.now (told_else_block c.args.library.now c.args.body.now c.args.other.now c.in-Block.inner c.as_slice.result.now c.in-Block.is c.as_slice.ensures) c.requires.ready)))

pub block::otherwise-returns-in-Block-clause-ok : goal.block::otherwise-returns-in-Block-clause-ok
block::otherwise-returns-in-Block-clause-ok t c = subst (λ e. OnOk c.block.result (c.block.new.state ≡ flat e c.args.state.now)) (sym (told_else_block c.args.library.now c.args.body.now c.args.other.now c.in-Block.inner c.as_slice.result.now c.in-Block.is c.as_slice.ensures)) c.block.ensures.ok

pub block::otherwise-returns-in-Block-clause-refused : goal.block::otherwise-returns-in-Block-clause-refused
block::otherwise-returns-in-Block-clause-refused t c = subst (λ e. IfErr c.block.result (λ f. Refused f (flat e c.args.state.now).built)) (sym (told_else_block c.args.library.now c.args.body.now c.args.other.now c.in-Block.inner c.as_slice.result.now c.in-Block.is c.as_slice.ensures)) c.block.ensures.refused

pub block::otherwise-returns-in_err-enter_block-in-Choice-clause-refused : goal.block::otherwise-returns-in_err-enter_block-in-Choice-clause-refused
block::otherwise-returns-in_err-enter_block-in-Choice-clause-refused t c = if_err_from _ _ _ c.from_residual.ensures.1 (refused_as _ (in_block (stmt_in c.args.library.now c.args.body.now c.in-Choice.id)) (else_in c.args.library.now c.args.body.now c.args.other.now) c.args.state.now (sym (told_else_choice c.args.library.now c.args.body.now c.args.other.now c.in-Choice.id c.in-Choice.is)) (refused_first _ (step enter_block >> (stmt_in c.args.library.now c.args.body.now c.in-Choice.id)) (step leave_block) c.args.state.now (refused_first _ (step enter_block) (stmt_in c.args.library.now c.args.body.now c.in-Choice.id) c.args.state.now c.in_err-enter_block-in-Choice.ensures.refused)))

pub block::otherwise-statement-requires : goal.block::otherwise-statement-requires
block::otherwise-statement-requires t c = (let top = ap stmts_top (else_one c.args.other.now c.in-Choice.id c.in-Choice.is) in (let below = level_less c.args.body.now.this (length c.args.library.now.nodes.exprs) (length c.args.library.now.nodes.stmts) (8 * length c.args.library.now.nodes.exprs + (8 * c.in-Choice.id.number + 7)) (8 * length c.args.library.now.nodes.exprs + (8 * stmts_top (else_stmts c.args.other.now) + 2)) (omega (arith, top)) in omega (arith, c.decreases, below)), ((subst (λ o. AreStmtsBelow (length c.args.library.now.nodes.stmts) (else_stmts o)) c.in-Choice.is c.requires.ids).0, (c.requires.this, ready_after (step enter_block) (stmt_in c.args.library.now c.args.body.now c.in-Choice.id) c.args.state.now _ c.in_ok-enter_block-in-Choice.ensures.ok (ready_first (step enter_block >> (stmt_in c.args.library.now c.args.body.now c.in-Choice.id)) (step leave_block) c.args.state.now (ready_as (else_in c.args.library.now c.args.body.now c.args.other.now) (in_block (stmt_in c.args.library.now c.args.body.now c.in-Choice.id)) c.args.state.now (told_else_choice c.args.library.now c.args.body.now c.args.other.now c.in-Choice.id c.in-Choice.is) c.requires.ready)))))

pub block::otherwise-returns-in_err-statement-in-Choice-clause-refused : goal.block::otherwise-returns-in_err-statement-in-Choice-clause-refused
block::otherwise-returns-in_err-statement-in-Choice-clause-refused t c = if_err_from _ _ _ c.from_residual-in_err-statement-in-Choice.ensures.1 (refused_as _ (in_block (stmt_in c.args.library.now c.args.body.now c.in-Choice.id)) (else_in c.args.library.now c.args.body.now c.args.other.now) c.args.state.now (sym (told_else_choice c.args.library.now c.args.body.now c.args.other.now c.in-Choice.id c.in-Choice.is)) (refused_first _ (step enter_block >> (stmt_in c.args.library.now c.args.body.now c.in-Choice.id)) (step leave_block) c.args.state.now (refused_after _ (step enter_block) (stmt_in c.args.library.now c.args.body.now c.in-Choice.id) c.args.state.now _ c.in_ok-enter_block-in-Choice.ensures.ok c.in_err-statement-in-Choice.ensures.refused)))

pub block::otherwise-returns-in_ok-statement-in-Choice-clause-ok : goal.block::otherwise-returns-in_ok-statement-in-Choice-clause-ok
block::otherwise-returns-in_ok-statement-in-Choice-clause-ok t c = c.leave_block.ensures ∙ (ap (λ u. flat (step leave_block) u) (c.in_ok-statement-in-Choice.ensures.ok ∙ ap (λ u. flat (stmt_in c.args.library.now c.args.body.now c.in-Choice.id) u) c.in_ok-enter_block-in-Choice.ensures.ok) ∙ sym (ap (λ e. flat e c.args.state.now) (told_else_choice c.args.library.now c.args.body.now c.args.other.now c.in-Choice.id c.in-Choice.is)))

pub block::choose-taken-requires : goal.block::choose-taken-requires
block::choose-taken-requires t c = ((let below = level_less c.args.body.now.this (length c.args.library.now.nodes.exprs) (length c.args.library.now.nodes.stmts) (8 * length c.args.library.now.nodes.exprs + (8 * max (stmts_top c.args.then.now) (stmts_top (else_stmts c.args.other.now)) + 3)) (8 * length c.args.library.now.nodes.exprs + (8 * max (stmts_top c.args.then.now) (stmts_top (else_stmts c.args.other.now)) + 4)) (omega arith) in omega (arith, c.decreases, below)), (c.requires.then, (c.requires.other, (c.requires.this, ready_as (choose_in c.args.library.now c.args.body.now c.args.cond c.args.then.now c.args.other.now) _ c.args.state.now (told_static_choice c.args.library.now c.args.body.now c.args.cond c.args.then.now c.args.other.now c.tree.result.now c.is_static.result c.tree.ensures c.is_static.ensures c.holds-first.result c.if-is_static.true c.holds-first.ensures) c.requires.ready))))

pub block::choose-returns-then-is_static-clause-ok : goal.block::choose-returns-then-is_static-clause-ok
block::choose-returns-then-is_static-clause-ok t c = subst (λ e. OnOk c.taken.result (c.taken.new.state ≡ flat e c.args.state.now)) (sym (told_static_choice c.args.library.now c.args.body.now c.args.cond c.args.then.now c.args.other.now c.tree.result.now c.is_static.result c.tree.ensures c.is_static.ensures c.holds-first.result c.if-is_static.true c.holds-first.ensures)) c.taken.ensures.ok

pub block::choose-returns-then-is_static-clause-refused : goal.block::choose-returns-then-is_static-clause-refused
block::choose-returns-then-is_static-clause-refused t c = subst (λ e. IfErr c.taken.result (λ f. Refused f (flat e c.args.state.now).built)) (sym (told_static_choice c.args.library.now c.args.body.now c.args.cond c.args.then.now c.args.other.now c.tree.result.now c.is_static.result c.tree.ensures c.is_static.ensures c.holds-first.result c.if-is_static.true c.holds-first.ensures)) c.taken.ensures.refused

pub block::choose-expr-requires : goal.block::choose-expr-requires
block::choose-expr-requires t c = ((let below = level_less c.args.body.now.this (length c.args.library.now.nodes.exprs) (length c.args.library.now.nodes.stmts) (8 * c.args.cond.number + 7) (8 * length c.args.library.now.nodes.exprs + (8 * max (stmts_top c.args.then.now) (stmts_top (else_stmts c.args.other.now)) + 4)) (omega (arith, c.requires.cond)) in omega (arith, c.decreases, below)), (c.requires.cond, (c.requires.this, ready_first (expr_in c.args.library.now c.args.body.now c.args.cond Held) (choice (block_in c.args.library.now c.args.body.now c.args.then.now) (else_in c.args.library.now c.args.body.now c.args.other.now)) c.args.state.now (ready_as (choose_in c.args.library.now c.args.body.now c.args.cond c.args.then.now c.args.other.now) ((expr_in c.args.library.now c.args.body.now c.args.cond Held) >> (choice (block_in c.args.library.now c.args.body.now c.args.then.now) (else_in c.args.library.now c.args.body.now c.args.other.now))) c.args.state.now (told_run_choice c.args.library.now c.args.body.now c.args.cond c.args.then.now c.args.other.now c.tree.result.now c.is_static.result c.tree.ensures c.is_static.ensures c.if-is_static.false) c.requires.ready))))

pub block::choose-returns-in_err-expr-clause-refused : goal.block::choose-returns-in_err-expr-clause-refused
block::choose-returns-in_err-expr-clause-refused t c = if_err_from _ _ _ c.from_residual.ensures.1 (refused_as _ ((expr_in c.args.library.now c.args.body.now c.args.cond Held) >> (choice (block_in c.args.library.now c.args.body.now c.args.then.now) (else_in c.args.library.now c.args.body.now c.args.other.now))) (choose_in c.args.library.now c.args.body.now c.args.cond c.args.then.now c.args.other.now) c.args.state.now (sym (told_run_choice c.args.library.now c.args.body.now c.args.cond c.args.then.now c.args.other.now c.tree.result.now c.is_static.result c.tree.ensures c.is_static.ensures c.if-is_static.false)) (refused_first _ (expr_in c.args.library.now c.args.body.now c.args.cond Held) (choice (block_in c.args.library.now c.args.body.now c.args.then.now) (else_in c.args.library.now c.args.body.now c.args.other.now)) c.args.state.now c.in_err-expr.ensures.refused))

pub block::choose-both-requires : goal.block::choose-both-requires
block::choose-both-requires t c = ((let below = level_less c.args.body.now.this (length c.args.library.now.nodes.exprs) (length c.args.library.now.nodes.stmts) (8 * length c.args.library.now.nodes.exprs + (8 * max (stmts_top c.args.then.now) (stmts_top (else_stmts c.args.other.now)) + 3)) (8 * length c.args.library.now.nodes.exprs + (8 * max (stmts_top c.args.then.now) (stmts_top (else_stmts c.args.other.now)) + 4)) (omega arith) in omega (arith, c.decreases, below)), (c.requires.then, (c.requires.other, (c.requires.this, ready_after (expr_in c.args.library.now c.args.body.now c.args.cond Held) (choice (block_in c.args.library.now c.args.body.now c.args.then.now) (else_in c.args.library.now c.args.body.now c.args.other.now)) c.args.state.now _ c.in_ok-expr.ensures.ok (ready_as (choose_in c.args.library.now c.args.body.now c.args.cond c.args.then.now c.args.other.now) ((expr_in c.args.library.now c.args.body.now c.args.cond Held) >> (choice (block_in c.args.library.now c.args.body.now c.args.then.now) (else_in c.args.library.now c.args.body.now c.args.other.now))) c.args.state.now (told_run_choice c.args.library.now c.args.body.now c.args.cond c.args.then.now c.args.other.now c.tree.result.now c.is_static.result c.tree.ensures c.is_static.ensures c.if-is_static.false) c.requires.ready)))))

pub block::choose-returns-in_ok-expr-clause-ok : goal.block::choose-returns-in_ok-expr-clause-ok
block::choose-returns-in_ok-expr-clause-ok t c = subst (λ u. OnOk c.both.result (c.both.new.state ≡ u)) (ap (λ u. flat (choice (block_in c.args.library.now c.args.body.now c.args.then.now) (else_in c.args.library.now c.args.body.now c.args.other.now)) u) c.in_ok-expr.ensures.ok ∙ sym (ap (λ e. flat e c.args.state.now) (told_run_choice c.args.library.now c.args.body.now c.args.cond c.args.then.now c.args.other.now c.tree.result.now c.is_static.result c.tree.ensures c.is_static.ensures c.if-is_static.false))) c.both.ensures.ok

pub block::choose-returns-in_ok-expr-clause-refused : goal.block::choose-returns-in_ok-expr-clause-refused
block::choose-returns-in_ok-expr-clause-refused t c = subst (λ (u : Flattening). IfErr c.both.result (λ f. Refused f u.built)) (ap (λ u. flat (choice (block_in c.args.library.now c.args.body.now c.args.then.now) (else_in c.args.library.now c.args.body.now c.args.other.now)) u) c.in_ok-expr.ensures.ok ∙ sym (ap (λ e. flat e c.args.state.now) (told_run_choice c.args.library.now c.args.body.now c.args.cond c.args.then.now c.args.other.now c.tree.result.now c.is_static.result c.tree.ensures c.is_static.ensures c.if-is_static.false))) c.both.ensures.refused

pub block::taken-block-requires : goal.block::taken-block-requires
block::taken-block-requires t c = ((let below = level_less c.args.body.now.this (length c.args.library.now.nodes.exprs) (length c.args.library.now.nodes.stmts) (8 * length c.args.library.now.nodes.exprs + (8 * stmts_top c.args.then.now + 1)) (8 * length c.args.library.now.nodes.exprs + (8 * max (stmts_top c.args.then.now) (stmts_top (else_stmts c.args.other.now)) + 3)) (omega arith) in omega (arith, c.decreases, below)), (c.requires.then, (c.requires.this, ready_as (taken_in c.args.library.now c.args.body.now c.args.first c.args.then.now c.args.other.now) _ c.args.state.now (taken_first c.args.library.now c.args.body.now c.args.first c.args.then.now c.args.other.now c.if-first.true) c.requires.ready)))

pub block::taken-returns-then-first-clause-ok : goal.block::taken-returns-then-first-clause-ok
block::taken-returns-then-first-clause-ok t c = subst (λ e. OnOk c.block.result (c.block.new.state ≡ flat e c.args.state.now)) (sym (taken_first c.args.library.now c.args.body.now c.args.first c.args.then.now c.args.other.now c.if-first.true)) c.block.ensures.ok

pub block::taken-returns-then-first-clause-refused : goal.block::taken-returns-then-first-clause-refused
block::taken-returns-then-first-clause-refused t c = subst (λ e. IfErr c.block.result (λ f. Refused f (flat e c.args.state.now).built)) (sym (taken_first c.args.library.now c.args.body.now c.args.first c.args.then.now c.args.other.now c.if-first.true)) c.block.ensures.refused

pub block::taken-otherwise-requires : goal.block::taken-otherwise-requires
block::taken-otherwise-requires t c = ((let below = level_less c.args.body.now.this (length c.args.library.now.nodes.exprs) (length c.args.library.now.nodes.stmts) (8 * length c.args.library.now.nodes.exprs + (8 * stmts_top (else_stmts c.args.other.now) + 2)) (8 * length c.args.library.now.nodes.exprs + (8 * max (stmts_top c.args.then.now) (stmts_top (else_stmts c.args.other.now)) + 3)) (omega arith) in omega (arith, c.decreases, below)), (c.requires.other, (c.requires.this, ready_as (taken_in c.args.library.now c.args.body.now c.args.first c.args.then.now c.args.other.now) _ c.args.state.now (taken_other c.args.library.now c.args.body.now c.args.first c.args.then.now c.args.other.now c.if-first.false) c.requires.ready)))

pub block::taken-returns-else-first-clause-ok : goal.block::taken-returns-else-first-clause-ok
block::taken-returns-else-first-clause-ok t c = subst (λ e. OnOk c.otherwise.result (c.otherwise.new.state ≡ flat e c.args.state.now)) (sym (taken_other c.args.library.now c.args.body.now c.args.first c.args.then.now c.args.other.now c.if-first.false)) c.otherwise.ensures.ok

pub block::taken-returns-else-first-clause-refused : goal.block::taken-returns-else-first-clause-refused
block::taken-returns-else-first-clause-refused t c = subst (λ e. IfErr c.otherwise.result (λ f. Refused f (flat e c.args.state.now).built)) (sym (taken_other c.args.library.now c.args.body.now c.args.first c.args.then.now c.args.other.now c.if-first.false)) c.otherwise.ensures.refused

pub block::both-first_branch-requires-clause-good : goal.block::both-first_branch-requires-clause-good
block::both-first_branch-requires-clause-good t c = c.requires.ready.good

pub block::both-first_branch-requires-clause-bit : goal.block::both-first_branch-requires-clause-bit
block::both-first_branch-requires-clause-bit t c = c.requires.ready.fine.0

pub block::both-returns-in_err-chosen-clause-refused : goal.block::both-returns-in_err-chosen-clause-refused
block::both-returns-in_err-chosen-clause-refused t c = if_err_from _ _ _ c.from_residual.ensures.1 (refused_start _ (block_in c.args.library.now c.args.body.now c.args.then.now) (else_in c.args.library.now c.args.body.now c.args.other.now) c.args.state.now c.in_err-chosen.ensures.refused)

pub block::both-block-requires : goal.block::both-block-requires
block::both-block-requires t c = ((let below = level_less c.args.body.now.this (length c.args.library.now.nodes.exprs) (length c.args.library.now.nodes.stmts) (8 * length c.args.library.now.nodes.exprs + (8 * stmts_top c.args.then.now + 1)) (8 * length c.args.library.now.nodes.exprs + (8 * max (stmts_top c.args.then.now) (stmts_top (else_stmts c.args.other.now)) + 3)) (omega arith) in omega (arith, c.decreases, below)), (c.requires.then, (c.requires.this, first_ready (block_in c.args.library.now c.args.body.now c.args.then.now) (else_in c.args.library.now c.args.body.now c.args.other.now) c.args.state.now c.requires.ready _ c.in_ok-chosen.ensures.ok)))

pub block::both-returns-in_err-block-clause-refused : goal.block::both-returns-in_err-block-clause-refused
block::both-returns-in_err-block-clause-refused t c = if_err_from _ _ _ c.from_residual-in_err-block.ensures.1 (first_refused (block_in c.args.library.now c.args.body.now c.args.then.now) (else_in c.args.library.now c.args.body.now c.args.other.now) c.args.state.now c.requires.ready _ _ c.in_ok-chosen.ensures.ok c.in_err-block.ensures.refused)

pub block::both-second_branch-requires : goal.block::both-second_branch-requires
block::both-second_branch-requires t c = record { good = second_good (block_in c.args.library.now c.args.body.now c.args.then.now) (else_in c.args.library.now c.args.body.now c.args.other.now) c.args.state.now c.requires.ready c.in_ok-chosen.chosen c.in_ok-chosen.ensures.choice _ (c.in_ok-block.ensures.ok ∙ ap (λ u. flat (block_in c.args.library.now c.args.body.now c.args.then.now) u) c.in_ok-chosen.ensures.ok); safe = second_safe (block_in c.args.library.now c.args.body.now c.args.then.now) (else_in c.args.library.now c.args.body.now c.args.other.now) c.args.state.now c.requires.ready c.in_ok-chosen.chosen c.in_ok-chosen.ensures.choice _ (c.in_ok-block.ensures.ok ∙ ap (λ u. flat (block_in c.args.library.now c.args.body.now c.args.then.now) u) c.in_ok-chosen.ensures.ok) }

pub block::both-returns-in_err-second_branch-clause-refused : goal.block::both-returns-in_err-second_branch-clause-refused
block::both-returns-in_err-second_branch-clause-refused t c = if_err_from _ _ _ c.from_residual-in_err-second_branch.ensures.1 (second_refused (block_in c.args.library.now c.args.body.now c.args.then.now) (else_in c.args.library.now c.args.body.now c.args.other.now) c.args.state.now c.requires.ready c.in_ok-chosen.chosen c.in_ok-chosen.ensures.choice _ (c.in_ok-block.ensures.ok ∙ ap (λ u. flat (block_in c.args.library.now c.args.body.now c.args.then.now) u) c.in_ok-chosen.ensures.ok) _ c.in_err-second_branch.ensures.refused)

pub block::both-otherwise-requires : goal.block::both-otherwise-requires
block::both-otherwise-requires t c = ((let below = level_less c.args.body.now.this (length c.args.library.now.nodes.exprs) (length c.args.library.now.nodes.stmts) (8 * length c.args.library.now.nodes.exprs + (8 * stmts_top (else_stmts c.args.other.now) + 2)) (8 * length c.args.library.now.nodes.exprs + (8 * max (stmts_top c.args.then.now) (stmts_top (else_stmts c.args.other.now)) + 3)) (omega arith) in omega (arith, c.decreases, below)), (c.requires.other, (c.requires.this, other_ready (block_in c.args.library.now c.args.body.now c.args.then.now) (else_in c.args.library.now c.args.body.now c.args.other.now) c.args.state.now c.requires.ready c.in_ok-chosen.chosen c.in_ok-chosen.ensures.choice _ (c.in_ok-block.ensures.ok ∙ ap (λ u. flat (block_in c.args.library.now c.args.body.now c.args.then.now) u) c.in_ok-chosen.ensures.ok) _ c.in_ok-second_branch.ensures.ok)))

pub block::both-returns-in_err-otherwise-clause-refused : goal.block::both-returns-in_err-otherwise-clause-refused
block::both-returns-in_err-otherwise-clause-refused t c = if_err_from _ _ _ c.from_residual-in_err-otherwise.ensures.1 (other_refused (block_in c.args.library.now c.args.body.now c.args.then.now) (else_in c.args.library.now c.args.body.now c.args.other.now) c.args.state.now c.requires.ready c.in_ok-chosen.chosen c.in_ok-chosen.ensures.choice _ (c.in_ok-block.ensures.ok ∙ ap (λ u. flat (block_in c.args.library.now c.args.body.now c.args.then.now) u) c.in_ok-chosen.ensures.ok) _ c.in_ok-second_branch.ensures.ok _ c.in_err-otherwise.ensures.refused)

pub block::both-returns-clause-ok : goal.block::both-returns-clause-ok
block::both-returns-clause-ok t c = choice_done (block_in c.args.library.now c.args.body.now c.args.then.now) (else_in c.args.library.now c.args.body.now c.args.other.now) c.args.state.now c.requires.ready c.in_ok-chosen.chosen c.in_ok-chosen.ensures.choice _ (c.in_ok-block.ensures.ok ∙ ap (λ u. flat (block_in c.args.library.now c.args.body.now c.args.then.now) u) c.in_ok-chosen.ensures.ok) _ c.in_ok-second_branch.ensures.ok _ _ c.in_ok-otherwise.ensures.ok c.end_choice.ensures

pub call::call-own_call-requires : goal.call::call-own_call-requires
call::call-own_call-requires t c = ((let below = level_less c.args.body.now.this (length c.args.library.now.nodes.exprs) (length c.args.library.now.nodes.stmts) (8 * exprs_top c.args.args.now + 2) (8 * exprs_top c.args.args.now + 3) (omega arith) in omega (arith, c.decreases, below)), (c.requires.statics, (c.requires.args, (c.requires.this, (call_earlier c.args.library.now c.args.body.now c.args.name c.args.statics.now c.args.args.now c.in-Some-find.fun c.requires.this c.in-Some-find.ensures.found, ready_as (call_in c.args.library.now c.args.body.now c.args.name c.args.statics.now c.args.args.now) (own_call_in c.args.library.now c.args.body.now c.in-Some-find.fun c.args.statics.now c.args.args.now) c.args.state.now (call_own c.args.library.now c.args.body.now c.args.name c.args.statics.now c.args.args.now c.in-Some-find.fun c.requires.this (sym c.built_in.ensures ∙ c.in-None.is) c.in-Some-find.ensures.found) c.requires.ready)))))

pub block::unroll-returns-then-is_empty-clause-ok : goal.block::unroll-returns-then-is_empty-clause-ok
block::unroll-returns-then-is_empty-clause-ok t c = loop_still c.args.library.now c.args.body.now c.args.name c.args.low c.args.high c.args.ids.now c.args.state.now (eqb-true (length c.args.ids.now) 0 (sym c.if-is_empty.ensures))

pub block::unroll-loop-value-init : goal.block::unroll-loop-value-init
block::unroll-loop-value-init t c = let f : SFits w64 c.static_value-past.result = search rules in let g : SFits w64 c.static_value-value.result = search rules in loop_start c.args.library.now c.args.body.now c.args.name c.args.low c.args.high c.args.ids.now c.args.state.now c.tree.result.now c.tree-2.result.now (to_z w64 (of_z w64 c.static_value-past.result)) (to_z w64 (of_z w64 c.static_value-value.result)) c.tree.ensures (to_z-of_z w64 c.static_value-past.result f ∙ c.static_value-past.ensures) c.tree-2.ensures (to_z-of_z w64 c.static_value-value.result g ∙ c.static_value-value.ensures) c.requires.ready

pub block::unroll-round-requires : goal.block::unroll-round-requires
block::unroll-round-requires t c = ((let below = level_less c.args.body.now.this (length c.args.library.now.nodes.exprs) (length c.args.library.now.nodes.stmts) (8 * length c.args.library.now.nodes.exprs + (8 * stmts_top c.args.ids.now + 2)) (8 * length c.args.library.now.nodes.exprs + (8 * stmts_top c.args.ids.now + 4)) (omega arith) in omega (arith, c.decreases, below)), (c.requires.ids, (c.requires.this, round_ready c.args.library.now c.args.body.now c.args.name c.args.ids.now _ _ _ _ c.loop-value.invariant (lt_told (to_z w64 c.loop-value.value-bits) _ c.loop-value-test.true))))

pub block::unroll-returns-in_err-round-clause-refused : goal.block::unroll-returns-in_err-round-clause-refused
block::unroll-returns-in_err-round-clause-refused t c = if_err_from _ _ _ c.from_residual.ensures.1 (round_refused c.args.library.now c.args.body.now c.args.name c.args.ids.now _ _ _ _ c.loop-value.invariant (lt_told (to_z w64 c.loop-value.value-bits) _ c.loop-value-test.true) _ c.in_err-round.ensures.refused)

pub block::unroll-loop-value-smaller : goal.block::unroll-loop-value-smaller
block::unroll-loop-value-smaller t c = distance_less (to_z w64 (of_z w64 c.static_value-past.result)) (to_z w64 c.loop-value.value-bits) (to_z w64 (of_z w64 ((to_z w64 c.loop-value.value-bits) +ℤ pos 1))) (lt_told (to_z w64 c.loop-value.value-bits) _ c.loop-value-test.true) (next_number (to_z w64 c.loop-value.value-bits) _ (search rules) (sfits_to_z c.loop-value.auto.value) (lt_told (to_z w64 c.loop-value.value-bits) _ c.loop-value-test.true))

pub block::unroll-loop-value-preserved : goal.block::unroll-loop-value-preserved
block::unroll-loop-value-preserved t c = round_more c.args.library.now c.args.body.now c.args.name c.args.ids.now _ _ _ _ c.loop-value.invariant (lt_told (to_z w64 c.loop-value.value-bits) _ c.loop-value-test.true) _ _ (next_number (to_z w64 c.loop-value.value-bits) _ (search rules) (sfits_to_z c.loop-value.auto.value) (lt_told (to_z w64 c.loop-value.value-bits) _ c.loop-value-test.true)) c.in_ok-round.ensures.ok

pub block::unroll-returns-clause-ok : goal.block::unroll-returns-clause-ok
block::unroll-returns-clause-ok t c = rounds_over c.args.library.now c.args.body.now c.args.name c.args.ids.now _ _ _ _ c.loop-value.invariant (ge_told (to_z w64 c.loop-value.value-bits) _ c.loop-value-test.false)

pub block::round-block-requires : goal.block::round-block-requires
block::round-block-requires t c = (let below = subst (λ (i : Body). level i.this (length c.args.library.now.nodes.exprs) (length c.args.library.now.nodes.stmts) (8 * length c.args.library.now.nodes.exprs + (8 * stmts_top c.args.ids.now + 1)) < level c.args.body.now.this (length c.args.library.now.nodes.exprs) (length c.args.library.now.nodes.stmts) (8 * length c.args.library.now.nodes.exprs + (8 * stmts_top c.args.ids.now + 2))) (sym (rw (to_z-of_z w64 c.args.value c.ranges.value) at c.in_ok-inner.ensures)) (level_less c.args.body.now.this (length c.args.library.now.nodes.exprs) (length c.args.library.now.nodes.stmts) (8 * length c.args.library.now.nodes.exprs + (8 * stmts_top c.args.ids.now + 1)) (8 * length c.args.library.now.nodes.exprs + (8 * stmts_top c.args.ids.now + 2)) (omega arith)) in omega (arith, c.decreases, below), (c.requires.ids, (subst (λ (i : Body). i.this < length c.args.library.now.funs) (sym (rw (to_z-of_z w64 c.args.value c.ranges.value) at c.in_ok-inner.ensures)) c.requires.this, subst (λ (i : Body). Ready (block_in c.args.library.now i c.args.ids.now) c.args.state.now) (sym (rw (to_z-of_z w64 c.args.value c.ranges.value) at c.in_ok-inner.ensures)) c.requires.ready)))

pub block::round-returns-clause-ok : goal.block::round-returns-clause-ok
block::round-returns-clause-ok t c = subst (λ (i : Body). OnOk c.block.result (c.block.new.state ≡ flat (block_in c.args.library.now i c.args.ids.now) c.args.state.now)) (rw (to_z-of_z w64 c.args.value c.ranges.value) at c.in_ok-inner.ensures) c.block.ensures.ok

pub block::round-returns-clause-refused : goal.block::round-returns-clause-refused
block::round-returns-clause-refused t c = subst (λ (i : Body). IfErr c.block.result (λ f. Refused f (flat (block_in c.args.library.now i c.args.ids.now) c.args.state.now).built)) (rw (to_z-of_z w64 c.args.value c.ranges.value) at c.in_ok-inner.ensures) c.block.ensures.refused

pub call::arguments-values-requires : goal.call::arguments-values-requires
call::arguments-values-requires t c = ((let below = level_less c.args.body.now.this (length c.args.library.now.nodes.exprs) (length c.args.library.now.nodes.stmts) (8 * exprs_top c.args.args.now) (8 * exprs_top c.args.args.now + 1) (omega arith) in omega (arith, c.decreases, below)), (c.requires.args, (c.requires.this, ready_as (arguments_in c.args.library.now c.args.body.now c.args.inner.now c.args.args.now) _ c.args.state.now (told_arguments c.args.library.now c.args.body.now c.args.inner.now c.args.args.now c.as_slice.result.now c.as_slice-2.result.now (c.as_slice.ensures ∙ c.in_ok-needs.ensures) (c.as_slice-2.ensures ∙ c.in_ok-takers.ensures)) c.requires.ready)))

pub call::arguments-returns-clause-ok : goal.call::arguments-returns-clause-ok
call::arguments-returns-clause-ok t c = subst (λ e. OnOk c.values.result (c.values.new.state ≡ flat e c.args.state.now)) (sym (told_arguments c.args.library.now c.args.body.now c.args.inner.now c.args.args.now c.as_slice.result.now c.as_slice-2.result.now (c.as_slice.ensures ∙ c.in_ok-needs.ensures) (c.as_slice-2.ensures ∙ c.in_ok-takers.ensures))) c.values.ensures.ok

pub call::arguments-returns-clause-refused : goal.call::arguments-returns-clause-refused
call::arguments-returns-clause-refused t c = subst (λ e. IfErr c.values.result (λ f. Refused f (flat e c.args.state.now).built)) (sym (told_arguments c.args.library.now c.args.body.now c.args.inner.now c.args.args.now c.as_slice.result.now c.as_slice-2.result.now (c.as_slice.ensures ∙ c.in_ok-needs.ensures) (c.as_slice-2.ensures ∙ c.in_ok-takers.ensures))) c.values.ensures.refused

pub call::run-enter_body-requires : goal.call::run-enter_body-requires
call::run-enter_body-requires t c = ready_first (step (enter_body c.as_slice.result.now)) (stmts_in c.args.library.now c.args.body.now c.fun-fun.result.now.body.items) c.args.state.now (ready_as (run_in c.args.library.now c.args.body.now) ((step (enter_body c.as_slice.result.now)) >> (stmts_in c.args.library.now c.args.body.now c.fun-fun.result.now.body.items)) c.args.state.now (told_run c.args.library.now c.args.body.now c.fun-fun.result.now c.as_slice.result.now c.fun-fun.result.now.body.items c.fun-fun.ensures.tree (c.as_slice.ensures ∙ c.in_ok-parameters.ensures c.args.body.now.statics) refl) c.requires.ready)

pub call::run-returns-in_err-enter_body-clause-refused : goal.call::run-returns-in_err-enter_body-clause-refused
call::run-returns-in_err-enter_body-clause-refused t c = if_err_from _ _ _ c.from_residual-in_err-enter_body.ensures.1 (refused_as _ ((step (enter_body c.as_slice.result.now)) >> (stmts_in c.args.library.now c.args.body.now c.fun-fun.result.now.body.items)) (run_in c.args.library.now c.args.body.now) c.args.state.now (sym (told_run c.args.library.now c.args.body.now c.fun-fun.result.now c.as_slice.result.now c.fun-fun.result.now.body.items c.fun-fun.ensures.tree (c.as_slice.ensures ∙ c.in_ok-parameters.ensures c.args.body.now.statics) refl)) (refused_first _ (step (enter_body c.as_slice.result.now)) (stmts_in c.args.library.now c.args.body.now c.fun-fun.result.now.body.items) c.args.state.now c.in_err-enter_body.ensures.refused))

pub call::run-statements-requires : goal.call::run-statements-requires
call::run-statements-requires t c = (let top = stmts_top_le (length c.args.library.now.nodes.stmts) c.as_slice-2.result.now (subst (λ xs. AreStmtsBelow (length c.args.library.now.nodes.stmts) xs) (sym c.as_slice-2.ensures) c.fun-fun.ensures.body) in (let below = level_less c.args.body.now.this (length c.args.library.now.nodes.exprs) (length c.args.library.now.nodes.stmts) (8 * length c.args.library.now.nodes.exprs + 8 * stmts_top c.as_slice-2.result.now) (8 * length c.args.library.now.nodes.exprs + (8 * length c.args.library.now.nodes.stmts + 8)) (omega (arith, top)) in omega (arith, c.decreases, below)), ((subst (λ xs. AreStmtsBelow (length c.args.library.now.nodes.stmts) xs) (sym c.as_slice-2.ensures) c.fun-fun.ensures.body), (c.requires.this, ready_after (step (enter_body c.as_slice.result.now)) (stmts_in c.args.library.now c.args.body.now c.as_slice-2.result.now) c.args.state.now _ c.in_ok-enter_body.ensures.ok (ready_as (run_in c.args.library.now c.args.body.now) ((step (enter_body c.as_slice.result.now)) >> (stmts_in c.args.library.now c.args.body.now c.as_slice-2.result.now)) c.args.state.now (told_run c.args.library.now c.args.body.now c.fun-fun.result.now c.as_slice.result.now c.as_slice-2.result.now c.fun-fun.ensures.tree (c.as_slice.ensures ∙ c.in_ok-parameters.ensures c.args.body.now.statics) c.as_slice-2.ensures) c.requires.ready))))

pub call::run-returns-clause-ok : goal.call::run-returns-clause-ok
call::run-returns-clause-ok t c = subst (λ u. OnOk c.statements.result (c.statements.new.state ≡ u)) (ap (λ u. flat (stmts_in c.args.library.now c.args.body.now c.as_slice-2.result.now) u) c.in_ok-enter_body.ensures.ok ∙ sym (ap (λ e. flat e c.args.state.now) (told_run c.args.library.now c.args.body.now c.fun-fun.result.now c.as_slice.result.now c.as_slice-2.result.now c.fun-fun.ensures.tree (c.as_slice.ensures ∙ c.in_ok-parameters.ensures c.args.body.now.statics) c.as_slice-2.ensures))) c.statements.ensures.ok

pub call::run-returns-clause-refused : goal.call::run-returns-clause-refused
call::run-returns-clause-refused t c = subst (λ (u : Flattening). IfErr c.statements.result (λ f. Refused f u.built)) (ap (λ u. flat (stmts_in c.args.library.now c.args.body.now c.as_slice-2.result.now) u) c.in_ok-enter_body.ensures.ok ∙ sym (ap (λ e. flat e c.args.state.now) (told_run c.args.library.now c.args.body.now c.fun-fun.result.now c.as_slice.result.now c.as_slice-2.result.now c.fun-fun.ensures.tree (c.as_slice.ensures ∙ c.in_ok-parameters.ensures c.args.body.now.statics) c.as_slice-2.ensures))) c.statements.ensures.refused

pub call::own_call-arguments-requires : goal.call::own_call-arguments-requires
call::own_call-arguments-requires t c = ((let below = level_less c.args.body.now.this (length c.args.library.now.nodes.exprs) (length c.args.library.now.nodes.stmts) (8 * exprs_top c.args.args.now + 1) (8 * exprs_top c.args.args.now + 2) (omega arith) in omega (arith, c.decreases, below)), (c.requires.args, (c.requires.this, (subst (λ (i : Body). i.this < length c.args.library.now.funs) (sym c.in_ok-inner.ensures) (omega (arith, c.requires.earlier, c.requires.this)), arguments_ready c.args.library.now c.args.body.now c.args.fun c.args.statics.now c.args.args.now c.in_ok-inner.inner c.in_ok-inner.ensures c.args.state.now c.requires.ready))))

pub call::own_call-returns-in_err-arguments-clause-refused : goal.call::own_call-returns-in_err-arguments-clause-refused
call::own_call-returns-in_err-arguments-clause-refused t c = if_err_from _ _ _ c.from_residual-in_err-arguments.ensures.1 (arguments_refused c.args.library.now c.args.body.now c.args.fun c.args.statics.now c.args.args.now c.in_ok-inner.inner c.in_ok-inner.ensures c.args.state.now _ c.in_err-arguments.ensures.refused)

pub call::own_call-run-requires : goal.call::own_call-run-requires
call::own_call-run-requires t c = (let below = level_call c.in_ok-inner.inner.this c.args.body.now.this (length c.args.library.now.nodes.exprs) (length c.args.library.now.nodes.stmts) (8 * length c.args.library.now.nodes.exprs + (8 * length c.args.library.now.nodes.stmts + 8)) (8 * exprs_top c.args.args.now + 2) (subst (λ (i : Body). i.this < c.args.body.now.this) (sym c.in_ok-inner.ensures) c.requires.earlier) (omega arith) in omega (arith, c.decreases, below), (subst (λ (i : Body). i.this < length c.args.library.now.funs) (sym c.in_ok-inner.ensures) (omega (arith, c.requires.earlier, c.requires.this)), run_ready c.args.library.now c.args.body.now c.args.fun c.args.statics.now c.args.args.now c.in_ok-inner.inner c.in_ok-inner.ensures c.args.state.now _ c.in_ok-arguments.ensures.ok c.requires.ready))

pub call::own_call-returns-in_err-run-clause-refused : goal.call::own_call-returns-in_err-run-clause-refused
call::own_call-returns-in_err-run-clause-refused t c = if_err_from _ _ _ c.from_residual-in_err-run.ensures.1 (run_refused c.args.library.now c.args.body.now c.args.fun c.args.statics.now c.args.args.now c.in_ok-inner.inner c.in_ok-inner.ensures c.args.state.now _ c.in_ok-arguments.ensures.ok _ c.in_err-run.ensures.refused)

pub call::own_call-returns-clause-ok : goal.call::own_call-returns-clause-ok
call::own_call-returns-clause-ok t c = subst (λ u. OnOk c.leave_body.result (c.leave_body.new.self ≡ u)) (leave_is c.args.library.now c.args.body.now c.args.fun c.args.statics.now c.args.args.now c.in_ok-inner.inner c.in_ok-inner.ensures c.args.state.now _ c.in_ok-arguments.ensures.ok _ c.in_ok-run.ensures.ok) c.leave_body.ensures.ok

pub call::own_call-returns-clause-refused : goal.call::own_call-returns-clause-refused
call::own_call-returns-clause-refused t c = subst (λ (u : Flattening). IfErr c.leave_body.result (λ f. Refused f u.built)) (leave_is c.args.library.now c.args.body.now c.args.fun c.args.statics.now c.args.args.now c.in_ok-inner.inner c.in_ok-inner.ensures c.args.state.now _ c.in_ok-arguments.ensures.ok _ c.in_ok-run.ensures.ok) c.leave_body.ensures.refused
