use Rattle.std.proofs.Common.{rules, ◌≡◌, ◌+◌, ◌<◌, ◌≤◌, length, get_or, drop, sym, subst, refl, ◌∙◌, ap, w64, SFits, Err, to_z, of_z, arith, ◌*◌, max, Ok, ℕ, Bool, [], ◌∷◌, ◌++◌, take, ◌-◌}
use Rattle.silq_tree.specs.Arena.{expr_at, stmt_at}
use Rattle.silq_tree.proofs.Lists.{stmt_below, stmt_below_top, stmts_top, exprs_below_front, exprs_below_back, stmts_below_front, stmts_below_back, stmts_below_more, stmts_top_le}
use Rattle.silq_tree.specs.Children.{else_stmts, AreStmtsBelow, AreExprsBelow, listed, place_exprs, stmt_exprs, stmt_stmts, StmtHasFirst}
use Rattle.check_scope.specs.State.{State, scope_in}
use Rattle.check_fun.proofs.BlockLevels.{level, level_less}
use Rattle.check_fun.proofs.BlockSteps.{if_err_from, ahead_start, stmts_more, stmts_stop, stmts_all}
use Rattle.silq_tree.specs.Standing.{statements_of, otherwise_of, block_of, place_of, stmt_grown}
use Rattle.check_scope.specs.Context.{Scope}
use Rattle.check_fun.specs.Counting.{checker_at, Runs, Fails}
use Rattle.check_fun.specs.Statement.{stmts, branch, otherwise, otherwise_end, joined, plain_block, both}
use Rattle.check_fun.proofs.BlockBranches.{runs_plain, fails_plain_end, runs_branch, fails_branch_end, runs_both, fails_first, fails_second, first_runs, first_fails, other_runs, other_fails, plain_runs, plain_fails, plain_other_runs, plain_other_fails}
use Rattle.check_fun.proofs.InTurn.{runs_turns, fails_first_turn, fails_second_turn}
use Rattle.check_fun.proofs.BlockRounds.{runs_chosen, fails_condition, fails_chosen, one_more, if_err_with, on_ok_with, runs_static, fails_static, fails_value, runs_later, fails_run_time, runs_bound, fails_bound, seen_more, rounds_stop, rounds_all, round_runs, round_fails, lt_told, ge_told}
use Rattle.check_fun.specs.Branches.{round_of}
use Rattle.std.proofs.lemmas.Int.{to_z-of_z}
use Rattle.static_num.specs.declared.values.StaticFault.TheVariants.{ZeroDivisor, Overflow}
use Rattle.std.proofs.Math.Facts.{sfits_to_z}
use Rattle.check_fun.proofs.BlockLoops.{runs_unroll, fails_low, fails_high, fails_name, fails_rounds, empty_items}
use Rattle.check_scope.specs.Library.{before_at, function_at}
use Rattle.check_fun.specs.Program.{instances, returned_as}
use Rattle.check_scope.specs.Steps.{IsFirst}
use Rattle.check_fun.proofs.Questions.{asked_runs, asked_fails, asked_room, asked_on, asked_stops, asked_less, asked_call, asked_same}
use Rattle.silq_tree.specs.Syntax.{Function}
use Rattle.silq_types.specs.Programs.{paired}
use Rattle.check_scope.specs.Headers.{spot_or}
use Rattle.check_fun.proofs.Instances.{begins, params_long, body_runs, body_ran, body_first, header_here, one_known, signature_made, instances_at, instances_past}
use Rattle.check_fun.proofs.Measures.{level_deeper}
use Rattle.std.specs.Prelude.{not, cond, IfSome, OnOk, IfErr, option_map}
use Rattle.check_fun.proofs.BlockConditions.{runs_condition, fails_expr, fails_single, fails_bit, same_parts}
use Rattle.check_fun.proofs.Counted.{fails_bind, stays_both}
use Rattle.check_fun.proofs.Stepped.{passed, same_checker_after}
use Rattle.check_fun.proofs.Assigning.{fails_name_value, fails_name_tuple, fails_name_bound, runs_name, fails_spread, runs_spread}
use Rattle.check_fun.proofs.Parting.{fails_part_value, fails_part_back, runs_part}
use Rattle.check_fun.proofs.Targets.{name_of_place}
use Rattle.check_fun.proofs.Updating.{fails_update_target, fails_update_value, fails_update_single, fails_update_type, fails_update_rules, runs_update, fails_forget_value, fails_forget_single, fails_forget_rules, runs_forget}
use Rattle.check_expr.specs.Asks.{types_of}
use Rattle.check_fun.proofs.Returning.{fails_one_value, fails_one_lone, runs_one, on_ok, if_err, fails_misplaced, fails_misplaced_there, fails_unused, fails_unused_rule, runs_unused, if_ok}
use Rattle.check_fun.proofs.Stated.{fails_stmt_count, fails_stmt, runs_stmt, stepped, failing}
use Rattle.check_fun.proofs.Concluding.{fails_whole, fails_whole_end, fails_whole_results, runs_whole, fails_given, fails_given_count, runs_given, fails_last_count, fails_last_return, runs_last_return, fails_last_other, runs_last_other}
use Rattle.check_fun.proofs.StepParts.{listed_some, runs_forget_step, fails_forget_step, before_below, last_below, runs_last, fails_last, fails_before}
use Rattle.check_fun.specs.Stepping.{forget_step}
use Rattle.check_fun.proofs.+statement.Goals as goal

pub block::statements-loop-id-init : goal.block::statements-loop-id-init
block::statements-loop-id-init t c = ahead_start _ _ _ _

pub block::statements-loop-id-preserved : goal.block::statements-loop-id-preserved
block::statements-loop-id-preserved t c = stmts_more c.args.library.now (expr_at c.args.library.now.nodes) (stmt_at c.args.library.now.nodes) _ c.args.ids.now c.loop-id.id-index (record { number = 0 }) _ _ _ _ _ _ c.loop-id-test.true c.loop-id.invariant c.in_ok-statement.ensures.runs

pub block::statements-returns-clause-runs : goal.block::statements-returns-clause-runs
block::statements-returns-clause-runs t c = stmts_all c.args.library.now (expr_at c.args.library.now.nodes) (stmt_at c.args.library.now.nodes) _ c.args.ids.now c.loop-id.id-index _ _ _ _ c.loop-id-test.false c.loop-id.invariant

pub block::statements-returns-in_err-statement-clause-fails : goal.block::statements-returns-in_err-statement-clause-fails
block::statements-returns-in_err-statement-clause-fails t c = if_err_from _ _ _ c.from_residual.ensures.1 (stmts_stop c.args.library.now (expr_at c.args.library.now.nodes) (stmt_at c.args.library.now.nodes) _ c.args.ids.now c.loop-id.id-index (record { number = 0 }) _ _ _ _ _ c.loop-id-test.true c.loop-id.invariant c.in_err-statement.ensures.fails)

pub block::statements-statement-requires : goal.block::statements-statement-requires
block::statements-statement-requires t c = ((let below = level_less c.loop-id.cx.depth c.args.cx.now.depth (length c.args.library.now.nodes.stmts) (8 * (get_or c.args.ids.now c.loop-id.id-index (record { number = 0 })).number + 7) (8 * stmts_top c.args.ids.now) c.loop-id.invariant.stays.depth (omega (arith, stmt_below_top c.args.ids.now c.loop-id.id-index (record { number = 0 }) c.loop-id-test.true)) in omega (arith, c.decreases, below)), (stmt_below _ c.args.ids.now c.loop-id.id-index _ c.requires.ids c.loop-id-test.true, (subst (λ n. n < length c.args.library.now.funs) (sym c.loop-id.invariant.stays.this) c.requires.this, subst (λ n. n ≤ 64) (sym c.loop-id.invariant.stays.depth) c.requires.depth)))

pub block::plain-statements-requires : goal.block::plain-statements-requires
block::plain-statements-requires t c = ((let below = level_less c.args.cx.now.depth c.args.cx.now.depth (length c.args.library.now.nodes.stmts) (8 * stmts_top c.args.ids.now) (8 * stmts_top c.args.ids.now + 1) refl (omega arith) in omega (arith, c.decreases, below)), (c.requires.ids, (c.requires.this, c.requires.depth)))

pub block::branch-statements-requires : goal.block::branch-statements-requires
block::branch-statements-requires t c = ((let below = level_less c.args.cx.now.depth c.args.cx.now.depth (length c.args.library.now.nodes.stmts) (8 * stmts_top c.args.ids.now) (8 * stmts_top c.args.ids.now + 1) refl (omega arith) in omega (arith, c.decreases, below)), (c.requires.ids, (c.requires.this, c.requires.depth)))

pub block::choose-taken-requires : goal.block::choose-taken-requires
block::choose-taken-requires t c = ((let below = level_less c.args.cx.now.depth c.args.cx.now.depth (length c.args.library.now.nodes.stmts) (8 * max (stmts_top c.args.then.now.items) (stmts_top (else_stmts c.args.other.now)) + 2) (8 * max (stmts_top c.args.then.now.items) (stmts_top (else_stmts c.args.other.now)) + 5) refl (omega arith) in omega (arith, c.decreases, below)), (c.requires.then, (c.requires.other, (c.requires.this, c.requires.depth))))

pub block::choose-run_time-requires : goal.block::choose-run_time-requires
block::choose-run_time-requires t c = ((let below = level_less c.args.cx.now.depth c.args.cx.now.depth (length c.args.library.now.nodes.stmts) (8 * max (stmts_top c.args.then.now.items) (stmts_top (else_stmts c.args.other.now)) + 4) (8 * max (stmts_top c.args.then.now.items) (stmts_top (else_stmts c.args.other.now)) + 5) refl (omega arith) in omega (arith, c.decreases, below)), (c.requires.cond, (c.requires.then, (c.requires.other, (c.requires.this, c.requires.depth)))))

pub block::unroll-rounds-requires : goal.block::unroll-rounds-requires
block::unroll-rounds-requires t c = ((let below = level_less c.args.cx.now.depth c.args.cx.now.depth (length c.args.library.now.nodes.stmts) (8 * stmts_top c.args.body.now.items + 3) (8 * stmts_top c.args.body.now.items + 4) refl (omega arith) in omega (arith, c.decreases, below)), (c.requires.body, (c.requires.this, c.requires.depth)))

pub block::plain-returns-in_err-end_from-clause-fails : goal.block::plain-returns-in_err-end_from-clause-fails
block::plain-returns-in_err-end_from-clause-fails t c = if_err_from _ _ _ c.from_residual-in_err-end_from.ensures.1
    (fails_plain_end (checker_at c.args.library.now c.args.cx.now) (stmts (statements_of (expr_at c.args.library.now.nodes) (stmt_at c.args.library.now.nodes) c.args.ids.now) (scope_in c.args.library.now c.args.cx.now)) c.args.end _ _ _ _ _ _ c.len-len.ensures c.in_ok-statements.ensures.runs (c.in_err-end_from.ensures.fails (checker_at c.args.library.now c.args.cx.now) _))

pub block::plain-returns-clause-runs : goal.block::plain-returns-clause-runs
block::plain-returns-clause-runs t c = runs_plain (checker_at c.args.library.now c.args.cx.now) (stmts (statements_of (expr_at c.args.library.now.nodes) (stmt_at c.args.library.now.nodes) c.args.ids.now) (scope_in c.args.library.now c.args.cx.now)) c.args.end _ _ _ _ _ _ _ c.len-len.ensures c.in_ok-statements.ensures.runs (c.in_ok-end_from.ensures.runs (checker_at c.args.library.now c.args.cx.now) _)

pub block::branch-returns-in_err-end_branch-clause-fails : goal.block::branch-returns-in_err-end_branch-clause-fails
block::branch-returns-in_err-end_branch-clause-fails t c = if_err_from _ _ _ c.from_residual-in_err-end_branch.ensures.1
    (fails_branch_end (checker_at c.args.library.now c.args.cx.now) (stmts (statements_of (expr_at c.args.library.now.nodes) (stmt_at c.args.library.now.nodes) c.args.ids.now) (scope_in c.args.library.now c.args.cx.now)) c.args.end _ _ _ _ _ _ (c.as_slice.ensures.value ∙ c.in_ok-before.ensures.ok ∙ c.vars.ensures) c.in_ok-statements.ensures.runs (c.in_err-end_branch.ensures.fails (checker_at c.args.library.now c.args.cx.now) _))

pub block::branch-returns-clause-runs : goal.block::branch-returns-clause-runs
block::branch-returns-clause-runs t c = runs_branch (checker_at c.args.library.now c.args.cx.now) (stmts (statements_of (expr_at c.args.library.now.nodes) (stmt_at c.args.library.now.nodes) c.args.ids.now) (scope_in c.args.library.now c.args.cx.now)) c.args.end _ _ _ _ _ _ _ (c.as_slice.ensures.value ∙ c.in_ok-before.ensures.ok ∙ c.vars.ensures) c.in_ok-statements.ensures.runs (c.in_ok-end_branch.ensures.runs (checker_at c.args.library.now c.args.cx.now) _)

pub block::apart-returns-in_err-branch-clause-fails : goal.block::apart-returns-in_err-branch-clause-fails
block::apart-returns-in_err-branch-clause-fails t c = if_err_from _ _ _ c.from_residual-in_err-branch.ensures.1
    (fails_first c.args.library.now (λ sc. branch (stmts (statements_of (expr_at c.args.library.now.nodes) (stmt_at c.args.library.now.nodes) c.args.then.now.items) sc) c.args.then.now.end) (λ sc. branch (otherwise (otherwise_of (expr_at c.args.library.now.nodes) (stmt_at c.args.library.now.nodes) c.args.other.now) sc) (otherwise_end (otherwise_of (expr_at c.args.library.now.nodes) (stmt_at c.args.library.now.nodes) c.args.other.now))) c.args.cx.now c.args.tally.now _ (first_fails (checker_at c.args.library.now c.args.cx.now) (expr_at c.args.library.now.nodes) (stmt_at c.args.library.now.nodes) (scope_in c.args.library.now c.args.cx.now) c.args.cx.now c.args.tally.now _ _ c.args.then.now.end _ c.as_slice.ensures c.in_err-branch.ensures.fails))

pub block::apart-returns-in_err-branch-2-clause-fails : goal.block::apart-returns-in_err-branch-2-clause-fails
block::apart-returns-in_err-branch-2-clause-fails t c = if_err_from _ _ _ c.from_residual-in_err-branch-2.ensures.1
    (fails_second c.args.library.now (λ sc. branch (stmts (statements_of (expr_at c.args.library.now.nodes) (stmt_at c.args.library.now.nodes) c.args.then.now.items) sc) c.args.then.now.end) (λ sc. branch (otherwise (otherwise_of (expr_at c.args.library.now.nodes) (stmt_at c.args.library.now.nodes) c.args.other.now) sc) (otherwise_end (otherwise_of (expr_at c.args.library.now.nodes) (stmt_at c.args.library.now.nodes) c.args.other.now))) c.args.cx.now c.args.tally.now _ _ _ _ _ (c.in_ok-start.ensures.ok ∙ c.vars.ensures) (first_runs (checker_at c.args.library.now c.args.cx.now) (expr_at c.args.library.now.nodes) (stmt_at c.args.library.now.nodes) (scope_in c.args.library.now c.args.cx.now) c.args.cx.now c.args.tally.now _ _ c.args.then.now.end _ _ c.as_slice.ensures c.in_ok-branch.ensures.runs) c.in_ok-put.ensures.ok
    (other_fails (checker_at c.args.library.now c.put.new.self) (expr_at c.args.library.now.nodes) (stmt_at c.args.library.now.nodes) (scope_in c.args.library.now c.put.new.self) c.put.new.self _ _ c.args.other.now _ _ c.items_of.ensures c.end_of_else.ensures c.in_err-branch-2.ensures.fails))

pub block::apart-returns-clause-runs : goal.block::apart-returns-clause-runs
block::apart-returns-clause-runs t c =
    runs_both c.args.library.now (λ sc. branch (stmts (statements_of (expr_at c.args.library.now.nodes) (stmt_at c.args.library.now.nodes) c.args.then.now.items) sc) c.args.then.now.end) (λ sc. branch (otherwise (otherwise_of (expr_at c.args.library.now.nodes) (stmt_at c.args.library.now.nodes) c.args.other.now) sc) (otherwise_end (otherwise_of (expr_at c.args.library.now.nodes) (stmt_at c.args.library.now.nodes) c.args.other.now))) c.args.cx.now c.args.tally.now _ _ _ _ _ _ _ _ _ (c.in_ok-start.ensures.ok ∙ c.vars.ensures) (c.as_slice-2.ensures.value ∙ c.in_ok-one.ensures.ok ∙ c.vars-2.ensures) (c.in_ok-vars.ensures.ok ∙ ap (λ vs. joined c.as_slice-2.result.now vs) c.vars-3.ensures) (first_runs (checker_at c.args.library.now c.args.cx.now) (expr_at c.args.library.now.nodes) (stmt_at c.args.library.now.nodes) (scope_in c.args.library.now c.args.cx.now) c.args.cx.now c.args.tally.now _ _ c.args.then.now.end _ _ c.as_slice.ensures c.in_ok-branch.ensures.runs) c.in_ok-put.ensures.ok
    (other_runs (checker_at c.args.library.now c.put.new.self) (expr_at c.args.library.now.nodes) (stmt_at c.args.library.now.nodes) (scope_in c.args.library.now c.put.new.self) c.put.new.self _ _ c.args.other.now _ _ _ c.items_of.ensures c.end_of_else.ensures c.in_ok-branch-2.ensures.runs) c.in_ok-put-2.ensures.ok

pub block::run_time-returns-in_err-parts-clause-fails : goal.block::run_time-returns-in_err-parts-clause-fails
block::run_time-returns-in_err-parts-clause-fails t c = if_err_from _ _ _ c.from_residual.ensures.1 (fails_condition c.args.library.now (expr_at c.args.library.now.nodes c.args.cond) (λ sc. both (branch (stmts (statements_of (expr_at c.args.library.now.nodes) (stmt_at c.args.library.now.nodes) c.args.then.now.items) sc) c.args.then.now.end) (branch (otherwise (otherwise_of (expr_at c.args.library.now.nodes) (stmt_at c.args.library.now.nodes) c.args.other.now) sc) (otherwise_end (otherwise_of (expr_at c.args.library.now.nodes) (stmt_at c.args.library.now.nodes) c.args.other.now)))) c.args.cx.now c.args.tally.now _ c.in_err-parts.ensures.fails)

pub block::run_time-returns-in_err-both-clause-fails : goal.block::run_time-returns-in_err-both-clause-fails
block::run_time-returns-in_err-both-clause-fails t c = if_err_from _ _ _ c.from_residual-in_err-both.ensures.1 (fails_chosen c.args.library.now (expr_at c.args.library.now.nodes c.args.cond) (λ sc. both (branch (stmts (statements_of (expr_at c.args.library.now.nodes) (stmt_at c.args.library.now.nodes) c.args.then.now.items) sc) c.args.then.now.end) (branch (otherwise (otherwise_of (expr_at c.args.library.now.nodes) (stmt_at c.args.library.now.nodes) c.args.other.now) sc) (otherwise_end (otherwise_of (expr_at c.args.library.now.nodes) (stmt_at c.args.library.now.nodes) c.args.other.now)))) c.args.cx.now c.args.tally.now _ _ _ _ _ c.in_ok-parts.ensures.runs c.in-Ok.ensures.ok c.in_err-both.ensures.fails)

pub block::run_time-returns-clause-runs : goal.block::run_time-returns-clause-runs
block::run_time-returns-clause-runs t c = runs_chosen c.args.library.now (expr_at c.args.library.now.nodes c.args.cond) (λ sc. both (branch (stmts (statements_of (expr_at c.args.library.now.nodes) (stmt_at c.args.library.now.nodes) c.args.then.now.items) sc) c.args.then.now.end) (branch (otherwise (otherwise_of (expr_at c.args.library.now.nodes) (stmt_at c.args.library.now.nodes) c.args.other.now) sc) (otherwise_end (otherwise_of (expr_at c.args.library.now.nodes) (stmt_at c.args.library.now.nodes) c.args.other.now)))) c.args.cx.now c.args.tally.now _ _ _ _ _ _ _ c.in_ok-parts.ensures.runs c.in-Ok.ensures.ok c.in_ok-both.ensures.runs c.release.ensures

pub block::taken-returns-then-first-clause-runs : goal.block::taken-returns-then-first-clause-runs
block::taken-returns-then-first-clause-runs t c = rw c.if-first.true (on_ok_with _ _ _ (λ r. plain_runs (checker_at c.args.library.now c.args.cx.now) (expr_at c.args.library.now.nodes) (stmt_at c.args.library.now.nodes) (scope_in c.args.library.now c.args.cx.now) c.args.cx.now c.args.tally.now _ _ c.args.then.now.end _ _ c.as_slice.ensures r) c.plain.ensures.runs)

pub block::taken-returns-then-first-clause-fails : goal.block::taken-returns-then-first-clause-fails
block::taken-returns-then-first-clause-fails t c = rw c.if-first.true (if_err_with _ _ _ (λ f r. plain_fails (checker_at c.args.library.now c.args.cx.now) (expr_at c.args.library.now.nodes) (stmt_at c.args.library.now.nodes) (scope_in c.args.library.now c.args.cx.now) c.args.cx.now c.args.tally.now _ _ c.args.then.now.end _ c.as_slice.ensures r) c.plain.ensures.fails)

pub block::taken-returns-else-first-clause-runs : goal.block::taken-returns-else-first-clause-runs
block::taken-returns-else-first-clause-runs t c = rw c.if-first.false (on_ok_with _ _ _ (λ r. plain_other_runs (checker_at c.args.library.now c.args.cx.now) (expr_at c.args.library.now.nodes) (stmt_at c.args.library.now.nodes) (scope_in c.args.library.now c.args.cx.now) c.args.cx.now c.args.tally.now _ c.args.other.now _ _ _ c.items_of.ensures c.end_of_else.ensures r) c.plain-else-first.ensures.runs)

pub block::taken-returns-else-first-clause-fails : goal.block::taken-returns-else-first-clause-fails
block::taken-returns-else-first-clause-fails t c = rw c.if-first.false (if_err_with _ _ _ (λ f r. plain_other_fails (checker_at c.args.library.now c.args.cx.now) (expr_at c.args.library.now.nodes) (stmt_at c.args.library.now.nodes) (scope_in c.args.library.now c.args.cx.now) c.args.cx.now c.args.tally.now _ c.args.other.now _ _ c.items_of.ensures c.end_of_else.ensures r) c.plain-else-first.ensures.fails)

pub block::choose-returns-in-Ok-clause-runs : goal.block::choose-returns-in-Ok-clause-runs
block::choose-returns-in-Ok-clause-runs t c = on_ok_with _ _ _ (λ r. runs_static (checker_at c.args.library.now c.args.cx.now) (scope_in c.args.library.now c.args.cx.now) (expr_at c.args.library.now.nodes c.args.cond) (block_of (expr_at c.args.library.now.nodes) (stmt_at c.args.library.now.nodes) c.args.then.now) (otherwise_of (expr_at c.args.library.now.nodes) (stmt_at c.args.library.now.nodes) c.args.other.now) c.args.cx.now c.args.tally.now c.eval.result (rw (c.statics.ensures, c.tree.ensures) at c.eval.ensures.value) (rw (c.statics.ensures, c.tree.ensures) at c.eval.ensures.not_static) _ _ _ _ c.in-Ok.is (let f : SFits w64 c.in-Ok.value = search rules in rw (to_z-of_z w64 c.in-Ok.value f) at c.is_truth.ensures) r) c.taken.ensures.runs

pub block::choose-returns-in-Ok-clause-fails : goal.block::choose-returns-in-Ok-clause-fails
block::choose-returns-in-Ok-clause-fails t c = if_err_with _ _ _ (λ f r. fails_static (checker_at c.args.library.now c.args.cx.now) (scope_in c.args.library.now c.args.cx.now) (expr_at c.args.library.now.nodes c.args.cond) (block_of (expr_at c.args.library.now.nodes) (stmt_at c.args.library.now.nodes) c.args.then.now) (otherwise_of (expr_at c.args.library.now.nodes) (stmt_at c.args.library.now.nodes) c.args.other.now) c.args.cx.now c.args.tally.now c.eval.result (rw (c.statics.ensures, c.tree.ensures) at c.eval.ensures.value) (rw (c.statics.ensures, c.tree.ensures) at c.eval.ensures.not_static) _ _ f c.in-Ok.is (let f : SFits w64 c.in-Ok.value = search rules in rw (to_z-of_z w64 c.in-Ok.value f) at c.is_truth.ensures) r) c.taken.ensures.fails

pub block::choose-returns-in-Err-NotStatic-clause-runs : goal.block::choose-returns-in-Err-NotStatic-clause-runs
block::choose-returns-in-Err-NotStatic-clause-runs t c = on_ok_with _ _ _ (λ r. runs_later (checker_at c.args.library.now c.args.cx.now) (scope_in c.args.library.now c.args.cx.now) (expr_at c.args.library.now.nodes c.args.cond) (block_of (expr_at c.args.library.now.nodes) (stmt_at c.args.library.now.nodes) c.args.then.now) (otherwise_of (expr_at c.args.library.now.nodes) (stmt_at c.args.library.now.nodes) c.args.other.now) c.args.cx.now c.args.tally.now c.eval.result (rw (c.statics.ensures, c.tree.ensures) at c.eval.ensures.value) (rw (c.statics.ensures, c.tree.ensures) at c.eval.ensures.not_static) _ _ (c.in-Err-NotStatic.is ∙ ap Err c.in-Err-NotStatic.field-0-is) r) c.run_time.ensures.runs

pub block::choose-returns-in-Err-NotStatic-clause-fails : goal.block::choose-returns-in-Err-NotStatic-clause-fails
block::choose-returns-in-Err-NotStatic-clause-fails t c = if_err_with _ _ _ (λ f r. fails_run_time (checker_at c.args.library.now c.args.cx.now) (scope_in c.args.library.now c.args.cx.now) (expr_at c.args.library.now.nodes c.args.cond) (block_of (expr_at c.args.library.now.nodes) (stmt_at c.args.library.now.nodes) c.args.then.now) (otherwise_of (expr_at c.args.library.now.nodes) (stmt_at c.args.library.now.nodes) c.args.other.now) c.args.cx.now c.args.tally.now c.eval.result (rw (c.statics.ensures, c.tree.ensures) at c.eval.ensures.value) (rw (c.statics.ensures, c.tree.ensures) at c.eval.ensures.not_static) f (c.in-Err-NotStatic.is ∙ ap Err c.in-Err-NotStatic.field-0-is) r) c.run_time.ensures.fails

pub block::choose-returns-in-Err-ZeroDivisor-clause-fails : goal.block::choose-returns-in-Err-ZeroDivisor-clause-fails
block::choose-returns-in-Err-ZeroDivisor-clause-fails t c = rw c.no_value.ensures (fails_value (checker_at c.args.library.now c.args.cx.now) (scope_in c.args.library.now c.args.cx.now) (expr_at c.args.library.now.nodes c.args.cond) (block_of (expr_at c.args.library.now.nodes) (stmt_at c.args.library.now.nodes) c.args.then.now) (otherwise_of (expr_at c.args.library.now.nodes) (stmt_at c.args.library.now.nodes) c.args.other.now) c.args.cx.now c.args.tally.now c.eval.result (rw (c.statics.ensures, c.tree.ensures) at c.eval.ensures.value) (rw (c.statics.ensures, c.tree.ensures) at c.eval.ensures.not_static) ZeroDivisor (c.in-Err-ZeroDivisor.is ∙ ap Err c.in-Err-ZeroDivisor.field-0-is) (λ e. cc))

pub block::choose-returns-in-Err-Overflow-clause-fails : goal.block::choose-returns-in-Err-Overflow-clause-fails
block::choose-returns-in-Err-Overflow-clause-fails t c = rw c.no_value-in-Err-Overflow.ensures (fails_value (checker_at c.args.library.now c.args.cx.now) (scope_in c.args.library.now c.args.cx.now) (expr_at c.args.library.now.nodes c.args.cond) (block_of (expr_at c.args.library.now.nodes) (stmt_at c.args.library.now.nodes) c.args.then.now) (otherwise_of (expr_at c.args.library.now.nodes) (stmt_at c.args.library.now.nodes) c.args.other.now) c.args.cx.now c.args.tally.now c.eval.result (rw (c.statics.ensures, c.tree.ensures) at c.eval.ensures.value) (rw (c.statics.ensures, c.tree.ensures) at c.eval.ensures.not_static) Overflow (c.in-Err-Overflow.is ∙ ap Err c.in-Err-Overflow.field-0-is) (λ e. cc))

pub rounds::round-returns-in_err-plain-clause-fails : goal.rounds::round-returns-in_err-plain-clause-fails
rounds::round-returns-in_err-plain-clause-fails t c = if_err_from _ _ _ c.from_residual.ensures.1
    (fails_bound c.args.library.now (λ sc. plain_block (stmts (statements_of (expr_at c.args.library.now.nodes) (stmt_at c.args.library.now.nodes) c.args.body.now.items) sc) c.args.body.now.end) c.args.cx.now c.args.tally.now c.args.name c.args.value _ _ (rw (to_z-of_z w64 c.args.value c.ranges.value) at c.in-Ok.ensures.ok) (plain_fails (checker_at c.args.library.now c.bind.new.self) (expr_at c.args.library.now.nodes) (stmt_at c.args.library.now.nodes) (scope_in c.args.library.now c.bind.new.self) _ _ _ _ c.args.body.now.end _ c.as_slice.ensures c.in_err-plain.ensures.fails))

pub rounds::round-returns-clause-runs : goal.rounds::round-returns-clause-runs
rounds::round-returns-clause-runs t c =
    runs_bound c.args.library.now (λ sc. plain_block (stmts (statements_of (expr_at c.args.library.now.nodes) (stmt_at c.args.library.now.nodes) c.args.body.now.items) sc) c.args.body.now.end) c.args.cx.now c.args.tally.now c.args.name c.args.value _ _ _ _ (rw (to_z-of_z w64 c.args.value c.ranges.value) at c.in-Ok.ensures.ok) (plain_runs (checker_at c.args.library.now c.bind.new.self) (expr_at c.args.library.now.nodes) (stmt_at c.args.library.now.nodes) (scope_in c.args.library.now c.bind.new.self) _ _ _ _ c.args.body.now.end _ _ c.as_slice.ensures c.in_ok-plain.ensures.runs) c.unbind.ensures

pub rounds::rounds-loop-value-preserved : goal.rounds::rounds-loop-value-preserved
rounds::rounds-loop-value-preserved t c =
    seen_more c.args.library.now (round_of (scope_in c.args.library.now c.args.cx.now) c.args.name (block_of (expr_at c.args.library.now.nodes) (stmt_at c.args.library.now.nodes) c.args.body.now)) _ c.args.past (to_z w64 (of_z w64 c.args.past)) _ _ _ _ (to_z-of_z w64 c.args.past c.ranges.past) c.ranges.past _ _ _ (sfits_to_z c.loop-value.auto.value) c.loop-value-test.true c.loop-value.invariant
    (round_runs c.args.library.now c.args.name (block_of (expr_at c.args.library.now.nodes) (stmt_at c.args.library.now.nodes) c.args.body.now) c.args.cx.now _ _ c.loop-value.invariant.stays _ _ _ c.in_ok-round.ensures.runs)

pub rounds::rounds-returns-clause-runs : goal.rounds::rounds-returns-clause-runs
rounds::rounds-returns-clause-runs t c =
    rw (to_z-of_z w64 c.args.past c.ranges.past, to_z-of_z w64 c.args.first c.ranges.first) at
    (rounds_all c.args.library.now (round_of (scope_in c.args.library.now c.args.cx.now) c.args.name (block_of (expr_at c.args.library.now.nodes) (stmt_at c.args.library.now.nodes) c.args.body.now)) _ (to_z w64 (of_z w64 c.args.past)) _ _ _ _ (to_z w64 c.loop-value.value-bits) (ge_told (to_z w64 c.loop-value.value-bits) (to_z w64 (of_z w64 c.args.past)) c.loop-value-test.false) c.loop-value.invariant)

pub rounds::rounds-returns-in_err-round-clause-fails : goal.rounds::rounds-returns-in_err-round-clause-fails
rounds::rounds-returns-in_err-round-clause-fails t c = if_err_from _ _ _ c.from_residual.ensures.1
    (rw (to_z-of_z w64 c.args.past c.ranges.past, to_z-of_z w64 c.args.first c.ranges.first) at
    (rounds_stop c.args.library.now (round_of (scope_in c.args.library.now c.args.cx.now) c.args.name (block_of (expr_at c.args.library.now.nodes) (stmt_at c.args.library.now.nodes) c.args.body.now)) _ (to_z w64 (of_z w64 c.args.past)) _ _ _ _ (to_z w64 c.loop-value.value-bits) _ (lt_told (to_z w64 c.loop-value.value-bits) (to_z w64 (of_z w64 c.args.past)) c.loop-value-test.true) c.loop-value.invariant (round_fails c.args.library.now c.args.name (block_of (expr_at c.args.library.now.nodes) (stmt_at c.args.library.now.nodes) c.args.body.now) c.args.cx.now _ _ c.loop-value.invariant.stays _ _ c.in_err-round.ensures.fails)))

pub block::unroll-returns-in_err-first-clause-fails : goal.block::unroll-returns-in_err-first-clause-fails
block::unroll-returns-in_err-first-clause-fails t c = if_err_from _ _ _ c.from_residual.ensures.1 (fails_low (checker_at c.args.library.now c.args.cx.now) (scope_in c.args.library.now c.args.cx.now) c.args.name (expr_at c.args.library.now.nodes c.args.low) (expr_at c.args.library.now.nodes c.args.high) (block_of (expr_at c.args.library.now.nodes) (stmt_at c.args.library.now.nodes) c.args.body.now) c.args.at c.args.cx.now c.args.tally.now _ (c.in_err-first.ensures.fails (checker_at c.args.library.now c.args.cx.now) c.args.tally.now))

pub block::unroll-returns-in_err-past-clause-fails : goal.block::unroll-returns-in_err-past-clause-fails
block::unroll-returns-in_err-past-clause-fails t c = if_err_from _ _ _ c.from_residual-in_err-past.ensures.1 (fails_high (checker_at c.args.library.now c.args.cx.now) (scope_in c.args.library.now c.args.cx.now) c.args.name (expr_at c.args.library.now.nodes c.args.low) (expr_at c.args.library.now.nodes c.args.high) (block_of (expr_at c.args.library.now.nodes) (stmt_at c.args.library.now.nodes) c.args.body.now) c.args.at c.args.cx.now c.args.tally.now _ _ (c.in_ok-first.ensures.runs (checker_at c.args.library.now c.args.cx.now) c.args.tally.now) (c.in_err-past.ensures.fails (checker_at c.args.library.now c.args.cx.now) c.args.tally.now))

pub block::unroll-returns-in_err-obey_now-clause-fails : goal.block::unroll-returns-in_err-obey_now-clause-fails
block::unroll-returns-in_err-obey_now-clause-fails t c = if_err_from _ _ _ c.from_residual-in_err-obey_now.ensures.1 (fails_name (checker_at c.args.library.now c.args.cx.now) (scope_in c.args.library.now c.args.cx.now) c.args.name (expr_at c.args.library.now.nodes c.args.low) (expr_at c.args.library.now.nodes c.args.high) (block_of (expr_at c.args.library.now.nodes) (stmt_at c.args.library.now.nodes) c.args.body.now) c.args.at c.args.cx.now c.args.tally.now _ _ _ _ (c.in_ok-first.ensures.runs (checker_at c.args.library.now c.args.cx.now) c.args.tally.now) (c.in_ok-past.ensures.runs (checker_at c.args.library.now c.args.cx.now) c.args.tally.now) c.is_taken.ensures (c.in_err-obey_now.ensures.fails (checker_at c.args.library.now c.args.cx.now) _ c.args.tally.now))

pub block::unroll-returns-in_err-rounds-clause-fails : goal.block::unroll-returns-in_err-rounds-clause-fails
block::unroll-returns-in_err-rounds-clause-fails t c =
    let f : SFits w64 c.in_ok-first.first = search rules in
    let g : SFits w64 c.in_ok-past.past = search rules in
    if_err_from _ _ _ c.from_residual-in_err-rounds.ensures.1 (fails_rounds (checker_at c.args.library.now c.args.cx.now) (scope_in c.args.library.now c.args.cx.now) c.args.name (expr_at c.args.library.now.nodes c.args.low) (expr_at c.args.library.now.nodes c.args.high) (block_of (expr_at c.args.library.now.nodes) (stmt_at c.args.library.now.nodes) c.args.body.now) c.args.at c.args.cx.now c.args.tally.now _ _ _ _ (c.in_ok-first.ensures.runs (checker_at c.args.library.now c.args.cx.now) c.args.tally.now) (c.in_ok-past.ensures.runs (checker_at c.args.library.now c.args.cx.now) c.args.tally.now) c.is_taken.ensures (c.in_ok-obey_now.ensures.runs (checker_at c.args.library.now c.args.cx.now) _ c.args.tally.now) (rw (to_z-of_z w64 c.in_ok-past.past g, to_z-of_z w64 c.in_ok-first.first f) at c.in_err-rounds.ensures.fails))

pub block::unroll-returns-clause-runs : goal.block::unroll-returns-clause-runs
block::unroll-returns-clause-runs t c =
    let f : SFits w64 c.in_ok-first.first = search rules in
    let g : SFits w64 c.in_ok-past.past = search rules in
    runs_unroll (checker_at c.args.library.now c.args.cx.now) (scope_in c.args.library.now c.args.cx.now) c.args.name (expr_at c.args.library.now.nodes c.args.low) (expr_at c.args.library.now.nodes c.args.high) (block_of (expr_at c.args.library.now.nodes) (stmt_at c.args.library.now.nodes) c.args.body.now) c.args.at c.args.cx.now c.args.tally.now _ _ _ _ _ (c.in_ok-first.ensures.runs (checker_at c.args.library.now c.args.cx.now) c.args.tally.now) (c.in_ok-past.ensures.runs (checker_at c.args.library.now c.args.cx.now) c.args.tally.now) c.is_taken.ensures (c.in_ok-obey_now.ensures.runs (checker_at c.args.library.now c.args.cx.now) _ c.args.tally.now) (rw (to_z-of_z w64 c.in_ok-past.past g, to_z-of_z w64 c.in_ok-first.first f) at c.in_ok-rounds.ensures.runs)

pub block::unroll-returns-then-len-eq0-clause-runs : goal.block::unroll-returns-then-len-eq0-clause-runs
block::unroll-returns-then-len-eq0-clause-runs t c =
    runs_unroll (checker_at c.args.library.now c.args.cx.now) (scope_in c.args.library.now c.args.cx.now) c.args.name (expr_at c.args.library.now.nodes c.args.low) (expr_at c.args.library.now.nodes c.args.high) (block_of (expr_at c.args.library.now.nodes) (stmt_at c.args.library.now.nodes) c.args.body.now) c.args.at c.args.cx.now c.args.tally.now _ _ _ _ _ (c.in_ok-first.ensures.runs (checker_at c.args.library.now c.args.cx.now) c.args.tally.now) (c.in_ok-past.ensures.runs (checker_at c.args.library.now c.args.cx.now) c.args.tally.now) c.is_taken.ensures (c.in_ok-obey_now.ensures.runs (checker_at c.args.library.now c.args.cx.now) _ c.args.tally.now)
    (empty_items (checker_at c.args.library.now c.args.cx.now) (scope_in c.args.library.now c.args.cx.now) c.args.name (expr_at c.args.library.now.nodes) (stmt_at c.args.library.now.nodes) c.args.body.now.items c.args.body.now.end c.args.cx.now c.args.tally.now _ _ (sym c.len.ensures ∙ c.if-len-eq0.true))

pub block::taken-plain-requires : goal.block::taken-plain-requires
block::taken-plain-requires t c = ((let below = level_less c.args.cx.now.depth c.args.cx.now.depth (length c.args.library.now.nodes.stmts) (8 * stmts_top c.as_slice.result.now + 1) (8 * max (stmts_top c.args.then.now.items) (stmts_top (else_stmts c.args.other.now)) + 2) (refl) (omega (arith, ap stmts_top c.as_slice.ensures)) in omega (arith, c.decreases, below)), (subst (λ xs. AreStmtsBelow (length c.args.library.now.nodes.stmts) xs) (sym c.as_slice.ensures) c.requires.then, (c.requires.this, c.requires.depth)))

pub block::taken-plain-requires-else-first : goal.block::taken-plain-requires-else-first
block::taken-plain-requires-else-first t c = ((let below = level_less c.args.cx.now.depth c.args.cx.now.depth (length c.args.library.now.nodes.stmts) (8 * stmts_top c.items_of.result.now + 1) (8 * max (stmts_top c.args.then.now.items) (stmts_top (else_stmts c.args.other.now)) + 2) (refl) (omega (arith, ap stmts_top c.items_of.ensures)) in omega (arith, c.decreases, below)), (subst (λ xs. AreStmtsBelow (length c.args.library.now.nodes.stmts) xs) (sym c.items_of.ensures) c.requires.other, (c.requires.this, c.requires.depth)))

pub block::apart-branch-library-requires : goal.block::apart-branch-library-requires
block::apart-branch-library-requires t c = ((let below = level_less c.args.cx.now.depth c.args.cx.now.depth (length c.args.library.now.nodes.stmts) (8 * stmts_top c.as_slice.result.now + 1) (8 * max (stmts_top c.args.then.now.items) (stmts_top (else_stmts c.args.other.now)) + 2) (refl) (omega (arith, ap stmts_top c.as_slice.ensures)) in omega (arith, c.decreases, below)), (subst (λ xs. AreStmtsBelow (length c.args.library.now.nodes.stmts) xs) (sym c.as_slice.ensures) c.requires.then, (c.requires.this, c.requires.depth)))

pub block::apart-branch-library-requires-2 : goal.block::apart-branch-library-requires-2
block::apart-branch-library-requires-2 t c = ((let below = level_less c.put.new.self.depth c.args.cx.now.depth (length c.args.library.now.nodes.stmts) (8 * stmts_top c.items_of.result.now + 1) (8 * max (stmts_top c.args.then.now.items) (stmts_top (else_stmts c.args.other.now)) + 2) ((ap (λ (s : State). s.depth) c.in_ok-put.ensures.ok ∙ c.in_ok-branch.ensures.runs.stays.depth)) (omega (arith, ap stmts_top c.items_of.ensures)) in omega (arith, c.decreases, below)), (subst (λ xs. AreStmtsBelow (length c.args.library.now.nodes.stmts) xs) (sym c.items_of.ensures) c.requires.other, (subst (λ n. n < length c.args.library.now.funs) (sym (ap (λ (s : State). s.this) c.in_ok-put.ensures.ok ∙ c.in_ok-branch.ensures.runs.stays.this)) c.requires.this, subst (λ n. n ≤ 64) (sym (ap (λ (s : State). s.depth) c.in_ok-put.ensures.ok ∙ c.in_ok-branch.ensures.runs.stays.depth)) c.requires.depth)))

pub block::run_time-both-requires : goal.block::run_time-both-requires
block::run_time-both-requires t c = ((let below = level_less c.hold.new.self.depth c.args.cx.now.depth (length c.args.library.now.nodes.stmts) (8 * max (stmts_top c.args.then.now.items) (stmts_top (else_stmts c.args.other.now)) + 3) (8 * max (stmts_top c.args.then.now.items) (stmts_top (else_stmts c.args.other.now)) + 4) ((ap (λ (s : State). s.depth) c.in-Ok.ensures.ok ∙ c.in_ok-parts.ensures.runs.stays.depth)) (omega arith) in omega (arith, c.decreases, below)), (c.requires.then, (c.requires.other, (subst (λ n. n < length c.args.library.now.funs) (sym (ap (λ (s : State). s.this) c.in-Ok.ensures.ok ∙ c.in_ok-parts.ensures.runs.stays.this)) c.requires.this, subst (λ n. n ≤ 64) (sym (ap (λ (s : State). s.depth) c.in-Ok.ensures.ok ∙ c.in_ok-parts.ensures.runs.stays.depth)) c.requires.depth))))

pub rounds::round-plain-requires : goal.rounds::round-plain-requires
rounds::round-plain-requires t c = ((let below = level_less c.bind.new.self.depth c.args.cx.now.depth (length c.args.library.now.nodes.stmts) (8 * stmts_top c.as_slice.result.now + 1) (8 * stmts_top c.args.body.now.items + 2) (ap (λ (s : State). s.depth) c.in-Ok.ensures.ok) (omega (arith, ap stmts_top c.as_slice.ensures)) in omega (arith, c.decreases, below)), (subst (λ xs. AreStmtsBelow (length c.args.library.now.nodes.stmts) xs) (sym c.as_slice.ensures) c.requires.body, (subst (λ n. n < length c.args.library.now.funs) (sym (ap (λ (s : State). s.this) c.in-Ok.ensures.ok)) c.requires.this, subst (λ n. n ≤ 64) (sym (ap (λ (s : State). s.depth) c.in-Ok.ensures.ok)) c.requires.depth)))

pub rounds::rounds-round-requires : goal.rounds::rounds-round-requires
rounds::rounds-round-requires t c = ((let below = level_less c.loop-value.cx.depth c.args.cx.now.depth (length c.args.library.now.nodes.stmts) (8 * stmts_top c.args.body.now.items + 2) (8 * stmts_top c.args.body.now.items + 3) (c.loop-value.invariant.stays.depth) (omega arith) in omega (arith, c.decreases, below)), (c.requires.body, (subst (λ n. n < length c.args.library.now.funs) (sym c.loop-value.invariant.stays.this) c.requires.this, subst (λ n. n ≤ 64) (sym c.loop-value.invariant.stays.depth) c.requires.depth)))

pub asking::values-returns-in-Ok-clause-runs : goal.asking::values-returns-in-Ok-clause-runs
asking::values-returns-in-Ok-clause-runs t c = asked_runs _ _ _ _ _ _ _ _ _ _ c.asking.invariant.0 c.asking.invariant.1 (rw c.known.ensures at c.in-Ok.ensures.values)

pub asking::values-returns-in-Err-Fault-clause-fails : goal.asking::values-returns-in-Err-Fault-clause-fails
asking::values-returns-in-Err-Fault-clause-fails t c = asked_fails _ _ _ _ _ _ _ _ _ c.asking.invariant.0 c.asking.invariant.1 (rw c.known.ensures at (rw c.in-Err-Fault.field-0-is at c.in-Err-Fault.ensures.stops))

pub asking::values-instance-requires : goal.asking::values-instance-requires
asking::values-instance-requires t c =
    let room = asked_room c.args.library.now c.args.cx.now (expr_at c.args.library.now.nodes c.args.e) c.args.need c.args.wants.now c.asking.cx c.asking.tally c.in-Err-Wanted.key c.asking.invariant.0 (rw c.known.ensures at (rw c.in-Err-Wanted.field-0-is at c.in-Err-Wanted.ensures.stops)) in
    let after = asked_same c.args.cx.now c.asking.cx c.expr.new.cx c.asking.invariant.0 c.in-Err-Wanted.ensures.unchanged in
    let depth : c.depth-depth.result ≡ c.args.cx.now.depth = c.depth-depth.ensures ∙ ap (λ (x : State). x.depth) after in
    let this : c.this-before.result ≡ c.args.cx.now.this = c.this-before.ensures ∙ ap (λ (x : State). x.this) after in
    let opened : c.asking.cx.depth ≡ c.args.cx.now.depth = ap (λ (x : State). x.depth) c.asking.invariant.0 in
    let deep : c.depth-depth.result + 1 ≤ 64 = omega (arith, depth, opened, room.1) in
    let n = length c.args.library.now.nodes.stmts in
    let below = level_deeper c.args.cx.now.depth (c.depth-depth.result + 1) n (8 * n + 15) 0 (ap (λ k. k + 1) depth) deep (omega arith) in
    (omega (arith, c.decreases, below), (omega (arith, this, c.requires.this), (deep, room.0)))

pub asking::values-asking-smaller : goal.asking::values-asking-smaller
asking::values-asking-smaller t c =
    let room = asked_room c.args.library.now c.args.cx.now (expr_at c.args.library.now.nodes c.args.e) c.args.need c.args.wants.now c.asking.cx c.asking.tally c.in-Err-Wanted.key c.asking.invariant.0 (rw c.known.ensures at (rw c.in-Err-Wanted.field-0-is at c.in-Err-Wanted.ensures.stops)) in
    let known = c.in-Ok-instance.ensures.known in
    asked_less c.args.library.now c.asking.cx c.asking.tally c.instance.new.tally c.in-Err-Wanted.key known.0 room.2
    (asked_call (λ t n. instances c.args.library.now.words (before_at c.args.library.now t) n c.in-Err-Wanted.key c.asking.tally ≡ Ok (known.0, c.instance.new.tally)) c.asking.cx c.expr.new.cx _ _ c.in-Err-Wanted.ensures.unchanged c.this-before.ensures c.depth-depth.ensures known.1)

pub asking::values-asking-preserved : goal.asking::values-asking-preserved
asking::values-asking-preserved t c =
    let known = c.in-Ok-instance.ensures.known in (
      asked_same c.args.cx.now c.asking.cx c.expr.new.cx c.asking.invariant.0 c.in-Err-Wanted.ensures.unchanged,
      asked_on c.args.library.now c.args.cx.now (expr_at c.args.library.now.nodes c.args.e) c.args.need c.args.wants.now c.asking.cx c.args.tally.now c.asking.tally c.instance.new.tally c.in-Err-Wanted.key known.0 c.asking.invariant.0 c.asking.invariant.1 (rw c.known.ensures at (rw c.in-Err-Wanted.field-0-is at c.in-Err-Wanted.ensures.stops))
          (asked_call (λ t n. instances c.args.library.now.words (before_at c.args.library.now t) n c.in-Err-Wanted.key c.asking.tally ≡ Ok (known.0, c.instance.new.tally)) c.asking.cx c.expr.new.cx _ _ c.in-Err-Wanted.ensures.unchanged c.this-before.ensures c.depth-depth.ensures known.1),
    )

pub asking::values-returns-in-Err-clause-fails : goal.asking::values-returns-in-Err-clause-fails
asking::values-returns-in-Err-clause-fails t c =
    asked_stops c.args.library.now c.args.cx.now (expr_at c.args.library.now.nodes c.args.e) c.args.need c.args.wants.now c.asking.cx c.args.tally.now c.asking.tally c.in-Err-Wanted.key c.in-Err.fault c.asking.invariant.0 c.asking.invariant.1
    (rw c.known.ensures at (rw c.in-Err-Wanted.field-0-is at c.in-Err-Wanted.ensures.stops))
    (asked_call (λ t n. IsFirst c.in-Err.fault (instances c.args.library.now.words (before_at c.args.library.now t) n c.in-Err-Wanted.key c.asking.tally)) c.asking.cx c.expr.new.cx _ _ c.in-Err-Wanted.ensures.unchanged c.this-before.ensures c.depth-depth.ensures
    c.in-Err.ensures.fault)

pub instance::check_one-add_params-requires-clause-both : goal.instance::check_one-add_params-requires-clause-both
instance::check_one-add_params-requires-clause-both t c = params_long c.args.library.now c.args.fun c.args.depth (spot_or c.args.at) c.args.key c.args.tally.now c.fun-node.result.now c.in-Ok.statics (record { params = c.in-Ok-header_types.header.params; results = c.in-Ok-header_types.header.results }) c.as_slice-3.result.now c.as_slice-3.ensures c.fun-node.ensures.tree c.in-Ok-header_types.ensures.value

pub instance::check_one-returns-in-Err-whole_body-clause-fault : goal.instance::check_one-returns-in-Err-whole_body-clause-fault
instance::check_one-returns-in-Err-whole_body-clause-fault t c =
    let is = c.in-Ok.ensures ∙ ap (λ x. paired x c.as_slice-2.result.now) c.as_slice.ensures ∙ ap (λ x. paired c.fun-node.result.now.statics x) c.as_slice-2.ensures in
    let start = begins c.args.library.now c.args.fun c.args.depth (spot_or c.args.at) c.args.key c.args.tally.now c.fun-node.result.now c.in-Ok.statics (record { params = c.in-Ok-header_types.header.params; results = c.in-Ok-header_types.header.results }) c.new-cx.result c.add_params.new.cx c.as_slice-3.result.now c.as_slice-3.ensures c.new-cx.ensures c.in-Ok-add_params.ensures in
    body_first c.args.library.now c.args.fun c.args.depth (spot_or c.args.at) c.args.key c.args.tally.now c.fun-node.result.now c.in-Ok.statics c.in-Err-whole_body.fault (record { params = c.in-Ok-header_types.header.params; results = c.in-Ok-header_types.header.results }) c.add_params.new.cx c.fun-node.ensures.tree is start c.in-Ok-header_types.ensures.value c.in-Err-whole_body.ensures.fails

pub instance::check_one-signature_of_body-requires : goal.instance::check_one-signature_of_body-requires
instance::check_one-signature_of_body-requires t c =
    let is = c.in-Ok.ensures ∙ ap (λ x. paired x c.as_slice-2.result.now) c.as_slice.ensures ∙ ap (λ x. paired c.fun-node.result.now.statics x) c.as_slice-2.ensures in
    let start = begins c.args.library.now c.args.fun c.args.depth (spot_or c.args.at) c.args.key c.args.tally.now c.fun-node.result.now c.in-Ok.statics (record { params = c.in-Ok-header_types.header.params; results = c.in-Ok-header_types.header.results }) c.new-cx.result c.add_params.new.cx c.as_slice-3.result.now c.as_slice-3.ensures c.new-cx.ensures c.in-Ok-add_params.ensures in
    let run = body_runs c.args.library.now c.args.fun c.args.depth (spot_or c.args.at) c.args.key c.args.tally.now c.fun-node.result.now c.in-Ok.statics (record { params = c.in-Ok-header_types.header.params; results = c.in-Ok-header_types.header.results }) c.add_params.new.cx c.whole_body.new.cx c.in-Ok-whole_body.values c.whole_body.new.tally c.fun-node.ensures.tree is start c.in-Ok-whole_body.ensures.runs in
    let after = body_ran c.args.library.now c.args.fun c.args.depth (spot_or c.args.at) c.args.key c.args.tally.now c.fun-node.result.now c.in-Ok.statics (record { params = c.in-Ok-header_types.header.params; results = c.in-Ok-header_types.header.results }) c.in-Ok-whole_body.values c.whole_body.new.tally c.whole_body.new.cx.height (omega (arith, c.requires.fun)) c.requires.key c.requires.depth c.requires.new run in
    omega (arith, after.1)

pub instance::check_one-add-requires : goal.instance::check_one-add-requires
instance::check_one-add-requires t c =
    let is = c.in-Ok.ensures ∙ ap (λ x. paired x c.as_slice-2.result.now) c.as_slice.ensures ∙ ap (λ x. paired c.fun-node.result.now.statics x) c.as_slice-2.ensures in
    let start = begins c.args.library.now c.args.fun c.args.depth (spot_or c.args.at) c.args.key c.args.tally.now c.fun-node.result.now c.in-Ok.statics (record { params = c.in-Ok-header_types.header.params; results = c.in-Ok-header_types.header.results }) c.new-cx.result c.add_params.new.cx c.as_slice-3.result.now c.as_slice-3.ensures c.new-cx.ensures c.in-Ok-add_params.ensures in
    let run = body_runs c.args.library.now c.args.fun c.args.depth (spot_or c.args.at) c.args.key c.args.tally.now c.fun-node.result.now c.in-Ok.statics (record { params = c.in-Ok-header_types.header.params; results = c.in-Ok-header_types.header.results }) c.add_params.new.cx c.whole_body.new.cx c.in-Ok-whole_body.values c.whole_body.new.tally c.fun-node.ensures.tree is start c.in-Ok-whole_body.ensures.runs in
    let after = body_ran c.args.library.now c.args.fun c.args.depth (spot_or c.args.at) c.args.key c.args.tally.now c.fun-node.result.now c.in-Ok.statics (record { params = c.in-Ok-header_types.header.params; results = c.in-Ok-header_types.header.results }) c.in-Ok-whole_body.values c.whole_body.new.tally c.whole_body.new.cx.height (omega (arith, c.requires.fun)) c.requires.key c.requires.depth c.requires.new run in
    after.0

pub instance::check_one-returns-in-Ok-add-clause-known : goal.instance::check_one-returns-in-Ok-add-clause-known
instance::check_one-returns-in-Ok-add-clause-known t c =
    let is = c.in-Ok.ensures ∙ ap (λ x. paired x c.as_slice-2.result.now) c.as_slice.ensures ∙ ap (λ x. paired c.fun-node.result.now.statics x) c.as_slice-2.ensures in
    let start = begins c.args.library.now c.args.fun c.args.depth (spot_or c.args.at) c.args.key c.args.tally.now c.fun-node.result.now c.in-Ok.statics (record { params = c.in-Ok-header_types.header.params; results = c.in-Ok-header_types.header.results }) c.new-cx.result c.add_params.new.cx c.as_slice-3.result.now c.as_slice-3.ensures c.new-cx.ensures c.in-Ok-add_params.ensures in
    let run = body_runs c.args.library.now c.args.fun c.args.depth (spot_or c.args.at) c.args.key c.args.tally.now c.fun-node.result.now c.in-Ok.statics (record { params = c.in-Ok-header_types.header.params; results = c.in-Ok-header_types.header.results }) c.add_params.new.cx c.whole_body.new.cx c.in-Ok-whole_body.values c.whole_body.new.tally c.fun-node.ensures.tree is start c.in-Ok-whole_body.ensures.runs in
    let s = c.in-Ok-signature_of_body in
    let results = s.ensures.results ∙ ap (λ ts. returned_as c.in-Ok-header_types.header.params ts c.in-Ok-whole_body.values) (c.in-Ok-whole_body.ensures.runs.stays.results ∙ ap (λ (x : State). x.results) start) in
    let mark = s.ensures.mark ∙ sym (ap (λ (x : Function). x.mark) c.fun-node.ensures.tree) in
    let made = signature_made (function_at c.args.library.now c.args.fun) (record { params = c.in-Ok-header_types.header.params; results = c.in-Ok-header_types.header.results }) c.in-Ok-whole_body.values c.whole_body.new.cx.height s.signature s.ensures.params results mark s.ensures.height in (
      s.signature,
      one_known c.args.library.now c.args.fun c.args.depth (spot_or c.args.at) c.args.key c.args.tally.now c.fun-node.result.now c.in-Ok.statics (record { params = c.in-Ok-header_types.header.params; results = c.in-Ok-header_types.header.results }) c.in-Ok-whole_body.values c.whole_body.new.tally c.add.new.self c.whole_body.new.cx.height s.signature
          (header_here c.args.library.now c.args.fun c.args.depth (spot_or c.args.at) c.args.key c.args.tally.now c.fun-node.result.now c.in-Ok.statics _ c.fun-node.ensures.tree is c.in-Ok-header_types.ensures.value) run made c.in-Ok-add.ensures.ok,
    )

pub instance::check_one-whole_body-requires : goal.instance::check_one-whole_body-requires
instance::check_one-whole_body-requires t c =
    let is = c.in-Ok.ensures ∙ ap (λ x. paired x c.as_slice-2.result.now) c.as_slice.ensures ∙ ap (λ x. paired c.fun-node.result.now.statics x) c.as_slice-2.ensures in
    let start = begins c.args.library.now c.args.fun c.args.depth (spot_or c.args.at) c.args.key c.args.tally.now c.fun-node.result.now c.in-Ok.statics (record { params = c.in-Ok-header_types.header.params; results = c.in-Ok-header_types.header.results }) c.new-cx.result c.add_params.new.cx c.as_slice-3.result.now c.as_slice-3.ensures c.new-cx.ensures c.in-Ok-add_params.ensures in
    let depth : c.add_params.new.cx.depth ≡ c.args.depth = ap (λ (x : State). x.depth) start in
    let this : c.add_params.new.cx.this ≡ c.args.fun = ap (λ (x : State). x.this) start in
    let n = length c.args.library.now.nodes.stmts in
    let below = level_less c.add_params.new.cx.depth c.args.depth n (8 * n + 13) (8 * n + 14) depth (omega arith) in
    (omega (arith, c.decreases, below), (c.fun-node.ensures.body, (omega (arith, this, c.requires.fun), omega (arith, depth, c.requires.depth))))

pub instance::instance-returns-then-fun-before-clause-fault : goal.instance::instance-returns-then-fun-before-clause-fault
instance::instance-returns-then-fun-before-clause-fault t c = instances_past c.args.library.now c.args.before c.args.depth c.args.key c.args.tally.now c.requires.before (omega arith)

pub instance::instance-returns-clause-known : goal.instance::instance-returns-clause-known
instance::instance-returns-clause-known t c = rw (instances_at c.args.library.now c.args.before c.args.depth c.args.key c.args.tally.now c.requires.before (omega arith)) c.check_one.ensures.known

pub instance::instance-returns-clause-fault : goal.instance::instance-returns-clause-fault
instance::instance-returns-clause-fault t c = rw (instances_at c.args.library.now c.args.before c.args.depth c.args.key c.args.tally.now c.requires.before (omega arith)) c.check_one.ensures.fault

pub instance::instance-check_one-requires : goal.instance::instance-check_one-requires
instance::instance-check_one-requires t c =
    let n = length c.args.library.now.nodes.stmts in
    let below = level_less c.args.depth c.args.depth n (8 * n + 14) (8 * n + 15) refl (omega arith) in
    (omega (arith, c.decreases, below), (omega arith, (c.requires.depth, (c.requires.new, refl))))

pub block::condition-returns-in_err-found-clause-fails : goal.block::condition-returns-in_err-found-clause-fails
block::condition-returns-in_err-found-clause-fails t c = if_err_from _ _ _ c.from_residual.ensures.1 (fails_expr (checker_at c.args.library.now c.args.cx.now) (scope_in c.args.library.now c.args.cx.now) (expr_at c.args.library.now.nodes c.args.cond) c.args.cx.now c.args.tally.now _ c.in_err-found.ensures.fails)

pub block::condition-returns-in_err-value-clause-fails : goal.block::condition-returns-in_err-value-clause-fails
block::condition-returns-in_err-value-clause-fails t c = if_err_from _ _ _ c.from_residual-in_err-value.ensures.1
    (fails_single (checker_at c.args.library.now c.args.cx.now) (scope_in c.args.library.now c.args.cx.now) (expr_at c.args.library.now.nodes c.args.cond) c.args.cx.now c.args.tally.now _ _ _ _ _ c.as_slice.ensures c.in_ok-found.ensures.runs (c.in_err-value.ensures.fails (checker_at c.args.library.now c.args.cx.now) _ _))

pub block::condition-returns-in_err-obey_now-clause-fails : goal.block::condition-returns-in_err-obey_now-clause-fails
block::condition-returns-in_err-obey_now-clause-fails t c = if_err_from _ _ _ c.from_residual-in_err-obey_now.ensures.1
    (fails_bit (checker_at c.args.library.now c.args.cx.now) (scope_in c.args.library.now c.args.cx.now) (expr_at c.args.library.now.nodes c.args.cond) c.args.cx.now c.args.tally.now _ _ _ _ _ _ _ _ c.as_slice.ensures c.in_ok-found.ensures.runs (c.in_ok-value.ensures.runs (checker_at c.args.library.now c.args.cx.now) _ _) c.spot_of.ensures (ap not c.is_bit.ensures) (c.in_err-obey_now.ensures.fails (checker_at c.args.library.now c.args.cx.now) _ _))

pub block::condition-returns-clause-runs : goal.block::condition-returns-clause-runs
block::condition-returns-clause-runs t c =
    runs_condition (checker_at c.args.library.now c.args.cx.now) (scope_in c.args.library.now c.args.cx.now) (expr_at c.args.library.now.nodes c.args.cond) c.args.cx.now c.args.tally.now _ _ _ _ _ _ _ _ c.as_slice.ensures c.in_ok-found.ensures.runs (c.in_ok-value.ensures.runs (checker_at c.args.library.now c.args.cx.now) _ _) c.spot_of.ensures (ap not c.is_bit.ensures) (c.in_ok-obey_now.ensures.runs (checker_at c.args.library.now c.args.cx.now) _ _)
    (same_parts c.args.library.now (expr_at c.args.library.now.nodes c.args.cond) c.args.cx.now c.values.new.cx _ _ c.in_ok-found.ensures.runs.stays c.in_ok-parts.ensures.ok)

pub assign::assign_name-returns-in_err-found-clause-fails : goal.assign::assign_name-returns-in_err-found-clause-fails
assign::assign_name-returns-in_err-found-clause-fails t c = passed _ _ _ c.from_residual.ensures.1 (fails_name_value (checker_at c.args.library.now c.args.cx.now) c.args.library.now c.args.name (expr_at c.args.library.now.nodes c.args.e) c.args.at c.args.cx.now c.args.tally.now c.lone_consumed.result c.is_tuple-is_tuple.result _ c.lone_consumed.ensures c.is_tuple-is_tuple.ensures refl _ c.in_err-found.ensures.fails)

pub assign::assign_name-returns-in_err-obeyed-clause-fails : goal.assign::assign_name-returns-in_err-obeyed-clause-fails
assign::assign_name-returns-in_err-obeyed-clause-fails t c = passed _ _ _ c.from_residual-in_err-obeyed.ensures.1 (fails_name_tuple (checker_at c.args.library.now c.args.cx.now) c.args.library.now c.args.name (expr_at c.args.library.now.nodes c.args.e) c.args.at c.args.cx.now c.args.tally.now c.lone_consumed.result c.is_tuple-is_tuple.result c.spot_of.result c.lone_consumed.ensures c.is_tuple-is_tuple.ensures c.spot_of.ensures c.in_ok-found.found c.values.new.cx c.values.new.tally c.in_ok-found.ensures.runs _ (c.in_err-obeyed.ensures.fails (checker_at c.args.library.now c.args.cx.now) c.values.new.cx c.values.new.tally))

pub assign::assign_name-returns-in_err-assigned-clause-fails : goal.assign::assign_name-returns-in_err-assigned-clause-fails
assign::assign_name-returns-in_err-assigned-clause-fails t c = passed _ _ _ c.from_residual-in_err-assigned.ensures.1 (fails_name_bound (checker_at c.args.library.now c.args.cx.now) c.args.library.now c.args.name (expr_at c.args.library.now.nodes c.args.e) c.args.at c.args.cx.now c.args.tally.now c.lone_consumed.result c.is_tuple-is_tuple.result c.spot_of.result c.lone_consumed.ensures c.is_tuple-is_tuple.ensures c.spot_of.ensures c.in_ok-found.found c.values.new.cx c.values.new.tally c.in_ok-found.ensures.runs _ (c.in_ok-obeyed.ensures.runs (checker_at c.args.library.now c.args.cx.now) c.values.new.cx c.values.new.tally) (rw c.as_slice.ensures at (c.in_err-assigned.ensures.fails c.args.library.now (checker_at c.args.library.now c.args.cx.now) c.values.new.tally)))

pub assign::assign_name-returns-clause-runs : goal.assign::assign_name-returns-clause-runs
assign::assign_name-returns-clause-runs t c = runs_name (checker_at c.args.library.now c.args.cx.now) c.args.library.now c.args.name (expr_at c.args.library.now.nodes c.args.e) c.args.at c.args.cx.now c.args.tally.now c.lone_consumed.result c.is_tuple-is_tuple.result c.spot_of.result c.lone_consumed.ensures c.is_tuple-is_tuple.ensures c.spot_of.ensures c.in_ok-found.found c.values.new.cx c.values.new.tally c.in_ok-found.ensures.runs c.assigned.new.cx (c.in_ok-obeyed.ensures.runs (checker_at c.args.library.now c.args.cx.now) c.values.new.cx c.values.new.tally) (rw c.as_slice.ensures at (c.in_ok-assigned.ensures.runs c.args.library.now (checker_at c.args.library.now c.args.cx.now) c.values.new.tally))

pub assign::spread-returns-in_err-found-clause-fails : goal.assign::spread-returns-in_err-found-clause-fails
assign::spread-returns-in_err-found-clause-fails t c = passed _ _ _ c.from_residual.ensures.1 (fails_bind (checker_at c.args.library.now c.args.cx.now) _ _ c.args.cx.now c.args.tally.now _ c.in_err-found.ensures.fails)

pub assign::spread-returns-in_err-assigned-clause-fails : goal.assign::spread-returns-in_err-assigned-clause-fails
assign::spread-returns-in_err-assigned-clause-fails t c = passed _ _ _ c.from_residual-in_err-assigned.ensures.1 (fails_spread (checker_at c.args.library.now c.args.cx.now) c.args.library.now c.args.names.now (expr_at c.args.library.now.nodes c.args.e) c.args.at c.args.cx.now c.values.new.cx c.args.tally.now c.values.new.tally c.in_ok-found.found c.in_ok-found.ensures.runs _ (rw c.as_slice.ensures at (c.in_err-assigned.ensures.fails c.args.library.now (checker_at c.args.library.now c.args.cx.now) c.values.new.tally)))

pub assign::spread-returns-clause-runs : goal.assign::spread-returns-clause-runs
assign::spread-returns-clause-runs t c = runs_spread (checker_at c.args.library.now c.args.cx.now) c.args.library.now c.args.names.now (expr_at c.args.library.now.nodes c.args.e) c.args.at c.args.cx.now c.values.new.cx c.args.tally.now c.values.new.tally c.in_ok-found.found c.in_ok-found.ensures.runs c.assigned.new.cx (rw c.as_slice.ensures at (c.in_ok-assigned.ensures.runs c.args.library.now (checker_at c.args.library.now c.args.cx.now) c.values.new.tally))

pub assign::assign_part-returns-in_err-target-clause-fails : goal.assign::assign_part-returns-in_err-target-clause-fails
assign::assign_part-returns-in_err-target-clause-fails t c = passed _ _ _ c.from_residual.ensures.1 (fails_bind (checker_at c.args.library.now c.args.cx.now) _ _ c.args.cx.now c.args.tally.now _ (c.in_err-target.ensures.fails (checker_at c.args.library.now c.args.cx.now) c.args.tally.now))

pub assign::assign_part-returns-in_err-found-clause-fails : goal.assign::assign_part-returns-in_err-found-clause-fails
assign::assign_part-returns-in_err-found-clause-fails t c = passed _ _ _ c.from_residual-in_err-found.ensures.1 (fails_part_value c.args.library.now (place_of (expr_at c.args.library.now.nodes) c.args.place) (expr_at c.args.library.now.nodes c.args.e) c.args.at c.args.cx.now c.args.tally.now (record { part = c.in_ok-target.target.part; owner = c.in_ok-target.target.owner; ty = c.in_ok-target.target.ty }) (c.in_ok-target.ensures.runs (checker_at c.args.library.now c.args.cx.now) c.args.tally.now) c.in_ok-fresh.fresh c.fresh_now.new.cx (c.in_ok-fresh.ensures.runs (checker_at c.args.library.now c.args.cx.now) c.args.tally.now) c.in_ok-fresh.ensures.vars c.add_part.new.cx (c.in_ok-add_part.ensures.runs (checker_at c.args.library.now c.args.cx.now) c.args.tally.now) c.lone_consumed.result c.is_tuple-is_tuple.result c.lone_consumed.ensures c.is_tuple-is_tuple.ensures _ c.in_err-found.ensures.fails)

pub assign::assign_part-returns-in_err-put_back-clause-fails : goal.assign::assign_part-returns-in_err-put_back-clause-fails
assign::assign_part-returns-in_err-put_back-clause-fails t c = passed _ _ _ c.from_residual-in_err-put_back.ensures.1 (fails_part_back c.args.library.now (place_of (expr_at c.args.library.now.nodes) c.args.place) (expr_at c.args.library.now.nodes c.args.e) c.args.at c.args.cx.now c.args.tally.now (record { part = c.in_ok-target.target.part; owner = c.in_ok-target.target.owner; ty = c.in_ok-target.target.ty }) (c.in_ok-target.ensures.runs (checker_at c.args.library.now c.args.cx.now) c.args.tally.now) c.in_ok-fresh.fresh c.fresh_now.new.cx (c.in_ok-fresh.ensures.runs (checker_at c.args.library.now c.args.cx.now) c.args.tally.now) c.in_ok-fresh.ensures.vars c.add_part.new.cx (c.in_ok-add_part.ensures.runs (checker_at c.args.library.now c.args.cx.now) c.args.tally.now) c.lone_consumed.result c.is_tuple-is_tuple.result c.lone_consumed.ensures c.is_tuple-is_tuple.ensures c.in_ok-found.found c.values.new.cx c.values.new.tally c.in_ok-found.ensures.runs c.len-count.result c.len-count.ensures _ (rw c.as_slice.ensures at (c.in_err-put_back.ensures.fails (checker_at c.args.library.now c.args.cx.now) c.values.new.tally)))

pub assign::assign_part-returns-clause-runs : goal.assign::assign_part-returns-clause-runs
assign::assign_part-returns-clause-runs t c = runs_part c.args.library.now (place_of (expr_at c.args.library.now.nodes) c.args.place) (expr_at c.args.library.now.nodes c.args.e) c.args.at c.args.cx.now c.args.tally.now (record { part = c.in_ok-target.target.part; owner = c.in_ok-target.target.owner; ty = c.in_ok-target.target.ty }) (c.in_ok-target.ensures.runs (checker_at c.args.library.now c.args.cx.now) c.args.tally.now) c.in_ok-fresh.fresh c.fresh_now.new.cx (c.in_ok-fresh.ensures.runs (checker_at c.args.library.now c.args.cx.now) c.args.tally.now) c.in_ok-fresh.ensures.vars c.add_part.new.cx (c.in_ok-add_part.ensures.runs (checker_at c.args.library.now c.args.cx.now) c.args.tally.now) c.lone_consumed.result c.is_tuple-is_tuple.result c.lone_consumed.ensures c.is_tuple-is_tuple.ensures c.in_ok-found.found c.values.new.cx c.values.new.tally c.in_ok-found.ensures.runs c.len-count.result c.len-count.ensures c.put_back.new.cx (rw c.as_slice.ensures at (c.in_ok-put_back.ensures.runs (checker_at c.args.library.now c.args.cx.now) c.values.new.tally))

pub update::update_part-returns-in_err-target-clause-fails : goal.update::update_part-returns-in_err-target-clause-fails
update::update_part-returns-in_err-target-clause-fails t c = passed _ _ _ c.from_residual.ensures.1 (fails_update_target (checker_at c.args.library.now c.args.cx.now) c.args.library.now (place_of (expr_at c.args.library.now.nodes) c.args.place) c.args.op (expr_at c.args.library.now.nodes c.args.e) c.args.at c.args.place.name (name_of_place _ c.args.place) c.args.cx.now c.args.tally.now c.static_updated.result (c.static_updated.ensures (expr_at c.args.library.now.nodes)) _ (c.in_err-target.ensures.fails (checker_at c.args.library.now c.args.cx.now) c.args.tally.now))

pub update::update_part-returns-in_err-found-clause-fails : goal.update::update_part-returns-in_err-found-clause-fails
update::update_part-returns-in_err-found-clause-fails t c = passed _ _ _ c.from_residual-in_err-found.ensures.1 (fails_update_value (checker_at c.args.library.now c.args.cx.now) c.args.library.now (place_of (expr_at c.args.library.now.nodes) c.args.place) c.args.op (expr_at c.args.library.now.nodes c.args.e) c.args.at c.args.place.name (name_of_place _ c.args.place) c.args.cx.now c.args.tally.now c.static_updated.result (c.static_updated.ensures (expr_at c.args.library.now.nodes)) (record { part = c.in_ok-target.target.part; owner = c.in_ok-target.target.owner; ty = c.in_ok-target.target.ty }) (c.in_ok-target.ensures.runs (checker_at c.args.library.now c.args.cx.now) c.args.tally.now) c.lone_wants.result.now (c.lone_wants.ensures ∙ ap (λ (b : Bool). cond b [] (c.in_ok-target.target.ty ∷ [])) c.is_tuple-is_tuple.ensures) _ c.in_err-found.ensures.fails)

pub update::update_part-returns-in_err-value-clause-fails : goal.update::update_part-returns-in_err-value-clause-fails
update::update_part-returns-in_err-value-clause-fails t c = passed _ _ _ c.from_residual-in_err-value.ensures.1 (fails_update_single (checker_at c.args.library.now c.args.cx.now) c.args.library.now (place_of (expr_at c.args.library.now.nodes) c.args.place) c.args.op (expr_at c.args.library.now.nodes c.args.e) c.args.at c.args.place.name (name_of_place _ c.args.place) c.args.cx.now c.args.tally.now c.static_updated.result (c.static_updated.ensures (expr_at c.args.library.now.nodes)) (record { part = c.in_ok-target.target.part; owner = c.in_ok-target.target.owner; ty = c.in_ok-target.target.ty }) (c.in_ok-target.ensures.runs (checker_at c.args.library.now c.args.cx.now) c.args.tally.now) c.lone_wants.result.now (c.lone_wants.ensures ∙ ap (λ (b : Bool). cond b [] (c.in_ok-target.target.ty ∷ [])) c.is_tuple-is_tuple.ensures) c.in_ok-found.found c.values.new.cx c.values.new.tally c.in_ok-found.ensures.runs _ (rw c.as_slice.ensures at (c.in_err-value.ensures.fails (checker_at c.args.library.now c.args.cx.now) c.values.new.cx c.values.new.tally)))

pub update::update_part-returns-in_err-obeyed-clause-fails : goal.update::update_part-returns-in_err-obeyed-clause-fails
update::update_part-returns-in_err-obeyed-clause-fails t c = passed _ _ _ c.from_residual-in_err-obeyed.ensures.1 (fails_update_type (checker_at c.args.library.now c.args.cx.now) c.args.library.now (place_of (expr_at c.args.library.now.nodes) c.args.place) c.args.op (expr_at c.args.library.now.nodes c.args.e) c.args.at c.args.place.name (name_of_place _ c.args.place) c.args.cx.now c.args.tally.now c.static_updated.result (c.static_updated.ensures (expr_at c.args.library.now.nodes)) (record { part = c.in_ok-target.target.part; owner = c.in_ok-target.target.owner; ty = c.in_ok-target.target.ty }) (c.in_ok-target.ensures.runs (checker_at c.args.library.now c.args.cx.now) c.args.tally.now) c.lone_wants.result.now (c.lone_wants.ensures ∙ ap (λ (b : Bool). cond b [] (c.in_ok-target.target.ty ∷ [])) c.is_tuple-is_tuple.ensures) c.in_ok-found.found c.values.new.cx c.values.new.tally c.in_ok-found.ensures.runs c.in_ok-value.value (rw c.as_slice.ensures at (c.in_ok-value.ensures.runs (checker_at c.args.library.now c.args.cx.now) c.values.new.cx c.values.new.tally)) c.spot_of.result c.spot_of.ensures c.is_same_shape-is_same.result c.is_same_shape-is_same.ensures _ (c.in_err-obeyed.ensures.fails (checker_at c.args.library.now c.args.cx.now) c.values.new.cx c.values.new.tally))

pub update::update_part-returns-in_err-may_update-clause-fails : goal.update::update_part-returns-in_err-may_update-clause-fails
update::update_part-returns-in_err-may_update-clause-fails t c = passed _ _ _ c.from_residual-in_err-may_update.ensures.1 (fails_update_rules (checker_at c.args.library.now c.args.cx.now) c.args.library.now (place_of (expr_at c.args.library.now.nodes) c.args.place) c.args.op (expr_at c.args.library.now.nodes c.args.e) c.args.at c.args.place.name (name_of_place _ c.args.place) c.args.cx.now c.args.tally.now c.static_updated.result (c.static_updated.ensures (expr_at c.args.library.now.nodes)) (record { part = c.in_ok-target.target.part; owner = c.in_ok-target.target.owner; ty = c.in_ok-target.target.ty }) (c.in_ok-target.ensures.runs (checker_at c.args.library.now c.args.cx.now) c.args.tally.now) c.lone_wants.result.now (c.lone_wants.ensures ∙ ap (λ (b : Bool). cond b [] (c.in_ok-target.target.ty ∷ [])) c.is_tuple-is_tuple.ensures) c.in_ok-found.found c.values.new.cx c.values.new.tally c.in_ok-found.ensures.runs c.in_ok-value.value (rw c.as_slice.ensures at (c.in_ok-value.ensures.runs (checker_at c.args.library.now c.args.cx.now) c.values.new.cx c.values.new.tally)) c.spot_of.result c.spot_of.ensures c.is_same_shape-is_same.result c.is_same_shape-is_same.ensures (c.in_ok-obeyed.ensures.runs (checker_at c.args.library.now c.args.cx.now) c.values.new.cx c.values.new.tally) _ (c.in_err-may_update.ensures.fails (checker_at c.args.library.now c.args.cx.now) c.values.new.cx c.values.new.tally))

pub update::update_part-returns-clause-runs : goal.update::update_part-returns-clause-runs
update::update_part-returns-clause-runs t c = runs_update (checker_at c.args.library.now c.args.cx.now) c.args.library.now (place_of (expr_at c.args.library.now.nodes) c.args.place) c.args.op (expr_at c.args.library.now.nodes c.args.e) c.args.at c.args.place.name (name_of_place _ c.args.place) c.args.cx.now c.args.tally.now c.static_updated.result (c.static_updated.ensures (expr_at c.args.library.now.nodes)) (record { part = c.in_ok-target.target.part; owner = c.in_ok-target.target.owner; ty = c.in_ok-target.target.ty }) (c.in_ok-target.ensures.runs (checker_at c.args.library.now c.args.cx.now) c.args.tally.now) c.lone_wants.result.now (c.lone_wants.ensures ∙ ap (λ (b : Bool). cond b [] (c.in_ok-target.target.ty ∷ [])) c.is_tuple-is_tuple.ensures) c.in_ok-found.found c.values.new.cx c.values.new.tally c.in_ok-found.ensures.runs c.in_ok-value.value (rw c.as_slice.ensures at (c.in_ok-value.ensures.runs (checker_at c.args.library.now c.args.cx.now) c.values.new.cx c.values.new.tally)) c.spot_of.result c.spot_of.ensures c.is_same_shape-is_same.result c.is_same_shape-is_same.ensures (c.in_ok-obeyed.ensures.runs (checker_at c.args.library.now c.args.cx.now) c.values.new.cx c.values.new.tally) (c.in_ok-may_update.ensures.runs (checker_at c.args.library.now c.args.cx.now) c.values.new.cx c.values.new.tally)

pub forget::forget_as-returns-in_err-target-clause-fails : goal.forget::forget_as-returns-in_err-target-clause-fails
forget::forget_as-returns-in_err-target-clause-fails t c = passed _ _ _ c.from_residual.ensures.1 (fails_bind (checker_at c.args.library.now c.args.cx.now) _ _ c.args.cx.now c.args.tally.now _ (c.in_err-target.ensures.fails (checker_at c.args.library.now c.args.cx.now) c.args.tally.now))

pub forget::forget_as-returns-in_err-found-clause-fails : goal.forget::forget_as-returns-in_err-found-clause-fails
forget::forget_as-returns-in_err-found-clause-fails t c = passed _ _ _ c.from_residual-in_err-found.ensures.1 (fails_forget_value (checker_at c.args.library.now c.args.cx.now) c.args.library.now c.args.name (expr_at c.args.library.now.nodes c.args.e) c.args.at c.args.cx.now c.args.tally.now (record { part = c.in_ok-target.target.part; owner = c.in_ok-target.target.owner; ty = c.in_ok-target.target.ty }) (c.in_ok-target.ensures.runs (checker_at c.args.library.now c.args.cx.now) c.args.tally.now) c.lone_wants.result.now (c.lone_wants.ensures ∙ ap (λ (b : Bool). cond b [] (c.in_ok-target.target.ty ∷ [])) c.is_tuple-is_tuple.ensures) _ c.in_err-found.ensures.fails)

pub forget::forget_as-returns-in_err-value-clause-fails : goal.forget::forget_as-returns-in_err-value-clause-fails
forget::forget_as-returns-in_err-value-clause-fails t c = passed _ _ _ c.from_residual-in_err-value.ensures.1 (fails_forget_single (checker_at c.args.library.now c.args.cx.now) c.args.library.now c.args.name (expr_at c.args.library.now.nodes c.args.e) c.args.at c.args.cx.now c.args.tally.now (record { part = c.in_ok-target.target.part; owner = c.in_ok-target.target.owner; ty = c.in_ok-target.target.ty }) (c.in_ok-target.ensures.runs (checker_at c.args.library.now c.args.cx.now) c.args.tally.now) c.lone_wants.result.now (c.lone_wants.ensures ∙ ap (λ (b : Bool). cond b [] (c.in_ok-target.target.ty ∷ [])) c.is_tuple-is_tuple.ensures) c.in_ok-found.found c.values.new.cx c.values.new.tally c.in_ok-found.ensures.runs _ (rw c.as_slice.ensures at (c.in_err-value.ensures.fails (checker_at c.args.library.now c.args.cx.now) c.values.new.cx c.values.new.tally)))

pub forget::forget_as-returns-in_err-may_forget-clause-fails : goal.forget::forget_as-returns-in_err-may_forget-clause-fails
forget::forget_as-returns-in_err-may_forget-clause-fails t c = passed _ _ _ c.from_residual-in_err-may_forget.ensures.1 (fails_forget_rules (checker_at c.args.library.now c.args.cx.now) c.args.library.now c.args.name (expr_at c.args.library.now.nodes c.args.e) c.args.at c.args.cx.now c.args.tally.now (record { part = c.in_ok-target.target.part; owner = c.in_ok-target.target.owner; ty = c.in_ok-target.target.ty }) (c.in_ok-target.ensures.runs (checker_at c.args.library.now c.args.cx.now) c.args.tally.now) c.lone_wants.result.now (c.lone_wants.ensures ∙ ap (λ (b : Bool). cond b [] (c.in_ok-target.target.ty ∷ [])) c.is_tuple-is_tuple.ensures) c.in_ok-found.found c.values.new.cx c.values.new.tally c.in_ok-found.ensures.runs c.in_ok-value.value (rw c.as_slice.ensures at (c.in_ok-value.ensures.runs (checker_at c.args.library.now c.args.cx.now) c.values.new.cx c.values.new.tally)) _ (c.in_err-may_forget.ensures.fails (checker_at c.args.library.now c.args.cx.now) c.values.new.cx c.values.new.tally))

pub forget::forget_as-returns-clause-runs : goal.forget::forget_as-returns-clause-runs
forget::forget_as-returns-clause-runs t c = runs_forget (checker_at c.args.library.now c.args.cx.now) c.args.library.now c.args.name (expr_at c.args.library.now.nodes c.args.e) c.args.at c.args.cx.now c.args.tally.now (record { part = c.in_ok-target.target.part; owner = c.in_ok-target.target.owner; ty = c.in_ok-target.target.ty }) (c.in_ok-target.ensures.runs (checker_at c.args.library.now c.args.cx.now) c.args.tally.now) c.lone_wants.result.now (c.lone_wants.ensures ∙ ap (λ (b : Bool). cond b [] (c.in_ok-target.target.ty ∷ [])) c.is_tuple-is_tuple.ensures) c.in_ok-found.found c.values.new.cx c.values.new.tally c.in_ok-found.ensures.runs c.in_ok-value.value (rw c.as_slice.ensures at (c.in_ok-value.ensures.runs (checker_at c.args.library.now c.args.cx.now) c.values.new.cx c.values.new.tally)) c.end_var.new.cx (c.in_ok-may_forget.ensures.runs (checker_at c.args.library.now c.args.cx.now) c.values.new.cx c.values.new.tally) (c.end_var.ensures (checker_at c.args.library.now c.args.cx.now) c.values.new.tally)

pub returns::returned_one-returns-in-Ok-is_lone-clause-runs : goal.returns::returned_one-returns-in-Ok-is_lone-clause-runs
returns::returned_one-returns-in-Ok-is_lone-clause-runs t c = runs_one (checker_at c.args.library.now c.args.cx.now) c.args.library.now (expr_at c.args.library.now.nodes c.args.e) c.args.cx.now c.args.tally.now (types_of c.first_wanted-want.result) c.first_wanted-want.ensures c.in-Ok.found c.first_values.new.cx c.first_values.new.tally c.in-Ok.ensures.runs (rw c.as_slice.ensures at (c.in-Ok-is_lone.ensures.runs (checker_at c.args.library.now c.args.cx.now) c.first_values.new.cx c.first_values.new.tally))

pub returns::returned_one-returns-in-Err-is_lone-clause-fails : goal.returns::returned_one-returns-in-Err-is_lone-clause-fails
returns::returned_one-returns-in-Err-is_lone-clause-fails t c = fails_one_lone (checker_at c.args.library.now c.args.cx.now) c.args.library.now (expr_at c.args.library.now.nodes c.args.e) c.args.cx.now c.args.tally.now (types_of c.first_wanted-want.result) c.first_wanted-want.ensures c.in-Ok.found c.first_values.new.cx c.first_values.new.tally c.in-Ok.ensures.runs _ (rw c.as_slice.ensures at (c.in-Err-is_lone.ensures.fails (checker_at c.args.library.now c.args.cx.now) c.first_values.new.cx c.first_values.new.tally))

pub returns::returned_one-returns-in-Err-clause-fails : goal.returns::returned_one-returns-in-Err-clause-fails
returns::returned_one-returns-in-Err-clause-fails t c = fails_one_value (checker_at c.args.library.now c.args.cx.now) c.args.library.now (expr_at c.args.library.now.nodes c.args.e) c.args.cx.now c.args.tally.now (types_of c.first_wanted-want.result) c.first_wanted-want.ensures _ c.in-Err.ensures.fails

pub statement::statement-returns-in_err-count-clause-fails : goal.statement::statement-returns-in_err-count-clause-fails
statement::statement-returns-in_err-count-clause-fails t c = passed _ _ _ c.from_residual.ensures.1 (fails_stmt_count (checker_at c.args.library.now c.args.cx.now) (stmt_at c.args.library.now.nodes c.args.id) (scope_in c.args.library.now c.args.cx.now) c.args.cx.now c.args.tally.now c.args.tally.now _ (c.in_err-count.ensures.fails (checker_at c.args.library.now c.args.cx.now) c.args.cx.now))

pub statement::statement-returns-in_err-step-clause-fails : goal.statement::statement-returns-in_err-step-clause-fails
statement::statement-returns-in_err-step-clause-fails t c = passed _ _ _ c.from_residual-in_err-step.ensures.1 (fails_stmt (checker_at c.args.library.now c.args.cx.now) (stmt_at c.args.library.now.nodes c.args.id) (scope_in c.args.library.now c.args.cx.now) c.args.cx.now c.args.tally.now c.count.new.self _ (c.in_ok-count.ensures.runs (checker_at c.args.library.now c.args.cx.now) c.args.cx.now) c.in_err-step.ensures.fails)

pub statement::statement-returns-clause-runs : goal.statement::statement-returns-clause-runs
statement::statement-returns-clause-runs t c = runs_stmt (checker_at c.args.library.now c.args.cx.now) (stmt_at c.args.library.now.nodes c.args.id) (scope_in c.args.library.now c.args.cx.now) c.args.cx.now c.args.tally.now c.count.new.self c.step.new.cx c.step.new.tally (c.in_ok-count.ensures.runs (checker_at c.args.library.now c.args.cx.now) c.args.cx.now) c.in_ok-step.ensures.runs

pub statement::step-returns-in-Phase-clause-runs : goal.statement::step-returns-in-Phase-clause-runs
statement::step-returns-in-Phase-clause-runs t c = on_ok c.phase.result (λ r. stepped (checker_at c.args.library.now c.args.cx.now) (stmt_at c.args.library.now.nodes c.args.id) _ (scope_in c.args.library.now c.args.cx.now) c.args.cx.now c.args.cx.now c.args.tally.now c.args.tally.now (rw c.tree.ensures at c.stmt.ensures.tree ∙ ap (stmt_grown (expr_at c.args.library.now.nodes) (stmt_at c.args.library.now.nodes)) c.in-Phase.is) r) (c.phase.ensures.runs (checker_at c.args.library.now c.args.cx.now) c.args.tally.now)

pub statement::step-returns-in-If-clause-runs : goal.statement::step-returns-in-If-clause-runs
statement::step-returns-in-If-clause-runs t c = on_ok c.choose.result (λ r. stepped (checker_at c.args.library.now c.args.cx.now) (stmt_at c.args.library.now.nodes c.args.id) _ (scope_in c.args.library.now c.args.cx.now) c.args.cx.now c.choose.new.cx c.args.tally.now c.choose.new.tally (rw c.tree.ensures at c.stmt.ensures.tree ∙ ap (stmt_grown (expr_at c.args.library.now.nodes) (stmt_at c.args.library.now.nodes)) c.in-If.is) r) (c.choose.ensures.runs)

pub statement::step-returns-in-If-clause-fails : goal.statement::step-returns-in-If-clause-fails
statement::step-returns-in-If-clause-fails t c = if_err c.choose.result (λ f r. failing (checker_at c.args.library.now c.args.cx.now) (stmt_at c.args.library.now.nodes c.args.id) _ (scope_in c.args.library.now c.args.cx.now) c.args.cx.now c.args.tally.now f (rw c.tree.ensures at c.stmt.ensures.tree ∙ ap (stmt_grown (expr_at c.args.library.now.nodes) (stmt_at c.args.library.now.nodes)) c.in-If.is) r) (c.choose.ensures.fails)

pub statement::step-returns-in-For-clause-runs : goal.statement::step-returns-in-For-clause-runs
statement::step-returns-in-For-clause-runs t c = on_ok c.unroll.result (λ r. stepped (checker_at c.args.library.now c.args.cx.now) (stmt_at c.args.library.now.nodes c.args.id) _ (scope_in c.args.library.now c.args.cx.now) c.args.cx.now c.unroll.new.cx c.args.tally.now c.unroll.new.tally (rw c.tree.ensures at c.stmt.ensures.tree ∙ ap (stmt_grown (expr_at c.args.library.now.nodes) (stmt_at c.args.library.now.nodes)) c.in-For.is) r) (c.unroll.ensures.runs)

pub statement::step-returns-in-For-clause-fails : goal.statement::step-returns-in-For-clause-fails
statement::step-returns-in-For-clause-fails t c = if_err c.unroll.result (λ f r. failing (checker_at c.args.library.now c.args.cx.now) (stmt_at c.args.library.now.nodes c.args.id) _ (scope_in c.args.library.now c.args.cx.now) c.args.cx.now c.args.tally.now f (rw c.tree.ensures at c.stmt.ensures.tree ∙ ap (stmt_grown (expr_at c.args.library.now.nodes) (stmt_at c.args.library.now.nodes)) c.in-For.is) r) (c.unroll.ensures.fails)

pub statement::misplaced_value-returns-in_err-returned-clause-fails : goal.statement::misplaced_value-returns-in_err-returned-clause-fails
statement::misplaced_value-returns-in_err-returned-clause-fails t c = passed _ _ _ c.from_residual.ensures.1 (fails_misplaced (checker_at c.args.library.now c.args.cx.now) (scope_in c.args.library.now c.args.cx.now) (expr_at c.args.library.now.nodes c.args.e) c.args.at c.args.cx.now c.args.tally.now _ c.in_err-returned.ensures.fails)

pub statement::misplaced_value-returns-clause-fails : goal.statement::misplaced_value-returns-clause-fails
statement::misplaced_value-returns-clause-fails t c = fails_misplaced_there (checker_at c.args.library.now c.args.cx.now) (scope_in c.args.library.now c.args.cx.now) (expr_at c.args.library.now.nodes c.args.e) c.args.at c.args.cx.now c.args.tally.now c.returned.new.cx c.returned.new.tally _ c.in_ok-returned.ensures.runs

pub statement::unused-returns-in-Ok-clause-runs : goal.statement::unused-returns-in-Ok-clause-runs
statement::unused-returns-in-Ok-clause-runs t c = on_ok c.obeyed.result (λ r. runs_unused (checker_at c.args.library.now c.args.cx.now) (scope_in c.args.library.now c.args.cx.now) (expr_at c.args.library.now.nodes c.args.call) c.args.at c.args.cx.now c.args.tally.now c.values.new.cx c.values.new.tally c.in-Ok.found c.in-Ok.ensures.runs c.len.result c.len.ensures r) (c.obeyed.ensures.runs (checker_at c.args.library.now c.args.cx.now) c.values.new.cx c.values.new.tally)

pub statement::unused-returns-in-Ok-clause-fails : goal.statement::unused-returns-in-Ok-clause-fails
statement::unused-returns-in-Ok-clause-fails t c = if_err c.obeyed.result (λ f r. fails_unused_rule (checker_at c.args.library.now c.args.cx.now) (scope_in c.args.library.now c.args.cx.now) (expr_at c.args.library.now.nodes c.args.call) c.args.at c.args.cx.now c.args.tally.now c.values.new.cx c.values.new.tally c.in-Ok.found c.in-Ok.ensures.runs c.len.result c.len.ensures f r) (c.obeyed.ensures.fails (checker_at c.args.library.now c.args.cx.now) c.values.new.cx c.values.new.tally)

pub statement::unused-returns-in-Err-clause-fails : goal.statement::unused-returns-in-Err-clause-fails
statement::unused-returns-in-Err-clause-fails t c = fails_unused (checker_at c.args.library.now c.args.cx.now) (scope_in c.args.library.now c.args.cx.now) (expr_at c.args.library.now.nodes c.args.call) c.args.at c.args.cx.now c.args.tally.now c.in-Err.fault c.in-Err.ensures.fails

pub body::whole_body-returns-in-Ok-end_from-clause-runs : goal.body::whole_body-returns-in-Ok-end_from-clause-runs
body::whole_body-returns-in-Ok-end_from-clause-runs t c = if_ok c.results_or_fault.result (λ vs r. runs_whole (checker_at c.args.library.now c.args.cx.now) c.args.library.now (statements_of (expr_at c.args.library.now.nodes) (stmt_at c.args.library.now.nodes) c.args.body.now.items) c.args.body.now.end c.args.cx.now c.args.tally.now c.in-Ok.found c.body_values.new.cx c.body_values.new.tally (rw c.as_slice.ensures at c.in-Ok.ensures.runs) c.end_from.new.cx (c.in-Ok-end_from.ensures.runs (checker_at c.args.library.now c.args.cx.now) c.body_values.new.tally) vs r) (c.results_or_fault.ensures.runs (checker_at c.args.library.now c.args.cx.now) c.end_from.new.cx c.body_values.new.tally)

pub body::whole_body-returns-in-Ok-end_from-clause-fails : goal.body::whole_body-returns-in-Ok-end_from-clause-fails
body::whole_body-returns-in-Ok-end_from-clause-fails t c = if_err c.results_or_fault.result (λ f r. fails_whole_results (checker_at c.args.library.now c.args.cx.now) c.args.library.now (statements_of (expr_at c.args.library.now.nodes) (stmt_at c.args.library.now.nodes) c.args.body.now.items) c.args.body.now.end c.args.cx.now c.args.tally.now c.in-Ok.found c.body_values.new.cx c.body_values.new.tally (rw c.as_slice.ensures at c.in-Ok.ensures.runs) c.end_from.new.cx (c.in-Ok-end_from.ensures.runs (checker_at c.args.library.now c.args.cx.now) c.body_values.new.tally) f r) (c.results_or_fault.ensures.fails (checker_at c.args.library.now c.args.cx.now) c.end_from.new.cx c.body_values.new.tally)

pub body::whole_body-returns-in-Err-end_from-clause-fails : goal.body::whole_body-returns-in-Err-end_from-clause-fails
body::whole_body-returns-in-Err-end_from-clause-fails t c = fails_whole_end (checker_at c.args.library.now c.args.cx.now) c.args.library.now (statements_of (expr_at c.args.library.now.nodes) (stmt_at c.args.library.now.nodes) c.args.body.now.items) c.args.body.now.end c.args.cx.now c.args.tally.now c.in-Ok.found c.body_values.new.cx c.body_values.new.tally (rw c.as_slice.ensures at c.in-Ok.ensures.runs) _ (c.in-Err-end_from.ensures.fails (checker_at c.args.library.now c.args.cx.now) c.body_values.new.tally)

pub body::whole_body-returns-in-Err-clause-fails : goal.body::whole_body-returns-in-Err-clause-fails
body::whole_body-returns-in-Err-clause-fails t c = fails_whole (checker_at c.args.library.now c.args.cx.now) c.args.library.now (statements_of (expr_at c.args.library.now.nodes) (stmt_at c.args.library.now.nodes) c.args.body.now.items) c.args.body.now.end c.args.cx.now c.args.tally.now _ (rw c.as_slice.ensures at c.in-Err.ensures.fails)

pub body::given-returns-in-Ok-counted-clause-runs : goal.body::given-returns-in-Ok-counted-clause-runs
body::given-returns-in-Ok-counted-clause-runs t c = runs_given (checker_at c.args.library.now c.args.cx.now) c.args.library.now (expr_at c.args.library.now.nodes c.args.e) c.args.at c.args.cx.now c.args.tally.now c.in-Ok.found c.returned.new.cx c.returned.new.tally c.in-Ok.ensures.runs (rw c.as_slice.ensures at (c.in-Ok-counted.ensures.runs (checker_at c.args.library.now c.args.cx.now) c.returned.new.cx c.returned.new.tally))

pub body::given-returns-in-Err-counted-clause-fails : goal.body::given-returns-in-Err-counted-clause-fails
body::given-returns-in-Err-counted-clause-fails t c = fails_given_count (checker_at c.args.library.now c.args.cx.now) c.args.library.now (expr_at c.args.library.now.nodes c.args.e) c.args.at c.args.cx.now c.args.tally.now c.in-Ok.found c.returned.new.cx c.returned.new.tally c.in-Ok.ensures.runs _ (rw c.as_slice.ensures at (c.in-Err-counted.ensures.fails (checker_at c.args.library.now c.args.cx.now) c.returned.new.cx c.returned.new.tally))

pub body::given-returns-in-Err-clause-fails : goal.body::given-returns-in-Err-clause-fails
body::given-returns-in-Err-clause-fails t c = fails_given (checker_at c.args.library.now c.args.cx.now) c.args.library.now (expr_at c.args.library.now.nodes c.args.e) c.args.at c.args.cx.now c.args.tally.now _ c.in-Err.ensures.fails

pub body::last_values-returns-in-Ok-ended-clause-runs : goal.body::last_values-returns-in-Ok-ended-clause-runs
body::last_values-returns-in-Ok-ended-clause-runs t c = runs_last_return (checker_at c.args.library.now c.args.cx.now) (expr_at c.args.library.now.nodes) c.return_of.result (stmt_at c.args.library.now.nodes c.args.id) (scope_in c.args.library.now c.args.cx.now) c.args.cx.now c.args.tally.now (c.return_of.ensures.step (scope_in c.args.library.now c.args.cx.now)) c.in-Some.value c.in-Some.at c.in-Some.is c.count.new.self c.ended.new.tally c.in-Ok-ended.found c.ended.new.cx (c.in-Ok.ensures.runs (checker_at c.args.library.now c.args.cx.now) c.args.cx.now) c.in-Ok-ended.ensures.runs

pub body::last_values-returns-in-Err-ended-clause-fails : goal.body::last_values-returns-in-Err-ended-clause-fails
body::last_values-returns-in-Err-ended-clause-fails t c = fails_last_return (checker_at c.args.library.now c.args.cx.now) (expr_at c.args.library.now.nodes) c.return_of.result (stmt_at c.args.library.now.nodes c.args.id) (scope_in c.args.library.now c.args.cx.now) c.args.cx.now c.args.tally.now (c.return_of.ensures.step (scope_in c.args.library.now c.args.cx.now)) c.in-Some.value c.in-Some.at c.in-Some.is c.count.new.self c.in-Err-ended.fault (c.in-Ok.ensures.runs (checker_at c.args.library.now c.args.cx.now) c.args.cx.now) c.in-Err-ended.ensures.fails

pub body::last_values-returns-in-Err-clause-fails : goal.body::last_values-returns-in-Err-clause-fails
body::last_values-returns-in-Err-clause-fails t c = fails_last_count (checker_at c.args.library.now c.args.cx.now) (expr_at c.args.library.now.nodes) c.return_of.result (stmt_at c.args.library.now.nodes c.args.id) (scope_in c.args.library.now c.args.cx.now) c.args.cx.now c.args.tally.now (c.return_of.ensures.step (scope_in c.args.library.now c.args.cx.now)) c.in-Some.value c.in-Some.at c.in-Some.is c.in-Err.fault (c.in-Err.ensures.fails (checker_at c.args.library.now c.args.cx.now) c.args.cx.now)

pub body::last_values-returns-in-Ok-statement-clause-runs : goal.body::last_values-returns-in-Ok-statement-clause-runs
body::last_values-returns-in-Ok-statement-clause-runs t c = runs_last_other (checker_at c.args.library.now c.args.cx.now) (expr_at c.args.library.now.nodes) c.return_of.result (stmt_at c.args.library.now.nodes c.args.id) (scope_in c.args.library.now c.args.cx.now) c.args.cx.now c.args.tally.now (c.return_of.ensures.step (scope_in c.args.library.now c.args.cx.now)) c.in-None.is c.statement.new.cx c.statement.new.tally c.in-Ok-statement.ensures.runs

pub body::last_values-returns-in-Err-statement-clause-fails : goal.body::last_values-returns-in-Err-statement-clause-fails
body::last_values-returns-in-Err-statement-clause-fails t c = fails_last_other (checker_at c.args.library.now c.args.cx.now) (expr_at c.args.library.now.nodes) c.return_of.result (stmt_at c.args.library.now.nodes c.args.id) (scope_in c.args.library.now c.args.cx.now) c.args.cx.now c.args.tally.now (c.return_of.ensures.step (scope_in c.args.library.now c.args.cx.now)) c.in-None.is c.in-Err-statement.fault c.in-Err-statement.ensures.fails

pub block::condition-values-requires : goal.block::condition-values-requires
block::condition-values-requires t c = ((let below = level_less c.args.cx.now.depth c.args.cx.now.depth (length c.args.library.now.nodes.stmts) 0 1 refl (omega arith) in omega (arith, c.decreases, below)), (c.requires.cond, (c.requires.this, c.requires.depth)))

pub assign::assign_name-values-requires : goal.assign::assign_name-values-requires
assign::assign_name-values-requires t c = ((let below = level_less c.args.cx.now.depth c.args.cx.now.depth (length c.args.library.now.nodes.stmts) 0 1 refl (omega arith) in omega (arith, c.decreases, below)), (c.requires.id, (c.requires.this, c.requires.depth)))

pub assign::spread-values-requires : goal.assign::spread-values-requires
assign::spread-values-requires t c = ((let below = level_less c.args.cx.now.depth c.args.cx.now.depth (length c.args.library.now.nodes.stmts) 0 1 refl (omega arith) in omega (arith, c.decreases, below)), (c.requires.id, (c.requires.this, c.requires.depth)))

pub update::update_part-values-requires : goal.update::update_part-values-requires
update::update_part-values-requires t c = ((let below = level_less c.args.cx.now.depth c.args.cx.now.depth (length c.args.library.now.nodes.stmts) 0 1 refl (omega arith) in omega (arith, c.decreases, below)), (c.requires.id, (c.requires.this, c.requires.depth)))

pub forget::forget_as-values-requires : goal.forget::forget_as-values-requires
forget::forget_as-values-requires t c = ((let below = level_less c.args.cx.now.depth c.args.cx.now.depth (length c.args.library.now.nodes.stmts) 0 1 refl (omega arith) in omega (arith, c.decreases, below)), (c.requires.id, (c.requires.this, c.requires.depth)))

pub statement::unused-values-requires : goal.statement::unused-values-requires
statement::unused-values-requires t c = ((let below = level_less c.args.cx.now.depth c.args.cx.now.depth (length c.args.library.now.nodes.stmts) 0 1 refl (omega arith) in omega (arith, c.decreases, below)), (c.requires.id, (c.requires.this, c.requires.depth)))

pub assign::assign_part-values-requires : goal.assign::assign_part-values-requires
assign::assign_part-values-requires t c =
    let kept = (stays_both (c.in_ok-fresh.ensures.runs (checker_at c.args.library.now c.args.cx.now) c.args.tally.now).stays (c.in_ok-add_part.ensures.runs (checker_at c.args.library.now c.args.cx.now) c.args.tally.now).stays) in
    (let below = level_less c.add_part.new.cx.depth c.args.cx.now.depth (length c.args.library.now.nodes.stmts) 0 1 kept.depth (omega arith) in omega (arith, c.decreases, below), (c.requires.id, (subst (λ (n : ℕ). n < length c.args.library.now.funs) (sym kept.this) c.requires.this, subst (λ (n : ℕ). n ≤ 64) (sym kept.depth) c.requires.depth)))

pub returns::first_values-values-requires : goal.returns::first_values-values-requires
returns::first_values-values-requires t c = ((let below = level_less c.args.cx.now.depth c.args.cx.now.depth (length c.args.library.now.nodes.stmts) 0 1 refl (omega arith) in omega (arith, c.decreases, below)), (c.requires.id, (c.requires.this, c.requires.depth)))

pub returns::first_values-values-requires-in-None : goal.returns::first_values-values-requires-in-None
returns::first_values-values-requires-in-None t c = ((let below = level_less c.args.cx.now.depth c.args.cx.now.depth (length c.args.library.now.nodes.stmts) 0 1 refl (omega arith) in omega (arith, c.decreases, below)), (c.requires.id, (c.requires.this, c.requires.depth)))

pub returns::returned_tuple-values-requires : goal.returns::returned_tuple-values-requires
returns::returned_tuple-values-requires t c = ((let below = level_less c.args.cx.now.depth c.args.cx.now.depth (length c.args.library.now.nodes.stmts) 0 1 refl (omega arith) in omega (arith, c.decreases, below)), (c.requires.id, (c.requires.this, c.requires.depth)))

pub returns::returned_one-first_values-requires : goal.returns::returned_one-first_values-requires
returns::returned_one-first_values-requires t c = ((let below = level_less c.args.cx.now.depth c.args.cx.now.depth (length c.args.library.now.nodes.stmts) 1 2 refl (omega arith) in omega (arith, c.decreases, below)), (c.requires.id, (c.requires.this, c.requires.depth)))

pub returns::returned-returned_tuple-requires : goal.returns::returned-returned_tuple-requires
returns::returned-returned_tuple-requires t c = ((let below = level_less c.args.cx.now.depth c.args.cx.now.depth (length c.args.library.now.nodes.stmts) 1 3 refl (omega arith) in omega (arith, c.decreases, below)), (c.requires.id, (c.requires.this, c.requires.depth)))

pub returns::returned-returned_one-requires : goal.returns::returned-returned_one-requires
returns::returned-returned_one-requires t c = ((let below = level_less c.args.cx.now.depth c.args.cx.now.depth (length c.args.library.now.nodes.stmts) 2 3 refl (omega arith) in omega (arith, c.decreases, below)), (c.requires.id, (c.requires.this, c.requires.depth)))

pub statement::assign-assign_name-requires : goal.statement::assign-assign_name-requires
statement::assign-assign_name-requires t c = ((let below = level_less c.args.cx.now.depth c.args.cx.now.depth (length c.args.library.now.nodes.stmts) 1 2 refl (omega arith) in omega (arith, c.decreases, below)), (c.requires.id, (c.requires.this, c.requires.depth)))

pub statement::assign-assign_part-requires : goal.statement::assign-assign_part-requires
statement::assign-assign_part-requires t c = ((let below = level_less c.args.cx.now.depth c.args.cx.now.depth (length c.args.library.now.nodes.stmts) 1 2 refl (omega arith) in omega (arith, c.decreases, below)), (c.requires.parts, (c.requires.first, (c.requires.id, (c.requires.this, c.requires.depth)))))

pub statement::statement-step-requires : goal.statement::statement-step-requires
statement::statement-step-requires t c = ((let below = level_less c.args.cx.now.depth c.args.cx.now.depth (length c.args.library.now.nodes.stmts) (8 * c.args.id.number + 6) (8 * c.args.id.number + 7) refl (omega arith) in omega (arith, c.decreases, below)), (c.requires.id, (c.requires.this, c.requires.depth)))

pub block::run_time-condition-requires : goal.block::run_time-condition-requires
block::run_time-condition-requires t c = (let below = level_less c.args.cx.now.depth c.args.cx.now.depth (length c.args.library.now.nodes.stmts) 1 (8 * max (stmts_top c.args.then.now.items) (stmts_top (else_stmts c.args.other.now)) + 4) refl (omega arith) in omega (arith, c.decreases, below), (c.requires.cond, (c.requires.this, c.requires.depth)))

pub statement::step-assign-requires : goal.statement::step-assign-requires
statement::step-assign-requires t c = let P = subst (λ x. AreExprsBelow (length c.args.library.now.nodes.exprs) (stmt_exprs x)) c.in-Assign.is (rw c.tree.ensures at c.stmt.ensures.parts) in ((let below = level_less c.args.cx.now.depth c.args.cx.now.depth (length c.args.library.now.nodes.stmts) 2 (8 * c.args.id.number + 6) refl (omega arith) in omega (arith, c.decreases, below)), (exprs_below_front _ (place_exprs c.in-Assign.target) _ P, (subst StmtHasFirst c.in-Assign.is c.stmt.ensures.first, ((exprs_below_back _ (place_exprs c.in-Assign.target) _ P).0, (c.requires.this, c.requires.depth)))))

pub statement::step-spread-requires : goal.statement::step-spread-requires
statement::step-spread-requires t c = let P = subst (λ x. AreExprsBelow (length c.args.library.now.nodes.exprs) (stmt_exprs x)) c.in-Spread.is (rw c.tree.ensures at c.stmt.ensures.parts) in ((let below = level_less c.args.cx.now.depth c.args.cx.now.depth (length c.args.library.now.nodes.stmts) 1 (8 * c.args.id.number + 6) refl (omega arith) in omega (arith, c.decreases, below)), (P.0, (c.requires.this, c.requires.depth)))

pub statement::step-update_part-requires : goal.statement::step-update_part-requires
statement::step-update_part-requires t c = let P = subst (λ x. AreExprsBelow (length c.args.library.now.nodes.exprs) (stmt_exprs x)) c.in-Update.is (rw c.tree.ensures at c.stmt.ensures.parts) in ((let below = level_less c.args.cx.now.depth c.args.cx.now.depth (length c.args.library.now.nodes.stmts) 1 (8 * c.args.id.number + 6) refl (omega arith) in omega (arith, c.decreases, below)), (exprs_below_front _ (place_exprs c.in-Update.target) _ P, (subst StmtHasFirst c.in-Update.is c.stmt.ensures.first, ((exprs_below_back _ (place_exprs c.in-Update.target) _ P).0, (c.requires.this, c.requires.depth)))))

pub statement::step-forget-requires : goal.statement::step-forget-requires
statement::step-forget-requires t c = let P = subst (λ x. AreExprsBelow (length c.args.library.now.nodes.exprs) (stmt_exprs x)) c.in-Forget.is (rw c.tree.ensures at c.stmt.ensures.parts) in ((let below = level_less c.args.cx.now.depth c.args.cx.now.depth (length c.args.library.now.nodes.stmts) 2 (8 * c.args.id.number + 6) refl (omega arith) in omega (arith, c.decreases, below)), (listed_some _ c.in-Forget.value P, (c.requires.this, c.requires.depth)))

pub statement::step-unused-requires : goal.statement::step-unused-requires
statement::step-unused-requires t c = let P = subst (λ x. AreExprsBelow (length c.args.library.now.nodes.exprs) (stmt_exprs x)) c.in-Call.is (rw c.tree.ensures at c.stmt.ensures.parts) in ((let below = level_less c.args.cx.now.depth c.args.cx.now.depth (length c.args.library.now.nodes.stmts) 1 (8 * c.args.id.number + 6) refl (omega arith) in omega (arith, c.decreases, below)), (P.0, (c.requires.this, c.requires.depth)))

pub statement::step-choose-requires : goal.statement::step-choose-requires
statement::step-choose-requires t c = let P = subst (λ x. AreExprsBelow (length c.args.library.now.nodes.exprs) (stmt_exprs x)) c.in-If.is (rw c.tree.ensures at c.stmt.ensures.parts) in let S : AreStmtsBelow c.args.id.number (c.in-If.then.items ++ else_stmts c.in-If.other) = subst (λ x. AreStmtsBelow c.args.id.number (stmt_stmts x)) c.in-If.is c.stmt.ensures.smaller in let A = stmts_below_front c.args.id.number c.in-If.then.items (else_stmts c.in-If.other) S in let B = stmts_below_back c.args.id.number c.in-If.then.items (else_stmts c.in-If.other) S in let below = level_less c.args.cx.now.depth c.args.cx.now.depth (length c.args.library.now.nodes.stmts) (8 * max (stmts_top c.in-If.then.items) (stmts_top (else_stmts c.in-If.other)) + 5) (8 * c.args.id.number + 6) refl (omega (arith, stmts_top_le c.args.id.number c.in-If.then.items A, stmts_top_le c.args.id.number (else_stmts c.in-If.other) B)) in (omega (arith, c.decreases, below), (P.0, (stmts_below_more c.args.id.number _ c.in-If.then.items (omega (arith, c.requires.id)) A, (stmts_below_more c.args.id.number _ (else_stmts c.in-If.other) (omega (arith, c.requires.id)) B, (c.requires.this, c.requires.depth)))))

pub statement::step-unroll-requires : goal.statement::step-unroll-requires
statement::step-unroll-requires t c = let P = subst (λ x. AreExprsBelow (length c.args.library.now.nodes.exprs) (stmt_exprs x)) c.in-For.is (rw c.tree.ensures at c.stmt.ensures.parts) in let A : AreStmtsBelow c.args.id.number c.in-For.body.items = subst (λ x. AreStmtsBelow c.args.id.number (stmt_stmts x)) c.in-For.is c.stmt.ensures.smaller in let below = level_less c.args.cx.now.depth c.args.cx.now.depth (length c.args.library.now.nodes.stmts) (8 * stmts_top c.in-For.body.items + 4) (8 * c.args.id.number + 6) refl (omega (arith, stmts_top_le c.args.id.number c.in-For.body.items A)) in (omega (arith, c.decreases, below), (P.0, (P.1.0, (stmts_below_more c.args.id.number _ c.in-For.body.items (omega (arith, c.requires.id)) A, (c.requires.this, c.requires.depth)))))

pub statement::step-misplaced-requires : goal.statement::step-misplaced-requires
statement::step-misplaced-requires t c = let P = subst (λ x. AreExprsBelow (length c.args.library.now.nodes.exprs) (stmt_exprs x)) c.in-Return.is (rw c.tree.ensures at c.stmt.ensures.parts) in ((let below = level_less c.args.cx.now.depth c.args.cx.now.depth (length c.args.library.now.nodes.stmts) 5 (8 * c.args.id.number + 6) refl (omega arith) in omega (arith, c.decreases, below)), (listed_some _ c.in-Return.value P, (c.requires.this, c.requires.depth)))

pub statement::misplaced-misplaced_value-requires : goal.statement::misplaced-misplaced_value-requires
statement::misplaced-misplaced_value-requires t c = ((let below = level_less c.args.cx.now.depth c.args.cx.now.depth (length c.args.library.now.nodes.stmts) 4 5 refl (omega arith) in omega (arith, c.decreases, below)), (subst (λ v. IfSome v (λ e. e.number < length c.args.library.now.nodes.exprs)) c.in-Some.is c.requires.id, (c.requires.this, c.requires.depth)))

pub statement::misplaced_value-returned-requires : goal.statement::misplaced_value-returned-requires
statement::misplaced_value-returned-requires t c = ((let below = level_less c.args.cx.now.depth c.args.cx.now.depth (length c.args.library.now.nodes.stmts) 3 4 refl (omega arith) in omega (arith, c.decreases, below)), (c.requires.id, (c.requires.this, c.requires.depth)))

pub statement::forget-forget_as-requires : goal.statement::forget-forget_as-requires
statement::forget-forget_as-requires t c = ((let below = level_less c.args.cx.now.depth c.args.cx.now.depth (length c.args.library.now.nodes.stmts) 1 2 refl (omega arith) in omega (arith, c.decreases, below)), (subst (λ v. IfSome v (λ e. e.number < length c.args.library.now.nodes.exprs)) c.in-Some.is c.requires.id, (c.requires.this, c.requires.depth)))

pub statement::step-returns-in-Forget-clause-runs : goal.statement::step-returns-in-Forget-clause-runs
statement::step-returns-in-Forget-clause-runs t c = on_ok c.forget.result (λ r. runs_forget_step (expr_at c.args.library.now.nodes) (stmt_at c.args.library.now.nodes) c.in-Forget.name c.in-Forget.at (scope_in c.args.library.now c.args.cx.now) (checker_at c.args.library.now c.args.cx.now) (stmt_at c.args.library.now.nodes c.args.id) c.in-Forget.value c.args.cx.now c.args.tally.now (rw c.tree.ensures at c.stmt.ensures.tree ∙ ap (stmt_grown (expr_at c.args.library.now.nodes) (stmt_at c.args.library.now.nodes)) c.in-Forget.is) c.forget.new.cx c.forget.new.tally r) c.forget.ensures.runs

pub statement::step-returns-in-Forget-clause-fails : goal.statement::step-returns-in-Forget-clause-fails
statement::step-returns-in-Forget-clause-fails t c = if_err c.forget.result (λ f r. fails_forget_step (expr_at c.args.library.now.nodes) (stmt_at c.args.library.now.nodes) c.in-Forget.name c.in-Forget.at (scope_in c.args.library.now c.args.cx.now) (checker_at c.args.library.now c.args.cx.now) (stmt_at c.args.library.now.nodes c.args.id) c.in-Forget.value c.args.cx.now c.args.tally.now (rw c.tree.ensures at c.stmt.ensures.tree ∙ ap (stmt_grown (expr_at c.args.library.now.nodes) (stmt_at c.args.library.now.nodes)) c.in-Forget.is) f r) c.forget.ensures.fails

pub statement::forget-returns-in-None-clause-runs : goal.statement::forget-returns-in-None-clause-runs
statement::forget-returns-in-None-clause-runs t c = subst (λ v. OnOk c.forget_name.result (Runs (checker_at c.args.library.now c.args.cx.now) (forget_step (scope_in c.args.library.now c.args.cx.now) c.args.name (option_map (expr_at c.args.library.now.nodes) v) c.args.at) c.args.cx.now c.args.tally.now tt c.forget_name.new.cx c.args.tally.now)) (sym c.in-None.is) (c.forget_name.ensures.runs (checker_at c.args.library.now c.args.cx.now) c.args.tally.now)

pub statement::forget-returns-in-None-clause-fails : goal.statement::forget-returns-in-None-clause-fails
statement::forget-returns-in-None-clause-fails t c = subst (λ v. IfErr c.forget_name.result (λ f. Fails (checker_at c.args.library.now c.args.cx.now) (forget_step (scope_in c.args.library.now c.args.cx.now) c.args.name (option_map (expr_at c.args.library.now.nodes) v) c.args.at) c.args.cx.now c.args.tally.now f)) (sym c.in-None.is) (c.forget_name.ensures.fails (checker_at c.args.library.now c.args.cx.now) c.args.tally.now)

pub body::given-returned-requires : goal.body::given-returned-requires
body::given-returned-requires t c = ((let below = level_less c.args.cx.now.depth c.args.cx.now.depth (length c.args.library.now.nodes.stmts) 3 4 refl (omega arith) in omega (arith, c.decreases, below)), (c.requires.id, (c.requires.this, c.requires.depth)))

pub body::ended-given-requires : goal.body::ended-given-requires
body::ended-given-requires t c = ((let below = level_less c.args.cx.now.depth c.args.cx.now.depth (length c.args.library.now.nodes.stmts) 4 5 refl (omega arith) in omega (arith, c.decreases, below)), (subst (λ v. IfSome v (λ e. e.number < length c.args.library.now.nodes.exprs)) c.in-Some.is c.requires.id, (c.requires.this, c.requires.depth)))

pub body::last_values-ended-requires : goal.body::last_values-ended-requires
body::last_values-ended-requires t c = ((let below = level_less c.args.cx.now.depth c.args.cx.now.depth (length c.args.library.now.nodes.stmts) 5 (8 * length c.args.library.now.nodes.stmts + 8) refl (omega arith) in omega (arith, c.decreases, below)), (c.in-Some.ensures.value, (c.requires.this, c.requires.depth)))

pub body::last_values-statement-requires : goal.body::last_values-statement-requires
body::last_values-statement-requires t c = ((let below = level_less c.args.cx.now.depth c.args.cx.now.depth (length c.args.library.now.nodes.stmts) (8 * c.args.id.number + 7) (8 * length c.args.library.now.nodes.stmts + 8) refl (omega (arith, c.requires.id)) in omega (arith, c.decreases, below)), (c.requires.id, (c.requires.this, c.requires.depth)))

pub body::whole_body-body_values-requires : goal.body::whole_body-body_values-requires
body::whole_body-body_values-requires t c = ((let below = level_less c.args.cx.now.depth c.args.cx.now.depth (length c.args.library.now.nodes.stmts) (8 * length c.args.library.now.nodes.stmts + 9) (8 * length c.args.library.now.nodes.stmts + 13) refl (omega arith) in omega (arith, c.decreases, below)), (subst (λ xs. AreStmtsBelow (length c.args.library.now.nodes.stmts) xs) (sym c.as_slice.ensures) c.requires.body, (c.requires.this, c.requires.depth)))

pub body::body_values-statements-requires : goal.body::body_values-statements-requires
body::body_values-statements-requires t c = let B = before_below (length c.args.library.now.nodes.stmts) c.args.ids.now (record { number = 0 }) c.in-len1-up.len_at_least c.requires.ids in let below = level_less c.args.cx.now.depth c.args.cx.now.depth (length c.args.library.now.nodes.stmts) (8 * stmts_top (take (length c.args.ids.now - 1) c.args.ids.now)) (8 * length c.args.library.now.nodes.stmts + 9) refl (omega (arith, stmts_top_le (length c.args.library.now.nodes.stmts) (take (length c.args.ids.now - 1) c.args.ids.now) B)) in (omega (arith, c.decreases, below), (B, (c.requires.this, c.requires.depth)))

pub body::body_values-last_values-requires : goal.body::body_values-last_values-requires
body::body_values-last_values-requires t c = let kept = c.in-Ok.ensures.runs.stays in let below = level_less c.statements.new.cx.depth c.args.cx.now.depth (length c.args.library.now.nodes.stmts) (8 * length c.args.library.now.nodes.stmts + 8) (8 * length c.args.library.now.nodes.stmts + 9) kept.depth (omega arith) in (omega (arith, c.decreases, below), (last_below (length c.args.library.now.nodes.stmts) c.args.ids.now (record { number = 0 }) c.in-len1-up.len_at_least c.requires.ids, (subst (λ (n : ℕ). n < length c.args.library.now.funs) (sym kept.this) c.requires.this, subst (λ (n : ℕ). n ≤ 64) (sym kept.depth) c.requires.depth)))

pub body::body_values-returns-in-Ok-clause-runs : goal.body::body_values-returns-in-Ok-clause-runs
body::body_values-returns-in-Ok-clause-runs t c = if_ok c.last_values.result (λ vs r. runs_last c.args.library.now (expr_at c.args.library.now.nodes) (stmt_at c.args.library.now.nodes) c.args.ids.now (record { number = 0 }) c.in-len1-up.len_at_least c.args.cx.now c.args.tally.now c.statements.new.cx c.statements.new.tally c.in-Ok.ensures.runs vs c.last_values.new.cx c.last_values.new.tally r) c.last_values.ensures.runs

pub body::body_values-returns-in-Ok-clause-fails : goal.body::body_values-returns-in-Ok-clause-fails
body::body_values-returns-in-Ok-clause-fails t c = if_err c.last_values.result (λ f r. fails_last c.args.library.now (expr_at c.args.library.now.nodes) (stmt_at c.args.library.now.nodes) c.args.ids.now (record { number = 0 }) c.in-len1-up.len_at_least c.args.cx.now c.args.tally.now c.statements.new.cx c.statements.new.tally c.in-Ok.ensures.runs f r) c.last_values.ensures.fails

pub body::body_values-returns-in-Err-clause-fails : goal.body::body_values-returns-in-Err-clause-fails
body::body_values-returns-in-Err-clause-fails t c = fails_before c.args.library.now (expr_at c.args.library.now.nodes) (stmt_at c.args.library.now.nodes) c.args.ids.now (record { number = 0 }) c.in-len1-up.len_at_least c.args.cx.now c.args.tally.now c.in-Err.fault c.in-Err.ensures.fails

pub block::in_turn-returns-clause-runs : goal.block::in_turn-returns-clause-runs
block::in_turn-returns-clause-runs t c = runs_turns c.args.library.now (expr_at c.args.library.now.nodes) (stmt_at c.args.library.now.nodes) c.args.then.now.items _ _ c.args.other.now c.args.then.now.end c.args.cx.now c.args.tally.now c.requires.shared c.as_slice.ensures c.items_of.ensures _ _ _ _ c.in_ok-statements.ensures.runs c.in_ok-statements-2.ensures.runs

pub block::in_turn-returns-in_err-statements-clause-fails : goal.block::in_turn-returns-in_err-statements-clause-fails
block::in_turn-returns-in_err-statements-clause-fails t c = if_err_from _ _ _ c.from_residual.ensures.1 (fails_first_turn c.args.library.now (expr_at c.args.library.now.nodes) (stmt_at c.args.library.now.nodes) c.args.then.now.items _ _ c.args.other.now c.args.then.now.end c.args.cx.now c.args.tally.now c.requires.shared c.as_slice.ensures refl _ c.in_err-statements.ensures.fails)

pub block::in_turn-returns-in_err-statements-2-clause-fails : goal.block::in_turn-returns-in_err-statements-2-clause-fails
block::in_turn-returns-in_err-statements-2-clause-fails t c = if_err_from _ _ _ c.from_residual-in_err-statements-2.ensures.1 (fails_second_turn c.args.library.now (expr_at c.args.library.now.nodes) (stmt_at c.args.library.now.nodes) c.args.then.now.items _ _ c.args.other.now c.args.then.now.end c.args.cx.now c.args.tally.now c.requires.shared c.as_slice.ensures c.items_of.ensures _ _ _ c.in_ok-statements.ensures.runs c.in_err-statements-2.ensures.fails)

pub block::in_turn-statements-requires : goal.block::in_turn-statements-requires
block::in_turn-statements-requires t c = ((let below = level_less c.args.cx.now.depth c.args.cx.now.depth (length c.args.library.now.nodes.stmts) (8 * stmts_top c.as_slice.result.now) (8 * max (stmts_top c.args.then.now.items) (stmts_top (else_stmts c.args.other.now)) + 2) (refl) (omega (arith, ap stmts_top c.as_slice.ensures)) in omega (arith, c.decreases, below)), (subst (λ xs. AreStmtsBelow (length c.args.library.now.nodes.stmts) xs) (sym c.as_slice.ensures) c.requires.then, (c.requires.this, c.requires.depth)))

pub block::in_turn-statements-requires-2 : goal.block::in_turn-statements-requires-2
block::in_turn-statements-requires-2 t c = let kept = c.in_ok-statements.ensures.runs.stays in ((let below = level_less c.statements.new.cx.depth c.args.cx.now.depth (length c.args.library.now.nodes.stmts) (8 * stmts_top c.items_of.result.now) (8 * max (stmts_top c.args.then.now.items) (stmts_top (else_stmts c.args.other.now)) + 2) kept.depth (omega (arith, ap stmts_top c.items_of.ensures)) in omega (arith, c.decreases, below)), (subst (λ xs. AreStmtsBelow (length c.args.library.now.nodes.stmts) xs) (sym c.items_of.ensures) c.requires.other, (subst (λ n. n < length c.args.library.now.funs) (sym kept.this) c.requires.this, subst (λ n. n ≤ 64) (sym kept.depth) c.requires.depth)))

pub block::both-in_turn-requires : goal.block::both-in_turn-requires
block::both-in_turn-requires t c = ((let below = level_less c.args.cx.now.depth c.args.cx.now.depth (length c.args.library.now.nodes.stmts) (8 * max (stmts_top c.args.then.now.items) (stmts_top (else_stmts c.args.other.now)) + 2) (8 * max (stmts_top c.args.then.now.items) (stmts_top (else_stmts c.args.other.now)) + 3) refl (omega arith) in omega (arith, c.decreases, below)), (c.requires.then, (c.requires.other, (sym c.both_leave.ensures ∙ c.if-both_leave.true, (c.requires.this, c.requires.depth)))))

pub block::both-apart-requires : goal.block::both-apart-requires
block::both-apart-requires t c = ((let below = level_less c.args.cx.now.depth c.args.cx.now.depth (length c.args.library.now.nodes.stmts) (8 * max (stmts_top c.args.then.now.items) (stmts_top (else_stmts c.args.other.now)) + 2) (8 * max (stmts_top c.args.then.now.items) (stmts_top (else_stmts c.args.other.now)) + 3) refl (omega arith) in omega (arith, c.decreases, below)), (c.requires.then, (c.requires.other, (c.requires.this, c.requires.depth))))
