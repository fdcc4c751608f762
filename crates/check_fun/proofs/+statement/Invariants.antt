use Rattle.std.proofs.Common.{drop, ◌≡◌, ◌-◌}
use Rattle.silq_tree.specs.Arena.{expr_at, stmt_at}
use Rattle.silq_tree.specs.Standing.{statements_of, block_of}
use Rattle.check_fun.specs.Counting.{checker_at}
use Rattle.check_scope.specs.State.{scope_in, context_of}
use Rattle.check_fun.specs.Statement.{stmts as stmts_of, rounds as rounds_of}
use Rattle.silq_types.specs.Programs.{distance}
use Rattle.check_fun.proofs.BlockSteps.{Ahead}
use Rattle.std.specs.Prelude.{◌-ℤ◌, ◌+◌, ◌*◌, max, length}
use Rattle.check_fun.specs.Branches.{round_of}
use Rattle.silq_tree.specs.Children.{else_stmts}
use Rattle.silq_tree.proofs.Lists.{stmts_top}
use Rattle.check_fun.proofs.BlockLevels.{level}
use Rattle.check_scope.specs.Walk.{with_counts}
use Rattle.check_expr.specs.Expression.{expr as expr_of}
use Rattle.check_fun.proofs.+statement.Given as goal

abbrev pub invariant-block::statements-loop-id : goal.invariant-block::statements-loop-id
invariant-block::statements-loop-id l =
    Ahead (checker_at l.library l.fn.cx) (stmts_of (statements_of (expr_at l.library.nodes) (stmt_at l.library.nodes) (drop l.id-index l.ids)) (scope_in l.library l.fn.cx))
    (stmts_of (statements_of (expr_at l.library.nodes) (stmt_at l.library.nodes) l.ids) (scope_in l.library l.fn.cx)) l.fn.cx l.fn.tally l.cx l.tally

abbrev pub invariant-rounds::rounds-loop-value : goal.invariant-rounds::rounds-loop-value
invariant-rounds::rounds-loop-value l =
    Ahead (checker_at l.library l.fn.cx) (rounds_of (round_of (scope_in l.library l.fn.cx) l.name (block_of (expr_at l.library.nodes) (stmt_at l.library.nodes) l.body)) l.value (distance (l.past -ℤ l.value)))
    (rounds_of (round_of (scope_in l.library l.fn.cx) l.name (block_of (expr_at l.library.nodes) (stmt_at l.library.nodes) l.body)) l.first (distance (l.past -ℤ l.first))) l.fn.cx l.fn.tally l.cx l.tally

abbrev pub decreases-rounds::rounds-loop-value : goal.decreases-rounds::rounds-loop-value
decreases-rounds::rounds-loop-value l = distance (l.past -ℤ l.value)

abbrev pub decreases-block::statements : goal.decreases-block::statements
decreases-block::statements l = level l.cx.now.depth (length l.library.now.nodes.stmts) (8 * stmts_top l.ids.now)

abbrev pub decreases-block::plain : goal.decreases-block::plain
decreases-block::plain l = level l.cx.now.depth (length l.library.now.nodes.stmts) (8 * stmts_top l.ids.now + 1)

abbrev pub decreases-block::branch : goal.decreases-block::branch
decreases-block::branch l = level l.cx.now.depth (length l.library.now.nodes.stmts) (8 * stmts_top l.ids.now + 1)

abbrev pub decreases-block::apart : goal.decreases-block::apart
decreases-block::apart l = level l.cx.now.depth (length l.library.now.nodes.stmts) (8 * max (stmts_top l.then.now.items) (stmts_top (else_stmts l.other.now)) + 2)

abbrev pub decreases-block::in_turn : goal.decreases-block::in_turn
decreases-block::in_turn l = level l.cx.now.depth (length l.library.now.nodes.stmts) (8 * max (stmts_top l.then.now.items) (stmts_top (else_stmts l.other.now)) + 2)

abbrev pub decreases-block::both : goal.decreases-block::both
decreases-block::both l = level l.cx.now.depth (length l.library.now.nodes.stmts) (8 * max (stmts_top l.then.now.items) (stmts_top (else_stmts l.other.now)) + 3)

abbrev pub decreases-block::taken : goal.decreases-block::taken
decreases-block::taken l = level l.cx.now.depth (length l.library.now.nodes.stmts) (8 * max (stmts_top l.then.now.items) (stmts_top (else_stmts l.other.now)) + 2)

abbrev pub decreases-block::run_time : goal.decreases-block::run_time
decreases-block::run_time l = level l.cx.now.depth (length l.library.now.nodes.stmts) (8 * max (stmts_top l.then.now.items) (stmts_top (else_stmts l.other.now)) + 4)

abbrev pub decreases-block::choose : goal.decreases-block::choose
decreases-block::choose l = level l.cx.now.depth (length l.library.now.nodes.stmts) (8 * max (stmts_top l.then.now.items) (stmts_top (else_stmts l.other.now)) + 5)

abbrev pub decreases-rounds::round : goal.decreases-rounds::round
decreases-rounds::round l = level l.cx.now.depth (length l.library.now.nodes.stmts) (8 * stmts_top l.body.now.items + 2)

abbrev pub decreases-rounds::rounds : goal.decreases-rounds::rounds
decreases-rounds::rounds l = level l.cx.now.depth (length l.library.now.nodes.stmts) (8 * stmts_top l.body.now.items + 3)

abbrev pub decreases-block::unroll : goal.decreases-block::unroll
decreases-block::unroll l = level l.cx.now.depth (length l.library.now.nodes.stmts) (8 * stmts_top l.body.now.items + 4)

abbrev pub decreases-instance::instance : goal.decreases-instance::instance
decreases-instance::instance l = level l.depth (length l.library.now.nodes.stmts) (8 * length l.library.now.nodes.stmts + 15)

abbrev pub decreases-instance::check_one : goal.decreases-instance::check_one
decreases-instance::check_one l = level l.depth (length l.library.now.nodes.stmts) (8 * length l.library.now.nodes.stmts + 14)

abbrev pub decreases-body::whole_body : goal.decreases-body::whole_body
decreases-body::whole_body l = level l.cx.now.depth (length l.library.now.nodes.stmts) (8 * length l.library.now.nodes.stmts + 13)

abbrev pub decreases-asking::values : goal.decreases-asking::values
decreases-asking::values l = level l.cx.now.depth (length l.library.now.nodes.stmts) 0

abbrev pub invariant-asking::values-asking : goal.invariant-asking::values-asking
invariant-asking::values-asking l = (l.cx ≡ record l.fn.cx { start = l.fn.cx.vars })
    × (with_counts (checker_at l.fn.library l.fn.cx) l.fn.cx.depth (expr_of (expr_at l.fn.library.nodes l.fn.e) (scope_in l.fn.library l.fn.cx) l.fn.need l.fn.wants (context_of l.fn.cx)) l.fn.tally l.fn.cx.height
    ≡ with_counts (checker_at l.fn.library l.fn.cx) l.fn.cx.depth (expr_of (expr_at l.fn.library.nodes l.fn.e) (scope_in l.fn.library l.fn.cx) l.fn.need l.fn.wants (context_of l.fn.cx)) l.tally l.fn.cx.height)

abbrev pub decreases-asking::values-asking : goal.decreases-asking::values-asking
decreases-asking::values-asking l = 4096 - length l.tally.met

-- extra

abbrev pub decreases-block::condition : goal.decreases-block::condition
decreases-block::condition l = level l.cx.now.depth (length l.library.now.nodes.stmts) (1)

abbrev pub decreases-assign::assign_name : goal.decreases-assign::assign_name
decreases-assign::assign_name l = level l.cx.now.depth (length l.library.now.nodes.stmts) (1)

abbrev pub decreases-assign::spread : goal.decreases-assign::spread
decreases-assign::spread l = level l.cx.now.depth (length l.library.now.nodes.stmts) (1)

abbrev pub decreases-assign::assign_part : goal.decreases-assign::assign_part
decreases-assign::assign_part l = level l.cx.now.depth (length l.library.now.nodes.stmts) (1)

abbrev pub decreases-update::update_part : goal.decreases-update::update_part
decreases-update::update_part l = level l.cx.now.depth (length l.library.now.nodes.stmts) (1)

abbrev pub decreases-forget::forget_as : goal.decreases-forget::forget_as
decreases-forget::forget_as l = level l.cx.now.depth (length l.library.now.nodes.stmts) (1)

abbrev pub decreases-returns::first_values : goal.decreases-returns::first_values
decreases-returns::first_values l = level l.cx.now.depth (length l.library.now.nodes.stmts) (1)

abbrev pub decreases-returns::returned_tuple : goal.decreases-returns::returned_tuple
decreases-returns::returned_tuple l = level l.cx.now.depth (length l.library.now.nodes.stmts) (1)

abbrev pub decreases-returns::returned_one : goal.decreases-returns::returned_one
decreases-returns::returned_one l = level l.cx.now.depth (length l.library.now.nodes.stmts) (2)

abbrev pub decreases-returns::returned : goal.decreases-returns::returned
decreases-returns::returned l = level l.cx.now.depth (length l.library.now.nodes.stmts) (3)

abbrev pub decreases-statement::assign : goal.decreases-statement::assign
decreases-statement::assign l = level l.cx.now.depth (length l.library.now.nodes.stmts) (2)

abbrev pub decreases-statement::unused : goal.decreases-statement::unused
decreases-statement::unused l = level l.cx.now.depth (length l.library.now.nodes.stmts) (1)

abbrev pub decreases-statement::misplaced : goal.decreases-statement::misplaced
decreases-statement::misplaced l = level l.cx.now.depth (length l.library.now.nodes.stmts) (5)

abbrev pub decreases-statement::misplaced_value : goal.decreases-statement::misplaced_value
decreases-statement::misplaced_value l = level l.cx.now.depth (length l.library.now.nodes.stmts) (4)

abbrev pub decreases-statement::step : goal.decreases-statement::step
decreases-statement::step l = level l.cx.now.depth (length l.library.now.nodes.stmts) (8 * l.id.number + 6)

abbrev pub decreases-statement::statement : goal.decreases-statement::statement
decreases-statement::statement l = level l.cx.now.depth (length l.library.now.nodes.stmts) (8 * l.id.number + 7)

abbrev pub decreases-body::given : goal.decreases-body::given
decreases-body::given l = level l.cx.now.depth (length l.library.now.nodes.stmts) 4

abbrev pub decreases-body::ended : goal.decreases-body::ended
decreases-body::ended l = level l.cx.now.depth (length l.library.now.nodes.stmts) 5

abbrev pub decreases-body::last_values : goal.decreases-body::last_values
decreases-body::last_values l = level l.cx.now.depth (length l.library.now.nodes.stmts) (8 * length l.library.now.nodes.stmts + 8)

abbrev pub decreases-body::body_values : goal.decreases-body::body_values
decreases-body::body_values l = level l.cx.now.depth (length l.library.now.nodes.stmts) (8 * length l.library.now.nodes.stmts + 9)

abbrev pub decreases-statement::forget : goal.decreases-statement::forget
decreases-statement::forget l = level l.cx.now.depth (length l.library.now.nodes.stmts) 2
