use Rattle.std.proofs.Common.{◌+◌, ◌*◌, max, length, drop}
use Rattle.std.specs.Prelude.{◌-ℤ◌}
use Rattle.silq_tree.specs.Children.{else_stmts}
use Rattle.silq_tree.proofs.Lists.{exprs_top, stmts_top}
use Rattle.silq_types.specs.Programs.{distance}
use Rattle.run_stage.specs.Stages.{carried}
use Rattle.tree_walk.specs.Seen.{exprs_in, stmts_in, rounds_in, loop_in}
use Rattle.run_walk.proofs.Carrying.{Onward}
use Rattle.tree_walk.proofs.Levels.{level}
use Rattle.run_walk.proofs.+walk.Given as goal

abbrev pub decreases-expr::expr : goal.decreases-expr::expr
decreases-expr::expr l = level l.body.now.this (length l.library.now.nodes.exprs) (length l.library.now.nodes.stmts) (8 * l.e.number + 7)

abbrev pub decreases-expr::unary : goal.decreases-expr::unary
decreases-expr::unary l = level l.body.now.this (length l.library.now.nodes.exprs) (length l.library.now.nodes.stmts) (8 * l.arg.number + 8)

abbrev pub decreases-expr::binary : goal.decreases-expr::binary
decreases-expr::binary l =
    level l.body.now.this (length l.library.now.nodes.exprs) (length l.library.now.nodes.stmts) (8 * max l.left.number l.right.number + 8)

abbrev pub decreases-expr::values : goal.decreases-expr::values
decreases-expr::values l = level l.body.now.this (length l.library.now.nodes.exprs) (length l.library.now.nodes.stmts) (8 * exprs_top l.items.now)

abbrev pub decreases-call::call : goal.decreases-call::call
decreases-call::call l = level l.body.now.this (length l.library.now.nodes.exprs) (length l.library.now.nodes.stmts) (8 * exprs_top l.args.now + 3)

abbrev pub decreases-call::built_in_call : goal.decreases-call::built_in_call
decreases-call::built_in_call l = level l.body.now.this (length l.library.now.nodes.exprs) (length l.library.now.nodes.stmts) (8 * exprs_top l.args.now + 1)

abbrev pub decreases-call::own_call : goal.decreases-call::own_call
decreases-call::own_call l = level l.body.now.this (length l.library.now.nodes.exprs) (length l.library.now.nodes.stmts) (8 * exprs_top l.args.now + 2)

abbrev pub decreases-call::arguments : goal.decreases-call::arguments
decreases-call::arguments l = level l.body.now.this (length l.library.now.nodes.exprs) (length l.library.now.nodes.stmts) (8 * exprs_top l.args.now + 1)

abbrev pub decreases-call::run_body : goal.decreases-call::run_body
decreases-call::run_body l =
    level l.body.now.this (length l.library.now.nodes.exprs) (length l.library.now.nodes.stmts)
    (8 * length l.library.now.nodes.exprs + (8 * length l.library.now.nodes.stmts + 8))

abbrev pub decreases-statement::statement : goal.decreases-statement::statement
decreases-statement::statement l =
    level l.body.now.this (length l.library.now.nodes.exprs) (length l.library.now.nodes.stmts)
    (8 * length l.library.now.nodes.exprs + (8 * l.id.number + 7))

abbrev pub decreases-statement::act : goal.decreases-statement::act
decreases-statement::act l =
    level l.body.now.this (length l.library.now.nodes.exprs) (length l.library.now.nodes.stmts)
    (8 * length l.library.now.nodes.exprs + (8 * l.id.number + 6))

abbrev pub decreases-statement::assign : goal.decreases-statement::assign
decreases-statement::assign l =
    level l.body.now.this (length l.library.now.nodes.exprs) (length l.library.now.nodes.stmts)
    (8 * length l.library.now.nodes.exprs + 3)

abbrev pub decreases-statement::spread : goal.decreases-statement::spread
decreases-statement::spread l =
    level l.body.now.this (length l.library.now.nodes.exprs) (length l.library.now.nodes.stmts)
    (8 * length l.library.now.nodes.exprs + 3)

abbrev pub decreases-statement::update : goal.decreases-statement::update
decreases-statement::update l =
    level l.body.now.this (length l.library.now.nodes.exprs) (length l.library.now.nodes.stmts)
    (8 * length l.library.now.nodes.exprs + 3)

abbrev pub decreases-statement::forget : goal.decreases-statement::forget
decreases-statement::forget l =
    level l.body.now.this (length l.library.now.nodes.exprs) (length l.library.now.nodes.stmts)
    (8 * length l.library.now.nodes.exprs + 3)

abbrev pub decreases-statement::returned : goal.decreases-statement::returned
decreases-statement::returned l =
    level l.body.now.this (length l.library.now.nodes.exprs) (length l.library.now.nodes.stmts)
    (8 * length l.library.now.nodes.exprs + 3)

abbrev pub decreases-statement::items : goal.decreases-statement::items
decreases-statement::items l =
    level l.body.now.this (length l.library.now.nodes.exprs) (length l.library.now.nodes.stmts)
    (8 * length l.library.now.nodes.exprs + 2)

abbrev pub decreases-block::statements : goal.decreases-block::statements
decreases-block::statements l =
    level l.body.now.this (length l.library.now.nodes.exprs) (length l.library.now.nodes.stmts)
    (8 * length l.library.now.nodes.exprs + 8 * stmts_top l.ids.now)

abbrev pub decreases-block::block : goal.decreases-block::block
decreases-block::block l =
    level l.body.now.this (length l.library.now.nodes.exprs) (length l.library.now.nodes.stmts)
    (8 * length l.library.now.nodes.exprs + (8 * stmts_top l.ids.now + 1))

abbrev pub decreases-block::otherwise : goal.decreases-block::otherwise
decreases-block::otherwise l =
    level l.body.now.this (length l.library.now.nodes.exprs) (length l.library.now.nodes.stmts)
    (8 * length l.library.now.nodes.exprs + (8 * stmts_top (else_stmts l.other.now) + 2))

abbrev pub decreases-block::taken : goal.decreases-block::taken
decreases-block::taken l =
    level l.body.now.this (length l.library.now.nodes.exprs) (length l.library.now.nodes.stmts)
    (8 * length l.library.now.nodes.exprs + (8 * max (stmts_top l.then.now) (stmts_top (else_stmts l.other.now)) + 3))

abbrev pub decreases-block::both : goal.decreases-block::both
decreases-block::both l =
    level l.body.now.this (length l.library.now.nodes.exprs) (length l.library.now.nodes.stmts)
    (8 * length l.library.now.nodes.exprs + (8 * max (stmts_top l.then.now) (stmts_top (else_stmts l.other.now)) + 4))

abbrev pub decreases-block::choose : goal.decreases-block::choose
decreases-block::choose l =
    level l.body.now.this (length l.library.now.nodes.exprs) (length l.library.now.nodes.stmts)
    (8 * length l.library.now.nodes.exprs + (8 * max (stmts_top l.then.now) (stmts_top (else_stmts l.other.now)) + 5))

abbrev pub decreases-block::round : goal.decreases-block::round
decreases-block::round l =
    level l.body.now.this (length l.library.now.nodes.exprs) (length l.library.now.nodes.stmts)
    (8 * length l.library.now.nodes.exprs + (8 * stmts_top l.ids.now + 2))

abbrev pub decreases-block::unroll : goal.decreases-block::unroll
decreases-block::unroll l =
    level l.body.now.this (length l.library.now.nodes.exprs) (length l.library.now.nodes.stmts)
    (8 * length l.library.now.nodes.exprs + (8 * stmts_top l.ids.now + 4))

abbrev pub invariant-expr::values-loop-item : goal.invariant-expr::values-loop-item
invariant-expr::values-loop-item l =
    Onward (exprs_in l.fn.library l.fn.body (drop l.item-index l.fn.items) l.fn.other l.asked l.receivers)
    (carried (exprs_in l.fn.library l.fn.body l.fn.items l.fn.other l.fn.needs l.fn.takers) l.fn.stage) l.stage

abbrev pub invariant-block::statements-loop-id : goal.invariant-block::statements-loop-id
invariant-block::statements-loop-id l =
    Onward (stmts_in l.fn.library l.fn.body (drop l.id-index l.fn.ids)) (carried (stmts_in l.fn.library l.fn.body l.fn.ids) l.fn.stage) l.stage

abbrev pub invariant-block::unroll-loop-value : goal.invariant-block::unroll-loop-value
invariant-block::unroll-loop-value l =
    Onward (rounds_in l.fn.library l.fn.body l.fn.name l.fn.ids l.value (distance (l.past -ℤ l.value)))
    (carried (loop_in l.fn.library l.fn.body l.fn.name l.fn.low l.fn.high l.fn.ids) l.fn.stage) l.stage

abbrev pub decreases-block::unroll-loop-value : goal.decreases-block::unroll-loop-value
decreases-block::unroll-loop-value l = distance (l.past -ℤ l.value)
