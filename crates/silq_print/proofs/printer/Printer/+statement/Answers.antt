use Rattle.std.proofs.Common.{arith, ap, ◌∙◌, ◌-◌, ◌^◌}
use Rattle.silq_tree.proofs.Lists.{stmt_below}
use Rattle.silq_tree.specs.Arena.{expr_at, stmt_at}
use Rattle.silq_tree.specs.Standing.{stmt_grown, statements_of, otherwise_of}
use Rattle.silq_print.proofs.Blocks.{puts_spread, puts_choice, puts_loop, puts_block_rest, puts_else_choice, first_of_block, next_of_block, end_of_block}
use Rattle.silq_print.proofs.printer.Printer.+statement.Goals as goal

pub block-loop-item-init : goal.block-loop-item-init
block-loop-item-init g n c =
    let tree = c.args.program.now.tree in
    record { same_sink = c.fixed.ensures.same_sink; left = first_of_block (expr_at tree) (stmt_at tree) c.args.nest c.args.items.now c.fixed.ensures.puts }

pub block-loop-item-preserved : goal.block-loop-item-preserved
block-loop-item-preserved g n c =
    let tree = c.args.program.now.tree in
    record {
      same_sink = c.stmt.ensures.same_sink ∙ c.loop-item.invariant.same_sink;
      left = next_of_block (expr_at tree) (stmt_at tree) c.args.nest c.args.items.now c.loop-item.item-index _ c.loop-item-test.true c.loop-item.invariant.left c.stmt.ensures.puts;
    }

pub block-returns-clause-puts : goal.block-returns-clause-puts
block-returns-clause-puts g n c =
    let tree = c.args.program.now.tree in
    end_of_block (expr_at tree) (stmt_at tree) c.args.nest c.args.items.now c.loop-item.item-index (omega (arith, c.loop-item-test.false)) c.loop-item.invariant.left c.fixed-2.ensures.puts

pub rest-returns-then-len-gt0-clause-puts : goal.rest-returns-then-len-gt0-clause-puts
rest-returns-then-len-gt0-clause-puts g n c =
    let tree = c.args.program.now.tree in
    rw c.in-Block.is (puts_block_rest (expr_at tree) (stmt_at tree) c.args.nest c.in-Block.block.items (omega (arith, c.len.ensures, c.if-len-gt0.true)) c.fixed.ensures.puts (rw c.as_slice.ensures at c.block.ensures.puts))

pub rest-returns-in-Choice-clause-puts : goal.rest-returns-in-Choice-clause-puts
rest-returns-in-Choice-clause-puts g n c =
    rw c.in-Choice.is (puts_else_choice c.args.nest (stmt_at c.args.program.now.tree c.in-Choice.s) c.fixed-in-Choice.ensures.puts c.stmt.ensures.puts)

pub stmt-returns-in-Spread-clause-puts : goal.stmt-returns-in-Spread-clause-puts
stmt-returns-in-Spread-clause-puts g n c =
    let tree = c.args.program.now.tree in
    rw (c.stmt.ensures.tree ∙ ap (stmt_grown (expr_at tree) (stmt_at tree)) c.in-Spread.is)
    (puts_spread c.args.nest c.in-Spread.names (expr_at tree c.in-Spread.value) c.in-Spread.at (rw c.as_slice.ensures at c.spread.ensures.puts))

pub stmt-returns-in-If-clause-puts : goal.stmt-returns-in-If-clause-puts
stmt-returns-in-If-clause-puts g n c =
    let tree = c.args.program.now.tree in
    rw (c.stmt.ensures.tree ∙ ap (stmt_grown (expr_at tree) (stmt_at tree)) c.in-If.is)
    (puts_choice c.args.nest (expr_at tree c.in-If.cond) (statements_of (expr_at tree) (stmt_at tree) c.in-If.then.items) (otherwise_of (expr_at tree) (stmt_at tree) c.in-If.other)
    c.in-If.then.end c.in-If.at c.fixed.ensures.puts c.expr.ensures.puts (rw c.as_slice-in-If.ensures at c.block.ensures.puts) c.rest.ensures.puts)

pub stmt-returns-in-For-clause-puts : goal.stmt-returns-in-For-clause-puts
stmt-returns-in-For-clause-puts g n c =
    let tree = c.args.program.now.tree in
    rw (c.stmt.ensures.tree ∙ ap (stmt_grown (expr_at tree) (stmt_at tree)) c.in-For.is)
    (puts_loop c.args.nest c.in-For.name (expr_at tree c.in-For.low) (expr_at tree c.in-For.high) (statements_of (expr_at tree) (stmt_at tree) c.in-For.body.items)
    c.in-For.body.end c.in-For.at c.loop_head.ensures.puts (rw c.as_slice-in-For.ensures at c.block-in-For.ensures.puts))

pub block-overflow_add-nest : goal.block-overflow_add-nest
block-overflow_add-nest g n c =
    let b = stmt_below (2 ^ 40 - 2 - c.args.nest) c.args.items.now c.loop-item.item-index (record { number = 0 }) c.requires.room c.loop-item-test.true in
    record { fits = omega (arith, b) }
