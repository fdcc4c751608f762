use Rattle.std.proofs.Common.{arith, ◌∙◌}
use Rattle.silq_tree.specs.Arena.{expr_at, stmt_at}
use Rattle.silq_print.proofs.Blocks.{first_of_block, next_of_block, end_of_block}
use Rattle.silq_print.proofs.printer.Printer.body.Goals as goal

pub loop-item-init : goal.loop-item-init
loop-item-init g c =
    let tree = c.args.program.now.tree in
    record { same_sink = c.fixed.ensures.same_sink; left = first_of_block (expr_at tree) (stmt_at tree) 0 c.args.items.now c.fixed.ensures.puts }

pub loop-item-preserved : goal.loop-item-preserved
loop-item-preserved g c =
    let tree = c.args.program.now.tree in
    record {
      same_sink = c.body_stmt.ensures.same_sink ∙ c.loop-item.invariant.same_sink;
      left = next_of_block (expr_at tree) (stmt_at tree) 0 c.args.items.now c.loop-item.item-index _ c.loop-item-test.true c.loop-item.invariant.left c.body_stmt.ensures.puts;
    }

pub returns-clause-puts : goal.returns-clause-puts
returns-clause-puts g c =
    let tree = c.args.program.now.tree in
    end_of_block (expr_at tree) (stmt_at tree) 0 c.args.items.now c.loop-item.item-index (omega (arith, c.loop-item-test.false)) c.loop-item.invariant.left c.fixed-2.ensures.puts
