use Rattle.silq_print.proofs.Puts.{puts_and}
use Rattle.std.proofs.Common.{arith, ap, ◌∙◌}
use Rattle.silq_tree.specs.Arena.{expr_at}
use Rattle.silq_tree.specs.Standing.{expr_grown}
use Rattle.silq_tree.proofs.Lists.{exprs_below_more, exprs_below_front, exprs_below_back}
use Rattle.silq_print.proofs.printer.Printer.call_alone.Goals as goal

pub call-requires-clause-statics : goal.call-requires-clause-statics
call-requires-clause-statics g c =
    rw c.as_slice.ensures (exprs_below_more _ _ _ (omega (arith, c.requires.call)) (exprs_below_front _ _ c.in-Call.args (rw c.in-Call.is at c.expr.ensures.smaller)))

pub call-requires-clause-args : goal.call-requires-clause-args
call-requires-clause-args g c =
    rw c.as_slice-in-Call.ensures (exprs_below_more _ _ _ (omega (arith, c.requires.call)) (exprs_below_back _ c.in-Call.statics _ (rw c.in-Call.is at c.expr.ensures.smaller)))

pub returns-in-Call-clause-puts : goal.returns-in-Call-clause-puts
returns-in-Call-clause-puts g c =
    rw (c.expr.ensures.tree ∙ ap (expr_grown (expr_at c.args.program.now.tree)) c.in-Call.is)
    (puts_and (rw c.as_slice.ensures at (rw c.as_slice-in-Call.ensures at c.call.ensures.puts)) c.fixed.ensures.puts)
