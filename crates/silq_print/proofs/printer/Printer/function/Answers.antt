use Rattle.std.specs.Prelude.{flat_map}
use Rattle.silq_tree.specs.Arena.{expr_at, stmt_at}
use Rattle.silq_tree.specs.Standing.{fun_grown}
use Rattle.silq_tree.specs.Children.{param_exprs, type_exprs}
use Rattle.silq_tree.proofs.Lists.{exprs_below_front, exprs_below_back}
use Rattle.silq_print.proofs.Headers.{puts_function}
use Rattle.silq_print.proofs.printer.Printer.function.Goals as goal

pub params-requires : goal.params-requires
params-requires g c = rw c.as_slice-2.ensures (exprs_below_front _ (flat_map param_exprs c.fun-fun.result.now.params) (flat_map type_exprs c.fun-fun.result.now.results) c.fun-fun.ensures.parts)

pub results-requires : goal.results-requires
results-requires g c = rw c.as_slice-3.ensures (exprs_below_back _ (flat_map param_exprs c.fun-fun.result.now.params) (flat_map type_exprs c.fun-fun.result.now.results) c.fun-fun.ensures.parts)

pub returns-clause-puts : goal.returns-clause-puts
returns-clause-puts g c =
    let tree = c.args.program.now.tree in
    rw c.fun-fun.ensures.tree
    (puts_function (fun_grown (expr_at tree) (stmt_at tree) c.fun-fun.result.now) c.fixed.ensures.puts c.name.ensures.puts (rw c.as_slice.ensures at c.static_params.ensures.puts)
    (rw c.as_slice-2.ensures at c.params.ensures.puts) c.mark.ensures.puts (rw c.as_slice-3.ensures at c.results.ensures.puts) (rw c.as_slice-4.ensures at c.body.ensures.puts))
