use Rattle.std.specs.Prelude.{flat_map}
use Rattle.silq_tree.specs.Children.{param_exprs}
use Rattle.silq_tree.proofs.Lists.{exprs_below_back}
use Rattle.silq_print.proofs.Headers.{flat_below}
use Rattle.std.proofs.Common.{arith, ◌∙◌}
use Rattle.silq_print.proofs.Headers.{first_of_params, next_of_params, end_of_params}
use Rattle.silq_tree.specs.Arena.{expr_at}
use Rattle.silq_print.proofs.printer.Printer.param_list.Goals as goal

pub loop-param-init : goal.loop-param-init
loop-param-init g c = record {
  same_sink = c.param.ensures.same_sink;
  left = first_of_params (expr_at c.args.program.now.tree) c.args.params.now c.in-Some.first.now c.in-Some.rest.now c.in-Some.ensures.cases.0 c.param.ensures.puts;
}

pub loop-param-preserved : goal.loop-param-preserved
loop-param-preserved g c = record {
  same_sink = c.param-in-loop-param.ensures.same_sink ∙ c.fixed.ensures.same_sink ∙ c.loop-param.invariant.same_sink;
  left = next_of_params (expr_at c.args.program.now.tree) c.in-Some.rest.now c.loop-param.param-index _ c.loop-param-test.true c.loop-param.invariant.left c.fixed.ensures.puts c.param-in-loop-param.ensures.puts;
}

pub returns-clause-puts : goal.returns-clause-puts
returns-clause-puts g c = end_of_params (expr_at c.args.program.now.tree) c.in-Some.rest.now c.loop-param.param-index (omega (arith, c.loop-param-test.false)) c.loop-param.invariant.left

pub param-requires-in-loop-param : goal.param-requires-in-loop-param
param-requires-in-loop-param g c =
    flat_below _ param_exprs c.in-Some.rest.now c.loop-param.param-index _ (exprs_below_back _ (param_exprs c.in-Some.first.now) (flat_map param_exprs c.in-Some.rest.now) (rw c.in-Some.ensures.cases.0 at c.requires)) c.loop-param-test.true
