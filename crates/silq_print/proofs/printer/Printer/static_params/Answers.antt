use Rattle.std.proofs.Common.{arith, ◌∙◌}
use Rattle.silq_print.proofs.Headers.{first_of_statics, next_of_statics, end_of_statics}
use Rattle.silq_print.proofs.printer.Printer.static_params.Goals as goal

pub loop-id-init : goal.loop-id-init
loop-id-init g c = record {
  same_sink = c.static_param.ensures.same_sink ∙ c.fixed.ensures.same_sink;
  left = first_of_statics c.args.ids.now c.in-Some.first.now c.in-Some.rest.now c.in-Some.ensures.cases.0 c.fixed.ensures.puts c.static_param.ensures.puts;
}

pub loop-id-preserved : goal.loop-id-preserved
loop-id-preserved g c = record {
  same_sink = c.static_param-in-loop-id.ensures.same_sink ∙ c.fixed-in-loop-id.ensures.same_sink ∙ c.loop-id.invariant.same_sink;
  left = next_of_statics c.in-Some.rest.now c.loop-id.id-index _ c.loop-id-test.true c.loop-id.invariant.left c.fixed-in-loop-id.ensures.puts c.static_param-in-loop-id.ensures.puts;
}

pub returns-clause-puts : goal.returns-clause-puts
returns-clause-puts g c = end_of_statics c.in-Some.rest.now c.loop-id.id-index (omega (arith, c.loop-id-test.false)) c.loop-id.invariant.left c.fixed-2.ensures.puts
