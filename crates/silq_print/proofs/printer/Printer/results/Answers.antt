use Rattle.std.specs.Prelude.{flat_map}
use Rattle.silq_tree.specs.Children.{type_exprs}
use Rattle.silq_tree.proofs.Lists.{exprs_below_back}
use Rattle.silq_print.proofs.Headers.{flat_below}
use Rattle.std.proofs.Common.{arith, ◌∙◌}
use Rattle.silq_print.proofs.Headers.{first_of_types, next_of_types, end_of_types}
use Rattle.silq_tree.specs.Arena.{expr_at}
use Rattle.silq_print.proofs.printer.Printer.results.Goals as goal

pub loop-ty-init : goal.loop-ty-init
loop-ty-init g c = record {
  same_sink = c.written_type.ensures.same_sink ∙ c.fixed.ensures.same_sink;
  left = first_of_types (expr_at c.args.program.now.tree) c.args.types.now c.in-Some.first.now c.in-Some.rest.now c.in-Some.ensures.cases.0 c.fixed.ensures.puts c.written_type.ensures.puts;
}

pub loop-ty-preserved : goal.loop-ty-preserved
loop-ty-preserved g c = record {
  same_sink = c.written_type-in-loop-ty.ensures.same_sink ∙ c.fixed-in-loop-ty.ensures.same_sink ∙ c.loop-ty.invariant.same_sink;
  left = next_of_types (expr_at c.args.program.now.tree) c.in-Some.rest.now c.loop-ty.ty-index _ c.loop-ty-test.true c.loop-ty.invariant.left c.fixed-in-loop-ty.ensures.puts c.written_type-in-loop-ty.ensures.puts;
}

pub returns-clause-puts : goal.returns-clause-puts
returns-clause-puts g c = end_of_types (expr_at c.args.program.now.tree) c.in-Some.rest.now c.loop-ty.ty-index (omega (arith, c.loop-ty-test.false)) c.loop-ty.invariant.left

pub written_type-requires-in-loop-ty-clause-below : goal.written_type-requires-in-loop-ty-clause-below
written_type-requires-in-loop-ty-clause-below g c =
    flat_below _ type_exprs c.in-Some.rest.now c.loop-ty.ty-index _ (exprs_below_back _ (type_exprs c.in-Some.first.now) (flat_map type_exprs c.in-Some.rest.now) (rw c.in-Some.ensures.cases.0 at c.requires)) c.loop-ty-test.true
