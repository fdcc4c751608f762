use Rattle.std.proofs.Common.{ap, ◌∙◌, arith}
use Rattle.silq_tree.specs.Arena.{expr_at}
use Rattle.silq_tree.specs.Standing.{expr_grown, expressions_of}
use Rattle.silq_print.specs.Styles.{written_by, all_by}
use Rattle.silq_print.proofs.Puts.{puts_both, puts_token, puts_and, puts_as}
use Rattle.silq_print.proofs.WaysTexts.{call_is, two_indexes, puts_best, puts_style, puts_number, puts_called, puts_tuple, puts_unary, puts_binary, first_of_list, next_of_list, end_of_list, puts_statics}
use Rattle.silq_print.proofs.printer.Printer.+expression.Goals as goal

pub in_parens-returns-clause-puts : goal.in_parens-returns-clause-puts
in_parens-returns-clause-puts g n c = puts_token c.fixed.ensures.puts (puts_and c.written.ensures.puts c.fixed-2.ensures.puts)

pub index-returns-clause-puts : goal.index-returns-clause-puts
index-returns-clause-puts g n c = puts_token c.fixed.ensures.puts (puts_and c.expr.ensures.puts c.fixed-2.ensures.puts)

pub tuple-returns-clause-puts : goal.tuple-returns-clause-puts
tuple-returns-clause-puts g n c = puts_token c.fixed.ensures.puts (puts_and c.list.ensures.puts c.fixed-2.ensures.puts)

pub call-returns-clause-puts : goal.call-returns-clause-puts
call-returns-clause-puts g n c =
    let at = expr_at c.args.program.now.tree in
    puts_as (call_is c.args.fun (all_by c.args.style (expressions_of at c.args.statics.now)) (all_by c.args.style (expressions_of at c.args.args.now)))
    (puts_token c.name.ensures.puts (puts_both c.statics.ensures.puts (puts_token c.fixed.ensures.puts (puts_and c.list.ensures.puts c.fixed-2.ensures.puts))))

pub number_type-returns-in-Some-clause-puts : goal.number_type-returns-in-Some-clause-puts
number_type-returns-in-Some-clause-puts g n c = rw c.in-Some.is (puts_token c.fixed.ensures.puts c.scalar.ensures.puts)

pub scalar-returns-in-UInt-clause-puts : goal.scalar-returns-in-UInt-clause-puts
scalar-returns-in-UInt-clause-puts g n c = rw c.in-UInt.is (puts_token c.fixed-in-UInt.ensures.puts c.index.ensures.puts)

pub scalar-returns-in-Int-clause-puts : goal.scalar-returns-in-Int-clause-puts
scalar-returns-in-Int-clause-puts g n c = rw c.in-Int.is (puts_token c.fixed-in-Int.ensures.puts c.index-in-Int.ensures.puts)

pub way-returns-in-Unary-clause-puts : goal.way-returns-in-Unary-clause-puts
way-returns-in-Unary-clause-puts g n c =
    let at = expr_at c.args.program.now.tree in
    rw (c.expr.ensures.tree ∙ ap (expr_grown at) c.in-Unary.is)
    (puts_unary at c.args.tight c.args.way c.in-Unary.op (at c.in-Unary.arg) c.in-Unary.at (rw c.unary_sign.ensures at c.fixed-in-Unary.ensures.puts) c.operand.ensures.puts)

pub way-returns-in-Binary-clause-puts : goal.way-returns-in-Binary-clause-puts
way-returns-in-Binary-clause-puts g n c =
    let at = expr_at c.args.program.now.tree in
    rw (c.expr.ensures.tree ∙ ap (expr_grown at) c.in-Binary.is)
    (puts_binary at c.args.tight c.args.way c.in-Binary.op (at c.in-Binary.left) (at c.in-Binary.right) c.in-Binary.at c.left.ensures.puts
    (rw c.sign_of.ensures at c.fixed-in-Binary.ensures.puts) (rw c.right_level.ensures at c.operand-in-Binary.ensures.puts))

pub way-returns-in-Number-clause-puts : goal.way-returns-in-Number-clause-puts
way-returns-in-Number-clause-puts g n c =
    let at = expr_at c.args.program.now.tree in
    rw (c.expr.ensures.tree ∙ ap (expr_grown at) c.in-Number.is)
    (puts_number at c.args.tight c.args.way c.in-Number.value c.in-Number.ty c.in-Number.at c.number.ensures.puts c.number_type.ensures.puts)

pub way-returns-in-Call-clause-puts : goal.way-returns-in-Call-clause-puts
way-returns-in-Call-clause-puts g n c =
    let at = expr_at c.args.program.now.tree in
    rw (c.expr.ensures.tree ∙ ap (expr_grown at) c.in-Call.is)
    (puts_called at c.args.tight c.args.way c.in-Call.fun (expressions_of at c.in-Call.statics) (expressions_of at c.in-Call.args) c.in-Call.at
    (rw c.as_slice.ensures at (rw c.as_slice-in-Call.ensures at c.call.ensures.puts)))

pub way-returns-in-Tuple-clause-puts : goal.way-returns-in-Tuple-clause-puts
way-returns-in-Tuple-clause-puts g n c =
    let at = expr_at c.args.program.now.tree in
    rw (c.expr.ensures.tree ∙ ap (expr_grown at) c.in-Tuple.is)
    (puts_tuple at c.args.tight c.args.way (expressions_of at c.in-Tuple.items) c.in-Tuple.at (rw c.as_slice-in-Tuple.ensures at c.tuple.ensures.puts))

pub place-returns-in_default-second-clause-puts : goal.place-returns-in_default-second-clause-puts
place-returns-in_default-second-clause-puts g n c =
    rw c.in-Some.is (rw c.in_default-second.is (puts_token c.name.ensures.puts c.index.ensures.puts))

pub place-returns-in-Some-second-clause-puts : goal.place-returns-in-Some-second-clause-puts
place-returns-in-Some-second-clause-puts g n c =
    rw c.in-Some.is (rw c.in-Some-second.is (puts_as (two_indexes c.args.place.name (written_by c.args.style (expr_at c.args.program.now.tree c.in-Some.first)) (written_by c.args.style (expr_at c.args.program.now.tree c.in-Some-second.second))) (puts_token c.name.ensures.puts (puts_both c.index.ensures.puts c.index-in-Some-second.ensures.puts))))

pub written-returns-clause-puts : goal.written-returns-clause-puts
written-returns-clause-puts g n c = puts_best c.args.tight c.best_way-way.result (expr_at c.args.program.now.tree c.args.e) c.best_way-way.ensures c.way.ensures.puts

pub expr-returns-clause-puts : goal.expr-returns-clause-puts
expr-returns-clause-puts g n c = puts_style c.args.style c.is_tight-tight.result (expr_at c.args.program.now.tree c.args.e) c.is_tight-tight.ensures c.written.ensures.puts

pub statics-returns-then-not-is_empty-clause-puts : goal.statics-returns-then-not-is_empty-clause-puts
statics-returns-then-not-is_empty-clause-puts g n c =
    puts_statics (expr_at c.args.program.now.tree) c.args.style c.args.ids.now c.if-not-is_empty.ensures c.fixed.ensures.puts c.list.ensures.puts c.fixed-then-not-is_empty.ensures.puts

pub list-loop-id-init : goal.list-loop-id-init
list-loop-id-init g n c = record {
  same_sink = c.expr.ensures.same_sink;
  left = first_of_list (expr_at c.args.program.now.tree) c.args.style c.args.ids.now c.in-Some.first.now c.in-Some.rest.now c.in-Some.ensures.cases.0 c.expr.ensures.puts;
}

pub list-loop-id-preserved : goal.list-loop-id-preserved
list-loop-id-preserved g n c = record {
  same_sink = c.expr-in-loop-id.ensures.same_sink ∙ c.fixed.ensures.same_sink ∙ c.loop-id.invariant.same_sink;
  left = next_of_list (expr_at c.args.program.now.tree) c.args.style c.in-Some.rest.now c.loop-id.id-index _ c.loop-id-test.true c.loop-id.invariant.left c.fixed.ensures.puts c.expr-in-loop-id.ensures.puts;
}

pub list-returns-clause-puts : goal.list-returns-clause-puts
list-returns-clause-puts g n c = end_of_list (expr_at c.args.program.now.tree) c.args.style c.in-Some.rest.now c.loop-id.id-index (omega (arith, c.loop-id-test.false)) c.loop-id.invariant.left
