use Rattle.std.proofs.Common.{◌≡◌, ◌+◌, ◌*◌, max, drop}
use Rattle.silq_tree.specs.Arena.{expr_at}
use Rattle.silq_tree.specs.Standing.{expressions_of}
use Rattle.silq_print.specs.Styles.{all_by, list_text, more_text, are_sound}
use Rattle.silq_print.specs.Puts.{state}
use Rattle.silq_print.proofs.Puts.{Left}
use Rattle.silq_tree.specs.Children.{place_exprs, scalar_exprs, number_exprs}
use Rattle.silq_tree.proofs.Lists.{exprs_top}
use Rattle.silq_print.proofs.printer.Printer.+expression.Given as goal

-- the number of the expression, and then the order of the calls

abbrev pub decreases-way : goal.decreases-way
decreases-way g l = 8 * l.e.number + 3

abbrev pub decreases-written : goal.decreases-written
decreases-written g l = 8 * l.e.number + 4

abbrev pub decreases-in_parens : goal.decreases-in_parens
decreases-in_parens g l = 8 * l.e.number + 5

abbrev pub decreases-expr : goal.decreases-expr
decreases-expr g l = 8 * l.e.number + 5

abbrev pub decreases-operand : goal.decreases-operand
decreases-operand g l = 8 * l.e.number + 6

abbrev pub decreases-chain : goal.decreases-chain
decreases-chain g l = 8 * l.e.number + 6

abbrev pub decreases-index : goal.decreases-index
decreases-index g l = 8 * l.e.number + 6

abbrev pub decreases-left : goal.decreases-left
decreases-left g l = 8 * l.e.number + 7

abbrev pub decreases-list : goal.decreases-list
decreases-list g l = 8 * exprs_top l.ids.now

abbrev pub decreases-statics : goal.decreases-statics
decreases-statics g l = 8 * exprs_top l.ids.now + 1

abbrev pub decreases-tuple : goal.decreases-tuple
decreases-tuple g l = 8 * exprs_top l.ids.now + 1

abbrev pub decreases-call : goal.decreases-call
decreases-call g l = 8 * max (exprs_top l.statics.now) (exprs_top l.args.now) + 2

abbrev pub decreases-scalar : goal.decreases-scalar
decreases-scalar g l = 8 * exprs_top (scalar_exprs l.ty)

abbrev pub decreases-number_type : goal.decreases-number_type
decreases-number_type g l = 8 * exprs_top (number_exprs l.ty) + 1

abbrev pub decreases-place : goal.decreases-place
decreases-place g l = 8 * exprs_top (place_exprs l.place)

-- the expressions that are left, each with a comma before it
abbrev pub invariant-list-loop-id : goal.invariant-list-loop-id
invariant-list-loop-id g l =
    let told = g.S.Sink.put_so_far in
    let count = g.S.Sink.faults in
    let at = expr_at l.fn.program.tree in
    record {
      same_sink : l.self.out.ghost_name ≡ l.fn.self.out.ghost_name;
      left : Left l.fn.program.names (state l.fn.self.failed (told l.fn.self.out.now) (count l.fn.self.out.now))
          (are_sound l.fn.style (expressions_of at l.fn.ids)) (list_text (all_by l.fn.style (expressions_of at l.fn.ids)))
          (state l.self.failed (told l.self.out.now) (count l.self.out.now))
          (are_sound l.fn.style (expressions_of at (drop l.id-index l.rest))) (more_text (all_by l.fn.style (expressions_of at (drop l.id-index l.rest))));
    }
