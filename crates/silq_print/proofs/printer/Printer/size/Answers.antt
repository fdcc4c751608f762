use Rattle.std.proofs.Common.{ap, ◌∙◌}
use Rattle.silq_tree.specs.Arena.{expr_at}
use Rattle.silq_tree.specs.Standing.{expr_grown}
use Rattle.silq_print.proofs.Headers.{puts_number_size, puts_name_size}
use Rattle.silq_print.proofs.printer.Printer.size.Goals as goal

pub returns-else-is_some-clause-puts : goal.returns-else-is_some-clause-puts
returns-else-is_some-clause-puts g c =
    let at = expr_at c.args.program.now.tree in
    rw (c.expr.ensures.tree ∙ ap (expr_grown at) c.in-Number.is)
    (puts_number_size at c.args.nest c.in-Number.value c.in-Number.ty c.in-Number.at c.if-is_some.ensures c.fixed.ensures.puts c.number.ensures.puts)

pub returns-else-is_some-2-clause-puts : goal.returns-else-is_some-2-clause-puts
returns-else-is_some-2-clause-puts g c =
    let at = expr_at c.args.program.now.tree in
    rw (c.expr.ensures.tree ∙ ap (expr_grown at) c.in-Place.is)
    (puts_name_size at c.args.nest c.in-Place.place.name c.in-Place.place.first c.in-Place.place.second c.in-Place.at c.if-is_some-2.ensures c.fixed-else-is_some-2.ensures.puts c.name.ensures.puts)
