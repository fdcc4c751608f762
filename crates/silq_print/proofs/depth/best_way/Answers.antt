use Rattle.silq_tree.specs.Arena.{expr_at}
use Rattle.silq_print.proofs.WaysTexts.{one_way}
use Rattle.silq_print.proofs.depth.best_way.Goals as goal

pub returns-else-tight : goal.returns-else-tight
returns-else-tight c = rw c.if-tight.false (λ h. one_way 0 (expr_at c.args.tree.now c.args.e))
