use Rattle.std.proofs.Common.{rules, ◌≡◌, ◌≤◌, length, arith}
use Rattle.check_fun.proofs.BlockEnds.{else_below}
use Rattle.check_fun.proofs.branch.+end_of_else.Goals as goal

pub end_of_else-requires : goal.end_of_else-requires
end_of_else-requires t c =
    let s = rw c.in-If.is at c.stmt.ensures.smaller in
    let own = rw c.in-Choice.is at c.requires in
    let top = rw c.in-Choice.is at c.decreases in
    let below = else_below c.in-Choice.id.number (length c.args.library.now.nodes.stmts) _ _ (omega (arith, own.0)) s in
    (omega (arith, top, below.0), below.1)
