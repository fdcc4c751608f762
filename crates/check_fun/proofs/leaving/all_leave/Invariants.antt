use Rattle.std.proofs.Common.{◌≡◌, drop}
use Rattle.silq_tree.specs.Arena.{expr_at, stmt_at}
use Rattle.silq_tree.specs.Standing.{statements_of}
use Rattle.check_fun.specs.Leaving.{leave_all}
use Rattle.check_fun.proofs.leaving.all_leave.Given as goal

abbrev pub invariant-loop-id : goal.invariant-loop-id
invariant-loop-id l = leave_all (statements_of (expr_at l.library.nodes) (stmt_at l.library.nodes) (drop l.id-index l.ids)) ≡ leave_all (statements_of (expr_at l.library.nodes) (stmt_at l.library.nodes) l.ids)
