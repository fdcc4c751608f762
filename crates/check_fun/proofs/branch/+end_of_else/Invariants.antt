use Rattle.silq_tree.proofs.Lists.{stmts_top}
use Rattle.silq_tree.specs.Children.{else_stmts}
use Rattle.check_fun.proofs.branch.+end_of_else.Given as goal

abbrev pub decreases-end_of_else : goal.decreases-end_of_else
decreases-end_of_else l = stmts_top (else_stmts l.other.now)
