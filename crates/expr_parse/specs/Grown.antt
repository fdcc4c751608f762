-- What new nodes do to an arena.
use Rattle.std.specs.Prelude.{◌≡◌, ◌+◌, ◌<◌, ◌≤◌, List, length}
use Rattle.silq_tree.specs.declared.node.ExprId.{ExprId}
use Rattle.silq_tree.specs.declared.node.StmtId.{StmtId}
use Rattle.silq_tree.specs.Arena.{Forest, KeepsTrees, expr_parents, stmt_parents}
use Rattle.silq_tree.specs.Children.{AreExprsBelow, AreStmtsBelow, expr_count, stmt_count}

-- nodes were added; of the new ones just these have no parent, each once, and each other has one
pub record Grew (old new : Forest) (exprs : List ExprId) (stmts : List StmtId) : Type 0 where
  pub trees : KeepsTrees old new
  pub funs : new.funs ≡ old.funs
  pub more_exprs : length old.exprs ≤ length new.exprs
  pub more_stmts : length old.stmts ≤ length new.stmts
  pub exprs_there : AreExprsBelow (length new.exprs) exprs
  pub stmts_there : AreStmtsBelow (length new.stmts) stmts
  pub old_exprs : (id : ExprId) → id.number < length old.exprs → expr_count id exprs ≡ 0
  pub old_stmts : (id : StmtId) → id.number < length old.stmts → stmt_count id stmts ≡ 0
  pub old_expr_parents : (id : ExprId) → id.number < length old.exprs → expr_parents new id ≡ expr_parents old id
  pub old_stmt_parents : (id : StmtId) → id.number < length old.stmts → stmt_parents new id ≡ stmt_parents old id
  pub new_exprs : (id : ExprId) → length old.exprs ≤ id.number → id.number < length new.exprs → expr_parents new id + expr_count id exprs ≡ 1
  pub new_stmts : (id : StmtId) → length old.stmts ≤ id.number → id.number < length new.stmts → stmt_parents new id + stmt_count id stmts ≡ 1
