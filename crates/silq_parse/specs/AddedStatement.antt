-- One more statement.
use Rattle.std.specs.Prelude.{◌≡◌, ◌+◌, ◌≤◌, List, length}
use Rattle.silq_tree.specs.declared.node.StmtId.{StmtId}
use Rattle.silq_tree.specs.declared.node.Stmt.{Stmt}
use Rattle.silq_tree.specs.Arena.{Forest, IsArena, stmt_parents, with_stmt}
use Rattle.silq_tree.specs.Children.{AreStmtsBelow, stmt_count}

-- these statements are there, differ and have no parent
pub record AreFreeStmts (f : Forest) (ids : List StmtId) : Type 0 where
  pub there : AreStmtsBelow (length f.stmts) ids
  pub parents : (id : StmtId) → stmt_parents f id + stmt_count id ids ≤ 1

-- the node was added to an arena, with this number
pub record IsAddedStmt (old new : Forest) (s : Stmt) (id : StmtId) : Type 0 where
  pub arena : IsArena old
  pub number : id.number ≡ length old.stmts
  pub is : new ≡ with_stmt old s
