-- The nodes of an arena, and the trees that they stand for.
use Rattle.std.specs.Prelude.{◌≡◌, ℕ, ◌+◌, ◌<◌, ◌≤◌, List, [], ◌∷◌, ◌++◌, Option, Some, None, length, map, slice_get, slice_index_or, sum_by}
use Rattle.silq_tree.specs.declared.node.ExprId.{ExprId}
use Rattle.silq_tree.specs.declared.node.StmtId.{StmtId}
use Rattle.silq_tree.specs.declared.node.FunId.{FunId}
use Rattle.silq_tree.specs.declared.node.Expr.{Expr}
use Rattle.silq_tree.specs.declared.node.Stmt.{Stmt}
use Rattle.silq_tree.specs.declared.node.Fun.{Fun}
use Rattle.silq_tree.specs.declared.node.Mark.TheVariants.{Plain}
use Rattle.silq_tree.specs.Syntax.{Expression, Statement, Function, Program, pi, return_nothing, block, done}
use Rattle.silq_tree.specs.Standing.{expr_grown, stmt_grown, fun_grown}
use Rattle.silq_tree.specs.Children.{expr_exprs, stmt_exprs, fun_exprs, stmt_stmts, fun_stmts, AreExprsBelow, AreStmtsBelow, expr_count, stmt_count, ExprHasFirst, StmtHasFirst}

-- the nodes of each kind, by their numbers
pub record Forest : Type 0 where
  pub exprs : List Expr
  pub stmts : List Stmt
  pub funs : List Fun

-- the trees of nodes in order, behind these: each node stands for what `grown` gives of it from the trees before it
unfoldable pub grow_behind : {N T : Type 0} → (List T → N → T) → List T → List N → List T
grow_behind grown ts [] = ts
grow_behind grown ts (n ∷ ns) = grow_behind grown (ts ++ grown ts n ∷ []) ns

unfoldable pub grow : {N T : Type 0} → (List T → N → T) → List N → List T
grow grown ns = grow_behind grown [] ns

-- the tree with a number; where there is none, any
abbrev pub pick_expr : List Expression → ExprId → Expression
pick_expr ts id = slice_index_or ts id.number (pi (record { line = 0; col = 0 }))

abbrev pub pick_stmt : List Statement → StmtId → Statement
pick_stmt ts id = slice_index_or ts id.number (return_nothing (record { line = 0; col = 0 }))

-- the tree that an expression, or a statement, stands for
abbrev pub expr_at : Forest → ExprId → Expression
expr_at f id = pick_expr (grow (λ ts e. expr_grown (pick_expr ts) e) f.exprs) id

abbrev pub stmt_at : Forest → StmtId → Statement
stmt_at f id = pick_stmt (grow (λ ts s. stmt_grown (expr_at f) (pick_stmt ts) s) f.stmts) id

abbrev pub nothing : Function
nothing = record {
  name = record { number = 0 };
  statics = [];
  params = [];
  mark = Plain;
  results = [];
  body = block done (record { line = 0; col = 0 });
  at = record { line = 0; col = 0 };
}

abbrev pub grown_or : Forest → Option Fun → Function
grown_or f None = nothing
grown_or f (Some g) = fun_grown (expr_at f) (stmt_at f) g

-- the tree that a function stands for
abbrev pub fun_at : Forest → FunId → Function
fun_at f id = grown_or f (slice_get f.funs id.number)

-- the program of these functions
abbrev pub program_at : Forest → List FunId → Program
program_at f ids = map (fun_at f) ids

-- how often an expression, or a statement, is named by nodes
abbrev pub expr_parents : Forest → ExprId → ℕ
expr_parents f id =
    sum_by (λ e. expr_count id (expr_exprs e)) f.exprs + sum_by (λ s. expr_count id (stmt_exprs s)) f.stmts + sum_by (λ g. expr_count id (fun_exprs g)) f.funs

abbrev pub stmt_parents : Forest → StmtId → ℕ
stmt_parents f id = sum_by (λ s. stmt_count id (stmt_stmts s)) f.stmts + sum_by (λ g. stmt_count id (fun_stmts g)) f.funs

-- what holds of every arena
pub record IsArena (f : Forest) : Type 0 where
  -- an expression names earlier ones
  pub exprs_below : (n : ℕ) (e : Expr) → slice_get f.exprs n ≡ Some e → AreExprsBelow n (expr_exprs e)
  -- a statement names expressions that are there, and earlier statements
  pub stmt_exprs_below : (n : ℕ) (s : Stmt) → slice_get f.stmts n ≡ Some s → AreExprsBelow (length f.exprs) (stmt_exprs s)
  pub stmts_below : (n : ℕ) (s : Stmt) → slice_get f.stmts n ≡ Some s → AreStmtsBelow n (stmt_stmts s)
  -- a function names expressions and statements that are there
  pub fun_exprs_below : (n : ℕ) (g : Fun) → slice_get f.funs n ≡ Some g → AreExprsBelow (length f.exprs) (fun_exprs g)
  pub fun_stmts_below : (n : ℕ) (g : Fun) → slice_get f.funs n ≡ Some g → AreStmtsBelow (length f.stmts) (fun_stmts g)
  -- a second index stands only behind a first
  pub exprs_have_first : (n : ℕ) (e : Expr) → slice_get f.exprs n ≡ Some e → ExprHasFirst e
  pub stmts_have_first : (n : ℕ) (s : Stmt) → slice_get f.stmts n ≡ Some s → StmtHasFirst s
  -- no node has two parents
  pub one_expr_parent : (id : ExprId) → expr_parents f id ≤ 1
  pub one_stmt_parent : (id : StmtId) → stmt_parents f id ≤ 1

-- the arena with one more node
abbrev pub with_expr : Forest → Expr → Forest
with_expr f e = record f { exprs = f.exprs ++ e ∷ [] }

abbrev pub with_stmt : Forest → Stmt → Forest
with_stmt f s = record f { stmts = f.stmts ++ s ∷ [] }

abbrev pub with_fun : Forest → Fun → Forest
with_fun f g = record f { funs = f.funs ++ g ∷ [] }

-- the nodes of the old arena stand for the same trees in the new one
pub record KeepsTrees (old new : Forest) : Type 0 where
  pub exprs : (id : ExprId) → id.number < length old.exprs → expr_at new id ≡ expr_at old id
  pub stmts : (id : StmtId) → id.number < length old.stmts → stmt_at new id ≡ stmt_at old id
  pub funs : (id : FunId) → id.number < length old.funs → fun_at new id ≡ fun_at old id
