-- The nodes that a node names.
use Rattle.std.specs.Prelude.{◌≡◌, ℕ, ◌<◌, ◌==◌, List, [], ◌∷◌, ◌++◌, Option, Some, None, count_by, flat_map}
use Rattle.silq_tree.specs.declared.node.ExprId.{ExprId}
use Rattle.silq_tree.specs.declared.node.StmtId.{StmtId}
use Rattle.silq_tree.specs.declared.node.PlaceNode.{PlaceNode}
use Rattle.silq_tree.specs.declared.node.TypeNode.{TypeNode}
use Rattle.silq_tree.specs.declared.node.ParamNode.{ParamNode}
use Rattle.silq_tree.specs.declared.node.Fun.{Fun}
use Rattle.silq_tree.specs.declared.node.ScalarNode.{ScalarNode}
use Rattle.silq_tree.specs.declared.node.ScalarNode.TheVariants as scalars
use Rattle.silq_tree.specs.declared.node.Else.{Else}
use Rattle.silq_tree.specs.declared.node.Else.TheVariants as elses
use Rattle.silq_tree.specs.declared.node.Expr.{Expr}
use Rattle.silq_tree.specs.declared.node.Expr.TheVariants as exprs
use Rattle.silq_tree.specs.declared.node.Stmt.{Stmt}
use Rattle.silq_tree.specs.declared.node.Stmt.TheVariants as stmts

abbrev pub listed : Option ExprId → List ExprId
listed None = []
listed (Some e) = e ∷ []

-- the expressions in parts of nodes, from left to right
abbrev pub scalar_exprs : ScalarNode → List ExprId
scalar_exprs scalars.Bit = []
scalar_exprs (scalars.UInt e) = e ∷ []
scalar_exprs (scalars.Int e) = e ∷ []

abbrev pub number_exprs : Option ScalarNode → List ExprId
number_exprs None = []
number_exprs (Some ty) = scalar_exprs ty

abbrev pub place_exprs : PlaceNode → List ExprId
place_exprs p = listed p.first ++ listed p.second

abbrev pub type_exprs : TypeNode → List ExprId
type_exprs t = scalar_exprs t.scalar ++ listed t.size

abbrev pub param_exprs : ParamNode → List ExprId
param_exprs p = type_exprs p.ty

-- the expressions that a node names
abbrev pub expr_exprs : Expr → List ExprId
expr_exprs (exprs.Number v ty spot) = number_exprs ty
expr_exprs (exprs.Truth b spot) = []
expr_exprs (exprs.Pi spot) = []
expr_exprs (exprs.Place p spot) = place_exprs p
expr_exprs (exprs.Call f statics args spot) = statics ++ args
expr_exprs (exprs.Tuple items spot) = items
expr_exprs (exprs.Unary op a spot) = a ∷ []
expr_exprs (exprs.Binary op a b spot) = a ∷ b ∷ []

abbrev pub stmt_exprs : Stmt → List ExprId
stmt_exprs (stmts.Assign p v spot) = place_exprs p ++ v ∷ []
stmt_exprs (stmts.Spread names v spot) = v ∷ []
stmt_exprs (stmts.Update p op v spot) = place_exprs p ++ v ∷ []
stmt_exprs (stmts.Forget name v spot) = listed v
stmt_exprs (stmts.Phase a spot) = a ∷ []
stmt_exprs (stmts.If c b other spot) = c ∷ []
stmt_exprs (stmts.For name low high body spot) = low ∷ high ∷ []
stmt_exprs (stmts.Return v spot) = listed v
stmt_exprs (stmts.Call c spot) = c ∷ []

abbrev pub fun_exprs : Fun → List ExprId
fun_exprs f = flat_map param_exprs f.params ++ flat_map type_exprs f.results

-- the statements that a node names
abbrev pub else_stmts : Else → List StmtId
else_stmts (elses.Block b) = b.items
else_stmts (elses.Choice s) = s ∷ []

abbrev pub stmt_stmts : Stmt → List StmtId
stmt_stmts (stmts.If c b other spot) = b.items ++ else_stmts other
stmt_stmts (stmts.For name low high body spot) = body.items
stmt_stmts (stmts.Assign p v spot) = []
stmt_stmts (stmts.Spread names v spot) = []
stmt_stmts (stmts.Update p op v spot) = []
stmt_stmts (stmts.Forget name v spot) = []
stmt_stmts (stmts.Phase a spot) = []
stmt_stmts (stmts.Return v spot) = []
stmt_stmts (stmts.Call c spot) = []

abbrev pub fun_stmts : Fun → List StmtId
fun_stmts f = f.body.items

-- each of the expressions, or statements, has a number below n
abbrev pub AreExprsBelow : ℕ → List ExprId → Type 0
AreExprsBelow n [] = Unit {0}
AreExprsBelow n (id ∷ ids) = (id.number < n) × AreExprsBelow n ids

abbrev pub AreStmtsBelow : ℕ → List StmtId → Type 0
AreStmtsBelow n [] = Unit {0}
AreStmtsBelow n (id ∷ ids) = (id.number < n) × AreStmtsBelow n ids

-- how often an expression, or a statement, is in a list
abbrev pub expr_count : ExprId → List ExprId → ℕ
expr_count id ids = count_by (λ e. e.number == id.number) ids

abbrev pub stmt_count : StmtId → List StmtId → ℕ
stmt_count id ids = count_by (λ s. s.number == id.number) ids

-- a second index stands only behind a first
abbrev pub HasFirst : PlaceNode → Type 0
HasFirst p = p.first ≡ None → p.second ≡ None

abbrev pub ExprHasFirst : Expr → Type 0
ExprHasFirst (exprs.Place p spot) = HasFirst p
ExprHasFirst (exprs.Number v ty spot) = Unit {0}
ExprHasFirst (exprs.Truth b spot) = Unit {0}
ExprHasFirst (exprs.Pi spot) = Unit {0}
ExprHasFirst (exprs.Call f statics args spot) = Unit {0}
ExprHasFirst (exprs.Tuple items spot) = Unit {0}
ExprHasFirst (exprs.Unary op a spot) = Unit {0}
ExprHasFirst (exprs.Binary op a b spot) = Unit {0}

abbrev pub StmtHasFirst : Stmt → Type 0
StmtHasFirst (stmts.Assign p v spot) = HasFirst p
StmtHasFirst (stmts.Update p op v spot) = HasFirst p
StmtHasFirst (stmts.Spread names v spot) = Unit {0}
StmtHasFirst (stmts.Forget name v spot) = Unit {0}
StmtHasFirst (stmts.Phase a spot) = Unit {0}
StmtHasFirst (stmts.If c b other spot) = Unit {0}
StmtHasFirst (stmts.For name low high body spot) = Unit {0}
StmtHasFirst (stmts.Return v spot) = Unit {0}
StmtHasFirst (stmts.Call c spot) = Unit {0}
