-- The tree that a node stands for, where the trees of the nodes that it names are known:
-- `at` gives the tree of an expression, `stmt` that of a statement.
use Rattle.std.specs.Prelude.{List, [], ◌∷◌, Option, Some, None, map}
use Rattle.silq_tree.specs.declared.node.NameId.{NameId}
use Rattle.silq_tree.specs.declared.node.ExprId.{ExprId}
use Rattle.silq_tree.specs.declared.node.StmtId.{StmtId}
use Rattle.silq_tree.specs.declared.node.PlaceNode.{PlaceNode}
use Rattle.silq_tree.specs.declared.node.TypeNode.{TypeNode}
use Rattle.silq_tree.specs.declared.node.ParamNode.{ParamNode}
use Rattle.silq_tree.specs.declared.node.Fun.{Fun}
use Rattle.silq_tree.specs.declared.node.Block as blocks
use Rattle.silq_tree.specs.declared.node.ScalarNode.{ScalarNode}
use Rattle.silq_tree.specs.declared.node.ScalarNode.TheVariants as scalars
use Rattle.silq_tree.specs.declared.node.Else.{Else}
use Rattle.silq_tree.specs.declared.node.Else.TheVariants as elses
use Rattle.silq_tree.specs.declared.node.Expr.{Expr}
use Rattle.silq_tree.specs.declared.node.Expr.TheVariants as exprs
use Rattle.silq_tree.specs.declared.node.Stmt.{Stmt}
use Rattle.silq_tree.specs.declared.node.Stmt.TheVariants as stmts
use Rattle.silq_tree.specs.Syntax.{Expression, ScalarType, Expressions, number, typed_number, truth, pi, place, called, tuple, unary, binary, bit, uint, int, whole, part, part_of_part, none, more, Statement, Otherwise, Statements, assign, spread, update, forget, forget_value, phase, choice, loop, return_nothing, return_value, call, block, else_block, else_choice, done, next, WrittenType, scalar, array, Parameter, Function}
use Rattle.silq_tree.specs.Syntax as syntax

module _ (at : ExprId → Expression) where
  abbrev pub expressions_of : List ExprId → Expressions
  expressions_of [] = none
  expressions_of (id ∷ ids) = more (at id) (expressions_of ids)

  abbrev pub scalar_of : ScalarNode → ScalarType
  scalar_of scalars.Bit = bit
  scalar_of (scalars.UInt e) = uint (at e)
  scalar_of (scalars.Int e) = int (at e)

  abbrev pub part_of : NameId → Option ExprId → Option ExprId → syntax.Place
  part_of name None _ = whole name
  part_of name (Some i) None = part name (at i)
  part_of name (Some i) (Some j) = part_of_part name (at i) (at j)

  abbrev pub place_of : PlaceNode → syntax.Place
  place_of p = part_of p.name p.first p.second

  abbrev pub sized : TypeNode → Option ExprId → WrittenType
  sized t None = scalar t.classical (scalar_of t.scalar) t.at
  sized t (Some n) = array t.classical (scalar_of t.scalar) (at n) t.at

  abbrev pub type_of : TypeNode → WrittenType
  type_of t = sized t t.size

  abbrev pub param_of : ParamNode → Parameter
  param_of p = record { held = p.held; name = p.name; ty = type_of p.ty; at = p.at }

  abbrev pub expr_grown : Expr → Expression
  expr_grown (exprs.Number v None spot) = number v spot
  expr_grown (exprs.Number v (Some ty) spot) = typed_number v (scalar_of ty) spot
  expr_grown (exprs.Truth b spot) = truth b spot
  expr_grown (exprs.Pi spot) = pi spot
  expr_grown (exprs.Place p spot) = place (place_of p) spot
  expr_grown (exprs.Call f statics args spot) = called f (expressions_of statics) (expressions_of args) spot
  expr_grown (exprs.Tuple items spot) = tuple (expressions_of items) spot
  expr_grown (exprs.Unary op a spot) = unary op (at a) spot
  expr_grown (exprs.Binary op a b spot) = binary op (at a) (at b) spot

  module _ (stmt : StmtId → Statement) where
    abbrev pub statements_of : List StmtId → Statements
    statements_of [] = done
    statements_of (id ∷ ids) = next (stmt id) (statements_of ids)

    abbrev pub block_of : blocks.Block → syntax.Block
    block_of b = block (statements_of b.items) b.end

    abbrev pub otherwise_of : Else → Otherwise
    otherwise_of (elses.Block b) = else_block (block_of b)
    otherwise_of (elses.Choice s) = else_choice (stmt s)

    abbrev pub stmt_grown : Stmt → Statement
    stmt_grown (stmts.Assign p v spot) = assign (place_of p) (at v) spot
    stmt_grown (stmts.Spread names v spot) = spread names (at v) spot
    stmt_grown (stmts.Update p op v spot) = update (place_of p) op (at v) spot
    stmt_grown (stmts.Forget name None spot) = forget name spot
    stmt_grown (stmts.Forget name (Some v) spot) = forget_value name (at v) spot
    stmt_grown (stmts.Phase a spot) = phase (at a) spot
    stmt_grown (stmts.If c b other spot) = choice (at c) (block_of b) (otherwise_of other) spot
    stmt_grown (stmts.For name low high body spot) = loop name (at low) (at high) (block_of body) spot
    stmt_grown (stmts.Return None spot) = return_nothing spot
    stmt_grown (stmts.Return (Some v) spot) = return_value (at v) spot
    stmt_grown (stmts.Call c spot) = call (at c) spot

    abbrev pub fun_grown : Fun → Function
    fun_grown f = record {
      name = f.name;
      statics = f.statics;
      params = map param_of f.params;
      mark = f.mark;
      results = map type_of f.results;
      body = block_of f.body;
      at = f.at;
    }
