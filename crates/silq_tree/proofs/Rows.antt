-- Nodes and the trees that they stand for, by computing.
use Rattle.std.proofs.Common.{◌≡◌, ℕ, [], ◌∷◌, Some, None, pos, refl}
use Rattle.silq_tree.specs.declared.node.NameId.{NameId}
use Rattle.silq_tree.specs.declared.node.ExprId.{ExprId}
use Rattle.silq_tree.specs.declared.node.StmtId.{StmtId}
use Rattle.silq_tree.specs.declared.node.Spot.{Spot}
use Rattle.silq_tree.specs.declared.node.BinaryOp.TheVariants.{Add}
use Rattle.silq_tree.specs.declared.node.Expr.TheVariants as exprs
use Rattle.silq_tree.specs.declared.node.Stmt.TheVariants as stmts
use Rattle.silq_tree.specs.declared.node.Else.TheVariants as elses
use Rattle.silq_tree.specs.Syntax.{number, place, whole, part, called, binary, place, none, more, choice, else_block, block, done, next, return_value}
use Rattle.silq_tree.specs.Arena.{Forest, grow, grow_behind, expr_at, stmt_at}

at : Spot
at = record { line = 1; col = 1 }

x : NameId
x = record { number = 0 }

f : NameId
f = record { number = 1 }

e : ℕ → ExprId
e n = record { number = n }

s : ℕ → StmtId
s n = record { number = n }

-- the nodes of if x[1] + f(x) { return 1; }, with another 1
nodes : Forest
nodes = record {
  exprs =
      exprs.Number (pos 1) None at ∷ exprs.Place (record { name = x; first = Some (e 0); second = None }) at ∷ exprs.Place (record { name = x; first = None; second = None }) at
      ∷ exprs.Call f [] (e 2 ∷ []) at ∷ exprs.Binary Add (e 1) (e 3) at ∷ exprs.Number (pos 1) None at ∷ [];
  stmts =
      stmts.Return (Some (e 5)) at
      ∷ stmts.If (e 4) (record { items = s 0 ∷ []; end = at }) (elses.Block (record { items = []; end = at })) at ∷ [];
  funs = [];
}

row_expression : expr_at nodes (e 4) ≡ binary Add (place (part x (number (pos 1) at)) at) (called f none (more (place (whole x) at) none) at) at
unfolding nodes e grow grow_behind
row_expression = refl

row_statement : stmt_at nodes (s 1) ≡ choice (expr_at nodes (e 4)) (block (next (return_value (number (pos 1) at) at) done) at) (else_block (block done at)) at
unfolding nodes e s grow grow_behind
row_statement = refl
