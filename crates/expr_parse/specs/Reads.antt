-- What the functions of the parser have read: the tokens up to the rest spell a derivation, and the new nodes stand for its tree.
use Rattle.std.specs.Prelude.{◌≡◌, ◌+◌, ◌≤◌, List, [], ◌∷◌, ◌++◌, length}
use Rattle.silq_tree.specs.declared.node.ExprId.{ExprId}
use Rattle.silq_tree.specs.declared.node.StmtId.{StmtId}
use Rattle.silq_tree.specs.Syntax.{Expression, Statement}
use Rattle.silq_tree.specs.Arena.{Forest, expr_at, stmt_at}
use Rattle.silq_grammar.specs.declared.token.Token.{Token}
use Rattle.expr_parse.specs.Grown.{Grew}

-- each new node has a token of its own
pub record IsBounded (old new : Forest) (ts rest : List Token) : Type 0 where
  pub exprs : length new.exprs + length rest ≤ length old.exprs + length ts
  pub stmts : length new.stmts + length rest ≤ length old.stmts + length ts

-- an expression of the level with these texts and trees
pub record ReadsExpr {D : Type 0} (text : D → List Token) (tree : D → Expression) (old new : Forest) (ts : List Token) (id : ExprId) (rest : List Token) : Type 0 where
  pub derivation : D
  pub spelled : ts ≡ text derivation ++ rest
  pub stands : expr_at new id ≡ tree derivation
  pub grew : Grew old new (id ∷ []) []
  pub bounded : IsBounded old new ts rest

-- a statement of the kind with these texts and trees
pub record ReadsStmt {D : Type 0} (text : D → List Token) (tree : D → Statement) (old new : Forest) (ts : List Token) (id : StmtId) (rest : List Token) : Type 0 where
  pub derivation : D
  pub spelled : ts ≡ text derivation ++ rest
  pub stands : stmt_at new id ≡ tree derivation
  pub grew : Grew old new [] (id ∷ [])
  pub bounded : IsBounded old new ts rest

-- something else, whose tree is told of the new arena, with the nodes that it names
pub record ReadsPart {D T : Type 0} (text : D → List Token) (tree : D → T) (old new : Forest) (ts : List Token) (made : T) (exprs : List ExprId) (stmts : List StmtId) (rest : List Token) : Type 0 where
  pub derivation : D
  pub spelled : ts ≡ text derivation ++ rest
  pub stands : made ≡ tree derivation
  pub grew : Grew old new exprs stmts
  pub bounded : IsBounded old new ts rest
