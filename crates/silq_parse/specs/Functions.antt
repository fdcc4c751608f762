-- What the functions of a program that were read do to an arena.
use Rattle.std.specs.Prelude.{◌≡◌, ℕ, ◌+◌, ◌<◌, ◌≤◌, List, [], ◌∷◌, ◌++◌, length}
use Rattle.silq_tree.specs.declared.node.ExprId.{ExprId}
use Rattle.silq_tree.specs.declared.node.StmtId.{StmtId}
use Rattle.silq_tree.specs.declared.node.FunId.{FunId}
use Rattle.silq_tree.specs.declared.node.Fun.{Fun}
use Rattle.silq_tree.specs.Arena.{Forest, IsArena, KeepsTrees, fun_at, program_at, expr_parents, stmt_parents, with_fun}
use Rattle.silq_grammar.specs.declared.token.Token.{Token}
use Rattle.silq_grammar.specs.Grammar.{Function, Program}
use Rattle.silq_grammar.specs.Spelled.{function_text, program_text}
use Rattle.silq_grammar.specs.Trees.{function_tree, program_tree}

-- each expression and each statement has one parent
pub record AreOwned (f : Forest) : Type 0 where
  pub exprs : (id : ExprId) → id.number < length f.exprs → expr_parents f id ≡ 1
  pub stmts : (id : StmtId) → id.number < length f.stmts → stmt_parents f id ≡ 1

-- the function was added to an arena, with this number
pub record IsAddedFun (old new : Forest) (g : Fun) (id : FunId) : Type 0 where
  pub arena : IsArena old
  pub number : id.number ≡ length old.funs
  pub is : new ≡ with_fun old g

-- each new node has a token of its own
pub record HasRoom (old new : Forest) (ts rest : List Token) : Type 0 where
  pub exprs : length new.exprs + length rest ≤ length old.exprs + length ts
  pub stmts : length new.stmts + length rest ≤ length old.stmts + length ts
  pub funs : length new.funs + length rest ≤ length old.funs + length ts

-- the tokens up to the rest spell the function, for which the new node stands
pub record ReadsFunction (old new : Forest) (ts : List Token) (id : FunId) (rest : List Token) : Type 0 where
  pub derivation : Function
  pub spelled : ts ≡ function_text derivation ++ rest
  pub stands : fun_at new id ≡ function_tree derivation
  pub number : id.number ≡ length old.funs
  pub added : length new.funs ≡ length old.funs + 1
  pub trees : KeepsTrees old new
  pub owned : AreOwned old → AreOwned new
  pub bounded : HasRoom old new ts rest

-- their numbers count up from this one
abbrev pub AreInOrder : ℕ → List FunId → Type 0
AreInOrder n [] = Unit {0}
AreInOrder n (f ∷ fs) = (f.number ≡ n) × AreInOrder (n + 1) fs

-- the tokens up to the rest spell the functions, for which the new nodes stand, in their order
pub record ReadsFunctions (old new : Forest) (ts : List Token) (ids : List FunId) (rest : List Token) : Type 0 where
  pub derivation : Program
  pub spelled : ts ≡ program_text derivation ++ rest
  pub stands : program_at new ids ≡ program_tree derivation
  pub added : length new.funs ≡ length old.funs + length ids
  pub numbers : AreInOrder (length old.funs) ids
  pub owned : AreOwned old → AreOwned new
  pub bounded : HasRoom old new ts rest

-- the tokens spell the program of these functions, which are all, and each other node has one parent
pub record IsParsed (nodes : Forest) (ts : List Token) (ids : List FunId) : Type 0 where
  pub derivation : Program
  pub spelled : ts ≡ program_text derivation
  pub stands : program_at nodes ids ≡ program_tree derivation
  pub funs_are_all : length ids ≡ length nodes.funs
  pub funs_in_order : AreInOrder 0 ids
  pub owned : AreOwned nodes
