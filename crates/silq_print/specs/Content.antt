-- The names and numbers of tokens and of trees, in their order, without places.
use Rattle.std.specs.Prelude.{◌≡◌, ◌⊎◌, ℕ, suc, ◌<◌, ◌≤◌, ℤ, pos, negsuc, List, [], ◌∷◌, ◌++◌}
use Rattle.silq_tree.specs.declared.node.NameId.{NameId}
use Rattle.silq_tree.specs.Syntax.{Expression, ScalarType, Place, Expressions, number, typed_number, truth, pi, place, called, tuple, unary, binary, bit, uint, int, whole, part, part_of_part, none, more, Statement, Block, Otherwise, Statements, assign, spread, update, forget, forget_value, phase, choice, loop, return_nothing, return_value, call, block, else_block, else_choice, done, next, WrittenType, scalar, array, Parameter, Function, Program}
use Rattle.silq_grammar.specs.declared.token.Token.{Token}
use Rattle.silq_grammar.specs.declared.token.Token.TheVariants.{Name, Number, Fixed}

pub data Word : Type 0 where
  a_name : NameId → Word
  a_number : ℤ → Word

-- of tokens
abbrev pub content : List Token → List Word
content [] = []
content (Name id at ∷ ts) = a_name id ∷ content ts
content (Number value at ∷ ts) = a_number value ∷ content ts
content (Fixed t at ∷ ts) = content ts

abbrev pub names_content : List NameId → List Word
names_content [] = []
names_content (n ∷ ns) = a_name n ∷ names_content ns

abbrev mutual
  pub expr_content : Expression → List Word
  expr_content (number v at) = a_number v ∷ []
  expr_content (typed_number v ty at) = a_number v ∷ scalar_content ty
  expr_content (truth b at) = []
  expr_content (pi at) = []
  expr_content (place p at) = place_content p
  expr_content (called f statics args at) = a_name f ∷ (exprs_content statics ++ exprs_content args)
  expr_content (tuple es at) = exprs_content es
  expr_content (unary op e at) = expr_content e
  expr_content (binary op l r at) = expr_content l ++ expr_content r

  pub scalar_content : ScalarType → List Word
  scalar_content bit = []
  scalar_content (uint e) = expr_content e
  scalar_content (int e) = expr_content e

  pub place_content : Place → List Word
  place_content (whole n) = a_name n ∷ []
  place_content (part n e) = a_name n ∷ expr_content e
  place_content (part_of_part n e f) = a_name n ∷ (expr_content e ++ expr_content f)

  pub exprs_content : Expressions → List Word
  exprs_content none = []
  exprs_content (more e es) = expr_content e ++ exprs_content es

abbrev mutual
  pub stmt_content : Statement → List Word
  stmt_content (assign p e at) = place_content p ++ expr_content e
  stmt_content (spread ns e at) = names_content ns ++ expr_content e
  stmt_content (update p op e at) = place_content p ++ expr_content e
  stmt_content (forget n at) = a_name n ∷ []
  stmt_content (forget_value n e at) = a_name n ∷ expr_content e
  stmt_content (phase e at) = expr_content e
  stmt_content (choice e b o at) = expr_content e ++ (block_content b ++ otherwise_content o)
  stmt_content (loop n e f b at) = a_name n ∷ (expr_content e ++ (expr_content f ++ block_content b))
  stmt_content (return_nothing at) = []
  stmt_content (return_value e at) = expr_content e
  stmt_content (call e at) = expr_content e

  pub block_content : Block → List Word
  block_content (block b end) = stmts_content b

  pub otherwise_content : Otherwise → List Word
  otherwise_content (else_block b) = block_content b
  otherwise_content (else_choice s) = stmt_content s

  pub stmts_content : Statements → List Word
  stmts_content done = []
  stmts_content (next s b) = stmt_content s ++ stmts_content b

abbrev pub type_content : WrittenType → List Word
type_content (scalar c ty at) = scalar_content ty
type_content (array c ty n at) = scalar_content ty ++ expr_content n

abbrev pub types_content : List WrittenType → List Word
types_content [] = []
types_content (ty ∷ tys) = type_content ty ++ types_content tys

abbrev pub param_content : Parameter → List Word
param_content p = a_name p.name ∷ type_content p.ty

abbrev pub params_content : List Parameter → List Word
params_content [] = []
params_content (p ∷ ps) = param_content p ++ params_content ps

abbrev pub function_content : Function → List Word
function_content f =
    a_name f.name ∷ (names_content f.statics ++ (params_content f.params ++ (types_content f.results ++ block_content f.body)))

-- of the tree of a program
abbrev pub tree_content : Program → List Word
tree_content [] = []
tree_content (f ∷ fs) = function_content f ++ tree_content fs

-- names have numbers in the order in which they first stand, from n on; m is the number behind the last
abbrev pub AreNumbered : ℕ → List Word → ℕ → Type 0
AreNumbered n [] m = n ≡ m
AreNumbered n (a_name id ∷ ws) m = ((id.number < n) × AreNumbered n ws m) ⊎ ((id.number ≡ n) × AreNumbered (suc n) ws m)
AreNumbered n (a_number v ∷ ws) m = AreNumbered n ws m

-- numbers are those of tokens: none is negative, and none is too great
abbrev pub AreReadable : List Word → Type 0
AreReadable [] = Unit {0}
AreReadable (a_name id ∷ ws) = AreReadable ws
AreReadable (a_number (pos n) ∷ ws) = (n ≤ 9223372036854775807) × AreReadable ws
AreReadable (a_number (negsuc n) ∷ ws) = ⊥
