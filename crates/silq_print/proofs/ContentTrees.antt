-- The content of a tree is the same without places.
use Rattle.std.proofs.Common.{◌≡◌, List, [], ◌∷◌, ◌++◌, map, refl, sym, ◌∙◌, ap}
use Rattle.silq_tree.specs.Syntax.{Expression, ScalarType, Place, Expressions, number, typed_number, truth, pi, place, called, tuple, unary, binary, bit, uint, int, whole, part, part_of_part, none, more, Statement, Block, Otherwise, Statements, assign, spread, update, forget, forget_value, phase, choice, loop, return_nothing, return_value, call, block, else_block, else_choice, done, next, WrittenType, scalar, array, Parameter, Function, Program}
use Rattle.silq_grammar.specs.Grammar as g
use Rattle.silq_grammar.specs.Spelled.{program_text}
use Rattle.silq_grammar.specs.Trees.{program_tree}
use Rattle.silq_print.specs.Bare.{bare_expr, bare_scalar, bare_place, bare_exprs, bare_stmt, bare_block, bare_otherwise, bare_stmts, bare_type, bare_param, bare_function, bare_program}
use Rattle.silq_print.specs.Content.{a_name, a_number, content, names_content, expr_content, scalar_content, place_content, exprs_content, stmt_content, block_content, otherwise_content, stmts_content, type_content, types_content, params_content, function_content, tree_content}
use Rattle.silq_print.specs.Derived.{derived}
use Rattle.silq_print.proofs.DerivedTrees.{derived_stands}
use Rattle.silq_print.proofs.ContentTexts.{program_says}

mutual
  expr_same : (e : Expression) → expr_content (bare_expr e) ≡ expr_content e
  expr_same (number v at) = refl
  expr_same (typed_number v ty at) = λ i. a_number v ∷ scalar_same ty i
  expr_same (truth b at) = refl
  expr_same (pi at) = refl
  expr_same (place p at) = place_same p
  expr_same (called f statics args at) = λ i. a_name f ∷ (exprs_same statics i ++ exprs_same args i)
  expr_same (tuple es at) = exprs_same es
  expr_same (unary op e at) = expr_same e
  expr_same (binary op l r at) = λ i. expr_same l i ++ expr_same r i

  scalar_same : (ty : ScalarType) → scalar_content (bare_scalar ty) ≡ scalar_content ty
  scalar_same bit = refl
  scalar_same (uint e) = expr_same e
  scalar_same (int e) = expr_same e

  place_same : (p : Place) → place_content (bare_place p) ≡ place_content p
  place_same (whole n) = refl
  place_same (part n e) = λ i. a_name n ∷ expr_same e i
  place_same (part_of_part n e f) = λ i. a_name n ∷ (expr_same e i ++ expr_same f i)

  exprs_same : (es : Expressions) → exprs_content (bare_exprs es) ≡ exprs_content es
  exprs_same none = refl
  exprs_same (more e es) = λ i. expr_same e i ++ exprs_same es i

mutual
  stmt_same : (s : Statement) → stmt_content (bare_stmt s) ≡ stmt_content s
  stmt_same (assign p e at) = λ i. place_same p i ++ expr_same e i
  stmt_same (spread ns e at) = λ i. names_content ns ++ expr_same e i
  stmt_same (update p op e at) = λ i. place_same p i ++ expr_same e i
  stmt_same (forget n at) = refl
  stmt_same (forget_value n e at) = λ i. a_name n ∷ expr_same e i
  stmt_same (phase e at) = expr_same e
  stmt_same (choice e b o at) = λ i. expr_same e i ++ (block_same b i ++ otherwise_same o i)
  stmt_same (loop n e f b at) = λ i. a_name n ∷ (expr_same e i ++ (expr_same f i ++ block_same b i))
  stmt_same (return_nothing at) = refl
  stmt_same (return_value e at) = expr_same e
  stmt_same (call e at) = expr_same e

  block_same : (b : Block) → block_content (bare_block b) ≡ block_content b
  block_same (block b end) = stmts_same b

  otherwise_same : (o : Otherwise) → otherwise_content (bare_otherwise o) ≡ otherwise_content o
  otherwise_same (else_block b) = block_same b
  otherwise_same (else_choice s) = stmt_same s

  stmts_same : (b : Statements) → stmts_content (bare_stmts b) ≡ stmts_content b
  stmts_same done = refl
  stmts_same (next s b) = λ i. stmt_same s i ++ stmts_same b i

type_same : (ty : WrittenType) → type_content (bare_type ty) ≡ type_content ty
type_same (scalar c ty at) = scalar_same ty
type_same (array c ty n at) = λ i. scalar_same ty i ++ expr_same n i

types_same : (tys : List WrittenType) → types_content (map bare_type tys) ≡ types_content tys
types_same [] = refl
types_same (ty ∷ tys) = λ i. type_same ty i ++ types_same tys i

params_same : (ps : List Parameter) → params_content (map bare_param ps) ≡ params_content ps
params_same [] = refl
params_same (p ∷ ps) = λ i. (a_name p.name ∷ type_same p.ty i) ++ params_same ps i

function_same : (f : Function) → function_content (bare_function f) ≡ function_content f
function_same f = λ i. a_name f.name ∷ (names_content f.statics ++ (params_same f.params i ++ (types_same f.results i ++ block_same f.body i)))

pub bare_content : (p : Program) → tree_content (bare_program p) ≡ tree_content p
bare_content [] = refl
bare_content (f ∷ fs) = λ i. function_same f i ++ bare_content fs i

-- what a program is written as has its content
pub derived_content : (p : g.Program) → content (program_text (derived (program_tree p))) ≡ content (program_text p)
derived_content p =
    (program_says (derived (program_tree p))).is
    ∙ sym (bare_content (program_tree (derived (program_tree p))))
    ∙ ap tree_content (derived_stands p)
    ∙ bare_content (program_tree p)
    ∙ sym (program_says p).is
