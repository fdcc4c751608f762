-- How a program is written: the derivation whose tokens are put. Each expression has the fewest parentheses where that is not too
-- deep, else those with which it is least deep. `n` is the nest around.
use Rattle.std.specs.Prelude.{ℕ, ◌+◌, Bool, true, false, nat_le, cond, List, [], ◌∷◌, map}
use Rattle.silq_tree.specs.declared.node.NameId.{NameId}
use Rattle.silq_tree.specs.declared.node.Mark.{Mark}
use Rattle.silq_tree.specs.declared.node.Mark.TheVariants as marks
use Rattle.silq_tree.specs.Syntax as tree
use Rattle.silq_grammar.specs.Grammar as g
use Rattle.silq_print.specs.Bare.{nowhere}
use Rattle.silq_print.specs.Ways.{depth, least, ways, written, anything, call_of}

abbrev pub expr_in : ℕ → tree.Expression → g.Expr
expr_in n e = cond (nat_le (n + depth (least (ways false e))) 64) (written false e) (written true e)

abbrev pub exprs_in : ℕ → tree.Expressions → List g.Expr
exprs_in n tree.none = []
exprs_in n (tree.more e es) = expr_in n e ∷ exprs_in n es

abbrev pub place_in : ℕ → tree.Place → g.Place
place_in n (tree.whole x) = g.whole x nowhere
place_in n (tree.part x e) = g.part x nowhere nowhere (expr_in (1 + n) e) nowhere
place_in n (tree.part_of_part x e f) = g.part_of_part x nowhere nowhere (expr_in (1 + n) e) nowhere nowhere (expr_in (1 + n) f) nowhere

-- only a call stands as a statement
abbrev pub call_in : ℕ → tree.Expression → g.Call
call_in n (tree.called f statics es at) = call_of f (exprs_in (1 + n) statics) (exprs_in (1 + n) es)
call_in n _ = call_of (record { number = 0 }) [] []

abbrev pub names_of : NameId → List NameId → g.NameList
names_of x [] = g.last_name x nowhere
names_of x (y ∷ ys) = g.and_names x nowhere nowhere (names_of y ys)

-- a tuple has two names or more
abbrev pub spread_in : List NameId → g.Expr → g.Stmt
spread_in (x ∷ y ∷ ys) e = g.spread nowhere x nowhere nowhere (names_of y ys) nowhere nowhere e nowhere
spread_in _ e = g.return_value nowhere e nowhere

-- what stands behind the block of an `if`
pub data Rest : Type 0 where
  no_rest : Rest
  block_rest : g.Block → Rest
  choice_rest : g.Choice → Rest

-- an empty block is left out with its `else`
abbrev pub rest_of : g.Block → Rest
rest_of (g.braces l g.none r) = no_rest
rest_of (g.braces l (g.more s b) r) = block_rest (g.braces l (g.more s b) r)

abbrev pub choice_of : g.Expr → g.Block → Rest → g.Choice
choice_of e b no_rest = g.only nowhere e b
choice_of e b (block_rest o) = g.either nowhere e b nowhere o
choice_of e b (choice_rest c) = g.chain nowhere e b nowhere c

abbrev mutual
  pub stmt_in : ℕ → tree.Statement → g.Stmt
  stmt_in n (tree.assign p e at) = g.assign (place_in n p) nowhere (expr_in n e) nowhere
  stmt_in n (tree.spread xs e at) = spread_in xs (expr_in n e)
  stmt_in n (tree.update p op e at) = g.update op (place_in n p) nowhere (expr_in n e) nowhere
  stmt_in n (tree.forget x at) = g.forget nowhere nowhere x nowhere nowhere nowhere
  stmt_in n (tree.forget_value x e at) = g.forget_as nowhere nowhere x nowhere nowhere (expr_in (1 + n) e) nowhere nowhere
  stmt_in n (tree.phase e at) = g.phase nowhere nowhere (expr_in (1 + n) e) nowhere nowhere
  stmt_in n (tree.choice e b o at) = g.choose (choice_of (expr_in n e) (block_in n b) (rest_in n o))
  stmt_in n (tree.loop x e f b at) = g.loop nowhere x nowhere nowhere nowhere (expr_in (1 + n) e) nowhere (expr_in (1 + n) f) nowhere (block_in n b)
  stmt_in n (tree.return_nothing at) = g.return_nothing nowhere nowhere
  stmt_in n (tree.return_value e at) = g.return_value nowhere (expr_in n e) nowhere
  stmt_in n (tree.call e at) = g.call (call_in n e) nowhere

  -- behind `else` stands only a choice
  pub choice_in : ℕ → tree.Statement → g.Choice
  choice_in n (tree.choice e b o at) = choice_of (expr_in n e) (block_in n b) (rest_in n o)
  choice_in n _ = g.only nowhere anything (g.braces nowhere g.none nowhere)

  pub rest_in : ℕ → tree.Otherwise → Rest
  rest_in n (tree.else_block b) = rest_of (block_in n b)
  rest_in n (tree.else_choice s) = choice_rest (choice_in (1 + n) s)

  pub block_in : ℕ → tree.Block → g.Block
  block_in n (tree.block b end) = g.braces nowhere (stmts_in (1 + n) b) nowhere

  pub stmts_in : ℕ → tree.Statements → g.Stmts
  stmts_in n tree.done = g.none
  stmts_in n (tree.next s b) = g.more (stmt_in n s) (stmts_in n b)

abbrev pub scalar_in : ℕ → tree.ScalarType → g.Scalar
scalar_in n tree.bit = g.bit nowhere
scalar_in n (tree.uint e) = g.uint nowhere nowhere (expr_in (1 + n) e) nowhere
scalar_in n (tree.int e) = g.int nowhere nowhere (expr_in (1 + n) e) nowhere

-- a number and a name want no parentheses
abbrev pub size_in : ℕ → tree.Expression → g.Size
size_in n (tree.number v at) = g.number_size nowhere v nowhere
size_in n (tree.place (tree.whole x) at) = g.named_size nowhere x nowhere
size_in n e = g.paren_size nowhere nowhere (expr_in (1 + n) e) nowhere

abbrev pub marked : Bool → g.Scalar → g.Size → g.Type_
marked true ty k = g.classical nowhere ty k
marked false ty k = g.quantum ty k

abbrev pub type_in : ℕ → tree.WrittenType → g.Type_
type_in n (tree.scalar c ty at) = marked c (scalar_in n ty) g.no_size
type_in n (tree.array c ty e at) = marked c (scalar_in n ty) (size_in n e)

abbrev pub param_of : Bool → NameId → g.Type_ → g.Param
param_of true x ty = g.held nowhere x nowhere nowhere ty
param_of false x ty = g.moved x nowhere nowhere ty

abbrev pub param_in : tree.Parameter → g.Param
param_in p = param_of p.held p.name (type_in 1 p.ty)

abbrev pub params_of : g.Param → List g.Param → g.Params
params_of p [] = g.last_param p
params_of p (q ∷ qs) = g.and_params p nowhere (params_of q qs)

abbrev pub param_part : List g.Param → g.ParamPart
param_part [] = g.no_params nowhere nowhere
param_part (p ∷ ps) = g.params nowhere (params_of p ps) nowhere

abbrev pub statics_of : NameId → List NameId → g.Statics
statics_of x [] = g.last_static x nowhere nowhere nowhere nowhere
statics_of x (y ∷ ys) = g.and_statics x nowhere nowhere nowhere nowhere nowhere (statics_of y ys)

abbrev pub static_part : List NameId → g.StaticPart
static_part [] = g.no_statics
static_part (x ∷ xs) = g.statics nowhere (statics_of x xs) nowhere

abbrev pub results_of : g.Type_ → List g.Type_ → g.Result
results_of ty [] = g.last_type ty
results_of ty (u ∷ us) = g.and_types ty nowhere (results_of u us)

abbrev pub result_part : List g.Type_ → g.ResultPart
result_part [] = g.no_result
result_part (ty ∷ tys) = g.results nowhere (results_of ty tys)

abbrev pub mark_part : Mark → g.MarkPart
mark_part marks.Plain = g.no_mark
mark_part marks.Lifted = g.lifted nowhere
mark_part marks.Qfree = g.qfree nowhere
mark_part marks.Mfree = g.mfree nowhere

abbrev pub function_in : tree.Function → g.Function
function_in f =
    g.def nowhere f.name nowhere (static_part f.statics) (param_part (map param_in f.params)) (mark_part f.mark) (result_part (map (type_in 0) f.results)) (block_in 0 f.body)

-- the derivation of a tree
abbrev pub derived : tree.Program → g.Program
derived [] = g.no_function
derived (f ∷ fs) = g.function_then (function_in f) (derived fs)
