-- A derivation with each place put to one value stands for the tree with each place put to that value.
use Rattle.std.proofs.Common.{◌≡◌, Bool, true, false, [], ◌∷◌, map, refl, ◌∙◌, ap}
use Rattle.silq_tree.specs.declared.node.Spot.{Spot}
use Rattle.silq_tree.specs.declared.node.UnaryOp.TheVariants as unaries
use Rattle.silq_tree.specs.declared.node.BinaryOp.TheVariants as ops
use Rattle.silq_tree.specs.Syntax as tree
use Rattle.silq_grammar.specs.Tokens.{first_spot}
use Rattle.silq_grammar.specs.Grammar.{Expr, one_and, or, And, one_cmp, and, Cmp, one_sum, compare, Sum, one_prod, plus, minus, Prod, one_unary, times, over, Unary, bang, negative, number, typed_number, true_, false_, pi, place, called, paren, Scalar, bit, uint, int, Place, whole, part, part_of_part, Call, plain, with_statics, Args, no_args, args, Exprs, last, and_more, NameList, last_name, and_names, Stmt, assign, spread, update, forget, forget_as, phase, choose, loop, return_nothing, return_value, call, Choice, only, either, chain, Block, braces, Stmts, none, more, Size, no_size, number_size, named_size, paren_size, Type_, quantum, classical, Result, last_type, and_types, Param, moved, held, Params, last_param, and_params, Statics, last_static, and_statics, StaticPart, no_statics, statics, ParamPart, no_params, params, MarkPart, no_mark, lifted, qfree, mfree, ResultPart, no_result, results, Function, def, Program, no_function, function_then}
use Rattle.silq_grammar.specs.Spelled.{type_text}
use Rattle.silq_grammar.specs.Trees.{comparison_op, block_end, expr_tree, and_tree, cmp_tree, sum_tree, prod_tree, unary_tree, scalar_tree, place_tree, call_tree, args_tree, exprs_tree, names_tree, stmt_tree, choice_tree, block_tree, stmts_tree, sized_tree, type_tree, result_tree, param_tree, params_tree, statics_tree, static_part_tree, param_part_tree, mark_tree, result_part_tree, function_tree, program_tree}
use Rattle.silq_print.specs.Bare.{nowhere, bare_expr, bare_scalar, bare_place, bare_exprs, bare_stmt, bare_block, bare_stmts, bare_type, bare_param, bare_function, bare_program}
use Rattle.silq_print.proofs.Bared.{plain_expr, plain_and, plain_cmp, plain_sum, plain_prod, plain_unary, plain_scalar, plain_place, plain_call, plain_args, plain_exprs, plain_names, plain_stmt, plain_choice, plain_block, plain_stmts, plain_size, plain_type, plain_result, plain_param, plain_params, plain_statics, plain_static_part, plain_param_part, plain_mark, plain_result_part, plain_function, plain_program}
use Rattle.silq_print.proofs.BareTexts.{starts, expr_bares, and_bares, sum_bares, prod_bares, place_bares, call_bares, type_bares}

mutual
  pub expr_same : (d : Expr) → expr_tree (plain_expr d) ≡ bare_expr (expr_tree d)
  expr_same (one_and a) = and_same a
  expr_same (or e s a) = λ i. tree.binary ops.Or (expr_same e i) (and_same a i) (starts (expr_bares e) i)

  pub and_same : (d : And) → and_tree (plain_and d) ≡ bare_expr (and_tree d)
  and_same (one_cmp c) = cmp_same c
  and_same (and a s c) = λ i. tree.binary ops.And (and_same a i) (cmp_same c i) (starts (and_bares a) i)

  pub cmp_same : (d : Cmp) → cmp_tree (plain_cmp d) ≡ bare_expr (cmp_tree d)
  cmp_same (one_sum a) = sum_same a
  cmp_same (compare c a s b) = λ i. tree.binary (comparison_op c) (sum_same a i) (sum_same b i) (starts (sum_bares a) i)

  pub sum_same : (d : Sum) → sum_tree (plain_sum d) ≡ bare_expr (sum_tree d)
  sum_same (one_prod p) = prod_same p
  sum_same (plus a s p) = λ i. tree.binary ops.Add (sum_same a i) (prod_same p i) (starts (sum_bares a) i)
  sum_same (minus a s p) = λ i. tree.binary ops.Sub (sum_same a i) (prod_same p i) (starts (sum_bares a) i)

  pub prod_same : (d : Prod) → prod_tree (plain_prod d) ≡ bare_expr (prod_tree d)
  prod_same (one_unary u) = unary_same u
  prod_same (times p s u) = λ i. tree.binary ops.Mul (prod_same p i) (unary_same u i) (starts (prod_bares p) i)
  prod_same (over p s u) = λ i. tree.binary ops.Div (prod_same p i) (unary_same u i) (starts (prod_bares p) i)

  pub unary_same : (d : Unary) → unary_tree (plain_unary d) ≡ bare_expr (unary_tree d)
  unary_same (bang s u) = λ i. tree.unary unaries.Not (unary_same u i) nowhere
  unary_same (negative s u) = λ i. tree.unary unaries.Neg (unary_same u i) nowhere
  unary_same (number v s) = refl
  unary_same (typed_number v s c ty) = λ i. tree.typed_number v (scalar_same ty i) nowhere
  unary_same (true_ s) = refl
  unary_same (false_ s) = refl
  unary_same (pi s) = refl
  unary_same (place p) = λ i. tree.place (place_same p i) (starts (place_bares p) i)
  unary_same (called c) = call_same c
  unary_same (paren l (last e) r) = expr_same e
  unary_same (paren l (and_more e s es) r) = λ i. tree.tuple (tree.more (expr_same e i) (exprs_same es i)) nowhere

  pub scalar_same : (d : Scalar) → scalar_tree (plain_scalar d) ≡ bare_scalar (scalar_tree d)
  scalar_same (bit s) = refl
  scalar_same (uint s l e r) = λ i. tree.uint (expr_same e i)
  scalar_same (int s l e r) = λ i. tree.int (expr_same e i)

  pub place_same : (d : Place) → place_tree (plain_place d) ≡ bare_place (place_tree d)
  place_same (whole n s) = refl
  place_same (part n s l e r) = λ i. tree.part n (expr_same e i)
  place_same (part_of_part n s l e r m f q) = λ i. tree.part_of_part n (expr_same e i) (expr_same f i)

  pub call_same : (d : Call) → call_tree (plain_call d) ≡ bare_expr (call_tree d)
  call_same (plain n s l a r) = λ i. tree.called n tree.none (args_same a i) nowhere
  call_same (with_statics n s l es r m a q) = λ i. tree.called n (exprs_same es i) (args_same a i) nowhere

  pub args_same : (d : Args) → args_tree (plain_args d) ≡ bare_exprs (args_tree d)
  args_same no_args = refl
  args_same (args es) = exprs_same es

  pub exprs_same : (d : Exprs) → exprs_tree (plain_exprs d) ≡ bare_exprs (exprs_tree d)
  exprs_same (last e) = λ i. tree.more (expr_same e i) tree.none
  exprs_same (and_more e s es) = λ i. tree.more (expr_same e i) (exprs_same es i)

names_same : (d : NameList) → names_tree (plain_names d) ≡ names_tree d
names_same (last_name n s) = refl
names_same (and_names n s c ns) = ap (λ w. n ∷ w) (names_same ns)

end_same : (d : Block) → block_end (plain_block d) ≡ nowhere
end_same (braces l b r) = refl

mutual
  pub stmt_same : (d : Stmt) → stmt_tree (plain_stmt d) ≡ bare_stmt (stmt_tree d)
  stmt_same (assign p s e end) = λ i. tree.assign (place_same p i) (expr_same e i) (starts (place_bares p) i)
  stmt_same (spread l n a c ns r s e end) = λ i. tree.spread (n ∷ names_same ns i) (expr_same e i) nowhere
  stmt_same (update op p s e end) = λ i. tree.update (place_same p i) op (expr_same e i) (starts (place_bares p) i)
  stmt_same (forget s l n a r end) = refl
  stmt_same (forget_as s l n a i e r end) = λ i. tree.forget_value n (expr_same e i) nowhere
  stmt_same (phase s l e r end) = λ i. tree.phase (expr_same e i) nowhere
  stmt_same (choose c) = choice_same c
  stmt_same (loop s n a i l e d f r b) = λ i. tree.loop n (expr_same e i) (expr_same f i) (block_same b i) nowhere
  stmt_same (return_nothing s end) = refl
  stmt_same (return_value s e end) = λ i. tree.return_value (expr_same e i) nowhere
  stmt_same (call c end) = λ i. tree.call (call_same c i) (starts (call_bares c) i)

  pub choice_same : (d : Choice) → choice_tree (plain_choice d) ≡ bare_stmt (choice_tree d)
  choice_same (only s e b) = λ i. tree.choice (expr_same e i) (block_same b i) (tree.else_block (tree.block tree.done (end_same b i))) nowhere
  choice_same (either s e b o d) = λ i. tree.choice (expr_same e i) (block_same b i) (tree.else_block (block_same d i)) nowhere
  choice_same (chain s e b o c) = λ i. tree.choice (expr_same e i) (block_same b i) (tree.else_choice (choice_same c i)) nowhere

  pub block_same : (d : Block) → block_tree (plain_block d) ≡ bare_block (block_tree d)
  block_same (braces l b r) = λ i. tree.block (stmts_same b i) nowhere

  pub stmts_same : (d : Stmts) → stmts_tree (plain_stmts d) ≡ bare_stmts (stmts_tree d)
  stmts_same none = refl
  stmts_same (more s b) = λ i. tree.next (stmt_same s i) (stmts_same b i)

sized_same : (ty us : tree.ScalarType) (c : Bool) (n : Size) (s : Spot) → ty ≡ bare_scalar us → sized_tree ty c (plain_size n) nowhere ≡ bare_type (sized_tree us c n s)
sized_same ty us c no_size s e = λ i. tree.scalar c (e i) nowhere
sized_same ty us c (number_size k v a) s e = λ i. tree.array c (e i) (tree.number v nowhere) nowhere
sized_same ty us c (named_size k n a) s e = λ i. tree.array c (e i) (tree.place (tree.whole n) nowhere) nowhere
sized_same ty us c (paren_size k l f r) s e = λ i. tree.array c (e i) (expr_same f i) nowhere

pub type_same : (d : Type_) → type_tree (plain_type d) ≡ bare_type (type_tree d)
type_same (quantum ty n) =
    ap (sized_tree (scalar_tree (plain_scalar ty)) false (plain_size n)) (starts (type_bares (quantum ty n)))
    ∙ sized_same (scalar_tree (plain_scalar ty)) (scalar_tree ty) false n (first_spot (type_text (quantum ty n))) (scalar_same ty)
type_same (classical s ty n) = sized_same (scalar_tree (plain_scalar ty)) (scalar_tree ty) true n s (scalar_same ty)

pub result_same : (d : Result) → result_tree (plain_result d) ≡ map bare_type (result_tree d)
result_same (last_type ty) = λ i. type_same ty i ∷ []
result_same (and_types ty s r) = λ i. type_same ty i ∷ result_same r i

pub param_same : (d : Param) → param_tree (plain_param d) ≡ bare_param (param_tree d)
param_same (moved n s c ty) = λ i. record { held = false; name = n; ty = type_same ty i; at = nowhere }
param_same (held k n s c ty) = λ i. record { held = true; name = n; ty = type_same ty i; at = nowhere }

pub params_same : (d : Params) → params_tree (plain_params d) ≡ map bare_param (params_tree d)
params_same (last_param p) = λ i. param_same p i ∷ []
params_same (and_params p s ps) = λ i. param_same p i ∷ params_same ps i

pub statics_same : (d : Statics) → statics_tree (plain_statics d) ≡ statics_tree d
statics_same (last_static n s c b k) = refl
statics_same (and_statics n s c b k m ns) = ap (λ w. n ∷ w) (statics_same ns)

pub static_part_same : (d : StaticPart) → static_part_tree (plain_static_part d) ≡ static_part_tree d
static_part_same no_statics = refl
static_part_same (statics l ns r) = statics_same ns

pub param_part_same : (d : ParamPart) → param_part_tree (plain_param_part d) ≡ map bare_param (param_part_tree d)
param_part_same (no_params l r) = refl
param_part_same (params l ps r) = params_same ps

pub mark_same : (d : MarkPart) → mark_tree (plain_mark d) ≡ mark_tree d
mark_same no_mark = refl
mark_same (lifted s) = refl
mark_same (qfree s) = refl
mark_same (mfree s) = refl

pub result_part_same : (d : ResultPart) → result_part_tree (plain_result_part d) ≡ map bare_type (result_part_tree d)
result_part_same no_result = refl
result_part_same (results s r) = result_same r

pub function_same : (d : Function) → function_tree (plain_function d) ≡ bare_function (function_tree d)
function_same (def s n a ss ps m r b) = λ i. record {
  name = n;
  statics = static_part_same ss i;
  params = param_part_same ps i;
  mark = mark_same m i;
  results = result_part_same r i;
  body = block_same b i;
  at = nowhere;
}

pub program_same : (d : Program) → program_tree (plain_program d) ≡ bare_program (program_tree d)
program_same no_function = refl
program_same (function_then f p) = λ i. function_same f i ∷ program_same p i
