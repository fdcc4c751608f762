-- The tree that a derivation of the grammar stands for. The place of a node is that of its first token.
use Rattle.std.specs.Prelude.{Bool, true, false, List, [], ◌∷◌}
use Rattle.silq_tree.specs.declared.node.NameId.{NameId}
use Rattle.silq_tree.specs.declared.node.Spot.{Spot}
use Rattle.silq_tree.specs.declared.node.Mark.{Mark}
use Rattle.silq_tree.specs.declared.node.Mark.TheVariants as marks
use Rattle.silq_tree.specs.declared.node.UnaryOp.TheVariants as unaries
use Rattle.silq_tree.specs.declared.node.BinaryOp.{BinaryOp}
use Rattle.silq_tree.specs.declared.node.BinaryOp.TheVariants as ops
use Rattle.silq_tree.specs.Syntax as tree
use Rattle.silq_grammar.specs.Tokens.{first_spot}
use Rattle.silq_grammar.specs.Spelled.{expr_text, and_text, sum_text, prod_text, place_text, call_text, type_text}
use Rattle.silq_grammar.specs.Grammar.{Comparison, equal, not_equal, below, at_most, above, at_least, Expr, one_and, or, And, one_cmp, and, Cmp, one_sum, compare, Sum, one_prod, plus, minus, Prod, one_unary, times, over, Unary, bang, negative, number, typed_number, true_, false_, pi, place, called, paren, Scalar, bit, uint, int, Place, whole, part, part_of_part, Call, plain, with_statics, Args, no_args, args, Exprs, last, and_more, NameList, last_name, and_names, Stmt, assign, spread, update, forget, forget_as, phase, choose, loop, return_nothing, return_value, call, Choice, only, either, chain, Block, braces, Stmts, none, more, Size, no_size, number_size, named_size, paren_size, Type_, quantum, classical, Result, last_type, and_types, Param, moved, held, Params, last_param, and_params, Statics, last_static, and_statics, StaticPart, no_statics, statics, ParamPart, no_params, params, MarkPart, no_mark, lifted, qfree, mfree, ResultPart, no_result, results, Function, def, Program, no_function, function_then}

abbrev pub comparison_op : Comparison → BinaryOp
comparison_op equal = ops.Eq
comparison_op not_equal = ops.Ne
comparison_op below = ops.Lt
comparison_op at_most = ops.Le
comparison_op above = ops.Gt
comparison_op at_least = ops.Ge

abbrev mutual
  pub expr_tree : Expr → tree.Expression
  expr_tree (one_and a) = and_tree a
  expr_tree (or e s a) = tree.binary ops.Or (expr_tree e) (and_tree a) (first_spot (expr_text e))

  pub and_tree : And → tree.Expression
  and_tree (one_cmp c) = cmp_tree c
  and_tree (and a s c) = tree.binary ops.And (and_tree a) (cmp_tree c) (first_spot (and_text a))

  pub cmp_tree : Cmp → tree.Expression
  cmp_tree (one_sum a) = sum_tree a
  cmp_tree (compare c a s b) = tree.binary (comparison_op c) (sum_tree a) (sum_tree b) (first_spot (sum_text a))

  pub sum_tree : Sum → tree.Expression
  sum_tree (one_prod p) = prod_tree p
  sum_tree (plus a s p) = tree.binary ops.Add (sum_tree a) (prod_tree p) (first_spot (sum_text a))
  sum_tree (minus a s p) = tree.binary ops.Sub (sum_tree a) (prod_tree p) (first_spot (sum_text a))

  pub prod_tree : Prod → tree.Expression
  prod_tree (one_unary u) = unary_tree u
  prod_tree (times p s u) = tree.binary ops.Mul (prod_tree p) (unary_tree u) (first_spot (prod_text p))
  prod_tree (over p s u) = tree.binary ops.Div (prod_tree p) (unary_tree u) (first_spot (prod_text p))

  pub unary_tree : Unary → tree.Expression
  unary_tree (bang s u) = tree.unary unaries.Not (unary_tree u) s
  unary_tree (negative s u) = tree.unary unaries.Neg (unary_tree u) s
  unary_tree (number v s) = tree.number v s
  unary_tree (typed_number v s c ty) = tree.typed_number v (scalar_tree ty) s
  unary_tree (true_ s) = tree.truth true s
  unary_tree (false_ s) = tree.truth false s
  unary_tree (pi s) = tree.pi s
  unary_tree (place p) = tree.place (place_tree p) (first_spot (place_text p))
  unary_tree (called c) = call_tree c
  -- parentheses round one expression leave no node
  unary_tree (paren l (last e) r) = expr_tree e
  unary_tree (paren l (and_more e s es) r) = tree.tuple (tree.more (expr_tree e) (exprs_tree es)) l

  pub scalar_tree : Scalar → tree.ScalarType
  scalar_tree (bit s) = tree.bit
  scalar_tree (uint s l e r) = tree.uint (expr_tree e)
  scalar_tree (int s l e r) = tree.int (expr_tree e)

  pub place_tree : Place → tree.Place
  place_tree (whole n s) = tree.whole n
  place_tree (part n s l e r) = tree.part n (expr_tree e)
  place_tree (part_of_part n s l e r m f q) = tree.part_of_part n (expr_tree e) (expr_tree f)

  pub call_tree : Call → tree.Expression
  call_tree (plain n s l a r) = tree.called n tree.none (args_tree a) s
  call_tree (with_statics n s l es r m a q) = tree.called n (exprs_tree es) (args_tree a) s

  pub args_tree : Args → tree.Expressions
  args_tree no_args = tree.none
  args_tree (args es) = exprs_tree es

  pub exprs_tree : Exprs → tree.Expressions
  exprs_tree (last e) = tree.more (expr_tree e) tree.none
  exprs_tree (and_more e s es) = tree.more (expr_tree e) (exprs_tree es)

abbrev pub names_tree : NameList → List NameId
names_tree (last_name n s) = n ∷ []
names_tree (and_names n s c ns) = n ∷ names_tree ns

-- the place of the closing brace
abbrev pub block_end : Block → Spot
block_end (braces l b r) = r

abbrev mutual
  pub stmt_tree : Stmt → tree.Statement
  stmt_tree (assign p s e end) = tree.assign (place_tree p) (expr_tree e) (first_spot (place_text p))
  stmt_tree (spread l n a c ns r s e end) = tree.spread (n ∷ names_tree ns) (expr_tree e) l
  stmt_tree (update op p s e end) = tree.update (place_tree p) op (expr_tree e) (first_spot (place_text p))
  stmt_tree (forget s l n a r end) = tree.forget n s
  stmt_tree (forget_as s l n a i e r end) = tree.forget_value n (expr_tree e) s
  stmt_tree (phase s l e r end) = tree.phase (expr_tree e) s
  stmt_tree (choose c) = choice_tree c
  stmt_tree (loop s n a i l e d f r b) = tree.loop n (expr_tree e) (expr_tree f) (block_tree b) s
  stmt_tree (return_nothing s end) = tree.return_nothing s
  stmt_tree (return_value s e end) = tree.return_value (expr_tree e) s
  stmt_tree (call c end) = tree.call (call_tree c) (first_spot (call_text c))

  -- no `else` is an empty block, which ends where the block before it ends
  pub choice_tree : Choice → tree.Statement
  choice_tree (only s e b) = tree.choice (expr_tree e) (block_tree b) (tree.else_block (tree.block tree.done (block_end b))) s
  choice_tree (either s e b o d) = tree.choice (expr_tree e) (block_tree b) (tree.else_block (block_tree d)) s
  choice_tree (chain s e b o c) = tree.choice (expr_tree e) (block_tree b) (tree.else_choice (choice_tree c)) s

  pub block_tree : Block → tree.Block
  block_tree (braces l b r) = tree.block (stmts_tree b) r

  pub stmts_tree : Stmts → tree.Statements
  stmts_tree none = tree.done
  stmts_tree (more s b) = tree.next (stmt_tree s) (stmts_tree b)

abbrev pub sized_tree : tree.ScalarType → Bool → Size → Spot → tree.WrittenType
sized_tree ty c no_size at = tree.scalar c ty at
sized_tree ty c (number_size k v s) at = tree.array c ty (tree.number v s) at
sized_tree ty c (named_size k n s) at = tree.array c ty (tree.place (tree.whole n) s) at
sized_tree ty c (paren_size k l e r) at = tree.array c ty (expr_tree e) at

abbrev pub type_tree : Type_ → tree.WrittenType
type_tree (quantum ty n) = sized_tree (scalar_tree ty) false n (first_spot (type_text (quantum ty n)))
type_tree (classical s ty n) = sized_tree (scalar_tree ty) true n s

abbrev pub result_tree : Result → List tree.WrittenType
result_tree (last_type ty) = type_tree ty ∷ []
result_tree (and_types ty s r) = type_tree ty ∷ result_tree r

abbrev pub param_tree : Param → tree.Parameter
param_tree (moved n s c ty) = record { held = false; name = n; ty = type_tree ty; at = s }
param_tree (held k n s c ty) = record { held = true; name = n; ty = type_tree ty; at = k }

abbrev pub params_tree : Params → List tree.Parameter
params_tree (last_param p) = param_tree p ∷ []
params_tree (and_params p s ps) = param_tree p ∷ params_tree ps

abbrev pub statics_tree : Statics → List NameId
statics_tree (last_static n s c b k) = n ∷ []
statics_tree (and_statics n s c b k m ns) = n ∷ statics_tree ns

abbrev pub static_part_tree : StaticPart → List NameId
static_part_tree no_statics = []
static_part_tree (statics l ns r) = statics_tree ns

abbrev pub param_part_tree : ParamPart → List tree.Parameter
param_part_tree (no_params l r) = []
param_part_tree (params l ps r) = params_tree ps

abbrev pub mark_tree : MarkPart → Mark
mark_tree no_mark = marks.Plain
mark_tree (lifted s) = marks.Lifted
mark_tree (qfree s) = marks.Qfree
mark_tree (mfree s) = marks.Mfree

abbrev pub result_part_tree : ResultPart → List tree.WrittenType
result_part_tree no_result = []
result_part_tree (results s r) = result_tree r

abbrev pub function_tree : Function → tree.Function
function_tree (def s n a ss ps m r b) = record {
  name = n;
  statics = static_part_tree ss;
  params = param_part_tree ps;
  mark = mark_tree m;
  results = result_part_tree r;
  body = block_tree b;
  at = s;
}

abbrev pub program_tree : Program → tree.Program
program_tree no_function = []
program_tree (function_then f p) = function_tree f ∷ program_tree p
