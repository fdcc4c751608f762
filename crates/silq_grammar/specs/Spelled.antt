-- The tokens that a derivation of the grammar spells.
use Rattle.std.specs.Prelude.{List, [], ◌∷◌, ◌++◌}
use Rattle.silq_tree.specs.declared.node.UpdateOp.{UpdateOp}
use Rattle.silq_tree.specs.declared.node.UpdateOp.TheVariants as updates
use Rattle.silq_grammar.specs.Tokens.{Token, Name, Number, Fixed, Terminal}
use Rattle.silq_grammar.specs.declared.token.Terminal.TheVariants as t
use Rattle.silq_grammar.specs.Grammar.{Comparison, equal, not_equal, below, at_most, above, at_least, Expr, one_and, or, And, one_cmp, and, Cmp, one_sum, compare, Sum, one_prod, plus, minus, Prod, one_unary, times, over, Unary, bang, negative, number, typed_number, true_, false_, pi, place, called, paren, Scalar, bit, uint, int, Place, whole, part, part_of_part, Call, plain, with_statics, Args, no_args, args, Exprs, last, and_more, NameList, last_name, and_names, Stmt, assign, spread, update, forget, forget_as, phase, choose, loop, return_nothing, return_value, call, Choice, only, either, chain, Block, braces, Stmts, none, more, Size, no_size, number_size, named_size, paren_size, Type_, quantum, classical, Result, last_type, and_types, Param, moved, held, Params, last_param, and_params, Statics, last_static, and_statics, StaticPart, no_statics, statics, ParamPart, no_params, params, MarkPart, no_mark, lifted, qfree, mfree, ResultPart, no_result, results, Function, def, Program, no_function, function_then}

abbrev pub comparison_sign : Comparison → Terminal
comparison_sign equal = t.Equal
comparison_sign not_equal = t.NotEqual
comparison_sign below = t.Below
comparison_sign at_most = t.AtMost
comparison_sign above = t.Above
comparison_sign at_least = t.AtLeast

abbrev pub update_sign : UpdateOp → Terminal
update_sign updates.Add = t.AddTo
update_sign updates.Sub = t.SubtractFrom
update_sign updates.Xor = t.XorTo

abbrev mutual
  pub expr_text : Expr → List Token
  expr_text (one_and a) = and_text a
  expr_text (or e s a) = expr_text e ++ (Fixed t.Or s ∷ and_text a)

  pub and_text : And → List Token
  and_text (one_cmp c) = cmp_text c
  and_text (and a s c) = and_text a ++ (Fixed t.And s ∷ cmp_text c)

  pub cmp_text : Cmp → List Token
  cmp_text (one_sum a) = sum_text a
  cmp_text (compare c a s b) = sum_text a ++ (Fixed (comparison_sign c) s ∷ sum_text b)

  pub sum_text : Sum → List Token
  sum_text (one_prod p) = prod_text p
  sum_text (plus a s p) = sum_text a ++ (Fixed t.Plus s ∷ prod_text p)
  sum_text (minus a s p) = sum_text a ++ (Fixed t.Minus s ∷ prod_text p)

  pub prod_text : Prod → List Token
  prod_text (one_unary u) = unary_text u
  prod_text (times p s u) = prod_text p ++ (Fixed t.Star s ∷ unary_text u)
  prod_text (over p s u) = prod_text p ++ (Fixed t.Slash s ∷ unary_text u)

  pub unary_text : Unary → List Token
  unary_text (bang s u) = Fixed t.Bang s ∷ unary_text u
  unary_text (negative s u) = Fixed t.Minus s ∷ unary_text u
  unary_text (number v s) = Number v s ∷ []
  unary_text (typed_number v s c ty) = Number v s ∷ Fixed t.Colon c ∷ scalar_text ty
  unary_text (true_ s) = Fixed t.True s ∷ []
  unary_text (false_ s) = Fixed t.False s ∷ []
  unary_text (pi s) = Fixed t.Pi s ∷ []
  unary_text (place p) = place_text p
  unary_text (called c) = call_text c
  unary_text (paren l es r) = Fixed t.LeftParen l ∷ (exprs_text es ++ (Fixed t.RightParen r ∷ []))

  pub scalar_text : Scalar → List Token
  scalar_text (bit s) = Fixed t.Bit s ∷ []
  scalar_text (uint s l e r) = Fixed t.UInt s ∷ Fixed t.LeftBracket l ∷ (expr_text e ++ (Fixed t.RightBracket r ∷ []))
  scalar_text (int s l e r) = Fixed t.Int s ∷ Fixed t.LeftBracket l ∷ (expr_text e ++ (Fixed t.RightBracket r ∷ []))

  pub place_text : Place → List Token
  place_text (whole n s) = Name n s ∷ []
  place_text (part n s l e r) = Name n s ∷ Fixed t.LeftBracket l ∷ (expr_text e ++ (Fixed t.RightBracket r ∷ []))
  place_text (part_of_part n s l e r m f q) =
      Name n s ∷ Fixed t.LeftBracket l ∷ (expr_text e ++ (Fixed t.RightBracket r ∷ Fixed t.LeftBracket m ∷ (expr_text f ++ (Fixed t.RightBracket q ∷ []))))

  pub call_text : Call → List Token
  call_text (plain n s l a r) = Name n s ∷ Fixed t.LeftParen l ∷ (args_text a ++ (Fixed t.RightParen r ∷ []))
  call_text (with_statics n s l es r m a q) =
      Name n s ∷ Fixed t.LeftBracket l ∷ (exprs_text es ++ (Fixed t.RightBracket r ∷ Fixed t.LeftParen m ∷ (args_text a ++ (Fixed t.RightParen q ∷ []))))

  pub args_text : Args → List Token
  args_text no_args = []
  args_text (args es) = exprs_text es

  pub exprs_text : Exprs → List Token
  exprs_text (last e) = expr_text e
  exprs_text (and_more e s es) = expr_text e ++ (Fixed t.Comma s ∷ exprs_text es)

abbrev pub names_text : NameList → List Token
names_text (last_name n s) = Name n s ∷ []
names_text (and_names n s c ns) = Name n s ∷ Fixed t.Comma c ∷ names_text ns

abbrev mutual
  pub stmt_text : Stmt → List Token
  stmt_text (assign p s e end) = place_text p ++ (Fixed t.Becomes s ∷ (expr_text e ++ (Fixed t.Semicolon end ∷ [])))
  stmt_text (spread l n a c ns r s e end) =
      Fixed t.LeftParen l ∷ Name n a ∷ Fixed t.Comma c ∷ (names_text ns ++ (Fixed t.RightParen r ∷ Fixed t.Becomes s ∷ (expr_text e ++ (Fixed t.Semicolon end ∷ []))))
  stmt_text (update op p s e end) = place_text p ++ (Fixed (update_sign op) s ∷ (expr_text e ++ (Fixed t.Semicolon end ∷ [])))
  stmt_text (forget s l n a r end) = Fixed t.Forget s ∷ Fixed t.LeftParen l ∷ Name n a ∷ Fixed t.RightParen r ∷ Fixed t.Semicolon end ∷ []
  stmt_text (forget_as s l n a i e r end) =
      Fixed t.Forget s ∷ Fixed t.LeftParen l ∷ Name n a ∷ Fixed t.Is i ∷ (expr_text e ++ (Fixed t.RightParen r ∷ Fixed t.Semicolon end ∷ []))
  stmt_text (phase s l e r end) = Fixed t.Phase s ∷ Fixed t.LeftParen l ∷ (expr_text e ++ (Fixed t.RightParen r ∷ Fixed t.Semicolon end ∷ []))
  stmt_text (choose c) = choice_text c
  stmt_text (loop s n a i l e d f r b) =
      Fixed t.For s ∷ Name n a ∷ Fixed t.In i ∷ Fixed t.LeftBracket l ∷ (expr_text e ++ (Fixed t.Dots d ∷ (expr_text f ++ (Fixed t.RightParen r ∷ block_text b))))
  stmt_text (return_nothing s end) = Fixed t.Return s ∷ Fixed t.Semicolon end ∷ []
  stmt_text (return_value s e end) = Fixed t.Return s ∷ (expr_text e ++ (Fixed t.Semicolon end ∷ []))
  stmt_text (call c end) = call_text c ++ (Fixed t.Semicolon end ∷ [])

  pub choice_text : Choice → List Token
  choice_text (only s e b) = Fixed t.If s ∷ (expr_text e ++ block_text b)
  choice_text (either s e b o d) = Fixed t.If s ∷ (expr_text e ++ (block_text b ++ (Fixed t.Else o ∷ block_text d)))
  choice_text (chain s e b o c) = Fixed t.If s ∷ (expr_text e ++ (block_text b ++ (Fixed t.Else o ∷ choice_text c)))

  pub block_text : Block → List Token
  block_text (braces l b r) = Fixed t.LeftBrace l ∷ (stmts_text b ++ (Fixed t.RightBrace r ∷ []))

  pub stmts_text : Stmts → List Token
  stmts_text none = []
  stmts_text (more s b) = stmt_text s ++ stmts_text b

abbrev pub size_text : Size → List Token
size_text no_size = []
size_text (number_size c v s) = Fixed t.Caret c ∷ Number v s ∷ []
size_text (named_size c n s) = Fixed t.Caret c ∷ Name n s ∷ []
size_text (paren_size c l e r) = Fixed t.Caret c ∷ Fixed t.LeftParen l ∷ (expr_text e ++ (Fixed t.RightParen r ∷ []))

abbrev pub type_text : Type_ → List Token
type_text (quantum ty n) = scalar_text ty ++ size_text n
type_text (classical s ty n) = Fixed t.Bang s ∷ (scalar_text ty ++ size_text n)

abbrev pub result_text : Result → List Token
result_text (last_type ty) = type_text ty
result_text (and_types ty s r) = type_text ty ++ (Fixed t.Times s ∷ result_text r)

abbrev pub param_text : Param → List Token
param_text (moved n s c ty) = Name n s ∷ Fixed t.Colon c ∷ type_text ty
param_text (held k n s c ty) = Fixed t.Const k ∷ Name n s ∷ Fixed t.Colon c ∷ type_text ty

abbrev pub params_text : Params → List Token
params_text (last_param p) = param_text p
params_text (and_params p s ps) = param_text p ++ (Fixed t.Comma s ∷ params_text ps)

abbrev pub statics_text : Statics → List Token
statics_text (last_static n s c b k) = Name n s ∷ Fixed t.Colon c ∷ Fixed t.Bang b ∷ Fixed t.Natural k ∷ []
statics_text (and_statics n s c b k m ns) = Name n s ∷ Fixed t.Colon c ∷ Fixed t.Bang b ∷ Fixed t.Natural k ∷ Fixed t.Comma m ∷ statics_text ns

abbrev pub static_part_text : StaticPart → List Token
static_part_text no_statics = []
static_part_text (statics l ns r) = Fixed t.LeftBracket l ∷ (statics_text ns ++ (Fixed t.RightBracket r ∷ []))

abbrev pub param_part_text : ParamPart → List Token
param_part_text (no_params l r) = Fixed t.LeftParen l ∷ Fixed t.RightParen r ∷ []
param_part_text (params l ps r) = Fixed t.LeftParen l ∷ (params_text ps ++ (Fixed t.RightParen r ∷ []))

abbrev pub mark_text : MarkPart → List Token
mark_text no_mark = []
mark_text (lifted s) = Fixed t.Lifted s ∷ []
mark_text (qfree s) = Fixed t.Qfree s ∷ []
mark_text (mfree s) = Fixed t.Mfree s ∷ []

abbrev pub result_part_text : ResultPart → List Token
result_part_text no_result = []
result_part_text (results s r) = Fixed t.Colon s ∷ result_text r

abbrev pub function_text : Function → List Token
function_text (def s n a ss ps m r b) =
    Fixed t.Def s ∷ Name n a ∷ (static_part_text ss ++ (param_part_text ps ++ (mark_text m ++ (result_part_text r ++ block_text b))))

abbrev pub program_text : Program → List Token
program_text no_function = []
program_text (function_then f p) = function_text f ++ program_text p
