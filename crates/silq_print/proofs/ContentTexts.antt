-- The content of a text is that of its tree.
use Rattle.std.proofs.Common.{◌≡◌, ℤ, Bool, true, false, List, [], ◌∷◌, ◌++◌, refl, sym, ◌∙◌, ap}
use Rattle.silq_tree.specs.declared.node.NameId.{NameId}
use Rattle.silq_tree.specs.declared.node.Spot.{Spot}
use Rattle.silq_grammar.specs.declared.token.Token.{Token}
use Rattle.silq_grammar.specs.declared.token.Token.TheVariants.{Name, Number, Fixed}
use Rattle.silq_grammar.specs.declared.token.Terminal.{Terminal}
use Rattle.silq_grammar.specs.Grammar.{Expr, one_and, or, And, one_cmp, and, Cmp, one_sum, compare, Sum, one_prod, plus, minus, Prod, one_unary, times, over, Unary, bang, negative, number, typed_number, true_, false_, pi, place, called, paren, Scalar, bit, uint, int, Place, whole, part, part_of_part, Call, plain, with_statics, Args, no_args, args, Exprs, last, and_more, NameList, last_name, and_names, Stmt, assign, spread, update, forget, forget_as, phase, choose, loop, return_nothing, return_value, call, Choice, only, either, chain, Block, braces, Stmts, none, more, Size, no_size, number_size, named_size, paren_size, Type_, quantum, classical, Result, last_type, and_types, Param, moved, held, Params, last_param, and_params, Statics, last_static, and_statics, StaticPart, no_statics, statics, ParamPart, no_params, params, MarkPart, no_mark, lifted, qfree, mfree, ResultPart, no_result, results, Function, def, Program, no_function, function_then}
use Rattle.silq_grammar.specs.Spelled.{expr_text, and_text, cmp_text, sum_text, prod_text, unary_text, scalar_text, place_text, call_text, args_text, exprs_text, names_text, stmt_text, choice_text, block_text, stmts_text, size_text, type_text, result_text, param_text, params_text, statics_text, static_part_text, param_part_text, mark_text, result_part_text, function_text, program_text}
use Rattle.silq_grammar.specs.Trees.{expr_tree, and_tree, cmp_tree, sum_tree, prod_tree, unary_tree, scalar_tree, place_tree, call_tree, args_tree, exprs_tree, names_tree, stmt_tree, choice_tree, block_tree, stmts_tree, sized_tree, type_tree, result_tree, param_tree, params_tree, statics_tree, static_part_tree, param_part_tree, result_part_tree, function_tree, program_tree}
use Rattle.silq_print.specs.Content.{Word, a_name, a_number, content, names_content, expr_content, scalar_content, place_content, exprs_content, stmt_content, block_content, stmts_content, type_content, types_content, param_content, params_content, function_content, tree_content}

-- tokens with this content
pub record Says (ts : List Token) (ws : List Word) : Type 0 where
  pub is : content ts ≡ ws

content_append : (ts us : List Token) → content (ts ++ us) ≡ content ts ++ content us
content_append [] us = refl
content_append (Name id at ∷ ts) us = ap (λ ws. a_name id ∷ ws) (content_append ts us)
content_append (Number v at ∷ ts) us = ap (λ ws. a_number v ∷ ws) (content_append ts us)
content_append (Fixed t at ∷ ts) us = content_append ts us

append_none : (ws : List Word) → ws ++ [] ≡ ws
append_none [] = refl
append_none (w ∷ ws) = ap (λ vs. w ∷ vs) (append_none ws)

silent : Says [] []
silent = record { is = refl }

a_sign : {t : Terminal} {s : Spot} {ts : List Token} {ws : List Word} → Says ts ws → Says (Fixed t s ∷ ts) ws
a_sign h = record { is = h.is }

its_name : {n : NameId} {s : Spot} {ts : List Token} {ws : List Word} → Says ts ws → Says (Name n s ∷ ts) (a_name n ∷ ws)
its_name {n = n} h = record { is = ap (λ vs. a_name n ∷ vs) h.is }

its_number : {v : ℤ} {s : Spot} {ts : List Token} {ws : List Word} → Says ts ws → Says (Number v s ∷ ts) (a_number v ∷ ws)
its_number {v = v} h = record { is = ap (λ vs. a_number v ∷ vs) h.is }

joined : {ts us : List Token} {ws vs : List Word} → Says ts ws → Says us vs → Says (ts ++ us) (ws ++ vs)
joined {ts = ts} {us = us} h g = record { is = content_append ts us ∙ (λ i. h.is i ++ g.is i) }

-- behind it nothing is said
closed : {ts us : List Token} {ws : List Word} → Says ts ws → Says us [] → Says (ts ++ us) ws
closed {ts = ts} {us = us} {ws = ws} h g = record { is = content_append ts us ∙ (λ i. h.is i ++ g.is i) ∙ append_none ws }

padded : {ts : List Token} {ws : List Word} → Says ts ws → Says ts (ws ++ [])
padded {ws = ws} h = record { is = h.is ∙ sym (append_none ws) }

mutual
  expr_says : (d : Expr) → Says (expr_text d) (expr_content (expr_tree d))
  expr_says (one_and a) = and_says a
  expr_says (or e s a) = joined (expr_says e) (a_sign (and_says a))

  and_says : (d : And) → Says (and_text d) (expr_content (and_tree d))
  and_says (one_cmp c) = cmp_says c
  and_says (and a s c) = joined (and_says a) (a_sign (cmp_says c))

  cmp_says : (d : Cmp) → Says (cmp_text d) (expr_content (cmp_tree d))
  cmp_says (one_sum a) = sum_says a
  cmp_says (compare c a s b) = joined (sum_says a) (a_sign (sum_says b))

  sum_says : (d : Sum) → Says (sum_text d) (expr_content (sum_tree d))
  sum_says (one_prod p) = prod_says p
  sum_says (plus a s p) = joined (sum_says a) (a_sign (prod_says p))
  sum_says (minus a s p) = joined (sum_says a) (a_sign (prod_says p))

  prod_says : (d : Prod) → Says (prod_text d) (expr_content (prod_tree d))
  prod_says (one_unary u) = unary_says u
  prod_says (times p s u) = joined (prod_says p) (a_sign (unary_says u))
  prod_says (over p s u) = joined (prod_says p) (a_sign (unary_says u))

  unary_says : (d : Unary) → Says (unary_text d) (expr_content (unary_tree d))
  unary_says (bang s u) = a_sign (unary_says u)
  unary_says (negative s u) = a_sign (unary_says u)
  unary_says (number v s) = its_number silent
  unary_says (typed_number v s c ty) = its_number (a_sign (scalar_says ty))
  unary_says (true_ s) = a_sign silent
  unary_says (false_ s) = a_sign silent
  unary_says (pi s) = a_sign silent
  unary_says (place p) = place_says p
  unary_says (called c) = call_says c
  unary_says (paren l (last e) r) = a_sign (closed (expr_says e) (a_sign silent))
  unary_says (paren l (and_more e s es) r) = a_sign (closed (joined (expr_says e) (a_sign (exprs_say es))) (a_sign silent))

  scalar_says : (d : Scalar) → Says (scalar_text d) (scalar_content (scalar_tree d))
  scalar_says (bit s) = a_sign silent
  scalar_says (uint s l e r) = a_sign (a_sign (closed (expr_says e) (a_sign silent)))
  scalar_says (int s l e r) = a_sign (a_sign (closed (expr_says e) (a_sign silent)))

  place_says : (d : Place) → Says (place_text d) (place_content (place_tree d))
  place_says (whole n s) = its_name silent
  place_says (part n s l e r) = its_name (a_sign (closed (expr_says e) (a_sign silent)))
  place_says (part_of_part n s l e r m f q) = its_name (a_sign (joined (expr_says e) (a_sign (a_sign (closed (expr_says f) (a_sign silent))))))

  call_says : (d : Call) → Says (call_text d) (expr_content (call_tree d))
  call_says (plain n s l a r) = its_name (a_sign (closed (args_say a) (a_sign silent)))
  call_says (with_statics n s l es r m a q) = its_name (a_sign (joined (exprs_say es) (a_sign (a_sign (closed (args_say a) (a_sign silent))))))

  args_say : (d : Args) → Says (args_text d) (exprs_content (args_tree d))
  args_say no_args = silent
  args_say (args es) = exprs_say es

  exprs_say : (d : Exprs) → Says (exprs_text d) (exprs_content (exprs_tree d))
  exprs_say (last e) = padded (expr_says e)
  exprs_say (and_more e s es) = joined (expr_says e) (a_sign (exprs_say es))

names_say : (d : NameList) → Says (names_text d) (names_content (names_tree d))
names_say (last_name n s) = its_name silent
names_say (and_names n s c ns) = its_name (a_sign (names_say ns))

mutual
  stmt_says : (d : Stmt) → Says (stmt_text d) (stmt_content (stmt_tree d))
  stmt_says (assign p s e end) = joined (place_says p) (a_sign (closed (expr_says e) (a_sign silent)))
  stmt_says (spread l n a c ns r s e end) = a_sign (its_name (a_sign (joined (names_say ns) (a_sign (a_sign (closed (expr_says e) (a_sign silent)))))))
  stmt_says (update op p s e end) = joined (place_says p) (a_sign (closed (expr_says e) (a_sign silent)))
  stmt_says (forget s l n a r end) = a_sign (a_sign (its_name (a_sign (a_sign silent))))
  stmt_says (forget_as s l n a i e r end) = a_sign (a_sign (its_name (a_sign (closed (expr_says e) (a_sign (a_sign silent))))))
  stmt_says (phase s l e r end) = a_sign (a_sign (closed (expr_says e) (a_sign (a_sign silent))))
  stmt_says (choose c) = choice_says c
  stmt_says (loop s n a i l e d f r b) = a_sign (its_name (a_sign (a_sign (joined (expr_says e) (a_sign (joined (expr_says f) (a_sign (block_says b))))))))
  stmt_says (return_nothing s end) = a_sign (a_sign silent)
  stmt_says (return_value s e end) = a_sign (closed (expr_says e) (a_sign silent))
  stmt_says (call c end) = closed (call_says c) (a_sign silent)

  choice_says : (d : Choice) → Says (choice_text d) (stmt_content (choice_tree d))
  choice_says (only s e b) = a_sign (joined (expr_says e) (padded (block_says b)))
  choice_says (either s e b o d) = a_sign (joined (expr_says e) (joined (block_says b) (a_sign (block_says d))))
  choice_says (chain s e b o c) = a_sign (joined (expr_says e) (joined (block_says b) (a_sign (choice_says c))))

  block_says : (d : Block) → Says (block_text d) (block_content (block_tree d))
  block_says (braces l b r) = a_sign (closed (stmts_say b) (a_sign silent))

  stmts_say : (d : Stmts) → Says (stmts_text d) (stmts_content (stmts_tree d))
  stmts_say none = silent
  stmts_say (more s b) = joined (stmt_says s) (stmts_say b)

sized_says : (ty : Scalar) (c : Bool) (n : Size) (s : Spot) → Says (scalar_text ty ++ size_text n) (type_content (sized_tree (scalar_tree ty) c n s))
sized_says ty c no_size s = closed (scalar_says ty) silent
sized_says ty c (number_size k v a) s = joined (scalar_says ty) (a_sign (its_number silent))
sized_says ty c (named_size k n a) s = joined (scalar_says ty) (a_sign (its_name silent))
sized_says ty c (paren_size k l e r) s = joined (scalar_says ty) (a_sign (a_sign (closed (expr_says e) (a_sign silent))))

type_says : (d : Type_) → Says (type_text d) (type_content (type_tree d))
type_says (quantum ty n) = sized_says ty false n _
type_says (classical s ty n) = a_sign (sized_says ty true n s)

result_says : (d : Result) → Says (result_text d) (types_content (result_tree d))
result_says (last_type ty) = padded (type_says ty)
result_says (and_types ty s r) = joined (type_says ty) (a_sign (result_says r))

param_says : (d : Param) → Says (param_text d) (param_content (param_tree d))
param_says (moved n s c ty) = its_name (a_sign (type_says ty))
param_says (held k n s c ty) = a_sign (its_name (a_sign (type_says ty)))

params_say : (d : Params) → Says (params_text d) (params_content (params_tree d))
params_say (last_param p) = padded (param_says p)
params_say (and_params p s ps) = joined (param_says p) (a_sign (params_say ps))

statics_say : (d : Statics) → Says (statics_text d) (names_content (statics_tree d))
statics_say (last_static n s c b k) = its_name (a_sign (a_sign (a_sign silent)))
statics_say (and_statics n s c b k m ns) = its_name (a_sign (a_sign (a_sign (a_sign (statics_say ns)))))

static_part_says : (d : StaticPart) → Says (static_part_text d) (names_content (static_part_tree d))
static_part_says no_statics = silent
static_part_says (statics l ns r) = a_sign (closed (statics_say ns) (a_sign silent))

param_part_says : (d : ParamPart) → Says (param_part_text d) (params_content (param_part_tree d))
param_part_says (no_params l r) = a_sign (a_sign silent)
param_part_says (params l ps r) = a_sign (closed (params_say ps) (a_sign silent))

mark_says : (d : MarkPart) → Says (mark_text d) []
mark_says no_mark = silent
mark_says (lifted s) = a_sign silent
mark_says (qfree s) = a_sign silent
mark_says (mfree s) = a_sign silent

result_part_says : (d : ResultPart) → Says (result_part_text d) (types_content (result_part_tree d))
result_part_says no_result = silent
result_part_says (results s r) = a_sign (result_says r)

-- in front of it nothing is said
behind : {ts us : List Token} {ws : List Word} → Says ts [] → Says us ws → Says (ts ++ us) ws
behind {ts = ts} {us = us} h g = record { is = content_append ts us ∙ (λ i. h.is i ++ g.is i) }

function_says : (d : Function) → Says (function_text d) (function_content (function_tree d))
function_says (def s n a ss ps m r b) =
    a_sign (its_name (joined (static_part_says ss) (joined (param_part_says ps) (behind (mark_says m) (joined (result_part_says r) (block_says b))))))

pub program_says : (d : Program) → Says (program_text d) (tree_content (program_tree d))
program_says no_function = silent
program_says (function_then f p) = joined (function_says f) (program_says p)
