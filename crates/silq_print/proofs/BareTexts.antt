-- A derivation with each place put to one value spells the tokens with each place put to that value.
use Rattle.std.proofs.Common.{◌≡◌, ℤ, List, [], ◌∷◌, ◌++◌, map, refl, sym, ◌∙◌, ap}
use Rattle.std.proofs.lemmas.List.{map-append}
use Rattle.silq_tree.specs.declared.node.NameId.{NameId}
use Rattle.silq_tree.specs.declared.node.Spot.{Spot}
use Rattle.silq_grammar.specs.declared.token.Terminal.{Terminal}
use Rattle.silq_grammar.specs.declared.token.Token.{Token}
use Rattle.silq_grammar.specs.declared.token.Token.TheVariants.{Name, Number, Fixed}
use Rattle.silq_grammar.specs.Tokens.{first_spot}
use Rattle.silq_grammar.specs.Grammar.{Expr, one_and, or, And, one_cmp, and, Cmp, one_sum, compare, Sum, one_prod, plus, minus, Prod, one_unary, times, over, Unary, bang, negative, number, typed_number, true_, false_, pi, place, called, paren, Scalar, bit, uint, int, Place, whole, part, part_of_part, Call, plain, with_statics, Args, no_args, args, Exprs, last, and_more, NameList, last_name, and_names, Stmt, assign, spread, update, forget, forget_as, phase, choose, loop, return_nothing, return_value, call, Choice, only, either, chain, Block, braces, Stmts, none, more, Size, no_size, number_size, named_size, paren_size, Type_, quantum, classical, Result, last_type, and_types, Param, moved, held, Params, last_param, and_params, Statics, last_static, and_statics, StaticPart, no_statics, statics, ParamPart, no_params, params, MarkPart, no_mark, lifted, qfree, mfree, ResultPart, no_result, results, Function, def, Program, no_function, function_then}
use Rattle.silq_grammar.specs.Spelled.{expr_text, and_text, cmp_text, sum_text, prod_text, unary_text, scalar_text, place_text, call_text, args_text, exprs_text, names_text, stmt_text, choice_text, block_text, stmts_text, size_text, type_text, result_text, param_text, params_text, statics_text, static_part_text, param_part_text, mark_text, result_part_text, function_text, program_text}
use Rattle.silq_print.specs.Bare.{nowhere, bare_token}
use Rattle.silq_print.proofs.Bared.{plain_expr, plain_and, plain_cmp, plain_sum, plain_prod, plain_unary, plain_scalar, plain_place, plain_call, plain_args, plain_exprs, plain_names, plain_stmt, plain_choice, plain_block, plain_stmts, plain_size, plain_type, plain_result, plain_param, plain_params, plain_statics, plain_static_part, plain_param_part, plain_mark, plain_result_part, plain_function, plain_program}

-- the first tokens are the others with each place put to one value
pub record Bares (us ts : List Token) : Type 0 where
  pub is : us ≡ map bare_token ts

pub ended : Bares [] []
ended = record { is = refl }

pub fixed : {t : Terminal} {s : Spot} {us ts : List Token} → Bares us ts → Bares (Fixed t nowhere ∷ us) (Fixed t s ∷ ts)
fixed {t = t} b = record { is = ap (λ w. Fixed t nowhere ∷ w) b.is }

pub name : {n : NameId} {s : Spot} {us ts : List Token} → Bares us ts → Bares (Name n nowhere ∷ us) (Name n s ∷ ts)
name {n = n} b = record { is = ap (λ w. Name n nowhere ∷ w) b.is }

pub number_ : {v : ℤ} {s : Spot} {us ts : List Token} → Bares us ts → Bares (Number v nowhere ∷ us) (Number v s ∷ ts)
number_ {v = v} b = record { is = ap (λ w. Number v nowhere ∷ w) b.is }

pub joined : {us vs ts ms : List Token} → Bares us ts → Bares vs ms → Bares (us ++ vs) (ts ++ ms)
joined {ts = ts} {ms = ms} b c = record { is = (λ i. b.is i ++ c.is i) ∙ sym (map-append bare_token ts ms) }

-- they start at that value
pub starts : {us ts : List Token} → Bares us ts → first_spot us ≡ nowhere
starts {ts = ts} b = ap first_spot b.is ∙ start ts
  where
    start : (ms : List Token) → first_spot (map bare_token ms) ≡ nowhere
    start [] = refl
    start (Name n s ∷ ms) = refl
    start (Number v s ∷ ms) = refl
    start (Fixed t s ∷ ms) = refl

mutual
  pub expr_bares : (d : Expr) → Bares (expr_text (plain_expr d)) (expr_text d)
  expr_bares (one_and a) = and_bares a
  expr_bares (or e s a) = joined (expr_bares e) (fixed (and_bares a))

  pub and_bares : (d : And) → Bares (and_text (plain_and d)) (and_text d)
  and_bares (one_cmp c) = cmp_bares c
  and_bares (and a s c) = joined (and_bares a) (fixed (cmp_bares c))

  pub cmp_bares : (d : Cmp) → Bares (cmp_text (plain_cmp d)) (cmp_text d)
  cmp_bares (one_sum a) = sum_bares a
  cmp_bares (compare c a s b) = joined (sum_bares a) (fixed (sum_bares b))

  pub sum_bares : (d : Sum) → Bares (sum_text (plain_sum d)) (sum_text d)
  sum_bares (one_prod p) = prod_bares p
  sum_bares (plus a s p) = joined (sum_bares a) (fixed (prod_bares p))
  sum_bares (minus a s p) = joined (sum_bares a) (fixed (prod_bares p))

  pub prod_bares : (d : Prod) → Bares (prod_text (plain_prod d)) (prod_text d)
  prod_bares (one_unary u) = unary_bares u
  prod_bares (times p s u) = joined (prod_bares p) (fixed (unary_bares u))
  prod_bares (over p s u) = joined (prod_bares p) (fixed (unary_bares u))

  pub unary_bares : (d : Unary) → Bares (unary_text (plain_unary d)) (unary_text d)
  unary_bares (bang s u) = fixed (unary_bares u)
  unary_bares (negative s u) = fixed (unary_bares u)
  unary_bares (number v s) = number_ ended
  unary_bares (typed_number v s c ty) = number_ (fixed (scalar_bares ty))
  unary_bares (true_ s) = fixed ended
  unary_bares (false_ s) = fixed ended
  unary_bares (pi s) = fixed ended
  unary_bares (place p) = place_bares p
  unary_bares (called c) = call_bares c
  unary_bares (paren l es r) = fixed (joined (exprs_bares es) (fixed ended))

  pub scalar_bares : (d : Scalar) → Bares (scalar_text (plain_scalar d)) (scalar_text d)
  scalar_bares (bit s) = fixed ended
  scalar_bares (uint s l e r) = fixed (fixed (joined (expr_bares e) (fixed ended)))
  scalar_bares (int s l e r) = fixed (fixed (joined (expr_bares e) (fixed ended)))

  pub place_bares : (d : Place) → Bares (place_text (plain_place d)) (place_text d)
  place_bares (whole n s) = name ended
  place_bares (part n s l e r) = name (fixed (joined (expr_bares e) (fixed ended)))
  place_bares (part_of_part n s l e r m f q) = name (fixed (joined (expr_bares e) (fixed (fixed (joined (expr_bares f) (fixed ended))))))

  pub call_bares : (d : Call) → Bares (call_text (plain_call d)) (call_text d)
  call_bares (plain n s l a r) = name (fixed (joined (args_bares a) (fixed ended)))
  call_bares (with_statics n s l es r m a q) = name (fixed (joined (exprs_bares es) (fixed (fixed (joined (args_bares a) (fixed ended))))))

  pub args_bares : (d : Args) → Bares (args_text (plain_args d)) (args_text d)
  args_bares no_args = ended
  args_bares (args es) = exprs_bares es

  pub exprs_bares : (d : Exprs) → Bares (exprs_text (plain_exprs d)) (exprs_text d)
  exprs_bares (last e) = expr_bares e
  exprs_bares (and_more e s es) = joined (expr_bares e) (fixed (exprs_bares es))

pub names_bares : (d : NameList) → Bares (names_text (plain_names d)) (names_text d)
names_bares (last_name n s) = name ended
names_bares (and_names n s c ns) = name (fixed (names_bares ns))

mutual
  pub stmt_bares : (d : Stmt) → Bares (stmt_text (plain_stmt d)) (stmt_text d)
  stmt_bares (assign p s e end) = joined (place_bares p) (fixed (joined (expr_bares e) (fixed ended)))
  stmt_bares (spread l n a c ns r s e end) = fixed (name (fixed (joined (names_bares ns) (fixed (fixed (joined (expr_bares e) (fixed ended)))))))
  stmt_bares (update op p s e end) = joined (place_bares p) (fixed (joined (expr_bares e) (fixed ended)))
  stmt_bares (forget s l n a r end) = fixed (fixed (name (fixed (fixed ended))))
  stmt_bares (forget_as s l n a i e r end) = fixed (fixed (name (fixed (joined (expr_bares e) (fixed (fixed ended))))))
  stmt_bares (phase s l e r end) = fixed (fixed (joined (expr_bares e) (fixed (fixed ended))))
  stmt_bares (choose c) = choice_bares c
  stmt_bares (loop s n a i l e d f r b) = fixed (name (fixed (fixed (joined (expr_bares e) (fixed (joined (expr_bares f) (fixed (block_bares b))))))))
  stmt_bares (return_nothing s end) = fixed (fixed ended)
  stmt_bares (return_value s e end) = fixed (joined (expr_bares e) (fixed ended))
  stmt_bares (call c end) = joined (call_bares c) (fixed ended)

  pub choice_bares : (d : Choice) → Bares (choice_text (plain_choice d)) (choice_text d)
  choice_bares (only s e b) = fixed (joined (expr_bares e) (block_bares b))
  choice_bares (either s e b o d) = fixed (joined (expr_bares e) (joined (block_bares b) (fixed (block_bares d))))
  choice_bares (chain s e b o c) = fixed (joined (expr_bares e) (joined (block_bares b) (fixed (choice_bares c))))

  pub block_bares : (d : Block) → Bares (block_text (plain_block d)) (block_text d)
  block_bares (braces l b r) = fixed (joined (stmts_bares b) (fixed ended))

  pub stmts_bares : (d : Stmts) → Bares (stmts_text (plain_stmts d)) (stmts_text d)
  stmts_bares none = ended
  stmts_bares (more s b) = joined (stmt_bares s) (stmts_bares b)

pub size_bares : (d : Size) → Bares (size_text (plain_size d)) (size_text d)
size_bares no_size = ended
size_bares (number_size c v s) = fixed (number_ ended)
size_bares (named_size c n s) = fixed (name ended)
size_bares (paren_size c l e r) = fixed (fixed (joined (expr_bares e) (fixed ended)))

pub type_bares : (d : Type_) → Bares (type_text (plain_type d)) (type_text d)
type_bares (quantum ty n) = joined (scalar_bares ty) (size_bares n)
type_bares (classical s ty n) = fixed (joined (scalar_bares ty) (size_bares n))

pub result_bares : (d : Result) → Bares (result_text (plain_result d)) (result_text d)
result_bares (last_type ty) = type_bares ty
result_bares (and_types ty s r) = joined (type_bares ty) (fixed (result_bares r))

pub param_bares : (d : Param) → Bares (param_text (plain_param d)) (param_text d)
param_bares (moved n s c ty) = name (fixed (type_bares ty))
param_bares (held k n s c ty) = fixed (name (fixed (type_bares ty)))

pub params_bares : (d : Params) → Bares (params_text (plain_params d)) (params_text d)
params_bares (last_param p) = param_bares p
params_bares (and_params p s ps) = joined (param_bares p) (fixed (params_bares ps))

pub statics_bares : (d : Statics) → Bares (statics_text (plain_statics d)) (statics_text d)
statics_bares (last_static n s c b k) = name (fixed (fixed (fixed ended)))
statics_bares (and_statics n s c b k m ns) = name (fixed (fixed (fixed (fixed (statics_bares ns)))))

pub static_part_bares : (d : StaticPart) → Bares (static_part_text (plain_static_part d)) (static_part_text d)
static_part_bares no_statics = ended
static_part_bares (statics l ns r) = fixed (joined (statics_bares ns) (fixed ended))

pub param_part_bares : (d : ParamPart) → Bares (param_part_text (plain_param_part d)) (param_part_text d)
param_part_bares (no_params l r) = fixed (fixed ended)
param_part_bares (params l ps r) = fixed (joined (params_bares ps) (fixed ended))

pub mark_bares : (d : MarkPart) → Bares (mark_text (plain_mark d)) (mark_text d)
mark_bares no_mark = ended
mark_bares (lifted s) = fixed ended
mark_bares (qfree s) = fixed ended
mark_bares (mfree s) = fixed ended

pub result_part_bares : (d : ResultPart) → Bares (result_part_text (plain_result_part d)) (result_part_text d)
result_part_bares no_result = ended
result_part_bares (results s r) = fixed (result_bares r)

pub function_bares : (d : Function) → Bares (function_text (plain_function d)) (function_text d)
function_bares (def s n a ss ps m r b) = fixed (name (joined (static_part_bares ss) (joined (param_part_bares ps) (joined (mark_bares m) (joined (result_part_bares r) (block_bares b))))))

pub program_bares : (d : Program) → Bares (program_text (plain_program d)) (program_text d)
program_bares no_function = ended
program_bares (function_then f p) = joined (function_bares f) (program_bares p)
