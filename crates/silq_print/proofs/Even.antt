-- A derivation has one nest for each of its tokens, and fine tokens are those whose nests are all within 64.
use Rattle.std.proofs.Common.{◌≡◌, ℕ, ◌≤◌, Bool, true, false, nat_lt, cond, List, [], ◌∷◌, ◌++◌, refl, sym, ◌∙◌, ap, arith}
use Rattle.std.proofs.lemmas.Bool.Decides.{nat_tests}
use Rattle.silq_grammar.specs.declared.token.Token.{Token}
use Rattle.silq_grammar.specs.Grammar.{Expr, one_and, or, And, one_cmp, and, Cmp, one_sum, compare, Sum, one_prod, plus, minus, Prod, one_unary, times, over, Unary, bang, negative, number, typed_number, true_, false_, pi, place, called, paren, Scalar, bit, uint, int, Place, whole, part, part_of_part, Call, plain, with_statics, Args, no_args, args, Exprs, last, and_more, NameList, last_name, and_names, Stmt, assign, spread, update, forget, forget_as, phase, choose, loop, return_nothing, return_value, call, Choice, only, either, chain, Block, braces, Stmts, none, more, Size, no_size, number_size, named_size, paren_size, Type_, quantum, classical, Result, last_type, and_types, Param, moved, held, Params, last_param, and_params, Statics, last_static, and_statics, StaticPart, no_statics, statics, ParamPart, no_params, params, MarkPart, no_mark, lifted, qfree, mfree, ResultPart, no_result, results, Function, def, Program, no_function, function_then}
use Rattle.silq_grammar.specs.Spelled.{expr_text, and_text, cmp_text, sum_text, prod_text, unary_text, scalar_text, place_text, call_text, args_text, exprs_text, names_text, stmt_text, choice_text, block_text, stmts_text, size_text, type_text, result_text, param_text, params_text, statics_text, static_part_text, param_part_text, mark_text, result_part_text, function_text, program_text}
use Rattle.silq_grammar.specs.Nest.{expr_nests, and_nests, cmp_nests, sum_nests, prod_nests, unary_nests, scalar_nests, place_nests, call_nests, args_nests, exprs_nests, names_nests, stmt_nests, choice_nests, block_nests, stmts_nests, size_nests, type_nests, result_nests, param_nests, params_nests, statics_nests, static_part_nests, param_part_nests, mark_nests, result_part_nests, function_nests, program_nests, first_deep}
use Rattle.silq_grammar.specs.Trees.{program_tree}
use Rattle.silq_grammar.specs.Outcome.{Fine, Deep, program_outcome}
use Rattle.silq_grammar.proofs.Nests.{program_deep}
use Rattle.silq_print.specs.Derived.{derived}
use Rattle.silq_print.proofs.DerivedNests.{Within, program_keeps}

-- as many numbers as tokens
pub data Even : List Token → List ℕ → Type 0 where
  ended : Even [] []
  one : {t : Token} {n : ℕ} {ts : List Token} {ns : List ℕ} → Even ts ns → Even (t ∷ ts) (n ∷ ns)

joined : {ts us : List Token} {ns ms : List ℕ} → Even ts ns → Even us ms → Even (ts ++ us) (ns ++ ms)
joined ended f = f
joined (one e) f = one (joined e f)

mutual
  expr_even : (n : ℕ) (d : Expr) → Even (expr_text d) (expr_nests n d)
  expr_even q_ (one_and a) = and_even _ a
  expr_even q_ (or e s a) = joined (expr_even _ e) (one (and_even _ a))

  and_even : (n : ℕ) (d : And) → Even (and_text d) (and_nests n d)
  and_even q_ (one_cmp c) = cmp_even _ c
  and_even q_ (and a s c) = joined (and_even _ a) (one (cmp_even _ c))

  cmp_even : (n : ℕ) (d : Cmp) → Even (cmp_text d) (cmp_nests n d)
  cmp_even q_ (one_sum a) = sum_even _ a
  cmp_even q_ (compare c a s b) = joined (sum_even _ a) (one (sum_even _ b))

  sum_even : (n : ℕ) (d : Sum) → Even (sum_text d) (sum_nests n d)
  sum_even q_ (one_prod p) = prod_even _ p
  sum_even q_ (plus a s p) = joined (sum_even _ a) (one (prod_even _ p))
  sum_even q_ (minus a s p) = joined (sum_even _ a) (one (prod_even _ p))

  prod_even : (n : ℕ) (d : Prod) → Even (prod_text d) (prod_nests n d)
  prod_even q_ (one_unary u) = unary_even _ u
  prod_even q_ (times p s u) = joined (prod_even _ p) (one (unary_even _ u))
  prod_even q_ (over p s u) = joined (prod_even _ p) (one (unary_even _ u))

  unary_even : (n : ℕ) (d : Unary) → Even (unary_text d) (unary_nests n d)
  unary_even q_ (bang s u) = one (unary_even _ u)
  unary_even q_ (negative s u) = one (unary_even _ u)
  unary_even q_ (number v s) = one ended
  unary_even q_ (typed_number v s c ty) = one (one (scalar_even _ ty))
  unary_even q_ (true_ s) = one ended
  unary_even q_ (false_ s) = one ended
  unary_even q_ (pi s) = one ended
  unary_even q_ (place p) = place_even _ p
  unary_even q_ (called c) = call_even _ c
  unary_even q_ (paren l es r) = one (joined (exprs_even _ es) (one ended))

  scalar_even : (n : ℕ) (d : Scalar) → Even (scalar_text d) (scalar_nests n d)
  scalar_even q_ (bit s) = one ended
  scalar_even q_ (uint s l e r) = one (one (joined (expr_even _ e) (one ended)))
  scalar_even q_ (int s l e r) = one (one (joined (expr_even _ e) (one ended)))

  place_even : (n : ℕ) (d : Place) → Even (place_text d) (place_nests n d)
  place_even q_ (whole n s) = one ended
  place_even q_ (part n s l e r) = one (one (joined (expr_even _ e) (one ended)))
  place_even q_ (part_of_part n s l e r m f q) = one (one (joined (expr_even _ e) (one (one (joined (expr_even _ f) (one ended))))))

  call_even : (n : ℕ) (d : Call) → Even (call_text d) (call_nests n d)
  call_even q_ (plain n s l a r) = one (one (joined (args_even _ a) (one ended)))
  call_even q_ (with_statics n s l es r m a q) = one (one (joined (exprs_even _ es) (one (one (joined (args_even _ a) (one ended))))))

  args_even : (n : ℕ) (d : Args) → Even (args_text d) (args_nests n d)
  args_even q_ no_args = ended
  args_even q_ (args es) = exprs_even _ es

  exprs_even : (n : ℕ) (d : Exprs) → Even (exprs_text d) (exprs_nests n d)
  exprs_even q_ (last e) = expr_even _ e
  exprs_even q_ (and_more e s es) = joined (expr_even _ e) (one (exprs_even _ es))

names_even : (n : ℕ) (d : NameList) → Even (names_text d) (names_nests n d)
names_even q_ (last_name n s) = one ended
names_even q_ (and_names n s c ns) = one (one (names_even _ ns))

mutual
  stmt_even : (n : ℕ) (d : Stmt) → Even (stmt_text d) (stmt_nests n d)
  stmt_even q_ (assign p s e end) = joined (place_even _ p) (one (joined (expr_even _ e) (one ended)))
  stmt_even q_ (spread l n a c ns r s e end) = one (one (one (joined (names_even _ ns) (one (one (joined (expr_even _ e) (one ended)))))))
  stmt_even q_ (update op p s e end) = joined (place_even _ p) (one (joined (expr_even _ e) (one ended)))
  stmt_even q_ (forget s l n a r end) = one (one (one (one (one ended))))
  stmt_even q_ (forget_as s l n a i e r end) = one (one (one (one (joined (expr_even _ e) (one (one ended))))))
  stmt_even q_ (phase s l e r end) = one (one (joined (expr_even _ e) (one (one ended))))
  stmt_even q_ (choose c) = choice_even _ c
  stmt_even q_ (loop s n a i l e d f r b) = one (one (one (one (joined (expr_even _ e) (one (joined (expr_even _ f) (one (block_even _ b))))))))
  stmt_even q_ (return_nothing s end) = one (one ended)
  stmt_even q_ (return_value s e end) = one (joined (expr_even _ e) (one ended))
  stmt_even q_ (call c end) = joined (call_even _ c) (one ended)

  choice_even : (n : ℕ) (d : Choice) → Even (choice_text d) (choice_nests n d)
  choice_even q_ (only s e b) = one (joined (expr_even _ e) (block_even _ b))
  choice_even q_ (either s e b o d) = one (joined (expr_even _ e) (joined (block_even _ b) (one (block_even _ d))))
  choice_even q_ (chain s e b o c) = one (joined (expr_even _ e) (joined (block_even _ b) (one (choice_even _ c))))

  block_even : (n : ℕ) (d : Block) → Even (block_text d) (block_nests n d)
  block_even q_ (braces l b r) = one (joined (stmts_even _ b) (one ended))

  stmts_even : (n : ℕ) (d : Stmts) → Even (stmts_text d) (stmts_nests n d)
  stmts_even q_ none = ended
  stmts_even q_ (more s b) = joined (stmt_even _ s) (stmts_even _ b)

size_even : (n : ℕ) (d : Size) → Even (size_text d) (size_nests n d)
size_even q_ no_size = ended
size_even q_ (number_size c v s) = one (one ended)
size_even q_ (named_size c n s) = one (one ended)
size_even q_ (paren_size c l e r) = one (one (joined (expr_even _ e) (one ended)))

type_even : (n : ℕ) (d : Type_) → Even (type_text d) (type_nests n d)
type_even q_ (quantum ty n) = joined (scalar_even _ ty) (size_even _ n)
type_even q_ (classical s ty n) = one (joined (scalar_even _ ty) (size_even _ n))

result_even : (n : ℕ) (d : Result) → Even (result_text d) (result_nests n d)
result_even q_ (last_type ty) = type_even _ ty
result_even q_ (and_types ty s r) = joined (type_even _ ty) (one (result_even _ r))

param_even : (n : ℕ) (d : Param) → Even (param_text d) (param_nests n d)
param_even q_ (moved n s c ty) = one (one (type_even _ ty))
param_even q_ (held k n s c ty) = one (one (one (type_even _ ty)))

params_even : (n : ℕ) (d : Params) → Even (params_text d) (params_nests n d)
params_even q_ (last_param p) = param_even _ p
params_even q_ (and_params p s ps) = joined (param_even _ p) (one (params_even _ ps))

statics_even : (n : ℕ) (d : Statics) → Even (statics_text d) (statics_nests n d)
statics_even q_ (last_static n s c b k) = one (one (one (one ended)))
statics_even q_ (and_statics n s c b k m ns) = one (one (one (one (one (statics_even _ ns)))))

static_part_even : (d : StaticPart) → Even (static_part_text d) (static_part_nests d)
static_part_even no_statics = ended
static_part_even (statics l ns r) = one (joined (statics_even _ ns) (one ended))

param_part_even : (d : ParamPart) → Even (param_part_text d) (param_part_nests d)
param_part_even (no_params l r) = one (one ended)
param_part_even (params l ps r) = one (joined (params_even _ ps) (one ended))

mark_even : (d : MarkPart) → Even (mark_text d) (mark_nests d)
mark_even no_mark = ended
mark_even (lifted s) = one ended
mark_even (qfree s) = one ended
mark_even (mfree s) = one ended

result_part_even : (d : ResultPart) → Even (result_part_text d) (result_part_nests d)
result_part_even no_result = ended
result_part_even (results s r) = one (result_even _ r)

function_even : (d : Function) → Even (function_text d) (function_nests d)
function_even (def s n a ss ps m r b) = one (one (joined (static_part_even ss) (joined (param_part_even ps) (joined (mark_even m) (joined (result_part_even r) (block_even _ b))))))

pub program_even : (d : Program) → Even (program_text d) (program_nests d)
program_even no_function = ended
program_even (function_then f p) = joined (function_even f) (program_even p)

small : (n : ℕ) → nat_lt 64 n ≡ false → n ≤ 64
small n e = grind (arith, nat_tests)

not_large : (n : ℕ) → n ≤ 64 → nat_lt 64 n ≡ false
not_large n h = grind (arith, nat_tests)

fine_within : (ts : List Token) (ns : List ℕ) → Even ts ns → first_deep ns ts ≡ Fine → Within ns
fine_within [] [] e h = tt
fine_within [] (n ∷ ns) e h = no_such e
  where
    no_such : Even [] (n ∷ ns) → Within (n ∷ ns)
    no_such g = elim g [ ]
fine_within (t ∷ ts) [] e h = tt
fine_within (t ∷ ts) (n ∷ ns) e h = at_test (nat_lt 64 n) refl (λ g. fine_within ts ns (rest e) g) h
  where
    rest : Even (t ∷ ts) (n ∷ ns) → Even ts ns
    rest (one g) = g

    at_test : (b : Bool) → nat_lt 64 n ≡ b → (first_deep ns ts ≡ Fine → Within ns) → cond b (Deep (t ∷ ts)) (first_deep ns ts) ≡ Fine → Within (n ∷ ns)
    at_test true x ih g = cc
    at_test false x ih g = (small n x, ih g)

within_fine : (ts : List Token) (ns : List ℕ) → Within ns → first_deep ns ts ≡ Fine
within_fine ts [] h = refl
within_fine [] (n ∷ ns) h = refl
within_fine (t ∷ ts) (n ∷ ns) h = ap (λ b. cond b (Deep (t ∷ ts)) (first_deep ns ts)) (not_large n h.0) ∙ within_fine ts ns h.1

pub derived_fine : (p : Program) → program_outcome (program_text p) ≡ Fine → program_outcome (program_text (derived (program_tree p))) ≡ Fine
derived_fine p h =
    let q = derived (program_tree p) in
    let w : Within (program_nests p) = fine_within (program_text p) (program_nests p) (program_even p) (sym (program_deep p) ∙ h) in
    program_deep q ∙ within_fine (program_text q) (program_nests q) ((program_keeps p).keeps w)
