-- The nest at each token of a program, told by its derivation: a list has one number for each token, where n is the nest around.
-- Blocks, brackets, parentheses, unary signs and `else` choices count one each from their first token on, a binary operator one from
-- its own token to the end of its chain. A closing sign counts as what is around it: its opening sign has counted one more before it,
-- so the first number above 64 is the same as where it still counts.
use Rattle.std.specs.Prelude.{◌≡◌, ℕ, ◌+◌, ◌≤◌, nat_lt, cond, List, [], ◌∷◌, ◌++◌, length}
use Rattle.silq_grammar.specs.Tokens.{Token}
use Rattle.silq_grammar.specs.Grammar as g
use Rattle.silq_grammar.specs.Grammar.{Comparison, equal, not_equal, below, at_most, above, at_least, Expr, one_and, or, And, one_cmp, and, Cmp, one_sum, compare, Sum, one_prod, plus, minus, Prod, one_unary, times, over, Unary, bang, negative, number, typed_number, true_, false_, pi, place, called, paren, Scalar, bit, uint, int, Place, whole, part, part_of_part, Call, plain, with_statics, Args, no_args, args, Exprs, last, and_more, NameList, last_name, and_names, Stmt, assign, spread, update, forget, forget_as, phase, choose, loop, return_nothing, return_value, call, Choice, only, either, chain, Block, braces, Stmts, none, more, Size, no_size, number_size, named_size, paren_size, Type_, quantum, classical, Result, last_type, and_types, Param, moved, held, last_param, and_params, Statics, last_static, and_statics, no_statics, statics, no_params, params, no_mark, lifted, qfree, mfree, no_result, results, Function, def, Program, no_function, function_then}
use Rattle.silq_grammar.specs.Spelled.{program_text}
use Rattle.silq_grammar.specs.Outcome.{Outcome, Fine, Syntax, Deep, program_outcome}

-- how many operators a chain has

abbrev pub prod_count : Prod → ℕ
prod_count (one_unary u) = 0
prod_count (times p s u) = prod_count p + 1
prod_count (over p s u) = prod_count p + 1

abbrev pub sum_count : Sum → ℕ
sum_count (one_prod p) = 0
sum_count (plus a s p) = sum_count a + 1
sum_count (minus a s p) = sum_count a + 1

abbrev pub and_count : And → ℕ
and_count (one_cmp c) = 0
and_count (and a s c) = and_count a + 1

abbrev pub or_count : Expr → ℕ
or_count (one_and a) = 0
or_count (or e s a) = or_count e + 1

abbrev mutual
  pub expr_nests : ℕ → Expr → List ℕ
  expr_nests n (one_and a) = and_nests n a
  expr_nests n (or e s a) = expr_nests n e ++ ((or_count e + 1 + n) ∷ and_nests (or_count e + 1 + n) a)

  pub and_nests : ℕ → And → List ℕ
  and_nests n (one_cmp c) = cmp_nests n c
  and_nests n (and a s c) = and_nests n a ++ ((and_count a + 1 + n) ∷ cmp_nests (and_count a + 1 + n) c)

  pub cmp_nests : ℕ → Cmp → List ℕ
  cmp_nests n (one_sum a) = sum_nests n a
  cmp_nests n (compare c a s b) = sum_nests n a ++ ((1 + n) ∷ sum_nests (1 + n) b)

  pub sum_nests : ℕ → Sum → List ℕ
  sum_nests n (one_prod p) = prod_nests n p
  sum_nests n (plus a s p) = sum_nests n a ++ ((sum_count a + 1 + n) ∷ prod_nests (sum_count a + 1 + n) p)
  sum_nests n (minus a s p) = sum_nests n a ++ ((sum_count a + 1 + n) ∷ prod_nests (sum_count a + 1 + n) p)

  pub prod_nests : ℕ → Prod → List ℕ
  prod_nests n (one_unary u) = unary_nests n u
  prod_nests n (times p s u) = prod_nests n p ++ ((prod_count p + 1 + n) ∷ unary_nests (prod_count p + 1 + n) u)
  prod_nests n (over p s u) = prod_nests n p ++ ((prod_count p + 1 + n) ∷ unary_nests (prod_count p + 1 + n) u)

  pub unary_nests : ℕ → Unary → List ℕ
  unary_nests n (bang s u) = (1 + n) ∷ unary_nests (1 + n) u
  unary_nests n (negative s u) = (1 + n) ∷ unary_nests (1 + n) u
  unary_nests n (number v s) = n ∷ []
  unary_nests n (typed_number v s c ty) = n ∷ n ∷ scalar_nests n ty
  unary_nests n (true_ s) = n ∷ []
  unary_nests n (false_ s) = n ∷ []
  unary_nests n (pi s) = n ∷ []
  unary_nests n (place p) = place_nests n p
  unary_nests n (called c) = call_nests n c
  unary_nests n (paren l es r) = (1 + n) ∷ (exprs_nests (1 + n) es ++ (n ∷ []))

  pub scalar_nests : ℕ → Scalar → List ℕ
  scalar_nests n (bit s) = n ∷ []
  scalar_nests n (uint s l e r) = n ∷ (1 + n) ∷ (expr_nests (1 + n) e ++ (n ∷ []))
  scalar_nests n (int s l e r) = n ∷ (1 + n) ∷ (expr_nests (1 + n) e ++ (n ∷ []))

  pub place_nests : ℕ → Place → List ℕ
  place_nests n (whole x s) = n ∷ []
  place_nests n (part x s l e r) = n ∷ (1 + n) ∷ (expr_nests (1 + n) e ++ (n ∷ []))
  place_nests n (part_of_part x s l e r m f q) = n ∷ (1 + n) ∷ (expr_nests (1 + n) e ++ (n ∷ (1 + n) ∷ (expr_nests (1 + n) f ++ (n ∷ []))))

  pub call_nests : ℕ → Call → List ℕ
  call_nests n (plain x s l a r) = n ∷ (1 + n) ∷ (args_nests (1 + n) a ++ (n ∷ []))
  call_nests n (with_statics x s l es r m a q) = n ∷ (1 + n) ∷ (exprs_nests (1 + n) es ++ (n ∷ (1 + n) ∷ (args_nests (1 + n) a ++ (n ∷ []))))

  pub args_nests : ℕ → Args → List ℕ
  args_nests n no_args = []
  args_nests n (args es) = exprs_nests n es

  pub exprs_nests : ℕ → Exprs → List ℕ
  exprs_nests n (last e) = expr_nests n e
  exprs_nests n (and_more e s es) = expr_nests n e ++ (n ∷ exprs_nests n es)

abbrev pub names_nests : ℕ → NameList → List ℕ
names_nests n (last_name x s) = n ∷ []
names_nests n (and_names x s c ns) = n ∷ n ∷ names_nests n ns

abbrev mutual
  pub stmt_nests : ℕ → Stmt → List ℕ
  stmt_nests n (assign p s e end) = place_nests n p ++ (n ∷ (expr_nests n e ++ (n ∷ [])))
  stmt_nests n (spread l x a c ns r s e end) = (1 + n) ∷ (1 + n) ∷ (1 + n) ∷ (names_nests (1 + n) ns ++ (n ∷ n ∷ (expr_nests n e ++ (n ∷ []))))
  stmt_nests n (update op p s e end) = place_nests n p ++ (n ∷ (expr_nests n e ++ (n ∷ [])))
  stmt_nests n (forget s l x a r end) = n ∷ (1 + n) ∷ (1 + n) ∷ n ∷ n ∷ []
  stmt_nests n (forget_as s l x a i e r end) = n ∷ (1 + n) ∷ (1 + n) ∷ (1 + n) ∷ (expr_nests (1 + n) e ++ (n ∷ n ∷ []))
  stmt_nests n (phase s l e r end) = n ∷ (1 + n) ∷ (expr_nests (1 + n) e ++ (n ∷ n ∷ []))
  stmt_nests n (choose c) = choice_nests n c
  stmt_nests n (loop s x a i l e d f r b) = n ∷ n ∷ n ∷ (1 + n) ∷ (expr_nests (1 + n) e ++ ((1 + n) ∷ (expr_nests (1 + n) f ++ (n ∷ block_nests n b))))
  stmt_nests n (return_nothing s end) = n ∷ n ∷ []
  stmt_nests n (return_value s e end) = n ∷ (expr_nests n e ++ (n ∷ []))
  stmt_nests n (call c end) = call_nests n c ++ (n ∷ [])

  -- an `else` choice counts from its `if` on
  pub choice_nests : ℕ → Choice → List ℕ
  choice_nests n (only s e b) = n ∷ (expr_nests n e ++ block_nests n b)
  choice_nests n (either s e b o d) = n ∷ (expr_nests n e ++ (block_nests n b ++ (n ∷ block_nests n d)))
  choice_nests n (chain s e b o c) = n ∷ (expr_nests n e ++ (block_nests n b ++ (n ∷ choice_nests (1 + n) c)))

  pub block_nests : ℕ → Block → List ℕ
  block_nests n (braces l b r) = (1 + n) ∷ (stmts_nests (1 + n) b ++ (n ∷ []))

  pub stmts_nests : ℕ → Stmts → List ℕ
  stmts_nests n none = []
  stmts_nests n (more s b) = stmt_nests n s ++ stmts_nests n b

abbrev pub size_nests : ℕ → Size → List ℕ
size_nests n no_size = []
size_nests n (number_size c v s) = n ∷ n ∷ []
size_nests n (named_size c x s) = n ∷ n ∷ []
size_nests n (paren_size c l e r) = n ∷ (1 + n) ∷ (expr_nests (1 + n) e ++ (n ∷ []))

abbrev pub type_nests : ℕ → Type_ → List ℕ
type_nests n (quantum ty x) = scalar_nests n ty ++ size_nests n x
type_nests n (classical s ty x) = n ∷ (scalar_nests n ty ++ size_nests n x)

abbrev pub result_nests : ℕ → Result → List ℕ
result_nests n (last_type ty) = type_nests n ty
result_nests n (and_types ty s r) = type_nests n ty ++ (n ∷ result_nests n r)

abbrev pub param_nests : ℕ → Param → List ℕ
param_nests n (moved x s c ty) = n ∷ n ∷ type_nests n ty
param_nests n (held d x s c ty) = n ∷ n ∷ n ∷ type_nests n ty

abbrev pub params_nests : ℕ → g.Params → List ℕ
params_nests n (last_param p) = param_nests n p
params_nests n (and_params p s ps) = param_nests n p ++ (n ∷ params_nests n ps)

abbrev pub statics_nests : ℕ → Statics → List ℕ
statics_nests n (last_static x s c b d) = n ∷ n ∷ n ∷ n ∷ []
statics_nests n (and_statics x s c b d m ns) = n ∷ n ∷ n ∷ n ∷ n ∷ statics_nests n ns

abbrev pub static_part_nests : g.StaticPart → List ℕ
static_part_nests no_statics = []
static_part_nests (statics l ns r) = 1 ∷ (statics_nests 1 ns ++ (0 ∷ []))

abbrev pub param_part_nests : g.ParamPart → List ℕ
param_part_nests (no_params l r) = 1 ∷ 0 ∷ []
param_part_nests (params l ps r) = 1 ∷ (params_nests 1 ps ++ (0 ∷ []))

abbrev pub mark_nests : g.MarkPart → List ℕ
mark_nests no_mark = []
mark_nests (lifted s) = 0 ∷ []
mark_nests (qfree s) = 0 ∷ []
mark_nests (mfree s) = 0 ∷ []

abbrev pub result_part_nests : g.ResultPart → List ℕ
result_part_nests no_result = []
result_part_nests (results s r) = 0 ∷ result_nests 0 r

abbrev pub function_nests : Function → List ℕ
function_nests (def s x a ss ps m r b) = 0 ∷ 0 ∷ (static_part_nests ss ++ (param_part_nests ps ++ (mark_nests m ++ (result_part_nests r ++ block_nests 0 b))))

abbrev pub program_nests : Program → List ℕ
program_nests no_function = []
program_nests (function_then f p) = function_nests f ++ program_nests p

-- the first token with a nest above 64
abbrev pub first_deep : List ℕ → List Token → Outcome
first_deep [] ts = Fine
first_deep (n ∷ ns) [] = Fine
first_deep (n ∷ ns) (t ∷ ts) = cond (nat_lt 64 n) (Deep (t ∷ ts)) (first_deep ns ts)

-- What the table says of the nest is what the grammar says. The tokens of a program are fine, or a Deep stands at the first of them
-- with a nest above 64. Of other tokens a Deep stands where it stands in the tokens of a program that begins with the same ones, its
-- own among them; and none of those before a Syntax has a nest above 64.
pub record NestFollowsGrammar : Type 0 where
  pub programs : (p : Program) → program_outcome (program_text p) ≡ first_deep (program_nests p) (program_text p)
  pub deep : (ts rest : List Token) → program_outcome ts ≡ Deep rest
      → (front : List Token) × (t : Token) × (behind : List Token) × (rest ≡ t ∷ behind) × (ts ≡ front ++ rest)
      × (p : Program) × (more : List Token) × (program_text p ≡ front ++ t ∷ more) × (first_deep (program_nests p) (program_text p) ≡ Deep (t ∷ more))
  pub syntax : (ts rest : List Token) → program_outcome ts ≡ Syntax rest
      → (front : List Token) × (ts ≡ front ++ rest) × (p : Program) × (more : List Token) × (program_text p ≡ front ++ more)
      × ((late : List Token) → first_deep (program_nests p) (program_text p) ≡ Deep late → length late ≤ length more)
