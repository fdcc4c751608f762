-- The derivation of a tree stands for it, places aside.
use Rattle.std.proofs.Common.{◌≡◌, ℕ, ◌+◌, Bool, true, false, nat_le, cond, List, [], ◌∷◌, map, refl, ◌∙◌, ap}
use Rattle.silq_tree.specs.declared.node.NameId.{NameId}
use Rattle.silq_tree.specs.declared.node.Spot.{Spot}
use Rattle.silq_tree.specs.declared.node.Mark.{Mark}
use Rattle.silq_tree.specs.declared.node.Mark.TheVariants as marks
use Rattle.silq_tree.specs.Syntax as tree
use Rattle.silq_grammar.specs.Grammar as g
use Rattle.silq_grammar.specs.Trees.{expr_tree, scalar_tree, place_tree, call_tree, args_tree, exprs_tree, names_tree, stmt_tree, choice_tree, block_tree, stmts_tree, sized_tree, type_tree, result_tree, param_tree, params_tree, statics_tree, static_part_tree, param_part_tree, mark_tree, result_part_tree, function_tree, program_tree}
use Rattle.silq_print.specs.Bare.{nowhere, bare_expr, bare_scalar, bare_place, bare_exprs, bare_stmt, bare_block, bare_stmts, bare_type, bare_param, bare_function, bare_program}
use Rattle.silq_print.specs.Ways.{depth, least, ways, written}
use Rattle.silq_print.specs.Derived.{expr_in, exprs_in, place_in, call_in, names_of, spread_in, rest_of, choice_of, stmt_in, choice_in, block_in, stmts_in, scalar_in, size_in, marked, type_in, param_in, params_of, param_part, statics_of, static_part, results_of, result_part, mark_part, function_in, derived}
use Rattle.silq_print.proofs.WaysTrees.{written_stands, listed, call_listed}

expr_stands : (n : ℕ) (d : g.Expr) → bare_expr (expr_tree (expr_in n (expr_tree d))) ≡ bare_expr (expr_tree d)
expr_stands n d = at_test (nat_le (n + depth (least (ways false (expr_tree d)))) 64)
  where
    at_test : (b : Bool) → bare_expr (expr_tree (cond b (written false (expr_tree d)) (written true (expr_tree d)))) ≡ bare_expr (expr_tree d)
    at_test true = written_stands false d
    at_test false = written_stands true d

exprs_stand : (n : ℕ) (d : g.Exprs) → listed (exprs_in n (exprs_tree d)) ≡ bare_exprs (exprs_tree d)
exprs_stand n (g.last e) = λ i. tree.more (expr_stands n e i) tree.none
exprs_stand n (g.and_more e s es) = λ i. tree.more (expr_stands n e i) (exprs_stand n es i)

args_stand : (n : ℕ) (d : g.Args) → listed (exprs_in n (args_tree d)) ≡ bare_exprs (args_tree d)
args_stand n g.no_args = refl
args_stand n (g.args es) = exprs_stand n es

place_stands : (n : ℕ) (d : g.Place) → bare_place (place_tree (place_in n (place_tree d))) ≡ bare_place (place_tree d)
place_stands n (g.whole x s) = refl
place_stands n (g.part x s l e r) = λ i. tree.part x (expr_stands (1 + n) e i)
place_stands n (g.part_of_part x s l e r m f q) = λ i. tree.part_of_part x (expr_stands (1 + n) e i) (expr_stands (1 + n) f i)

call_stands : (n : ℕ) (d : g.Call) → bare_expr (call_tree (call_in n (call_tree d))) ≡ bare_expr (call_tree d)
call_stands n (g.plain x s l a r) = call_listed x [] (exprs_in (1 + n) (args_tree a)) ∙ (λ i. tree.called x tree.none (args_stand (1 + n) a i) nowhere)
call_stands n (g.with_statics x s l es r m a q) =
    call_listed x (exprs_in (1 + n) (exprs_tree es)) (exprs_in (1 + n) (args_tree a)) ∙ (λ i. tree.called x (exprs_stand (1 + n) es i) (args_stand (1 + n) a i) nowhere)

-- names of a tuple

names_are : (x : NameId) (xs : List NameId) → names_tree (names_of x xs) ≡ x ∷ xs
names_are x [] = refl
names_are x (y ∷ ys) = ap (λ w. x ∷ w) (names_are y ys)

spread_stands : (n : ℕ) (x : NameId) (d : g.NameList) (e : g.Expr)
    → bare_stmt (stmt_tree (spread_in (x ∷ names_tree d) (expr_in n (expr_tree e)))) ≡ tree.spread (x ∷ names_tree d) (bare_expr (expr_tree e)) nowhere
spread_stands n x (g.last_name y s) e = λ i. tree.spread (x ∷ y ∷ []) (expr_stands n e i) nowhere
spread_stands n x (g.and_names y s c ns) e = λ i. tree.spread (x ∷ names_are y (names_tree ns) i) (expr_stands n e i) nowhere

-- choices

rest_stands : (e : g.Expr) (b o : g.Block)
    → bare_stmt (choice_tree (choice_of e b (rest_of o))) ≡ tree.choice (bare_expr (expr_tree e)) (bare_block (block_tree b)) (tree.else_block (bare_block (block_tree o))) nowhere
rest_stands e b (g.braces l g.none r) = refl
rest_stands e b (g.braces l (g.more s o) r) = refl

chosen : (n : ℕ) (c : g.Choice) → stmt_in n (choice_tree c) ≡ g.choose (choice_in n (choice_tree c))
chosen n (g.only s e b) = refl
chosen n (g.either s e b o d) = refl
chosen n (g.chain s e b o c) = refl

mutual
  stmt_stands : (n : ℕ) (d : g.Stmt) → bare_stmt (stmt_tree (stmt_in n (stmt_tree d))) ≡ bare_stmt (stmt_tree d)
  stmt_stands n (g.assign p s e end) = λ i. tree.assign (place_stands n p i) (expr_stands n e i) nowhere
  stmt_stands n (g.spread l x a c ns r s e end) = spread_stands n x ns e
  stmt_stands n (g.update op p s e end) = λ i. tree.update (place_stands n p i) op (expr_stands n e i) nowhere
  stmt_stands n (g.forget s l x a r end) = refl
  stmt_stands n (g.forget_as s l x a q e r end) = λ i. tree.forget_value x (expr_stands (1 + n) e i) nowhere
  stmt_stands n (g.phase s l e r end) = λ i. tree.phase (expr_stands (1 + n) e i) nowhere
  stmt_stands n (g.choose c) = ap (λ d. bare_stmt (stmt_tree d)) (chosen n c) ∙ choice_stands n c
  stmt_stands n (g.loop s x a q l e d f r b) = λ i. tree.loop x (expr_stands (1 + n) e i) (expr_stands (1 + n) f i) (block_stands n b i) nowhere
  stmt_stands n (g.return_nothing s end) = refl
  stmt_stands n (g.return_value s e end) = λ i. tree.return_value (expr_stands n e i) nowhere
  stmt_stands n (g.call c end) = λ i. tree.call (call_stands n c i) nowhere

  choice_stands : (n : ℕ) (d : g.Choice) → bare_stmt (choice_tree (choice_in n (choice_tree d))) ≡ bare_stmt (choice_tree d)
  choice_stands n (g.only s e b) = λ i. tree.choice (expr_stands n e i) (block_stands n b i) (tree.else_block (tree.block tree.done nowhere)) nowhere
  choice_stands n (g.either s e b o d) =
      rest_stands (expr_in n (expr_tree e)) (block_in n (block_tree b)) (block_in n (block_tree d))
      ∙ (λ i. tree.choice (expr_stands n e i) (block_stands n b i) (tree.else_block (block_stands n d i)) nowhere)
  choice_stands n (g.chain s e b o c) = λ i. tree.choice (expr_stands n e i) (block_stands n b i) (tree.else_choice (choice_stands (1 + n) c i)) nowhere

  block_stands : (n : ℕ) (d : g.Block) → bare_block (block_tree (block_in n (block_tree d))) ≡ bare_block (block_tree d)
  block_stands n (g.braces l b r) = λ i. tree.block (stmts_stand (1 + n) b i) nowhere

  stmts_stand : (n : ℕ) (d : g.Stmts) → bare_stmts (stmts_tree (stmts_in n (stmts_tree d))) ≡ bare_stmts (stmts_tree d)
  stmts_stand n g.none = refl
  stmts_stand n (g.more s b) = λ i. tree.next (stmt_stands n s i) (stmts_stand n b i)

-- types

scalar_stands : (n : ℕ) (d : g.Scalar) → bare_scalar (scalar_tree (scalar_in n (scalar_tree d))) ≡ bare_scalar (scalar_tree d)
scalar_stands n (g.bit s) = refl
scalar_stands n (g.uint s l e r) = λ i. tree.uint (expr_stands (1 + n) e i)
scalar_stands n (g.int s l e r) = λ i. tree.int (expr_stands (1 + n) e i)

any_spot : (ty : tree.ScalarType) (c : Bool) (k : g.Size) (s : Spot) → bare_type (sized_tree ty c k s) ≡ bare_type (sized_tree ty c k nowhere)
any_spot ty c g.no_size s = refl
any_spot ty c (g.number_size k v a) s = refl
any_spot ty c (g.named_size k x a) s = refl
any_spot ty c (g.paren_size k l e r) s = refl

marked_is : (c : Bool) (ty : g.Scalar) (k : g.Size) → bare_type (type_tree (marked c ty k)) ≡ bare_type (sized_tree (scalar_tree ty) c k nowhere)
marked_is true ty k = refl
marked_is false ty k = any_spot (scalar_tree ty) false k _

size_is : (n : ℕ) (ty : tree.ScalarType) (c : Bool) (e : tree.Expression) → bare_expr (expr_tree (expr_in (1 + n) e)) ≡ bare_expr e
    → bare_type (sized_tree ty c (size_in n e) nowhere) ≡ tree.array c (bare_scalar ty) (bare_expr e) nowhere
size_is n ty c (tree.number v at) h = refl
size_is n ty c (tree.place (tree.whole x) at) h = refl
size_is n ty c _ h = λ i. tree.array c (bare_scalar ty) (h i) nowhere

size_stands : (n : ℕ) (c : Bool) (ty : g.Scalar) (k : g.Size) (s : Spot)
    → bare_type (type_tree (type_in n (sized_tree (scalar_tree ty) c k s))) ≡ bare_type (sized_tree (scalar_tree ty) c k s)
size_stands n c ty g.no_size s = marked_is c (scalar_in n (scalar_tree ty)) g.no_size ∙ (λ i. tree.scalar c (scalar_stands n ty i) nowhere)
size_stands n c ty (g.number_size k v a) s =
    marked_is c (scalar_in n (scalar_tree ty)) (g.number_size nowhere v nowhere) ∙ (λ i. tree.array c (scalar_stands n ty i) (tree.number v nowhere) nowhere)
size_stands n c ty (g.named_size k x a) s =
    marked_is c (scalar_in n (scalar_tree ty)) (g.named_size nowhere x nowhere) ∙ (λ i. tree.array c (scalar_stands n ty i) (tree.place (tree.whole x) nowhere) nowhere)
size_stands n c ty (g.paren_size k l e r) s =
    marked_is c (scalar_in n (scalar_tree ty)) (size_in n (expr_tree e))
    ∙ size_is n (scalar_tree (scalar_in n (scalar_tree ty))) c (expr_tree e) (expr_stands (1 + n) e)
    ∙ (λ i. tree.array c (scalar_stands n ty i) (bare_expr (expr_tree e)) nowhere)

type_stands : (n : ℕ) (d : g.Type_) → bare_type (type_tree (type_in n (type_tree d))) ≡ bare_type (type_tree d)
type_stands n (g.quantum ty k) = size_stands n false ty k _
type_stands n (g.classical s ty k) = size_stands n true ty k s

-- the parts of a function

statics_are : (x : NameId) (xs : List NameId) → statics_tree (statics_of x xs) ≡ x ∷ xs
statics_are x [] = refl
statics_are x (y ∷ ys) = ap (λ w. x ∷ w) (statics_are y ys)

static_part_is : (xs : List NameId) → static_part_tree (static_part xs) ≡ xs
static_part_is [] = refl
static_part_is (x ∷ xs) = statics_are x xs

params_are : (p : g.Param) (ps : List g.Param) → params_tree (params_of p ps) ≡ param_tree p ∷ map param_tree ps
params_are p [] = refl
params_are p (q ∷ qs) = ap (λ w. param_tree p ∷ w) (params_are q qs)

param_part_is : (ps : List g.Param) → param_part_tree (param_part ps) ≡ map param_tree ps
param_part_is [] = refl
param_part_is (p ∷ ps) = params_are p ps

param_stands : (d : g.Param) → bare_param (param_tree (param_in (param_tree d))) ≡ bare_param (param_tree d)
param_stands (g.moved x s c ty) = λ i. record { held = false; name = x; ty = type_stands 1 ty i; at = nowhere }
param_stands (g.held k x s c ty) = λ i. record { held = true; name = x; ty = type_stands 1 ty i; at = nowhere }

params_stand : (d : g.Params) → map bare_param (map param_tree (map param_in (params_tree d))) ≡ map bare_param (params_tree d)
params_stand (g.last_param p) = λ i. param_stands p i ∷ []
params_stand (g.and_params p s ps) = λ i. param_stands p i ∷ params_stand ps i

param_part_stands : (d : g.ParamPart) → map bare_param (param_part_tree (param_part (map param_in (param_part_tree d)))) ≡ map bare_param (param_part_tree d)
param_part_stands (g.no_params l r) = refl
param_part_stands (g.params l ps r) = ap (map bare_param) (param_part_is (map param_in (params_tree ps))) ∙ params_stand ps

results_are : (ty : g.Type_) (us : List g.Type_) → result_tree (results_of ty us) ≡ type_tree ty ∷ map type_tree us
results_are ty [] = refl
results_are ty (u ∷ us) = ap (λ w. type_tree ty ∷ w) (results_are u us)

result_part_is : (us : List g.Type_) → result_part_tree (result_part us) ≡ map type_tree us
result_part_is [] = refl
result_part_is (ty ∷ us) = results_are ty us

results_stand : (d : g.Result) → map bare_type (map type_tree (map (type_in 0) (result_tree d))) ≡ map bare_type (result_tree d)
results_stand (g.last_type ty) = λ i. type_stands 0 ty i ∷ []
results_stand (g.and_types ty s r) = λ i. type_stands 0 ty i ∷ results_stand r i

result_part_stands : (d : g.ResultPart) → map bare_type (result_part_tree (result_part (map (type_in 0) (result_part_tree d)))) ≡ map bare_type (result_part_tree d)
result_part_stands g.no_result = refl
result_part_stands (g.results s r) = ap (map bare_type) (result_part_is (map (type_in 0) (result_tree r))) ∙ results_stand r

mark_is : (m : Mark) → mark_tree (mark_part m) ≡ m
mark_is marks.Plain = refl
mark_is marks.Lifted = refl
mark_is marks.Qfree = refl
mark_is marks.Mfree = refl

function_stands : (d : g.Function) → bare_function (function_tree (function_in (function_tree d))) ≡ bare_function (function_tree d)
function_stands (g.def s x a ss ps m r b) = λ i. record {
  name = x;
  statics = static_part_is (static_part_tree ss) i;
  params = param_part_stands ps i;
  mark = mark_is (mark_tree m) i;
  results = result_part_stands r i;
  body = block_stands 0 b i;
  at = nowhere;
}

pub derived_stands : (p : g.Program) → bare_program (program_tree (derived (program_tree p))) ≡ bare_program (program_tree p)
derived_stands g.no_function = refl
derived_stands (g.function_then f p) = λ i. function_stands f i ∷ derived_stands p i
