-- The derivation of a program's tree is within the nest of 64 where the program is.
use Rattle.std.proofs.Common.{◌≡◌, ℕ, ◌+◌, ◌≤◌, Bool, true, false, nat_le, cond, List, [], ◌∷◌, ◌++◌, map, refl, arith}
use Rattle.silq_tree.specs.declared.node.NameId.{NameId}
use Rattle.silq_tree.specs.declared.node.Spot.{Spot}
use Rattle.silq_tree.specs.declared.node.Mark.{Mark}
use Rattle.silq_tree.specs.declared.node.Mark.TheVariants as marks
use Rattle.silq_tree.specs.Syntax as tree
use Rattle.silq_grammar.specs.Grammar as g
use Rattle.silq_grammar.specs.Trees.{expr_tree, scalar_tree, place_tree, call_tree, args_tree, exprs_tree, names_tree, stmt_tree, choice_tree, block_tree, stmts_tree, sized_tree, type_tree, result_tree, param_tree, params_tree, static_part_tree, param_part_tree, mark_tree, result_part_tree, function_tree, program_tree}
use Rattle.silq_grammar.specs.Nest.{expr_nests, scalar_nests, place_nests, call_nests, args_nests, exprs_nests, names_nests, stmt_nests, choice_nests, block_nests, stmts_nests, size_nests, type_nests, result_nests, param_nests, params_nests, statics_nests, static_part_nests, param_part_nests, mark_nests, result_part_nests, function_nests, program_nests}
use Rattle.silq_print.specs.Bare.{nowhere}
use Rattle.silq_print.specs.Ways.{depth, least, ways, written, exprs_of, args_of, call_of}
use Rattle.silq_print.specs.Derived.{expr_in, exprs_in, place_in, call_in, names_of, spread_in, rest_of, choice_of, stmt_in, choice_in, block_in, stmts_in, scalar_in, size_in, marked, type_in, param_in, params_of, param_part, statics_of, static_part, results_of, result_part, mark_part, function_in, derived}
use Rattle.silq_print.proofs.Tops.{AllAtMost, at_most_both, at_most_left, at_most_right, test_true, expr_is, expr_top}
use Rattle.silq_print.proofs.Chains.{top_below}
use Rattle.silq_print.proofs.Lowest.{expr_low}

abbrev pub Within : List ℕ → Type 0
Within ns = AllAtMost 64 ns

-- where the first numbers are within 64, so are the others
pub record Keeps (ns ms : List ℕ) : Type 0 where
  pub keeps : Within ns → Within ms

kept : {ns : List ℕ} → Keeps ns ns
kept = record { keeps = λ h. h }

also_ : {n : ℕ} {ns ms : List ℕ} → Keeps ns ms → Keeps (n ∷ ns) (n ∷ ms)
also_ k = record { keeps = λ h. (h.0, k.keeps h.1) }

joined : {is bs cs ds : List ℕ} → Keeps is bs → Keeps cs ds → Keeps (is ++ cs) (bs ++ ds)
joined {is = is} {bs = bs} {cs = cs} {ds = ds} k j = record { keeps = λ h. at_most_both 64 bs ds (k.keeps (at_most_left 64 is cs h)) (j.keeps (at_most_right 64 is cs h)) }

expr_keeps : (n : ℕ) (d : g.Expr) → Keeps (expr_nests n d) (expr_nests n (expr_in n (expr_tree d)))
expr_keeps n d = record { keeps = λ h. at_test h (nat_le (n + depth (least (ways false (expr_tree d)))) 64) refl }
  where
    at_test : Within (expr_nests n d) → (b : Bool) → nat_le (n + depth (least (ways false (expr_tree d)))) 64 ≡ b → Within (expr_nests n (cond b (written false (expr_tree d)) (written true (expr_tree d))))
    at_test h true e =
        let a = test_true (n + depth (least (ways false (expr_tree d)))) 64 e in
        let b = top_below (least (ways false (expr_tree d))) in
        let c : n + expr_top (written false (expr_tree d)) ≤ 64 = omega arith in
        (expr_is n (written false (expr_tree d))).reach 64 c
    at_test h false e =
        let a = (expr_is n d).bound 64 h in
        let b = expr_low d in
        let c : n + expr_top (written true (expr_tree d)) ≤ 64 = omega arith in
        (expr_is n (written true (expr_tree d))).reach 64 c

-- lists of expressions

abbrev AllIn : ℕ → List g.Expr → Type 0
AllIn n [] = Unit {0}
AllIn n (d ∷ ds) = Within (expr_nests n d) × AllIn n ds

exprs_within : (n : ℕ) (d : g.Expr) (ds : List g.Expr) → n ≤ 64 → AllIn n (d ∷ ds) → Within (exprs_nests n (exprs_of (d ∷ ds)))
exprs_within n d [] h a = a.0
exprs_within n d (e ∷ es) h a = at_most_both 64 (expr_nests n d) (n ∷ exprs_nests n (exprs_of (e ∷ es))) a.0 (h, exprs_within n e es h a.1)

args_within : (n : ℕ) (ds : List g.Expr) → n ≤ 64 → AllIn n ds → Within (args_nests n (args_of ds))
args_within n [] h a = tt
args_within n (d ∷ ds) h a = exprs_within n d ds h a

call_within : (n : ℕ) (f : NameId) (ss ds : List g.Expr) → 1 + n ≤ 64 → AllIn (1 + n) ss → AllIn (1 + n) ds → Within (call_nests n (call_of f ss ds))
call_within n f [] ds h a b = let e : n ≤ 64 = omega arith in (e, (h, at_most_both 64 (args_nests (1 + n) (args_of ds)) (n ∷ []) (args_within (1 + n) ds h b) (e, tt)))
call_within n f (s ∷ ss) ds h a b =
    let e : n ≤ 64 = omega arith in
    let m = args_nests (1 + n) (args_of ds) in (
      e,
      (
        h,
        at_most_both 64 (exprs_nests (1 + n) (exprs_of (s ∷ ss))) (n ∷ (1 + n) ∷ (m ++ n ∷ [])) (exprs_within (1 + n) s ss h a)
            (e, (h, at_most_both 64 m (n ∷ []) (args_within (1 + n) ds h b) (e, tt))),
      ),
    )

exprs_all : (n : ℕ) (d : g.Exprs) → Within (exprs_nests n d) → AllIn n (exprs_in n (exprs_tree d))
exprs_all n (g.last e) h = ((expr_keeps n e).keeps h, tt)
exprs_all n (g.and_more e s es) h =
    ((expr_keeps n e).keeps (at_most_left 64 (expr_nests n e) (n ∷ exprs_nests n es) h), exprs_all n es (at_most_right 64 (expr_nests n e) (n ∷ exprs_nests n es) h).1)

args_all : (n : ℕ) (d : g.Args) → Within (args_nests n d) → AllIn n (exprs_in n (args_tree d))
args_all n g.no_args h = tt
args_all n (g.args es) h = exprs_all n es h

call_keeps : (n : ℕ) (d : g.Call) → Keeps (call_nests n d) (call_nests n (call_in n (call_tree d)))
call_keeps n (g.plain x s l a r) = record {
  keeps = λ h. call_within n x [] (exprs_in (1 + n) (args_tree a)) h.1.0 tt (args_all (1 + n) a (at_most_left 64 (args_nests (1 + n) a) (n ∷ []) h.1.1));
}
call_keeps n (g.with_statics x s l es r m a q) = record {
  keeps = λ h.
      call_within n x (exprs_in (1 + n) (exprs_tree es)) (exprs_in (1 + n) (args_tree a)) h.1.0
      (exprs_all (1 + n) es (at_most_left 64 (exprs_nests (1 + n) es) (n ∷ (1 + n) ∷ (args_nests (1 + n) a ++ n ∷ [])) h.1.1))
      (args_all (1 + n) a (at_most_left 64 (args_nests (1 + n) a) (n ∷ []) (at_most_right 64 (exprs_nests (1 + n) es) (n ∷ (1 + n) ∷ (args_nests (1 + n) a ++ n ∷ [])) h.1.1).1.1));
}

place_keeps : (n : ℕ) (d : g.Place) → Keeps (place_nests n d) (place_nests n (place_in n (place_tree d)))
place_keeps n (g.whole x s) = kept
place_keeps n (g.part x s l e r) = also_ (also_ (joined (expr_keeps (1 + n) e) kept))
place_keeps n (g.part_of_part x s l e r m f q) = also_ (also_ (joined (expr_keeps (1 + n) e) (also_ (also_ (joined (expr_keeps (1 + n) f) kept)))))

-- names of a tuple

all_names : (n : ℕ) (x : NameId) (d : g.NameList) → Keeps (n ∷ n ∷ names_nests n d) (names_nests n (names_of x (names_tree d)))
all_names n x (g.last_name y s) = kept
all_names n x (g.and_names y s c ns) = record { keeps = λ h. (h.0, (h.0, (all_names n y ns).keeps (h.0, (h.0, h.1.1.1.1)))) }

spread_keeps : (n : ℕ) (x : NameId) (d : g.NameList) (e : g.Expr)
    → Keeps ((1 + n) ∷ (1 + n) ∷ (1 + n) ∷ (names_nests (1 + n) d ++ (n ∷ n ∷ (expr_nests n e ++ n ∷ [])))) (stmt_nests n (spread_in (x ∷ names_tree d) (expr_in n (expr_tree e))))
spread_keeps n x (g.last_name y s) e = also_ (also_ (also_ (also_ (also_ (also_ (joined (expr_keeps n e) kept))))))
spread_keeps n x (g.and_names y s c ns) e = also_ (also_ (also_ (joined {bs = names_nests (1 + n) (names_of y (names_tree ns))} (all_names (1 + n) y ns) (also_ (also_ (joined (expr_keeps n e) kept))))))

-- choices

rest_keeps : (n : ℕ) (e : g.Expr) (b o : g.Block) → Keeps (n ∷ (expr_nests n e ++ (block_nests n b ++ (n ∷ block_nests n o)))) (choice_nests n (choice_of e b (rest_of o)))
rest_keeps n e b (g.braces l g.none r) = also_ (joined kept (record { keeps = λ h. at_most_left 64 (block_nests n b) (n ∷ block_nests n (g.braces l g.none r)) h }))
rest_keeps n e b (g.braces l (g.more s o) r) = kept

chosen : (n : ℕ) (c : g.Choice) → Keeps (choice_nests n (choice_in n (choice_tree c))) (stmt_nests n (stmt_in n (choice_tree c)))
chosen n (g.only s e b) = kept
chosen n (g.either s e b o d) = kept
chosen n (g.chain s e b o c) = kept

and_then : {is bs cs : List ℕ} → Keeps is bs → Keeps bs cs → Keeps is cs
and_then k j = record { keeps = λ h. j.keeps (k.keeps h) }

mutual
  stmt_keeps : (n : ℕ) (d : g.Stmt) → Keeps (stmt_nests n d) (stmt_nests n (stmt_in n (stmt_tree d)))
  stmt_keeps n (g.assign p s e end) = joined (place_keeps n p) (also_ (joined (expr_keeps n e) kept))
  stmt_keeps n (g.spread l x a c ns r s e end) = spread_keeps n x ns e
  stmt_keeps n (g.update op p s e end) = joined (place_keeps n p) (also_ (joined (expr_keeps n e) kept))
  stmt_keeps n (g.forget s l x a r end) = kept
  stmt_keeps n (g.forget_as s l x a q e r end) = also_ (also_ (also_ (also_ (joined (expr_keeps (1 + n) e) kept))))
  stmt_keeps n (g.phase s l e r end) = also_ (also_ (joined (expr_keeps (1 + n) e) kept))
  stmt_keeps n (g.choose c) = and_then (choice_keeps n c) (chosen n c)
  stmt_keeps n (g.loop s x a q l e d f r b) = also_ (also_ (also_ (also_ (joined (expr_keeps (1 + n) e) (also_ (joined (expr_keeps (1 + n) f) (also_ (block_keeps n b))))))))
  stmt_keeps n (g.return_nothing s end) = kept
  stmt_keeps n (g.return_value s e end) = also_ (joined (expr_keeps n e) kept)
  stmt_keeps n (g.call c end) = joined (call_keeps n c) kept

  choice_keeps : (n : ℕ) (d : g.Choice) → Keeps (choice_nests n d) (choice_nests n (choice_in n (choice_tree d)))
  choice_keeps n (g.only s e b) = also_ (joined (expr_keeps n e) (block_keeps n b))
  choice_keeps n (g.either s e b o d) =
      and_then (also_ (joined (expr_keeps n e) (joined (block_keeps n b) (also_ (block_keeps n d)))))
      (rest_keeps n (expr_in n (expr_tree e)) (block_in n (block_tree b)) (block_in n (block_tree d)))
  choice_keeps n (g.chain s e b o c) = also_ (joined (expr_keeps n e) (joined (block_keeps n b) (also_ (choice_keeps (1 + n) c))))

  block_keeps : (n : ℕ) (d : g.Block) → Keeps (block_nests n d) (block_nests n (block_in n (block_tree d)))
  block_keeps n (g.braces l b r) = also_ (joined (stmts_keep (1 + n) b) kept)

  stmts_keep : (n : ℕ) (d : g.Stmts) → Keeps (stmts_nests n d) (stmts_nests n (stmts_in n (stmts_tree d)))
  stmts_keep n g.none = kept
  stmts_keep n (g.more s b) = joined (stmt_keeps n s) (stmts_keep n b)

-- types

scalar_keeps : (n : ℕ) (d : g.Scalar) → Keeps (scalar_nests n d) (scalar_nests n (scalar_in n (scalar_tree d)))
scalar_keeps n (g.bit s) = kept
scalar_keeps n (g.uint s l e r) = also_ (also_ (joined (expr_keeps (1 + n) e) kept))
scalar_keeps n (g.int s l e r) = also_ (also_ (joined (expr_keeps (1 + n) e) kept))

-- an expression in parentheses, or without them where it wants none
size_of : (n : ℕ) (e : tree.Expression) → Keeps (n ∷ (1 + n) ∷ (expr_nests (1 + n) (expr_in (1 + n) e) ++ n ∷ [])) (size_nests n (size_in n e))
size_of n (tree.number v at) = record { keeps = λ h. (h.0, (h.0, tt)) }
size_of n (tree.place (tree.whole x) at) = record { keeps = λ h. (h.0, (h.0, tt)) }
size_of n _ = kept

marked_keeps : (n : ℕ) (c : Bool) (ty us : g.Scalar) (k m : g.Size) (s : Spot) → Keeps (scalar_nests n ty) (scalar_nests n us) → Keeps (size_nests n k) (size_nests n m)
    → Keeps (type_nests n (cond c (g.classical s ty k) (g.quantum ty k))) (type_nests n (marked c us m))
marked_keeps n true ty us k m s a b = also_ (joined a b)
marked_keeps n false ty us k m s a b = joined a b

sized_keeps : (n : ℕ) (c : Bool) (ty : g.Scalar) (k : g.Size) (s a : Spot)
    → Keeps (type_nests n (cond c (g.classical s ty k) (g.quantum ty k))) (type_nests n (type_in n (sized_tree (scalar_tree ty) c k a)))
sized_keeps n c ty g.no_size s a = marked_keeps n c ty (scalar_in n (scalar_tree ty)) g.no_size g.no_size s (scalar_keeps n ty) kept
sized_keeps n c ty (g.number_size k v q) s a = marked_keeps n c ty (scalar_in n (scalar_tree ty)) (g.number_size k v q) (g.number_size nowhere v nowhere) s (scalar_keeps n ty) kept
sized_keeps n c ty (g.named_size k x q) s a = marked_keeps n c ty (scalar_in n (scalar_tree ty)) (g.named_size k x q) (g.named_size nowhere x nowhere) s (scalar_keeps n ty) kept
sized_keeps n c ty (g.paren_size k l e r) s a =
    marked_keeps n c ty (scalar_in n (scalar_tree ty)) (g.paren_size k l e r) (size_in n (expr_tree e)) s (scalar_keeps n ty)
    (and_then (also_ (also_ (joined (expr_keeps (1 + n) e) kept))) (size_of n (expr_tree e)))

type_keeps : (n : ℕ) (d : g.Type_) → Keeps (type_nests n d) (type_nests n (type_in n (type_tree d)))
type_keeps n (g.quantum ty k) = sized_keeps n false ty k nowhere _
type_keeps n (g.classical s ty k) = sized_keeps n true ty k s s

-- the parts of a function

statics_within : (x : NameId) (xs : List NameId) → Within (statics_nests 1 (statics_of x xs))
statics_within x [] = let e : 1 ≤ 64 = omega arith in (e, (e, (e, (e, tt))))
statics_within x (y ∷ ys) = let e : 1 ≤ 64 = omega arith in (e, (e, (e, (e, (e, statics_within y ys)))))

static_part_within : (xs : List NameId) → Within (static_part_nests (static_part xs))
static_part_within [] = tt
static_part_within (x ∷ xs) = let e : 1 ≤ 64 = omega arith in (e, at_most_both 64 (statics_nests 1 (statics_of x xs)) (0 ∷ []) (statics_within x xs) (omega arith, tt))

AllParams : List g.Param → Type 0
AllParams [] = Unit {0}
AllParams (p ∷ ps) = Within (param_nests 1 p) × AllParams ps

params_within : (p : g.Param) (ps : List g.Param) → AllParams (p ∷ ps) → Within (params_nests 1 (params_of p ps))
unfolding AllParams
params_within p [] h = h.0
params_within p (q ∷ qs) h = at_most_both 64 (param_nests 1 p) (1 ∷ params_nests 1 (params_of q qs)) h.0 (omega arith, params_within q qs h.1)

param_part_within : (ps : List g.Param) → AllParams ps → Within (param_part_nests (param_part ps))
param_part_within [] h = (omega arith, (omega arith, tt))
param_part_within (p ∷ ps) h = (omega arith, at_most_both 64 (params_nests 1 (params_of p ps)) (0 ∷ []) (params_within p ps h) (omega arith, tt))

param_keeps : (d : g.Param) → Keeps (param_nests 1 d) (param_nests 1 (param_in (param_tree d)))
param_keeps (g.moved x s c ty) = also_ (also_ (type_keeps 1 ty))
param_keeps (g.held k x s c ty) = also_ (also_ (also_ (type_keeps 1 ty)))

params_all : (d : g.Params) → Within (params_nests 1 d) → AllParams (map param_in (params_tree d))
unfolding AllParams
params_all (g.last_param p) h = ((param_keeps p).keeps h, tt)
params_all (g.and_params p s ps) h =
    ((param_keeps p).keeps (at_most_left 64 (param_nests 1 p) (1 ∷ params_nests 1 ps) h), params_all ps (at_most_right 64 (param_nests 1 p) (1 ∷ params_nests 1 ps) h).1)

param_part_keeps : (d : g.ParamPart) → Keeps (param_part_nests d) (param_part_nests (param_part (map param_in (param_part_tree d))))
unfolding AllParams
param_part_keeps (g.no_params l r) = kept
param_part_keeps (g.params l ps r) = record { keeps = λ h. param_part_within (map param_in (params_tree ps)) (params_all ps (at_most_left 64 (params_nests 1 ps) (0 ∷ []) h.1)) }

AllTypes : List g.Type_ → Type 0
AllTypes [] = Unit {0}
AllTypes (t ∷ ts) = Within (type_nests 0 t) × AllTypes ts

results_within : (t : g.Type_) (ts : List g.Type_) → AllTypes (t ∷ ts) → Within (result_nests 0 (results_of t ts))
unfolding AllTypes
results_within t [] h = h.0
results_within t (u ∷ us) h = at_most_both 64 (type_nests 0 t) (0 ∷ result_nests 0 (results_of u us)) h.0 (omega arith, results_within u us h.1)

result_part_within : (ts : List g.Type_) → AllTypes ts → Within (result_part_nests (result_part ts))
result_part_within [] h = tt
result_part_within (t ∷ ts) h = (omega arith, results_within t ts h)

results_all : (d : g.Result) → Within (result_nests 0 d) → AllTypes (map (type_in 0) (result_tree d))
unfolding AllTypes
results_all (g.last_type ty) h = ((type_keeps 0 ty).keeps h, tt)
results_all (g.and_types ty s r) h =
    ((type_keeps 0 ty).keeps (at_most_left 64 (type_nests 0 ty) (0 ∷ result_nests 0 r) h), results_all r (at_most_right 64 (type_nests 0 ty) (0 ∷ result_nests 0 r) h).1)

result_part_keeps : (d : g.ResultPart) → Keeps (result_part_nests d) (result_part_nests (result_part (map (type_in 0) (result_part_tree d))))
result_part_keeps g.no_result = kept
result_part_keeps (g.results s r) = record { keeps = λ h. result_part_within (map (type_in 0) (result_tree r)) (results_all r h.1) }

mark_within : (m : Mark) → Within (mark_nests (mark_part m))
mark_within marks.Plain = tt
mark_within marks.Lifted = (omega arith, tt)
mark_within marks.Qfree = (omega arith, tt)
mark_within marks.Mfree = (omega arith, tt)

any_within : {ns ms : List ℕ} → Within ms → Keeps ns ms
any_within h = record { keeps = λ g. h }

function_keeps : (d : g.Function) → Keeps (function_nests d) (function_nests (function_in (function_tree d)))
function_keeps (g.def s x a ss ps m r b) =
    also_ (also_ (joined (any_within (static_part_within (static_part_tree ss))) (joined (param_part_keeps ps) (joined (any_within (mark_within (mark_tree m))) (joined (result_part_keeps r) (block_keeps 0 b))))))

pub program_keeps : (p : g.Program) → Keeps (program_nests p) (program_nests (derived (program_tree p)))
program_keeps g.no_function = kept
program_keeps (g.function_then f p) = joined (function_keeps f) (program_keeps p)
