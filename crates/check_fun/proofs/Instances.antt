-- The check of one instance: the function that a key names, and what its header, its body and its signature say of the whole.
use Rattle.std.specs.Prelude.{◌≡◌, refl, ℕ, zero, suc, ◌+◌, ◌<◌, ◌≤◌, Bool, true, false, cond, ◌==◌, ◌&&◌, ◌||◌, List, [], ◌∷◌, ◌++◌, length, map, take, reverse, Option, Some, None, Result, Ok, Err, IfSome}
use mathlib.Core.Path.{sym, ap, ◌∙◌, subst}
use native.Mathlib.Omega.{arith}
use Rattle.std.proofs.lemmas.Bool.{eqb-true, eqb-false}
use Rattle.std.proofs.lemmas.List.{take_more, reverse-append, length-map, length-reverse, length-take-le}
use Rattle.silq_tree.specs.Arena.{expr_at, stmt_at, fun_at, nothing}
use Rattle.silq_tree.specs.Standing.{fun_grown, block_of, param_of}
use Rattle.silq_tree.specs.Syntax.{Function, Parameter}
use Rattle.silq_tree.specs.declared.node.Fun.{Fun}
use Rattle.silq_tree.specs.declared.node.Mark.{Mark}
use Rattle.silq_tree.specs.declared.node.ParamNode.{ParamNode}
use Rattle.silq_tree.specs.declared.node.Spot.{Spot}
use Rattle.silq_types.specs.Known.{Signatures, signature_of}
use Rattle.silq_types.specs.Rules.{Fault, rule, and_then, unknown_name, lifted_without_result}
use Rattle.silq_types.specs.Types.{Statics, is_lifted}
use Rattle.silq_mean.specs.Written.{Header, header_of, header_type, param_types, result_types, is_empty, written_at}
use Rattle.silq_types.specs.declared.signature.InstanceKey.{InstanceKey}
use Rattle.silq_types.specs.declared.signature.Param.{Param}
use Rattle.silq_types.specs.declared.signature.Signature.{Signature}
use Rattle.silq_types.specs.declared.types.Ty.{Ty}
use Rattle.silq_types.specs.declared.values.Value.{Value}
use Rattle.silq_types.specs.declared.values.Var.{Var}
use Rattle.check_scope.specs.declared.fault.CheckFault.{CheckFault}
use Rattle.check_scope.specs.Context.{Context, new_place}
use Rattle.check_fun.specs.Counting.{Runs, Fails, checker_at}
use Rattle.silq_types.specs.Programs.{paired}
use Rattle.check_scope.specs.Faults.{fault_as}
use Rattle.check_scope.specs.Library.{Shelf, functions_of, function_at, before_at}
use Rattle.check_fun.specs.Program.{instances, check_one, instance_walk, kept, signature_by, with_instance, param_vars, returned_as}
use Rattle.check_scope.specs.State.{State, context_of, scope_in}
use Rattle.check_fun.specs.Statement.{whole_body}
use Rattle.check_scope.specs.Steps.{Reads, IsFirst}
use Rattle.check_scope.specs.Walk.{Walk, answer, Counts, with_counts}
use Rattle.check_fun.proofs.Growth.{ok_inside, ok_same, ran, none_passed, none_below, AllBelow, instances_grow}
use Rattle.check_scope.proofs.Readings.{with_counts-bind}

-- ---- the functions before one

pub funs_length : (l : Shelf) → length (functions_of l) ≡ length l.funs
funs_length l = length-map l.funs (fun_at l.nodes)

pub before_length : (l : Shelf) (n : ℕ) → n ≤ length l.funs → length (before_at l n) ≡ n
before_length l n le = length-reverse (take n (functions_of l)) ∙ length-take-le n (functions_of l) (omega (arith, le, funs_length l))

pub before_more : (l : Shelf) (n : ℕ) → n < length l.funs → before_at l (suc n) ≡ function_at l n ∷ before_at l n
before_more l n lt =
    let one : suc n ≡ n + 1 = omega arith in
    ap (λ k. before_at l k) one
    ∙ ap reverse (take_more (functions_of l) n nothing (omega (arith, lt, funs_length l)))
    ∙ reverse-append (take n (functions_of l)) (function_at l n ∷ [])

-- ---- the instance that a key names

abbrev instance_of : Shelf → ℕ → InstanceKey → Counts → ℕ → Result (Signature × Counts) Fault
instance_of l d k c n = check_one (instances l.words (before_at l n)) l.words (before_at l n) (function_at l n) (λ s. s) d k c

pub instances_at : (l : Shelf) (b d : ℕ) (k : InstanceKey) (c : Counts) → b ≤ length l.funs → k.fun.number < b
    → instances l.words (before_at l b) d k c
    ≡ check_one (instances l.words (before_at l k.fun.number)) l.words (before_at l k.fun.number) (function_at l k.fun.number) (λ s. s) d k c
instances_at l zero d k c le lt = absurd (omega (arith, lt))
instances_at l (suc b) d k c le lt =
    ap (λ fs. instances l.words fs d k c) (before_more l b (omega (arith, le)))
    ∙ go (k.fun.number == length (before_at l b)) refl (instances_at l b d k c (omega (arith, le)))
  where
    long : length (before_at l b) ≡ b
    long = before_length l b (omega (arith, le))

    go : (x : Bool) → (k.fun.number == length (before_at l b)) ≡ x
        → (k.fun.number < b → instances l.words (before_at l b) d k c ≡ instance_of l d k c k.fun.number)
        → cond x (instance_of l d k c b) (instances l.words (before_at l b) d k c) ≡ instance_of l d k c k.fun.number
    go true e ih = ap (instance_of l d k c) (omega (arith, long, eqb-true k.fun.number (length (before_at l b)) e))
    go false e ih = ih (let n = eqb-false k.fun.number (length (before_at l b)) e in omega (arith, long, lt, n))

pub instances_past : (l : Shelf) (b d : ℕ) (k : InstanceKey) (c : Counts) → b ≤ length l.funs → b ≤ k.fun.number
    → instances l.words (before_at l b) d k c ≡ Err (rule unknown_name (record { line = 1; col = 1 }))
instances_past l zero d k c le past = refl
instances_past l (suc b) d k c le past =
    ap (λ fs. instances l.words fs d k c) (before_more l b (omega (arith, le)))
    ∙ go (k.fun.number == length (before_at l b)) refl (instances_past l b d k c (omega (arith, le)) (omega (arith, past)))
  where
    long : length (before_at l b) ≡ b
    long = before_length l b (omega (arith, le))

    go : (x : Bool) → (k.fun.number == length (before_at l b)) ≡ x
        → instances l.words (before_at l b) d k c ≡ Err (rule unknown_name (record { line = 1; col = 1 }))
        → cond x (check_one (instances l.words (before_at l b)) l.words (before_at l b) (function_at l b) (λ s. s) d k c) (instances l.words (before_at l b) d k c) ≡ Err (rule unknown_name (record { line = 1; col = 1 }))
    go true e ih = absurd (omega (arith, long, past, eqb-true k.fun.number (length (before_at l b)) e))
    go false e ih = ih

-- ---- headers

types_length : (statics : Statics) (m : Mark) (place : Spot → Spot) (ps : List Parameter) (ts : List Param) → param_types statics m place ps ≡ Ok ts → length ts ≡ length ps
types_length statics m place [] ts e = ap length (sym (ok_same {E = Fault} [] ts e))
types_length statics m place (p ∷ ps) ts e =
    let a = ok_inside (header_type statics p.ty (place (written_at p.ty))) (λ t. and_then (param_types statics m place ps) (λ rest. Ok (record { ty = t; held = p.held || is_lifted m } ∷ rest))) ts e in
    let b = ok_inside (param_types statics m place ps) (λ rest. Ok (record { ty = a.0; held = p.held || is_lifted m } ∷ rest)) ts a.2 in
    let same : record { ty = a.0; held = p.held || is_lifted m } ∷ b.0 ≡ ts = ok_same {E = Fault} (record { ty = a.0; held = p.held || is_lifted m } ∷ b.0) ts b.2 in
    sym (ap length same) ∙ ap suc (types_length statics m place ps b.0 b.1)

-- a header has a type for each parameter
pub header_long : (statics : Statics) (place : Spot → Spot) (f : Function) (h : Header) → header_of statics place f ≡ Ok h → length h.params ≡ length f.params
header_long statics place f h e =
    let a = ok_inside (param_types statics f.mark place f.params) (λ ps. and_then (result_types statics place f.results) (λ rs. cond (is_lifted f.mark && is_empty f.results) (Err (rule lifted_without_result f.at)) (Ok (record { params = ps; results = rs })))) h e in
    let b = ok_inside (result_types statics place f.results) (λ rs. cond (is_lifted f.mark && is_empty f.results) (Err (rule lifted_without_result f.at)) (Ok (record { params = a.0; results = rs }))) h a.2 in
    go (is_lifted f.mark && is_empty f.results) a.0 b.0 b.2 (types_length statics f.mark place f.params a.0 a.1)
  where
    go : (x : Bool) (ps : List Param) (rs : List Ty) → cond x (Err (rule lifted_without_result f.at)) (Ok (record { params = ps; results = rs })) ≡ Ok h → length ps ≡ length f.params → length h.params ≡ length f.params
    go true ps rs e long = absurd (grind (arith, e))
    go false ps rs e long = let same : record { params = ps; results = rs } ≡ h = ok_same {E = Fault} (record { params = ps; results = rs }) h e in sym (ap (λ (x : Header). length x.params) same) ∙ long

-- ---- one instance

module _ (l : Shelf) (fun d : ℕ) (place : Spot → Spot) (k : InstanceKey) (c : Counts) (node : Fun) (statics : Statics) where
  abbrev pub grown : Function
  grown = fun_grown (expr_at l.nodes) (stmt_at l.nodes) node

  abbrev pub One : Result (Signature × Counts) Fault
  One = check_one (instances l.words (before_at l fun)) l.words (before_at l fun) (function_at l fun) place d k c

  abbrev pub Ran_body : Header → Result (List Value × Counts × ℕ) Fault
  Ran_body h = with_counts (instances l.words (before_at l fun)) d (instance_walk l.words (before_at l fun) (function_at l fun) k.statics h) c 0

  -- the context in which its body begins
  abbrev pub Begins : Header → State → Type 0
  Begins h cx = cx ≡ record { this = fun; results = h.results; depth = d; height = 0; vars = param_vars 0 (map (param_of (expr_at l.nodes)) node.params) h.params; start = cx.start; next = length h.params; statics = statics; held = [] }

  abbrev pub walk_of : State → Walk (List Value × Context)
  walk_of cx = whole_body (block_of (expr_at l.nodes) (stmt_at l.nodes) node.body) (scope_in l cx) (context_of cx)

  abbrev pub body_of_grown : Function → Header → Result ((List Value × Context) × Counts × ℕ) Fault
  body_of_grown f h = with_counts (instances l.words (before_at l fun)) d
      (whole_body f.body (record { words = l.words; before = before_at l fun; this = function_at l fun; results = h.results; statics = paired f.statics k.statics; held = [] }) (record { vars = param_vars 0 f.params h.params; next = length h.params })) c 0

  -- the header under the static values of the key
  pub header_here : (r : Result Header Fault) → function_at l fun ≡ grown → statics ≡ paired node.statics k.statics → header_of statics place (function_at l fun) ≡ r
      → header_of (paired (function_at l fun).statics k.statics) place (function_at l fun) ≡ r
  header_here r tree is e = ap (λ (x : Function). header_of (paired x.statics k.statics) place (function_at l fun)) tree ∙ ap (λ s. header_of s place (function_at l fun)) (sym is) ∙ e

  body_here : (h : Header) (cx : State) (r : Result ((List Value × Context) × Counts × ℕ) Fault) → function_at l fun ≡ grown → statics ≡ paired node.statics k.statics → Begins h cx
      → with_counts (checker_at l cx) cx.depth (walk_of cx) c cx.height ≡ r → body_of_grown (function_at l fun) h ≡ r
  body_here h cx r tree is begins e =
      ap (λ f. body_of_grown f h) tree
      ∙ ap (λ s. with_counts (instances l.words (before_at l fun)) d
      (whole_body (block_of (expr_at l.nodes) (stmt_at l.nodes) node.body) (record { words = l.words; before = before_at l fun; this = function_at l fun; results = h.results; statics = s; held = [] }) (record { vars = param_vars 0 (map (param_of (expr_at l.nodes)) node.params) h.params; next = length h.params })) c 0) (sym is)
      ∙ subst (λ (x : State). with_counts (checker_at l x) x.depth (walk_of x) c x.height ≡ r) begins e

  walk_here : (h : Header) (r : Result ((List Value × Context) × Counts × ℕ) Fault) → body_of_grown (function_at l fun) h ≡ r → Ran_body h ≡ and_then r (λ x. Ok (x.0.0, x.1, x.2))
  walk_here h r e =
      with_counts-bind (instances l.words (before_at l fun)) d (whole_body (function_at l fun).body _ _) (λ x. answer x.0) c 0
      ∙ ap (λ x. and_then x (λ y. Ok (y.0.0, y.1, y.2))) e

  pub body_runs : (h : Header) (cx now : State) (vs : List Value) (after : Counts) → function_at l fun ≡ grown → statics ≡ paired node.statics k.statics → Begins h cx
      → Runs (checker_at l cx) (whole_body (block_of (expr_at l.nodes) (stmt_at l.nodes) node.body) (scope_in l cx)) cx c vs now after
      → Ran_body h ≡ Ok (vs, after, now.height)
  body_runs h cx now vs after tree is begins runs = walk_here h _ (body_here h cx _ tree is begins runs.runs)

  -- what the body's run adds, and how high it is
  pub body_ran : (h : Header) (vs : List Value) (after : Counts) (height : ℕ) → fun ≤ length l.funs → k.fun.number ≡ fun → d ≤ 64 → signature_of c.met k ≡ None
      → Ran_body h ≡ Ok (vs, after, height) → (signature_of after.met k ≡ None) × (height ≤ 64)
  body_ran h vs after height le same depth none e =
      let grows = instances_grow l.words (before_at l fun) in
      let there = ran (length (before_at l fun)) (instances l.words (before_at l fun)) grows d (instance_walk l.words (before_at l fun) (function_at l fun) k.statics h) c 0 (vs, after, height) e in
      let below : AllBelow k.fun.number there.0.0 = subst (λ n. AllBelow n there.0.0) (before_length l fun le ∙ sym same) there.0.2 in
      let high = there.1 (omega (arith, depth)) in
      (ap (λ m. signature_of m k) there.0.1 ∙ none_passed c.met there.0.0 k none ∙ none_below there.0.0 k below, omega (arith, high))

  pub one_known : (h : Header) (vs : List Value) (after now : Counts) (height : ℕ) (s : Signature)
      → header_of (paired (function_at l fun).statics k.statics) place (function_at l fun) ≡ Ok h → Ran_body h ≡ Ok (vs, after, height)
      → s ≡ signature_by (function_at l fun) h vs height → now ≡ with_instance k s after → One ≡ Ok (s, now)
  one_known h vs after now height s header body is kept_as =
      ap (λ x. and_then x (λ g. and_then (Ran_body g) (λ r. Ok (kept (function_at l fun) g k r)))) header
      ∙ ap (λ x. and_then x (λ r. Ok (kept (function_at l fun) h k r))) body
      ∙ ap (λ x. Ok (x, with_instance k x after)) (sym is) ∙ ap (λ x. Ok (s, x)) (sym kept_as)

  pub header_first : (f : CheckFault) → function_at l fun ≡ grown → statics ≡ paired node.statics k.statics
      → IsFirst f (header_of statics place (function_at l fun)) → IsFirst f One
  header_first f tree is first = go (fault_as f) first
    where
      go : (o : Option Fault) → IfSome o (λ g. header_of statics place (function_at l fun) ≡ Err g) → IfSome o (λ g. One ≡ Err g)
      go None e = tt
      go (Some g) e = ap (λ x. and_then x (λ g. and_then (Ran_body g) (λ r. Ok (kept (function_at l fun) g k r)))) (header_here (Err g) tree is e)

  pub body_first : (f : CheckFault) (h : Header) (cx : State) → function_at l fun ≡ grown → statics ≡ paired node.statics k.statics → Begins h cx
      → header_of statics place (function_at l fun) ≡ Ok h
      → Fails (checker_at l cx) (whole_body (block_of (expr_at l.nodes) (stmt_at l.nodes) node.body) (scope_in l cx)) cx c f
      → IsFirst f One
  body_first f h cx tree is begins header fails = go (fault_as f) fails.runs
    where
      go : (o : Option Fault) → IfSome o (λ g. with_counts (checker_at l cx) cx.depth (walk_of cx) c cx.height ≡ Err g) → IfSome o (λ g. One ≡ Err g)
      go None e = tt
      go (Some g) e =
          ap (λ x. and_then x (λ y. and_then (Ran_body y) (λ r. Ok (kept (function_at l fun) y k r)))) (header_here (Ok h) tree is header)
          ∙ ap (λ x. and_then x (λ r. Ok (kept (function_at l fun) h k r))) (walk_here h _ (body_here h cx (Err g) tree is begins e))

  -- the context that the code makes
  pub begins : (h : Header) (first cx : State) (ps : List ParamNode) → ps ≡ node.params
      → first ≡ record { this = fun; results = h.results; depth = d; height = 0; vars = []; start = []; next = 0; statics = statics; held = [] }
      → cx ≡ record first { vars = param_vars 0 (map (param_of (expr_at l.nodes)) ps) h.params; start = cx.start; next = length h.params } → Begins h cx
  begins h first cx ps same is e =
      e
      ∙ ap (λ (x : State). record x { vars = param_vars 0 (map (param_of (expr_at l.nodes)) ps) h.params; start = cx.start; next = length h.params }) is
      ∙ ap (λ qs. record { this = fun; results = h.results; depth = d; height = 0; vars = param_vars 0 (map (param_of (expr_at l.nodes)) qs) h.params; start = cx.start; next = length h.params; statics = statics; held = [] }) same

  pub params_long : (h : Header) (ps : List ParamNode) → ps ≡ node.params → function_at l fun ≡ grown → header_of statics place (function_at l fun) ≡ Ok h → length ps ≡ length h.params
  params_long h ps same tree e =
      ap length same ∙ sym (length-map node.params (param_of (expr_at l.nodes))) ∙ sym (ap (λ (x : Function). length x.params) tree) ∙ sym (header_long statics place (function_at l fun) h e)

-- the signature that the code makes
pub signature_made : (f : Function) (h : Header) (vs : List Value) (height : ℕ) (s : Signature) → s.params ≡ h.params → s.results ≡ returned_as h.params h.results vs → s.mark ≡ f.mark → s.height ≡ suc height
    → s ≡ signature_by f h vs height
signature_made f h vs height s p r m n =
    ap (λ x. record { params = x; results = s.results; mark = s.mark; height = s.height }) p
    ∙ ap (λ x. record { params = h.params; results = x; mark = s.mark; height = s.height }) r
    ∙ ap (λ x. record { params = h.params; results = returned_as h.params h.results vs; mark = x; height = s.height }) m
    ∙ ap (λ x. record { params = h.params; results = returned_as h.params h.results vs; mark = f.mark; height = x }) n

-- ---- a new place

ok_fst : {A E : Type 0} (a b : A) (h i : ℕ) → ◌≡◌ {A = Result (A × ℕ) E} (Ok (a, h)) (Ok (b, i)) → (a ≡ b) × (h ≡ i)
ok_fst a b h i e = let same = ok_same (a, h) (b, i) e in (ap (λ x. x.0) same, ap (λ x. x.1) same)

pub fresh_state : (met : Signatures) (old now : State) (p : ℕ) → Reads met new_place old p now → (p ≡ old.next) × (now ≡ record old { start = now.start; next = suc old.next }) × (now.start ≡ old.start) × (now.vars ≡ old.vars)
fresh_state met old now p r =
    let same = ok_fst _ _ _ _ r.runs in
    let vars : now.vars ≡ old.vars = sym (ap (λ x. x.1.vars) same.0) in
    let next : now.next ≡ suc old.next = sym (ap (λ x. x.1.next) same.0) in (
      sym (ap (λ x. x.0) same.0),
      ap (λ x. record { this = x; results = now.results; depth = now.depth; height = now.height; vars = now.vars; start = now.start; next = now.next; statics = now.statics; held = now.held }) r.keeps.this
          ∙ ap (λ x. record { this = old.this; results = x; depth = now.depth; height = now.height; vars = now.vars; start = now.start; next = now.next; statics = now.statics; held = now.held }) r.keeps.results
          ∙ ap (λ x. record { this = old.this; results = old.results; depth = x; height = now.height; vars = now.vars; start = now.start; next = now.next; statics = now.statics; held = now.held }) r.keeps.depth
          ∙ ap (λ x. record { this = old.this; results = old.results; depth = old.depth; height = x; vars = now.vars; start = now.start; next = now.next; statics = now.statics; held = now.held }) (sym same.1)
          ∙ ap (λ x. record { this = old.this; results = old.results; depth = old.depth; height = old.height; vars = x; start = now.start; next = now.next; statics = now.statics; held = now.held }) vars
          ∙ ap (λ x. record { this = old.this; results = old.results; depth = old.depth; height = old.height; vars = old.vars; start = now.start; next = x; statics = now.statics; held = now.held }) next
          ∙ ap (λ x. record { this = old.this; results = old.results; depth = old.depth; height = old.height; vars = old.vars; start = now.start; next = suc old.next; statics = x; held = now.held }) r.keeps.statics
          ∙ ap (λ x. record { this = old.this; results = old.results; depth = old.depth; height = old.height; vars = old.vars; start = now.start; next = suc old.next; statics = old.statics; held = x }) r.keeps.held,
      r.keeps.start,
      vars,
    )

-- a parameter's variable is added to the context
pub param_added : (first cx mid now : State) (n : ℕ) (v : Var) → cx ≡ record first { vars = cx.vars; start = cx.start; next = n }
    → mid ≡ record cx { start = mid.start; next = suc cx.next }
    → now ≡ record mid { vars = mid.vars ++ v ∷ []; start = mid.vars ++ v ∷ [] }
    → now ≡ record first { vars = now.vars; start = now.start; next = n + 1 }
param_added first cx mid now n v a b e =
    let at : cx.next ≡ n = ap (λ (x : State). x.next) a in
    let next : now.next ≡ n + 1 = ap (λ (x : State). x.next) e ∙ ap (λ (x : State). x.next) b ∙ omega (arith, at) in
    ap (λ k. record now { vars = now.vars; start = now.start; next = k }) next
    ∙ ap (λ (x : State). record x { vars = now.vars; start = now.start; next = n + 1 }) e
    ∙ ap (λ (x : State). record x { vars = now.vars; start = now.start; next = n + 1 }) b
    ∙ ap (λ (x : State). record x { vars = now.vars; start = now.start; next = n + 1 }) a
