-- Every signature that the check of a program's instances keeps is proper.
use Rattle.std.specs.Prelude.{◌≡◌, refl, ℕ, suc, max, ◌+◌, ◌<◌, ◌≤◌, Bool, true, false, cond, ◌==◌, List, [], ◌∷◌, ◌++◌, length, Option, Some, None, Ok, Err, ℤ, nat_lt}
use mathlib.Core.Path.{sym, ap, ◌∙◌, subst}
use native.Mathlib.Omega.{arith}
use Rattle.std.proofs.lemmas.Bool.{eqb-true, eq-eqb}
use Rattle.check_expr.proofs.Alike.{some_same, same_key_same}
use Rattle.check_expr.proofs.Owners.{gives-bind, o_bind, o_then, o_back, o_fail, o_rules, o_from}
use Rattle.check_scope.specs.Context.{Scope, Context, ◌>>◌}
use Rattle.silq_types.specs.declared.built_in.BuiltIn.{BuiltIn}
use Rattle.silq_types.specs.Programs.{paired}
use Rattle.check_expr.specs.Owners.{owners, owned, Sole, Proper, ProperFor, Gives, Ensures, fun_at, IsProper, AreProper}
use Rattle.silq_types.specs.Calls.{Found, find_fun}
use Rattle.check_scope.specs.Walk.{Walk, answer, broken, counted, asked, Met, known, limited, new, meet, Counts, Checker, known_or_checked, with_counts, most_walked}
use Rattle.check_fun.proofs.Blocks.{Z, s_stmt, s_returned, s_end_from, s_count}
use Rattle.check_fun.proofs.Given.{returned-proper}
use Rattle.check_fun.proofs.Growth.{ok_inside, ok_same, met_known}
use Rattle.check_fun.specs.Program.{param_vars, instance_walk, kept, check_one, instances}
use Rattle.check_fun.specs.Statement.{stmt, body, whole_body, results_or_fault, end_from, ended_with}
use Rattle.silq_io.specs.declared.limit.LimitKind.TheVariants.{Walked}
use Rattle.silq_tree.specs.Syntax.{Function, Parameter, Statement, assign, spread, update, forget, forget_value, phase, choice, loop, call, Statements, done, next, Block, block, return_nothing, return_value}
use Rattle.silq_tree.specs.declared.node.NameId.{NameId}
use Rattle.silq_tree.specs.declared.node.Spot.{Spot}
use Rattle.silq_types.specs.Known.{Signatures, same_key, signature_of}
use Rattle.silq_types.specs.Rules.{and_then, over}
use Rattle.silq_mean.specs.Written.{Header, header_of}
use Rattle.silq_types.specs.Types.{same_name}
use Rattle.silq_types.specs.declared.signature.InstanceKey.{InstanceKey}
use Rattle.silq_types.specs.declared.signature.Param.{Param}
use Rattle.silq_types.specs.declared.signature.Signature.{Signature}
use Rattle.silq_types.specs.declared.types.Ty.{Ty}
use Rattle.silq_types.specs.declared.values.Value.{Value}

-- ---- one body

-- the values that a body returns are under way
abbrev Returns : ℕ → Option (List Value) → Context → Type 0
Returns low None = Sole low Z
Returns low (Some vs) = Sole low (λ p. Z p + owned p vs)

module _ (S : InstanceKey → Signature → Type 0) (low : ℕ) (sc : Scope) (proper : (k : InstanceKey) (s : Signature) → S k s → ProperFor sc.before k s) where
  b_more : (st : Statement) (rest : Statements) → Ensures S (Sole low Z) (body rest sc) (Returns low) → Ensures S (Sole low Z) (stmt st sc >> body rest sc) (Returns low)
  b_more st rest ih = o_then S low (s_stmt st S low sc proper) (λ u. ih)

  nothing_owned : (c : Context) → Sole low Z c → Returns low (Some []) c
  nothing_owned c h = record { grown = h.grown; one = λ p. let a = h.one p in omega (arith, a); ahead = λ p le. let a = h.ahead p le in omega (arith, a) }

  b_ended : (s : Spot) (vs : List Value) → Ensures S (Returns low (Some vs)) (ended_with sc s vs) (Returns low)
  b_ended s vs = o_then S low (o_rules S low s _) (λ u. o_back S low (Some vs) (λ c h. h.1))

  b_body : (ss : Statements) → Ensures S (Sole low Z) (body ss sc) (Returns low)
  b_body done = o_back S low None (λ c h. h)
  b_body (next (return_nothing s) done) = o_then S low (s_count S low) (λ u. o_from S low (λ c h. nothing_owned c h) (b_ended s []))
  b_body (next (return_value e s) done) = o_then S low (s_count S low) (λ u. o_bind S low (s_returned S low sc proper e) (λ vs. b_ended s vs))
  b_body (next (return_nothing s) (next st rest)) = b_more (return_nothing s) (next st rest) (b_body (next st rest))
  b_body (next (return_value e s) (next st rest)) = b_more (return_value e s) (next st rest) (b_body (next st rest))
  b_body (next (assign w e s) rest) = b_more (assign w e s) rest (b_body rest)
  b_body (next (spread xs e s) rest) = b_more (spread xs e s) rest (b_body rest)
  b_body (next (update w op e s) rest) = b_more (update w op e s) rest (b_body rest)
  b_body (next (forget x s) rest) = b_more (forget x s) rest (b_body rest)
  b_body (next (forget_value x e s) rest) = b_more (forget_value x e s) rest (b_body rest)
  b_body (next (phase e s) rest) = b_more (phase e s) rest (b_body rest)
  b_body (next (choice e a b s) rest) = b_more (choice e a b s) rest (b_body rest)
  b_body (next (loop x l h b s) rest) = b_more (loop x l h b s) rest (b_body rest)
  b_body (next (call e s) rest) = b_more (call e s) rest (b_body rest)

  b_results : (s : Spot) (ts : List Ty) (o : Option (List Value)) → Ensures S (Returns low o) (results_or_fault s ts o) (λ vs. Sole low (λ p. Z p + owned p vs))
  b_results s [] None = o_back S low [] (λ c h. record { grown = h.grown; one = λ p. let a = h.one p in omega (arith, a); ahead = λ p le. let a = h.ahead p le in omega (arith, a) })
  b_results s (t ∷ ts) None = o_fail S low _
  b_results s [] (Some vs) = o_back S low vs (λ c h. h)
  b_results s (t ∷ ts) (Some vs) = o_back S low vs (λ c h. h)

  b_end : (o : Option (List Value)) (s : Spot) → Ensures S (Returns low o) (end_from 0 s) (λ u. Returns low o)
  b_end None s = s_end_from S low Z 0 s
  b_end (Some vs) s = s_end_from S low (λ p. Z p + owned p vs) 0 s

  b_whole : (b : Block) → Ensures S (Sole low Z) (whole_body b sc) (λ vs. Sole low (λ p. Z p + owned p vs))
  b_whole (block ss end) = o_bind S low (b_body ss) (λ o. o_then S low (b_end o end) (λ u. b_results end sc.results o))

-- parameter i has the place i
params-own : (p i : ℕ) (ns : List Parameter) (ps : List Param) → (owners p (param_vars i ns ps) ≤ 1) × (p < i → owners p (param_vars i ns ps) ≡ 0) × (i + length ps ≤ p → owners p (param_vars i ns ps) ≡ 0)
params-own p i [] ps = (omega arith, λ h. refl, λ h. refl)
params-own p i (n ∷ ns) [] = (omega arith, λ h. refl, λ h. refl)
params-own p i (n ∷ ns) (q ∷ ps) = go (i == p) refl (params-own p (suc i) ns ps)
  where
    go : (b : Bool) → (i == p) ≡ b → (owners p (param_vars (suc i) ns ps) ≤ 1) × (p < suc i → owners p (param_vars (suc i) ns ps) ≡ 0) × (suc i + length ps ≤ p → owners p (param_vars (suc i) ns ps) ≡ 0) → (cond b 1 0 + owners p (param_vars (suc i) ns ps) ≤ 1) × (p < i → cond b 1 0 + owners p (param_vars (suc i) ns ps) ≡ 0) × (i + suc (length ps) ≤ p → cond b 1 0 + owners p (param_vars (suc i) ns ps) ≡ 0)
    go true e h =
        let same = eqb-true i p e in
        let z = h.1 (omega (arith, same)) in
        (omega (arith, z), λ lt. absurd (omega (arith, lt, same)), λ le. absurd (omega (arith, le, same)))
    go false e h = let a = h.0 in (omega (arith, a), λ lt. let z = h.1 (omega (arith, lt)) in omega (arith, z), λ le. let z = h.2 (omega (arith, le)) in omega (arith, z))

start-sole : (ns : List Parameter) (ps : List Param) → Sole 0 Z (record { vars = param_vars 0 ns ps; next = length ps })
start-sole ns ps = record {
  grown = omega arith;
  one = λ p. let a = (params-own p 0 ns ps).0 in omega (arith, a);
  ahead = λ p le. let a = (params-own p 0 ns ps).2 (omega (arith, le)) in omega (arith, a);
}

-- ---- the functions of a program

at-below : (funs : List Function) (n : ℕ) (g : Function) → fun_at funs n ≡ Some g → n < length funs
at-below [] n g e = absurd (grind (arith, e))
at-below (f ∷ before) n g e = go (n == length before) refl e (at-below before n g)
  where
    go : (b : Bool) → (n == length before) ≡ b → cond b (Some f) (fun_at before n) ≡ Some g → (fun_at before n ≡ Some g → n < length before) → n < suc (length before)
    go true q e h = omega (arith, eqb-true n (length before) q)
    go false q e h = omega (arith, h e)

at-later : (f : Function) (before : List Function) (n : ℕ) (g : Function) → fun_at before n ≡ Some g → fun_at (f ∷ before) n ≡ Some g
at-later f before n g e = go (n == length before) refl
  where
    go : (b : Bool) → (n == length before) ≡ b → cond b (Some f) (fun_at before n) ≡ Some g
    go true q = let lt = at-below before n g e in let same = eqb-true n (length before) q in absurd (omega (arith, lt, same))
    go false q = e

at-last : (f : Function) (before : List Function) → fun_at (f ∷ before) (length before) ≡ Some f
at-last f before = ap (λ b. cond b (Some f) (fun_at before (length before))) (eq-eqb (length before) (length before) refl)

find-at : (funs : List Function) (x : NameId) (r : Found) → find_fun funs x ≡ Some r → fun_at funs r.number ≡ Some r.fun
find-at [] x r e = absurd (grind (arith, e))
find-at (g ∷ gs) x r e = go (same_name g.name x) e (find-at gs x r)
  where
    go : (b : Bool) → cond b (Some (record { number = length gs; fun = g })) (find_fun gs x) ≡ Some r → (find_fun gs x ≡ Some r → fun_at gs r.number ≡ Some r.fun) → fun_at (g ∷ gs) r.number ≡ Some r.fun
    go true e h = let same = some_same (record { number = length gs; fun = g }) r e in subst (λ (z : Found). fun_at (g ∷ gs) z.number ≡ Some z.fun) same (at-last g gs)
    go false e h = at-later g gs r.number r.fun (h e)

-- ---- readings with counts

module _ (funs : List Function) where
  kept-proper : (met : Signatures) (k : InstanceKey) (s : Signature) → AreProper funs met → signature_of met k ≡ Some s → IsProper funs k s
  kept-proper [] k s p e = absurd (grind (arith, e))
  kept-proper (x ∷ met) k s p e = go (same_key x.0 k) refl e (kept-proper met k s p.1)
    where
      go : (b : Bool) → same_key x.0 k ≡ b → cond b (Some x.1) (signature_of met k) ≡ Some s → (signature_of met k ≡ Some s → IsProper funs k s) → IsProper funs k s
      go true q e h = subst (λ z. IsProper funs z s) (same_key_same x.0 k q) (subst (λ z. IsProper funs x.0 z) (some_same x.1 s e) p.0)
      go false q e h = h e

  proper-append : (met : Signatures) (k : InstanceKey) (s : Signature) → AreProper funs met → IsProper funs k s → AreProper funs (met ++ (k, s) ∷ [])
  proper-append [] k s p q = (q, tt)
  proper-append (x ∷ met) k s p q = (p.0, proper-append met k s p.1 q)

  -- a checker that makes proper signatures
  record Makes (check : Checker) : Type 0 where
    makes : (d : ℕ) (k : InstanceKey) (c : Counts) (r : Signature × Counts) → AreProper funs c.met → check d k c ≡ Ok r → IsProper funs k r.0 × AreProper funs r.1.met

  found-proper : (check : Checker) → Makes check → (d : ℕ) (k : InstanceKey) (c : Counts) (q : Signature × Counts) (m : Met) → AreProper funs c.met → meet d c.met k ≡ m → known_or_checked check d m k c ≡ Ok q → IsProper funs k q.0 × AreProper funs q.1.met
  found-proper check g d k c q (known s) p e f =
      let same : (s, c) ≡ q = ok_same (s, c) q f in
      subst (λ (x : Signature × Counts). IsProper funs k x.0 × AreProper funs x.1.met) same (kept-proper c.met k s p (met_known d (length c.met) (signature_of c.met k) s e).0, p)
  found-proper check g d k c q (limited l) p e f = absurd (grind (arith, f))
  found-proper check g d k c q new p e f = g.makes (d + 1) k c q p f

  ran-proper : {A : Type 0} (P : A → Type 0) (check : Checker) → Makes check → (d : ℕ) (w : Walk A) (c : Counts) (h : ℕ) (r : A × Counts × ℕ) → Gives (IsProper funs) P w → AreProper funs c.met → with_counts check d w c h ≡ Ok r → P r.0 × AreProper funs r.1.met
  ran-proper P check g d (answer a) c h r gives p e =
      subst (λ (x : _ × Counts × ℕ). P x.0 × AreProper funs x.1.met) (ok_same (a, c, h) r e) (gives, p)
  ran-proper P check g d (broken x) c h r gives p e = absurd (grind (arith, e))
  ran-proper P check g d (counted w) c h r gives p e = go (nat_lt c.walked most_walked) e (ran-proper P check g d w (record c { walked = suc c.walked }) h r gives p)
    where
      go : (b : Bool) → cond b (with_counts check d w (record c { walked = suc c.walked }) h) (Err (over Walked)) ≡ Ok r → (with_counts check d w (record c { walked = suc c.walked }) h ≡ Ok r → P r.0 × AreProper funs r.1.met) → P r.0 × AreProper funs r.1.met
      go true e ih = ih e
      go false e ih = absurd (grind (arith, e))
  ran-proper P check g d (asked k rest) c h r gives p e =
      go (λ s ok c' h' p' e'. ran-proper P check g d (rest s) c' h' r (gives s ok) p' e') (ok_inside (known_or_checked check d (meet d c.met k) k c) (λ q. with_counts check d (rest q.0) q.1 (max h q.0.height)) r e)
    where
      go : ((s : Signature) → IsProper funs k s → (c' : Counts) (h' : ℕ) → AreProper funs c'.met → with_counts check d (rest s) c' h' ≡ Ok r → P r.0 × AreProper funs r.1.met) → (q : Signature × Counts) × (known_or_checked check d (meet d c.met k) k c ≡ Ok q) × (with_counts check d (rest q.0) q.1 (max h q.0.height) ≡ Ok r) → P r.0 × AreProper funs r.1.met
      go ih t =
          let there = found-proper check g d k c t.0 (meet d c.met k) p refl t.1 in
          ih t.0.0 there.0 t.0.1 (max h t.0.0.height) there.1 t.2

  -- ---- one instance, and all

  -- `some` is the end of the list of functions
  Ends : List Function → Type 0
  Ends some = (n : ℕ) (g : Function) → fun_at some n ≡ Some g → fun_at funs n ≡ Some g

  for-earlier : (f : Function) (before : List Function) → Ends (f ∷ before) → (k : InstanceKey) (s : Signature) → IsProper funs k s → ProperFor before k s
  unfolding Ends
  for-earlier f before ends k s p = λ x r h there number head.
      p r.fun h (subst (λ n. fun_at funs n ≡ Some r.fun) number (ends r.number r.fun (at-later f before r.number r.fun (find-at before x r there)))) head

  body-once : (words : List (NameId × BuiltIn)) (f : Function) (before : List Function) → Ends (f ∷ before) → (statics : List ℤ) (h : Header) → Gives (IsProper funs) (λ vs. (p : ℕ) → owned p vs ≤ 1) (instance_walk words before f statics h)
  body-once words f before ends statics h =
      let sc : Scope = record { words = words; before = before; this = f; results = h.results; statics = paired f.statics statics; held = [] } in
      let c : Context = record { vars = param_vars 0 f.params h.params; next = length h.params } in
      gives-bind (IsProper funs) 0 (λ (r : List Value × Context). Sole 0 (λ p. Z p + owned p r.0) r.1) (λ vs. (p : ℕ) → owned p vs ≤ 1) (whole_body f.body sc c) (λ r. answer r.0)
      ((b_whole (IsProper funs) 0 sc (for-earlier f before ends) f.body).runs c (start-sole f.params h.params))
      (λ r s p. let a = s.one p in omega (arith, a))

  one-proper : (earlier : Checker) (words : List (NameId × BuiltIn)) (f : Function) (before : List Function) → Ends (f ∷ before) → Makes earlier → (d : ℕ) (k : InstanceKey) (c : Counts) (r : Signature × Counts) → k.fun.number ≡ length before → AreProper funs c.met → check_one earlier words before f (λ s. s) d k c ≡ Ok r → IsProper funs k r.0 × AreProper funs r.1.met
  unfolding Ends
  one-proper earlier words f before ends g d k c r at_ met e =
      let p = ok_inside (header_of (paired f.statics k.statics) (λ s. s) f) (λ h. and_then (with_counts earlier d (instance_walk words before f k.statics h) c 0) (λ r. Ok (kept f h k r))) r e in
      let q = ok_inside (with_counts earlier d (instance_walk words before f k.statics p.0) c 0) (λ r. Ok (kept f p.0 k r)) r p.2 in
      let same : kept f p.0 k q.0 ≡ r = ok_same (kept f p.0 k q.0) r q.2 in
      let w = ran-proper (λ vs. (x : ℕ) → owned x vs ≤ 1) earlier g d (instance_walk words before f k.statics p.0) c 0 q.0 (body-once words f before ends k.statics p.0) met q.1 in
      let here : fun_at funs k.fun.number ≡ Some f = subst (λ n. fun_at funs n ≡ Some f) (sym at_) (ends (length before) f (at-last f before)) in
      let int : IsProper funs k (kept f p.0 k q.0).0 = (λ f' h' there head.
      let same_fun : f ≡ f' = some_same f f' (sym here ∙ there) in
      let same_head : p.0 ≡ h' = ok_same p.0 h' (sym p.1 ∙ (subst (λ (z : Function). header_of (paired z.statics k.statics) (λ s. s) z ≡ Ok h') (sym same_fun) head)) in
      subst (λ (z : Header). Proper z.params (kept f p.0 k q.0).0.results) same_head (returned-proper p.0.params p.0.results q.0.0 w.0)) in
      subst (λ (x : Signature × Counts). IsProper funs k x.0 × AreProper funs x.1.met) same (int, proper-append q.0.1.met k (kept f p.0 k q.0).0 w.1 int)

  all-proper : (words : List (NameId × BuiltIn)) (some : List Function) → Ends some → Makes (instances words some)
  unfolding Ends
  all-proper words [] ends = record { makes = λ d k c r p e. absurd (grind (arith, e)) }
  all-proper words (f ∷ before) ends = go (all-proper words before (λ n g e. ends n g (at-later f before n g e)))
    where
      makes-at : Makes (instances words before) → (d : ℕ) (k : InstanceKey) (c : Counts) (r : Signature × Counts) → AreProper funs c.met → (b : Bool) → (k.fun.number == length before) ≡ b → cond b (check_one (instances words before) words before f (λ s. s) d k c) (instances words before d k c) ≡ Ok r → IsProper funs k r.0 × AreProper funs r.1.met
      makes-at g d k c r p true at_ e = one-proper (instances words before) words f before ends g d k c r (eqb-true k.fun.number (length before) at_) p e
      makes-at g d k c r p false at_ e = g.makes d k c r p e

      go : Makes (instances words before) → Makes (instances words (f ∷ before))
      go g = record { makes = λ d k c r p e. makes-at g d k c r p (k.fun.number == length before) refl e }

pub instances-proper : (words : List (NameId × BuiltIn)) (funs : List Function) (d : ℕ) (k : InstanceKey) (c : Counts) (r : Signature × Counts) → AreProper funs c.met → instances words funs d k c ≡ Ok r → IsProper funs k r.0 × AreProper funs r.1.met
unfolding Ends
instances-proper words funs d k c r p e = (all-proper funs words funs (λ n g h. h)).makes d k c r p e
