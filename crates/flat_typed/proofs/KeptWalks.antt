-- Statements that keep variables settle: updates, what is forgotten, phases, calls, returns and assignments to parts.
use Rattle.std.proofs.Common.{◌≡◌, ℕ, zero, suc, ◌+◌, ◌≤◌, Bool, true, false, cond, not, ◌&&◌, ◌||◌, List, [], ◌∷◌, ◌++◌, length, take, refl, sym, ap, ap₂, ◌∙◌, subst, arith}
use Rattle.std.specs.Prelude.{Option, Some, None, Result, Ok, Err}
use Rattle.silq_tree.specs.declared.node.NameId.{NameId}
use Rattle.silq_tree.specs.declared.node.Spot.{Spot}
use Rattle.silq_tree.specs.declared.node.UpdateOp.{UpdateOp}
use Rattle.silq_tree.specs.Syntax.{Expression, Place, Statement, whole, part, part_of_part, assign, update, forget, forget_value, phase, return_nothing, return_value, call}
use Rattle.static_num.specs.Angle.{angle_of}
use Rattle.static_num.specs.declared.angles.AngleFault.{AngleFault}
use Rattle.static_num.specs.declared.angles.AngleFault.TheVariants as angles
use Rattle.silq_types.specs.declared.types.Ty.{Ty}
use Rattle.silq_types.specs.declared.need.Need.{Need}
use Rattle.silq_types.specs.declared.need.Need.TheVariants as needs
use Rattle.silq_types.specs.declared.values.Part.{Part}
use Rattle.silq_types.specs.declared.values.Value.{Value}
use Rattle.silq_types.specs.declared.values.Var.{Var}
use Rattle.silq_types.specs.declared.values.Origin.TheVariants.{Linear}
use Rattle.silq_types.specs.declared.signature.InstanceKey.{InstanceKey}
use Rattle.silq_types.specs.declared.signature.Signature.{Signature}
use Rattle.silq_types.specs.Types.{at, is_held, place_name}
use Rattle.check_scope.specs.Context.{Scope, Context, Check, new_place, put_variables, same_part, find_var, replace, variable}
use Rattle.check_expr.specs.Expression.{is_tuple, lone_need, lone_wants, some_linear, expr, single}
use Rattle.check_expr.specs.Owners.{Gives, Ensures, Sole}
use Rattle.check_expr.proofs.Owners.{gives-more, found_part, o_bind, o_then, o_more, o_from, o_back, o_fail, o_rules, o_variables, o_names, o_suits}
use Rattle.check_fun.specs.Statement.{Target, taken_out, made_linear, with_origin, one_suits, assign_part, static_updated, update_part, forget_name, forget_as, end_var, angle_rule, phase_of, returned, stmt}
use Rattle.check_fun.proofs.Blocks.{s_count, s_stmt}
use Rattle.flat_typed.specs.Lemmas.{Callable}
use Rattle.flat_typed.specs.Settled.{Settled, Settles, Settling}
use Rattle.flat_typed.proofs.Ordered.{clash}
use Rattle.flat_typed.proofs.Moving.{spent}
use Rattle.flat_typed.proofs.Leaving.{On, k_any, k_single}
use Rattle.flat_typed.proofs.HeldStay.{Spends, h_expr}
use Rattle.flat_typed.proofs.Turns.{gives_both}
use Rattle.flat_typed.proofs.UpdateWalk.{AimedAt, aims_at}
use Rattle.flat_typed.proofs.Kept.{Kept, AllKept, FindKept, kept_here, kept_then, kept_refl, find_kept, kept_spent, kept_settles}

-- ---- lists

pub kept_spends : (vs : List Var) → Spends (AllKept vs)
kept_spends vs vars p v e live un h = kept_then vs vars (replace vars (spent v)) h (kept_spent vars p v (subst (FindKept (Some v)) (sym e) (kept_refl v)) (found_part vars p v e) un)

-- one that was found before, and is not held
kept_ended : (vs ws : List Var) (p : Part) (v : Var) → find_var vs p ≡ Some v → is_held v.origin ≡ false → AllKept vs ws → AllKept vs (replace ws (spent v))
kept_ended vs ws p v e un h = kept_then vs ws (replace ws (spent v)) h (kept_spent ws p v (subst (λ o. FindKept o (find_var ws p)) e (find_kept vs ws p h)) (found_part vs p v e) un)

kept_linear : (vs : List Var) (p : Part) (v : Var) → FindKept (Some v) (find_var vs p) → is_held v.origin ≡ false → AllKept vs (made_linear vs p)
kept_linear [] p v f u = tt
kept_linear (w ∷ ws) p v f u = go (same_part w.part p) f (λ k. kept_linear ws p v k u)
  where
    go : (t : Bool) → FindKept (Some v) (cond t (Some w) (find_var ws p)) → (FindKept (Some v) (find_var ws p) → AllKept ws (made_linear ws p)) → AllKept (w ∷ ws) (cond t (record w { origin = Linear } ∷ ws) (w ∷ made_linear ws p))
    go true k i = (record { part = refl; ty = refl; place = refl; live = λ e. e; held = sym (k.held ∙ u); same = λ h. clash (sym h ∙ (k.held ∙ u)) }, kept_here ws)
    go false k i = (kept_refl w, i k)

kept_origin : (b : Bool) (vs : List Var) (p : Part) (v : Var) → FindKept (Some v) (find_var vs p) → is_held v.origin ≡ false → AllKept vs (with_origin b vs p)
kept_origin true vs p v f u = kept_linear vs p v f u
kept_origin false vs p v f u = kept_here vs

kept_taken : (vs us ws : List Var) → AllKept (vs ++ us) ws → AllKept vs (take (length vs) ws)
kept_taken [] us ws h = tt
kept_taken (v ∷ vs) us [] h = absurd h
kept_taken (v ∷ vs) us (w ∷ ws) h = (h.0, kept_taken vs us ws h.1)

-- behind an assignment to a part
kept_given : (b : Bool) (vs us ws : List Var) (p : Part) (v : Var) → find_var vs p ≡ Some v → is_held v.origin ≡ false → AllKept (vs ++ us) ws → AllKept vs (with_origin b (take (length vs) ws) v.part)
kept_given b vs us ws p v e un h =
    let first = kept_taken vs us ws h in
    kept_then vs (take (length vs) ws) (with_origin b (take (length vs) ws) v.part) first
    (kept_origin b (take (length vs) ws) v.part v
    (subst (λ q. FindKept (Some v) (find_var (take (length vs) ws) q)) (sym (found_part vs p v e)) (subst (λ o. FindKept o (find_var (take (length vs) ws) p)) e (find_kept vs (take (length vs) ws) p first))) un)

-- ---- walks

-- what holds whatever the context is stands in front of the walk
pub given : (S : InstanceKey → Signature → Type 0) {A F : Type 0} {P : Context → Type 0} {m : Check A} {Q : A → Context → Type 0} → (F → Ensures S P m Q) → Ensures S (λ d. F × P d) m Q
given S f = record { runs = λ d h. (f h.0).runs d h.1 }

pub at_kept : (c d : Context) → d ≡ c → AllKept c.vars d.vars
at_kept c d e = subst (λ (x : Context). AllKept c.vars x.vars) (sym e) (kept_here c.vars)

k_put : (S : InstanceKey → Signature → Type 0) (I : List Var → Type 0) (vs : List Var) → Ensures S (λ d. I vs) (put_variables vs) (λ u. On S 0 I)
k_put S I vs = record { runs = λ d h. h }

k_place : (S : InstanceKey → Signature → Type 0) {F : Type 0} → Ensures S (λ d. F) new_place (λ p d. F × Unit {0})
k_place S = record { runs = λ d h. (h, tt) }

k_one_suits : (S : InstanceKey → Signature → Type 0) {P : Context → Type 0} (e : Expression) (t : Ty) (vs : List Value) → Ensures S P (one_suits e t vs) (λ u. P)
k_one_suits S e t [] = o_back S 0 tt (λ c h. h)
k_one_suits S e t (v ∷ []) = o_suits S 0 e (t ∷ []) v
k_one_suits S e t (v ∷ (w ∷ vs)) = o_back S 0 tt (λ c h. h)

k_angle : (S : InstanceKey → Signature → Type 0) {P : Context → Type 0} (s : Spot) (r : Result ℕ AngleFault) → Ensures S P (angle_rule s r) (λ u. P)
k_angle S s (Ok k) = o_back S 0 tt (λ c h. h)
k_angle S s (Err angles.NotEighth) = o_fail S 0 _
k_angle S s (Err (angles.Static f)) = o_fail S 0 _

module _ (sc : Scope) (c : Context) where
  -- the walk keeps the variables
  abbrev pub Keeping : {A : Type 0} → Check A → Type 0
  Keeping m = Ensures (Callable sc) (λ d. d ≡ c) m (λ a d. AllKept c.vars d.vars)

  expr_kept : (vs : List Var) (e : Expression) (need : Need) (wants : List Ty) → Ensures (Callable sc) (λ d. AllKept vs d.vars) (expr e sc need wants) (λ xs d. AllKept vs d.vars)
  expr_kept vs e need wants = h_expr (Callable sc) 0 (AllKept vs) (kept_spends vs) e sc need wants

  pub value_kept : (e : Expression) (vs : List Value) → Ensures (Callable sc) (λ d. AllKept c.vars d.vars) (single e vs) (λ v d. AllKept c.vars d.vars)
  value_kept e vs = o_from (Callable sc) 0 (λ d h z. h) (k_single (Callable sc) 0 (λ d. AllKept c.vars d.vars) e vs)

  pub expr_keeps : (e : Expression) (need : Need) (wants : List Ty) → Keeping (expr e sc need wants)
  expr_keeps e need wants = o_from (Callable sc) 0 (λ d h. at_kept c d h) (expr_kept c.vars e need wants)

  update_keeps : (p : Place) (op : UpdateOp) (e : Expression) (s : Spot) → Keeping (update_part sc p op e s)
  update_keeps p op e s =
      o_bind (Callable sc) 0 (aims_at sc c p s (static_updated p)) (λ t.
      o_bind (Callable sc) 0 (o_from (Callable sc) 0 (λ d h. h.1) (expr_keeps e needs.Held (lone_wants e (t.ty ∷ [])))) (λ vs.
      o_bind (Callable sc) 0 (value_kept e vs) (λ v.
      o_then (Callable sc) 0 (o_rules (Callable sc) 0 _ _) (λ u0.
      o_bind (Callable sc) 0 (o_variables (Callable sc) 0) (λ after.
      o_more (Callable sc) 0 (o_rules (Callable sc) 0 s _) (λ u d h. h.1.1.1))))))

  forget_keeps : (x : NameId) (s : Spot) → Keeping (forget_name sc x s)
  forget_keeps x s =
      o_bind (Callable sc) 0 (aims_at sc c (whole x) s 12) (λ t.
      given (Callable sc) {P = λ d. d ≡ c} (λ aim.
      o_then (Callable sc) 0 (o_rules (Callable sc) 0 s _) (λ u.
      record { runs = λ d h. kept_ended c.vars d.vars (variable x) t.owner aim.found h.0.0 (at_kept c d h.1) })))

  forget_value_keeps : (x : NameId) (e : Expression) (s : Spot) → Keeping (forget_as sc x e s)
  forget_value_keeps x e s =
      o_bind (Callable sc) 0 (aims_at sc c (whole x) s 13) (λ t.
      given (Callable sc) {P = λ d. d ≡ c} (λ aim.
      o_bind (Callable sc) 0 (expr_keeps e needs.Held (lone_wants e (t.ty ∷ []))) (λ vs.
      o_bind (Callable sc) 0 (value_kept e vs) (λ v.
      o_bind (Callable sc) 0 (o_variables (Callable sc) 0) (λ after.
      o_then (Callable sc) 0 (o_rules (Callable sc) 0 s _) (λ u.
      record { runs = λ d h. kept_ended c.vars d.vars (variable x) t.owner aim.found h.0.1.0 h.1.1 }))))))

  phase_keeps : (e : Expression) (s : Spot) → Keeping (phase_of sc e s)
  phase_keeps e s =
      o_then (Callable sc) 0 (o_names (Callable sc) 0 sc e) (λ u. o_then (Callable sc) 0 (k_angle (Callable sc) (at e) (angle_of sc.statics e)) (λ u0.
      o_more (Callable sc) 0 (o_rules (Callable sc) 0 s _) (λ u1 d h. at_kept c d h.1)))

  part_keeps : (p : Place) (e : Expression) (s : Spot) → Keeping (assign_part sc p e s)
  part_keeps p e s =
      o_bind (Callable sc) 0 (aims_at sc c p s 17) (λ t.
      given (Callable sc) {P = λ d. d ≡ c} (λ aim.
      o_bind (Callable sc) 0 (o_variables (Callable sc) 0) (λ vars.
      o_bind (Callable sc) 0 (o_from (Callable sc) 0 (λ d h. h.0 ∙ ap (λ (x : Context). x.vars) h.1) (k_place (Callable sc) {F = vars ≡ c.vars})) (λ n.
      given (Callable sc) {P = λ d. Unit {0}} (λ same.
      o_then (Callable sc) 0 (o_from (Callable sc) 0 (λ d h. kept_here (vars ++ taken_out t n ∷ [])) (k_put (Callable sc) (AllKept (vars ++ taken_out t n ∷ [])) (vars ++ taken_out t n ∷ []))) (λ u.
      o_bind (Callable sc) 0 (expr_kept (vars ++ taken_out t n ∷ []) e (lone_need e needs.Consumed) []) (λ vs.
      o_then (Callable sc) 0 (o_rules (Callable sc) 0 (at e) ((is_tuple e, 3) ∷ [])) (λ u0.
      o_then (Callable sc) 0 (k_one_suits (Callable sc) e t.ty vs) (λ u1.
      o_bind (Callable sc) 0 (o_variables (Callable sc) 0) (λ after.
      o_then (Callable sc) 0 (o_rules (Callable sc) 0 s _) (λ u2.
      record {
        runs = λ d h.
            subst (λ l. AllKept l (with_origin (some_linear vs) (take (length vars) after) t.owner.part)) same
            (subst (λ l. AllKept vars (with_origin (some_linear vs) (take (length vars) l) t.owner.part)) (sym h.1.0)
            (kept_given (some_linear vs) vars (taken_out t n ∷ []) d.vars (variable (place_name p)) t.owner (ap (λ l. find_var l (variable (place_name p))) same ∙ aim.found) h.0.0 h.1.1.1));
      })))))))))))

  returned_keeps : (e : Expression) (s : Spot) → Keeping (stmt (return_value e s) sc)
  returned_keeps e s = o_then (Callable sc) 0 (s_count (Callable sc) 0) (λ u. o_then (Callable sc) 0 (k_any (Callable sc) 0 (returned e sc)) (λ u0. o_fail (Callable sc) 0 _))

  call_keeps : (e : Expression) (s : Spot) → Keeping (stmt (call e s) sc)
  call_keeps e s = o_then (Callable sc) 0 (s_count (Callable sc) 0) (λ u. o_bind (Callable sc) 0 (expr_keeps e needs.Consumed []) (λ vs. o_more (Callable sc) 0 (o_rules (Callable sc) 0 s _) (λ u0 d h. h.1)))

-- ---- statements

keeping_settles : (st : Statement) (sc : Scope) → ((c : Context) → Keeping sc c (stmt st sc)) → Settling sc (stmt st sc)
keeping_settles st sc k c h =
    gives-more (Callable sc) 0 (λ r. AllKept c.vars r.1.vars × Sole c.next (λ p. 0) r.1) (λ r. Settles sc c r.1) (stmt st sc c)
    (gives_both (Callable sc) (λ r. AllKept c.vars r.1.vars) (λ r. Sole c.next (λ p. 0) r.1) (stmt st sc c) ((k c).runs c refl) ((s_stmt st (Callable sc) c.next sc (λ i s x. x.1)).runs c h.sole))
    (λ r x. kept_settles sc c r.1 h x.0 x.1)

pub update_settles : (p : Place) (op : UpdateOp) (e : Expression) (s : Spot) (sc : Scope) → Settling sc (stmt (update p op e s) sc)
update_settles p op e s sc = keeping_settles (update p op e s) sc (λ c. o_then (Callable sc) 0 (s_count (Callable sc) 0) (λ u. update_keeps sc c p op e s))

pub forget_settles : (x : NameId) (s : Spot) (sc : Scope) → Settling sc (stmt (forget x s) sc)
forget_settles x s sc = keeping_settles (forget x s) sc (λ c. o_then (Callable sc) 0 (s_count (Callable sc) 0) (λ u. forget_keeps sc c x s))

pub forget_value_settles : (x : NameId) (e : Expression) (s : Spot) (sc : Scope) → Settling sc (stmt (forget_value x e s) sc)
forget_value_settles x e s sc = keeping_settles (forget_value x e s) sc (λ c. o_then (Callable sc) 0 (s_count (Callable sc) 0) (λ u. forget_value_keeps sc c x e s))

pub phase_settles : (e : Expression) (s : Spot) (sc : Scope) → Settling sc (stmt (phase e s) sc)
phase_settles e s sc = keeping_settles (phase e s) sc (λ c. o_then (Callable sc) 0 (s_count (Callable sc) 0) (λ u. phase_keeps sc c e s))

pub call_settles : (e : Expression) (s : Spot) (sc : Scope) → Settling sc (stmt (call e s) sc)
call_settles e s sc = keeping_settles (call e s) sc (λ c. call_keeps sc c e s)

pub return_nothing_settles : (s : Spot) (sc : Scope) → Settling sc (stmt (return_nothing s) sc)
return_nothing_settles s sc = keeping_settles (return_nothing s) sc (λ c. o_then (Callable sc) 0 (s_count (Callable sc) 0) (λ u. o_fail (Callable sc) 0 _))

pub return_value_settles : (e : Expression) (s : Spot) (sc : Scope) → Settling sc (stmt (return_value e s) sc)
return_value_settles e s sc = keeping_settles (return_value e s) sc (λ c. returned_keeps sc c e s)

pub part_settles : (x : NameId) (i e : Expression) (s : Spot) (sc : Scope) → Settling sc (stmt (assign (part x i) e s) sc)
part_settles x i e s sc = keeping_settles (assign (part x i) e s) sc (λ c. o_then (Callable sc) 0 (s_count (Callable sc) 0) (λ u. part_keeps sc c (part x i) e s))

pub part_of_part_settles : (x : NameId) (i j e : Expression) (s : Spot) (sc : Scope) → Settling sc (stmt (assign (part_of_part x i j) e s) sc)
part_of_part_settles x i j e s sc = keeping_settles (assign (part_of_part x i j) e s) sc (λ c. o_then (Callable sc) 0 (s_count (Callable sc) 0) (λ u. part_keeps sc c (part_of_part x i j) e s))
