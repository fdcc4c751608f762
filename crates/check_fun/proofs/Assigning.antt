-- The steps of an assignment.
use Rattle.std.proofs.Common.{◌≡◌, refl, ℕ, Bool, true, false, List, [], ◌∷◌, ◌++◌, ◌∙◌, sym, ap, subst, length, take, arith}
use Rattle.std.specs.Prelude.{cond, Option, Some, None, Result, Ok}
use Rattle.silq_tree.specs.declared.node.NameId.{NameId}
use Rattle.silq_tree.specs.declared.node.Spot.{Spot}
use Rattle.silq_tree.specs.Syntax.{Expression}
use Rattle.silq_types.specs.Rules.{wrong_type}
use Rattle.silq_types.specs.Types.{at}
use Rattle.silq_types.specs.declared.values.Origin.TheVariants.{Linear}
use Rattle.silq_types.specs.declared.values.Part.{Part}
use Rattle.silq_types.specs.declared.values.Value.{Value}
use Rattle.silq_types.specs.declared.values.Var.{Var}
use Rattle.check_scope.specs.Walk.{Counts, Checker, answer, with_counts}
use Rattle.check_scope.specs.Context.{Scope, Context, Check, rules, put_variables, find_var, replace, same_part}
use Rattle.check_fun.specs.Counting.{Stays, Runs, Fails}
use Rattle.check_expr.specs.Expression.{expr, is_tuple, lone_need}
use Rattle.check_scope.specs.Library.{Shelf}
use Rattle.check_scope.specs.State.{State, scope_in, context_of}
use Rattle.check_fun.specs.Statement.{assign_name, assigned, made_linear, with_origin}
use Rattle.check_fun.specs.Stepping.{spread_to}
use Rattle.check_scope.specs.declared.fault.CheckFault.{CheckFault}
use Rattle.silq_types.specs.declared.need.Need.{Need}
use Rattle.silq_types.specs.declared.need.Need.TheVariants as needs
use Rattle.check_expr.proofs.Alike.{same_part_refl, some_same}
use Rattle.check_expr.proofs.Owners.{found_part}
use Rattle.check_fun.proofs.Counted.{runs_bind, runs_then, fails_bind, fails_then, fails_later, fails_after}
use Rattle.check_fun.proofs.Stepped.{same_scope_after, runs_put}

module _ (check : Checker) (l : Shelf) (x : NameId) (e : Expression) (s : Spot) (old : State) (c : Counts) (need : Need) (b : Bool) (spot : Spot) (is_need : need ≡ cond b needs.Held needs.Consumed) (is_b : b ≡ is_tuple e) (is_spot : spot ≡ at e) where
  need_is : need ≡ lone_need e needs.Consumed
  need_is = is_need ∙ ap (λ (t : Bool). cond t needs.Held needs.Consumed) is_b

  pub fails_name_value : (f : CheckFault) → Fails check (expr e (scope_in l old) need []) old c f → Fails check (assign_name (scope_in l old) x e s) old c f
  fails_name_value f r = fails_bind check _ _ old c f (subst (λ (n : Need). Fails check (expr e (scope_in l old) n []) old c f) need_is r)

  module _ (vs : List Value) (mid : State) (d : Counts) (r : Runs check (expr e (scope_in l old) need []) old c vs mid d) where
    first : Runs check (expr e (scope_in l old) (lone_need e needs.Consumed) []) old c vs mid d
    first = subst (λ (n : Need). Runs check (expr e (scope_in l old) n []) old c vs mid d) need_is r

    pub fails_name_tuple : (f : CheckFault) → Fails check (rules spot ((b, wrong_type) ∷ [])) mid d f → Fails check (assign_name (scope_in l old) x e s) old c f
    fails_name_tuple f q = fails_later check _ _ old mid c d vs f first (fails_then check _ _ mid d f (subst (λ (t : Bool). Fails check (rules (at e) ((t, wrong_type) ∷ [])) mid d f) is_b (subst (λ (t : Spot). Fails check (rules t ((b, wrong_type) ∷ [])) mid d f) is_spot q)))

    kept : Runs check (rules spot ((b, wrong_type) ∷ [])) mid d tt mid d → Runs check (rules (at e) ((is_tuple e, wrong_type) ∷ [])) mid d tt mid d
    kept q = subst (λ (t : Bool). Runs check (rules (at e) ((t, wrong_type) ∷ [])) mid d tt mid d) is_b (subst (λ (t : Spot). Runs check (rules t ((b, wrong_type) ∷ [])) mid d tt mid d) is_spot q)

    pub fails_name_bound : (f : CheckFault) → Runs check (rules spot ((b, wrong_type) ∷ [])) mid d tt mid d → Fails check (assigned (scope_in l mid) s (x ∷ []) vs) mid d f → Fails check (assign_name (scope_in l old) x e s) old c f
    fails_name_bound f q a = fails_later check _ _ old mid c d vs f first (fails_after check _ _ mid mid d d tt f (kept q) (subst (λ (sc : Scope). Fails check (assigned sc s (x ∷ []) vs) mid d f) (same_scope_after l old mid r.stays) a))

    pub runs_name : (now : State) → Runs check (rules spot ((b, wrong_type) ∷ [])) mid d tt mid d → Runs check (assigned (scope_in l mid) s (x ∷ []) vs) mid d tt now d → Runs check (assign_name (scope_in l old) x e s) old c tt now d
    runs_name now q a = runs_bind check _ _ old mid now c d d vs tt first (runs_then check _ _ mid mid now d d d tt tt (kept q) (subst (λ (sc : Scope). Runs check (assigned sc s (x ∷ []) vs) mid d tt now d) (same_scope_after l old mid r.stays) a))

module _ (check : Checker) (l : Shelf) (xs : List NameId) (e : Expression) (s : Spot) (old mid : State) (c d : Counts) (vs : List Value) (r : Runs check (expr e (scope_in l old) needs.Consumed []) old c vs mid d) where
  pub fails_spread : (f : CheckFault) → Fails check (assigned (scope_in l mid) s xs vs) mid d f → Fails check (spread_to (scope_in l old) xs e s) old c f
  fails_spread f a = fails_later check _ _ old mid c d vs f r (subst (λ (sc : Scope). Fails check (assigned sc s xs vs) mid d f) (same_scope_after l old mid r.stays) a)

  pub runs_spread : (now : State) → Runs check (assigned (scope_in l mid) s xs vs) mid d tt now d → Runs check (spread_to (scope_in l old) xs e s) old c tt now d
  runs_spread now a = runs_bind check _ _ old mid now c d d vs tt r (subst (λ (sc : Scope). Runs check (assigned sc s xs vs) mid d tt now d) (same_scope_after l old mid r.stays) a)

-- ---- a variable that is Linear from here on

abbrev linear : Var → Var
linear v = record v { origin = Linear }

part_is : (p : Part) (w v : Var) → w ≡ v → same_part w.part v.part ≡ true
part_is p w v same = subst (λ (u : Var). same_part w.part u.part ≡ true) same (same_part_refl w.part)

made_here : (p : Part) (w v : Var) (ws : List Var) → w ≡ v → linear w ∷ ws ≡ cond (same_part w.part v.part) (linear v ∷ ws) (w ∷ replace ws (linear v))
made_here p w v ws same = ap (λ (u : Var). linear u ∷ ws) same ∙ sym (ap (λ (t : Bool). cond t (linear v ∷ ws) (w ∷ replace ws (linear v))) (part_is p w v same))

pub made_by_replace : (vars : List Var) (p : Part) (v : Var) → find_var vars p ≡ Some v → made_linear vars p ≡ replace vars (linear v)
made_by_replace [] p v e = refl
made_by_replace (w ∷ ws) p v e = go (same_part w.part p) refl e (made_by_replace ws p v)
  where
    go : (b : Bool) → same_part w.part p ≡ b → cond b (Some w) (find_var ws p) ≡ Some v → (find_var ws p ≡ Some v → made_linear ws p ≡ replace ws (linear v)) → cond b (linear w ∷ ws) (w ∷ made_linear ws p) ≡ cond (same_part w.part v.part) (linear v ∷ ws) (w ∷ replace ws (linear v))
    go true h e ih = made_here p w v ws (some_same w v e)
    go false h e ih =
        let other : same_part w.part v.part ≡ false = ap (same_part w.part) (found_part ws p v e) ∙ h in
        ap (λ vs. w ∷ vs) (ih e) ∙ sym (ap (λ (t : Bool). cond t (linear v ∷ ws) (w ∷ replace ws (linear v))) other)

pub made_none : (vars : List Var) (p : Part) → find_var vars p ≡ None → made_linear vars p ≡ vars
made_none [] p e = refl
made_none (w ∷ ws) p e = go (same_part w.part p) e (made_none ws p)
  where
    go : (b : Bool) → cond b (Some w) (find_var ws p) ≡ None → (find_var ws p ≡ None → made_linear ws p ≡ ws) → cond b (linear w ∷ ws) (w ∷ made_linear ws p) ≡ w ∷ ws
    go true e ih = absurd (grind (arith, e))
    go false e ih = ap (λ vs. w ∷ vs) (ih e)

pub runs_made : (check : Checker) (vars : List Var) (p : Part) (v : Var) (old now : State) (c : Counts) → find_var vars p ≡ Some v → Runs check (put_variables (replace vars (linear v))) old c tt now c → Runs check (put_variables (made_linear vars p)) old c tt now c
runs_made check vars p v old now c e r = subst (λ ws. Runs check (put_variables ws) old c tt now c) (sym (made_by_replace vars p v e)) r

pub runs_unmade : (check : Checker) (old : State) (p : Part) (c : Counts) → find_var old.vars p ≡ None → Runs check (put_variables (made_linear old.vars p)) old c tt old c
runs_unmade check old p c e = subst (λ ws. Runs check (put_variables ws) old c tt old c) (sym (made_none old.vars p e)) (runs_put check old.vars old old c old.start refl)

-- behind another change of the variables
pub runs_put_again : (check : Checker) (vars start : List Var) (old mid now : State) (c : Counts) (m : Check (Unit {0})) → mid ≡ record old { vars = vars; start = start } → ((a b : Context) → a.next ≡ b.next → m a ≡ m b) → Runs check m mid c tt now c → Runs check m old c tt now c
runs_put_again check vars start old mid now c m e same r = record {
  runs = subst (λ (s : State). with_counts check s.depth (m (context_of s)) c s.height ≡ Ok ((tt, context_of now), c, now.height) → with_counts check old.depth (m (context_of old)) c old.height ≡ Ok ((tt, context_of now), c, now.height)) (sym e) (λ h. subst (λ w. with_counts check old.depth w c old.height ≡ Ok ((tt, context_of now), c, now.height)) (same _ (context_of old) refl) h) r.runs;
  stays = subst (λ (s : State). Stays s now → Stays old now) (sym e) (λ k. record { this = k.this; results = k.results; depth = k.depth; statics = k.statics; held = k.held }) r.stays;
}

pub put_same : (vars : List Var) (a b : Context) → a.next ≡ b.next → put_variables vars a ≡ put_variables vars b
put_same vars a b e = ap (λ (n : ℕ). answer (tt, record { vars = vars; next = n })) e

pub runs_put_linear : (check : Checker) (b : Bool) (old mid now : State) (c : Counts) (n : ℕ) (p : Part) → b ≡ true → mid ≡ record old { vars = take n old.vars; start = take n old.vars } → Runs check (put_variables (made_linear mid.vars p)) mid c tt now c → Runs check (put_variables (with_origin b (take n old.vars) p)) old c tt now c
runs_put_linear check b old mid now c n p is_true e r =
    let vars : mid.vars ≡ take n old.vars = ap (λ (s : State). s.vars) e in
    rw is_true (runs_put_again check (take n old.vars) (take n old.vars) old mid now c (put_variables (made_linear (take n old.vars) p)) e (put_same (made_linear (take n old.vars) p)) (subst (λ (vs : List Var). Runs check (put_variables (made_linear vs p)) mid c tt now c) vars r))
