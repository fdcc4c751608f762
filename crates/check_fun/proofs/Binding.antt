-- Binding names in turn, and the rules of an assignment.
use Rattle.std.proofs.Common.{◌≡◌, refl, ℕ, ◌+◌, ◌<◌, ◌≤◌, Bool, true, false, List, [], ◌∷◌, ◌++◌, ◌∙◌, zero, suc, sym, ap, subst, drop, get_or, length, arith}
use Rattle.std.specs.Prelude.{not, ◌||◌, ◌==◌, Option, Some, None, IfSome, is_some, slice_get, Result, Err}
use Rattle.std.proofs.lemmas.List.{drop_more, at_drop_all}
use Rattle.silq_tree.specs.declared.node.NameId.{NameId}
use Rattle.silq_tree.specs.declared.node.Spot.{Spot}
use Rattle.silq_types.specs.Rules.{rule, Fault, name_taken, held_changed, condition_changed, linear_left, result_count}
use Rattle.silq_mean.specs.Written.{value_of}
use Rattle.silq_types.specs.declared.values.Value.{Value}
use Rattle.silq_types.specs.declared.values.Var.{Var}
use Rattle.check_scope.specs.Walk.{Counts, Checker, with_counts}
use Rattle.check_scope.specs.Context.{Scope, Context, rules, variables, put_variables, find_var, variable, is_in_condition}
use Rattle.check_fun.specs.Counting.{Runs, Fails}
use Rattle.check_scope.specs.Faults.{fault_as}
use Rattle.check_scope.specs.Library.{Shelf}
use Rattle.check_scope.specs.State.{State, scope_in, context_of}
use Rattle.check_fun.specs.Statement.{any_name, passes, is_held_var, is_live_linear, overwrites_linear, bind_name, bind_names, assigned}
use Rattle.check_fun.specs.Stepping.{next_bound}
use Rattle.check_scope.specs.declared.fault.CheckFault.{CheckFault}
use Rattle.check_scope.specs.declared.fault.CheckFault.TheVariants as checks
use Rattle.check_fun.proofs.Counted.{runs_bind, runs_then, runs_variables, fails_bind, fails_then, fails_later, fails_after}
use Rattle.check_fun.proofs.Stepped.{runs_rules, fails_rules, fails_rules_later, runs_kept, runs_put}

-- ---- in turn

-- from name i on the names are bound to the values from i on, as all are from the start
pub record Bound (old now : State) (xs : List NameId) (vs : List Value) (i : ℕ) : Type 0 where
  pub vars : bind_names now.vars (drop i xs) (drop i vs) ≡ bind_names old.vars xs vs
  pub over : overwrites_linear now.vars (drop i xs) (drop i vs) ≡ overwrites_linear old.vars xs vs
  pub only : now ≡ record old { vars = now.vars; start = now.start }

pub bound_first : (old : State) (xs : List NameId) (vs : List Value) → Bound old old xs vs 0
bound_first old xs vs = record { vars = refl; over = refl; only = refl }

none_bound : (vars : List Var) (vs : List Value) → bind_names vars [] vs ≡ vars
none_bound vars [] = refl
none_bound vars (v ∷ vs) = refl

none_over : (vars : List Var) (vs : List Value) → overwrites_linear vars [] vs ≡ false
none_over vars [] = refl
none_over vars (v ∷ vs) = refl

pub bound_last : (old now : State) (xs : List NameId) (vs : List Value) (i : ℕ) → length xs ≤ i → Bound old now xs vs i → now ≡ record old { vars = bind_names old.vars xs vs; start = now.start }
bound_last old now xs vs i l b =
    let e : now.vars ≡ bind_names old.vars xs vs = sym (at_drop_all (λ ys. bind_names now.vars ys (drop i vs)) xs i l ∙ none_bound now.vars (drop i vs)) ∙ b.vars in
    b.only ∙ ap (λ (ws : List Var). record old { vars = ws; start = now.start }) e

pub bound_kept : (old now : State) (xs : List NameId) (vs : List Value) (i : ℕ) → length xs ≤ i → Bound old now xs vs i → overwrites_linear old.vars xs vs ≡ false
bound_kept old now xs vs i l b = sym b.over ∙ at_drop_all (λ ys. overwrites_linear now.vars ys (drop i vs)) xs i l ∙ none_over now.vars (drop i vs)

or_true : (a b : Bool) → a ≡ true → (a || b) ≡ true
or_true true b e = refl
or_true false b e = absurd (grind (arith, e))

or_false : (a b : Bool) → a ≡ false → (a || b) ≡ b
or_false true b e = absurd (grind (arith, e))
or_false false b e = refl

abbrev lost : List Var → NameId → Bool
lost vars x = passes is_live_linear (find_var vars (variable x))

over_here : (vars : List Var) (x : NameId) (xs : List NameId) (vs : List Value) → lost vars x ≡ true → overwrites_linear vars (x ∷ xs) vs ≡ true
over_here vars x xs [] e = or_true (lost vars x) (overwrites_linear vars xs []) e
over_here vars x xs (v ∷ vs) e = or_true (lost vars x) (overwrites_linear (bind_name vars x v) xs vs) e

pub bound_lost : (old now : State) (xs : List NameId) (vs : List Value) (i : ℕ) (d : NameId) → i < length xs → Bound old now xs vs i → lost now.vars (get_or xs i d) ≡ true → overwrites_linear old.vars xs vs ≡ true
bound_lost old now xs vs i d l b e = sym b.over ∙ ap (λ ys. overwrites_linear now.vars ys (drop i vs)) (drop_more xs i d l) ∙ over_here now.vars (get_or xs i d) (drop (i + 1) xs) (drop i vs) e

names_none : (vars : List Var) (xs : List NameId) → bind_names vars xs [] ≡ vars
names_none vars [] = refl
names_none vars (x ∷ xs) = refl

names_next : (vars : List Var) (x : NameId) (xs : List NameId) (vs : List Value) (i : ℕ) → bind_names vars (x ∷ xs) (drop i vs) ≡ bind_names (next_bound vars x (slice_get vs i)) xs (drop (i + 1) vs)
names_next vars x xs [] zero = sym (names_none vars xs)
names_next vars x xs [] (suc i) = let e : suc i + 1 ≡ suc (i + 1) = omega arith in rw e (sym (names_none vars xs))
names_next vars x xs (v ∷ vs) zero = refl
names_next vars x xs (v ∷ vs) (suc i) = let e : suc i + 1 ≡ suc (i + 1) = omega arith in rw e (names_next vars x xs vs i)

over_next : (vars : List Var) (x : NameId) (xs : List NameId) (vs : List Value) (i : ℕ) → overwrites_linear vars (x ∷ xs) (drop i vs) ≡ (lost vars x || overwrites_linear (next_bound vars x (slice_get vs i)) xs (drop (i + 1) vs))
over_next vars x xs [] zero = refl
over_next vars x xs [] (suc i) = let e : suc i + 1 ≡ suc (i + 1) = omega arith in rw e refl
over_next vars x xs (v ∷ vs) zero = refl
over_next vars x xs (v ∷ vs) (suc i) = let e : suc i + 1 ≡ suc (i + 1) = omega arith in rw e (over_next vars x xs vs i)

pub bound_more : (old mid now : State) (xs : List NameId) (vs : List Value) (i : ℕ) (d : NameId) → i < length xs → Bound old mid xs vs i → lost mid.vars (get_or xs i d) ≡ false
    → now ≡ record mid { vars = next_bound mid.vars (get_or xs i d) (slice_get vs i); start = now.start } → Bound old now xs vs (i + 1)
bound_more old mid now xs vs i d l b free is =
    let x : NameId = get_or xs i d in
    let next : List Var = next_bound mid.vars x (slice_get vs i) in
    let same : now.vars ≡ next = ap (λ (s : State). s.vars) is in
    record {
      vars = ap (λ ws. bind_names ws (drop (i + 1) xs) (drop (i + 1) vs)) same ∙ sym (names_next mid.vars x (drop (i + 1) xs) vs i) ∙ sym (ap (λ ys. bind_names mid.vars ys (drop i vs)) (drop_more xs i d l)) ∙ b.vars;
      over = ap (λ ws. overwrites_linear ws (drop (i + 1) xs) (drop (i + 1) vs)) same
          ∙ sym (or_false (lost mid.vars x) (overwrites_linear next (drop (i + 1) xs) (drop (i + 1) vs)) free)
          ∙ sym (over_next mid.vars x (drop (i + 1) xs) vs i) ∙ sym (ap (λ ys. overwrites_linear mid.vars ys (drop i vs)) (drop_more xs i d l)) ∙ b.over;
      only = is ∙ ap (λ (s : State). record s { vars = next; start = now.start }) b.only ∙ ap (λ (ws : List Var). record old { vars = ws; start = now.start }) (sym same);
    }

-- ---- an assignment

first_rule : (check : Checker) (d : ℕ) (s : Spot) (b : Bool) (r : Bool × ℕ) (at : Context) (c : Counts) (h : ℕ) (first : Fault) → b ≡ true → first ≡ rule linear_left s → with_counts check d (rules s ((b, linear_left) ∷ r ∷ []) at) c h ≡ Err first
unfolding rules
first_rule check d s b r at c h first e q = rw (e, q) refl

module _ (check : Checker) (l : Shelf) (s : Spot) (xs : List NameId) (vs : List Value) (old : State) (c : Counts) where
  -- its first three rules, and the last two
  abbrev pub may_be_bound : List (Bool × ℕ)
  may_be_bound = (any_name (λ x. is_some (value_of old.statics x)) xs, name_taken) ∷ (any_name (λ x. passes is_held_var (find_var old.vars (variable x))) xs, held_changed) ∷ (any_name (λ x. is_in_condition old.held (variable x)) xs, condition_changed) ∷ []

  abbrev pub are_bound : List (Bool × ℕ)
  are_bound = (overwrites_linear old.vars xs vs, linear_left) ∷ (not (length xs == length vs), result_count) ∷ []

  pub fails_may : (f : CheckFault) → Fails check (rules s may_be_bound) old c f → Fails check (assigned (scope_in l old) s xs vs) old c f
  fails_may f r =
      fails_later check variables _ old old c c old.vars f (runs_variables check old c)
      (fails_then check (rules s (may_be_bound ++ are_bound)) (put_variables (bind_names old.vars xs vs)) old c f (fails_rules check s may_be_bound are_bound old c f r))

  pub fails_bound : (f : CheckFault) → Runs check (rules s may_be_bound) old c tt old c → Fails check (rules s are_bound) old c f → Fails check (assigned (scope_in l old) s xs vs) old c f
  fails_bound f r q =
      fails_later check variables _ old old c c old.vars f (runs_variables check old c)
      (fails_then check (rules s (may_be_bound ++ are_bound)) (put_variables (bind_names old.vars xs vs)) old c f (fails_rules_later check s may_be_bound are_bound old c f r q))

  pub fails_lost : (f : CheckFault) → Runs check (rules s may_be_bound) old c tt old c → IfSome (fault_as f) (λ first. (overwrites_linear old.vars xs vs ≡ true) × (first ≡ rule linear_left s)) → Fails check (assigned (scope_in l old) s xs vs) old c f
  fails_lost f r h = fails_bound f r (record { runs = lost_rule (fault_as f) h })
    where
      lost_rule : (o : Option Fault) → IfSome o (λ first. (overwrites_linear old.vars xs vs ≡ true) × (first ≡ rule linear_left s)) → IfSome o (λ first. with_counts check old.depth (rules s are_bound (context_of old)) c old.height ≡ Err first)
      lost_rule None h = tt
      lost_rule (Some first) h = first_rule check old.depth s (overwrites_linear old.vars xs vs) (not (length xs == length vs), result_count) (context_of old) c old.height first h.0 h.1

  pub fails_count : (f : CheckFault) → Runs check (rules s may_be_bound) old c tt old c → overwrites_linear old.vars xs vs ≡ false → Fails check (rules s ((not (length xs == length vs), result_count) ∷ [])) old c f → Fails check (assigned (scope_in l old) s xs vs) old c f
  fails_count f r k q = fails_bound f r (fails_rules_later check s ((overwrites_linear old.vars xs vs, linear_left) ∷ []) ((not (length xs == length vs), result_count) ∷ []) old c f (runs_kept check s (overwrites_linear old.vars xs vs) linear_left old c k) q)

  pub runs_assigned : (now : State) → Runs check (rules s may_be_bound) old c tt old c → overwrites_linear old.vars xs vs ≡ false → Runs check (rules s ((not (length xs == length vs), result_count) ∷ [])) old c tt old c
      → now ≡ record old { vars = bind_names old.vars xs vs; start = now.start } → Runs check (assigned (scope_in l old) s xs vs) old c tt now c
  runs_assigned now r k q is =
      runs_bind check variables _ old old now c c c old.vars tt (runs_variables check old c)
      (runs_then check (rules s (may_be_bound ++ are_bound)) (put_variables (bind_names old.vars xs vs)) old old now c c c tt tt
      (runs_rules check s may_be_bound are_bound old c r
      (runs_rules check s ((overwrites_linear old.vars xs vs, linear_left) ∷ []) ((not (length xs == length vs), result_count) ∷ []) old c (runs_kept check s (overwrites_linear old.vars xs vs) linear_left old c k) q))
      (runs_put check (bind_names old.vars xs vs) old now c now.start is))
