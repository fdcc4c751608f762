-- The steps of the end of a body.
use Rattle.std.proofs.Common.{◌≡◌, refl, ℕ, List, [], ◌∷◌, ◌++◌, ◌∙◌, sym, ap, subst, length}
use Rattle.std.specs.Prelude.{Option, Some, None, option_map}
use Rattle.silq_tree.specs.declared.node.ExprId.{ExprId}
use Rattle.silq_tree.specs.declared.node.Spot.{Spot}
use Rattle.silq_tree.specs.Syntax.{Expression, Statement, Statements, block}
use Rattle.silq_types.specs.declared.types.Ty.{Ty}
use Rattle.silq_types.specs.declared.values.Value.{Value}
use Rattle.check_scope.specs.Walk.{Counts, Checker}
use Rattle.check_scope.specs.Context.{Scope, Check, count_statement}
use Rattle.check_fun.specs.Counting.{Runs, Fails}
use Rattle.check_scope.specs.Library.{Shelf}
use Rattle.check_scope.specs.State.{State, scope_in}
use Rattle.check_fun.specs.Statement.{returned, stmt, body, end_from, results_or_fault, whole_body}
use Rattle.check_fun.specs.Stepping.{ended_step, has_count, last_of, last_step}
use Rattle.check_scope.specs.declared.fault.CheckFault.{CheckFault}
use Rattle.check_fun.proofs.Counted.{runs_back, runs_bind, runs_then, fails_bind, fails_then, fails_later, fails_after}

-- ---- the values of a `return` at the end

module _ (check : Checker) (l : Shelf) (e : Expression) (s : Spot) (old : State) (c : Counts) where
  pub fails_given : (f : CheckFault) → Fails check (returned e (scope_in l old)) old c f → Fails check (ended_step (Some e) s (scope_in l old)) old c f
  fails_given f q = fails_bind check _ _ old c f q

  module _ (vs : List Value) (mid : State) (d : Counts) (q : Runs check (returned e (scope_in l old)) old c vs mid d) where
    pub fails_given_count : (f : CheckFault) → Fails check (has_count s (length mid.results) vs) mid d f → Fails check (ended_step (Some e) s (scope_in l old)) old c f
    fails_given_count f r = fails_later check _ _ old mid c d vs f q (fails_then check _ _ mid d f (subst (λ (ts : List Ty). Fails check (has_count s (length ts) vs) mid d f) q.stays.results r))

    pub runs_given : Runs check (has_count s (length mid.results) vs) mid d tt mid d → Runs check (ended_step (Some e) s (scope_in l old)) old c (Some vs) mid d
    runs_given r = runs_bind check _ _ old mid mid c d d vs (Some vs) q (runs_then check _ _ mid mid mid d d d tt (Some vs) (subst (λ (ts : List Ty). Runs check (has_count s (length ts) vs) mid d tt mid d) q.stays.results r) (runs_back check (Some vs) mid d))

module _ (check : Checker) (l : Shelf) (s : Spot) (old : State) (c : Counts) where
  pub fails_nothing : (f : CheckFault) → Fails check (has_count s (length old.results) []) old c f → Fails check (ended_step None s (scope_in l old)) old c f
  fails_nothing f r = fails_then check _ _ old c f r

  pub runs_nothing : (vs : List Value) → vs ≡ [] → Runs check (has_count s (length old.results) []) old c tt old c → Runs check (ended_step None s (scope_in l old)) old c (Some vs) old c
  runs_nothing vs e r = rw e (runs_then check _ _ old old old c c c tt (Some []) r (runs_back check (Some []) old c))

-- ---- the last statement

module _ (check : Checker) (at : ExprId → Expression) (r : Option (Option ExprId × Spot)) (st : Statement) (sc : Scope) (old : State) (c : Counts) (e : last_of st sc ≡ last_step at r st sc) where
  module _ (value : Option ExprId) (s : Spot) (is : r ≡ Some (value, s)) where
    as_return : last_of st sc ≡ last_step at (Some (value, s)) st sc
    as_return = e ∙ ap (λ (o : Option (Option ExprId × Spot)). last_step at o st sc) is

    pub fails_last_count : (f : CheckFault) → Fails check count_statement old c f → Fails check (last_of st sc) old c f
    fails_last_count f q = subst (λ m. Fails check m old c f) (sym as_return) (fails_then check count_statement (ended_step (option_map at value) s sc) old c f q)

    pub fails_last_return : (d : Counts) (f : CheckFault) → Runs check count_statement old c tt old d → Fails check (ended_step (option_map at value) s sc) old d f → Fails check (last_of st sc) old c f
    fails_last_return d f q t = subst (λ m. Fails check m old c f) (sym as_return) (fails_after check count_statement (ended_step (option_map at value) s sc) old old c d tt f q t)

    pub runs_last_return : (d z : Counts) (vs : List Value) (now : State) → Runs check count_statement old c tt old d → Runs check (ended_step (option_map at value) s sc) old d (Some vs) now z → Runs check (last_of st sc) old c (Some vs) now z
    runs_last_return d z vs now q t = subst (λ m. Runs check m old c (Some vs) now z) (sym as_return) (runs_then check count_statement (ended_step (option_map at value) s sc) old old now c d z tt (Some vs) q t)

  module _ (is : r ≡ None) where
    as_other : last_of st sc ≡ last_step at None st sc
    as_other = e ∙ ap (λ (o : Option (Option ExprId × Spot)). last_step at o st sc) is

    pub fails_last_other : (f : CheckFault) → Fails check (stmt st sc) old c f → Fails check (last_of st sc) old c f
    fails_last_other f q = subst (λ m. Fails check m old c f) (sym as_other) (fails_then check (stmt st sc) _ old c f q)

    pub runs_last_other : (now : State) (d : Counts) → Runs check (stmt st sc) old c tt now d → Runs check (last_of st sc) old c None now d
    runs_last_other now d q = subst (λ m. Runs check m old c None now d) (sym as_other) (runs_then check (stmt st sc) _ old now now c d d tt None q (runs_back check None now d))

-- ---- a whole body

module _ (check : Checker) (l : Shelf) (ss : Statements) (end : Spot) (old : State) (c : Counts) where
  pub fails_whole : (f : CheckFault) → Fails check (body ss (scope_in l old)) old c f → Fails check (whole_body (block ss end) (scope_in l old)) old c f
  fails_whole f q = fails_bind check _ _ old c f q

  module _ (found : Option (List Value)) (mid : State) (d : Counts) (q : Runs check (body ss (scope_in l old)) old c found mid d) where
    pub fails_whole_end : (f : CheckFault) → Fails check (end_from 0 end) mid d f → Fails check (whole_body (block ss end) (scope_in l old)) old c f
    fails_whole_end f r = fails_later check _ _ old mid c d found f q (fails_then check (end_from 0 end) _ mid d f r)

    module _ (now : State) (r : Runs check (end_from 0 end) mid d tt now d) where
      pub fails_whole_results : (f : CheckFault) → Fails check (results_or_fault end now.results found) now d f → Fails check (whole_body (block ss end) (scope_in l old)) old c f
      fails_whole_results f t = fails_later check _ _ old mid c d found f q (fails_after check (end_from 0 end) _ mid now d d tt f r (subst (λ (ts : List Ty). Fails check (results_or_fault end ts found) now d f) (r.stays.results ∙ q.stays.results) t))

      pub runs_whole : (vs : List Value) → Runs check (results_or_fault end now.results found) now d vs now d → Runs check (whole_body (block ss end) (scope_in l old)) old c vs now d
      runs_whole vs t = runs_bind check _ _ old mid now c d d found vs q (runs_then check (end_from 0 end) _ mid now now d d d tt vs r (subst (λ (ts : List Ty). Runs check (results_or_fault end ts found) now d vs now d) (r.stays.results ∙ q.stays.results) t))
