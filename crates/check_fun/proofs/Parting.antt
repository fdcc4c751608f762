-- The steps of an assignment to a part.
use Rattle.std.proofs.Common.{◌≡◌, ℕ, Bool, List, [], ◌∷◌, ◌++◌, ◌∙◌, sym, ap, subst, length}
use Rattle.std.specs.Prelude.{cond}
use Rattle.silq_tree.specs.declared.node.Spot.{Spot}
use Rattle.silq_tree.specs.Syntax.{Expression, Place}
use Rattle.silq_types.specs.Rules.{bad_part}
use Rattle.silq_types.specs.declared.values.Part.{Part}
use Rattle.silq_types.specs.declared.values.Value.{Value}
use Rattle.silq_types.specs.declared.values.Var.{Var}
use Rattle.check_scope.specs.Walk.{Counts, Checker}
use Rattle.check_scope.specs.Context.{Scope, Check, variables, put_variables, new_place}
use Rattle.check_fun.specs.Counting.{Stays, Runs, Fails, checker_at}
use Rattle.check_expr.specs.Expression.{expr, is_tuple, lone_need}
use Rattle.check_scope.specs.Library.{Shelf}
use Rattle.check_scope.specs.State.{State, scope_in}
use Rattle.check_fun.specs.Statement.{Target, target, taken_out, assign_part}
use Rattle.check_fun.specs.Stepping.{put_back}
use Rattle.check_scope.specs.declared.fault.CheckFault.{CheckFault}
use Rattle.silq_types.specs.declared.need.Need.{Need}
use Rattle.silq_types.specs.declared.need.Need.TheVariants as needs
use Rattle.check_fun.proofs.Counted.{stays_both, runs_bind, runs_then, runs_variables, fails_bind, fails_later, fails_after}
use Rattle.check_fun.proofs.Stepped.{same_scope_after, same_checker_after}

module _ (l : Shelf) (written : Place) (e : Expression) (s : Spot) (old : State) (c : Counts) (t : Target) (q : Runs (checker_at l old) (target (scope_in l old) written s bad_part) old c t old c)
    (p : ℕ) (fresh : State) (rf : Runs (checker_at l old) new_place old c p fresh c) (is_vars : fresh.vars ≡ old.vars)
    (out : State) (ra : Runs (checker_at l old) (put_variables (fresh.vars ++ taken_out t p ∷ [])) fresh c tt out c)
    (need : Need) (b : Bool) (is_need : need ≡ cond b needs.Held needs.Consumed) (is_b : b ≡ is_tuple e) where
  added : Runs (checker_at l old) (put_variables (old.vars ++ taken_out t p ∷ [])) fresh c tt out c
  added = subst (λ (vs : List Var). Runs (checker_at l old) (put_variables (vs ++ taken_out t p ∷ [])) fresh c tt out c) is_vars ra

  behind : Stays old out
  behind = stays_both rf.stays ra.stays

  need_is : need ≡ lone_need e needs.Consumed
  need_is = is_need ∙ ap (λ (u : Bool). cond u needs.Held needs.Consumed) is_b

  pub fails_part_value : (f : CheckFault) → Fails (checker_at l out) (expr e (scope_in l out) need []) out c f → Fails (checker_at l old) (assign_part (scope_in l old) written e s) old c f
  fails_part_value f r =
      let there : Fails (checker_at l old) (expr e (scope_in l old) (lone_need e needs.Consumed) []) out c f =
      subst (λ (n : Need). Fails (checker_at l old) (expr e (scope_in l old) n []) out c f) need_is
      (subst (λ (k : Checker). Fails k (expr e (scope_in l old) need []) out c f) (same_checker_after l old out behind)
      (subst (λ (sc : Scope). Fails (checker_at l out) (expr e sc need []) out c f) (same_scope_after l old out behind) r)) in
      fails_later (checker_at l old) _ _ old old c c t f q (fails_later (checker_at l old) variables _ old old c c old.vars f (runs_variables (checker_at l old) old c)
      (fails_later (checker_at l old) new_place _ old fresh c c p f rf (fails_after (checker_at l old) _ _ fresh out c c tt f added (fails_bind (checker_at l old) _ _ out c f there))))

  module _ (vs : List Value) (mid : State) (d : Counts) (r : Runs (checker_at l out) (expr e (scope_in l out) need []) out c vs mid d) (n : ℕ) (is_n : n ≡ length old.vars) where
    read : Runs (checker_at l old) (expr e (scope_in l old) (lone_need e needs.Consumed) []) out c vs mid d
    read =
        subst (λ (m : Need). Runs (checker_at l old) (expr e (scope_in l old) m []) out c vs mid d) need_is
        (subst (λ (k : Checker). Runs k (expr e (scope_in l old) need []) out c vs mid d) (same_checker_after l old out behind)
        (subst (λ (sc : Scope). Runs (checker_at l out) (expr e sc need []) out c vs mid d) (same_scope_after l old out behind) r))

    held_is : mid.held ≡ old.held
    held_is = (stays_both behind r.stays).held

    pub fails_part_back : (f : CheckFault) → Fails (checker_at l old) (put_back mid.held t n p e vs s) mid d f → Fails (checker_at l old) (assign_part (scope_in l old) written e s) old c f
    fails_part_back f k =
        let back : Fails (checker_at l old) (put_back old.held t (length old.vars) p e vs s) mid d f =
        subst (λ (h : List (List Part)). Fails (checker_at l old) (put_back h t (length old.vars) p e vs s) mid d f) held_is
        (subst (λ (m : ℕ). Fails (checker_at l old) (put_back mid.held t m p e vs s) mid d f) is_n k) in
        fails_later (checker_at l old) _ _ old old c c t f q (fails_later (checker_at l old) variables _ old old c c old.vars f (runs_variables (checker_at l old) old c)
        (fails_later (checker_at l old) new_place _ old fresh c c p f rf (fails_after (checker_at l old) _ _ fresh out c c tt f added (fails_later (checker_at l old) _ _ out mid c d vs f read back))))

    pub runs_part : (now : State) → Runs (checker_at l old) (put_back mid.held t n p e vs s) mid d tt now d → Runs (checker_at l old) (assign_part (scope_in l old) written e s) old c tt now d
    runs_part now k =
        let back : Runs (checker_at l old) (put_back old.held t (length old.vars) p e vs s) mid d tt now d =
        subst (λ (h : List (List Part)). Runs (checker_at l old) (put_back h t (length old.vars) p e vs s) mid d tt now d) held_is
        (subst (λ (m : ℕ). Runs (checker_at l old) (put_back mid.held t m p e vs s) mid d tt now d) is_n k) in
        runs_bind (checker_at l old) _ _ old old now c c d t tt q (runs_bind (checker_at l old) variables _ old old now c c d old.vars tt (runs_variables (checker_at l old) old c)
        (runs_bind (checker_at l old) new_place _ old fresh now c c d p tt rf (runs_then (checker_at l old) _ _ fresh out now c c d tt tt added (runs_bind (checker_at l old) _ _ out mid now c d d vs tt read back))))
