-- The parts of a statement lie below it, and the last of some statements is read behind the others.
use Rattle.std.proofs.Common.{◌≡◌, refl, ℕ, suc, ◌<◌, ◌≤◌, ◌-◌, List, [], ◌∷◌, ◌++◌, ◌∙◌, sym, ap, subst, length, take, get_or, arith}
use Rattle.std.proofs.Math.Seq.{take-suc, take-length}
use Rattle.std.specs.Prelude.{Option, Some, None, IfSome, option_map}
use Rattle.silq_tree.specs.declared.node.ExprId.{ExprId}
use Rattle.silq_tree.specs.declared.node.StmtId.{StmtId}
use Rattle.silq_tree.specs.declared.node.NameId.{NameId}
use Rattle.silq_tree.specs.declared.node.Spot.{Spot}
use Rattle.silq_tree.specs.declared.node.Stmt.TheVariants as nodes
use Rattle.silq_tree.specs.Children.{AreExprsBelow, AreStmtsBelow, listed}
use Rattle.silq_tree.specs.Standing.{statements_of, stmt_grown}
use Rattle.silq_tree.specs.Syntax.{Expression, Statement, Statements}
use Rattle.silq_tree.proofs.Lists.{stmts_below_front, stmts_below_back}
use Rattle.silq_types.specs.declared.values.Value.{Value}
use Rattle.check_scope.specs.Walk.{Counts, Checker}
use Rattle.check_scope.specs.Context.{Scope}
use Rattle.check_scope.specs.Library.{Shelf}
use Rattle.check_scope.specs.State.{State, scope_in}
use Rattle.check_scope.specs.declared.fault.CheckFault.{CheckFault}
use Rattle.check_fun.specs.Counting.{Runs, Fails, checker_at}
use Rattle.check_fun.specs.Statement.{stmts, body}
use Rattle.check_fun.specs.Stepping.{stmt_step, forget_step, last_of}
use Rattle.check_fun.proofs.BodySteps.{fails_body_before, fails_body_last, runs_body}
use Rattle.check_fun.proofs.Stepped.{same_scope_after, same_checker_after}

pub listed_some : (n : ℕ) (v : Option ExprId) → AreExprsBelow n (listed v) → IfSome v (λ e. e.number < n)
listed_some n (Some e) b = b.0
listed_some n None b = b

module _ (at : ExprId → Expression) (stmt_of : StmtId → Statement) (name : NameId) (s : Spot) (sc : Scope) where
  forget_grown : (v : Option ExprId) → stmt_step (stmt_grown at stmt_of (nodes.Forget name v s)) sc ≡ forget_step sc name (option_map at v) s
  forget_grown (Some e) = refl
  forget_grown None = refl

  module _ (check : Checker) (st : Statement) (v : Option ExprId) (old : State) (c : Counts) (is : st ≡ stmt_grown at stmt_of (nodes.Forget name v s)) where
    pub runs_forget_step : (now : State) (d : Counts) → Runs check (forget_step sc name (option_map at v) s) old c tt now d → Runs check (stmt_step st sc) old c tt now d
    runs_forget_step now d r = subst (λ m. Runs check m old c tt now d) (sym (ap (λ x. stmt_step x sc) is ∙ forget_grown v)) r

    pub fails_forget_step : (f : CheckFault) → Fails check (forget_step sc name (option_map at v) s) old c f → Fails check (stmt_step st sc) old c f
    fails_forget_step f r = subst (λ m. Fails check m old c f) (sym (ap (λ x. stmt_step x sc) is ∙ forget_grown v)) r

-- ---- the last of some statements

last_view : (ids : List StmtId) (d : StmtId) → 1 ≤ length ids → ids ≡ take (length ids - 1) ids ++ get_or ids (length ids - 1) d ∷ []
last_view ids d l =
    let e : suc (length ids - 1) ≡ length ids = omega arith in
    let m : length ids - 1 < length ids = omega arith in
    sym (take-length ids) ∙ ap (λ n. take n ids) (sym e) ∙ take-suc ids (length ids - 1) d m

pub before_below : (n : ℕ) (ids : List StmtId) (d : StmtId) → 1 ≤ length ids → AreStmtsBelow n ids → AreStmtsBelow n (take (length ids - 1) ids)
before_below n ids d l b = stmts_below_front n (take (length ids - 1) ids) (get_or ids (length ids - 1) d ∷ []) (subst (λ (is : List StmtId). AreStmtsBelow n is) (last_view ids d l) b)

pub last_below : (n : ℕ) (ids : List StmtId) (d : StmtId) → 1 ≤ length ids → AreStmtsBelow n ids → (get_or ids (length ids - 1) d).number < n
last_below n ids d l b = (stmts_below_back n (take (length ids - 1) ids) (get_or ids (length ids - 1) d ∷ []) (subst (λ (is : List StmtId). AreStmtsBelow n is) (last_view ids d l) b)).0

module _ (l : Shelf) (at : ExprId → Expression) (stmt_of : StmtId → Statement) (ids : List StmtId) (d : StmtId) (some : 1 ≤ length ids) (old : State) (c : Counts) where
  pub fails_before : (f : CheckFault) → Fails (checker_at l old) (stmts (statements_of at stmt_of (take (length ids - 1) ids)) (scope_in l old)) old c f → Fails (checker_at l old) (body (statements_of at stmt_of ids) (scope_in l old)) old c f
  fails_before f q = subst (λ (is : List StmtId). Fails (checker_at l old) (body (statements_of at stmt_of is) (scope_in l old)) old c f) (sym (last_view ids d some))
      (fails_body_before (checker_at l old) at stmt_of (take (length ids - 1) ids) (get_or ids (length ids - 1) d) (scope_in l old) old c f q)

  module _ (mid : State) (e : Counts) (q : Runs (checker_at l old) (stmts (statements_of at stmt_of (take (length ids - 1) ids)) (scope_in l old)) old c tt mid e) where
    pub fails_last : (f : CheckFault) → Fails (checker_at l mid) (last_of (stmt_of (get_or ids (length ids - 1) d)) (scope_in l mid)) mid e f → Fails (checker_at l old) (body (statements_of at stmt_of ids) (scope_in l old)) old c f
    fails_last f r = subst (λ (is : List StmtId). Fails (checker_at l old) (body (statements_of at stmt_of is) (scope_in l old)) old c f) (sym (last_view ids d some))
        (fails_body_last (checker_at l old) at stmt_of (take (length ids - 1) ids) (get_or ids (length ids - 1) d) (scope_in l old) old c mid e q f
        (subst (λ sc. Fails (checker_at l old) (last_of (stmt_of (get_or ids (length ids - 1) d)) sc) mid e f) (same_scope_after l old mid q.stays)
        (subst (λ check. Fails check (last_of (stmt_of (get_or ids (length ids - 1) d)) (scope_in l mid)) mid e f) (same_checker_after l old mid q.stays) r)))

    pub runs_last : (vs : Option (List Value)) (now : State) (u : Counts) → Runs (checker_at l mid) (last_of (stmt_of (get_or ids (length ids - 1) d)) (scope_in l mid)) mid e vs now u → Runs (checker_at l old) (body (statements_of at stmt_of ids) (scope_in l old)) old c vs now u
    runs_last vs now u r = subst (λ (is : List StmtId). Runs (checker_at l old) (body (statements_of at stmt_of is) (scope_in l old)) old c vs now u) (sym (last_view ids d some))
        (runs_body (checker_at l old) at stmt_of (take (length ids - 1) ids) (get_or ids (length ids - 1) d) (scope_in l old) old c mid e q vs now u
        (subst (λ sc. Runs (checker_at l old) (last_of (stmt_of (get_or ids (length ids - 1) d)) sc) mid e vs now u) (same_scope_after l old mid q.stays)
        (subst (λ check. Runs check (last_of (stmt_of (get_or ids (length ids - 1) d)) (scope_in l mid)) mid e vs now u) (same_checker_after l old mid q.stays) r)))
