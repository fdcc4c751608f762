-- The steps of returned values.
use Rattle.std.proofs.Common.{◌≡◌, refl, ℕ, Bool, true, false, List, [], ◌∷◌, ◌∙◌, sym, ap, subst, length, arith}
use Rattle.std.specs.Prelude.{cond, not, ◌==◌, Option, Some, None, Result, Ok, Err, OnOk, IfOk, IfErr}
use Rattle.silq_tree.specs.declared.node.Spot.{Spot}
use Rattle.silq_tree.specs.Syntax.{Expression}
use Rattle.silq_types.specs.Rules.{Fault, rule, wrong_type, result_count, bad_return}
use Rattle.silq_types.specs.Types.{at}
use Rattle.silq_mean.specs.Written.{is_empty}
use Rattle.silq_types.specs.declared.types.Ty.{Ty}
use Rattle.silq_types.specs.declared.values.Value.{Value}
use Rattle.check_scope.specs.Walk.{Counts, Checker, with_counts}
use Rattle.check_scope.specs.Context.{Context, Scope, Check, fail, rules}
use Rattle.check_fun.specs.Counting.{Runs, Fails}
use Rattle.check_expr.specs.Expression.{expr, is_tuple, single, single_of, suits}
use Rattle.check_scope.specs.Library.{Shelf}
use Rattle.check_scope.specs.State.{State, scope_in, context_of}
use Rattle.check_fun.specs.Statement.{first_type, returned, returned_one}
use Rattle.check_fun.specs.Stepping.{lone_value, misplaced_step, unused_step}
use Rattle.check_scope.specs.declared.fault.CheckFault.{CheckFault}
use Rattle.check_scope.specs.declared.fault.CheckFault.TheVariants as checks
use Rattle.silq_types.specs.declared.need.Need.TheVariants as needs
use Rattle.check_fun.proofs.Counted.{runs_back, runs_bind, runs_then, fails_bind, fails_then, fails_later, fails_after}
use Rattle.check_fun.proofs.Stepped.{fails_broken, runs_tested, fails_tested}

-- ---- one value

alone_in : List Value → Result ((Value × Context) × Counts × ℕ) Fault → List Value
alone_in vs (Ok r) = r.0.0 ∷ []
alone_in vs (Err e) = vs

single_of_is : (check : Checker) (d : ℕ) (e : Expression) (vs : List Value) (v : Value) (x : Context) (c : Counts) (h : ℕ) → with_counts check d (single_of e vs x) c h ≡ Ok ((v, x), c, h) → vs ≡ v ∷ []
unfolding alone_in
single_of_is check d e [] v x c h q = absurd (grind (arith, q))
single_of_is check d e (w ∷ []) v x c h q = ap (alone_in []) q
single_of_is check d e (w ∷ u ∷ us) v x c h q = absurd (grind (arith, q))

single_is : (check : Checker) (e : Expression) (vs : List Value) (v : Value) (s : State) (c : Counts) → Runs check (single e vs) s c v s c → vs ≡ v ∷ []
single_is check e vs v s c r = go (is_tuple e) r.runs
  where
    go : (b : Bool) → with_counts check s.depth (cond b (fail (rule wrong_type (at e))) (single_of e vs) (context_of s)) c s.height ≡ Ok ((v, context_of s), c, s.height) → vs ≡ v ∷ []
    go true q = absurd (grind (arith, q))
    go false q = single_of_is check s.depth e vs v (context_of s) c s.height q

module _ (check : Checker) (e : Expression) (wants : List Ty) (vs : List Value) (s : State) (c : Counts) where
  pub fails_lone : (f : CheckFault) → Fails check (single e vs) s c f → Fails check (lone_value e wants vs) s c f
  fails_lone f q = fails_bind check _ _ s c f q

  pub fails_lone_suits : (v : Value) (f : CheckFault) → Runs check (single e vs) s c v s c → Fails check (suits e wants v) s c f → Fails check (lone_value e wants vs) s c f
  fails_lone_suits v f q r = fails_later check _ _ s s c c v f q (fails_then check _ _ s c f r)

  pub runs_lone : (v : Value) → Runs check (single e vs) s c v s c → Runs check (suits e wants v) s c tt s c → Runs check (lone_value e wants vs) s c vs s c
  runs_lone v q r = subst (λ ws. Runs check (lone_value e wants vs) s c ws s c) (sym (single_is check e vs v s c q)) (runs_bind check _ _ s s s c c c v (v ∷ []) q (runs_then check _ _ s s s c c c tt (v ∷ []) r (runs_back check (v ∷ []) s c)))

module _ (check : Checker) (l : Shelf) (e : Expression) (old : State) (c : Counts) (wants : List Ty) (is_wants : wants ≡ first_type old.results) where
  pub fails_one_value : (f : CheckFault) → Fails check (expr e (scope_in l old) needs.Consumed wants) old c f → Fails check (returned_one e (scope_in l old)) old c f
  fails_one_value f r = fails_bind check _ _ old c f (subst (λ (ts : List Ty). Fails check (expr e (scope_in l old) needs.Consumed ts) old c f) is_wants r)

  module _ (vs : List Value) (mid : State) (d : Counts) (r : Runs check (expr e (scope_in l old) needs.Consumed wants) old c vs mid d) where
    first : Runs check (expr e (scope_in l old) needs.Consumed (first_type old.results)) old c vs mid d
    first = subst (λ (ts : List Ty). Runs check (expr e (scope_in l old) needs.Consumed ts) old c vs mid d) is_wants r

    pub fails_one_lone : (f : CheckFault) → Fails check (lone_value e wants vs) mid d f → Fails check (returned_one e (scope_in l old)) old c f
    fails_one_lone f q = fails_later check _ _ old mid c d vs f first (subst (λ (ts : List Ty). Fails check (lone_value e ts vs) mid d f) is_wants q)

    pub runs_one : Runs check (lone_value e wants vs) mid d vs mid d → Runs check (returned_one e (scope_in l old)) old c vs mid d
    runs_one q = runs_bind check _ _ old mid mid c d d vs vs first (subst (λ (ts : List Ty). Runs check (lone_value e ts vs) mid d vs mid d) is_wants q)

-- ---- a tuple, or one value

module _ (check : Checker) (l : Shelf) (e : Expression) (old : State) (c : Counts) where
  pub fails_as_tuple : (b : Bool) (f : CheckFault) → b ≡ is_tuple e → b ≡ true → Fails check (expr e (scope_in l old) needs.Consumed old.results) old c f → Fails check (returned e (scope_in l old)) old c f
  fails_as_tuple b f p q r = subst (λ (t : Bool). Fails check (cond t (expr e (scope_in l old) needs.Consumed old.results) (returned_one e (scope_in l old))) old c f) p (rw q r)

  pub fails_as_one : (b : Bool) (f : CheckFault) → b ≡ is_tuple e → b ≡ false → Fails check (returned_one e (scope_in l old)) old c f → Fails check (returned e (scope_in l old)) old c f
  fails_as_one b f p q r = subst (λ (t : Bool). Fails check (cond t (expr e (scope_in l old) needs.Consumed old.results) (returned_one e (scope_in l old))) old c f) p (rw q r)

  module _ (vs : List Value) (now : State) (d : Counts) where
    pub runs_as_tuple : (b : Bool) → b ≡ is_tuple e → b ≡ true → Runs check (expr e (scope_in l old) needs.Consumed old.results) old c vs now d → Runs check (returned e (scope_in l old)) old c vs now d
    runs_as_tuple b p q r = subst (λ (t : Bool). Runs check (cond t (expr e (scope_in l old) needs.Consumed old.results) (returned_one e (scope_in l old))) old c vs now d) p (rw q r)

    pub runs_as_one : (b : Bool) → b ≡ is_tuple e → b ≡ false → Runs check (returned_one e (scope_in l old)) old c vs now d → Runs check (returned e (scope_in l old)) old c vs now d
    runs_as_one b p q r = subst (λ (t : Bool). Runs check (cond t (expr e (scope_in l old) needs.Consumed old.results) (returned_one e (scope_in l old))) old c vs now d) p (rw q r)

some_by_length : (vs : List Value) → not (length vs == 0) ≡ not (is_empty vs)
some_by_length [] = refl
some_by_length (v ∷ vs) = grind (arith)

-- ---- a `return` that is misplaced, and values that are not used

module _ (check : Checker) (sc : Scope) (e : Expression) (s : Spot) (old : State) (c : Counts) where
  pub fails_misplaced : (f : CheckFault) → Fails check (returned e sc) old c f → Fails check (misplaced_step (Some e) s sc) old c f
  fails_misplaced f q = fails_then check _ _ old c f q

  pub fails_misplaced_there : (mid : State) (d : Counts) (vs : List Value) → Runs check (returned e sc) old c vs mid d → Fails check (misplaced_step (Some e) s sc) old c (checks.Broken bad_return s)
  fails_misplaced_there mid d vs q = fails_after check _ _ old mid c d vs (checks.Broken bad_return s) q (fails_broken check mid d bad_return s)

  pub fails_unused : (f : CheckFault) → Fails check (expr e sc needs.Consumed []) old c f → Fails check (unused_step e s sc) old c f
  fails_unused f q = fails_bind check _ _ old c f q

  module _ (mid : State) (d : Counts) (vs : List Value) (q : Runs check (expr e sc needs.Consumed []) old c vs mid d) where
    module _ (n : ℕ) (is_n : n ≡ length vs) where
      same_test : not (n == 0) ≡ not (is_empty vs)
      same_test = ap (λ (k : ℕ). not (k == 0)) is_n ∙ some_by_length vs

      pub fails_unused_rule : (f : CheckFault) → Fails check (rules s ((not (n == 0), result_count) ∷ [])) mid d f → Fails check (unused_step e s sc) old c f
      fails_unused_rule f r = fails_later check _ _ old mid c d vs f q (fails_tested check s _ _ result_count mid d f same_test r)

      pub runs_unused : Runs check (rules s ((not (n == 0), result_count) ∷ [])) mid d tt mid d → Runs check (unused_step e s sc) old c tt mid d
      runs_unused r = runs_bind check _ _ old mid mid c d d vs tt q (runs_tested check s _ _ result_count mid d same_test r)

-- ---- a result that is passed on

pub on_ok : {A E P Q : Type 0} (r : Result A E) → (P → Q) → OnOk r P → OnOk r Q
on_ok (Ok a) f p = f p
on_ok (Err e) f p = p

pub if_err : {A E : Type 0} {P Q : E → Type 0} (r : Result A E) → ((e : E) → P e → Q e) → IfErr r P → IfErr r Q
if_err (Ok a) f p = p
if_err (Err e) f p = f e p

pub if_ok : {A E : Type 0} {P Q : A → Type 0} (r : Result A E) → ((a : A) → P a → Q a) → IfOk r P → IfOk r Q
if_ok (Ok a) f p = f a p
if_ok (Err e) f p = p
