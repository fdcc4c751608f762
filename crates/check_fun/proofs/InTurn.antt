-- Where both branches leave the variables as they are, they may be walked one after the other over the same variables.
use Rattle.std.specs.Prelude.{◌≡◌, refl, ℕ, zero, suc, ◌+◌, ◌<◌, ◌≤◌, Bool, true, false, not, ◌&&◌, ◌||◌, ◌==◌, cond, List, [], ◌∷◌, length, take, Option, Some, None, Result, Ok, Err, ⊤}
use Rattle.std.proofs.Common.{drop, get_or, arith}
use mathlib.Core.Path.{sym, ap, ◌∙◌, subst}
use Rattle.silq_tree.specs.declared.node.ExprId.{ExprId}
use Rattle.silq_tree.specs.declared.node.StmtId.{StmtId}
use Rattle.silq_tree.specs.declared.node.Else.{Else}
use Rattle.silq_tree.specs.Children.{else_stmts}
use Rattle.silq_tree.specs.Standing.{statements_of, otherwise_of}
use Rattle.silq_tree.proofs.Lists.{statements_of-drop, statements_of-end}
use Rattle.check_scope.specs.Library.{Shelf}
use Rattle.silq_tree.specs.declared.node.Spot.{Spot}
use Rattle.silq_tree.specs.Syntax.{Expression, Statement, Statements, assign, spread, update, forget, forget_value, phase, choice, loop, return_nothing, return_value, call, done, next}
use Rattle.silq_types.specs.declared.types.Scalar.{Scalar}
use Rattle.silq_types.specs.declared.types.Scalar.TheVariants as scalars
use Rattle.silq_types.specs.declared.types.Shape.{Shape}
use Rattle.silq_types.specs.declared.types.Shape.TheVariants.{Bit, UInt, Int, Array}
use Rattle.silq_types.specs.declared.types.Ty.{Ty}
use Rattle.silq_types.specs.declared.values.Origin.{Origin}
use Rattle.silq_types.specs.declared.values.Origin.TheVariants as origins
use Rattle.silq_types.specs.declared.values.Var.{Var}
use Rattle.silq_types.specs.Types.{scalar_eq, shape_eq, bool_eq, ty_eq, is_linear, is_held, at, first_unknown, names}
use Rattle.silq_types.specs.Rules.{rule, outer_changed}
use Rattle.static_num.specs.Angle.{angle_of}
use Rattle.static_num.specs.declared.angles.AngleFault.{AngleFault}
use Rattle.static_num.specs.declared.angles.AngleFault.TheVariants as angles
use Rattle.check_scope.specs.declared.fault.CheckFault.{CheckFault}
use Rattle.check_scope.specs.Walk.{Walk, answer, broken, counted, asked, bind, Counts, Checker}
use Rattle.check_scope.specs.Context.{Scope, Context, Check, ◌>>=◌, ◌>>◌, pass, rules, variables, put_variables, known_names, unknown_at, is_known_name}
use Rattle.check_scope.specs.State.{State, scope_in}
use Rattle.check_fun.specs.Counting.{Stays, Runs, Fails, checker_at}
use Rattle.check_fun.specs.Statement.{stmt, stmts, otherwise, otherwise_end, phase_of, angle_rule, is_changed, none_changed, none_left, end_from, branch, both, joined}
use Rattle.check_fun.specs.Leaving.{leaves, leave_all}
use Rattle.check_fun.proofs.BlockSteps.{same_scope_after, same_checker_after}
use Rattle.check_fun.proofs.BlockBranches.{else_items}
use Rattle.check_fun.proofs.Counted.{runs_then, fails_then, fails_after}

-- ---- what a walk answers

abbrev AllEnd : {A : Type 0} → (A → Type 0) → Walk A → Type 0
AllEnd P (answer a) = P a
AllEnd P (broken e) = ⊤
AllEnd P (counted w) = AllEnd P w
AllEnd P (asked k goes) = (s : _) → AllEnd P (goes s)

all_bind : {A B : Type 0} (P : A → Type 0) (Q : B → Type 0) (w : Walk A) (f : A → Walk B) → AllEnd P w → ((a : A) → P a → AllEnd Q (f a)) → AllEnd Q (bind w f)
all_bind P Q (answer a) f p q = q a p
all_bind P Q (broken e) f p q = tt
all_bind P Q (counted w) f p q = all_bind P Q w f p q
all_bind P Q (asked k goes) f p q = λ s. all_bind P Q (goes s) f (p s) q

agree : {A B : Type 0} (P : A → Type 0) (w : Walk A) (f g : A → Walk B) → AllEnd P w → ((a : A) → P a → f a ≡ g a) → bind w f ≡ bind w g
agree P (answer a) f g p q = q a p
agree P (broken e) f g p q = refl
agree P (counted w) f g p q = ap counted (agree P w f g p q)
agree P (asked k goes) f g p q = λ i. asked k (λ s. agree P (goes s) f g (p s) q i)

whole_bind : {A : Type 0} (w : Walk A) → bind w (λ a. answer a) ≡ w
whole_bind (answer a) = refl
whole_bind (broken e) = refl
whole_bind (counted w) = ap counted (whole_bind w)
whole_bind (asked k goes) = λ i. asked k (λ s. whole_bind (goes s) i)

-- an answer comes with the same variables
abbrev Kept : Context → (Unit {0} × Context) → Type 0
Kept c r = r.1.vars ≡ c.vars

record Leaves (m : Check (Unit {0})) : Type 0 where
  kept : (c : Context) → AllEnd (Kept c) (m c)

leaves_then : (m n : Check (Unit {0})) → Leaves m → Leaves n → Leaves (m >> n)
unfolding ◌>>◌
leaves_then m n p q = record { kept = λ c. all_bind (Kept c) (Kept c) (m c) (λ r. n r.1) (p.kept c) (λ r h. subst (λ vs. AllEnd (λ (x : Unit {0} × Context). x.1.vars ≡ vs) (n r.1)) h (q.kept r.1)) }

leaves_pass : Leaves pass
leaves_pass = record { kept = λ c. refl }

leaves_rules : (s : Spot) (rs : List (Bool × ℕ)) → Leaves (rules s rs)
unfolding rules
leaves_rules s [] = leaves_pass
leaves_rules s ((true, r) ∷ rs) = record { kept = λ c. tt }
leaves_rules s ((false, r) ∷ rs) = record { kept = (leaves_rules s rs).kept }

leaves_unknown : (o : Option Spot) → Leaves (unknown_at o)
leaves_unknown None = leaves_pass
leaves_unknown (Some s) = record { kept = λ c. tt }

leaves_known : (sc : Scope) (e : Expression) → Leaves (known_names sc e)
leaves_known sc e = record { kept = λ c. (leaves_unknown (first_unknown (is_known_name sc c.vars) (names e))).kept c }

leaves_angle : (s : Spot) (r : Result ℕ AngleFault) → Leaves (angle_rule s r)
leaves_angle s (Ok k) = leaves_pass
leaves_angle s (Err angles.NotEighth) = record { kept = λ c. tt }
leaves_angle s (Err (angles.Static f)) = record { kept = λ c. tt }

leaves_count : Leaves (λ c. counted (answer (tt, c)))
leaves_count = record { kept = λ c. refl }

leaves_phase : (e : Expression) (s : Spot) (sc : Scope) → Leaves (stmt (phase e s) sc)
leaves_phase e s sc = leaves_then _ _ leaves_count (leaves_then _ _ (leaves_known sc e) (leaves_then _ _ (leaves_angle (at e) _) (leaves_rules s _)))

leaves_stmt : (st : Statement) (sc : Scope) → leaves st ≡ true → Leaves (stmt st sc)
leaves_stmt (phase e s) sc h = leaves_phase e s sc
leaves_stmt (assign p e s) sc h = absurd (grind (arith, h))
leaves_stmt (spread xs e s) sc h = absurd (grind (arith, h))
leaves_stmt (update p op e s) sc h = absurd (grind (arith, h))
leaves_stmt (forget x s) sc h = absurd (grind (arith, h))
leaves_stmt (forget_value x e s) sc h = absurd (grind (arith, h))
leaves_stmt (choice e b other s) sc h = absurd (grind (arith, h))
leaves_stmt (loop x low high b s) sc h = absurd (grind (arith, h))
leaves_stmt (return_nothing s) sc h = absurd (grind (arith, h))
leaves_stmt (return_value e s) sc h = absurd (grind (arith, h))
leaves_stmt (call e s) sc h = absurd (grind (arith, h))

both_true : (a b : Bool) → (a && b) ≡ true → (a ≡ true) × (b ≡ true)
both_true true b h = (refl, h)
both_true false b h = absurd (grind (arith, h))

leaves_stmts : (ss : Statements) (sc : Scope) → leave_all ss ≡ true → Leaves (stmts ss sc)
leaves_stmts done sc h = leaves_pass
leaves_stmts (next st rest) sc h = let p = both_true (leaves st) (leave_all rest) h in leaves_then _ _ (leaves_stmt st sc p.0) (leaves_stmts rest sc p.1)

-- ---- variables that are the same before and after

nat_same : (n : ℕ) → (n == n) ≡ true
nat_same n = grind arith

scalar_same : (s : Scalar) → scalar_eq s s ≡ true
scalar_same scalars.Bit = refl
scalar_same (scalars.UInt n) = nat_same n
scalar_same (scalars.Int n) = nat_same n

shape_same : (s : Shape) → shape_eq s s ≡ true
shape_same Bit = refl
shape_same (UInt n) = nat_same n
shape_same (Int n) = nat_same n
shape_same (Array k n) = rw (scalar_same k, nat_same n) refl

bool_same : (b : Bool) → bool_eq b b ≡ true
bool_same true = refl
bool_same false = refl

unlike : (b : Bool) → (b && not b) ≡ false
unlike true = refl
unlike false = refl

unchanged : (v : Var) → is_changed v v ≡ false
unchanged v = rw (unlike v.consumed, bool_same v.ty.classical, shape_same v.ty.shape, nat_same v.place) refl

none_same : (vs : List Var) (s : Spot) (c : Context) → none_changed vs vs s c ≡ answer (tt, c)
unfolding ◌>>◌ rules
none_same [] s c = refl
none_same (v ∷ vs) s c = rw (unchanged v) (none_same vs s c)

drop_all : (vs : List Var) → drop (length vs) vs ≡ []
drop_all [] = refl
drop_all (v ∷ vs) = drop_all vs

take_whole : (vs : List Var) → take (length vs) vs ≡ vs
take_whole [] = refl
take_whole (v ∷ vs) = ap (λ ws. v ∷ ws) (take_whole vs)

end_all : (vs : List Var) (s : Spot) (c : Context) → c.vars ≡ vs → end_from (length vs) s c ≡ answer (tt, c)
unfolding ◌>>◌
end_all vs s c h = subst (λ ws. end_from (length ws) s c ≡ answer (tt, c)) h (rw (drop_all c.vars, take_whole c.vars) refl)

join_one : (v : Var) → cond (is_linear v.origin) (record v { origin = origins.Linear }) v ≡ v
join_one v = go v.origin refl
  where
    go : (o : Origin) → v.origin ≡ o → cond (is_linear o) (record v { origin = origins.Linear }) v ≡ v
    go origins.Linear h = ap (λ o. record v { origin = o }) (sym h)
    go origins.Held h = refl
    go origins.Lifted h = refl
    go origins.Classical h = refl

join_same : (vs : List Var) → joined vs vs ≡ vs
join_same [] = refl
join_same (v ∷ vs) = ap (λ w. w ∷ joined vs vs) (join_one v) ∙ ap (λ ws. v ∷ ws) (join_same vs)

-- ---- branches

ended_same : (before : List Var) (s : Spot) (c : Context) → c.vars ≡ before → bind (none_changed before c.vars s c) (λ r. end_from (length before) s r.1) ≡ answer (tt, c)
ended_same before s c h = subst (λ vs. bind (none_changed vs c.vars s c) (λ r. end_from (length vs) s r.1) ≡ answer (tt, c)) h (rw (none_same c.vars s c) (end_all c.vars s c refl))

branch_same : (m : Check (Unit {0})) (s : Spot) → Leaves m → branch m s ≡ m
unfolding ◌>>◌ ◌>>=◌
branch_same m s p = λ i c. (agree (Kept c) (m c) (λ r. bind (none_changed c.vars r.1.vars s r.1) (λ q. end_from (length c.vars) s q.1)) (λ r. answer r) (p.kept c) (λ r h. ended_same c.vars s r.1 h) ∙ whole_bind (m c)) i

joined_same : (one : List Var) (m : Check (Unit {0})) (c : Context) → Leaves m → c.vars ≡ one → bind (m c) (λ r. answer (tt, record r.1 { vars = joined one r.1.vars })) ≡ m c
joined_same one m c p h = agree (Kept c) (m c) (λ r. answer (tt, record r.1 { vars = joined one r.1.vars })) (λ r. answer r) (p.kept c) (λ r k. ap (λ vs. answer (tt, record r.1 { vars = vs })) (ap (λ vs. joined vs r.1.vars) (sym h ∙ sym k) ∙ join_same r.1.vars)) ∙ whole_bind (m c)

both_same : (m n : Check (Unit {0})) → Leaves m → Leaves n → both m n ≡ (m >> n)
unfolding ◌>>◌ ◌>>=◌
both_same m n p q = λ i c. agree (Kept c) (m c) (λ r. bind (n (record r.1 { vars = c.vars })) (λ o. answer (tt, record o.1 { vars = joined r.1.vars o.1.vars }))) (λ r. n r.1) (p.kept c)
    (λ r h. ap (λ vs. bind (n (record r.1 { vars = vs })) (λ o. answer (tt, record o.1 { vars = joined r.1.vars o.1.vars }))) (sym h) ∙ joined_same r.1.vars n r.1 q refl) i

in_turn_same : (m n : Check (Unit {0})) (s t : Spot) → Leaves m → Leaves n → both (branch m s) (branch n t) ≡ (m >> n)
in_turn_same m n s t p q = ap (λ x. both x (branch n t)) (branch_same m s p) ∙ ap (λ x. both m x) (branch_same n t q) ∙ both_same m n p q

module _ (check : Checker) (ss us : Statements) (sc : Scope) (s t : Spot) (h : leave_all ss ≡ true) (k : leave_all us ≡ true) (old : State) (c : Counts) where
  in_turn_is : both (branch (stmts ss sc) s) (branch (stmts us sc) t) ≡ (stmts ss sc >> stmts us sc)
  in_turn_is = in_turn_same (stmts ss sc) (stmts us sc) s t (leaves_stmts ss sc h) (leaves_stmts us sc k)

  pub runs_in_turn : (now : State) (d : Counts) → Runs check (stmts ss sc >> stmts us sc) old c tt now d → Runs check (both (branch (stmts ss sc) s) (branch (stmts us sc) t)) old c tt now d
  runs_in_turn now d r = subst (λ m. Runs check m old c tt now d) (sym in_turn_is) r

  pub fails_in_turn : (f : CheckFault) → Fails check (stmts ss sc >> stmts us sc) old c f → Fails check (both (branch (stmts ss sc) s) (branch (stmts us sc) t)) old c f
  fails_in_turn f r = subst (λ m. Fails check m old c f) (sym in_turn_is) r

-- ---- in turn, as the code does it

module _ (l : Shelf) (e : ExprId → Expression) (st : StmtId → Statement) (xs ys zs : List StmtId) (o : Else) (s : Spot) (old : State) (c : Counts) (hk : (leave_all (statements_of e st xs) && leave_all (statements_of e st (else_stmts o))) ≡ true) (p : ys ≡ xs) (q : zs ≡ else_stmts o) where
  abbrev first_part : Check (Unit {0})
  first_part = stmts (statements_of e st xs) (scope_in l old)

  abbrev second_part : Check (Unit {0})
  second_part = stmts (statements_of e st (else_stmts o)) (scope_in l old)

  abbrev pub Apart : Check (Unit {0})
  Apart = both (branch (stmts (statements_of e st xs) (scope_in l old)) s) (branch (otherwise (otherwise_of e st o) (scope_in l old)) (otherwise_end (otherwise_of e st o)))

  second_runs : (mid now : State) (d u : Counts) → Stays old mid → Runs (checker_at l mid) (stmts (statements_of e st zs) (scope_in l mid)) mid d tt now u → Runs (checker_at l old) second_part mid d tt now u
  second_runs mid now d u kept r = subst (λ is. Runs (checker_at l old) (stmts (statements_of e st is) (scope_in l old)) mid d tt now u) q
      (subst (λ sc. Runs (checker_at l old) (stmts (statements_of e st zs) sc) mid d tt now u) (same_scope_after l old mid kept)
      (subst (λ check. Runs check (stmts (statements_of e st zs) (scope_in l mid)) mid d tt now u) (same_checker_after l old mid kept) r))

  second_fails : (mid : State) (d : Counts) (f : CheckFault) → Stays old mid → Fails (checker_at l mid) (stmts (statements_of e st zs) (scope_in l mid)) mid d f → Fails (checker_at l old) second_part mid d f
  second_fails mid d f kept r = subst (λ is. Fails (checker_at l old) (stmts (statements_of e st is) (scope_in l old)) mid d f) q
      (subst (λ sc. Fails (checker_at l old) (stmts (statements_of e st zs) sc) mid d f) (same_scope_after l old mid kept)
      (subst (λ check. Fails check (stmts (statements_of e st zs) (scope_in l mid)) mid d f) (same_checker_after l old mid kept) r))

  first_runs : (mid : State) (d : Counts) → Runs (checker_at l old) (stmts (statements_of e st ys) (scope_in l old)) old c tt mid d → Runs (checker_at l old) first_part old c tt mid d
  first_runs mid d r = subst (λ is. Runs (checker_at l old) (stmts (statements_of e st is) (scope_in l old)) old c tt mid d) p r

  turn_fails : (f : CheckFault) → Fails (checker_at l old) (first_part >> second_part) old c f → Fails (checker_at l old) Apart old c f
  turn_fails f r = subst (λ m. Fails (checker_at l old) (both (branch first_part s) (branch m (otherwise_end (otherwise_of e st o)))) old c f) (else_items e st o (scope_in l old))
      (fails_in_turn (checker_at l old) (statements_of e st xs) (statements_of e st (else_stmts o)) (scope_in l old) s (otherwise_end (otherwise_of e st o)) (both_true _ _ hk).0 (both_true _ _ hk).1 old c f r)

  pub runs_turns : (mid now : State) (d u : Counts) → Runs (checker_at l old) (stmts (statements_of e st ys) (scope_in l old)) old c tt mid d → Runs (checker_at l mid) (stmts (statements_of e st zs) (scope_in l mid)) mid d tt now u → Runs (checker_at l old) Apart old c tt now u
  runs_turns mid now d u r t = subst (λ m. Runs (checker_at l old) (both (branch first_part s) (branch m (otherwise_end (otherwise_of e st o)))) old c tt now u) (else_items e st o (scope_in l old))
      (runs_in_turn (checker_at l old) (statements_of e st xs) (statements_of e st (else_stmts o)) (scope_in l old) s (otherwise_end (otherwise_of e st o)) (both_true _ _ hk).0 (both_true _ _ hk).1 old c now u
      (runs_then (checker_at l old) first_part second_part old mid now c d u tt tt (first_runs mid d r) (second_runs mid now d u r.stays t)))

  pub fails_first_turn : (f : CheckFault) → Fails (checker_at l old) (stmts (statements_of e st ys) (scope_in l old)) old c f → Fails (checker_at l old) Apart old c f
  fails_first_turn f r = turn_fails f (fails_then (checker_at l old) first_part second_part old c f (subst (λ is. Fails (checker_at l old) (stmts (statements_of e st is) (scope_in l old)) old c f) p r))

  pub fails_second_turn : (mid : State) (d : Counts) (f : CheckFault) → Runs (checker_at l old) (stmts (statements_of e st ys) (scope_in l old)) old c tt mid d → Fails (checker_at l mid) (stmts (statements_of e st zs) (scope_in l mid)) mid d f → Fails (checker_at l old) Apart old c f
  fails_second_turn mid d f r t = turn_fails f (fails_after (checker_at l old) first_part second_part old mid c d tt f (first_runs mid d r) (second_fails mid d f r.stays t))

-- ---- a list of statements

module _ (e : ExprId → Expression) (st : StmtId → Statement) (ids : List StmtId) (i : ℕ) (d : StmtId) where
  pub leave_more : i < length ids → leaves (st (get_or ids i d)) ≡ true → leave_all (statements_of e st (drop i ids)) ≡ leave_all (statements_of e st ids) → leave_all (statements_of e st (drop (i + 1) ids)) ≡ leave_all (statements_of e st ids)
  leave_more l h is = sym (ap leave_all (statements_of-drop e st ids i d l) ∙ ap (λ b. b && leave_all (statements_of e st (drop (i + 1) ids))) h) ∙ is

  pub leave_not : i < length ids → leaves (st (get_or ids i d)) ≡ false → leave_all (statements_of e st (drop i ids)) ≡ leave_all (statements_of e st ids) → false ≡ leave_all (statements_of e st ids)
  leave_not l h is = sym (ap leave_all (statements_of-drop e st ids i d l) ∙ ap (λ b. b && leave_all (statements_of e st (drop (i + 1) ids))) h) ∙ is

  pub leave_end : length ids ≤ i → leave_all (statements_of e st (drop i ids)) ≡ leave_all (statements_of e st ids) → true ≡ leave_all (statements_of e st ids)
  leave_end l is = sym (ap leave_all (statements_of-end e st ids i l)) ∙ is
