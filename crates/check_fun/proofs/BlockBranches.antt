-- Blocks, and branches under a run-time condition.
use Rattle.std.specs.Prelude.{◌≡◌, refl, ℕ, ◌<◌, ◌≤◌, Bool, true, false, List, [], ◌∷◌, ◌++◌, length, Result, Ok, Err, IfSome}
use mathlib.Core.Path.{sym, ap, ◌∙◌, subst}
use Rattle.silq_tree.specs.declared.node.Spot.{Spot}
use Rattle.silq_tree.specs.declared.node.ExprId.{ExprId}
use Rattle.silq_tree.specs.declared.node.StmtId.{StmtId}
use Rattle.silq_tree.specs.declared.node.Else.{Else}
use Rattle.silq_tree.specs.declared.node.Else.TheVariants as elses
use Rattle.silq_tree.specs.Syntax.{Expression, Statement}
use Rattle.silq_tree.specs.Children.{else_stmts}
use Rattle.silq_tree.specs.Standing.{statements_of, otherwise_of}
use Rattle.silq_types.specs.declared.values.Var.{Var}
use Rattle.check_scope.specs.Walk.{Walk, answer, broken, counted, asked, bind, Counts, Checker, with_counts}
use Rattle.check_scope.specs.Context.{Scope, Context, Check, ◌>>=◌, ◌>>◌, pass, variables, put_variables}
use Rattle.check_scope.specs.State.{State, context_of, scope_in}
use Rattle.check_scope.specs.Library.{Shelf}
use Rattle.check_fun.specs.Branches.{ended_branch}
use Rattle.check_fun.specs.Counting.{Stays, Runs, Fails, checker_at}
use Rattle.check_fun.specs.Statement.{stmt, stmts, otherwise, otherwise_end, none_changed, end_from, plain_block, branch, both, joined}
use Rattle.check_scope.specs.declared.fault.CheckFault.{CheckFault}
use Rattle.check_fun.proofs.BlockSteps.{same_scope_after, same_checker_after}
use Rattle.check_fun.proofs.Counted.{stays_refl, stays_both, runs_bind, runs_then, runs_variables, fails_bind, fails_then, fails_later, fails_after}

-- ---- plain blocks

pub runs_plain : (check : Checker) (inner : Check (Unit {0})) (end : Spot) (n : ℕ) (old mid now : State) (c d e : Counts) → n ≡ length old.vars → Runs check inner old c tt mid d → Runs check (end_from n end) mid d tt now e → Runs check (plain_block inner end) old c tt now e
runs_plain check inner end n old mid now c d e h p q =
    runs_bind check variables (λ vars. inner >> end_from (length vars) end) old old now c c e old.vars tt (runs_variables check old c)
    (runs_then check inner (end_from (length old.vars) end) old mid now c d e tt tt p (subst (λ k. Runs check (end_from k end) mid d tt now e) h q))

pub fails_plain : (check : Checker) (inner : Check (Unit {0})) (end : Spot) (old : State) (c : Counts) (f : CheckFault) → Fails check inner old c f → Fails check (plain_block inner end) old c f
fails_plain check inner end old c f p =
    fails_later check variables (λ vars. inner >> end_from (length vars) end) old old c c old.vars f (runs_variables check old c)
    (fails_then check inner (end_from (length old.vars) end) old c f p)

pub fails_plain_end : (check : Checker) (inner : Check (Unit {0})) (end : Spot) (n : ℕ) (old mid : State) (c d : Counts) (f : CheckFault) → n ≡ length old.vars → Runs check inner old c tt mid d → Fails check (end_from n end) mid d f → Fails check (plain_block inner end) old c f
fails_plain_end check inner end n old mid c d f h p q =
    fails_later check variables (λ vars. inner >> end_from (length vars) end) old old c c old.vars f (runs_variables check old c)
    (fails_after check inner (end_from (length old.vars) end) old mid c d tt f p (subst (λ k. Fails check (end_from k end) mid d f) h q))

-- ---- branches

pub runs_ended : (check : Checker) (before vs : List Var) (at : Spot) (old now : State) (c : Counts) → vs ≡ old.vars → Runs check (none_changed before vs at) old c tt old c → Runs check (end_from (length before) at) old c tt now c → Runs check (ended_branch before old.vars at) old c tt now c
runs_ended check before vs at old now c h p q = runs_then check (none_changed before old.vars at) (end_from (length before) at) old old now c c c tt tt (subst (λ x. Runs check (none_changed before x at) old c tt old c) h p) q

pub fails_ended : (check : Checker) (before vs : List Var) (at : Spot) (old : State) (c : Counts) (f : CheckFault) → vs ≡ old.vars → Runs check (none_changed before vs at) old c tt old c → Fails check (end_from (length before) at) old c f → Fails check (ended_branch before old.vars at) old c f
fails_ended check before vs at old c f h p q = fails_after check (none_changed before old.vars at) (end_from (length before) at) old old c c tt f (subst (λ x. Runs check (none_changed before x at) old c tt old c) h p) q

abbrev pub branch_end : List Var → Spot → Check (Unit {0})
branch_end before s = variables >>= (λ after. ended_branch before after s)

pub runs_branch : (check : Checker) (inner : Check (Unit {0})) (end : Spot) (before : List Var) (old mid now : State) (c d e : Counts) → before ≡ old.vars → Runs check inner old c tt mid d → Runs check (ended_branch before mid.vars end) mid d tt now e → Runs check (branch inner end) old c tt now e
runs_branch check inner end before old mid now c d e h p q =
    runs_bind check variables (λ vars. inner >> branch_end vars end) old old now c c e old.vars tt (runs_variables check old c)
    (runs_then check inner (branch_end old.vars end) old mid now c d e tt tt p
    (runs_bind check variables (λ after. ended_branch old.vars after end) mid mid now d d e mid.vars tt (runs_variables check mid d)
    (subst (λ vs. Runs check (ended_branch vs mid.vars end) mid d tt now e) h q)))

pub fails_branch : (check : Checker) (inner : Check (Unit {0})) (end : Spot) (old : State) (c : Counts) (f : CheckFault) → Fails check inner old c f → Fails check (branch inner end) old c f
fails_branch check inner end old c f p =
    fails_later check variables (λ vars. inner >> branch_end vars end) old old c c old.vars f (runs_variables check old c)
    (fails_then check inner (branch_end old.vars end) old c f p)

pub fails_branch_end : (check : Checker) (inner : Check (Unit {0})) (end : Spot) (before : List Var) (old mid : State) (c d : Counts) (f : CheckFault) → before ≡ old.vars → Runs check inner old c tt mid d → Fails check (ended_branch before mid.vars end) mid d f → Fails check (branch inner end) old c f
fails_branch_end check inner end before old mid c d f h p q =
    fails_later check variables (λ vars. inner >> branch_end vars end) old old c c old.vars f (runs_variables check old c)
    (fails_after check inner (branch_end old.vars end) old mid c d tt f p
    (fails_later check variables (λ after. ended_branch old.vars after end) mid mid d d mid.vars f (runs_variables check mid d)
    (subst (λ vs. Fails check (ended_branch vs mid.vars end) mid d f) h q)))

-- ---- both branches

runs_put : (check : Checker) (vars : List Var) (old now : State) (c : Counts) → now ≡ record old { vars = vars; start = vars } → Runs check (put_variables vars) old c tt now c
runs_put check vars old now c e = rw e (record { runs = refl; stays = record { this = refl; results = refl; depth = refl; statics = refl; held = refl } })

abbrev both_after : List Var → Check (Unit {0}) → List Var → Check (Unit {0})
both_after start second one = put_variables start >> (second >> (variables >>= (λ other. put_variables (joined one other))))

module _ (l : Shelf) (F S : Scope → Check (Unit {0})) (old : State) (c : Counts) where
  -- what the second branch sees
  stays_put : (start : List Var) (s1 s2 : State) → Stays old s1 → s2 ≡ record s1 { vars = start; start = start } → Stays old s2
  stays_put start s1 s2 k e = rw e (record { this = k.this; results = k.results; depth = k.depth; statics = k.statics; held = k.held })

  second_runs : (s2 s3 : State) (d e : Counts) → Stays old s2 → Runs (checker_at l s2) (S (scope_in l s2)) s2 d tt s3 e → Runs (checker_at l old) (S (scope_in l old)) s2 d tt s3 e
  second_runs s2 s3 d e k r = subst (λ sc. Runs (checker_at l old) (S sc) s2 d tt s3 e) (same_scope_after l old s2 k) (subst (λ check. Runs check (S (scope_in l s2)) s2 d tt s3 e) (same_checker_after l old s2 k) r)

  second_fails : (s2 : State) (d : Counts) (f : CheckFault) → Stays old s2 → Fails (checker_at l s2) (S (scope_in l s2)) s2 d f → Fails (checker_at l old) (S (scope_in l old)) s2 d f
  second_fails s2 d f k r = subst (λ sc. Fails (checker_at l old) (S sc) s2 d f) (same_scope_after l old s2 k) (subst (λ check. Fails check (S (scope_in l s2)) s2 d f) (same_checker_after l old s2 k) r)

  pub runs_both : (start one vars : List Var) (s1 s2 s3 now : State) (d e : Counts) → start ≡ old.vars → one ≡ s1.vars → vars ≡ joined one s3.vars →
      Runs (checker_at l old) (F (scope_in l old)) old c tt s1 d → s2 ≡ record s1 { vars = start; start = start } → Runs (checker_at l s2) (S (scope_in l s2)) s2 d tt s3 e → now ≡ record s3 { vars = vars; start = vars } →
      Runs (checker_at l old) (both (F (scope_in l old)) (S (scope_in l old))) old c tt now e
  runs_both start one vars s1 s2 s3 now d e h1 h2 h3 p q r t =
      let check : Checker = checker_at l old in
      let first : Check (Unit {0}) = F (scope_in l old) in
      let second : Check (Unit {0}) = S (scope_in l old) in
      let k : Stays old s2 = stays_put start s1 s2 p.stays q in
      let last : Runs check (put_variables (joined s1.vars s3.vars)) s3 e tt now e = subst (λ vs. Runs check (put_variables vs) s3 e tt now e) (h3 ∙ ap (λ vs. joined vs s3.vars) h2) (runs_put check vars s3 now e t) in
      runs_bind check variables (λ x. first >> (variables >>= (λ y. both_after x second y))) old old now c c e old.vars tt (runs_variables check old c)
      (runs_then check first (variables >>= (λ y. both_after old.vars second y)) old s1 now c d e tt tt p
      (runs_bind check variables (λ y. both_after old.vars second y) s1 s1 now d d e s1.vars tt (runs_variables check s1 d)
      (runs_then check (put_variables old.vars) (second >> (variables >>= (λ z. put_variables (joined s1.vars z)))) s1 s2 now d d e tt tt (subst (λ vs. Runs check (put_variables vs) s1 d tt s2 d) h1 (runs_put check start s1 s2 d q))
      (runs_then check second (variables >>= (λ z. put_variables (joined s1.vars z))) s2 s3 now d e e tt tt (second_runs s2 s3 d e k r)
      (runs_bind check variables (λ z. put_variables (joined s1.vars z)) s3 s3 now e e e s3.vars tt (runs_variables check s3 e) last)))))

  pub fails_first : (f : CheckFault) → Fails (checker_at l old) (F (scope_in l old)) old c f → Fails (checker_at l old) (both (F (scope_in l old)) (S (scope_in l old))) old c f
  fails_first f p =
      let check : Checker = checker_at l old in
      let first : Check (Unit {0}) = F (scope_in l old) in
      let second : Check (Unit {0}) = S (scope_in l old) in
      fails_later check variables (λ x. first >> (variables >>= (λ y. both_after x second y))) old old c c old.vars f (runs_variables check old c)
      (fails_then check first (variables >>= (λ y. both_after old.vars second y)) old c f p)

  pub fails_second : (start : List Var) (s1 s2 : State) (d : Counts) (f : CheckFault) → start ≡ old.vars →
      Runs (checker_at l old) (F (scope_in l old)) old c tt s1 d → s2 ≡ record s1 { vars = start; start = start } → Fails (checker_at l s2) (S (scope_in l s2)) s2 d f →
      Fails (checker_at l old) (both (F (scope_in l old)) (S (scope_in l old))) old c f
  fails_second start s1 s2 d f h1 p q r =
      let check : Checker = checker_at l old in
      let first : Check (Unit {0}) = F (scope_in l old) in
      let second : Check (Unit {0}) = S (scope_in l old) in
      let k : Stays old s2 = stays_put start s1 s2 p.stays q in
      fails_later check variables (λ x. first >> (variables >>= (λ y. both_after x second y))) old old c c old.vars f (runs_variables check old c)
      (fails_after check first (variables >>= (λ y. both_after old.vars second y)) old s1 c d tt f p
      (fails_later check variables (λ y. both_after old.vars second y) s1 s1 d d s1.vars f (runs_variables check s1 d)
      (fails_after check (put_variables old.vars) (second >> (variables >>= (λ z. put_variables (joined s1.vars z)))) s1 s2 d d tt f (subst (λ vs. Runs check (put_variables vs) s1 d tt s2 d) h1 (runs_put check start s1 s2 d q))
      (fails_then check second (variables >>= (λ z. put_variables (joined s1.vars z))) s2 d f (second_fails s2 d f k r)))))

-- ---- what stands behind `else`

last_bind : (w : Walk (Unit {0} × Context)) → bind w (λ r. answer (tt, r.1)) ≡ w
last_bind (answer a) = refl
last_bind (broken e) = refl
last_bind (counted w) = ap counted (last_bind w)
last_bind (asked k goes) = λ i. asked k (λ s. last_bind (goes s) i)

last_pass : (m : Check (Unit {0})) → (m >> pass) ≡ m
unfolding ◌>>◌
last_pass m = λ i c. last_bind (m c) i

pub else_items : (at : ExprId → Expression) (st : StmtId → Statement) (o : Else) (sc : Scope) → stmts (statements_of at st (else_stmts o)) sc ≡ otherwise (otherwise_of at st o) sc
else_items at st (elses.Block b) sc = refl
else_items at st (elses.Choice s) sc = last_pass (stmt (st s) sc)

-- ---- lists of statements, however they were found

module _ (check : Checker) (e : ExprId → Expression) (st : StmtId → Statement) (sc : Scope) (old : State) (c : Counts) where
  pub first_runs : (xs ys : List StmtId) (end : Spot) (now : State) (d : Counts) → xs ≡ ys → Runs check (branch (stmts (statements_of e st xs) sc) end) old c tt now d → Runs check (branch (stmts (statements_of e st ys) sc) end) old c tt now d
  first_runs xs ys end now d h r = subst (λ zs. Runs check (branch (stmts (statements_of e st zs) sc) end) old c tt now d) h r

  pub first_fails : (xs ys : List StmtId) (end : Spot) (f : CheckFault) → xs ≡ ys → Fails check (branch (stmts (statements_of e st xs) sc) end) old c f → Fails check (branch (stmts (statements_of e st ys) sc) end) old c f
  first_fails xs ys end f h r = subst (λ zs. Fails check (branch (stmts (statements_of e st zs) sc) end) old c f) h r

  pub other_runs : (xs : List StmtId) (o : Else) (end : Spot) (now : State) (d : Counts) → xs ≡ else_stmts o → end ≡ otherwise_end (otherwise_of e st o) → Runs check (branch (stmts (statements_of e st xs) sc) end) old c tt now d → Runs check (branch (otherwise (otherwise_of e st o) sc) (otherwise_end (otherwise_of e st o))) old c tt now d
  other_runs xs o end now d h k r = subst (λ m. Runs check (branch m (otherwise_end (otherwise_of e st o))) old c tt now d) (else_items e st o sc) (subst (λ s. Runs check (branch (stmts (statements_of e st (else_stmts o)) sc) s) old c tt now d) k (subst (λ zs. Runs check (branch (stmts (statements_of e st zs) sc) end) old c tt now d) h r))

  pub other_fails : (xs : List StmtId) (o : Else) (end : Spot) (f : CheckFault) → xs ≡ else_stmts o → end ≡ otherwise_end (otherwise_of e st o) → Fails check (branch (stmts (statements_of e st xs) sc) end) old c f → Fails check (branch (otherwise (otherwise_of e st o) sc) (otherwise_end (otherwise_of e st o))) old c f
  other_fails xs o end f h k r = subst (λ m. Fails check (branch m (otherwise_end (otherwise_of e st o))) old c f) (else_items e st o sc) (subst (λ s. Fails check (branch (stmts (statements_of e st (else_stmts o)) sc) s) old c f) k (subst (λ zs. Fails check (branch (stmts (statements_of e st zs) sc) end) old c f) h r))

  pub plain_runs : (xs ys : List StmtId) (end : Spot) (now : State) (d : Counts) → xs ≡ ys → Runs check (plain_block (stmts (statements_of e st xs) sc) end) old c tt now d → Runs check (plain_block (stmts (statements_of e st ys) sc) end) old c tt now d
  plain_runs xs ys end now d h r = subst (λ zs. Runs check (plain_block (stmts (statements_of e st zs) sc) end) old c tt now d) h r

  pub plain_fails : (xs ys : List StmtId) (end : Spot) (f : CheckFault) → xs ≡ ys → Fails check (plain_block (stmts (statements_of e st xs) sc) end) old c f → Fails check (plain_block (stmts (statements_of e st ys) sc) end) old c f
  plain_fails xs ys end f h r = subst (λ zs. Fails check (plain_block (stmts (statements_of e st zs) sc) end) old c f) h r

  pub plain_other_runs : (xs : List StmtId) (o : Else) (end : Spot) (now : State) (d : Counts) → xs ≡ else_stmts o → end ≡ otherwise_end (otherwise_of e st o) → Runs check (plain_block (stmts (statements_of e st xs) sc) end) old c tt now d → Runs check (plain_block (otherwise (otherwise_of e st o) sc) (otherwise_end (otherwise_of e st o))) old c tt now d
  plain_other_runs xs o end now d h k r = subst (λ m. Runs check (plain_block m (otherwise_end (otherwise_of e st o))) old c tt now d) (else_items e st o sc) (subst (λ s. Runs check (plain_block (stmts (statements_of e st (else_stmts o)) sc) s) old c tt now d) k (subst (λ zs. Runs check (plain_block (stmts (statements_of e st zs) sc) end) old c tt now d) h r))

  pub plain_other_fails : (xs : List StmtId) (o : Else) (end : Spot) (f : CheckFault) → xs ≡ else_stmts o → end ≡ otherwise_end (otherwise_of e st o) → Fails check (plain_block (stmts (statements_of e st xs) sc) end) old c f → Fails check (plain_block (otherwise (otherwise_of e st o) sc) (otherwise_end (otherwise_of e st o))) old c f
  plain_other_fails xs o end f h k r = subst (λ m. Fails check (plain_block m (otherwise_end (otherwise_of e st o))) old c f) (else_items e st o sc) (subst (λ s. Fails check (plain_block (stmts (statements_of e st (else_stmts o)) sc) s) old c f) k (subst (λ zs. Fails check (plain_block (stmts (statements_of e st zs) sc) end) old c f) h r))
