-- Steps of blocks, choices and loops: from the reading with known signatures to that with counts, and lists of checks that are done in turn.
use Rattle.std.specs.Prelude.{◌≡◌, refl, ℕ, suc, ◌+◌, ◌<◌, ◌≤◌, Bool, true, false, cond, List, [], ◌∷◌, Option, Some, None, Result, Ok, Err, IfSome, IfErr, ⊤}
use Rattle.std.specs.Result.{IsErrAnd}
use Rattle.std.proofs.lemmas.Bool.{lt-ltb, le-ltb}
use Rattle.std.proofs.Math.Numerals.{add-one}
use mathlib.Core.Path.{sym, ap, ◌∙◌, subst}
use Rattle.silq_tree.specs.declared.node.Spot.{Spot}
use Rattle.std.proofs.Common.{drop, get_or, length}
use Rattle.silq_tree.specs.declared.node.ExprId.{ExprId}
use Rattle.silq_tree.specs.declared.node.StmtId.{StmtId}
use Rattle.silq_tree.specs.Standing.{statements_of}
use Rattle.silq_tree.proofs.Lists.{statements_of-drop, statements_of-end}
use Rattle.silq_tree.specs.Syntax.{Expression, Statement, Statements, done, next}
use Rattle.silq_types.specs.Rules.{Fault, rule, and_then, over}
use Rattle.silq_io.specs.declared.limit.LimitKind.TheVariants.{Walked}
use Rattle.silq_types.specs.Known.{Signatures}
use Rattle.silq_types.specs.Types.{at, first_unknown, names}
use Rattle.silq_mean.specs.Written.{needed_at}
use Rattle.silq_types.specs.declared.signature.InstanceKey.{InstanceKey}
use Rattle.check_scope.specs.Walk.{Walk, answer, broken, counted, asked, bind, Stop, fault, wanted, with_known, Counts, Checker, with_counts}
use Rattle.check_scope.specs.Context.{Scope, Context, Check, ◌>>=◌, ◌>>◌, give_back, pass, fail, of_result, rules, variables, count_statement, unknown_at, known_names, needed, is_known_name}
use Rattle.check_scope.specs.State.{State, Keeps, context_of, scope_in}
use Rattle.check_scope.specs.Steps.{Reads, Stops}
use Rattle.check_scope.specs.Faults.{fault_as, stop_as}
use Rattle.check_scope.specs.Library.{Shelf}
use Rattle.check_fun.specs.Counting.{Stays, Runs, Fails, checker_at}
use Rattle.check_fun.specs.Statement.{stmt, stmts}
use Rattle.check_scope.specs.declared.fault.CheckFault.{CheckFault}
use Rattle.check_scope.specs.declared.fault.CheckFault.TheVariants as checks
use Rattle.check_scope.specs.declared.fault.ExprFault.{ExprFault}
use Rattle.check_scope.specs.declared.fault.ExprFault.TheVariants as stops
use Rattle.check_fun.proofs.Counted.{stays_refl, stays_both, runs_bind, runs_then, fails_bind, fails_then, fails_later, fails_after}

-- ---- what stays

pub same_scope_after : (l : Shelf) (old now : State) → Stays old now → scope_in l now ≡ scope_in l old
same_scope_after l old now s = rw (s.this, s.results, s.statics, s.held) refl

pub same_checker_after : (l : Shelf) (old now : State) → Stays old now → checker_at l now ≡ checker_at l old
same_checker_after l old now s = rw s.this refl

-- ---- steps that ask for no instance

-- a walk that ends at once
abbrev pub Ends : {A : Type 0} → Walk A → Type 0
Ends (answer a) = ⊤
Ends (broken e) = ⊤
Ends (counted w) = ⊥
Ends (asked k goes) = ⊥

-- a check that neither counts nor asks
pub record Silent {A : Type 0} (m : Check A) : Type 0 where
  pub runs : (c : Context) → Ends (m c)

-- what the reading with known signatures tells of the other
abbrev Follows : {A : Type 0} → Result (A × Counts × ℕ) Fault → Counts → Result (A × ℕ) Stop → Type 0
Follows whole c (Ok r) = whole ≡ Ok (r.0, c, r.1)
Follows whole c (Err (fault e)) = whole ≡ Err e
Follows whole c (Err (wanted k)) = ⊥

follows : {A : Type 0} (check : Checker) (d : ℕ) (w : Walk A) → Ends w → (c : Counts) (h : ℕ) → Follows (with_counts check d w c h) c (with_known d c.met w h)
follows check d (answer a) u c h = refl
follows check d (broken e) u c h = refl
follows check d (counted w) u c h = absurd u
follows check d (asked k goes) u c h = absurd u

pub none_wanted : {A : Type 0} (m : Check A) (old now : State) (f : ExprFault) (k : InstanceKey) → Silent m → f ≡ stops.Wanted k → ((met : Signatures) → Stops met m old f now) → ⊥
none_wanted m old now f k q e r =
    let check : Checker = λ d key c. Err (over Walked) in
    let c : Counts = record { walked = 0; met = [] } in
    let w : with_known old.depth [] (m (context_of old)) old.height ≡ Err (wanted k) = (subst (λ x. Stops [] m old x now) e (r [])).runs in
    subst (λ x. Follows (with_counts check old.depth (m (context_of old)) c old.height) c x) w (follows check old.depth (m (context_of old)) (q.runs (context_of old)) c old.height)

pub stays_of : {old now : State} → Keeps old now → Stays old now
stays_of k = record { this = k.this; results = k.results; depth = k.depth; statics = k.statics; held = k.held }

pub runs_read : {A : Type 0} (check : Checker) (m : Check A) (old now : State) (c : Counts) (a : A) → Silent m → ((met : Signatures) → Reads met m old a now) → Runs check m old c a now c
runs_read check m old now c a q r = record {
  runs = subst (λ x. Follows (with_counts check old.depth (m (context_of old)) c old.height) c x) (r c.met).runs (follows check old.depth (m (context_of old)) (q.runs (context_of old)) c old.height);
  stays = stays_of (r c.met).keeps;
}

fails_by : {A : Type 0} (check : Checker) (m : Check A) (old : State) (c : Counts) (f : CheckFault) → Silent m → IfSome (stop_as (stops.Fault f)) (λ stop. with_known old.depth c.met (m (context_of old)) old.height ≡ Err stop) → Fails check m old c f
fails_by check m old c (checks.Broken number spot) q e = record { runs = subst (λ x. Follows (with_counts check old.depth (m (context_of old)) c old.height) c x) e (follows check old.depth (m (context_of old)) (q.runs (context_of old)) c old.height) }
fails_by check m old c (checks.Unsupported what spot) q e = record { runs = subst (λ x. Follows (with_counts check old.depth (m (context_of old)) c old.height) c x) e (follows check old.depth (m (context_of old)) (q.runs (context_of old)) c old.height) }
fails_by check m old c (checks.Limit kind) q e = record { runs = subst (λ x. Follows (with_counts check old.depth (m (context_of old)) c old.height) c x) e (follows check old.depth (m (context_of old)) (q.runs (context_of old)) c old.height) }
fails_by check m old c checks.Memory q e = record { runs = tt }

pub fails_read : {A : Type 0} (check : Checker) (m : Check A) (old now : State) (c : Counts) (f : CheckFault) → Silent m → ((met : Signatures) → Stops met m old (stops.Fault f) now) → Fails check m old c f
fails_read check m old now c f q r = fails_by check m old c f q (r c.met).runs

pub fails_memory : {A : Type 0} (check : Checker) (m : Check A) (old : State) (c : Counts) → Fails check m old c checks.Memory
fails_memory check m old c = record { runs = tt }

ends_bind : {A B : Type 0} (w : Walk A) (f : A → Walk B) → Ends w → ((a : A) → Ends (f a)) → Ends (bind w f)
ends_bind (answer a) f u h = h a
ends_bind (broken e) f u h = tt
ends_bind (counted w) f u h = absurd u
ends_bind (asked k goes) f u h = absurd u

silent_then : {A B : Type 0} (m : Check A) (n : Check B) → Silent m → Silent n → Silent (m >> n)
unfolding ◌>>◌
silent_then m n p q = record { runs = λ c. ends_bind (m c) (λ r. n r.1) (p.runs c) (λ r. q.runs r.1) }

silent_result : {A : Type 0} (r : Result A Fault) → Silent (of_result r)
silent_result (Ok a) = record { runs = λ c. tt }
silent_result (Err e) = record { runs = λ c. tt }

silent_unknown : (o : Option Spot) (c : Context) → Ends (unknown_at o c)
silent_unknown None c = tt
silent_unknown (Some s) c = tt

pub silent_needed : (sc : Scope) (e : Expression) → Silent (needed sc e)
silent_needed sc e = silent_then (known_names sc e) (of_result (needed_at sc.statics e (at e))) (record { runs = λ c. silent_unknown (first_unknown (is_known_name sc c.vars) (names e)) c }) (silent_result (needed_at sc.statics e (at e)))

rules_end : (s : Spot) (rs : List (Bool × ℕ)) (c : Context) → Ends (rules s rs c)
unfolding rules
rules_end s [] c = tt
rules_end s (r ∷ rs) c = step r.0 (rules_end s rs c)
  where
    step : (b : Bool) → Ends (rules s rs c) → Ends (cond b (fail (rule r.1 s)) (rules s rs) c)
    step true u = tt
    step false u = u

pub silent_rules : (s : Spot) (rs : List (Bool × ℕ)) → Silent (rules s rs)
silent_rules s rs = record { runs = λ c. rules_end s rs c }

-- ---- one rule

rule_passed : (s : Spot) (b : Bool) (n : ℕ) → b ≡ false → rules s ((b, n) ∷ []) ≡ pass
unfolding rules
rule_passed s b n e = rw e refl

rule_broken : (s : Spot) (b : Bool) (n : ℕ) → b ≡ true → rules s ((b, n) ∷ []) ≡ fail (rule n s)
unfolding rules
rule_broken s b n e = rw e refl

pub runs_rule : (check : Checker) (s : Spot) (b : Bool) (n : ℕ) (x : State) (c : Counts) → b ≡ false → Runs check (rules s ((b, n) ∷ [])) x c tt x c
runs_rule check s b n x c e = rw (rule_passed s b n e) (record { runs = refl; stays = stays_refl x })

pub fails_rule : (check : Checker) (s : Spot) (b : Bool) (n : ℕ) (x : State) (c : Counts) → b ≡ true → Fails check (rules s ((b, n) ∷ [])) x c (checks.Broken n s)
fails_rule check s b n x c e = rw (rule_broken s b n e) (record { runs = refl })

-- ---- a check of which the rest is left

-- what the rest does from here, the whole does from the start
pub record Ahead {A : Type 0} (check : Checker) (rest whole : Check A) (old : State) (c : Counts) (now : State) (d : Counts) : Type 0 where
  pub runs : (a : A) (end : State) (e : Counts) → Runs check rest now d a end e → Runs check whole old c a end e
  pub fails : (f : CheckFault) → Fails check rest now d f → Fails check whole old c f
  pub stays : Stays old now

pub ahead_start : {A : Type 0} (check : Checker) (m : Check A) (old : State) (c : Counts) → Ahead check m m old c old c
ahead_start check m old c = record { runs = λ a end e r. r; fails = λ f r. r; stays = stays_refl old }

pub ahead_then : {A B : Type 0} (check : Checker) (m : Check B) (rest whole : Check A) (old now mid : State) (c d e : Counts) (b : B) → Ahead check (m >> rest) whole old c now d → Runs check m now d b mid e → Ahead check rest whole old c mid e
ahead_then check m rest whole old now mid c d e b w r = record {
  runs = λ a end u q. w.runs a end u (runs_then check m rest now mid end d e u b a r q);
  fails = λ f q. w.fails f (fails_after check m rest now mid d e b f r q);
  stays = stays_both w.stays r.stays;
}

pub ahead_stops : {A B : Type 0} (check : Checker) (m : Check B) (rest whole : Check A) (old now : State) (c d : Counts) (f : CheckFault) → Ahead check (m >> rest) whole old c now d → Fails check m now d f → Fails check whole old c f
ahead_stops check m rest whole old now c d f w r = w.fails f (fails_then check m rest now d f r)

-- ---- the count of a statement

pub runs_counted : (check : Checker) (s : State) (c d : Counts) → c.walked < 1000000 → d ≡ record c { walked = c.walked + 1 } → Runs check count_statement s c tt s d
runs_counted check s c d l e = record {
  runs = rw (lt-ltb c.walked 1000000 l, e) (ap (λ n. Ok ((tt, context_of s), record c { walked = n }, s.height)) (sym (add-one c.walked)));
  stays = stays_refl s;
}

pub fails_counted : (check : Checker) (s : State) (c : Counts) → 1000000 ≤ c.walked → Fails check count_statement s c (checks.Limit Walked)
fails_counted check s c l = record { runs = rw (le-ltb c.walked 1000000 l) refl }

-- ---- what `?` hands on

pub if_err_from : {A E : Type 0} (r : Result A E) (x : E) (P : E → Type 0) → IsErrAnd r (λ e. e ≡ x) → P x → IfErr r P
if_err_from (Ok a) x P h p = tt
if_err_from (Err e) x P h p = subst P (sym h) p

-- ---- statements in turn

pub stmts_more : (l : Shelf) (e : ExprId → Expression) (st : StmtId → Statement) (whole : Check (Unit {0})) (ids : List StmtId) (i : ℕ) (k : StmtId) (old now mid : State) (c d u : Counts) → i < length ids →
    Ahead (checker_at l old) (stmts (statements_of e st (drop i ids)) (scope_in l old)) whole old c now d → Runs (checker_at l now) (stmt (st (get_or ids i k)) (scope_in l now)) now d tt mid u →
    Ahead (checker_at l old) (stmts (statements_of e st (drop (i + 1) ids)) (scope_in l old)) whole old c mid u
stmts_more l e st whole ids i k old now mid c d u h w r =
    ahead_then (checker_at l old) (stmt (st (get_or ids i k)) (scope_in l old)) (stmts (statements_of e st (drop (i + 1) ids)) (scope_in l old)) whole old now mid c d u tt
    (subst (λ ss. Ahead (checker_at l old) (stmts ss (scope_in l old)) whole old c now d) (statements_of-drop e st ids i k h) w)
    (subst (λ sc. Runs (checker_at l old) (stmt (st (get_or ids i k)) sc) now d tt mid u) (same_scope_after l old now w.stays) (subst (λ check. Runs check (stmt (st (get_or ids i k)) (scope_in l now)) now d tt mid u) (same_checker_after l old now w.stays) r))

pub stmts_stop : (l : Shelf) (e : ExprId → Expression) (st : StmtId → Statement) (whole : Check (Unit {0})) (ids : List StmtId) (i : ℕ) (k : StmtId) (old now : State) (c d : Counts) (f : CheckFault) → i < length ids →
    Ahead (checker_at l old) (stmts (statements_of e st (drop i ids)) (scope_in l old)) whole old c now d → Fails (checker_at l now) (stmt (st (get_or ids i k)) (scope_in l now)) now d f → Fails (checker_at l old) whole old c f
stmts_stop l e st whole ids i k old now c d f h w r =
    ahead_stops (checker_at l old) (stmt (st (get_or ids i k)) (scope_in l old)) (stmts (statements_of e st (drop (i + 1) ids)) (scope_in l old)) whole old now c d f
    (subst (λ ss. Ahead (checker_at l old) (stmts ss (scope_in l old)) whole old c now d) (statements_of-drop e st ids i k h) w)
    (subst (λ sc. Fails (checker_at l old) (stmt (st (get_or ids i k)) sc) now d f) (same_scope_after l old now w.stays) (subst (λ check. Fails check (stmt (st (get_or ids i k)) (scope_in l now)) now d f) (same_checker_after l old now w.stays) r))

pub stmts_all : (l : Shelf) (e : ExprId → Expression) (st : StmtId → Statement) (whole : Check (Unit {0})) (ids : List StmtId) (i : ℕ) (old now : State) (c d : Counts) → length ids ≤ i →
    Ahead (checker_at l old) (stmts (statements_of e st (drop i ids)) (scope_in l old)) whole old c now d → Runs (checker_at l old) whole old c tt now d
stmts_all l e st whole ids i old now c d h w = (subst (λ ss. Ahead (checker_at l old) (stmts ss (scope_in l old)) whole old c now d) (statements_of-end e st ids i h) w).runs tt now d (record { runs = refl; stays = stays_refl now })
