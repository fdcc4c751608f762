-- Checks that count no statement, held with counts, and what the steps of statements share.
use Rattle.std.specs.Prelude.{◌≡◌, refl, ℕ, Bool, true, false, List, [], ◌∷◌, ◌++◌, Option, Some, None, Result, Ok, Err, IfSome, IfErr, max, ⊤}
use Rattle.std.specs.Result.{IsErrAnd}
use mathlib.Core.Path.{sym, ap, ◌∙◌, subst}
use Rattle.silq_tree.specs.declared.node.Spot.{Spot}
use Rattle.silq_types.specs.Rules.{Fault, rule, over, and_then}
use Rattle.silq_types.specs.Known.{Signatures}
use Rattle.silq_types.specs.declared.signature.InstanceKey.{InstanceKey}
use Rattle.silq_types.specs.declared.signature.Signature.{Signature}
use Rattle.silq_types.specs.declared.values.Var.{Var}
use Rattle.check_scope.specs.Walk.{Walk, answer, broken, counted, asked, Met, known, limited, new, meet, Stop, fault, wanted, known_or_stop, with_known, Counts, Checker, known_or_checked, with_counts}
use Rattle.check_scope.specs.Context.{Context, Check, ◌>>=◌, ◌>>◌, give_back, pass, fail, rules, put_variables, new_place}
use Rattle.check_fun.specs.Counting.{Stays, Runs, Fails, checker_at}
use Rattle.check_scope.specs.Faults.{fault_as, stop_as}
use Rattle.check_scope.specs.Library.{Shelf}
use Rattle.check_scope.specs.Reading.{Uncounted}
use Rattle.check_scope.specs.State.{State, Keeps, scope_in, context_of}
use Rattle.check_scope.specs.Steps.{Reads, Stops}
use Rattle.check_fun.specs.Stepping.{fault_in}
use Rattle.check_scope.specs.declared.fault.CheckFault.{CheckFault}
use Rattle.check_scope.specs.declared.fault.CheckFault.TheVariants as checks
use Rattle.check_scope.specs.declared.fault.ExprFault.{ExprFault}
use Rattle.check_scope.specs.declared.fault.ExprFault.TheVariants as stops
use Rattle.check_fun.proofs.Counted.{stays_refl, runs_then, fails_then, fails_after}
use Rattle.check_expr.proofs.Quiet.{Quiet}

-- ---- what is not changed

pub same_scope_after : (l : Shelf) (old now : State) → Stays old now → scope_in l now ≡ scope_in l old
same_scope_after l old now k = rw (k.this, k.results, k.statics, k.held) refl

pub same_checker_after : (l : Shelf) (old now : State) → Stays old now → checker_at l now ≡ checker_at l old
same_checker_after l old now k = rw k.this refl

stays_of : {old now : State} → Keeps old now → Stays old now
stays_of k = record { this = k.this; results = k.results; depth = k.depth; statics = k.statics; held = k.held }

-- ---- with counts

-- what the reading with known signatures says of that with counts
Goes : {A : Type 0} → Result (A × Counts × ℕ) Fault → Counts → Result (A × ℕ) Stop → Type 0
Goes whole c (Ok r) = whole ≡ Ok (r.0, c, r.1)
Goes whole c (Err (fault e)) = whole ≡ Err e
Goes whole c (Err (wanted k)) = ⊤

goes : {A : Type 0} (check : Checker) (d : ℕ) (w : Walk A) → Uncounted w → (c : Counts) (h : ℕ) → Goes (with_counts check d w c h) c (with_known d c.met w h)
unfolding Goes
goes check d (answer a) u c h = refl
goes check d (broken e) u c h = refl
goes check d (counted w) u c h = absurd u
goes {A = A} check d (asked k next) u c h = step (λ s. goes check d (next s) (u s) c (max h s.height)) (meet d c.met k)
  where
    step : ((s : Signature) → Goes (with_counts check d (next s) c (max h s.height)) c (with_known d c.met (next s) (max h s.height))) → (m : Met) → Goes (and_then (known_or_checked check d m k c) (λ r. with_counts check d (next r.0) r.1 (max h r.0.height))) c (and_then (known_or_stop m k) (λ s. with_known d c.met (next s) (max h s.height)))
    step ih (known s) = ih s
    step ih (limited l) = refl
    step ih new = tt

pub runs_quiet : {A : Type 0} (check : Checker) (m : Check A) (old now : State) (c : Counts) (a : A) → Quiet m → Reads c.met m old a now → Runs check m old c a now c
unfolding Goes
runs_quiet check m old now c a q r = record {
  runs = subst (Goes (with_counts check old.depth (m (context_of old)) c old.height) c) r.runs (goes check old.depth (m (context_of old)) (q.runs (context_of old)) c old.height);
  stays = stays_of r.keeps;
}

pub fails_quiet : {A : Type 0} (check : Checker) (m : Check A) (old now : State) (c : Counts) (f : ExprFault) → Quiet m → Stops c.met m old f now → Fails check m old c (fault_in f)
unfolding Goes
fails_quiet check m old now c (stops.Wanted k) q r = record { runs = tt }
fails_quiet check m old now c (stops.Fault checks.Memory) q r = record { runs = tt }
fails_quiet check m old now c (stops.Fault (checks.Broken n s)) q r = record { runs = subst (Goes (with_counts check old.depth (m (context_of old)) c old.height) c) r.runs (goes check old.depth (m (context_of old)) (q.runs (context_of old)) c old.height) }
fails_quiet check m old now c (stops.Fault (checks.Unsupported w s)) q r = record { runs = subst (Goes (with_counts check old.depth (m (context_of old)) c old.height) c) r.runs (goes check old.depth (m (context_of old)) (q.runs (context_of old)) c old.height) }
fails_quiet check m old now c (stops.Fault (checks.Limit l)) q r = record { runs = subst (Goes (with_counts check old.depth (m (context_of old)) c old.height) c) r.runs (goes check old.depth (m (context_of old)) (q.runs (context_of old)) c old.height) }

-- ---- rules, and no memory

pub fails_memory : {A : Type 0} (check : Checker) (m : Check A) (old : State) (c : Counts) → Fails check m old c checks.Memory
fails_memory check m old c = record { runs = tt }

pub fails_broken : {A : Type 0} (check : Checker) (old : State) (c : Counts) (n : ℕ) (s : Spot) → Fails {A = A} check (fail (rule n s)) old c (checks.Broken n s)
fails_broken check old c n s = record { runs = refl }

rules_split : (s : Spot) (ps qs : List (Bool × ℕ)) (c : Context) → rules s (ps ++ qs) c ≡ (rules s ps >> rules s qs) c
unfolding ◌>>◌ rules
rules_split s [] qs c = refl
rules_split s (p ∷ ps) qs c = go p.0 (rules_split s ps qs c)
  where
    go : (b : Bool) → rules s (ps ++ qs) c ≡ (rules s ps >> rules s qs) c → Rattle.std.specs.Prelude.cond b (fail (rule p.1 s)) (rules s (ps ++ qs)) c ≡ (Rattle.std.specs.Prelude.cond b (fail (rule p.1 s)) (rules s ps) >> rules s qs) c
    go true ih = refl
    go false ih = ih

-- the same check at this context
runs_same : {A : Type 0} (check : Checker) (m n : Check A) (old now : State) (c d : Counts) (a : A) → n (context_of old) ≡ m (context_of old) → Runs check m old c a now d → Runs check n old c a now d
runs_same check m n old now c d a e r = record { runs = subst (λ w. with_counts check old.depth w c old.height ≡ Ok ((a, context_of now), d, now.height)) (sym e) r.runs; stays = r.stays }

fails_same : {A : Type 0} (check : Checker) (m n : Check A) (old : State) (c : Counts) (f : CheckFault) → n (context_of old) ≡ m (context_of old) → Fails check m old c f → Fails check n old c f
fails_same check m n old c f e r = record { runs = subst (λ w. IfSome (fault_as f) (λ first. with_counts check old.depth w c old.height ≡ Err first)) (sym e) r.runs }

-- rules in two groups
pub runs_rules : (check : Checker) (s : Spot) (ps qs : List (Bool × ℕ)) (old : State) (c : Counts) → Runs check (rules s ps) old c tt old c → Runs check (rules s qs) old c tt old c → Runs check (rules s (ps ++ qs)) old c tt old c
runs_rules check s ps qs old c p q = runs_same check (rules s ps >> rules s qs) (rules s (ps ++ qs)) old old c c tt (rules_split s ps qs (context_of old)) (runs_then check (rules s ps) (rules s qs) old old old c c c tt tt p q)

pub fails_rules : (check : Checker) (s : Spot) (ps qs : List (Bool × ℕ)) (old : State) (c : Counts) (f : CheckFault) → Fails check (rules s ps) old c f → Fails check (rules s (ps ++ qs)) old c f
fails_rules check s ps qs old c f p = fails_same check (rules s ps >> rules s qs) (rules s (ps ++ qs)) old c f (rules_split s ps qs (context_of old)) (fails_then check (rules s ps) (rules s qs) old c f p)

pub fails_rules_later : (check : Checker) (s : Spot) (ps qs : List (Bool × ℕ)) (old : State) (c : Counts) (f : CheckFault) → Runs check (rules s ps) old c tt old c → Fails check (rules s qs) old c f → Fails check (rules s (ps ++ qs)) old c f
fails_rules_later check s ps qs old c f p q = fails_same check (rules s ps >> rules s qs) (rules s (ps ++ qs)) old c f (rules_split s ps qs (context_of old)) (fails_after check (rules s ps) (rules s qs) old old c c tt f p q)

-- one rule that is kept, or broken
pub runs_kept : (check : Checker) (s : Spot) (b : Bool) (n : ℕ) (old : State) (c : Counts) → b ≡ false → Runs check (rules s ((b, n) ∷ [])) old c tt old c
unfolding rules
runs_kept check s b n old c e = rw e (record { runs = refl; stays = stays_refl old })

pub fails_one : (check : Checker) (s : Spot) (b : Bool) (n : ℕ) (old : State) (c : Counts) → b ≡ true → Fails check (rules s ((b, n) ∷ [])) old c (checks.Broken n s)
unfolding rules
fails_one check s b n old c e = rw e (record { runs = refl })

-- ---- variables

-- only the variables are changed
pub runs_put : (check : Checker) (vars : List Var) (old now : State) (c : Counts) (start : List Var) → now ≡ record old { vars = vars; start = start } → Runs check (put_variables vars) old c tt now c
runs_put check vars old now c start e = rw e (record { runs = refl; stays = record { this = refl; results = refl; depth = refl; statics = refl; held = refl } })

-- ---- a fault that `?` passes on

pub passed : {A : Type 0} (r : Result A CheckFault) (f : CheckFault) (P : CheckFault → Type 0) → IsErrAnd r (λ g. g ≡ f) → P f → IfErr r P
passed (Ok a) f P h p = tt
passed (Err g) f P h p = subst P (sym h) p

-- one rule, by a test that is the same
pub runs_tested : (check : Checker) (s : Spot) (a b : Bool) (n : ℕ) (old : State) (c : Counts) → a ≡ b → Runs check (rules s ((a, n) ∷ [])) old c tt old c → Runs check (rules s ((b, n) ∷ [])) old c tt old c
runs_tested check s a b n old c e r = subst (λ (t : Bool). Runs check (rules s ((t, n) ∷ [])) old c tt old c) e r

pub fails_tested : (check : Checker) (s : Spot) (a b : Bool) (n : ℕ) (old : State) (c : Counts) (f : CheckFault) → a ≡ b → Fails check (rules s ((a, n) ∷ [])) old c f → Fails check (rules s ((b, n) ∷ [])) old c f
fails_tested check s a b n old c f e r = subst (λ (t : Bool). Fails check (rules s ((t, n) ∷ [])) old c f) e r

-- a new place leaves the variables
vars_in : List Var → Result ((ℕ × Context) × ℕ) Stop → List Var
vars_in d (Ok r) = r.0.1.vars
vars_in d (Err e) = d

pub fresh_vars : (old now : State) (p : ℕ) → Reads [] new_place old p now → now.vars ≡ old.vars
unfolding vars_in
fresh_vars old now p r = sym (ap (vars_in []) r.runs)
