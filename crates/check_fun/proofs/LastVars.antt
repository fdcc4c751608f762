-- The ends of blocks and of variables.
use Rattle.std.proofs.Common.{◌≡◌, refl, ℕ, ◌+◌, ◌<◌, ◌≤◌, Bool, true, false, List, [], ◌∷◌, ◌∙◌, sym, ap, subst, drop, get_or, length, arith, take}
use Rattle.std.proofs.lemmas.List.{drop_more, drop_all}
use Rattle.silq_tree.specs.declared.node.Spot.{Spot}
use Rattle.silq_types.specs.Rules.{rule, linear_left}
use Rattle.std.specs.Prelude.{None}
use Rattle.silq_types.specs.declared.types.Shape.TheVariants.{Bit}
use Rattle.silq_types.specs.declared.values.Origin.TheVariants.{Held}
use Rattle.silq_types.specs.declared.values.Var.{Var}
use Rattle.check_scope.specs.Walk.{Counts, Checker}
use Rattle.check_scope.specs.Context.{Check, ◌>>◌, rules, put_variables, replace}
use Rattle.check_fun.specs.Counting.{Runs, Fails}
use Rattle.check_scope.specs.State.{State}
use Rattle.check_fun.specs.Statement.{none_left, end_from, end_var, is_live_linear}
use Rattle.check_scope.specs.declared.fault.CheckFault.{CheckFault}
use Rattle.check_scope.specs.declared.fault.CheckFault.TheVariants as checks
use Rattle.check_fun.proofs.Counted.{stays_refl, runs_pass, runs_then, fails_then, fails_after}
use Rattle.check_fun.proofs.Stepped.{runs_put, fails_one}

-- what the end of the variables from number i on says, that of all says
pub record Passed (vars : List Var) (n i : ℕ) (s : Spot) : Type 0 where
  pub same : none_left (drop i vars) s ≡ none_left (drop n vars) s

pub passed_first : (vars : List Var) (n : ℕ) (s : Spot) → Passed vars n n s
passed_first vars n s = record { same = refl }

skip_var : (v : Var) (vs : List Var) (s : Spot) → is_live_linear v ≡ false → none_left (v ∷ vs) s ≡ none_left vs s
unfolding ◌>>◌ rules
skip_var v vs s e = rw e refl

pub passed_more : (vars : List Var) (n i : ℕ) (s : Spot) (d : Var) → Passed vars n i s → i < length vars → is_live_linear (get_or vars i d) ≡ false → Passed vars n (i + 1) s
passed_more vars n i s d p l e = record { same = sym (ap (λ vs. none_left vs s) (drop_more vars i d l) ∙ skip_var (get_or vars i d) (drop (i + 1) vars) s e) ∙ p.same }

pub runs_left : (check : Checker) (vars : List Var) (n i : ℕ) (s : Spot) → Passed vars n i s → length vars ≤ i → (old : State) (c : Counts) → Runs check (none_left (drop n vars) s) old c tt old c
runs_left check vars n i s p l old c = subst (λ m. Runs check m old c tt old c) (sym (ap (λ vs. none_left vs s) (drop_all i vars l)) ∙ p.same) (runs_pass check old c)

pub fails_left : (check : Checker) (vars : List Var) (n i : ℕ) (s : Spot) (d : Var) → Passed vars n i s → i < length vars → is_live_linear (get_or vars i d) ≡ true → (old : State) (c : Counts) → Fails check (none_left (drop n vars) s) old c (checks.Broken linear_left s)
fails_left check vars n i s d p l e old c =
    subst (λ m. Fails check m old c (checks.Broken linear_left s)) (sym (ap (λ vs. none_left vs s) (drop_more vars i d l)) ∙ p.same)
    (fails_then check (rules s ((is_live_linear (get_or vars i d), linear_left) ∷ [])) (none_left (drop (i + 1) vars) s) old c (checks.Broken linear_left s) (fails_one check s (is_live_linear (get_or vars i d)) linear_left old c e))

pub runs_end : (check : Checker) (n : ℕ) (s : Spot) (old now : State) (c : Counts) → Runs check (none_left (drop n old.vars) s) old c tt old c → now ≡ record old { vars = take n old.vars; start = take n old.vars } → Runs check (end_from n s) old c tt now c
runs_end check n s old now c r e =
    let both = runs_then check (none_left (drop n old.vars) s) (put_variables (take n old.vars)) old old now c c c tt tt r (runs_put check (take n old.vars) old now c (take n old.vars) e) in
    record { runs = both.runs; stays = both.stays }

pub fails_end : (check : Checker) (n : ℕ) (s : Spot) (old : State) (c : Counts) (f : CheckFault) → Fails check (none_left (drop n old.vars) s) old c f → Fails check (end_from n s) old c f
fails_end check n s old c f r = record { runs = (fails_then check (none_left (drop n old.vars) s) (put_variables (take n old.vars)) old c f r).runs }

pub runs_end_var : (check : Checker) (v : Var) (old now : State) (c : Counts) → now ≡ record old { vars = replace old.vars (record v { consumed = true }); start = replace old.vars (record v { consumed = true }) } → Runs check (end_var v) old c tt now c
runs_end_var check v old now c e = let put = runs_put check (replace old.vars (record v { consumed = true })) old now c (replace old.vars (record v { consumed = true })) e in record { runs = put.runs; stays = put.stays }

abbrev pub no_var : Var
no_var = record { part = record { name = record { number = 0 }; first = None; second = None }; ty = record { classical = false; shape = Bit }; origin = Held; place = 0; consumed = false }
