-- Choices and loops.
use Rattle.std.proofs.Common.{◌≡◌, refl, ℕ, zero, suc, ◌+◌, ◌-◌, ◌<◌, ◌≤◌, Bool, true, false, List, [], ◌∷◌, ◌++◌, length, length-append, take, drop, get_or, ◌∙◌, sym, ap, subst, arith, rules, Result, Ok, Err, IfErr, OnOk}
use Rattle.std.specs.Prelude.{◌↔◌, ℤ, pos, negsuc, ◌+ℤ◌, ◌-ℤ◌, ◌<ℤ◌, ◌≤ℤ◌}
use Rattle.std.proofs.lemmas.Int.{ints, by_lt_z, to_z-of_z}
use Rattle.std.specs.Int.Signed.{lt_z}
use Rattle.std.proofs.Common.{w64, to_z, of_z, SFits}
use Rattle.std.proofs.Math.Numerals.{add-one}
use Rattle.check_fun.proofs.BlockBranches.{runs_plain}
use Rattle.std.proofs.lemmas.List.{take_at, take_all, take_more, map-append}
use Rattle.std.proofs.Math.Seq.{take-length, drop-length}
use Rattle.silq_tree.specs.declared.node.Spot.{Spot}
use Rattle.silq_tree.specs.declared.node.NameId.{NameId}
use Rattle.silq_tree.specs.Syntax.{Expression, Statement, Block, block, Otherwise, done}
use Rattle.static_num.specs.Static.{is_static, eval_of, is_true}
use Rattle.static_num.specs.declared.values.StaticFault.{StaticFault}
use Rattle.static_num.specs.declared.values.StaticFault.TheVariants.{NotStatic}
use Rattle.silq_types.specs.Rules.{Fault, rule, not_static}
use Rattle.silq_mean.specs.Written.{needed_at, or_not_static}
use Rattle.silq_types.specs.Types.{at}
use Rattle.silq_types.specs.declared.values.Part.{Part}
use Rattle.silq_types.specs.declared.values.Var.{Var}
use Rattle.check_scope.specs.declared.uses.Use.{Use}
use Rattle.check_scope.specs.Uses.{parts_of}
use Rattle.check_scope.specs.Walk.{Counts, Checker}
use Rattle.check_scope.specs.Context.{Scope, Context, Check, ◌>>=◌, ◌>>◌, give_back, pass, fail, of_result, variables, put_variables}
use Rattle.check_scope.specs.State.{State, context_of, scope_in}
use Rattle.check_scope.specs.Library.{Shelf}
use Rattle.check_fun.specs.Branches.{run_time_choice, taken_branch, round_of}
use Rattle.check_fun.specs.Counting.{Stays, Runs, Fails, checker_at, choice_step}
use Rattle.check_fun.specs.Statement.{stmts, otherwise, otherwise_end, plain_block, none_left, end_from, branch, both, condition, under, with_static, rounds, chosen}
use Rattle.silq_types.specs.Programs.{distance}
use Rattle.check_scope.specs.declared.fault.CheckFault.{CheckFault}
use Rattle.check_scope.specs.declared.fault.CheckFault.TheVariants as checks
use Rattle.check_fun.proofs.BlockSteps.{Ahead, ahead_then, ahead_stops, same_scope_after, same_checker_after}
use Rattle.check_fun.proofs.Counted.{stays_refl, stays_both, runs_bind, runs_then, runs_pass, runs_variables, fails_bind, fails_then, fails_later, fails_after}

-- ---- results

pub if_err_with : {A E : Type 0} (r : Result A E) (P Q : E → Type 0) → ((f : E) → P f → Q f) → IfErr r P → IfErr r Q
if_err_with (Ok a) P Q h p = tt
if_err_with (Err e) P Q h p = h e p

pub on_ok_with : {A E : Type 0} (r : Result A E) (P Q : Type 0) → (P → Q) → OnOk r P → OnOk r Q
on_ok_with (Ok a) P Q h p = h p
on_ok_with (Err e) P Q h p = tt

-- ---- what is there for a while

take_last : {A : Type 0} (xs : List A) (x : A) → take (length (xs ++ x ∷ []) - 1) (xs ++ x ∷ []) ≡ xs
take_last xs x = take_at xs (x ∷ []) (length (xs ++ x ∷ []) - 1) (omega (arith, length-append xs (x ∷ [])))

last_taken : {A : Type 0} (xs ys : List A) (x : A) → ys ≡ xs ++ x ∷ [] → take (length ys - 1) ys ≡ xs
last_taken xs ys x e = subst (λ zs. take (length zs - 1) zs ≡ xs) (sym e) (take_last xs x)

pub one_more : {A : Type 0} (xs ys : List A) (x : A) → ys ≡ xs ++ x ∷ [] → 0 < length ys
one_more xs ys x e = subst (λ zs. 0 < length zs) (sym e) (omega (arith, length-append xs (x ∷ [])))

abbrev bound_state : State → NameId → ℤ → State
bound_state s x v = record s { statics = s.statics ++ (x, v) ∷ [] }

abbrev held_state : State → List Part → State
held_state s ps = record s { held = s.held ++ ps ∷ [] }

module _ (l : Shelf) (F : Scope → Check (Unit {0})) (old : State) (c : Counts) where
  runs_unbound : (x : NameId) (v : ℤ) (mid now : State) (d : Counts) → Runs (checker_at l old) (F (with_static (scope_in l old) x v)) (bound_state old x v) c tt mid d → now ≡ record mid { statics = take (length mid.statics - 1) mid.statics } → Runs (checker_at l old) (F (with_static (scope_in l old) x v)) old c tt now d
  runs_unbound x v mid now d r e = rw e (record {
    runs = r.runs;
    stays = record { this = r.stays.this; results = r.stays.results; depth = r.stays.depth; statics = last_taken old.statics mid.statics (x, v) r.stays.statics; held = r.stays.held };
  })

  pub runs_bound : (x : NameId) (v : ℤ) (bound mid now : State) (d : Counts) → bound ≡ bound_state old x v → Runs (checker_at l bound) (F (scope_in l bound)) bound c tt mid d → now ≡ record mid { statics = take (length mid.statics - 1) mid.statics } → Runs (checker_at l old) (F (with_static (scope_in l old) x v)) old c tt now d
  runs_bound x v bound mid now d h r e = runs_unbound x v mid now d (subst (λ b. Runs (checker_at l b) (F (scope_in l b)) b c tt mid d) h r) e

  pub fails_bound : (x : NameId) (v : ℤ) (bound : State) (f : CheckFault) → bound ≡ bound_state old x v → Fails (checker_at l bound) (F (scope_in l bound)) bound c f → Fails (checker_at l old) (F (with_static (scope_in l old) x v)) old c f
  fails_bound x v bound f h r = let q : Fails (checker_at l old) (F (with_static (scope_in l old) x v)) (bound_state old x v) c f = subst (λ b. Fails (checker_at l b) (F (scope_in l b)) b c f) h r in record { runs = q.runs }

  runs_unheld : (ps : List Part) (mid now : State) (d : Counts) → Runs (checker_at l old) (F (under (scope_in l old) ps)) (held_state old ps) c tt mid d → now ≡ record mid { held = take (length mid.held - 1) mid.held } → Runs (checker_at l old) (F (under (scope_in l old) ps)) old c tt now d
  runs_unheld ps mid now d r e = rw e (record {
    runs = r.runs;
    stays = record { this = r.stays.this; results = r.stays.results; depth = r.stays.depth; statics = r.stays.statics; held = last_taken old.held mid.held ps r.stays.held };
  })

  pub runs_held : (ps : List Part) (held mid now : State) (d : Counts) → held ≡ held_state old ps → Runs (checker_at l held) (F (scope_in l held)) held c tt mid d → now ≡ record mid { held = take (length mid.held - 1) mid.held } → Runs (checker_at l old) (F (under (scope_in l old) ps)) old c tt now d
  runs_held ps held mid now d h r e = runs_unheld ps mid now d (subst (λ b. Runs (checker_at l b) (F (scope_in l b)) b c tt mid d) h r) e

  pub fails_held : (ps : List Part) (held : State) (f : CheckFault) → held ≡ held_state old ps → Fails (checker_at l held) (F (scope_in l held)) held c f → Fails (checker_at l old) (F (under (scope_in l old) ps)) old c f
  fails_held ps held f h r = let q : Fails (checker_at l old) (F (under (scope_in l old) ps)) (held_state old ps) c f = subst (λ b. Fails (checker_at l b) (F (scope_in l b)) b c f) h r in record { runs = q.runs }

-- ---- run-time choices

module _ (l : Shelf) (e : Expression) (F : Scope → Check (Unit {0})) (old : State) (c : Counts) where
  abbrev pub chosen_later : Check (Unit {0})
  chosen_later = condition (scope_in l old) e >>= (λ ps. F (under (scope_in l old) ps))

  pub runs_chosen : (ps : List Part) (mid held last now : State) (d u : Counts) → Runs (checker_at l old) (condition (scope_in l old) e) old c ps mid d → held ≡ held_state mid ps → Runs (checker_at l held) (F (scope_in l held)) held d tt last u → now ≡ record last { held = take (length last.held - 1) last.held } → Runs (checker_at l old) chosen_later old c tt now u
  runs_chosen ps mid held last now d u r h q t =
      runs_bind (checker_at l old) (condition (scope_in l old) e) (λ qs. F (under (scope_in l old) qs)) old mid now c d u ps tt r
      (subst (λ sc. Runs (checker_at l old) (F (under sc ps)) mid d tt now u) (same_scope_after l old mid r.stays) (subst (λ check. Runs check (F (under (scope_in l mid) ps)) mid d tt now u) (same_checker_after l old mid r.stays) (runs_held l F mid d ps held last now u h q t)))

  pub fails_condition : (f : CheckFault) → Fails (checker_at l old) (condition (scope_in l old) e) old c f → Fails (checker_at l old) chosen_later old c f
  fails_condition f r = fails_bind (checker_at l old) (condition (scope_in l old) e) (λ qs. F (under (scope_in l old) qs)) old c f r

  pub fails_chosen : (ps : List Part) (mid held : State) (d : Counts) (f : CheckFault) → Runs (checker_at l old) (condition (scope_in l old) e) old c ps mid d → held ≡ held_state mid ps → Fails (checker_at l held) (F (scope_in l held)) held d f → Fails (checker_at l old) chosen_later old c f
  fails_chosen ps mid held d f r h q =
      fails_later (checker_at l old) (condition (scope_in l old) e) (λ qs. F (under (scope_in l old) qs)) old mid c d ps f r
      (subst (λ sc. Fails (checker_at l old) (F (under sc ps)) mid d f) (same_scope_after l old mid r.stays) (subst (λ check. Fails check (F (under (scope_in l mid) ps)) mid d f) (same_checker_after l old mid r.stays) (fails_held l F mid d ps held f h q)))

-- ---- static choices

pub taken_first : (sc : Scope) (b : Bool) (bl : Block) (o : Otherwise) → b ≡ true → taken_branch sc true bl o ≡ taken_branch sc b bl o
taken_first sc b bl o e = rw e refl

pub taken_other : (sc : Scope) (b : Bool) (bl : Block) (o : Otherwise) → b ≡ false → taken_branch sc false bl o ≡ taken_branch sc b bl o
taken_other sc b bl o e = rw e refl

static_told : (b : Bool) (r : Result ℤ StaticFault) → ((r ≡ Err NotStatic) ↔ (b ≡ false)) → (r ≡ Err NotStatic → ⊥) → b ≡ true
static_told true r h n = refl
static_told false r h n = absurd (n (h.1 refl))

choice_static : (sc : Scope) (e : Expression) (bl : Block) (o : Otherwise) → is_static sc.statics e ≡ true → choice_step sc e bl o ≡ (of_result (needed_at sc.statics e (at e)) >>= (λ z. taken_branch sc (is_true z) bl o))
choice_static sc e (block ss end) o h = rw h refl

choice_later : (sc : Scope) (e : Expression) (bl : Block) (o : Otherwise) → is_static sc.statics e ≡ false → choice_step sc e bl o ≡ run_time_choice sc e bl o
choice_later sc e (block ss end) o h = rw h refl

module _ (check : Checker) (sc : Scope) (e : Expression) (bl : Block) (o : Otherwise) (old : State) (c : Counts) (r : Result ℤ StaticFault) (value : r ≡ eval_of sc.statics e) (told : (r ≡ Err NotStatic) ↔ (is_static sc.statics e ≡ false)) where
  result_runs : (z : ℤ) → r ≡ Ok z → Runs check (of_result (needed_at sc.statics e (at e))) old c z old c
  result_runs z h = subst (λ x. Runs check (of_result (or_not_static (at e) x)) old c z old c) (sym h ∙ value) (record { runs = refl; stays = stays_refl old })

  pub runs_static : (z : ℤ) (b : Bool) (now : State) (d : Counts) → r ≡ Ok z → b ≡ is_true z → Runs check (taken_branch sc b bl o) old c tt now d → Runs check (choice_step sc e bl o) old c tt now d
  runs_static z b now d h k q =
      subst (λ m. Runs check m old c tt now d) (sym (choice_static sc e bl o (static_told _ r told (λ n. cc))))
      (runs_bind check (of_result (needed_at sc.statics e (at e))) (λ y. taken_branch sc (is_true y) bl o) old old now c c d z tt (result_runs z h) (subst (λ x. Runs check (taken_branch sc x bl o) old c tt now d) k q))

  pub fails_static : (z : ℤ) (b : Bool) (f : CheckFault) → r ≡ Ok z → b ≡ is_true z → Fails check (taken_branch sc b bl o) old c f → Fails check (choice_step sc e bl o) old c f
  fails_static z b f h k q =
      subst (λ m. Fails check m old c f) (sym (choice_static sc e bl o (static_told _ r told (λ n. cc))))
      (fails_later check (of_result (needed_at sc.statics e (at e))) (λ y. taken_branch sc (is_true y) bl o) old old c c z f (result_runs z h) (subst (λ x. Fails check (taken_branch sc x bl o) old c f) k q))

  pub fails_value : (g : StaticFault) → r ≡ Err g → (g ≡ NotStatic → ⊥) → Fails check (choice_step sc e bl o) old c (checks.Broken not_static (at e))
  fails_value g h n =
      subst (λ m. Fails check m old c (checks.Broken not_static (at e))) (sym (choice_static sc e bl o (static_told _ r told (λ k. n (cc)))))
      (fails_bind check (of_result (needed_at sc.statics e (at e))) (λ y. taken_branch sc (is_true y) bl o) old c (checks.Broken not_static (at e)) (subst (λ x. Fails check (of_result (or_not_static (at e) x)) old c (checks.Broken not_static (at e))) (sym h ∙ value) (record { runs = refl })))

  pub runs_later : (now : State) (d : Counts) → r ≡ Err NotStatic → Runs check (run_time_choice sc e bl o) old c tt now d → Runs check (choice_step sc e bl o) old c tt now d
  runs_later now d h q = subst (λ m. Runs check m old c tt now d) (sym (choice_later sc e bl o (told.0 h))) q

  pub fails_run_time : (f : CheckFault) → r ≡ Err NotStatic → Fails check (run_time_choice sc e bl o) old c f → Fails check (choice_step sc e bl o) old c f
  fails_run_time f h q = subst (λ m. Fails check m old c f) (sym (choice_later sc e bl o (told.0 h))) q

-- ---- rounds

one_less : (x y : ℤ) → x ≡ y +ℤ pos 1 → pos 0 <ℤ x → distance x ≡ suc (distance y)
one_less x (pos n) e l = ap distance e ∙ add-one n
one_less x (negsuc n) e l = absurd (omega (arith, ints, e, l))

none_far : (x : ℤ) → x ≤ℤ pos 0 → distance x ≡ 0
none_far (pos n) l = omega (arith, ints, l)
none_far (negsuc n) l = refl

pub next_distance : (past value : ℤ) → value <ℤ past → distance (past -ℤ value) ≡ suc (distance (past -ℤ (value +ℤ pos 1)))
next_distance past value l = one_less (past -ℤ value) (past -ℤ (value +ℤ pos 1)) (omega (arith, ints)) (omega (arith, ints, l))

pub no_distance : (past value : ℤ) → past ≤ℤ value → distance (past -ℤ value) ≡ 0
no_distance past value l = none_far (past -ℤ value) (omega (arith, ints, l))

module _ (l : Shelf) (f : ℤ → Check (Unit {0})) (whole : Check (Unit {0})) (past : ℤ) (old now : State) (c d : Counts) where
  abbrev pub Left : ℤ → State → Counts → Type 0
  Left value s u = Ahead (checker_at l old) (rounds f value (distance (past -ℤ value))) whole old c s u

  opened : (value : ℤ) → value <ℤ past → Left value now d → Ahead (checker_at l old) (f value >> rounds f (value +ℤ pos 1) (distance (past -ℤ (value +ℤ pos 1)))) whole old c now d
  opened value h w = subst (λ n. Ahead (checker_at l old) (rounds f value n) whole old c now d) (next_distance past value h) w

  pub rounds_more : (value : ℤ) (mid : State) (u : Counts) → value <ℤ past → Left value now d → Runs (checker_at l old) (f value) now d tt mid u → Left (value +ℤ pos 1) mid u
  rounds_more value mid u h w r = ahead_then (checker_at l old) (f value) (rounds f (value +ℤ pos 1) (distance (past -ℤ (value +ℤ pos 1)))) whole old now mid c d u tt (opened value h w) r

  pub rounds_stop : (value : ℤ) (g : CheckFault) → value <ℤ past → Left value now d → Fails (checker_at l old) (f value) now d g → Fails (checker_at l old) whole old c g
  rounds_stop value g h w r = ahead_stops (checker_at l old) (f value) (rounds f (value +ℤ pos 1) (distance (past -ℤ (value +ℤ pos 1)))) whole old now c d g (opened value h w) r

  pub rounds_all : (value : ℤ) → past ≤ℤ value → Left value now d → Runs (checker_at l old) whole old c tt now d
  rounds_all value h w = (subst (λ n. Ahead (checker_at l old) (rounds f value n) whole old c now d) (no_distance past value h) w).runs tt now d (runs_pass (checker_at l old) now d)

-- a round is the same where the state stays
module _ (l : Shelf) (x : NameId) (b : Block) (old now : State) (d : Counts) (k : Stays old now) (v : ℤ) where
  pub round_runs : (mid : State) (u : Counts) → Runs (checker_at l now) (round_of (scope_in l now) x b v) now d tt mid u → Runs (checker_at l old) (round_of (scope_in l old) x b v) now d tt mid u
  round_runs mid u r = subst (λ sc. Runs (checker_at l old) (round_of sc x b v) now d tt mid u) (same_scope_after l old now k) (subst (λ check. Runs check (round_of (scope_in l now) x b v) now d tt mid u) (same_checker_after l old now k) r)

  pub round_fails : (g : CheckFault) → Fails (checker_at l now) (round_of (scope_in l now) x b v) now d g → Fails (checker_at l old) (round_of (scope_in l old) x b v) now d g
  round_fails g r = subst (λ sc. Fails (checker_at l old) (round_of sc x b v) now d g) (same_scope_after l old now k) (subst (λ check. Fails check (round_of (scope_in l now) x b v) now d g) (same_checker_after l old now k) r)

-- ---- rounds of an empty body

module _ (check : Checker) (end : Spot) (s : State) (c : Counts) where
  nothing_then : Runs check (none_left [] end >> put_variables s.vars) s c tt s c
  nothing_then = runs_then check (none_left [] end) (put_variables s.vars) s s s c c c tt tt (runs_pass check s c) (record { runs = refl; stays = stays_refl s })

  end_nothing : Runs check (end_from (length s.vars) end) s c tt s c
  end_nothing =
      let q : Runs check (none_left (drop (length s.vars) s.vars) end >> put_variables (take (length s.vars) s.vars)) s c tt s c =
      subst (λ vs. Runs check (none_left vs end >> put_variables (take (length s.vars) s.vars)) s c tt s c) (sym (drop-length s.vars))
      (subst (λ vs. Runs check (none_left [] end >> put_variables vs) s c tt s c) (sym (take-length s.vars)) nothing_then) in
      record { runs = q.runs; stays = q.stays }

  empty_round : Runs check (plain_block pass end) s c tt s c
  empty_round = runs_plain check pass end (length s.vars) s s s c c c refl (runs_pass check s c) end_nothing

  pub empty_rounds : (f : ℤ → Check (Unit {0})) → ((v : ℤ) → f v ≡ plain_block pass end) → (n : ℕ) (v : ℤ) → Runs check (rounds f v n) s c tt s c
  empty_rounds f h zero v = runs_pass check s c
  empty_rounds f h (suc n) v = runs_then check (f v) (rounds f (v +ℤ pos 1) n) s s s c c c tt tt (subst (λ m. Runs check m s c tt s c) (sym (h v)) empty_round) (empty_rounds f h n (v +ℤ pos 1))

-- ---- the parts of uses

pub parts_more : (us : List Use) (ps qs : List Part) (i : ℕ) (d : Use) → i < length us → ps ≡ parts_of (take i us) → qs ≡ ps ++ (get_or us i d).part ∷ [] → qs ≡ parts_of (take (i + 1) us)
parts_more us ps qs i d l h k =
    k ∙ ap (λ x. x ++ (get_or us i d).part ∷ []) h ∙ sym (ap parts_of (take_more us i d l) ∙ map-append (λ (u : Use). u.part) (take i us) (get_or us i d ∷ []))

pub parts_all : (us vs : List Use) (ps : List Part) (i : ℕ) → length us ≤ i → us ≡ vs → ps ≡ parts_of (take i us) → ps ≡ parts_of vs
parts_all us vs ps i l e h = h ∙ ap parts_of (take_all i us l ∙ e)

-- ---- numbers of 64 bits

pub lt_told : (a b : ℤ) → lt_z a b ≡ true → a <ℤ b
lt_told a b e = by_lt_z a b (λ l. l) (λ g. absurd (grind (arith, ints, e, g)))

pub ge_told : (a b : ℤ) → lt_z a b ≡ false → b ≤ℤ a
ge_told a b e = by_lt_z a b (λ l. absurd (grind (arith, ints, e, l))) (λ g. g)

next_fits : (v past : ℤ) → SFits w64 past → SFits w64 v → v <ℤ past → SFits w64 (v +ℤ pos 1)
next_fits (pos n) (pos m) p q l = search (rules, arith, ints, p, q, l)
next_fits (pos n) (negsuc m) p q l = absurd (grind (arith, ints, l))
next_fits (negsuc zero) past p q l = search (rules, arith, ints, p, q, l)
next_fits (negsuc (suc n)) past p q l = search (rules, arith, ints, p, q, l)

pub next_number : (v past : ℤ) → SFits w64 past → SFits w64 v → v <ℤ past → to_z w64 (of_z w64 (v +ℤ pos 1)) ≡ v +ℤ pos 1
next_number v past p q l = to_z-of_z w64 (v +ℤ pos 1) (next_fits v past p q l)

-- the loop's code sees each number by its bits
module _ (l : Shelf) (f : ℤ → Check (Unit {0})) (whole : Check (Unit {0})) (past seen : ℤ) (old now : State) (c d : Counts) (same : seen ≡ past) (fits : SFits w64 past) where
  pub seen_more : (value : ℤ) (mid : State) (u : Counts) → SFits w64 value → lt_z value seen ≡ true → Ahead (checker_at l old) (rounds f value (distance (seen -ℤ value))) whole old c now d → Runs (checker_at l old) (f value) now d tt mid u →
      Ahead (checker_at l old) (rounds f (to_z w64 (of_z w64 (value +ℤ pos 1))) (distance (seen -ℤ to_z w64 (of_z w64 (value +ℤ pos 1))))) whole old c mid u
  seen_more value mid u k t w r =
      subst (λ x. Ahead (checker_at l old) (rounds f x (distance (seen -ℤ x))) whole old c mid u) (sym (next_number value seen (subst (λ x. SFits w64 x) (sym same) fits) k (lt_told value seen t)))
      (rounds_more l f whole seen old now c d value mid u (lt_told value seen t) w r)
