-- The ends of blocks.
use Rattle.std.proofs.Common.{◌≡◌, refl, ℕ, ◌+◌, ◌<◌, ◌≤◌, Bool, List, [], ◌∷◌, ◌++◌, append_assoc, append-nil, ◌∙◌, sym, ap, subst, drop, take, get_or, length, arith}
use Rattle.std.proofs.lemmas.List.{drop_more, drop_all}
use Rattle.std.specs.Prelude.{Ok, Err}
use Rattle.silq_tree.specs.declared.node.Spot.{Spot}
use Rattle.silq_tree.specs.declared.node.StmtId.{StmtId}
use Rattle.silq_tree.specs.Children.{AreStmtsBelow}
use Rattle.silq_tree.proofs.Lists.{stmts_top, stmts_top_le, stmts_below_back, stmts_below_more}
use Rattle.silq_types.specs.Rules.{linear_left, outer_changed}
use Rattle.silq_types.specs.declared.values.Var.{Var}
use Rattle.check_scope.specs.Context.{Check, ◌>>◌, pass, rules, put_variables}
use Rattle.check_fun.specs.Counting.{Stays, Runs, Fails}
use Rattle.check_scope.specs.State.{State}
use Rattle.check_fun.specs.Statement.{is_live_linear, none_left, end_from, is_changed, none_changed, joined}
use Rattle.check_fun.specs.Branches.{joined_one}
use Rattle.check_scope.specs.Walk.{Checker, Counts}
use Rattle.check_scope.specs.declared.fault.CheckFault.{CheckFault}
use Rattle.check_fun.proofs.BlockSteps.{Ahead, ahead_then, ahead_stops}
use Rattle.check_fun.proofs.Counted.{stays_refl, runs_pass, runs_then, fails_then}

pub left_next : (vars : List Var) (at : Spot) (i : ℕ) (d : Var) → i < length vars → none_left (drop i vars) at ≡ (rules at ((is_live_linear (get_or vars i d), linear_left) ∷ []) >> none_left (drop (i + 1) vars) at)
left_next vars at i d l = ap (λ vs. none_left vs at) (drop_more vars i d l)

pub left_end : (vars : List Var) (at : Spot) (i : ℕ) → length vars ≤ i → none_left (drop i vars) at ≡ pass
left_end vars at i l = ap (λ vs. none_left vs at) (drop_all i vars l)

put_runs : (check : Checker) (vars : List Var) (old now : State) (c : Counts) → now ≡ record old { vars = vars; start = vars } → Runs check (put_variables vars) old c tt now c
put_runs check vars old now c e = rw e (record { runs = refl; stays = record { this = refl; results = refl; depth = refl; statics = refl; held = refl } })

pub runs_end : (check : Checker) (n : ℕ) (at : Spot) (old now : State) (c : Counts) → Runs check (none_left (drop n old.vars) at) old c tt old c → now ≡ record old { vars = take n old.vars; start = take n old.vars } → Runs check (end_from n at) old c tt now c
runs_end check n at old now c r e =
    let q : Runs check (none_left (drop n old.vars) at >> put_variables (take n old.vars)) old c tt now c = runs_then check _ _ old old now c c c tt tt r (put_runs check (take n old.vars) old now c e) in
    record { runs = q.runs; stays = q.stays }

pub fails_end : (check : Checker) (n : ℕ) (at : Spot) (old : State) (c : Counts) (f : CheckFault) → Fails check (none_left (drop n old.vars) at) old c f → Fails check (end_from n at) old c f
fails_end check n at old c f r =
    let q : Fails check (none_left (drop n old.vars) at >> put_variables (take n old.vars)) old c f = fails_then check _ (put_variables (take n old.vars)) old c f r in
    record { runs = q.runs }

pub left_more : (check : Checker) (vars : List Var) (at : Spot) (i : ℕ) (d : Var) (b : Bool) (s : State) (c : Counts) → (i < length vars) × (b ≡ is_live_linear (get_or vars i d)) → Ahead check (none_left (drop i vars) at) (none_left vars at) s c s c → Runs check (rules at ((b, linear_left) ∷ [])) s c tt s c → Ahead check (none_left (drop (i + 1) vars) at) (none_left vars at) s c s c
left_more check vars at i d b s c h w r =
    ahead_then check (rules at ((b, linear_left) ∷ [])) (none_left (drop (i + 1) vars) at) (none_left vars at) s s s c c c tt
    (subst (λ (x : Bool). Ahead check (rules at ((x, linear_left) ∷ []) >> none_left (drop (i + 1) vars) at) (none_left vars at) s c s c) (sym h.1) (subst (λ m. Ahead check m (none_left vars at) s c s c) (left_next vars at i d h.0) w)) r

pub left_stops : (check : Checker) (vars : List Var) (at : Spot) (i : ℕ) (d : Var) (b : Bool) (s : State) (c : Counts) (f : CheckFault) → (i < length vars) × (b ≡ is_live_linear (get_or vars i d)) → Ahead check (none_left (drop i vars) at) (none_left vars at) s c s c → Fails check (rules at ((b, linear_left) ∷ [])) s c f → Fails check (none_left vars at) s c f
left_stops check vars at i d b s c f h w r =
    ahead_stops check (rules at ((b, linear_left) ∷ [])) (none_left (drop (i + 1) vars) at) (none_left vars at) s s c c f
    (subst (λ (x : Bool). Ahead check (rules at ((x, linear_left) ∷ []) >> none_left (drop (i + 1) vars) at) (none_left vars at) s c s c) (sym h.1) (subst (λ m. Ahead check m (none_left vars at) s c s c) (left_next vars at i d h.0) w)) r

pub left_all : (check : Checker) (vars : List Var) (at : Spot) (i : ℕ) (s : State) (c : Counts) → length vars ≤ i → Ahead check (none_left (drop i vars) at) (none_left vars at) s c s c → Runs check (none_left vars at) s c tt s c
left_all check vars at i s c l w = (subst (λ m. Ahead check m (none_left vars at) s c s c) (left_end vars at i l) w).runs tt s c (runs_pass check s c)

-- ---- branches

changed_past : (after : List Var) (at : Spot) → none_changed [] after at ≡ pass
changed_past [] at = refl
changed_past (v ∷ vs) at = refl

changed_before : (before : List Var) (at : Spot) → none_changed before [] at ≡ pass
changed_before [] at = refl
changed_before (v ∷ vs) at = refl

changed_next : (before after : List Var) (at : Spot) (i : ℕ) (d e : Var) → i < length before → i < length after →
    none_changed (drop i before) (drop i after) at ≡ (rules at ((is_changed (get_or before i d) (get_or after i e), outer_changed) ∷ []) >> none_changed (drop (i + 1) before) (drop (i + 1) after) at)
changed_next before after at i d e l m =
    ap (λ bs. none_changed bs (drop i after) at) (drop_more before i d l)
    ∙ ap (λ rest. none_changed (get_or before i d ∷ drop (i + 1) before) rest at) (drop_more after i e m)

changed_end : (before after : List Var) (at : Spot) (i : ℕ) → length before ≤ i → none_changed (drop i before) (drop i after) at ≡ pass
changed_end before after at i l = ap (λ bs. none_changed bs (drop i after) at) (drop_all i before l) ∙ changed_past (drop i after) at

changed_cut : (before after : List Var) (at : Spot) (i : ℕ) → length after ≤ i → none_changed (drop i before) (drop i after) at ≡ pass
changed_cut before after at i l = ap (λ rest. none_changed (drop i before) rest at) (drop_all i after l) ∙ changed_before (drop i before) at

pub changed_more : (check : Checker) (before after : List Var) (at : Spot) (i : ℕ) (d e : Var) (b : Bool) (s : State) (c : Counts) → (i < length before) × (i < length after) × (e ≡ get_or after i e) × (b ≡ is_changed (get_or before i d) e)
    → Ahead check (none_changed (drop i before) (drop i after) at) (none_changed before after at) s c s c → Runs check (rules at ((b, outer_changed) ∷ [])) s c tt s c
    → Ahead check (none_changed (drop (i + 1) before) (drop (i + 1) after) at) (none_changed before after at) s c s c
changed_more check before after at i d e b s c h w r =
    ahead_then check (rules at ((b, outer_changed) ∷ [])) (none_changed (drop (i + 1) before) (drop (i + 1) after) at) (none_changed before after at) s s s c c c tt
    (subst (λ (x : Bool). Ahead check (rules at ((x, outer_changed) ∷ []) >> none_changed (drop (i + 1) before) (drop (i + 1) after) at) (none_changed before after at) s c s c) (sym (h.3 ∙ ap (is_changed (get_or before i d)) h.2)) (subst (λ m. Ahead check m (none_changed before after at) s c s c) (changed_next before after at i d e h.0 h.1) w)) r

pub changed_stops : (check : Checker) (before after : List Var) (at : Spot) (i : ℕ) (d e : Var) (b : Bool) (s : State) (c : Counts) (f : CheckFault) → (i < length before) × (i < length after) × (e ≡ get_or after i e) × (b ≡ is_changed (get_or before i d) e)
    → Ahead check (none_changed (drop i before) (drop i after) at) (none_changed before after at) s c s c → Fails check (rules at ((b, outer_changed) ∷ [])) s c f → Fails check (none_changed before after at) s c f
changed_stops check before after at i d e b s c f h w r =
    ahead_stops check (rules at ((b, outer_changed) ∷ [])) (none_changed (drop (i + 1) before) (drop (i + 1) after) at) (none_changed before after at) s s c c f
    (subst (λ (x : Bool). Ahead check (rules at ((x, outer_changed) ∷ []) >> none_changed (drop (i + 1) before) (drop (i + 1) after) at) (none_changed before after at) s c s c) (sym (h.3 ∙ ap (is_changed (get_or before i d)) h.2)) (subst (λ m. Ahead check m (none_changed before after at) s c s c) (changed_next before after at i d e h.0 h.1) w)) r

pub changed_all : (check : Checker) (before after : List Var) (at : Spot) (i : ℕ) (s : State) (c : Counts) → length before ≤ i → Ahead check (none_changed (drop i before) (drop i after) at) (none_changed before after at) s c s c → Runs check (none_changed before after at) s c tt s c
changed_all check before after at i s c l w = (subst (λ m. Ahead check m (none_changed before after at) s c s c) (changed_end before after at i l) w).runs tt s c (runs_pass check s c)

pub changed_short : (check : Checker) (before after : List Var) (at : Spot) (i : ℕ) (s : State) (c : Counts) → length after ≤ i → Ahead check (none_changed (drop i before) (drop i after) at) (none_changed before after at) s c s c → Runs check (none_changed before after at) s c tt s c
changed_short check before after at i s c l w = (subst (λ m. Ahead check m (none_changed before after at) s c s c) (changed_cut before after at i l) w).runs tt s c (runs_pass check s c)

-- ---- what stands behind `else`

pub else_below : (n m : ℕ) (xs ys : List StmtId) → n ≤ m → AreStmtsBelow n (xs ++ ys) → (stmts_top ys ≤ n) × AreStmtsBelow m ys
else_below n m xs ys l b = (stmts_top_le n ys (stmts_below_back n xs ys b), stmts_below_more n m ys l (stmts_below_back n xs ys b))

joined_past : (other : List Var) → joined [] other ≡ []
joined_past [] = refl
joined_past (v ∷ vs) = refl

joined_before : (one : List Var) → joined one [] ≡ []
joined_before [] = refl
joined_before (v ∷ vs) = refl

pub joined_more : (one other vars : List Var) (i : ℕ) (d e v : Var) → (i < length one) × (i < length other) × (e ≡ get_or other i e) × (v ≡ joined_one (get_or one i d) e) → vars ++ joined (drop i one) (drop i other) ≡ joined one other → (vars ++ v ∷ []) ++ joined (drop (i + 1) one) (drop (i + 1) other) ≡ joined one other
joined_more one other vars i d e v h w =
    append_assoc vars (v ∷ []) (joined (drop (i + 1) one) (drop (i + 1) other))
    ∙ ap (λ x. vars ++ x ∷ joined (drop (i + 1) one) (drop (i + 1) other)) (h.3 ∙ ap (joined_one (get_or one i d)) h.2)
    ∙ ap (λ x. vars ++ x) (sym (ap (λ x. joined x (drop i other)) (drop_more one i d h.0) ∙ ap (λ x. joined (get_or one i d ∷ drop (i + 1) one) x) (drop_more other i e h.1)))
    ∙ w

pub joined_all : (one other vars : List Var) (i : ℕ) → length one ≤ i → vars ++ joined (drop i one) (drop i other) ≡ joined one other → vars ≡ joined one other
joined_all one other vars i l w = sym (append-nil vars) ∙ ap (λ x. vars ++ x) (sym (ap (λ x. joined x (drop i other)) (drop_all i one l) ∙ joined_past (drop i other))) ∙ w

pub joined_short : (one other vars : List Var) (i : ℕ) → length other ≤ i → vars ++ joined (drop i one) (drop i other) ≡ joined one other → vars ≡ joined one other
joined_short one other vars i l w = sym (append-nil vars) ∙ ap (λ x. vars ++ x) (sym (ap (λ x. joined (drop i one) x) (drop_all i other l) ∙ joined_before (drop i one))) ∙ w
