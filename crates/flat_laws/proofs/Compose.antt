-- Steps that lead from one state to another as the source does, and such steps one after another.
use Rattle.std.proofs.Common.{◌≡◌, ℕ, zero, suc, ◌+◌, ◌≤◌, get_or, inl, inr, Bool, true, false, cond, ◌&&◌, List, [], ◌∷◌, ◌++◌, flat_map, length, Option, Some, None, refl, sym, ap, ap₂, ◌∙◌, subst, arith, append_assoc, append-nil}
use Rattle.std.specs.Prelude.{⊤}
use Rattle.std.specs.Bool.{beq}
use Rattle.std.proofs.lemmas.Bool.{cases_lt}
use Rattle.std.proofs.lemmas.List.{get_or_past, get_or_append_left}
use Rattle.std.proofs.lemmas.List.Sums.{sum_by-append}
use Rattle.silq_mean.specs.Term.{Term}
use Rattle.silq_mean.specs.Effect.{Effect, Outcome, nothing, statement, follow}
use Rattle.flat_core.specs.declared.step.Step.{Step}
use Rattle.flat_core.specs.declared.step.Step.TheVariants as steps
use Rattle.flat_core.specs.declared.step.WireId.{WireId}
use Rattle.flat_core.specs.Form.{DraftForm, WireForm}
use Rattle.flat_core.specs.Label.{changes, label_after, wire_in, no_wire}
use Rattle.flat_core.specs.Sound.{is_x, is_m, count_measures}
use Rattle.flat_mean.specs.Row.{Row, next, is_h, is_possible, agrees, new_value, halvings, eighths}
use Rattle.flat_mean.specs.Terms.{Term as WireTerm, branch, do_step, each, do_steps}
use Rattle.bit_arith.specs.declared.operand.Operand.{Operand}
use Rattle.bit_arith.specs.declared.operand.Operand.TheVariants.{Const, Literal}
use Rattle.bit_arith.specs.Built.{Setting, blank, under_condition}
use Rattle.bit_arith.specs.Values.{Clean, all_hold, forced}
use Rattle.bit_arith.specs.Calls.{Targets}
use Rattle.bit_arith.specs.Does.{AllX, dropped_wires, Grows}
use Rattle.bit_arith.proofs.Steps.{label-first, label-rest, label-none}
use Rattle.bit_arith.proofs.Phases.{do_steps-append}
use Rattle.flat_form.specs.State.{Flattening}
use Rattle.flat_form.specs.Flat.{flat, on_line, count_statement}
use Rattle.flat_form.specs.Names.{AllOf}
use Rattle.flat_form.specs.Good.{Good}
use Rattle.flat_form.specs.Shows.{Shows, ListBoth, EnvBoth, CallerShows, Related}
use Rattle.flat_laws.specs.Laws.{Follows}
use Rattle.flat_form.proofs.Both.{both_append, both_weak}

-- ---- lists of terms

each-append : (g : WireTerm → List WireTerm) (xs ys : List WireTerm) → each g (xs ++ ys) ≡ each g xs ++ each g ys
each-append g [] ys = refl
each-append g (x ∷ xs) ys = ap (λ z. g x ++ z) (each-append g xs ys) ∙ sym (append_assoc (g x) (each g xs) (each g ys))

steps-terms : (o : Outcome) (ss : List Step) (xs ys : List WireTerm) → do_steps o ss (xs ++ ys) ≡ do_steps o ss xs ++ do_steps o ss ys
steps-terms o [] xs ys = refl
steps-terms o (s ∷ ss) xs ys = ap (do_steps o ss) (each-append (do_step o s) xs ys) ∙ steps-terms o ss (each (do_step o s) xs) (each (do_step o s) ys)

pub steps-none : (o : Outcome) (ss : List Step) → do_steps o ss [] ≡ []
steps-none o [] = refl
steps-none o (s ∷ ss) = steps-none o ss

-- the steps on each term alone
pub steps-each : (o : Outcome) (ss : List Step) (us : List WireTerm) → do_steps o ss us ≡ each (λ u. do_steps o ss (u ∷ [])) us
steps-each o ss [] = steps-none o ss
steps-each o ss (u ∷ us) = steps-terms o ss (u ∷ []) us ∙ ap (λ z. do_steps o ss (u ∷ []) ++ z) (steps-each o ss us)

pub both-each : {B D : Type 0} (Q : WireTerm → Type 0) (S : WireTerm → B → Type 0) (R : WireTerm → D → Type 0) (f : WireTerm → List WireTerm) (g : B → List D) → ((u : WireTerm) (b : B) → Q u → S u b → ListBoth R (f u) (g b)) → (us : List WireTerm) (bs : List B) → AllOf Q us → ListBoth S us bs → ListBoth R (each f us) (flat_map g bs)
both-each Q S R f g h [] [] q s = tt
both-each Q S R f g h [] (b ∷ bs) q s = absurd s
both-each Q S R f g h (u ∷ us) [] q s = absurd s
both-each Q S R f g h (u ∷ us) (b ∷ bs) q s = both_append R (f u) (g b) (each f us) (flat_map g bs) (h u b q.0 s.0) (both-each Q S R f g h us bs q.1 s.1)

all-append : {A : Type 0} (Q : A → Type 0) (xs ys : List A) → AllOf Q xs → AllOf Q ys → AllOf Q (xs ++ ys)
all-append Q [] ys p q = q
all-append Q (x ∷ xs) ys p q = (p.0, all-append Q xs ys p.1 q)

-- ---- wires that steps leave alone

-- the term has the row's values on all wires of a set
abbrev SameOn : (WireId → Type 0) → Row → WireTerm → Type 0
SameOn W v u = (w : WireId) → W w → u.row w.number ≡ v w.number

branch_keeps : (o : Outcome) (W : WireId → Type 0) (v : Row) (s : Step) → ((w : WireId) → W w → changes w s ≡ false) → (k : Bool) (u : WireTerm) → SameOn W v u → AllOf (SameOn W v) (branch o s k u)
branch_keeps o W v s h k u p = pick (is_possible s k u.row && agrees o s u.row)
  where
    pick : (b : Bool) → AllOf (SameOn W v) (cond b (record { row = next s k u.row; halvings = u.halvings + halvings s u.row; eighths = u.eighths + eighths s k u.row } ∷ []) [])
    pick true = ((λ w q. ap (λ c. cond c (new_value s k u.row) (u.row w.number)) (h w q) ∙ p w q), tt)
    pick false = tt

step_keeps : (o : Outcome) (W : WireId → Type 0) (v : Row) (s : Step) → ((w : WireId) → W w → changes w s ≡ false) → (u : WireTerm) → SameOn W v u → AllOf (SameOn W v) (do_step o s u)
step_keeps o W v s h u p = pick (is_h s) (branch_keeps o W v s h false u p) (branch_keeps o W v s h true u p)
  where
    pick : (b : Bool) → AllOf (SameOn W v) (branch o s false u) → AllOf (SameOn W v) (branch o s true u) → AllOf (SameOn W v) (cond b (branch o s false u ++ branch o s true u) (branch o s false u))
    pick true x y = all-append (SameOn W v) (branch o s false u) (branch o s true u) x y
    pick false x y = x

each_keeps : (o : Outcome) (W : WireId → Type 0) (v : Row) (s : Step) → ((w : WireId) → W w → changes w s ≡ false) → (us : List WireTerm) → AllOf (SameOn W v) us → AllOf (SameOn W v) (each (do_step o s) us)
each_keeps o W v s h [] p = tt
each_keeps o W v s h (u ∷ us) p = all-append (SameOn W v) (do_step o s u) (each (do_step o s) us) (step_keeps o W v s h u p.0) (each_keeps o W v s h us p.1)

all_keep : (o : Outcome) (W : WireId → Type 0) (v : Row) (ss : List Step) → ((w : WireId) → W w → label_after ss w ≡ 0) → (us : List WireTerm) → AllOf (SameOn W v) us → AllOf (SameOn W v) (do_steps o ss us)
all_keep o W v [] h us p = p
all_keep o W v (s ∷ ss) h us p = all_keep o W v ss (λ w q. label-rest s ss w (h w q)) (each (do_step o s) us) (each_keeps o W v s (λ w q. label-first s ss w (h w q)) us p)

-- a term has a row's values on all wires that no step changes
abbrev pub Kept : List Step → Row → WireTerm → Type 0
Kept ss v u = (w : WireId) → label_after ss w ≡ 0 → u.row w.number ≡ v w.number

pub steps_keep : (o : Outcome) (ss : List Step) (u : WireTerm) → AllOf (Kept ss u.row) (do_steps o ss (u ∷ []))
steps_keep o ss u = all_keep o (λ w. label_after ss w ≡ 0) u.row ss (λ w q. q) (u ∷ []) ((λ w q. refl), tt)

-- ---- the condition in force

-- no step changes the operand's wire
abbrev pub LeavesOperand : Operand → List Step → Type 0
LeavesOperand (Const b) ss = ⊤
LeavesOperand (Literal l) ss = label_after ss l.wire ≡ 0

abbrev pub Leaves : Option Operand → List Step → Type 0
Leaves None ss = ⊤
Leaves (Some p) ss = LeavesOperand p ss

pub leaves_none : (c : Option Operand) → Leaves c []
leaves_none None = tt
leaves_none (Some (Const b)) = tt
leaves_none (Some (Literal l)) = refl

pub leaves-append : (c : Option Operand) (xs ys : List Step) → Leaves c xs → Leaves c ys → Leaves c (xs ++ ys)
leaves-append None xs ys p q = tt
leaves-append (Some (Const b)) xs ys p q = tt
leaves-append (Some (Literal l)) xs ys p q = label-none xs ys l.wire p q

pub condition_kept : (c : Option Operand) (ss : List Step) (v : Row) (u : WireTerm) → Leaves c ss → Kept ss v u → all_hold u.row (under_condition c []) ≡ all_hold v (under_condition c [])
condition_kept None ss v u p k = refl
condition_kept (Some (Const b)) ss v u p k = refl
condition_kept (Some (Literal l)) ss v u p k = ap (λ x. beq x l.positive && true) (k l.wire p)

-- ---- measures

pub measures-append : (xs ys : List Step) → count_measures (xs ++ ys) ≡ count_measures xs + count_measures ys
measures-append xs ys = sum_by-append (λ s. cond (is_m s) 1 0) xs ys

pub no_measures : (ss : List Step) → AllX ss → count_measures ss ≡ 0
no_measures [] x = refl
no_measures (s ∷ ss) x = measures-append (s ∷ []) ss ∙ ap₂ (λ (a b : ℕ). a + b) (one s x.0) (no_measures ss x.1)
  where
    clash : {A : Type 0} → false ≡ true → A
    clash e = cc

    one : (s : Step) → is_x s ≡ true → count_measures (s ∷ []) ≡ 0
    one (steps.X w f g) e = refl
    one (steps.H w c) e = refl
    one (steps.P k l) e = refl
    one (steps.M w n) e = clash e

-- ---- inputs

dropped_input : (n k : ℕ) → (get_or (dropped_wires n) k no_wire).input ≡ false
dropped_input zero k = refl
dropped_input (suc n) zero = refl
dropped_input (suc n) (suc k) = dropped_input n k

past_input : (ws : List WireForm) (n k : ℕ) → length ws ≤ k → (get_or (ws ++ dropped_wires n) k no_wire).input ≡ false
past_input [] n k le = dropped_input n k
past_input (w ∷ ws) n zero le = absurd (omega (arith, le))
past_input (w ∷ ws) n (suc k) le = past_input ws n k (omega (arith, le))

-- a wire that is not made is no input
pub no_input : (d : DraftForm) (w : WireId) → length d.wires ≤ w.number → (wire_in d.wires w).input ≡ false
no_input d w le = ap (λ (r : WireForm). r.input) (get_or_past d.wires w.number no_wire le)

pub grows_inputs : {d e : DraftForm} {T : Targets} {new : List Step} → Grows d e T new → (w : WireId) → (wire_in e.wires w).input ≡ (wire_in d.wires w).input
grows_inputs {d = d} {e = e} g w =
    elim (cases_lt w.number (length d.wires)) [
      | inl lt ↦ ap (λ ws. (wire_in ws w).input) g.wires ∙ ap (λ (r : WireForm). r.input) (get_or_append_left d.wires (dropped_wires g.more) no_wire w.number lt)
      | inr le ↦ ap (λ ws. (wire_in ws w).input) g.wires ∙ (past_input d.wires g.more w.number le ∙ sym (no_input d w le))
    ]

-- ---- from state to state

-- the steps from one state to another do on a term what the source does where the condition in force holds, and nothing where it does not
pub record Leads (o : Outcome) (s e : Flattening) (src : Term → List Term) : Type 0 where
  pub new : List Step
  pub grown : e.built.draft.steps ≡ s.built.draft.steps ++ new
  pub wires : length s.built.draft.wires ≤ length e.built.draft.wires
  pub setting : e.setting ≡ s.setting
  -- no wire becomes an input, none stops being one, and no new wire is one
  pub inputs : (w : WireId) → (wire_in e.built.draft.wires w).input ≡ (wire_in s.built.draft.wires w).input
  pub blanks : (w : WireId) → blank e.built.draft w ≡ true → blank s.built.draft w ≡ true
  pub leaves : Leaves s.setting.condition new
  -- a condition that may fail is one under which nothing is measured
  pub told : (v : Row) → Clean s.built.draft v → forced s.setting v ≡ false → count_measures new ≡ 0
  pub still : (u : WireTerm) → Clean s.built.draft u.row → forced s.setting u.row ≡ false → do_steps o new (u ∷ []) ≡ u ∷ []
  pub gives : (u : WireTerm) (t : Term) → Related s u t → forced s.setting u.row ≡ true → ListBoth (Related e) (do_steps o new (u ∷ [])) (src t)

pub follows_by : (o : Outcome) (e : Effect) (s : Flattening) → Good (flat e s) → Leads o s (flat e s) (follow o e) → Follows o e s
follows_by o e s g m = record { new = m.new; grown = m.grown; good = g; still = m.still; gives = m.gives }

-- states with the same names, values and steps; settings and statements do not matter to terms
pub related_to : (s e : Flattening) → e.built.draft ≡ s.built.draft → e.env ≡ s.env → e.values ≡ s.values → e.callers ≡ s.callers → (u : WireTerm) (t : Term) → Related s u t → Related e u t
related_to s e b n v c u t r = record {
  clean = subst (λ x. Clean x u.row) (sym b) r.clean;
  env = subst (λ x. EnvBoth (Shows u.row) x t.env) (sym n) r.env;
  values = subst (λ x. ListBoth (Shows u.row) x t.values) (sym v) r.values;
  callers = subst (λ x. ListBoth (CallerShows u.row) x t.callers) (sym c) r.callers;
  eighths = r.eighths;
  halvings = r.halvings;
  measured = ap (λ x. count_measures x.steps) b ∙ r.measured;
}

-- a step that changes names and values alone
pub leads_named : (o : Outcome) (s e : Flattening) (f : Term → Term) → e.built.draft ≡ s.built.draft → e.setting ≡ s.setting → ((u : WireTerm) (t : Term) → Related s u t → Related e u (f t)) → Leads o s e (λ t. f t ∷ [])
leads_named o s e f b at h = record {
  new = [];
  grown = ap (λ x. x.steps) b ∙ sym (append-nil s.built.draft.steps);
  wires = subst (λ x. length s.built.draft.wires ≤ length x.wires) (sym b) (omega arith);
  setting = at;
  inputs = λ w. ap (λ x. (wire_in x.wires w).input) b;
  blanks = λ w z. subst (λ x. blank x w ≡ true) b z;
  leaves = leaves_none s.setting.condition;
  told = λ v c off. refl;
  still = λ u c off. refl;
  gives = λ u t r on. (h u t r, tt);
}

pub leads_nothing : (o : Outcome) (s : Flattening) → Leads o s (flat nothing s) (follow o nothing)
leads_nothing o s = leads_named o s s (λ t. t) refl refl (λ u t r. r)

pub leads_then : (o : Outcome) (s e f : Flattening) (src next : Term → List Term) → Leads o s e src → Leads o e f next → Leads o s f (λ t. flat_map next (src t))
leads_then o s e f src next m n = record {
  new = m.new ++ n.new;
  grown = n.grown ∙ (ap (λ z. z ++ n.new) m.grown ∙ append_assoc s.built.draft.steps m.new n.new);
  wires = omega (arith, m.wires, n.wires);
  setting = n.setting ∙ m.setting;
  inputs = λ w. n.inputs w ∙ m.inputs w;
  blanks = λ w z. m.blanks w (n.blanks w z);
  leaves = leaves-append s.setting.condition m.new n.new m.leaves (subst (λ x. Leaves x.condition n.new) m.setting n.leaves);
  told = λ v c off.
      measures-append m.new n.new ∙ ap₂ (λ (a b : ℕ). a + b) (m.told v c off) (n.told v (clean v c) (same v off));
  still = λ u c off.
      do_steps-append o m.new n.new (u ∷ []) ∙ (ap (do_steps o n.new) (m.still u c off) ∙ n.still u (clean u.row c) (same u.row off));
  gives = λ u t r on.
      subst (λ us. ListBoth (Related f) us (flat_map next (src t))) (sym (do_steps-append o m.new n.new (u ∷ []) ∙ steps-each o n.new (do_steps o m.new (u ∷ []))))
      (both-each (Kept m.new u.row) (Related e) (Related f) (λ z. do_steps o n.new (z ∷ [])) next
      (λ z x k q. n.gives z x q (same z.row (condition_kept s.setting.condition m.new u.row z m.leaves k ∙ on))) (do_steps o m.new (u ∷ [])) (src t) (steps_keep o m.new u) (m.gives u t r on));
}
  where
    clean : (v : Row) → Clean s.built.draft v → Clean e.built.draft v
    clean v c w z = c w (m.blanks w z)

    same : (v : Row) {b : Bool} → forced s.setting v ≡ b → forced e.setting v ≡ b
    same v h = ap (λ x. forced x v) m.setting ∙ h

pub leads_statement : (o : Outcome) (line : ℕ) (e : Effect) (s : Flattening) → Leads o (on_line line (count_statement s)) (flat e (on_line line (count_statement s))) (follow o e) → Leads o s (flat (statement line e) s) (follow o (statement line e))
leads_statement o line e s m =
    let inner : Flattening = flat e (on_line line (count_statement s)) in
    let with_line : Setting → Setting = λ at. record at { line = s.setting.line } in
    record {
      new = m.new;
      grown = m.grown;
      wires = m.wires;
      setting = ap with_line m.setting;
      inputs = m.inputs;
      blanks = m.blanks;
      leaves = m.leaves;
      told = m.told;
      still = m.still;
      gives = λ u t r on.
          both_weak (Related inner) (Related (flat (statement line e) s)) (λ z x q. related_to inner (flat (statement line e) s) refl refl refl refl z x q)
          (do_steps o m.new (u ∷ [])) (follow o e t)
          (m.gives u t (related_to s (on_line line (count_statement s)) refl refl refl refl u t r) on);
    }
