-- Rows of steps as parts of steps: what each of them asks for, and what it leaves.
use Rattle.std.proofs.Common.{◌≡◌, ℕ, ◌+◌, ◌%◌, ◌==◌, Bool, true, false, cond, ◌&&◌, List, [], ◌∷◌, ◌++◌, length, Option, Some, None, refl, sym, ap, ◌∙◌, subst, arith, add-zero}
use Rattle.silq_mean.specs.Term.{Term}
use Rattle.silq_mean.specs.Effect.{Outcome}
use Rattle.flat_core.specs.declared.step.Lit.{Lit}
use Rattle.flat_core.specs.declared.step.Step.{Step}
use Rattle.flat_core.specs.declared.step.Step.TheVariants.{X, P}
use Rattle.flat_core.specs.Form.{DraftForm}
use Rattle.flat_core.specs.Sound.{count_measures}
use Rattle.flat_mean.specs.Row.{Row}
use Rattle.flat_mean.specs.Terms.{Term as WireTerm, do_steps}
use Rattle.bit_arith.specs.declared.operand.Operand.{Operand}
use Rattle.bit_arith.specs.Built.{Built, Setting, literals, under, new_wire, next_wire, plus, push}
use Rattle.bit_arith.specs.Rows.{turn, turn_lits, gathered}
use Rattle.bit_arith.specs.Calls.{Targets, no_target}
use Rattle.bit_arith.specs.Values.{all_hold}
use Rattle.bit_arith.specs.Does.{after, Does, Turns}
use Rattle.bit_arith.proofs.Steps.{Agree}
use Rattle.bit_arith.proofs.Doing.{Guards, blank_before, grown, does_grown, grows_agree, grows_clean}
use Rattle.bit_arith.proofs.Phases.{flips_one}
use Rattle.flat_form.specs.State.{Flattening}
use Rattle.flat_form.specs.Shows.{ListBoth, Related}
use Rattle.flat_form.proofs.Kept.{AllShow}
use Rattle.flat_laws.proofs.Compose.{grows_inputs, measures-append, no_measures, Leads}
use Rattle.flat_laws.proofs.Choice.{with_row, measures_grown, guard_leaves}

-- X steps that lead as the source does, told of the rows before and after
pub leads_row : (o : Outcome) (s e : Flattening) (T : Targets) (Q : Row → Row → Type 0) (f : Term → Term) → Does s.setting s.built.draft e.built.draft T Q → Guards s.setting (length s.built.draft.wires) T → e.setting ≡ s.setting → ((t : Term) → ((f t).eighths ≡ t.eighths) × ((f t).halvings ≡ t.halvings) × ((f t).measured ≡ t.measured)) → ((u : WireTerm) (t : Term) (x : Row) → Related s u t → Agree (length s.built.draft.wires) T x u.row → Q u.row x → AllShow x e (f t)) → Leads o s e (λ t. f t ∷ [])
leads_row o s e T Q f r g at same h = record {
  new = r.new;
  grown = r.grows.steps;
  wires = does_grown r;
  setting = at;
  inputs = λ w. grows_inputs r.grows w;
  blanks = λ w z. (blank_before r.grows w z).0;
  leaves = guard_leaves s.setting r.grows g;
  told = λ v c off. no_measures r.new r.all_x;
  still = λ u c off. flips_one o r.new u r.all_x ∙ ap (λ (v : Row). with_row u v ∷ []) (r.still u.row c off);
  gives = λ u t re on.
      let x : Row = after r.new u.row in
      let a : AllShow x e (f t) = h u t x re (grows_agree r.grows u.row) (r.gives u.row re.clean on) in
      subst (λ us. ListBoth (Related e) us (f t ∷ [])) (sym (flips_one o r.new u r.all_x)) (
        record {
          clean = grows_clean r.grows u.row re.clean;
          env = a.env;
          values = a.values;
          callers = a.callers;
          eighths = re.eighths ∙ sym (same t).0;
          halvings = re.halvings ∙ sym (same t).1;
          measured = measures_grown s.built.draft e.built.draft r.new r.grows.steps (no_measures r.new r.all_x) ∙ (re.measured ∙ sym (same t).2);
        },
        tt,
      );
}

-- ---- phases

one_more : (d : DraftForm) (ss : List Step) (s : Step) → count_measures (s ∷ []) ≡ 0 → count_measures (ss ++ s ∷ []) ≡ count_measures ss
one_more d ss s z = let a : count_measures (ss ++ s ∷ []) ≡ count_measures ss + count_measures (s ∷ []) = measures-append ss (s ∷ []) in omega (arith, a, z)

gathered_measures : (at : Setting) (l : Lit) (ls : List Lit) (b : Built) → count_measures (gathered at l ls b).built.draft.steps ≡ count_measures b.draft.steps
gathered_measures at l [] b = refl
gathered_measures at l (c ∷ cs) b =
    gathered_measures at (plus (next_wire b)) cs (push at (X (next_wire b) (Some l) (Some c)) (new_wire b))
    ∙ one_more b.draft b.draft.steps (X (next_wire b) (Some l) (Some c)) refl

turn_lits_measures : (at : Setting) (k : ℕ) (o : Option (List Lit)) (b : Built) → count_measures (turn_lits at k o b).draft.steps ≡ count_measures b.draft.steps
turn_lits_measures at k None b = refl
turn_lits_measures at k (Some []) b =
    one_more b.draft (b.draft.steps ++ X (next_wire b) None None ∷ []) (P k (plus (next_wire b))) refl
    ∙ one_more b.draft b.draft.steps (X (next_wire b) None None) refl
turn_lits_measures at k (Some (l ∷ ls)) b =
    one_more b.draft (gathered at l ls b).built.draft.steps (P k (gathered at l ls b).answer) refl
    ∙ gathered_measures at l ls b

pub turn_measures : (at : Setting) (k : ℕ) (ps : List Operand) (b : Built) → count_measures (turn at k ps b).draft.steps ≡ count_measures b.draft.steps
unfolding turn
turn_measures at k ps b = pick (k % 8 == 0)
  where
    pick : (z : Bool) → count_measures (cond z b (turn_lits at (k % 8) (literals b.draft (under at ps)) b)).draft.steps ≡ count_measures b.draft.steps
    pick true = refl
    pick false = turn_lits_measures at (k % 8) (literals b.draft (under at ps)) b

none_new : (d e : DraftForm) (new : List Step) → e.steps ≡ d.steps ++ new → count_measures e.steps ≡ count_measures d.steps → count_measures new ≡ 0
none_new d e new g z =
    let a : count_measures e.steps ≡ count_measures d.steps + count_measures new = ap count_measures g ∙ measures-append d.steps new in
    omega (arith, a, z)

-- steps that turn by a phase
pub leads_turned : (o : Outcome) (s e : Flattening) (k : ℕ) (ps : List Operand) (f : Term → Term) → Turns s.setting k ps s.built.draft e.built.draft → count_measures e.built.draft.steps ≡ count_measures s.built.draft.steps → Guards s.setting (length s.built.draft.wires) no_target → e.setting ≡ s.setting → ((t : Term) → ((f t).halvings ≡ t.halvings) × ((f t).measured ≡ t.measured)) → ((u : WireTerm) (t : Term) → Related s u t → (f t).eighths ≡ t.eighths + cond (all_hold u.row ps) (k % 8) 0) → ((u : WireTerm) (t : Term) (x : Row) → Related s u t → Agree (length s.built.draft.wires) no_target x u.row → AllShow x e (f t)) → Leads o s e (λ t. f t ∷ [])
leads_turned o s e k ps f r m g at same turns h = record {
  new = r.new;
  grown = r.grows.steps;
  wires = grown r.grows;
  setting = at;
  inputs = λ w. grows_inputs r.grows w;
  blanks = λ w z. (blank_before r.grows w z).0;
  leaves = guard_leaves s.setting r.grows g;
  told = λ v c off. none_new s.built.draft e.built.draft r.new r.grows.steps m;
  still = λ u c off.
      r.gives o u c
      ∙ (ap (λ (b : Bool). term_of u (after r.new u.row) (cond (b && all_hold u.row ps) (k % 8) 0)) off
      ∙ (ap (λ (n : ℕ). record { row = after r.new u.row; halvings = u.halvings; eighths = n } ∷ []) (add-zero u.eighths)
      ∙ ap (λ (v : Row). with_row u v ∷ []) (r.still u.row c off)));
  gives = λ u t re on.
      let x : Row = after r.new u.row in
      let a : AllShow x e (f t) = h u t x re (grows_agree r.grows u.row) in
      let n : ℕ = cond (all_hold u.row ps) (k % 8) 0 in
      let run : do_steps o r.new (u ∷ []) ≡ term_of u x n = r.gives o u re.clean ∙ ap (λ (b : Bool). term_of u x (cond (b && all_hold u.row ps) (k % 8) 0)) on in
      subst (λ us. ListBoth (Related e) us (f t ∷ [])) (sym run) (
        record {
          clean = grows_clean r.grows u.row re.clean;
          env = a.env;
          values = a.values;
          callers = a.callers;
          eighths = ap (λ (j : ℕ). j + n) re.eighths ∙ sym (turns u t re);
          halvings = re.halvings ∙ sym (same t).0;
          measured = m ∙ (re.measured ∙ sym (same t).1);
        },
        tt,
      );
}
  where
    term_of : WireTerm → Row → ℕ → List WireTerm
    term_of u x n = record { row = x; halvings = u.halvings; eighths = u.eighths + n } ∷ []
