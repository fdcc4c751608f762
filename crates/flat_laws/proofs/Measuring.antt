-- Measures of the last value.
use Rattle.std.proofs.Common.{◌≡◌, ℕ, suc, ◌+◌, Bool, true, false, cond, ◌&&◌, if◌then◌else◌, List, [], ◌∷◌, ◌++◌, length, drop, None, refl, sym, ap, ap₂, ◌∙◌, subst, arith, append-nil, append_assoc, add-zero}
use Rattle.std.specs.Bool.{beq}
use Rattle.silq_types.specs.Types.{bool_eq}
use Rattle.silq_mean.specs.Value.{Value, bits_of}
use Rattle.silq_mean.specs.Term.{Term, last as last_value}
use Rattle.silq_mean.specs.Effect.{Outcome, measure as measured, follow, agrees as outcomes_agree, told}
use Rattle.flat_core.specs.declared.step.Step.{Step}
use Rattle.flat_core.specs.declared.step.Step.TheVariants as steps
use Rattle.flat_core.specs.declared.step.WireId.{WireId}
use Rattle.flat_core.specs.declared.step.End.{End}
use Rattle.flat_core.specs.declared.step.End.TheVariants.{Measured}
use Rattle.flat_core.specs.Form.{DraftForm}
use Rattle.flat_core.specs.Label.{wire_in}
use Rattle.flat_core.specs.Drafts.{with_end}
use Rattle.flat_core.specs.Sound.{count_measures}
use Rattle.flat_mean.specs.Row.{Row}
use Rattle.flat_mean.specs.Terms.{Term as WireTerm, do_steps}
use Rattle.bit_arith.specs.declared.operand.Operand.{Operand}
use Rattle.bit_arith.specs.Built.{Built, Setting, Given, all_made}
use Rattle.bit_arith.specs.Rows.{measure}
use Rattle.bit_arith.specs.Values.{forced, bits_at, values_at}
use Rattle.bit_arith.specs.Does.{Fresh, Below}
use Rattle.bit_arith.proofs.Steps.{clash}
use Rattle.bit_arith.proofs.Doing.{does_fresh}
use Rattle.bit_arith.proofs.Listed.{below_more}
use Rattle.bit_arith.proofs.Making.{bits_made, length-values}
use Rattle.flat_form.specs.declared.known.TypedBits.{TypedBits}
use Rattle.flat_form.specs.declared.known.Known.{Known}
use Rattle.flat_form.specs.declared.known.Known.TheVariants.{Static, Shown, Lent, Absent}
use Rattle.flat_form.specs.State.{Flattening, push, last, drop_last, build, taken, wires_in}
use Rattle.flat_form.specs.Flat.{flat, end_all, measure_all, measure_value}
use Rattle.flat_form.specs.Good.{Good, IsKnown}
use Rattle.flat_form.specs.Fine.{IsOf, MayTake, MayMeasure}
use Rattle.flat_form.specs.Shows.{HasShape, Shows, ListBoth, Related}
use Rattle.flat_form.proofs.Kept.{known_last}
use Rattle.flat_form.proofs.Later.{end_all_input, Later, later_then, later_blank, later_end_all, later_measure_all}
use Rattle.flat_laws.proofs.Compose.{steps-none, Leaves, measures-append, Leads}
use Rattle.flat_laws.proofs.Choice.{condition_holds}
use Rattle.flat_laws.proofs.Taking.{Taken, takes, wires_are, shown_last}
use Rattle.flat_laws.proofs.Turning.{values_whole, leads_after_taken}

-- ---- the steps

-- wires measured with numbers from n on
abbrev marks : ℕ → List WireId → List Step
marks n [] = []
marks n (w ∷ ws) = steps.M w n ∷ marks (suc n) ws

measure_steps : (at : Setting) (w : WireId) (b : Built) → (measure at w b).draft.steps ≡ b.draft.steps ++ steps.M w (count_measures b.draft.steps) ∷ []
unfolding measure
measure_steps at w b = refl

one_more : (at : Setting) (w : WireId) (b : Built) → count_measures (measure at w b).draft.steps ≡ suc (count_measures b.draft.steps)
one_more at w b =
    let n : ℕ = count_measures b.draft.steps in
    let a : count_measures (b.draft.steps ++ steps.M w n ∷ []) ≡ n + count_measures (steps.M w n ∷ []) = measures-append b.draft.steps (steps.M w n ∷ []) in
    let z : count_measures (steps.M w n ∷ []) ≡ 1 = refl in
    ap count_measures (measure_steps at w b) ∙ omega (arith, a, z)

all_marks : (at : Setting) (ws : List WireId) (b : Built) → (measure_all at ws b).draft.steps ≡ b.draft.steps ++ marks (count_measures b.draft.steps) ws
all_marks at [] b = sym (append-nil b.draft.steps)
all_marks at (w ∷ ws) b =
    let n : ℕ = count_measures b.draft.steps in
    all_marks at ws (measure at w b)
    ∙ (ap₂ (λ ss k. ss ++ marks k ws) (measure_steps at w b) (one_more at w b)
    ∙ append_assoc b.draft.steps (steps.M w n ∷ []) (marks (suc n) ws))

measure_wires : (at : Setting) (ws : List WireId) (b : Built) → (measure_all at ws b).draft.wires ≡ b.draft.wires
unfolding measure
measure_wires at [] b = refl
measure_wires at (w ∷ ws) b = measure_wires at ws (measure at w b)

pub ends_steps : (e : End) (ws : List WireId) (b : Built) → (end_all e ws b).draft.steps ≡ b.draft.steps
ends_steps e [] b = refl
ends_steps e (w ∷ ws) b = ends_steps e ws (record b { draft = with_end b.draft w e })

count_marks : (n : ℕ) (ws : List WireId) → count_measures (marks n ws) ≡ length ws
count_marks n [] = refl
count_marks n (w ∷ ws) =
    let a : count_measures (marks n (w ∷ ws)) ≡ count_measures (steps.M w n ∷ []) + count_measures (marks (suc n) ws) = measures-append (steps.M w n ∷ []) (marks (suc n) ws) in
    let z : count_measures (steps.M w n ∷ []) ≡ 1 = refl in
    let r : count_measures (marks (suc n) ws) ≡ length ws = count_marks (suc n) ws in
    omega (arith, a, z, r)

-- ---- what they do to a term

same_bits : (a b : Bool) → beq a b ≡ bool_eq b a
same_bits true true = refl
same_bits true false = refl
same_bits false true = refl
same_bits false false = refl

marks_do : (o : Outcome) (n : ℕ) (ws : List WireId) (u : WireTerm) → do_steps o (marks n ws) (u ∷ []) ≡ cond (outcomes_agree o n (values_at u.row ws)) (u ∷ []) []
marks_do o n [] u = refl
marks_do o n (w ∷ ws) u = ap (do_steps o (marks (suc n) ws)) (one (beq (u.row w.number) (o n))) ∙ pick (beq (u.row w.number) (o n)) (bool_eq (o n) (u.row w.number)) (same_bits (u.row w.number) (o n)) (marks_do o (suc n) ws u)
  where
    the_term : record { row = u.row; halvings = u.halvings + 0; eighths = u.eighths + 0 } ≡ u
    the_term = λ i. record { row = u.row; halvings = add-zero u.halvings i; eighths = add-zero u.eighths i }

    one : (b : Bool) → cond b (record { row = u.row; halvings = u.halvings + 0; eighths = u.eighths + 0 } ∷ []) [] ++ [] ≡ cond b (u ∷ []) []
    one true = ap (λ y. y ∷ []) the_term
    one false = refl

    pick : (b c : Bool) → b ≡ c → do_steps o (marks (suc n) ws) (u ∷ []) ≡ cond (outcomes_agree o (suc n) (values_at u.row ws)) (u ∷ []) [] → do_steps o (marks (suc n) ws) (cond b (u ∷ []) []) ≡ cond (c && outcomes_agree o (suc n) (values_at u.row ws)) (u ∷ []) []
    pick true true e h = h
    pick true false e h = cc
    pick false true e h = cc
    pick false false e h = steps-none o (marks (suc n) ws)

-- ---- the last value

no_condition : (s : Flattening) → s.setting.condition ≡ None → (v : Row) → forced s.setting v ≡ true
no_condition s e v = ap (λ c. condition_holds v c) e

abbrev pub when_told : Outcome → Term → List Term
when_told o t = if outcomes_agree o t.measured (bits_of (last_value t)) then (told (bits_of (last_value t)) t ∷ []) else []

pub leads_measured : (o : Outcome) (z z' : TypedBits) (ws : List WireId) (s : Flattening) → s.setting.condition ≡ None → Fresh s.built.draft → Below (length s.built.draft.wires) ws → z.operands ≡ all_made ws → z'.operands ≡ z.operands → z'.shape ≡ z.shape → Leads o (push (Shown z) s) (push (Shown z') (build (end_all Measured ws (measure_all s.setting ws s.built)) s)) (when_told o)
leads_measured o z z' ws s none f below its same shape =
    let d : DraftForm = s.built.draft in
    let b1 : Built = measure_all s.setting ws s.built in
    let b : Built = end_all Measured ws b1 in
    let e : Flattening = push (Shown z') (build b s) in
    let n : ℕ = count_measures d.steps in
    let m : Later d b1.draft = later_measure_all s.setting ws s.built in
    let l : Later d b.draft = later_then d b1.draft b.draft m (later_end_all Measured ws b1 (below_more (length d.wires) (length b1.draft.wires) ws m.longer below)) in
    let grown : b.draft.steps ≡ d.steps ++ marks n ws = ends_steps Measured ws b1 ∙ all_marks s.setting ws s.built in
    record {
      new = marks n ws;
      grown = grown;
      wires = l.longer;
      setting = refl;
      inputs = λ k. end_all_input Measured ws b1 k (below_more (length d.wires) (length b1.draft.wires) ws m.longer below) ∙ ap (λ l. (wire_in l k).input) (measure_wires s.setting ws s.built);
      blanks = λ k h. (later_blank d b.draft l f k h).0;
      leaves = subst (λ c. Leaves c (marks n ws)) (sym none) tt;
      told = λ v c off. absurd (clash (sym off ∙ no_condition s none v));
      still = λ u c off. absurd (clash (sym off ∙ no_condition s none u.row));
      gives = λ u t r on.
          let shows : Shows u.row (Shown z) (last_value t) = shown_last (push (Shown z) s) z u t refl r in
          let bits : values_at u.row ws ≡ bits_of (last_value t) = sym (bits_made u.row ws) ∙ (ap (bits_at u.row) (sym its) ∙ shows.1) in
          let count : length ws ≡ length (bits_of (last_value t)) = sym (length-values u.row ws) ∙ ap length bits in
          let total : count_measures b.draft.steps ≡ t.measured + length (bits_of (last_value t)) =
          ap count_measures grown ∙ (measures-append d.steps (marks n ws) ∙ (ap₂ (λ (i j : ℕ). i + j) r.measured (count_marks n ws ∙ count))) in
          let values : ListBoth (Shows u.row) (Shown z' ∷ s.values) t.values =
          subst (λ l. ListBoth (Shows u.row) (Shown z' ∷ s.values) l) (sym (values_whole u.row (Shown z ∷ s.values) t.values z refl r.values))
          ((subst (λ h. HasShape h (last_value t)) (sym shape) shows.0, ap (bits_at u.row) same ∙ shows.1), rest_of u.row t.values r.values) in
          let end : Related e u (told (bits_of (last_value t)) t) = record {
            clean = λ k h. r.clean k (later_blank d b.draft l f k h).0;
            env = r.env;
            values = values;
            callers = r.callers;
            eighths = r.eighths;
            halvings = r.halvings;
            measured = total;
          } in
          subst (λ us. ListBoth (Related e) us (when_told o t)) (sym (marks_do o n ws u))
          (subst (λ i. ListBoth (Related e) (cond (outcomes_agree o i (values_at u.row ws)) (u ∷ []) []) (when_told o t)) (sym r.measured)
          (subst (λ bs. ListBoth (Related e) (cond (outcomes_agree o t.measured bs) (u ∷ []) []) (when_told o t)) (sym bits)
          (pick e u t (outcomes_agree o t.measured (bits_of (last_value t))) end)));
    }
  where
    rest_of : (x : Row) (vs : List Value) → ListBoth (Shows x) (Shown z ∷ s.values) vs → ListBoth (Shows x) s.values (drop 1 vs)
    rest_of x [] h = absurd h
    rest_of x (v ∷ vs) h = h.1

    pick : (e : Flattening) (u : WireTerm) (t : Term) (b : Bool) → Related e u (told (bits_of (last_value t)) t) → ListBoth (Related e) (cond b (u ∷ []) []) (if b then (told (bits_of (last_value t)) t ∷ []) else [])
    pick e u t true h = (h, tt)
    pick e u t false h = tt

pub leads_measure : (o : Outcome) (s : Flattening) → Good s → MayMeasure s → Leads o s (flat measured s) (follow o measured)
leads_measure o s gs may = go (last s) refl may.1 (known_last (IsKnown (length s.built.draft.wires)) s tt gs.known)
  where
    go : (k : Known) → last s ≡ k → IsOf (λ v. MayTake v s) k → IsKnown (length s.built.draft.wires) k → Leads o s (measure_value k (drop_last s)) (follow o measured)
    go (Static y) e m q = absurd m
    go (Lent a c v) e m q = absurd m
    go Absent e m q = absurd m
    go (Shown v) e m q =
        let g : Given (List Operand) = taken s.setting v s.built in
        let k : Taken s v g = takes s v gs q m in
        let ws : List WireId = wires_in g.answer in
        let z : TypedBits = record { classical = false; shape = v.shape; operands = g.answer; own = true; began = v.began } in
        let z' : TypedBits = record { classical = true; shape = v.shape; operands = g.answer; own = false; began = v.began } in
        let s0 : Flattening = build g.built (drop_last s) in
        leads_after_taken o s (push (Shown z') (build (end_all Measured ws (measure_all s.setting ws g.built)) (drop_last s))) v g z (when_told o) gs e k refl refl
        (leads_measured o z z' ws s0 may.0 (does_fresh k.does gs.fresh) k.below (wires_are g.answer k.wires) refl refl)
