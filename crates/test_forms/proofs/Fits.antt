-- A table whose ends fit has a flat form.
use Rattle.std.proofs.Common.{◌≡◌, ℕ, zero, suc, ◌+◌, ◌^◌, ◌<◌, ◌≤◌, ◌⊎◌, Bool, cond, le_refl, true, List, [], ◌∷◌, ◌++◌, length, get_or, refl, sym, ap, ◌∙◌, subst, inl, inr, arith, append-nil, append_assoc}
use Rattle.std.proofs.lemmas.List.{length-map, get_or-map}
use Rattle.std.proofs.lemmas.Bool.{cases_lt, cases_Bool, both_ways}
use Rattle.std.proofs.Math.ListN.{get_or-eq_default}
use Rattle.std.proofs.Math.Seq.{set-append_seam, get_or-append_seam}
use Rattle.std.proofs.lemmas.List.Folds.{Any-from_list_any}
use Rattle.std.proofs.lemmas.List.{get_or_read_under}
use Rattle.flat_core.specs.declared.step.Step.{Step}
use Rattle.flat_core.specs.declared.step.Step.TheVariants.{X, H, P, M}
use Rattle.flat_core.specs.declared.step.End.{End}
use Rattle.flat_core.specs.declared.step.End.TheVariants.{Output, Dropped, Measured, Zeroed}
use Rattle.flat_core.specs.declared.step.WireId.{WireId}
use Rattle.flat_core.specs.declared.step.StepId.{StepId}
use Rattle.flat_core.specs.Form.{WireForm, FlatForm, DraftForm}
use Rattle.flat_core.specs.Label.{step_id, wire_id, changes, no_step, no_wire, step_in, step_at, wire_in, end_of, is_input}
use Rattle.flat_core.specs.Ends.{measures}
use Rattle.flat_core.specs.Sound.{is_x, IsFlat}
use Rattle.flat_core.specs.Drafts.{empty_draft, finished, is_measured, IsDraft, FitsEnds}
use Rattle.flat_core.proofs.Labels.{same_wire_is}
use Rattle.flat_core.proofs.Finishes.{drafts_become_flat}
use Rattle.flat_mean.specs.Row.{is_h}
use Rattle.flat_mean.specs.Path.{step_number, choices_at}
use Rattle.test_forms.specs.declared.entries.WireEntry.{WireEntry}
use Rattle.test_forms.specs.declared.entries.StepEntry.{StepEntry}
use Rattle.test_forms.specs.declared.lists.Side.TheVariants.{Ins, Outs}
use Rattle.test_forms.specs.Table.{wire_form_of, wire_forms_of, steps_of, lines_of, is_output, ids, form_of, with_entry, with_entries, with_steps, WireFits, StepFits}
use Rattle.test_forms.proofs.Named.{one_list}

-- at most one choice bit a step
pub few_choices : (steps : List Step) (n : ℕ) → choices_at steps n ≤ n
few_choices steps zero = le_refl 0
few_choices steps (suc n) =
    let before = few_choices steps n in
    elim (cases_Bool (is_h (step_number steps n))) [
      | inl h ↦ let e : choices_at steps (suc n) ≡ choices_at steps n + 1 = ap (λ (b : Bool). choices_at steps n + cond b 1 0) h in omega arith
      | inr h ↦ let e : choices_at steps (suc n) ≡ choices_at steps n + 0 = ap (λ (b : Bool). choices_at steps n + cond b 1 0) h in omega arith
    ]

-- a number below the next one is below this one, or is this one
pub below_or_last : (n k : ℕ) → k < n + 1 → (k < n) ⊎ (n ≡ k)
below_or_last n k l = elim (cases_lt k n) [ inl m ↦ inl m | inr g ↦ inr (omega arith) ]

abbrev pub draft_with : DraftForm → List WireForm → DraftForm
draft_with d wires = record { wires = d.wires ++ wires; steps = d.steps; lines = d.lines }

abbrev pub made : List WireEntry → List StepEntry → DraftForm
made wires steps = record { wires = wire_forms_of wires; steps = steps_of steps; lines = lines_of steps }

entry_made : (d : DraftForm) (entry : WireEntry) → with_entry d entry ≡ draft_with d (wire_form_of entry ∷ [])
entry_made d entry =
    let blank : WireForm = record { input = entry.input; ending = Dropped } in
    let read : wire_in (d.wires ++ blank ∷ []) (wire_id (length d.wires)) ≡ blank = get_or-append_seam d.wires blank [] no_wire in
    ap (λ (ws : List WireForm). record { wires = ws; steps = d.steps; lines = d.lines })
    (set-append_seam d.wires blank [] (record { input = (wire_in (d.wires ++ blank ∷ []) (wire_id (length d.wires))).input; ending = entry.end })
    ∙ ap (λ (x : WireForm). d.wires ++ record { input = x.input; ending = entry.end } ∷ []) read)

entries_made : (d : DraftForm) (entries : List WireEntry) → with_entries d entries ≡ draft_with d (wire_forms_of entries)
entries_made d [] = ap (λ (ws : List WireForm). record { wires = ws; steps = d.steps; lines = d.lines }) (sym (append-nil d.wires))
entries_made d (entry ∷ rest) =
    ap (λ (e : DraftForm). with_entries e rest) (entry_made d entry)
    ∙ entries_made (draft_with d (wire_form_of entry ∷ [])) rest
    ∙ ap (λ (ws : List WireForm). record { wires = ws; steps = d.steps; lines = d.lines }) (append_assoc d.wires (wire_form_of entry ∷ []) (wire_forms_of rest))

steps_made : (d : DraftForm) (entries : List StepEntry) → with_steps d entries ≡ record { wires = d.wires; steps = d.steps ++ steps_of entries; lines = d.lines ++ lines_of entries }
steps_made d [] =
    ap (λ (ss : List Step). record { wires = d.wires; steps = ss; lines = d.lines }) (sym (append-nil d.steps))
    ∙ ap (λ (ls : List ℕ). record { wires = d.wires; steps = d.steps ++ []; lines = ls }) (sym (append-nil d.lines))
steps_made d (entry ∷ rest) =
    steps_made (record { wires = d.wires; steps = d.steps ++ entry.step ∷ []; lines = d.lines ++ entry.line ∷ [] }) rest
    ∙ ap (λ (ss : List Step). record { wires = d.wires; steps = ss; lines = (d.lines ++ entry.line ∷ []) ++ lines_of rest }) (append_assoc d.steps (entry.step ∷ []) (steps_of rest))
    ∙ ap (λ (ls : List ℕ). record { wires = d.wires; steps = d.steps ++ steps_of (entry ∷ rest); lines = ls }) (append_assoc d.lines (entry.line ∷ []) (lines_of rest))

-- the wires and steps of a table make a draft of these
pub table_made : (wires : List WireEntry) (steps : List StepEntry) → with_steps (with_entries empty_draft wires) steps ≡ made wires steps
table_made wires steps =
    ap (λ (d : DraftForm). with_steps d steps) (entries_made empty_draft wires)
    ∙ steps_made (draft_with empty_draft (wire_forms_of wires)) steps

-- what a loop reads is what the form has
read_step : (steps : List StepEntry) (n : ℕ) (d : StepEntry) → n < length steps → step_in (steps_of steps) (step_id n) ≡ (get_or steps n d).step
read_step steps n d l = get_or-map (λ (x : StepEntry). x.step) steps n d no_step l

read_wire : (wires : List WireEntry) (n : ℕ) (d : WireEntry) → n < length wires → wire_in (wire_forms_of wires) (wire_id n) ≡ wire_form_of (get_or wires n d)
read_wire wires n d l = get_or-map wire_form_of wires n d no_wire l

pub next_step_fits : (wires : List WireForm) (steps : List StepEntry) (n : ℕ) (d : StepEntry) → n < length steps → ((s : StepId) → s.number < length steps → StepFits wires (step_in (steps_of steps) s)) → StepFits wires (get_or steps n d).step
next_step_fits wires steps n d l all = subst (StepFits wires) (read_step steps n d l) (all (step_id n) l)

pub more_steps_fit : (wires : List WireForm) (steps : List StepEntry) (n : ℕ) (d : StepEntry) → n < length steps → ((s : StepId) → s.number < n → StepFits wires (step_in (steps_of steps) s)) → StepFits wires (get_or steps n d).step → (s : StepId) → s.number < n + 1 → StepFits wires (step_in (steps_of steps) s)
more_steps_fit wires steps n d l before fits s m = elim (below_or_last n s.number m) [
  | inl k ↦ before s k
  | inr e ↦ subst (λ (k : ℕ). StepFits wires (step_in (steps_of steps) (step_id k))) e (subst (StepFits wires) (sym (read_step steps n d l)) fits)
]

pub next_wire_fits : (steps : List Step) (wires : List WireEntry) (n : ℕ) (d : WireEntry) → n < length wires → ((w : WireId) → w.number < length wires → WireFits steps (wire_in (wire_forms_of wires) w) w) → WireFits steps (wire_form_of (get_or wires n d)) (wire_id n)
next_wire_fits steps wires n d l all = subst (λ (x : WireForm). WireFits steps x (wire_id n)) (read_wire wires n d l) (all (wire_id n) l)

pub more_wires_fit : (steps : List Step) (wires : List WireEntry) (n : ℕ) (d : WireEntry) → n < length wires → ((w : WireId) → w.number < n → WireFits steps (wire_in (wire_forms_of wires) w) w) → WireFits steps (wire_form_of (get_or wires n d)) (wire_id n) → (w : WireId) → w.number < n + 1 → WireFits steps (wire_in (wire_forms_of wires) w) w
more_wires_fit steps wires n d l before fits w m = elim (below_or_last n w.number m) [
  | inl k ↦ before w k
  | inr e ↦ subst (λ (k : ℕ). WireFits steps (wire_in (wire_forms_of wires) (wire_id k)) (wire_id k)) e (subst (λ (x : WireForm). WireFits steps x (wire_id n)) (sym (read_wire wires n d l)) fits)
]

-- the draft that the two loops make
pub draft_made : (wires : List WireEntry) (steps : List StepEntry) (blank d e : DraftForm) → blank ≡ empty_draft → d ≡ with_entries blank wires → e ≡ with_steps d steps → e ≡ made wires steps
draft_made wires steps blank d e empty first then = then ∙ ap (λ (x : DraftForm). with_steps x steps) (first ∙ ap (λ (x : DraftForm). with_entries x wires) empty) ∙ table_made wires steps

pub as_many_made : (wires : List WireEntry) (steps : List StepEntry) (d : DraftForm) → d ≡ made wires steps → length wires ≡ length d.wires
as_many_made wires steps d is = sym (ap (λ (x : DraftForm). length x.wires) is ∙ length-map wires wire_form_of)

pub few_made : (wires : List WireEntry) (steps : List StepEntry) (d : DraftForm) → d ≡ made wires steps → IsDraft d → length wires < 2 ^ 32
few_made wires steps d is ok = let e = as_many_made wires steps d is in let few = ok.few_wires in omega arith

-- the flat form that a draft becomes
pub made_flat : (wires : List WireEntry) (steps : List StepEntry) (d : DraftForm) (ins outs : List (List WireId)) → d ≡ made wires steps → ins ≡ ids Ins (wire_forms_of wires) (length wires) ∷ [] → outs ≡ ids Outs (wire_forms_of wires) (length wires) ∷ [] → finished d ins outs ≡ form_of wires steps
made_flat wires steps d ins outs is in_is out_is =
    ap (λ (x : DraftForm). finished x ins outs) is
    ∙ ap (λ (l : List (List WireId)). finished (made wires steps) l outs) in_is
    ∙ ap (λ (l : List (List WireId)). finished (made wires steps) (ids Ins (wire_forms_of wires) (length wires) ∷ []) l) out_is

module _ (wires : List WireEntry) (steps : List StepEntry) where
  abbrev f : FlatForm
  f = form_of wires steps

  abbrev WiresFit : Type 0
  WiresFit = (w : WireId) → w.number < length wires → WireFits (steps_of steps) (wire_in (wire_forms_of wires) w) w

  abbrev StepsFit : Type 0
  StepsFit = (s : StepId) → s.number < length steps → StepFits (wire_forms_of wires) (step_in (steps_of steps) s)

  as_many : length (wire_forms_of wires) ≡ length wires
  as_many = length-map wires wire_form_of

  as_many_steps : length (steps_of steps) ≡ length steps
  as_many_steps = length-map steps (λ x. x.step)

  -- a wire is there, or nothing is said of it
  there : (w : WireId) → (w.number < length wires) ⊎ (wire_in (wire_forms_of wires) w ≡ no_wire)
  there w = elim (cases_lt w.number (length wires)) [
    | inl l ↦ inl l
    | inr g ↦ inr (get_or-eq_default (wire_forms_of wires) no_wire (let m = as_many in omega arith))
  ]

  x_on_dropped : (s : Step) (w : WireId) → StepFits (wire_forms_of wires) s → end_of f w ≡ Dropped → changes w s ≡ true → is_x s ≡ true
  x_on_dropped (X t a b) w fits d c = refl
  x_on_dropped (H t a) w fits d c = absurd (fits (ap (λ (x : WireId). end_of f x) (same_wire_is t w c) ∙ d))
  x_on_dropped (P k a) w fits d c = cc
  x_on_dropped (M x n) w fits d c = cc

  m_on_measured : (s : Step) (w : WireId) → StepFits (wire_forms_of wires) s → measures w s ≡ true → end_of f w ≡ Measured
  m_on_measured (X t a b) w fits m = cc
  m_on_measured (H t a) w fits m = cc
  m_on_measured (P k a) w fits m = cc
  m_on_measured (M x n) w fits m = ap (λ (y : WireId). end_of f y) (sym (same_wire_is x w m)) ∙ fits

  measure_in : (w : WireId) → is_measured (steps_of steps) w ≡ true → (s : StepId) × (s.number < length (steps_of steps)) × (measures w (step_in (steps_of steps) s) ≡ true)
  measure_in w h =
      let a = Any-from_list_any (measures w) (steps_of steps) h in
      let read : a.1 ≡ step_in (steps_of steps) (step_id a.0) = get_or_read_under (steps_of steps) a.0 (length (steps_of steps)) a.1 no_step (sym a.3) a.2 refl in
      (step_id a.0, a.2, subst (λ (s : Step). measures w s ≡ true) read a.4)

  output_is : (e : End) → is_output e ≡ true → e ≡ Output
  output_is Output h = refl
  output_is Dropped h = cc
  output_is Measured h = cc
  output_is Zeroed h = cc

  ends_fit : WiresFit → StepsFit → FitsEnds f
  ends_fit wires_fit steps_fit = record {
    dropped_is_new = λ w e. elim (there w) [ inl l ↦ (wires_fit w l).dropped_is_new e | inr g ↦ ap (λ (x : WireForm). x.input) g ];
    dropped_has_x = λ s w l e c. x_on_dropped (step_at f s) w (steps_fit s (let m = as_many_steps in omega arith)) e c;
    m_is_measured = λ s w l m. m_on_measured (step_at f s) w (steps_fit s (let n = as_many_steps in omega arith)) m;
    measured_has_m = λ w e. elim (there w) [
      | inl l ↦ measure_in w ((wires_fit w l).measured_has_m e)
      | inr g ↦ let d : Output ≡ Measured = sym (ap (λ (x : WireForm). x.ending) g) ∙ e in cc
    ];
    ins_name = one_list Ins (wire_forms_of wires) (length wires) (λ w. is_input f w ≡ true)
        (λ w h. elim (there w) [ inl l ↦ (l, h) | inr g ↦ absurd (both_ways (is_input f w) (ap (λ (x : WireForm). x.input) g) h) ])
        (λ w l h. h);
    outs_name = one_list Outs (wire_forms_of wires) (length wires) (λ w. (w.number < length f.wires) × (end_of f w ≡ Output))
        (λ w h. ((let l = h.0 in let m = as_many in omega arith), ap is_output h.1))
        (λ w l h. ((let m = as_many in omega arith), output_is (end_of f w) h));
  }

  -- what the draft becomes
  pub table_flat : (d : DraftForm) (ins outs : List (List WireId)) → d ≡ made wires steps → ins ≡ ids Ins (wire_forms_of wires) (length wires) ∷ [] → outs ≡ ids Outs (wire_forms_of wires) (length wires) ∷ [] → IsDraft d → WiresFit → StepsFit → IsFlat (finished d ins outs)
  table_flat d ins outs is in_is out_is ok wires_fit steps_fit =
      subst IsFlat (sym (made_flat wires steps d ins outs is in_is out_is))
      (drafts_become_flat (made wires steps) (ids Ins (wire_forms_of wires) (length wires) ∷ []) (ids Outs (wire_forms_of wires) (length wires) ∷ [])
      (subst IsDraft is ok) (ends_fit wires_fit steps_fit))
