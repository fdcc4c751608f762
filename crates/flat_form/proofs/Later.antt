-- Drafts that grow: what a later draft keeps of an earlier one.
use Rattle.std.proofs.Common.{◌≡◌, ℕ, ◌≤◌, ◌<◌, ◌==◌, Bool, true, false, not, ◌&&◌, List, [], ◌∷◌, ◌++◌, length, Option, Some, None, refl, sym, ap, ap₂, ◌∙◌, arith, append_assoc, append-nil, length-set, inl, inr}
use Rattle.std.proofs.lemmas.Bool.{eqb-true, eq-eqb, cases_Bool, cases_lt}
use Rattle.std.proofs.lemmas.List.{get_or_past, get_or_append_left}
use Rattle.flat_core.specs.declared.step.Step.{Step}
use Rattle.flat_core.specs.declared.step.Step.TheVariants.{H, M}
use Rattle.flat_core.specs.declared.step.Lit.{Lit}
use Rattle.flat_core.specs.declared.step.End.{End}
use Rattle.flat_core.specs.declared.step.WireId.{WireId}
use Rattle.flat_core.specs.Form.{DraftForm, WireForm}
use Rattle.flat_core.specs.Label.{label_after, wire_in, no_wire}
use Rattle.flat_core.specs.Drafts.{with_step, with_end}
use Rattle.flat_core.specs.Sound.{count_measures}
use Rattle.flat_core.proofs.NextSteps.{input_with_end}
use Rattle.flat_mean.specs.Row.{Row}
use Rattle.bit_arith.specs.declared.operand.Operand.{Operand}
use Rattle.bit_arith.specs.declared.operand.Operand.TheVariants.{Const, Literal}
use Rattle.bit_arith.specs.Built.{Built, Setting, blank}
use Rattle.bit_arith.specs.Rows.{had, had_under, measure}
use Rattle.bit_arith.specs.Calls.{Targets, WasRead}
use Rattle.bit_arith.specs.Does.{dropped_wires, Fresh, Grows, Does, Below}
use Rattle.bit_arith.proofs.Steps.{label-none, label-left, label-right, label-not, apart_above, clash}
use Rattle.bit_arith.proofs.Doing.{grown}
use Rattle.bit_arith.proofs.Listed.{below_more}
use Rattle.flat_form.specs.Flat.{end_all, measure_all}

-- the steps that came; no wire is gone or became an input, and no step changes a wire that is not made
pub record Later (d e : DraftForm) : Type 0 where
  pub new : List Step
  pub steps : e.steps ≡ d.steps ++ new
  pub longer : length d.wires ≤ length e.wires
  pub inputs : (w : WireId) → w.number < length d.wires → (wire_in e.wires w).input ≡ (wire_in d.wires w).input
  pub above : (w : WireId) → length e.wires ≤ w.number → label_after new w ≡ 0

pub later_same : (d : DraftForm) → Later d d
later_same d = record {
  new = [];
  steps = sym (append-nil d.steps);
  longer = omega arith;
  inputs = λ w lt. refl;
  above = λ w le. refl;
}

pub later_then : (d e f : DraftForm) → Later d e → Later e f → Later d f
later_then d e f q r =
    let one = q.longer in
    let two = r.longer in
    record {
      new = q.new ++ r.new;
      steps = r.steps ∙ (ap (λ ss. ss ++ r.new) q.steps ∙ append_assoc d.steps q.new r.new);
      longer = omega (arith, one, two);
      inputs = λ w lt. r.inputs w (omega (arith, one, lt)) ∙ q.inputs w lt;
      above = λ w le. label-none q.new r.new w (q.above w (omega (arith, two, le))) (r.above w le);
    }

pub later_grows : {d e : DraftForm} {T : Targets} {new : List Step} → Grows d e T new → Later d e
later_grows {d = d} {e = e} {new = new} g = record {
  new = new;
  steps = g.steps;
  longer = grown g;
  inputs = λ w lt.
      ap (λ ws. (wire_in ws w).input) g.wires
      ∙ ap (λ (r : WireForm). r.input) (get_or_append_left d.wires (dropped_wires g.more) no_wire w.number lt);
  above = g.above;
}

pub later_does : {at : Setting} {d e : DraftForm} {T : Targets} {Q : Row → Row → Type 0} → Does at d e T Q → Later d e
later_does r = later_grows r.grows

pub later_fresh : (d e : DraftForm) → Later d e → Fresh d → Fresh e
later_fresh d e q f w le =
    let up = q.longer in
    ap (λ ss. label_after ss w) q.steps ∙ label-none d.steps q.new w (f w (omega (arith, up, le))) (q.above w le)

-- ---- blank wires

not_and : (a b : Bool) → not a && b ≡ true → (a ≡ false) × (b ≡ true)
not_and true b h = cc
not_and false b h = (refl, h)

-- a wire that is blank later was blank before, and no step changed it
pub later_blank : (d e : DraftForm) (q : Later d e) → Fresh d → (w : WireId) → blank e w ≡ true → (blank d w ≡ true) × (label_after q.new w ≡ 0)
later_blank d e q f w b =
    let (i, l) = not_and (wire_in e.wires w).input (label_after e.steps w == 0) b in
    let all : label_after (d.steps ++ q.new) w ≡ 0 = sym (ap (λ ss. label_after ss w) q.steps) ∙ eqb-true (label_after e.steps w) 0 l in
    let was : (wire_in d.wires w).input ≡ false =
    elim (cases_lt w.number (length d.wires)) [
      | inl lt ↦ sym (q.inputs w lt) ∙ i
      | inr le ↦ ap (λ (r : WireForm). r.input) (get_or_past d.wires w.number no_wire le)
    ] in
    (ap₂ (λ x y. not x && y) was (eq-eqb (label_after d.steps w) 0 (label-left d.steps q.new w all)), label-right d.steps q.new w all)

-- a wire that is not blank stays so
pub later_used : (d e : DraftForm) → Later d e → Fresh d → (w : WireId) → blank d w ≡ false → blank e w ≡ false
later_used d e q f w h = elim (cases_Bool (blank e w)) [
  | inl b ↦ absurd (clash (sym h ∙ (later_blank d e q f w b).0))
  | inr b ↦ b
]

pub later_read : (d e : DraftForm) → Later d e → Fresh d → (c : Option Operand) → WasRead d c → WasRead e c
later_read d e q f None h = tt
later_read d e q f (Some (Const b)) h = tt
later_read d e q f (Some (Literal l)) h = later_used d e q f l.wire h

-- ---- ends

pub later_end : (d : DraftForm) (w : WireId) (ending : End) → w.number < length d.wires → Later d (with_end d w ending)
later_end d w ending lt =
    let same : length (with_end d w ending).wires ≡ length d.wires = length-set d.wires w.number (record { input = (wire_in d.wires w).input; ending = ending }) in
    record {
      new = [];
      steps = sym (append-nil d.steps);
      longer = omega (arith, same);
      inputs = λ k l. input_with_end d.wires w ending k lt;
      above = λ k le. refl;
    }

pub later_end_all : (ending : End) (ws : List WireId) (b : Built) → Below (length b.draft.wires) ws → Later b.draft (end_all ending ws b).draft
later_end_all ending [] b h = later_same b.draft
later_end_all ending (w ∷ ws) b h =
    let q : Later b.draft (with_end b.draft w ending) = later_end b.draft w ending h.0 in
    later_then b.draft (with_end b.draft w ending) (end_all ending (w ∷ ws) b).draft q
    (later_end_all ending ws (record b { draft = with_end b.draft w ending }) (below_more (length b.draft.wires) (length (with_end b.draft w ending).wires) ws q.longer h.1))

-- ends change no step, no number of wires and no blank wire
pub end_all_steps : (ending : End) (ws : List WireId) (b : Built) → (end_all ending ws b).draft.steps ≡ b.draft.steps
end_all_steps ending [] b = refl
end_all_steps ending (w ∷ ws) b = end_all_steps ending ws (record b { draft = with_end b.draft w ending })

pub end_all_length : (ending : End) (ws : List WireId) (b : Built) → length (end_all ending ws b).draft.wires ≡ length b.draft.wires
end_all_length ending [] b = refl
end_all_length ending (w ∷ ws) b =
    end_all_length ending ws (record b { draft = with_end b.draft w ending })
    ∙ length-set b.draft.wires w.number (record { input = (wire_in b.draft.wires w).input; ending = ending })

pub end_all_input : (ending : End) (ws : List WireId) (b : Built) (k : WireId) → Below (length b.draft.wires) ws → (wire_in (end_all ending ws b).draft.wires k).input ≡ (wire_in b.draft.wires k).input
end_all_input ending [] b k h = refl
end_all_input ending (w ∷ ws) b k h =
    end_all_input ending ws (record b { draft = with_end b.draft w ending }) k (below_more (length b.draft.wires) (length (with_end b.draft w ending).wires) ws (later_end b.draft w ending h.0).longer h.1)
    ∙ input_with_end b.draft.wires w ending k h.0

pub end_all_blank : (ending : End) (ws : List WireId) (b : Built) (k : WireId) → Below (length b.draft.wires) ws → blank (end_all ending ws b).draft k ≡ blank b.draft k
end_all_blank ending ws b k h = ap₂ (λ (i : Bool) (ss : List Step). not i && (label_after ss k == 0)) (end_all_input ending ws b k h) (end_all_steps ending ws b)

-- ---- H and M

pub later_step : (d : DraftForm) (s : Step) (line : ℕ) → ((w : WireId) → length d.wires ≤ w.number → label_after (s ∷ []) w ≡ 0) → Later d (with_step d s line)
later_step d s line f = record {
  new = s ∷ [];
  steps = refl;
  longer = omega arith;
  inputs = λ w lt. refl;
  above = f;
}

later_h : (d : DraftForm) (w : WireId) (c : Option Lit) (line : ℕ) → w.number < length d.wires → Later d (with_step d (H w c) line)
later_h d w c line lt = later_step d (H w c) line (λ k le. label-not (H w c) [] k (apart_above w.number k.number (omega (arith, lt, le))) refl)

pub later_had : (at : Setting) (w : WireId) (b : Built) → w.number < length b.draft.wires → Later b.draft (had at w b).draft
unfolding had
later_had at w b lt = go at.condition
  where
    go : (c : Option Operand) → Later b.draft (had_under at c w b).draft
    go None = later_h b.draft w None at.line lt
    go (Some (Const true)) = later_h b.draft w None at.line lt
    go (Some (Const false)) = later_same b.draft
    go (Some (Literal l)) = later_h b.draft w (Some l) at.line lt

pub later_measure : (at : Setting) (w : WireId) (b : Built) → Later b.draft (measure at w b).draft
unfolding measure
later_measure at w b = later_step b.draft (M w (count_measures b.draft.steps)) at.line (λ k le. label-not (M w (count_measures b.draft.steps)) [] k refl refl)

pub later_measure_all : (at : Setting) (ws : List WireId) (b : Built) → Later b.draft (measure_all at ws b).draft
later_measure_all at [] b = later_same b.draft
later_measure_all at (w ∷ ws) b =
    later_then b.draft (measure at w b).draft (measure_all at ws (measure at w b)).draft (later_measure at w b) (later_measure_all at ws (measure at w b))
