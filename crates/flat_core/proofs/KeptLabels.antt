-- The labels that are kept stay right.
use Rattle.std.proofs.Common.{◌≡◌, ℕ, ◌+◌, ◌<◌, ◌≤◌, Bool, true, false, cond, not, ◌&&◌, List, [], ◌∷◌, ◌++◌, length, get_or, slice_get, slice_set, take, Option, Some, None, IfSome, refl, sym, ap, ◌∙◌, subst, subst₂, inl, inr, arith, add-zero}
use Rattle.std.proofs.Math.Bool.{and-true, and-false, or-true, or-false}
use Rattle.std.proofs.lemmas.Bool.{cases_eq, eq-eqb, ne_eqb}
use Rattle.std.proofs.lemmas.List.{map-append, length-map, take-append-le}
use Rattle.std.proofs.Math.Seq.{take-append_seam, map-set_same}
use Rattle.std.proofs.lemmas.Option.{slice_get-get_or}
use Rattle.flat_core.specs.declared.rows.WireRow.{WireRow}
use Rattle.flat_core.specs.declared.rows.StepRow.{StepRow}
use Rattle.flat_core.specs.declared.step.Step.{Step}
use Rattle.flat_core.specs.declared.step.Step.TheVariants.{X, H, P, M}
use Rattle.flat_core.specs.declared.step.End.TheVariants.{Dropped}
use Rattle.flat_core.specs.declared.step.WireId.{WireId}
use Rattle.flat_core.specs.declared.step.StepId.{StepId}
use Rattle.flat_core.specs.Label.{changes, main_wire, first_wire, second_wire, same_wire, step_in, label_after, EachNamed}
use Rattle.flat_core.specs.Rows.{wire_form, wire_forms, steps_of, lines_of, no_row, kept_label, label_if_any, row_for, marked_row, marked, HasLabels, IsRowOf, KeepsLabels}
use Rattle.flat_core.specs.Ends.{measures}
use Rattle.flat_core.specs.Sound.{is_m}
use Rattle.flat_core.specs.Drafts.{is_measured}
use Rattle.flat_core.proofs.Labels.{label_after-push, label_after-none, is_measured-push, is_measured-none}
use Rattle.flat_core.proofs.Places.{at_push, at_set_same, at_set_other}

pub labels_empty : KeepsLabels [] []
labels_empty = record { of_wires = λ w row h. cc; of_steps = λ k row h. cc }

-- what stays for the model
pub forms-marked : (wires : List WireRow) (o : Option WireId) (measures : Bool) → wire_forms (marked wires o measures) ≡ wire_forms wires
forms-marked wires None measures = refl
forms-marked wires (Some w) true = map-set_same wire_form wires w.number (marked_row (get_or wires w.number no_row) true) no_row refl
forms-marked wires (Some w) false = map-set_same wire_form wires w.number (marked_row (get_or wires w.number no_row) false) no_row refl

pub steps_of-push : (steps : List StepRow) (row : StepRow) → steps_of (steps ++ row ∷ []) ≡ steps_of steps ++ row.step ∷ []
steps_of-push steps row = map-append (λ r. r.step) steps (row ∷ [])

pub lines_of-push : (steps : List StepRow) (row : StepRow) → lines_of (steps ++ row ∷ []) ≡ lines_of steps ++ row.line ∷ []
lines_of-push steps row = map-append (λ r. r.line) steps (row ∷ [])

pub length-steps_of : (steps : List StepRow) → length (steps_of steps) ≡ length steps
length-steps_of steps = length-map steps (λ r. r.step)

pub length-wire_forms : (wires : List WireRow) → length (wire_forms wires) ≡ length wires
length-wire_forms wires = length-map wires wire_form

-- the label that is kept of a wire that is there is its label
pub kept : (wires : List WireRow) (steps : List StepRow) → KeepsLabels wires steps → (o : Option WireId) → IfSome o (λ w. w.number < length wires) → kept_label wires o ≡ label_if_any (steps_of steps) o
kept wires steps ok None h = refl
kept wires steps ok (Some w) h = (ok.of_wires w (get_or wires w.number no_row) (slice_get-get_or wires w.number no_row h)).label_is

-- a wire that is made has the label 0 and no M
pub labels_wire : (wires : List WireRow) (steps : List StepRow) (input : Bool) → KeepsLabels wires steps → ((s : StepId) → s.number < length (steps_of steps) → EachNamed (λ w. w.number < length wires) (step_in (steps_of steps) s)) → KeepsLabels (wires ++ record { input = input; ending = Dropped; label = 0; measured = false } ∷ []) steps
labels_wire wires steps input ok there =
    let new : WireRow = record { input = input; ending = Dropped; label = 0; measured = false } in
    record {
      of_wires = λ w row h. elim (at_push wires new w.number row h) [
        | inl l ↦ ok.of_wires w row l.1
        | inr e ↦ let past : length wires ≤ w.number = (let n = e.0 in omega arith) in record {
          label_is = ap (λ (r : WireRow). r.label) (sym e.1) ∙ sym (label_after-none (steps_of steps) (length wires) there w past);
          measured_is = ap (λ (r : WireRow). r.measured) (sym e.1) ∙ sym (is_measured-none (steps_of steps) (length wires) there w past);
        }
      ];
      of_steps = ok.of_steps;
    }

-- an end that is set leaves the labels
pub labels_end : (wires : List WireRow) (steps : List StepRow) (v : WireId) (row : WireRow) → KeepsLabels wires steps → v.number < length wires → row.label ≡ (get_or wires v.number no_row).label → row.measured ≡ (get_or wires v.number no_row).measured → KeepsLabels (slice_set wires v.number row) steps
labels_end wires steps v new ok there same also = record {
  of_wires = λ w row h. elim (cases_eq w.number v.number) [
    | inl e ↦
        let at : slice_get (slice_set wires v.number new) v.number ≡ Some row = subst (λ (n : ℕ). slice_get (slice_set wires v.number new) n ≡ Some row) e h in
        let is : new ≡ row = at_set_same wires v.number new row there at in
        let old = ok.of_wires w (get_or wires v.number no_row) (ap (λ (n : ℕ). slice_get wires n) e ∙ slice_get-get_or wires v.number no_row there) in
        record {
          label_is = ap (λ (r : WireRow). r.label) (sym is) ∙ same ∙ old.label_is;
          measured_is = ap (λ (r : WireRow). r.measured) (sym is) ∙ also ∙ old.measured_is;
        }
    | inr d ↦ ok.of_wires w row (at_set_other wires v.number w.number new row d h)
  ];
  of_steps = ok.of_steps;
}

-- what a step does to a wire is told by its main wire and by whether it measures
is_wire : Option WireId → WireId → Bool
is_wire None w = false
is_wire (Some v) w = same_wire v w

changes_is : (s : Step) (w : WireId) → changes w s ≡ is_wire (main_wire s) w && not (is_m s)
unfolding is_wire
changes_is (X t a b) w = sym (and-true (same_wire t w))
changes_is (H t a) w = sym (and-true (same_wire t w))
changes_is (P k a) w = refl
changes_is (M v n) w = sym (and-false (same_wire v w))

measures_is : (s : Step) (w : WireId) → measures w s ≡ is_wire (main_wire s) w && is_m s
unfolding is_wire
measures_is (X t a b) w = sym (and-false (same_wire t w))
measures_is (H t a) w = sym (and-false (same_wire t w))
measures_is (P k a) w = refl
measures_is (M v n) w = sym (and-true (same_wire v w))

-- a step that does nothing to a wire leaves what is kept of it
module _ (steps : List Step) (step : Step) (w : WireId) where
  row_other : (row : WireRow) → changes w step ≡ false → measures w step ≡ false → IsRowOf steps w row → IsRowOf (steps ++ step ∷ []) w row
  row_other row c m h = record {
    label_is = h.label_is ∙ sym (label_after-push steps step w ∙ rw c (add-zero (label_after steps w)));
    measured_is = h.measured_is ∙ sym (is_measured-push steps step w ∙ rw m (or-false (is_measured steps w)));
  }

  row_same : (row : WireRow) (b : Bool) → changes w step ≡ not b → measures w step ≡ b → IsRowOf steps w row → IsRowOf (steps ++ step ∷ []) w (marked_row row b)
  row_same row true c m h = record {
    label_is = h.label_is ∙ sym (label_after-push steps step w ∙ rw c (add-zero (label_after steps w)));
    measured_is = sym (is_measured-push steps step w ∙ rw m (or-true (is_measured steps w)));
  }
  row_same row false c m h = record {
    label_is = ap (λ (n : ℕ). n + 1) h.label_is ∙ sym (label_after-push steps step w ∙ ap (λ (b : Bool). label_after steps w + cond b 1 0) c);
    measured_is = h.measured_is ∙ sym (is_measured-push steps step w ∙ rw m (or-false (is_measured steps w)));
  }

-- a step marks its main wire
module _ (wires : List WireRow) (steps : List StepRow) (step : Step) (ok : KeepsLabels wires steps) where
  at_wire : (o : Option WireId) → main_wire step ≡ o → IfSome o (λ v. v.number < length wires) → (w : WireId) (row : WireRow) → slice_get (marked wires o (is_m step)) w.number ≡ Some row → IsRowOf (steps_of steps ++ step ∷ []) w row
  unfolding is_wire
  at_wire None is there w row h =
      row_other (steps_of steps) step w row (changes_is step w ∙ ap (λ (x : Option WireId). is_wire x w && not (is_m step)) is) (measures_is step w ∙ ap (λ (x : Option WireId). is_wire x w && is_m step) is) (ok.of_wires w row h)
  at_wire (Some v) is there w row h = elim (cases_eq w.number v.number) [
    | inl e ↦
        let old : WireRow = get_or wires v.number no_row in
        let it : same_wire v w ≡ true = eq-eqb v.number w.number (sym e) in
        let main : is_wire (main_wire step) w ≡ true = ap (λ (x : Option WireId). is_wire x w) is ∙ it in
        let new : WireRow = marked_row old (is_m step) in
        let at : slice_get (slice_set wires v.number new) v.number ≡ Some row = subst (λ (n : ℕ). slice_get (slice_set wires v.number new) n ≡ Some row) e h in
        let before = ok.of_wires w old (ap (λ (n : ℕ). slice_get wires n) e ∙ slice_get-get_or wires v.number no_row there) in
        subst (IsRowOf (steps_of steps ++ step ∷ []) w) (at_set_same wires v.number new row there at)
        (row_same (steps_of steps) step w old (is_m step) (changes_is step w ∙ ap (λ (b : Bool). b && not (is_m step)) main) (measures_is step w ∙ ap (λ (b : Bool). b && is_m step) main) before)
    | inr d ↦
        let not_it : same_wire v w ≡ false = ne_eqb v.number w.number (λ x. d (sym x)) in
        let main : is_wire (main_wire step) w ≡ false = ap (λ (x : Option WireId). is_wire x w) is ∙ not_it in
        row_other (steps_of steps) step w row (changes_is step w ∙ ap (λ (b : Bool). b && not (is_m step)) main) (measures_is step w ∙ ap (λ (b : Bool). b && is_m step) main)
        (ok.of_wires w row (at_set_other wires v.number w.number (marked_row (get_or wires v.number no_row) (is_m step)) row d h))
  ]

pub labels_step : (wires : List WireRow) (steps : List StepRow) (step : Step) (line : ℕ) → KeepsLabels wires steps → EachNamed (λ w. w.number < length wires) step → KeepsLabels (marked wires (main_wire step) (is_m step)) (steps ++ row_for wires step line ∷ [])
labels_step wires steps step line ok there =
    let row : StepRow = row_for wires step line in
    let pushed = steps_of-push steps row in
    record {
      of_wires = λ w r h. subst (λ (l : List Step). IsRowOf l w r) (sym pushed) (at_wire wires steps step ok (main_wire step) refl there.0 w r h);
      of_steps = λ k r h. elim (at_push steps row k r h) [
        | inl l ↦
            let short = length-steps_of steps in
            let before = l.0 in
            subst (λ (l : List Step). HasLabels l r) (sym (ap (take k) pushed ∙ take-append-le k (steps_of steps) (step ∷ []) (omega arith))) (ok.of_steps k r l.1)
        | inr e ↦ subst₂ HasLabels (sym (ap (take k) pushed ∙ ap (λ (n : ℕ). take n (steps_of steps ++ step ∷ [])) (e.0 ∙ sym (length-steps_of steps)) ∙ take-append_seam (steps_of steps) (step ∷ []))) e.1 (record {
          main_label = kept wires steps ok (main_wire step) there.0;
          first_label = kept wires steps ok (first_wire step) there.1.0;
          second_label = kept wires steps ok (second_wire step) there.1.1;
        })
      ];
    }
