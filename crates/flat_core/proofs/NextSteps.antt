-- What a step has to meet stays met as wires are added and ends are set.
use Rattle.std.proofs.Common.{◌≡◌, ℕ, ◌<◌, ◌≤◌, ◌⊎◌, true, List, ◌++◌, length, get_or, slice_set, Option, Some, None, IfSome, sym, ap, ◌∙◌, inl, inr, arith, get_or-set_other, get_or-set_same}
use Rattle.std.proofs.lemmas.Bool.{cases_eq}
use Rattle.std.proofs.lemmas.List.{get_or_append_left}
use Rattle.flat_core.specs.declared.step.Step.{Step}
use Rattle.flat_core.specs.declared.step.End.{End}
use Rattle.flat_core.specs.declared.step.WireId.{WireId}
use Rattle.flat_core.specs.Form.{WireForm, DraftForm}
use Rattle.flat_core.specs.Label.{main_wire, first_wire, second_wire, wire_in, no_wire, label_after, EachNamed, EachControl}
use Rattle.flat_core.specs.Drafts.{IsNextStep}

if_some : (o : Option WireId) (A B : WireId → Type 0) → ((w : WireId) → A w → B w) → IfSome o A → IfSome o B
if_some None A B f h = h
if_some (Some w) A B f h = f w h

if_both : (o : Option WireId) (A B C : WireId → Type 0) → ((w : WireId) → A w → B w → C w) → IfSome o A → IfSome o B → IfSome o C
if_both None A B C f g h = h
if_both (Some w) A B C f g h = f w g h

pub named_weaker : (s : Step) (A B : WireId → Type 0) → ((w : WireId) → A w → B w) → EachNamed A s → EachNamed B s
named_weaker s A B f h = (if_some (main_wire s) A B f h.0, (if_some (first_wire s) A B f h.1.0, if_some (second_wire s) A B f h.1.1))

controls_by : (s : Step) (A B C : WireId → Type 0) → ((w : WireId) → A w → B w → C w) → EachNamed A s → EachControl B s → EachControl C s
controls_by s A B C f g h = (if_both (first_wire s) A B C f g.1.0 h.0, if_both (second_wire s) A B C f g.1.1 h.1)

-- a step may be next in another draft with the same steps, where its wires are there with the same input flags
pub next_step_same : (d e : DraftForm) (step : Step)
    → e.steps ≡ d.steps
    → length d.wires ≤ length e.wires
    → ((w : WireId) → w.number < length d.wires → (wire_in e.wires w).input ≡ (wire_in d.wires w).input)
    → IsNextStep d step → IsNextStep e step
next_step_same d e step same more inputs h =
    let Known : List Step → List WireForm → WireId → Type 0 = λ steps wires w. ((wire_in wires w).input ≡ true) ⊎ (0 < label_after steps w) in
    record {
      there = named_weaker step (λ w. w.number < length d.wires) (λ w. w.number < length e.wires) (λ w k. omega arith) h.there;
      differ = h.differ;
      known = controls_by step (λ w. w.number < length d.wires) (Known d.steps d.wires) (Known e.steps e.wires) (λ w k o. elim o [
        | inl i ↦ inl (inputs w k ∙ i)
        | inr l ↦ inr (rw same l)
      ]) h.there h.known;
      unmeasured = rw same h.unmeasured;
      eighths = h.eighths;
      next_number = rw same h.next_number;
    }

pub input_with_wire : (wires : List WireForm) (more : List WireForm) (w : WireId) → w.number < length wires → (wire_in (wires ++ more) w).input ≡ (wire_in wires w).input
input_with_wire wires more w h = ap (λ (x : WireForm). x.input) (get_or_append_left wires more no_wire w.number h)

pub input_with_end : (wires : List WireForm) (v : WireId) (ending : End) (w : WireId) → v.number < length wires → (wire_in (slice_set wires v.number (record { input = (wire_in wires v).input; ending = ending })) w).input ≡ (wire_in wires w).input
input_with_end wires v ending w h = elim (cases_eq w.number v.number) [
  | inl e ↦ ap (λ (n : ℕ). (get_or (slice_set wires v.number (record { input = (wire_in wires v).input; ending = ending })) n no_wire).input) e ∙ ap (λ (x : WireForm). x.input) (get_or-set_same wires v.number (record { input = (wire_in wires v).input; ending = ending }) no_wire h) ∙ ap (λ (n : ℕ). (get_or wires n no_wire).input) (sym e)
  | inr d ↦ ap (λ (x : WireForm). x.input) (get_or-set_other wires v.number w.number (record { input = (wire_in wires v).input; ending = ending }) no_wire d)
]
