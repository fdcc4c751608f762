-- While moves are done, each wire has the value that the path gives at the wire's label.
use Rattle.std.proofs.Common.{◌≡◌, ℕ, suc, pred, ◌<◌, ◌≤◌, Bool, true, false, cond, ◌&&◌, Option, Some, None, length, refl, sym, ◌∙◌, ap, ap₂, le_of_lt}
use Rattle.std.proofs.Math.Path.{fun_ext}
use Rattle.std.specs.Bool.{beq}
use Rattle.std.proofs.lemmas.Bool.{ne_eqb}
use Rattle.flat_core.specs.declared.step.Step.{Step}
use Rattle.flat_core.specs.declared.step.Step.TheVariants.{X, H, P, M}
use Rattle.flat_core.specs.declared.step.Lit.{Lit}
use Rattle.flat_core.specs.declared.step.WireId.{WireId}
use Rattle.flat_core.specs.declared.step.StepId.{StepId}
use Rattle.flat_core.specs.Form.{FlatForm}
use Rattle.flat_core.specs.Label.{wire_id, changes, step_at}
use Rattle.flat_core.specs.Ends.{undone_step}
use Rattle.flat_core.proofs.Labels.{same_wire_is, same_wire-refl}
use Rattle.flat_mean.specs.Row.{Row, flipped, holds, next, new_value}
use Rattle.flat_mean.specs.Path.{row_at, choices_at}
use Rattle.flat_mean.proofs.Values.{label_at, value_at, value-row}
use Rattle.flat_mean.proofs.Local.{AgreeOn, flipped_twice, new_same}
use Rattle.move_plan.specs.Progress.{Progress, StandsAt}
use Rattle.move_plan.specs.Effect.{flip_at}
use Rattle.move_plan.proofs.Standing.{AtLabels, IsOther, ControlsDiffer, label_raised}

-- a control that is not the target holds after the step as before
holds_next : (t : WireId) (a b c : Option Lit) (k : Bool) (r : Row) → IsOther t c → holds (next (X t a b) k r) c ≡ holds r c
holds_next t a b None k r h = refl
holds_next t a b (Some l) k r h = ap (λ x. beq (cond x (new_value (X t a b) k r) (r l.wire.number)) l.positive) (ne_eqb t.number l.wire.number h)

-- an X step undoes itself
pub undo : (f : FlatForm) (s : Step) (k k' : Bool) (r : Row) (w : WireId) → undone_step f s ≡ true → ControlsDiffer s → changes w s ≡ true → new_value s k (next s k' r) ≡ r w.number
undo f (X t a b) k k' r w u h c =
    let same : t ≡ w = same_wire_is t w c in
    ap₂ flipped (ap (λ y. cond y (flipped (r t.number) (holds r a && holds r b)) (r t.number)) (same_wire-refl t)) (ap₂ ◌&&◌ (holds_next t a b a k' r h.0) (holds_next t a b b k' r h.1))
    ∙ flipped_twice (r t.number) (holds r a && holds r b)
    ∙ ap (λ (v : WireId). r v.number) same
undo f (H t a) k k' r w u h c = absurd (cc)
undo f (P e a) k k' r w u h c = absurd (cc)
undo f (M v n) k k' r w u h c = absurd (cc)

-- the row of a path at the labels of a progress; freed Measured wires are flipped back
abbrev pub path_row : FlatForm → Row → (ℕ → Bool) → Progress → (ℕ → Bool) → Row
path_row f input outcome p c q = flipped (value_at f.steps input c (length f.steps) q (p.label (wire_id q))) (p.gone (wire_id q) && flip_at f outcome (wire_id q))

pub not_freed : (x b d : Bool) → b ≡ false → flipped x (b && d) ≡ x
not_freed x b d h = ap (λ y. flipped x (y && d)) h

module _ (f : FlatForm) (input : Row) (outcome : ℕ → Bool) where
  value_here : (p : Progress) (c : ℕ → Bool) (n : ℕ) (w : WireId) → n ≤ length f.steps → StandsAt p w (label_at f.steps n w.number) → path_row f input outcome p c w.number ≡ row_at f.steps input c n w.number
  value_here p c n w le st =
      not_freed (value_at f.steps input c (length f.steps) w.number (p.label w)) (p.gone w) (flip_at f outcome w) st.kept
      ∙ value-row f.steps input c (length f.steps) n w.number (p.label w) le (sym st.at)

  -- the wires that a step names have the values that the path gives before step n
  pub named : (p : Progress) (c : ℕ → Bool) (s : StepId) (n : ℕ) → n ≤ length f.steps → AtLabels f p s n → AgreeOn (step_at f s) (path_row f input outcome p c) (row_at f.steps input c n)
  named p c s n le at = record {
    changed = λ w h. value_here p c n w le (at.changed w h);
    uses = λ w h. value_here p c n w le (at.uses w h);
  }

  -- a wire with the same label that is freed as before has the same value
  still : (p p' : Progress) (c : ℕ → Bool) (w : WireId) → p'.label w ≡ p.label w → p'.gone w ≡ p.gone w → path_row f input outcome p' c w.number ≡ path_row f input outcome p c w.number
  still p p' c w el eg = ap₂ (λ l g. flipped (value_at f.steps input c (length f.steps) w.number l) (g && flip_at f outcome w)) el eg

  -- doing a step
  pub row_up : (p p' : Progress) (c : ℕ → Bool) (s : StepId) → s.number < length f.steps → AtLabels f p s s.number
      → ((w : WireId) → p'.label w ≡ cond (changes w (step_at f s)) (suc (p.label w)) (p.label w)) → ((w : WireId) → p'.gone w ≡ p.gone w)
      → path_row f input outcome p' c ≡ next (step_at f s) (c (choices_at f.steps s.number)) (path_row f input outcome p c)
  row_up p p' c s lt at el eg = fun_ext (λ q. split q (changes (wire_id q) (step_at f s)) refl)
    where
      split : (q : ℕ) (b : Bool) → changes (wire_id q) (step_at f s) ≡ b → path_row f input outcome p' c q ≡ cond b (new_value (step_at f s) (c (choices_at f.steps s.number)) (path_row f input outcome p c)) (path_row f input outcome p c q)
      split q true t =
          let here = at.changed (wire_id q) t in
          let up : p'.label (wire_id q) ≡ suc (p.label (wire_id q)) = el (wire_id q) ∙ ap (λ b. cond b (suc (p.label (wire_id q))) (p.label (wire_id q))) t in
          let label : label_at f.steps (suc s.number) q ≡ p'.label (wire_id q) = label_raised f s (wire_id q) t ∙ ap suc (sym here.at) ∙ sym up in
          not_freed _ (p'.gone (wire_id q)) _ (eg (wire_id q) ∙ here.kept)
          ∙ value-row f.steps input c (length f.steps) (suc s.number) q (p'.label (wire_id q)) lt label
          ∙ ap (λ b. cond b (new_value (step_at f s) (c (choices_at f.steps s.number)) (row_at f.steps input c s.number)) (row_at f.steps input c s.number q)) t
          ∙ sym (new_same (step_at f s) (c (choices_at f.steps s.number)) (path_row f input outcome p c) (row_at f.steps input c s.number) (named p c s s.number (le_of_lt lt) at))
      split q false t = still p p' c (wire_id q) (el (wire_id q) ∙ ap (λ b. cond b (suc (p.label (wire_id q))) (p.label (wire_id q))) t) (eg (wire_id q))

  -- undoing a step
  pub row_down : (p p' : Progress) (c : ℕ → Bool) (s : StepId) → s.number < length f.steps → undone_step f (step_at f s) ≡ true → ControlsDiffer (step_at f s) → AtLabels f p s (suc s.number)
      → ((w : WireId) → p'.label w ≡ cond (changes w (step_at f s)) (pred (p.label w)) (p.label w)) → ((w : WireId) → p'.gone w ≡ p.gone w)
      → path_row f input outcome p' c ≡ next (step_at f s) (c (choices_at f.steps s.number)) (path_row f input outcome p c)
  row_down p p' c s lt u own at el eg = fun_ext (λ q. split q (changes (wire_id q) (step_at f s)) refl)
    where
      split : (q : ℕ) (b : Bool) → changes (wire_id q) (step_at f s) ≡ b → path_row f input outcome p' c q ≡ cond b (new_value (step_at f s) (c (choices_at f.steps s.number)) (path_row f input outcome p c)) (path_row f input outcome p c q)
      split q true t =
          let here = at.changed (wire_id q) t in
          let down : p'.label (wire_id q) ≡ pred (p.label (wire_id q)) = el (wire_id q) ∙ ap (λ b. cond b (pred (p.label (wire_id q))) (p.label (wire_id q))) t in
          let label : label_at f.steps s.number q ≡ p'.label (wire_id q) = sym (down ∙ ap pred (here.at ∙ label_raised f s (wire_id q) t)) in
          not_freed _ (p'.gone (wire_id q)) _ (eg (wire_id q) ∙ here.kept)
          ∙ value-row f.steps input c (length f.steps) s.number q (p'.label (wire_id q)) (le_of_lt lt) label
          ∙ sym (undo f (step_at f s) (c (choices_at f.steps s.number)) (c (choices_at f.steps s.number)) (row_at f.steps input c s.number) (wire_id q) u own t)
          ∙ sym (new_same (step_at f s) (c (choices_at f.steps s.number)) (path_row f input outcome p c) (row_at f.steps input c (suc s.number)) (named p c s (suc s.number) lt at))
      split q false t = still p p' c (wire_id q) (el (wire_id q) ∙ ap (λ b. cond b (pred (p.label (wire_id q))) (p.label (wire_id q))) t) (eg (wire_id q))
