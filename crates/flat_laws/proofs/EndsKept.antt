-- How wires end while a flat form is made: a wire ends as Measured where it has an M and nowhere else, and none ends as Output.
use Rattle.std.proofs.Common.{◌≡◌, ℕ, zero, suc, ◌+◌, ◌≤◌, ◌<◌, Bool, true, false, ◌||◌, List, [], ◌∷◌, ◌++◌, length, refl, sym, ap, ◌∙◌, subst, arith, length-append, length-set, get_or-set_same, get_or-set_other, slice_set, ◌⊎◌, inl, inr}
use Rattle.std.specs.Prelude.{get_or}
use Rattle.std.proofs.Math.Bool.{or-false}
use Rattle.std.proofs.lemmas.Bool.{eqb-true, eq-eqb, ne_eqb, cases_lt, cases_eq, or_left, or_right, or_from}
use Rattle.std.proofs.lemmas.List.{get_or_past, get_or_append_left}
use Rattle.flat_core.specs.declared.step.Step.{Step}
use Rattle.flat_core.specs.declared.step.Step.TheVariants as steps
use Rattle.flat_core.specs.declared.step.WireId.{WireId}
use Rattle.flat_core.specs.declared.step.End.{End}
use Rattle.flat_core.specs.declared.step.End.TheVariants.{Output, Dropped, Measured, Zeroed}
use Rattle.flat_core.specs.Form.{DraftForm, WireForm}
use Rattle.flat_core.specs.Label.{same_wire, wire_id, wire_in, no_wire}
use Rattle.flat_core.specs.Ends.{measures}
use Rattle.flat_core.specs.Sound.{is_m, count_measures}
use Rattle.flat_core.specs.Drafts.{with_wire, with_step, with_end, is_measured}
use Rattle.flat_core.proofs.Labels.{is_measured-push}
use Rattle.bit_arith.specs.Built.{Built, Setting}
use Rattle.bit_arith.specs.Rows.{measure}
use Rattle.bit_arith.specs.Calls.{among, AreTargets}
use Rattle.bit_arith.specs.Does.{Below}
use Rattle.bit_arith.proofs.Listed.{below_more}
use Rattle.bit_arith.proofs.Steps.{clash}
use Rattle.flat_form.specs.Flat.{end_all, measure_all}
use Rattle.flat_form.proofs.Later.{end_all_steps, end_all_length}

abbrev pub ending : DraftForm → WireId → End
ending d w = (wire_in d.wires w).ending

pub record Ended (d : DraftForm) : Type 0 where
  pub measured : (w : WireId) → is_measured d.steps w ≡ true → ending d w ≡ Measured
  pub has_m : (w : WireId) → ending d w ≡ Measured → is_measured d.steps w ≡ true
  pub no_output : (w : WireId) → w.number < length d.wires → ending d w ≡ Output → ⊥

-- ---- ends and Booleans

abbrev is_output : End → Bool
is_output Output = true
is_output Dropped = false
is_output Measured = false
is_output Zeroed = false

abbrev is_dropped : End → Bool
is_dropped Output = false
is_dropped Dropped = true
is_dropped Measured = false
is_dropped Zeroed = false

pub measured_output : Measured ≡ Output → ⊥
measured_output e = clash (ap is_output e)

pub output_measured : Output ≡ Measured → ⊥
output_measured e = clash (sym (ap is_output e))

dropped_measured : Dropped ≡ Measured → ⊥
dropped_measured e = clash (sym (ap is_dropped e))

pub dropped_output : Dropped ≡ Output → ⊥
dropped_output e = clash (ap is_output e)

zeroed_output : Zeroed ≡ Output → ⊥
zeroed_output e = clash (ap is_output e)

abbrev is_zero : End → Bool
is_zero Output = false
is_zero Dropped = false
is_zero Measured = false
is_zero Zeroed = true

zeroed_measured : Zeroed ≡ Measured → ⊥
zeroed_measured e = clash (sym (ap is_zero e))

one_of : (a b : Bool) → a || b ≡ true → b ≡ false → a ≡ true
one_of true b h f = refl
one_of false b h f = absurd (clash (sym f ∙ h))

same_wire-sym : (v w : WireId) → same_wire v w ≡ same_wire w v
same_wire-sym v w = elim (cases_eq v.number w.number) [
  | inl e ↦ eq-eqb v.number w.number e ∙ sym (eq-eqb w.number v.number (sym e))
  | inr f ↦ ne_eqb v.number w.number f ∙ sym (ne_eqb w.number v.number (λ e. f (sym e)))
]

-- ---- a wire and a step more

pub inside : (d : DraftForm) (w : WireId) → ending d w ≡ Measured → w.number < length d.wires
inside d w e = elim (cases_lt w.number (length d.wires)) [
  | inl lt ↦ lt
  | inr le ↦ absurd (output_measured (sym (ap (λ (r : WireForm). r.ending) (get_or_past d.wires w.number no_wire le)) ∙ e))
]

last_end : (ws : List WireForm) (i : Bool) (k : ℕ) → length ws ≤ k → k < length ws + 1 → (get_or (ws ++ record { input = i; ending = Dropped } ∷ []) k no_wire).ending ≡ Dropped
last_end [] i zero le lt = refl
last_end [] i (suc k) le lt = absurd (omega (arith, lt))
last_end (w ∷ ws) i zero le lt = absurd (omega (arith, le))
last_end (w ∷ ws) i (suc k) le lt = last_end ws i k (omega (arith, le)) (omega (arith, lt))

pub ended_wire : (d : DraftForm) (i : Bool) → Ended d → Ended (with_wire d i)
ended_wire d i h = record {
  measured = λ w m. old w (inside d w (h.measured w m)) ∙ h.measured w m;
  has_m = λ w q. has w q (cases_lt w.number (length d.wires));
  no_output = λ w lt q. none w lt q (cases_lt w.number (length d.wires));
}
  where
    longer : length (with_wire d i).wires ≡ length d.wires + 1
    longer = length-append d.wires (record { input = i; ending = Dropped } ∷ [])

    old : (w : WireId) → w.number < length d.wires → ending (with_wire d i) w ≡ ending d w
    old w lt = ap (λ (r : WireForm). r.ending) (get_or_append_left d.wires (record { input = i; ending = Dropped } ∷ []) no_wire w.number lt)

    has : (w : WireId) → ending (with_wire d i) w ≡ Measured → (w.number < length d.wires) ⊎ (length d.wires ≤ w.number) → is_measured d.steps w ≡ true
    has w q (inl lt) = h.has_m w (sym (old w lt) ∙ q)
    has w q (inr le) = let lt = inside (with_wire d i) w q in absurd (dropped_measured (sym (last_end d.wires i w.number le (omega (arith, lt, longer))) ∙ q))

    none : (w : WireId) → w.number < length (with_wire d i).wires → ending (with_wire d i) w ≡ Output → (w.number < length d.wires) ⊎ (length d.wires ≤ w.number) → ⊥
    none w lt q (inl l) = h.no_output w l (sym (old w l) ∙ q)
    none w lt q (inr le) = dropped_output (sym (last_end d.wires i w.number le (omega (arith, lt, longer))) ∙ q)

measures_none : (w : WireId) (s : Step) → is_m s ≡ false → measures w s ≡ false
measures_none w (steps.X t a c) h = refl
measures_none w (steps.H t a) h = refl
measures_none w (steps.P k a) h = refl
measures_none w (steps.M v n) h = absurd (clash (sym h))

pub ended_step : (d : DraftForm) (s : Step) (line : ℕ) → is_m s ≡ false → Ended d → Ended (with_step d s line)
ended_step d s line m h = record {
  measured = λ w q. h.measured w (sym (same w) ∙ q);
  has_m = λ w q. same w ∙ h.has_m w q;
  no_output = h.no_output;
}
  where
    same : (w : WireId) → is_measured (with_step d s line).steps w ≡ is_measured d.steps w
    same w = is_measured-push d.steps s w ∙ (ap (λ b. is_measured d.steps w || b) (measures_none w s m) ∙ or-false (is_measured d.steps w))

-- ---- ends that are set

-- a wire of these ends so in a later draft, and another one as before
abbrev pub Turned : End → List WireId → DraftForm → DraftForm → WireId → Type 0
Turned e ws d f w = ((among ws w ≡ true) × (ending f w ≡ e)) ⊎ ((among ws w ≡ false) × (ending f w ≡ ending d w))

abbrev row_with : DraftForm → WireId → End → WireForm
row_with d v e = record { input = (wire_in d.wires v).input; ending = e }

turned_first : (e : End) (v : WireId) (ws : List WireId) (d f : DraftForm) (w : WireId) → v.number < length d.wires → Turned e ws (with_end d v e) f w → Turned e (v ∷ ws) d f w
turned_first e v ws d f w lt (inl y) = inl (or_right (same_wire w v) (among ws w) y.0, y.1)
turned_first e v ws d f w lt (inr y) = elim (cases_eq w.number v.number) [
  | inl k ↦ inl (
    or_left (same_wire w v) (among ws w) (eq-eqb w.number v.number k),
    y.1 ∙ (ap (λ (n : ℕ). (get_or (slice_set d.wires v.number (row_with d v e)) n no_wire).ending) k ∙ ap (λ (x : WireForm). x.ending) (get_or-set_same d.wires v.number (row_with d v e) no_wire lt)),
  )
  | inr k ↦ inr (
    or_from (same_wire w v) (among ws w) (ne_eqb w.number v.number k) y.0,
    y.1 ∙ ap (λ (x : WireForm). x.ending) (get_or-set_other d.wires v.number w.number (row_with d v e) no_wire k),
  )
]

pub end_all_ending : (e : End) (ws : List WireId) (b : Built) (w : WireId) → Below (length b.draft.wires) ws → Turned e ws b.draft (end_all e ws b).draft w
end_all_ending e [] b w h = inr (refl, refl)
end_all_ending e (v ∷ ws) b w h =
    let b1 : Built = record b { draft = with_end b.draft v e } in
    let same : length b1.draft.wires ≡ length b.draft.wires = length-set b.draft.wires v.number (row_with b.draft v e) in
    turned_first e v ws b.draft (end_all e (v ∷ ws) b).draft w h.0 (end_all_ending e ws b1 w (below_more (length b.draft.wires) (length b1.draft.wires) ws (omega (arith, same)) h.1))

-- none of some targets is measured
pub targets_unmeasured : (d : DraftForm) (ws : List WireId) (w : WireId) → AreTargets d ws → among ws w ≡ true → is_measured d.steps w ≡ false
targets_unmeasured d [] w h a = absurd (clash a)
targets_unmeasured d (v ∷ ws) w h a = pick (same_wire w v) refl a (targets_unmeasured d ws w h.1)
  where
    pick : (b : Bool) → same_wire w v ≡ b → b || among ws w ≡ true → (among ws w ≡ true → is_measured d.steps w ≡ false) → is_measured d.steps w ≡ false
    pick true e a rest = ap (λ (n : ℕ). is_measured d.steps (wire_id n)) (eqb-true w.number v.number e) ∙ h.0.1
    pick false e a rest = rest a

pub ended_zeroed : (ws : List WireId) (b : Built) → Below (length b.draft.wires) ws → ((w : WireId) → among ws w ≡ true → is_measured b.draft.steps w ≡ false) → Ended b.draft → Ended (end_all Zeroed ws b).draft
ended_zeroed ws b below free h = record {
  measured = λ w m. let was : is_measured b.draft.steps w ≡ true = sym (same w) ∙ m in told w was (end_all_ending Zeroed ws b w below);
  has_m = λ w q. same w ∙ has w q (end_all_ending Zeroed ws b w below);
  no_output = λ w lt q. none w (subst (λ n. w.number < n) (end_all_length Zeroed ws b) lt) q (end_all_ending Zeroed ws b w below);
}
  where
    same : (w : WireId) → is_measured (end_all Zeroed ws b).draft.steps w ≡ is_measured b.draft.steps w
    same w = ap (λ ss. is_measured ss w) (end_all_steps Zeroed ws b)

    told : (w : WireId) → is_measured b.draft.steps w ≡ true → Turned Zeroed ws b.draft (end_all Zeroed ws b).draft w → ending (end_all Zeroed ws b).draft w ≡ Measured
    told w m (inl y) = absurd (clash (sym (free w y.0) ∙ m))
    told w m (inr y) = y.1 ∙ h.measured w m

    has : (w : WireId) → ending (end_all Zeroed ws b).draft w ≡ Measured → Turned Zeroed ws b.draft (end_all Zeroed ws b).draft w → is_measured b.draft.steps w ≡ true
    has w q (inl y) = absurd (zeroed_measured (sym y.1 ∙ q))
    has w q (inr y) = h.has_m w (sym y.1 ∙ q)

    none : (w : WireId) → w.number < length b.draft.wires → ending (end_all Zeroed ws b).draft w ≡ Output → Turned Zeroed ws b.draft (end_all Zeroed ws b).draft w → ⊥
    none w lt q (inl y) = zeroed_output (sym y.1 ∙ q)
    none w lt q (inr y) = h.no_output w lt (sym y.1 ∙ q)

-- ---- measures

measured_one : (at : Setting) (v : WireId) (b : Built) (w : WireId) → is_measured (measure at v b).draft.steps w ≡ is_measured b.draft.steps w || same_wire w v
unfolding measure
measured_one at v b w = is_measured-push b.draft.steps (steps.M v (count_measures b.draft.steps)) w ∙ ap (λ x. is_measured b.draft.steps w || x) (same_wire-sym v w)

measured_row : (at : Setting) (v : WireId) (b : Built) → (measure at v b).draft.wires ≡ b.draft.wires
unfolding measure
measured_row at v b = refl

or_assoc : (a b c : Bool) → (a || b) || c ≡ a || (b || c)
or_assoc true b c = refl
or_assoc false b c = refl

-- these wires come to be measured, and no other
measured_all : (at : Setting) (ws : List WireId) (b : Built) (w : WireId) → is_measured (measure_all at ws b).draft.steps w ≡ is_measured b.draft.steps w || among ws w
measured_all at [] b w = sym (or-false (is_measured b.draft.steps w))
measured_all at (v ∷ ws) b w =
    measured_all at ws (measure at v b) w ∙ (ap (λ x. x || among ws w) (measured_one at v b w) ∙ or_assoc (is_measured b.draft.steps w) (same_wire w v) (among ws w))

measured_rows : (at : Setting) (ws : List WireId) (b : Built) → (measure_all at ws b).draft.wires ≡ b.draft.wires
measured_rows at [] b = refl
measured_rows at (v ∷ ws) b = measured_rows at ws (measure at v b) ∙ measured_row at v b

pub ended_measured : (at : Setting) (ws : List WireId) (b : Built) → Below (length b.draft.wires) ws → Ended b.draft → Ended (end_all Measured ws (measure_all at ws b)).draft
ended_measured at ws b below h = record {
  measured = λ w m. told w (sym (same w) ∙ m) (turned w);
  has_m = λ w q. same w ∙ has w q (turned w);
  no_output = λ w lt q. none w (subst (λ n. w.number < n) (end_all_length Measured ws (measure_all at ws b) ∙ ap (λ rs. length rs) (measured_rows at ws b)) lt) q (turned w);
}
  where
    turned : (w : WireId) → Turned Measured ws b.draft (end_all Measured ws (measure_all at ws b)).draft w
    turned w = elim (end_all_ending Measured ws (measure_all at ws b) w (subst (λ rs. Below (length rs) ws) (sym (measured_rows at ws b)) below)) [
      | inl y ↦ inl y
      | inr y ↦ inr (y.0, y.1 ∙ ap (λ rs. (wire_in rs w).ending) (measured_rows at ws b))
    ]

    same : (w : WireId) → is_measured (end_all Measured ws (measure_all at ws b)).draft.steps w ≡ is_measured b.draft.steps w || among ws w
    same w = ap (λ ss. is_measured ss w) (end_all_steps Measured ws (measure_all at ws b)) ∙ measured_all at ws b w

    told : (w : WireId) → is_measured b.draft.steps w || among ws w ≡ true → Turned Measured ws b.draft (end_all Measured ws (measure_all at ws b)).draft w → ending (end_all Measured ws (measure_all at ws b)).draft w ≡ Measured
    told w m (inl y) = y.1
    told w m (inr y) = y.1 ∙ h.measured w (one_of (is_measured b.draft.steps w) (among ws w) m y.0)

    has : (w : WireId) → ending (end_all Measured ws (measure_all at ws b)).draft w ≡ Measured → Turned Measured ws b.draft (end_all Measured ws (measure_all at ws b)).draft w → is_measured b.draft.steps w || among ws w ≡ true
    has w q (inl y) = or_right (is_measured b.draft.steps w) (among ws w) y.0
    has w q (inr y) = or_left (is_measured b.draft.steps w) (among ws w) (h.has_m w (sym y.1 ∙ q))

    none : (w : WireId) → w.number < length b.draft.wires → ending (end_all Measured ws (measure_all at ws b)).draft w ≡ Output → Turned Measured ws b.draft (end_all Measured ws (measure_all at ws b)).draft w → ⊥
    none w lt q (inl y) = measured_output (sym y.1 ∙ q)
    none w lt q (inr y) = h.no_output w lt (sym y.1 ∙ q)
