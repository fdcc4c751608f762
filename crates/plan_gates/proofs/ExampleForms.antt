-- The two examples are flat forms.
use Rattle.std.proofs.Common.{◌≡◌, ℕ, zero, suc, ◌<◌, ◌⊎◌, inl, inr, Bool, true, false, Option, Some, None, List, [], ◌∷◌, ◌++◌, ◌+◌, length, take, replicate, get_or, slice_get, le_refl, refl, sym, ◌∙◌, ap, subst, arith, lit<, lit≤}
use Rattle.std.proofs.lemmas.Bool.{both_ways, eqb-false}
use Rattle.std.proofs.lemmas.List.{take_more, take_all, take-replicate, length-replicate, get_or-replicate, get_or_default}
use Rattle.flat_core.specs.declared.step.Step.{Step}
use Rattle.flat_core.specs.declared.step.End.{End}
use Rattle.flat_core.specs.declared.step.End.TheVariants.{Output, Dropped, Measured}
use Rattle.flat_core.specs.declared.step.WireId.{WireId}
use Rattle.flat_core.specs.declared.step.StepId.{StepId}
use Rattle.flat_core.specs.Form.{DraftForm}
use Rattle.flat_core.specs.Label.{wire_id, step_id, no_step, step_in, step_at, end_of, is_input, changes, same_wire}
use Rattle.flat_core.specs.Ends.{measures}
use Rattle.flat_core.specs.Sound.{NamesExactly, IsFlat, is_x}
use Rattle.flat_core.specs.Drafts.{first_steps, with_step, IsNextStep, IsDraft, finished}
use Rattle.flat_core.proofs.Finishes.{drafts_become_flat}
use Rattle.flat_core.proofs.Labels.{same_wire_is}
use Rattle.plan_gates.specs.Example.{with_steps, teleportation_draft, teleportation, controlled_hadamard_draft, controlled_hadamard}

-- something of each number below n
abbrev pub Each : ℕ → (ℕ → Type 0) → Type 0
Each zero holds = Unit {0}
Each (suc n) holds = holds 0 × Each n (λ k. holds (suc k))

pub each_below : (n : ℕ) (holds : ℕ → Type 0) → Each n holds → (k : ℕ) → k < n → holds k
each_below zero holds h k l = absurd (omega (arith, l))
each_below (suc n) holds h zero l = h.0
each_below (suc n) holds h (suc k) l = each_below n (λ j. holds (suc j)) h.1 k (omega (arith, l))

abbrev Next : DraftForm → ℕ → Type 0
Next d k = IsNextStep (first_steps d k) (step_in d.steps (step_id k))

teleportation_steps_follow : Each 9 (Next teleportation_draft)
teleportation_steps_follow = (
  record { there = (lit< tt, (tt, tt)); differ = (tt, tt, tt); known = (tt, tt); unmeasured = refl; eighths = tt; next_number = tt },
  (
    record { there = (lit< tt, (lit< tt, tt)); differ = (eqb-false 2 1 refl, tt, tt); known = (inr (lit< tt), tt); unmeasured = refl; eighths = tt; next_number = tt },
    (
      record { there = (lit< tt, (lit< tt, tt)); differ = (eqb-false 1 0 refl, tt, tt); known = (inl refl, tt); unmeasured = refl; eighths = tt; next_number = tt },
      (
        record { there = (lit< tt, (tt, tt)); differ = (tt, tt, tt); known = (tt, tt); unmeasured = refl; eighths = tt; next_number = tt },
        (
          record { there = (lit< tt, (tt, tt)); differ = (tt, tt, tt); known = (tt, tt); unmeasured = refl; eighths = tt; next_number = refl },
          (
            record { there = (lit< tt, (tt, tt)); differ = (tt, tt, tt); known = (tt, tt); unmeasured = refl; eighths = tt; next_number = refl },
            (
              record { there = (lit< tt, (lit< tt, tt)); differ = (eqb-false 2 1 refl, tt, tt); known = (inr (lit< tt), tt); unmeasured = refl; eighths = tt; next_number = tt },
              (
                record { there = (lit< tt, (lit< tt, lit< tt)); differ = (eqb-false 3 0 refl, eqb-false 3 2 refl, eqb-false 0 2 refl); known = (inl refl, inr (lit< tt)); unmeasured = refl; eighths = tt; next_number = tt },
                (
                  record { there = (tt, (lit< tt, tt)); differ = (tt, tt, tt); known = (inr (lit< tt), tt); unmeasured = tt; eighths = (lit< tt, lit< tt); next_number = tt },
                  tt,
                ),
              ),
            ),
          ),
        ),
      ),
    ),
  ),
)

pub teleportation_is_draft : IsDraft teleportation_draft
teleportation_is_draft = record {
  steps_follow = λ s h. each_below 9 (Next teleportation_draft) teleportation_steps_follow s.number h;
  few_steps = lit≤ tt;
  as_many_lines = refl;
  few_wires = lit≤ tt;
  few_outcomes = lit≤ tt;
}

-- the lists of one wire each
one_wire : (v : ℕ) (IsOne : WireId → Type 0) → IsOne (wire_id v) → ((w : WireId) → IsOne w → wire_id v ≡ w) → NamesExactly ((wire_id v ∷ []) ∷ []) IsOne
one_wire v IsOne is only = record {
  only = λ w c. named w c.0 c.1 c.2;
  each = λ w i. (0, omega arith, only w i);
  once = once;
}
  where
    named : (w : WireId) (k : ℕ) → k < 1 → get_or (wire_id v ∷ []) k w ≡ w → IsOne w
    named w zero l e = subst IsOne e is
    named w (suc k) l e = absurd (omega (arith, l))

    once : (i j : ℕ) (w : WireId) → slice_get (wire_id v ∷ []) i ≡ Some w → slice_get (wire_id v ∷ []) j ≡ Some w → i ≡ j
    once zero zero w e g = refl
    once zero (suc j) w e g = absurd (cc)
    once (suc i) j w e g = absurd (cc)

not_dropped : (e : End) → e ≡ Dropped → (e ≡ Measured) ⊎ (e ≡ Output) → ⊥
not_dropped e d (inl m) = let no : Dropped ≡ Measured = sym d ∙ m in cc
not_dropped e d (inr m) = let no : Dropped ≡ Output = sym d ∙ m in cc

teleportation_dropped : (n : ℕ) → end_of teleportation (wire_id n) ≡ Dropped → is_input teleportation (wire_id n) ≡ false
teleportation_dropped zero e = absurd (not_dropped _ e (inl refl))
teleportation_dropped (suc zero) e = absurd (not_dropped _ e (inl refl))
teleportation_dropped (suc (suc zero)) e = absurd (not_dropped _ e (inr refl))
teleportation_dropped (suc (suc (suc zero))) e = refl
teleportation_dropped (suc (suc (suc (suc n)))) e = absurd (not_dropped _ e (inr refl))

abbrev HasX : ℕ → Type 0
HasX k = (w : WireId) → end_of teleportation w ≡ Dropped → changes w (step_at teleportation (step_id k)) ≡ true → is_x (step_at teleportation (step_id k)) ≡ true

-- a wire that is Measured is not Dropped
other_wire : (v : ℕ) (b : Bool) (w : WireId) → end_of teleportation (wire_id v) ≡ Measured → end_of teleportation w ≡ Dropped → same_wire (wire_id v) w ≡ true → b ≡ true
other_wire v b w m d c = absurd (not_dropped (end_of teleportation w) d (inl (ap (end_of teleportation) (sym (same_wire_is (wire_id v) w c)) ∙ m)))

teleportation_has_x : Each 9 HasX
teleportation_has_x = (
  λ w e c. other_wire 1 false w refl e c,
  (
    λ w e c. refl,
    (
      λ w e c. refl,
      (
        λ w e c. other_wire 0 false w refl e c,
        (
          λ w e c. c,
          (
            λ w e c. c,
            (
              λ w e c. refl,
              (
                λ w e c. refl,
                (
                  λ w e c. c,
                  tt,
                ),
              ),
            ),
          ),
        ),
      ),
    ),
  ),
)

abbrev IsMeasured : ℕ → Type 0
IsMeasured k = (w : WireId) → measures w (step_at teleportation (step_id k)) ≡ true → end_of teleportation w ≡ Measured

no_measure : (w : WireId) → false ≡ true → end_of teleportation w ≡ Measured
no_measure w e = absurd (cc)

teleportation_measured : Each 9 IsMeasured
teleportation_measured = (
  no_measure,
  (
    no_measure,
    (
      no_measure,
      (
        no_measure,
        (
          λ w m. ap (end_of teleportation) (sym (same_wire_is (wire_id 0) w m)),
          (
            λ w m. ap (end_of teleportation) (sym (same_wire_is (wire_id 1) w m)),
            (
              no_measure,
              (
                no_measure,
                (
                  no_measure,
                  tt,
                ),
              ),
            ),
          ),
        ),
      ),
    ),
  ),
)

not_measured : {A : Type 0} (e : End) → e ≡ Measured → (e ≡ Dropped) ⊎ (e ≡ Output) → A
not_measured e m (inl d) = let no : Measured ≡ Dropped = sym m ∙ d in absurd (cc)
not_measured e m (inr d) = let no : Measured ≡ Output = sym m ∙ d in absurd (cc)

abbrev HasMeasure : WireId → Type 0
HasMeasure w = (s : StepId) × (s.number < length teleportation.steps) × (measures w (step_at teleportation s) ≡ true)

teleportation_measures : (n : ℕ) → end_of teleportation (wire_id n) ≡ Measured → HasMeasure (wire_id n)
teleportation_measures zero e = (step_id 4, lit< tt, refl)
teleportation_measures (suc zero) e = (step_id 5, lit< tt, refl)
teleportation_measures (suc (suc zero)) e = not_measured _ e (inr refl)
teleportation_measures (suc (suc (suc zero))) e = not_measured _ e (inl refl)
teleportation_measures (suc (suc (suc (suc n)))) e = not_measured _ e (inr refl)

one_input : (n : ℕ) → is_input teleportation (wire_id n) ≡ true → wire_id 0 ≡ wire_id n
one_input zero i = refl
one_input (suc zero) i = absurd (both_ways false refl i)
one_input (suc (suc zero)) i = absurd (both_ways false refl i)
one_input (suc (suc (suc zero))) i = absurd (both_ways false refl i)
one_input (suc (suc (suc (suc n)))) i = absurd (both_ways false refl i)

one_output : (n : ℕ) → n < 4 → end_of teleportation (wire_id n) ≡ Output → wire_id 2 ≡ wire_id n
one_output zero l o = absurd (let no : Measured ≡ Output = o in cc)
one_output (suc zero) l o = absurd (let no : Measured ≡ Output = o in cc)
one_output (suc (suc zero)) l o = refl
one_output (suc (suc (suc zero))) l o = absurd (let no : Dropped ≡ Output = o in cc)
one_output (suc (suc (suc (suc n)))) l o = absurd (omega (arith, l))

pub teleportation_is_flat : IsFlat teleportation
teleportation_is_flat = drafts_become_flat teleportation_draft ((wire_id 0 ∷ []) ∷ []) ((wire_id 2 ∷ []) ∷ []) teleportation_is_draft (record {
  dropped_is_new = λ w e. teleportation_dropped w.number e;
  dropped_has_x = λ s w h e c. each_below 9 HasX teleportation_has_x s.number h w e c;
  m_is_measured = λ s w h m. each_below 9 IsMeasured teleportation_measured s.number h w m;
  measured_has_m = λ w e. teleportation_measures w.number e;
  ins_name = one_wire 0 (λ w. is_input teleportation w ≡ true) refl (λ w i. one_input w.number i);
  outs_name = one_wire 2 (λ w. (w.number < 4) × (end_of teleportation w ≡ Output)) (lit< tt, refl) (λ w o. one_output w.number o.0 o.1);
})

controlled_hadamard_steps_follow : Each 1 (Next controlled_hadamard_draft)
controlled_hadamard_steps_follow =
    (record { there = (lit< tt, (lit< tt, tt)); differ = (eqb-false 1 0 refl, tt, tt); known = (inl refl, tt); unmeasured = refl; eighths = tt; next_number = tt }, tt)

pub controlled_hadamard_is_draft : IsDraft controlled_hadamard_draft
controlled_hadamard_is_draft = record {
  steps_follow = λ s h. each_below 1 (Next controlled_hadamard_draft) controlled_hadamard_steps_follow s.number h;
  few_steps = lit≤ tt;
  as_many_lines = refl;
  few_wires = lit≤ tt;
  few_outcomes = lit≤ tt;
}

-- all wires are outputs
always_output : (n : ℕ) → end_of controlled_hadamard (wire_id n) ≡ Output
always_output zero = refl
always_output (suc zero) = refl
always_output (suc (suc n)) = refl

abbrev NoMeasure : ℕ → Type 0
NoMeasure k = (w : WireId) → measures w (step_at controlled_hadamard (step_id k)) ≡ true → end_of controlled_hadamard w ≡ Measured

no_measures : NoMeasure 0
no_measures w e = absurd (both_ways false refl e)

abbrev number_or : Option WireId → ℕ
number_or None = 0
number_or (Some w) = w.number

-- a list for each of two wires
two_wires : (IsOne : WireId → Type 0) → IsOne (wire_id 0) → IsOne (wire_id 1) → ((w : WireId) → IsOne w → (w ≡ wire_id 0) ⊎ (w ≡ wire_id 1)) → NamesExactly ((wire_id 0 ∷ []) ∷ (wire_id 1 ∷ []) ∷ []) IsOne
two_wires IsOne first second only = record {
  only = λ w c. named w c.0 c.1 c.2;
  each = λ w i. elim (only w i) [ inl e ↦ (0, lit< tt, sym e) | inr e ↦ (1, lit< tt, sym e) ];
  once = once;
}
  where
    named : (w : WireId) (k : ℕ) → k < 2 → get_or (wire_id 0 ∷ wire_id 1 ∷ []) k w ≡ w → IsOne w
    named w zero l e = subst IsOne e first
    named w (suc zero) l e = subst IsOne e second
    named w (suc (suc k)) l e = absurd (omega (arith, l))

    once : (i j : ℕ) (w : WireId) → slice_get (wire_id 0 ∷ wire_id 1 ∷ []) i ≡ Some w → slice_get (wire_id 0 ∷ wire_id 1 ∷ []) j ≡ Some w → i ≡ j
    once zero zero w e g = refl
    once (suc zero) (suc zero) w e g = refl
    once zero (suc zero) w e g = let no : Some (wire_id 0) ≡ Some (wire_id 1) = e ∙ sym g in absurd (eqb-false 0 1 refl (ap number_or no))
    once (suc zero) zero w e g = let no : Some (wire_id 0) ≡ Some (wire_id 1) = g ∙ sym e in absurd (eqb-false 0 1 refl (ap number_or no))
    once (suc (suc i)) j w e g = absurd (cc)
    once zero (suc (suc j)) w e g = absurd (cc)
    once (suc zero) (suc (suc j)) w e g = absurd (cc)

below_two : (n : ℕ) → n < 2 → (wire_id n ≡ wire_id 0) ⊎ (wire_id n ≡ wire_id 1)
below_two zero l = inl refl
below_two (suc zero) l = inr refl
below_two (suc (suc n)) l = absurd (omega (arith, l))

inputs_two : (n : ℕ) → is_input controlled_hadamard (wire_id n) ≡ true → (wire_id n ≡ wire_id 0) ⊎ (wire_id n ≡ wire_id 1)
inputs_two zero i = inl refl
inputs_two (suc zero) i = inr refl
inputs_two (suc (suc n)) i = absurd (both_ways false refl i)

pub controlled_hadamard_is_flat : IsFlat controlled_hadamard
controlled_hadamard_is_flat = drafts_become_flat controlled_hadamard_draft ((wire_id 0 ∷ []) ∷ (wire_id 1 ∷ []) ∷ []) ((wire_id 0 ∷ []) ∷ (wire_id 1 ∷ []) ∷ []) controlled_hadamard_is_draft (record {
  dropped_is_new = λ w e. absurd (not_dropped _ e (inr (always_output w.number)));
  dropped_has_x = λ s w h e c. absurd (not_dropped _ e (inr (always_output w.number)));
  m_is_measured = λ s w h m. each_below 1 NoMeasure (no_measures, tt) s.number h w m;
  measured_has_m = λ w e. not_measured _ e (inr (always_output w.number));
  ins_name = two_wires (λ w. is_input controlled_hadamard w ≡ true) refl refl (λ w i. inputs_two w.number i);
  outs_name = two_wires (λ w. (w.number < 2) × (end_of controlled_hadamard w ≡ Output)) (lit< tt, refl) (lit< tt, refl) (λ w o. below_two w.number o.0);
})

-- the first steps of a draft with these steps alone
pub no_steps : (d : DraftForm) (steps : List Step) → with_steps d [] ≡ first_steps (with_steps d steps) 0
no_steps d [] = refl
no_steps d (s ∷ steps) = refl

pub all_steps : (d : DraftForm) (steps : List Step) → first_steps (with_steps d steps) (length steps) ≡ with_steps d steps
all_steps d steps =
    let whole : take (length steps) steps ≡ steps = take_all (length steps) steps (le_refl (length steps)) in
    let lines : take (length steps) (replicate (length steps) 1) ≡ replicate (length steps) 1 = take-replicate (length steps) (length steps) 1 (le_refl (length steps)) in
    λ i. record { wires = d.wires; steps = whole i; lines = lines i }

pub one_step_more : (d : DraftForm) (steps : List Step) (k : ℕ) (s : Step) → k < length steps → with_step (first_steps (with_steps d steps) k) (get_or steps k s) 1 ≡ first_steps (with_steps d steps) (k + 1)
one_step_more d steps k s l =
    let more : take k steps ++ get_or steps k s ∷ [] ≡ take (k + 1) steps = sym (take_more steps k s l) in
    let short : k < length (replicate (length steps) 1) = subst (λ n. k < n) (sym (length-replicate (length steps) 1)) l in
    let line : take k (replicate (length steps) 1) ++ 1 ∷ [] ≡ take (k + 1) (replicate (length steps) 1) =
    ap (λ x. take k (replicate (length steps) 1) ++ x ∷ []) (sym (get_or-replicate (length steps) k 1 1 l)) ∙ sym (take_more (replicate (length steps) 1) k 1 short) in
    λ i. record { wires = d.wires; steps = more i; lines = line i }

pub step_there : (d : DraftForm) (steps : List Step) (k : ℕ) (s : Step) (now : DraftForm) → k < length steps → now ≡ first_steps (with_steps d steps) k
    → IsNextStep (first_steps (with_steps d steps) k) (step_in steps (step_id k)) → IsNextStep now (get_or steps k s)
step_there d steps k s now l is h = subst (λ x. IsNextStep x (get_or steps k s)) (sym is) (subst (IsNextStep (first_steps (with_steps d steps) k)) (get_or_default steps k no_step s l) h)

pub step_added : (d : DraftForm) (steps : List Step) (k : ℕ) (s : Step) (now next : DraftForm) → k < length steps → now ≡ first_steps (with_steps d steps) k → next ≡ with_step now (get_or steps k s) 1 → next ≡ first_steps (with_steps d steps) (k + 1)
step_added d steps k s now next l is made = made ∙ ap (λ x. with_step x (get_or steps k s) 1) is ∙ one_step_more d steps k s l

pub teleportation_made : (d : DraftForm) (ins outs : List (List WireId)) → d ≡ teleportation_draft → ins ≡ (wire_id 0 ∷ []) ∷ [] → outs ≡ (wire_id 2 ∷ []) ∷ [] → IsFlat (finished d ins outs)
teleportation_made d ins outs e g h = subst IsFlat (λ i. finished (sym e i) (sym g i) (sym h i)) teleportation_is_flat

pub controlled_hadamard_made : (d : DraftForm) (ins outs : List (List WireId)) → d ≡ controlled_hadamard_draft → ins ≡ (wire_id 0 ∷ []) ∷ (wire_id 1 ∷ []) ∷ [] → outs ≡ (wire_id 0 ∷ []) ∷ (wire_id 1 ∷ []) ∷ [] → IsFlat (finished d ins outs)
controlled_hadamard_made d ins outs e g h = subst IsFlat (λ i. finished (sym e i) (sym g i) (sym h i)) controlled_hadamard_is_flat
