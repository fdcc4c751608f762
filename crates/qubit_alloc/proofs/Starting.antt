-- Where the wires stand at the start.
use Rattle.std.proofs.Common.{◌≡◌, ℕ, zero, suc, ◌+◌, ◌<◌, ◌≤◌, ◌⊎◌, inl, inr, Bool, true, false, cond, not, nat_lt, ◌==◌, ◌&&◌, ◌||◌, length, count_by, refl, sym, ◌∙◌, ap, ap₂, subst, arith, add-one, take_all, le_refl, eq-or-lt_of_le, le_of_suc-le-suc}
use Rattle.std.proofs.lemmas.Bool.{cases_order, cases_lt, eq-eqb, eqb-true, lt-ltb, le-ltb}
use Rattle.std.proofs.lemmas.List.Sums.{sum_by_more}
use Rattle.flat_core.specs.declared.step.WireId.{WireId}
use Rattle.flat_core.specs.Form.{FlatForm, WireForm}
use Rattle.flat_core.specs.Label.{wire_id, is_input, no_wire}
use Rattle.flat_mean.specs.Path.{sum_below, inputs_before, count_inputs}
use Rattle.move_plan.specs.Progress.{at_start}
use Rattle.move_plan.specs.Live.{live, count_wires}
use Rattle.qubit_alloc.specs.Place.{is_taken, first_place, IsPlaced}
use Rattle.qubit_alloc.proofs.Spreading.{any_none, any_some}

abbrev one_if : Bool → ℕ
one_if b = cond b 1 0

module _ (f : FlatForm) where
  pub inputs_more : (n : ℕ) → n < length f.wires → inputs_before f.wires (n + 1) ≡ inputs_before f.wires n + cond (is_input f (wire_id n)) 1 0
  inputs_more n h = sum_by_more (λ (w : WireForm). cond w.input 1 0) f.wires n no_wire h

  -- at the start the inputs are live
  pub live_start : (w : WireId) → live f at_start w ≡ is_input f w
  live_start w = by (is_input f w)
    where
      by : (b : Bool) → (not false && (b || nat_lt 0 0 || false)) ≡ b
      by true = refl
      by false = refl

  inputs_below : (n : ℕ) → n ≤ length f.wires → sum_below n (λ q. cond (live f at_start (wire_id q)) 1 0) ≡ inputs_before f.wires n
  inputs_below zero h = refl
  inputs_below (suc n) h =
      let more : inputs_before f.wires (n + 1) ≡ inputs_before f.wires n + cond (is_input f (wire_id n)) 1 0 = inputs_more n (omega arith) in
      ap₂ ◌+◌ (inputs_below n (omega arith)) (ap (λ b. cond b 1 0) (live_start (wire_id n))) ∙ (sym more ∙ ap (inputs_before f.wires) (add-one n))

  pub count_start : count_wires f (live f at_start) ≡ count_inputs f.wires
  count_start = inputs_below (length f.wires) (le_refl (length f.wires)) ∙ ap (count_by (λ (w : WireForm). w.input)) (take_all (length f.wires) f.wires (le_refl (length f.wires)))

  -- each input comes after those before it
  pub first_less : (v n : ℕ) → v < n → n ≤ length f.wires → is_input f (wire_id v) ≡ true → inputs_before f.wires v + 1 ≤ inputs_before f.wires n
  first_less v zero lt nl on = absurd (omega arith)
  first_less v (suc n) lt nl on = by (first_less v n) (eq-or-lt_of_le (le_of_suc-le-suc lt))
    where
      more : inputs_before f.wires (suc n) ≡ inputs_before f.wires n + cond (is_input f (wire_id n)) 1 0
      more = ap (inputs_before f.wires) (sym (add-one n)) ∙ inputs_more n (omega arith)

      by : (v < n → n ≤ length f.wires → is_input f (wire_id v) ≡ true → inputs_before f.wires v + 1 ≤ inputs_before f.wires n) → (v ≡ n) ⊎ (v < n) → inputs_before f.wires v + 1 ≤ inputs_before f.wires (suc n)
      by ih (inl e) =
          let one : one_if (is_input f (wire_id n)) ≡ 1 = ap one_if (ap (λ (k : ℕ). is_input f (wire_id k)) (sym e) ∙ on) in
          let same : inputs_before f.wires v ≡ inputs_before f.wires n = ap (inputs_before f.wires) e in
          omega (arith, more, one, same)
      by ih (inr l) = let h : inputs_before f.wires v + 1 ≤ inputs_before f.wires n = ih l (omega arith) on in omega (arith, more, h)

  pub first_is : (w : WireId) → is_input f w ≡ true → first_place f w ≡ inputs_before f.wires w.number
  first_is w on = ap (λ b. cond b (inputs_before f.wires w.number) 0) on

  pub placed_start : (wide : ℕ) → count_wires f (live f at_start) ≤ wide → IsPlaced f (live f at_start) wide (first_place f)
  placed_start wide fits = record {
    below = λ w wl on.
        let i : is_input f w ≡ true = sym (live_start w) ∙ on in
        let at : first_place f w ≡ inputs_before f.wires w.number = first_is w i in
        let h : inputs_before f.wires w.number + 1 ≤ inputs_before f.wires (length f.wires) = first_less w.number (length f.wires) wl (le_refl (length f.wires)) i in
        let all : count_wires f (live f at_start) ≡ inputs_before f.wires (length f.wires) = inputs_below (length f.wires) (le_refl (length f.wires)) in
        omega (arith, at, h, all, fits);
    apart = λ v w vl wl ov ow e. by v w vl wl (sym (live_start v) ∙ ov) (sym (live_start w) ∙ ow) e (cases_order v.number w.number);
  }
    where
      by : (v w : WireId) → v.number < length f.wires → w.number < length f.wires → is_input f v ≡ true → is_input f w ≡ true → first_place f v ≡ first_place f w → (v.number ≡ w.number) ⊎ ((v.number < w.number) ⊎ (w.number < v.number)) → v ≡ w
      by v w vl wl iv iw e (inl s) = ap wire_id s
      by v w vl wl iv iw e (inr (inl l)) =
          let same : inputs_before f.wires v.number ≡ inputs_before f.wires w.number = sym (first_is v iv) ∙ e ∙ first_is w iw in
          let h : inputs_before f.wires v.number + 1 ≤ inputs_before f.wires w.number = first_less v.number w.number l (omega arith) iv in
          absurd (omega (arith, h, same))
      by v w vl wl iv iw e (inr (inr l)) =
          let same : inputs_before f.wires v.number ≡ inputs_before f.wires w.number = sym (first_is v iv) ∙ e ∙ first_is w iw in
          let h : inputs_before f.wires w.number + 1 ≤ inputs_before f.wires v.number = first_less w.number v.number l (omega arith) iw in
          absurd (omega (arith, h, same))

  -- the input that comes at a place
  pub find_input : (n : ℕ) (j : ℕ) → n ≤ length f.wires → j < inputs_before f.wires n → (w : WireId) × (w.number < n) × (is_input f w ≡ true) × (inputs_before f.wires w.number ≡ j)
  find_input zero j nl lt = absurd (omega arith)
  find_input (suc n) j nl lt = by (find_input n j (omega arith)) (is_input f (wire_id n)) refl (ap (inputs_before f.wires) (sym (add-one n)) ∙ inputs_more n (omega arith))
    where
      by : (j < inputs_before f.wires n → (w : WireId) × (w.number < n) × (is_input f w ≡ true) × (inputs_before f.wires w.number ≡ j)) → (b : Bool) → is_input f (wire_id n) ≡ b
          → inputs_before f.wires (suc n) ≡ inputs_before f.wires n + cond (is_input f (wire_id n)) 1 0 → (w : WireId) × (w.number < suc n) × (is_input f w ≡ true) × (inputs_before f.wires w.number ≡ j)
      by ih b e more = elim (cases_lt j (inputs_before f.wires n)) [
        | inl l ↦ let g = ih l in let gl = g.1 in (g.0, omega arith, g.2, g.3)
        | inr l ↦ here b e more l
      ]
        where
          here : (b : Bool) → is_input f (wire_id n) ≡ b → inputs_before f.wires (suc n) ≡ inputs_before f.wires n + cond (is_input f (wire_id n)) 1 0 → inputs_before f.wires n ≤ j
              → (w : WireId) × (w.number < suc n) × (is_input f w ≡ true) × (inputs_before f.wires w.number ≡ j)
          here true e more l =
              let m : inputs_before f.wires (suc n) ≡ inputs_before f.wires n + 1 = more ∙ ap (λ b. inputs_before f.wires n + cond b 1 0) e in
              (wire_id n, omega arith, e, omega (arith, m, l, lt))
          here false e more l =
              let m : inputs_before f.wires (suc n) ≡ inputs_before f.wires n + 0 = more ∙ ap (λ b. inputs_before f.wires n + cond b 1 0) e in
              absurd (omega (arith, m, l, lt))

  pub all_before : inputs_before f.wires (length f.wires) ≡ count_inputs f.wires
  all_before = ap (count_by (λ (w : WireForm). w.input)) (take_all (length f.wires) f.wires (le_refl (length f.wires)))

  -- at the start the first qubits are taken, one for each input
  pub taken_start : (j : ℕ) → is_taken f (live f at_start) (first_place f) j ≡ nat_lt j (count_inputs f.wires)
  taken_start j = elim (cases_lt j (count_inputs f.wires)) [
    | inl l ↦
        let g = find_input (length f.wires) j (le_refl (length f.wires)) (subst (λ n. j < n) (sym all_before) l) in
        any_some (length f.wires) (λ k. live f at_start (wire_id k) && (first_place f (wire_id k) == j)) g.0.number g.1 (ap₂ ◌&&◌ (live_start g.0 ∙ g.2) (eq-eqb (first_place f g.0) j (first_is g.0 g.2 ∙ g.3)))
        ∙ sym (lt-ltb j (count_inputs f.wires) l)
    | inr past ↦
        any_none (length f.wires) (λ k. live f at_start (wire_id k) && (first_place f (wire_id k) == j)) (λ k kl. none past k kl (live f at_start (wire_id k)) (first_place f (wire_id k) == j) refl refl)
        ∙ sym (le-ltb j (count_inputs f.wires) past)
  ]
    where
      none : count_inputs f.wires ≤ j → (k : ℕ) → k < length f.wires → (a b : Bool) → live f at_start (wire_id k) ≡ a → (first_place f (wire_id k) == j) ≡ b → (a && b) ≡ false
      none past k kl false b ea eb = refl
      none past k kl true false ea eb = refl
      none past k kl true true ea eb =
          let on : is_input f (wire_id k) ≡ true = sym (live_start (wire_id k)) ∙ ea in
          let less : inputs_before f.wires k + 1 ≤ inputs_before f.wires (length f.wires) = first_less k (length f.wires) kl (le_refl (length f.wires)) on in
          let at : inputs_before f.wires k ≡ j = sym (first_is (wire_id k) on) ∙ eqb-true (first_place f (wire_id k)) j eb in
          let all = all_before in
          absurd (omega (arith, less, at, all, past))
