-- The two tables agree.
use Rattle.std.proofs.Common.{◌≡◌, ℕ, ◌-◌, ◌<◌, ◌==◌, Bool, true, false, not, List, [], ◌∷◌, map, flat_map, reverse, length, length-append, get_or, Option}
use Rattle.std.proofs.Common.{Some, None, inl, inr, refl, ap, sym, ◌∙◌, subst, arith, eqb-true, if◌then◌else◌}
use Rattle.std.specs.Prelude.{Ok, nat_lt}
use Rattle.silq_io.specs.declared.limit.LimitKind.TheVariants.{Qubits, HGates}
use Rattle.amp_core.specs.declared.Amp.{Amp}
use Rattle.sum_laws.specs.Table.{TableOf}
use Rattle.sum_laws.proofs.Linear.{bool_cases}
use Rattle.gate_core.specs.Circuit.{CircuitForm}
use Rattle.gate_core.specs.Local.{HasWidth}
use Rattle.gate_core.specs.Meaning.{joined, meaning as circuit_meaning}
use Rattle.gate_core.proofs.Embedded.{meaning_wide}
use Rattle.amp_run.specs.Refusal.{fault_of, h_gates}
use Rattle.amp_run.specs.declared.fault.RunFault.{RunFault}
use Rattle.amp_run.specs.declared.fault.RunFault.TheVariants.{Bits, Limit}
use Rattle.silq_mean.specs.Value.{Value, bits_of as value_bits}
use Rattle.silq_mean.specs.Term.{Term}
use Rattle.silq_mean.specs.Table.{Job, Honest, IsMeanTable, total_size, terms, shown as shown_term, meaning as job_meaning, outcome_of}
use Rattle.flat_form.specs.Names.{AllOf}
use Rattle.table_write.specs.Outs.{shown_bits}
use Rattle.qasm_read.specs.State.{ReadForm}
use Rattle.qasm_read.specs.Text.{reading}
use Rattle.read_laws.specs.Laws.{text_of}
use Rattle.read_laws.proofs.ReadBack.{read_back}
use Rattle.plan_laws.specs.Circuits.{Spelled, IsCircuitOf, HasBitsOf}
use Rattle.table_laws.specs.Laws.{form_of, with_zeros, TablesAgree}
use Rattle.table_laws.proofs.Agree.{Gives, shown_table}

-- ---- the bits that were given

right_input : (circuit : CircuitForm) (qubits : List ℕ) (input outcome : List Bool) → fault_of circuit qubits input outcome ≡ None
    → length input ≡ length qubits
right_input circuit qubits input outcome h =
    elim (bool_cases (length input == length qubits)) [
      | inl e ↦ eqb-true (length input) (length qubits) e
      | inr e ↦
          absurd (let g : Some (Bits (length input) (length qubits)) ≡ None =
          subst
          (λ b. (if not b then Some (Bits (length input) (length qubits))
          else if not (length outcome == circuit.bits) then Some (Bits (length outcome) circuit.bits)
          else if nat_lt 20 circuit.qubits then Some (Limit (record { which = Qubits; count = 21 }))
          else if nat_lt 50 (h_gates circuit.gates) then Some (Limit (record { which = HGates; count = 51 }))
          else None)
          ≡ None)
          e h in
          cc g)
    ]

right_outcome : (circuit : CircuitForm) (qubits : List ℕ) (input outcome : List Bool) → fault_of circuit qubits input outcome ≡ None
    → length outcome ≡ circuit.bits
right_outcome circuit qubits input outcome h = by (not (length input == length qubits)) h
  where
    at : (o : Option RunFault) → (if not (length outcome == circuit.bits) then Some (Bits (length outcome) circuit.bits) else o) ≡ None
        → length outcome ≡ circuit.bits
    at o k =
        elim (bool_cases (length outcome == circuit.bits)) [
          | inl e ↦ eqb-true (length outcome) circuit.bits e
          | inr e ↦
              absurd (let g : Some (Bits (length outcome) circuit.bits) ≡ None =
              subst (λ b. (if not b then Some (Bits (length outcome) circuit.bits) else o) ≡ None) e k in
              cc g)
        ]

    by : (b : Bool) → (if b then Some (Bits (length input) (length qubits))
        else if not (length outcome == circuit.bits) then Some (Bits (length outcome) circuit.bits)
        else if nat_lt 20 circuit.qubits then Some (Limit (record { which = Qubits; count = 21 }))
        else if nat_lt 50 (h_gates circuit.gates) then Some (Limit (record { which = HGates; count = 51 }))
        else None)
        ≡ None
        → length outcome ≡ circuit.bits
    by true k = absurd (let g : Some (Bits (length input) (length qubits)) ≡ None = k in cc g)
    by false k =
        at
        (if nat_lt 20 circuit.qubits then Some (Limit (record { which = Qubits; count = 21 }))
        else if nat_lt 50 (h_gates circuit.gates) then Some (Limit (record { which = HGates; count = 51 }))
        else None)
        k

-- ---- the widths of the terms

abbrev later_numbers : List ℕ → List ℕ
later_numbers [] = []
later_numbers (n ∷ ns) = ns

joined_bits : (outs : List (List ℕ)) (values : List Value) → map length outs ≡ map (λ w. length (value_bits w)) values
    → length (flat_map value_bits values) ≡ length (joined outs)
joined_bits [] [] e = refl
joined_bits [] (v ∷ vs) e = absurd (let g : length {A = ℕ} [] ≡ length (length (value_bits v) ∷ map (λ w. length (value_bits w)) vs) = ap length e in omega
    (arith, g))
joined_bits (o ∷ os) [] e = absurd (let g : length (length o ∷ map length os) ≡ length {A = ℕ} [] = ap length e in omega (arith, g))
joined_bits (o ∷ os) (v ∷ vs) e =
    let first : length o ≡ length (value_bits v) = ap (λ ns. get_or ns 0 0) e in
    let rest : map length os ≡ map (λ w. length (value_bits w)) vs = ap later_numbers e in
    let k = joined_bits os vs rest in
    let a = length-append (value_bits v) (flat_map value_bits vs) in
    let b = length-append o (joined os) in
    omega (arith, first, k, a, b)

width-source : (outs : List (List ℕ)) (ts : List Term) → AllOf (HasBitsOf outs) ts → HasWidth (length (joined outs)) (map shown_term ts)
width-source outs [] h = tt
width-source outs (t ∷ ts) h = (joined_bits outs (reverse t.values) h.0, width-source outs ts h.1)

width-circuit : (c : Spelled) (input outcome : List Bool) → HasWidth c.qubits (circuit_meaning c.qubits c.outcomes c.gates c.ins input outcome)
width-circuit c input outcome = meaning_wide c.qubits c.outcomes c.gates c.ins input outcome

-- ---- the law

same_form : (f g : ReadForm) (text : List ℕ) → reading text ≡ Ok f → reading text ≡ Ok g → f ≡ g
same_form f g text h k = let e : Ok f ≡ Ok g = sym h ∙ k in cc e

module _ (j : Job) (c : Spelled) (input outcome : List Bool) (is : IsCircuitOf j c) (honest : Honest j input)
    (li : length input ≡ total_size j.shapes) (lo : length outcome ≡ c.outcomes) where
  gives : Gives c.qubits (joined c.outs) (circuit_meaning c.qubits c.outcomes c.gates c.ins input outcome) (job_meaning j input (outcome_of outcome))
  gives = record {
    amplitudes = λ u e z. is.gives.amplitudes input outcome u li honest lo e (λ q l a. z q (subst (λ m. q < m) e l) a);
    zeros = λ u e w. is.gives.zeros input outcome u li honest lo e (w.0, subst (λ m. w.0 < m) (sym e) w.1, w.2, w.3);
  }

  pub same_table : (rows shown : List (List Bool × Amp)) → IsMeanTable j input outcome rows
      → TableOf (map (λ t. (shown_bits c.qubits (joined c.outs) t.0, t.1)) (circuit_meaning c.qubits c.outcomes c.gates c.ins input outcome)) shown
      → shown ≡ with_zeros (c.qubits - length (joined c.outs)) rows
  same_table rows shown h t =
      shown_table c.qubits (joined c.outs) is.outputs.0 is.outputs.1 (circuit_meaning c.qubits c.outcomes c.gates c.ins input outcome)
      (job_meaning j input (outcome_of outcome)) (width-circuit c input outcome)
      (width-source c.outs (terms j input (outcome_of outcome)) (is.of_results input outcome li)) gives rows shown h t

-- what a table says of the form that its text spells
abbrev Told : List Bool → List Bool → ℕ → List (List Bool × Amp) → ReadForm → Type 0
Told input outcome outs shown form =
    (fault_of form.circuit (joined form.ins) input outcome ≡ None)
    × (outs ≡ length (joined form.outs))
    × TableOf
    (map (λ t. (shown_bits form.circuit.qubits (joined form.outs) t.0, t.1))
    (circuit_meaning form.circuit.qubits form.circuit.bits form.circuit.gates form.ins input outcome))
    shown

pub tables_agree : TablesAgree
tables_agree j c input outcome rows shown outs is readable honest mean has =
    let same : has.form ≡ form_of c = same_form has.form (form_of c) (text_of (form_of c)) has.spelled (read_back (form_of c) readable) in
    let told : Told input outcome outs shown (form_of c) = subst (Told input outcome outs shown) same (has.allowed, has.outs_are, has.table) in
    let li : length input ≡ total_size j.shapes = right_input (form_of c).circuit (joined c.ins) input outcome told.0 ∙ is.inputs.2 in
    let lo : length outcome ≡ c.outcomes = right_outcome (form_of c).circuit (joined c.ins) input outcome told.0 in (
      told.1,
      subst (λ k. shown ≡ with_zeros (c.qubits - k) rows) (sym told.1) (same_table j c input outcome is honest li lo rows shown mean told.2),
    )
