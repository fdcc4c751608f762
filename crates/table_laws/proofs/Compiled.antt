-- The text of a compiled program is read back as a circuit of the program.
use Rattle.std.proofs.Common.{◌≡◌, ◌≢◌, ℕ, ◌≤◌, List, [], ◌∷◌, ◌++◌, map, flat_map, length, length-append, All, refl, ap, ◌∙◌, subst, arith}
use Rattle.std.specs.Prelude.{codes}
use Rattle.std.proofs.lemmas.List.Elements.{All-nil, All-cons, All-head, All-tail}
use Rattle.gate_core.specs.Local.{AllDiffer, AllBelow}
use Rattle.gate_core.specs.Meaning.{joined}
use Rattle.qasm_write.specs.Written.{written_text, head_text, start_text, outcome_lines, gate_lines, list_lines, out_text}
use Rattle.qasm_read.specs.Text.{reading}
use Rattle.read_laws.specs.Laws.{AreNamed, IsReadable}
use Rattle.read_laws.proofs.ReadBack.{read_back}
use Rattle.silq_mean.specs.Table.{Job}
use Rattle.flat_core.specs.declared.step.WireId.{WireId}
use Rattle.flat_core.specs.Form.{FlatForm}
use Rattle.flat_core.specs.Sound.{IsFlat}
use Rattle.flat_form.specs.Flat.{flattened}
use Rattle.flat_laws.proofs.EndsWhole.{within_limits_flat}
use Rattle.move_plan.specs.declared.moves.Move.{Move}
use Rattle.move_plan.specs.Live.{width}
use Rattle.qubit_alloc.specs.Place.{Place, first_place, place_plan}
use Rattle.plan_gates.specs.PlanCircuit.{qubits_on, gates_of_plan, in_qubits, out_qubits}
use Rattle.plan_laws.specs.Circuits.{Spelled, IsCircuitOf}
use Rattle.plan_laws.specs.Laws.{plan_circuit}
use Rattle.plan_laws.proofs.Theorem.{plans_give}
use Rattle.table_write.specs.Outs.{rest_of}
use Rattle.table_laws.specs.Laws.{form_of, HasWires, JobTextsAreReadBack}
use Rattle.table_laws.proofs.Orders.{length-order}
use Rattle.table_laws.proofs.Lengths.{gates_short, lists_short, registers_short}
use Rattle.table_laws.proofs.PlanGates.{plan_gates_few, plan_gates_ask, values_fit}

-- ---- lists of qubits

joined_as_flat : (lists : List (List ℕ)) → joined lists ≡ flat_map (λ l. l) lists
joined_as_flat [] = refl
joined_as_flat (l ∷ lists) = ap (λ ns. l ++ ns) (joined_as_flat lists)

some_on : (place : Place) (lists : List (List WireId)) → All (λ ws. ws ≢ []) lists → All (λ qs. qs ≢ []) (qubits_on place lists)
some_on place [] h = All-nil (λ qs. qs ≢ [])
some_on place (ws ∷ lists) h =
    All-cons (λ qs. qs ≢ []) (map place ws) (qubits_on place lists) (some ws (All-head (λ l. l ≢ []) ws lists h))
    (some_on place lists (All-tail (λ l. l ≢ []) ws lists h))
  where
    some : (ws : List WireId) → ws ≢ [] → map place ws ≢ []
    some [] n e = n refl
    some (w ∷ ws) n e = let g : length (place w ∷ map place ws) ≡ length {A = ℕ} [] = ap length e in absurd (omega (arith, g))

named : (n : ℕ) (lists : List (List ℕ)) → All (λ qs. qs ≢ []) lists → AllDiffer (joined lists) → AllBelow n (joined lists) → AreNamed n lists
named n lists some differ below = record {
  some = some;
  in_range = subst (AllBelow n) (joined_as_flat lists) below;
  differ = subst AllDiffer (joined_as_flat lists) differ;
}

-- no more than there are qubits
few_in : (n : ℕ) (qs : List ℕ) → AllDiffer qs → AllBelow n qs → length qs ≤ n
few_in n qs d b = let e = length-order n qs d b in let f = length-append qs (rest_of n qs) in omega (arith, e, f)

-- ---- the circuit of a plan

module _ (j : Job) (moves : List Move) (wide : ℕ) (is : IsCircuitOf j (plan_circuit (flattened j).form moves wide)) (ok : IsFlat (flattened j).form)
    (wires : HasWires j) (few : length moves ≤ 600000) (narrow : wide ≤ 100000) where
  abbrev form : FlatForm
  form = (flattened j).form

  abbrev circuit : Spelled
  circuit = plan_circuit form moves wide

  some_ins : All (λ qs. qs ≢ []) (in_qubits form)
  some_ins = some_on (first_place form) form.ins wires.ins

  some_outs : All (λ qs. qs ≢ []) (out_qubits form moves)
  some_outs = some_on (place_plan form moves) form.outs wires.outs

  few_outcomes : form.outcomes ≤ 4096
  few_outcomes = ok.few_outcomes

  few_gates : length (gates_of_plan form moves) ≤ 5400000
  few_gates = let a = plan_gates_few form moves in omega (arith, a, few)

  short_gates : length (gate_lines (gates_of_plan form moves)) ≤ 253800000
  short_gates =
      let a = gates_short wide form.outcomes (gates_of_plan form moves) narrow few_outcomes is.sound.each_fits (plan_gates_ask form moves) in
      let b = few_gates in
      omega (arith, a, b)

  short_ins : length (list_lines (codes "in") 0 (in_qubits form)) ≤ 2900000
  short_ins =
      let few : length (joined (in_qubits form)) ≤ wide = few_in wide (joined (in_qubits form)) is.inputs.0 is.inputs.1 in
      let a = lists_short (codes "in") 0 wide (in_qubits form) (omega arith) narrow some_ins is.inputs.1 (omega (arith, few, narrow)) in
      omega (arith, a, few, narrow)

  short_outs : length (list_lines (codes "out") 0 (out_qubits form moves)) ≤ 2900000
  short_outs =
      let few : length (joined (out_qubits form moves)) ≤ wide = few_in wide (joined (out_qubits form moves)) is.outputs.0 is.outputs.1 in
      let a = lists_short (codes "out") 0 wide (out_qubits form moves) (omega arith) narrow some_outs is.outputs.1 (omega (arith, few, narrow)) in
      omega (arith, a, few, narrow)

  short_text : length (written_text wide form.outcomes (in_qubits form) (gates_of_plan form moves) (out_qubits form moves)) ≤ 268435456
  short_text =
      let a = short_gates in
      let b = short_ins in
      let c = short_outs in
      let d = registers_short wide form.outcomes narrow few_outcomes in
      let heads : List ℕ = outcome_lines 0 form.outcomes ++ list_lines (codes "in") 0 (in_qubits form) in
      let e1 = length-append (head_text wide form.outcomes (in_qubits form)) (gate_lines (gates_of_plan form moves) ++ out_text (out_qubits form moves)) in
      let e2 = length-append (start_text wide) (outcome_lines 0 form.outcomes ++ list_lines (codes "in") 0 (in_qubits form)) in
      let e3 = length-append (outcome_lines 0 form.outcomes) (list_lines (codes "in") 0 (in_qubits form)) in
      let e4 = length-append (gate_lines (gates_of_plan form moves)) (out_text (out_qubits form moves)) in
      omega (arith, a, b, c, d, e1, e2, e3, e4)

  pub readable : IsReadable (form_of circuit)
  readable = record {
    sound = is.sound;
    values = values_fit (gates_of_plan form moves) (plan_gates_ask form moves);
    ins = named wide (in_qubits form) some_ins is.inputs.0 is.inputs.1;
    outs = named wide (out_qubits form moves) some_outs is.outputs.0 is.outputs.1;
    few_qubits = narrow;
    few_bits = few_outcomes;
    few_gates = (let a = few_gates in omega (arith, a));
    short = short_text;
  }

pub texts_are_read_back : JobTextsAreReadBack
texts_are_read_back budget text j fine ends wires h low =
    let wide : ℕ = width (flattened j).form h.planned.1.moves in
    let first = h.planned.1.first in
    let ok : IsFlat (flattened j).form = within_limits_flat j fine ends h.planned.0 in
    let is : IsCircuitOf j (plan_circuit (flattened j).form h.planned.1.moves wide) =
    plans_give j h.planned.1.moves wide fine ends h.planned.0 first.level.valid (omega arith) in
    let few : length h.planned.1.moves ≤ 600000 = first.fits.few in
    let narrow : wide ≤ 100000 = (let n = first.fits.narrow in omega (arith, n, low)) in
    let r : IsReadable (form_of (plan_circuit (flattened j).form h.planned.1.moves wide)) = readable j h.planned.1.moves wide is ok wires few narrow in (
      plan_circuit (flattened j).form h.planned.1.moves wide,
      record {
        of_job = is;
        written = h.planned.1.is;
        readable = r;
        read = ap reading h.planned.1.is ∙ read_back (form_of (plan_circuit (flattened j).form h.planned.1.moves wide)) r;
      },
    )
