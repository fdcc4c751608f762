-- The circuit of a plan gives the source, by the laws on paths and on circuits.
use Rattle.std.proofs.Common.{◌≡◌, ℕ, zero, suc, ◌≤◌, Bool, List, [], ◌∷◌, length, map, reverse, None, refl, sym, ◌∙◌, ap, ap₂, subst}
use Rattle.std.proofs.lemmas.List.{length-map}
use Rattle.amp_core.specs.declared.Amp.{Amp}
use Rattle.amp_core.specs.Amplitude.{none, Same}
use Rattle.sum_laws.specs.Terms.{amplitude, positions, pick}
use Rattle.gate_core.specs.Meaning.{meaning, joined}
use Rattle.silq_types.specs.Types.{shape_bits}
use Rattle.silq_mean.specs.Term.{Term}
use Rattle.silq_mean.specs.Table.{Job, total_size, terms, mean, outcome_of, Honest}
use Rattle.flat_core.specs.declared.step.WireId.{WireId}
use Rattle.flat_core.specs.Form.{FlatForm}
use Rattle.flat_core.specs.Label.{wire_id}
use Rattle.flat_core.specs.Sound.{joined as wires_joined, IsFlat}
use Rattle.flat_mean.specs.Row.{Row, bits_of}
use Rattle.flat_mean.specs.Laws.{path_amplitude}
use Rattle.flat_form.specs.Flat.{flattened}
use Rattle.flat_form.specs.Names.{AllOf}
use Rattle.flat_form.specs.Jobs.{FineJob, EndsWell}
use Rattle.flat_form.proofs.Both.{all_weak}
use Rattle.flat_laws.specs.Laws.{WithinLimitsFlat}
use Rattle.path_laws.specs.Laws.{begin_row, MeaningGivesPaths, OutcomesAreCounted, TermFits, TermsFit, ParametersComeFirst, ParametersHaveTheirBits, HonestGivesZeros}
use Rattle.move_plan.specs.declared.moves.Move.{Move}
use Rattle.move_plan.specs.Progress.{IsPlan}
use Rattle.move_plan.specs.Live.{width}
use Rattle.qubit_alloc.specs.Place.{Place, first_place, place_plan}
use Rattle.plan_gates.specs.PlanCircuit.{gates_of_plan, qubits_on, in_qubits, out_qubits, input_bits}
use Rattle.plan_gates.specs.Laws.{BeginsWith, InputsBeginInOrder, PlanFits, PlansFit, GivesPaths, GatesGivePaths}
use Rattle.plan_gates.proofs.ListQubits.{joined_on}
use Rattle.plan_laws.specs.Circuits.{Spelled, IsZeroBut, HasOneBut, GivesSource, HasBitsOf, IsCircuitOf}
use Rattle.plan_laws.specs.Laws.{plan_circuit, PlansGiveTheSource}

-- ---- lists

length-positions : (n : ℕ) → length (positions n) ≡ n
length-positions zero = refl
length-positions (suc n) = ap suc (length-map (positions n) suc ∙ length-positions n)

-- each list of wires has as many qubits
lengths_on : (place : Place) (lists : List (List WireId)) → map length (qubits_on place lists) ≡ map length lists
lengths_on place [] = refl
lengths_on place (ws ∷ lists) = ap₂ (λ (n : ℕ) (ns : List ℕ). n ∷ ns) (length-map ws place) (lengths_on place lists)

-- ---- what the law stands on

pub record Laws : Type 0 where
  pub within_limits : WithinLimitsFlat
  pub meaning_is : MeaningGivesPaths
  pub outcomes_are : OutcomesAreCounted
  pub terms_fit : TermsFit
  pub first_wires : ParametersComeFirst
  pub parameter_bits : ParametersHaveTheirBits
  pub zeros : HonestGivesZeros
  pub in_order : InputsBeginInOrder
  pub plans_fit : PlansFit
  pub gates_give : GatesGivePaths

-- ---- one program with one plan

module _ (laws : Laws) (j : Job) (moves : List Move) (wide : ℕ) (fine : FineJob j) (ok : IsFlat (flattened j).form) (plan : IsPlan (flattened j).form moves)
    (fits : width (flattened j).form moves ≤ wide) where
  abbrev form : FlatForm
  form = (flattened j).form

  abbrev circuit : Spelled
  circuit = plan_circuit form moves wide

  fit : PlanFits form moves wide
  fit = laws.plans_fit form moves wide ok plan fits

  begin : (input : List Bool) → length input ≡ total_size j.shapes → BeginsWith form input
  begin input size = laws.in_order form input ok (laws.first_wires j ∙ ap (λ n. map wire_id (positions n)) (sym size))

  paths : (input outcome : List Bool) → length input ≡ total_size j.shapes → Honest j input → GivesPaths form moves wide (begin_row j input) outcome
  paths input outcome size honest = laws.gates_give form moves wide (begin_row j input) outcome ok (begin input size).is_input (laws.zeros j input fine size honest ok) plan fits

  -- what holds of the circuit on the bits with which the wires of the parameters begin holds of it on the input
  on_input : (input outcome bits : List Bool) (x : Amp) → length input ≡ total_size j.shapes
      → Same (amplitude bits (meaning wide form.outcomes (gates_of_plan form moves) (in_qubits form) (input_bits form (begin_row j input)) outcome)) x
      → Same (amplitude bits (meaning wide form.outcomes (gates_of_plan form moves) (in_qubits form) input outcome)) x
  on_input input outcome bits x size h =
      subst (λ (b : List Bool). Same (amplitude bits (meaning wide form.outcomes (gates_of_plan form moves) (in_qubits form) b outcome)) x) (begin input size).in_order h

  gives : GivesSource j circuit
  gives = record {
    amplitudes = λ input outcome bits size honest many long zero.
        let v : List Bool = pick (joined (out_qubits form moves)) bits in
        on_input input outcome bits (mean j input (outcome_of outcome) v) size
        (subst (Same (amplitude bits (meaning wide form.outcomes (gates_of_plan form moves) (in_qubits form) (input_bits form (begin_row j input)) outcome)))
        (sym (laws.meaning_is j input (bits_of outcome) v fine size))
        ((paths input outcome size honest).of_bits bits long zero));
    zeros = λ input outcome bits size honest many long h.
        on_input input outcome bits none size ((paths input outcome size honest).elsewhere bits h.0 h.2 h.3);
  }

  pub is_circuit : IsCircuitOf j circuit
  is_circuit = record {
    sound = fit.circuit;
    inputs = (
      fit.ins_differ,
      fit.ins_in_range,
      ap length (joined_on (first_place form) form.ins) ∙ length-map (wires_joined form.ins) (first_place form) ∙ ap length (laws.first_wires j)
          ∙ length-map (positions (total_size j.shapes)) wire_id ∙ length-positions (total_size j.shapes),
    );
    outputs = (fit.outs_differ, fit.outs_in_range);
    of_parameters = lengths_on (first_place form) form.ins ∙ laws.parameter_bits j;
    of_results = λ input outcome size.
        all_weak (TermFits form) (HasBitsOf (out_qubits form moves)) (λ t h. lengths_on (place_plan form moves) form.outs ∙ h.bits_of_results) (terms j input (outcome_of outcome))
        (laws.terms_fit j input (outcome_of outcome) fine size);
    of_outcomes = λ input size. laws.outcomes_are j input fine size;
    gives = gives;
  }

pub plans_give_the_source : Laws → PlansGiveTheSource
plans_give_the_source laws j moves wide fine well within plan fits = is_circuit laws j moves wide fine (laws.within_limits j fine well within) plan fits
