-- The laws that join moves on wires to gates, as statements.
use Rattle.std.specs.Prelude.{◌≡◌, ◌<◌, ◌≤◌, ℕ, Bool, false, true, List, [], ◌∷◌, ◌++◌, length, map, All, IsSome, Some}
use Rattle.amp_core.specs.Amplitude.{none, Same}
use Rattle.sum_laws.specs.Terms.{apply, amplitude, positions, pick}
use Rattle.flat_core.specs.declared.step.WireId.{WireId}
use Rattle.flat_core.specs.Form.{FlatForm}
use Rattle.flat_core.specs.Label.{wire_id}
use Rattle.flat_core.specs.Sound.{IsFlat, joined as wires_joined}
use Rattle.flat_mean.specs.Row.{Row, bits_of}
use Rattle.flat_mean.specs.Path.{input_row}
use Rattle.flat_mean.specs.Terms.{Term, each}
use Rattle.flat_mean.specs.Laws.{path_amplitude}
use Rattle.move_plan.specs.declared.moves.Move.{Move}
use Rattle.move_plan.specs.Progress.{Progress, Stands, at_start, progress, IsPlan}
use Rattle.move_plan.specs.Live.{width}
use Rattle.move_plan.specs.Laws.{IsInput, ZeroedAreZero}
use Rattle.gate_core.specs.Meaning.{bit_at, joined}
use Rattle.gate_core.specs.Local.{Absent, AllDiffer, AllBelow}
use Rattle.gate_core.specs.Circuit.{IsSound}
use Rattle.gate_emit.specs.Plans.{gates_of, effect_of, run_moves, MoveFits, Sound}
use Rattle.qubit_alloc.specs.declared.placed.Placed.{Placed}
use Rattle.qubit_alloc.specs.Place.{Place, first_place, place_all, place_plan}
use Rattle.qubit_alloc.specs.PlacedMoves.{placed_of}
use Rattle.qubit_alloc.specs.State.{PlacerState, progress_of, qubit_told, Tells}
use Rattle.qubit_alloc.specs.Spread.{do_placed, do_all_placed}
use Rattle.plan_gates.specs.Registers.{registers}
use Rattle.plan_gates.specs.PlacedMoves.{CanBeEmitted, move_of_placed}
use Rattle.plan_gates.specs.PlanCircuit.{plan_moves, gates_of_plan, input_bits, in_qubits, out_qubits, plan_terms, result_bits}

-- a placed move does to the bits of a register, term by term, what it does to the values of the qubits
pub record PlacedMovesActOnBits : Type 0 where
  pub of_a_move :
      (n k : ℕ) (bits : List ℕ) (outcome : List Bool) (pl : Placed) (ts : List Term) → MoveFits n k bits (move_of_placed pl)
      → apply (effect_of outcome (move_of_placed pl)) (registers n ts) ≡ registers n (each (do_placed (bits_of outcome) pl) ts)
  pub of_moves :
      (n k : ℕ) (bits : List ℕ) (outcome : List Bool) (pls : List Placed) (ts : List Term) → Sound n k bits (map move_of_placed pls)
      → run_moves outcome (map move_of_placed pls) (registers n ts) ≡ registers n (do_all_placed (bits_of outcome) pls ts)

-- what placing tells of a move that may come is what its gates ask for
abbrev pub PlacedMovesCanBeEmitted : Type 0
PlacedMovesCanBeEmitted = (f : FlatForm) (p : Progress) (place : Place) (m : Move) → IsFlat f → Stands f p m → CanBeEmitted (placed_of f p place m)

-- one more move adds its gates at the end
abbrev pub OneMoreMoveAddsItsGates : Type 0
OneMoreMoveAddsItsGates =
    (f : FlatForm) (before : List Move) (m : Move)
    → gates_of_plan f (before ++ m ∷ [])
    ≡ gates_of_plan f before ++ gates_of (move_of_placed (placed_of f (progress f at_start before) (place_all f at_start (first_place f) before) m))

-- the qubits that a placer tells of each wire of some lists are these
pub record TellsLists (v : PlacerState) (lists : List (List WireId)) (qubits : List (List ℕ)) : Type 0 where
  pub on_qubits : All (All (λ w. IsSome (qubit_told v w))) lists
  pub only : (told : List (List ℕ)) → map (map Some) told ≡ map (map (qubit_told v)) lists → told ≡ qubits

-- a placer tells the qubits of the parameters before the moves, and those of the results after them
pub record PlacersTellLists : Type 0 where
  pub of_parameters :
      (f : FlatForm) (v : PlacerState) → IsFlat f → v.finished ≡ false → progress_of v ≡ at_start → Tells f v (first_place f)
      → TellsLists v f.ins (in_qubits f)
  pub of_results :
      (f : FlatForm) (moves : List Move) (v : PlacerState) → IsFlat f → v.finished ≡ true → Tells f v (place_plan f moves)
      → TellsLists v f.outs (out_qubits f moves)

-- where the parameters' wires are the first ones in order, input bits begin on them in their order
pub record BeginsWith (f : FlatForm) (bits : List Bool) : Type 0 where
  pub is_input : IsInput f (input_row f.wires (bits_of bits))
  pub in_order : input_bits f (input_row f.wires (bits_of bits)) ≡ bits

abbrev pub InputsBeginInOrder : Type 0
InputsBeginInOrder = (f : FlatForm) (bits : List Bool) → IsFlat f → wires_joined f.ins ≡ map wire_id (positions (length bits)) → BeginsWith f bits

-- the moves of a plan and their gates fit a register of its width, and so do the qubits of the inputs and of the outputs
pub record PlanFits (f : FlatForm) (moves : List Move) (wide : ℕ) : Type 0 where
  pub moves_fit : Sound wide f.outcomes [] (plan_moves f moves)
  pub circuit : IsSound wide f.outcomes (gates_of_plan f moves)
  pub ins_differ : AllDiffer (joined (in_qubits f))
  pub ins_in_range : AllBelow wide (joined (in_qubits f))
  pub outs_differ : AllDiffer (joined (out_qubits f moves))
  pub outs_in_range : AllBelow wide (joined (out_qubits f moves))

abbrev pub PlansFit : Type 0
PlansFit = (f : FlatForm) (moves : List Move) (wide : ℕ) → IsFlat f → IsPlan f moves → width f moves ≤ wide → PlanFits f moves wide

-- The circuit of a plan gives what the paths of the flat form give: to each value of the results the sum of the weights of
-- the agreeing paths that have it at the tops. The value stands on the qubits of the results with 0 on all others, and bits
-- with a 1 on another qubit have the amplitude 0.
pub record GivesPaths (f : FlatForm) (moves : List Move) (wide : ℕ) (input : Row) (outcome : List Bool) : Type 0 where
  pub of_values :
      (values : List Bool) → length values ≡ length (wires_joined f.outs)
      → Same (amplitude (result_bits f moves wide values) (plan_terms f moves wide input outcome)) (path_amplitude f.steps input (bits_of outcome) (wires_joined f.outs) values)
  pub of_bits :
      (bits : List Bool) → length bits ≡ wide → ((q : ℕ) → q < length bits → Absent q (joined (out_qubits f moves)) → bit_at bits q ≡ false)
      → Same (amplitude bits (plan_terms f moves wide input outcome)) (path_amplitude f.steps input (bits_of outcome) (wires_joined f.outs) (pick (joined (out_qubits f moves)) bits))
  pub elsewhere :
      (bits : List Bool) (q : ℕ) → Absent q (joined (out_qubits f moves)) → bit_at bits q ≡ true
      → Same (amplitude bits (plan_terms f moves wide input outcome)) none

abbrev pub GatesGivePaths : Type 0
GatesGivePaths =
    (f : FlatForm) (moves : List Move) (wide : ℕ) (input : Row) (outcome : List Bool)
    → IsFlat f → IsInput f input → ZeroedAreZero f input → IsPlan f moves → width f moves ≤ wide
    → GivesPaths f moves wide input outcome
