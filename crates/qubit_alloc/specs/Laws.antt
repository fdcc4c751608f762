-- The laws of placing, as statements.
use Rattle.std.specs.Prelude.{◌≡◌, ◌≢◌, ℕ, ◌<◌, ◌≤◌, Bool, false, ◌&&◌, nat_lt, List, [], ◌∷◌, ◌++◌, length, map, All}
use Rattle.sum_laws.specs.Terms.{amplitude}
use Rattle.flat_core.specs.declared.step.End.TheVariants.{Output}
use Rattle.flat_core.specs.declared.step.WireId.{WireId}
use Rattle.flat_core.specs.Form.{FlatForm}
use Rattle.flat_core.specs.Label.{end_of}
use Rattle.flat_core.specs.Sound.{IsFlat}
use Rattle.flat_mean.specs.Row.{Row}
use Rattle.flat_mean.specs.Path.{count_inputs, input_row}
use Rattle.flat_mean.specs.Terms.{first_term, seen_at}
use Rattle.flat_mean.specs.Laws.{path_amplitude}
use Rattle.move_plan.specs.declared.moves.Move.{Move}
use Rattle.move_plan.specs.Progress.{at_start, AllStand, progress, IsPlan}
use Rattle.move_plan.specs.Effect.{is_output, do_moves}
use Rattle.move_plan.specs.Live.{live, width}
use Rattle.move_plan.specs.Laws.{IsInput, ZeroedAreZero}
use Rattle.qubit_alloc.specs.Place.{first_place, place_all, place_plan, IsPlaced}
use Rattle.qubit_alloc.specs.PlacedMoves.{placed_all}
use Rattle.qubit_alloc.specs.Spread.{spread_all, to_qubit, do_all_placed, first_row}

-- after each first part of a valid list of moves the live wires stand on different qubits, below any bound of the width
abbrev pub LiveWiresApart : Type 0
LiveWiresApart =
    (f : FlatForm) (before rest : List Move) (wide : ℕ)
    → IsFlat f → IsPlan f (before ++ rest) → width f (before ++ rest) ≤ wide
    → IsPlaced f (live f (progress f at_start before)) wide (place_all f at_start (first_place f) before)

-- at the end all Output wires do, also those that nothing touched
abbrev pub OutputsApart : Type 0
OutputsApart =
    (f : FlatForm) (moves : List Move) (wide : ℕ)
    → IsFlat f → IsPlan f moves → width f moves ≤ wide
    → IsPlaced f (λ w. is_output (end_of f w)) wide (place_plan f moves)

-- the qubits begin with the input bits in their order, and with 0 on all others
abbrev pub InputsStandFirst : Type 0
InputsStandFirst = (f : FlatForm) (input : ℕ → Bool) (j : ℕ) → first_row f (input_row f.wires input) j ≡ (nat_lt j (count_inputs f.wires) && input j)

-- any moves that may come give, on their qubits, the list of terms that they give on wires, spread over the qubits
abbrev pub PlacedMovesAgree : Type 0
PlacedMovesAgree =
    (f : FlatForm) (input : Row) (outcome : ℕ → Bool) (moves : List Move)
    → IsFlat f → IsInput f input → ZeroedAreZero f input → AllStand f at_start moves
    → do_all_placed outcome (placed_all f moves) (first_term (first_row f input) ∷ [])
    ≡ spread_all f (live f (progress f at_start moves)) (place_all f at_start (first_place f) moves) (do_moves f outcome moves (first_term input ∷ []))

-- so does a whole valid list, where all Output wires are on qubits at the end and no other wires
abbrev pub PlacedPlansAgree : Type 0
PlacedPlansAgree =
    (f : FlatForm) (input : Row) (outcome : ℕ → Bool) (moves : List Move)
    → IsFlat f → IsInput f input → ZeroedAreZero f input → IsPlan f moves
    → do_all_placed outcome (placed_all f moves) (first_term (first_row f input) ∷ [])
    ≡ spread_all f (λ w. is_output (end_of f w)) (place_plan f moves) (do_moves f outcome moves (first_term input ∷ []))

-- a valid list of moves, on qubits, gives to each value of the qubits of some Output wires the sum of the weights of the
-- agreeing paths that give it to these wires
abbrev pub CircuitGivesPaths : Type 0
CircuitGivesPaths =
    (f : FlatForm) (input : Row) (outcome : ℕ → Bool) (moves : List Move)
    → IsFlat f → IsInput f input → ZeroedAreZero f input → IsPlan f moves
    → (wires : List WireId) (values : List Bool) → All (λ w. (w.number < length f.wires) × (end_of f w ≡ Output)) wires
    → amplitude values (seen_at (map (to_qubit (place_plan f moves)) wires) (do_all_placed outcome (placed_all f moves) (first_term (first_row f input) ∷ [])))
    ≡ path_amplitude f.steps input outcome wires values

-- and 0 in each term to each qubit on which no Output wire stands
abbrev pub OtherQubitsZero : Type 0
OtherQubitsZero =
    (f : FlatForm) (input : Row) (outcome : ℕ → Bool) (moves : List Move)
    → IsFlat f → IsInput f input → ZeroedAreZero f input → IsPlan f moves
    → (j : ℕ) → ((w : WireId) → w.number < length f.wires → end_of f w ≡ Output → place_plan f moves w ≢ j)
    → All (λ t. t.row j ≡ false) (do_all_placed outcome (placed_all f moves) (first_term (first_row f input) ∷ []))
