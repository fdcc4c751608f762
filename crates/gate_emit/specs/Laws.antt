-- The laws of the gates of a move, as statements.
use Rattle.std.specs.Prelude.{◌≡◌, ℕ, Bool, false, List, [], map, replicate, All}
use Rattle.amp_core.specs.declared.Amp.{Amp}
use Rattle.sum_laws.specs.Terms.{apply, SameTerms}
use Rattle.gate_core.specs.Meaning.{bit_at, run}
use Rattle.gate_core.specs.Local.{Absent, AllDiffer, AllBelow, HasWidth, as_gate}
use Rattle.gate_core.specs.Circuit.{IsSound}
use Rattle.gate_emit.specs.declared.placed.QubitMove.{QubitMove}
use Rattle.gate_emit.specs.declared.placed.PlacedMove.{PlacedMove}
use Rattle.gate_emit.specs.Moves.{move_gates, move_branches, move_qubits, PhaseFits}
use Rattle.gate_emit.specs.Plans.{gates_of_all, run_moves, Sound}

-- on a register of n qubits, whatever the outcome and the bits known so far
abbrev pub GatesActAsTheirMove : Type 0
GatesActAsTheirMove =
    (n : ℕ) (m : QubitMove) (outcome known : List Bool) (ts : List (List Bool × Amp))
    → AllDiffer (move_qubits m) → AllBelow n (move_qubits m) → PhaseFits m → HasWidth n ts
    → SameTerms (run outcome known (map as_gate (move_gates m)) ts) (apply (move_branches m) ts)

-- a whole list of moves on a register of n qubits and k bits, of which none is measured at first
abbrev pub GatesActAsTheirMoves : Type 0
GatesActAsTheirMoves =
    (n k : ℕ) (ms : List PlacedMove) (outcome : List Bool) (ts : List (List Bool × Amp))
    → Sound n k [] ms → HasWidth n ts
    → SameTerms (run outcome (replicate k false) (gates_of_all ms) ts) (run_moves outcome ms ts)

-- a unitary move leaves every other qubit as it is
abbrev pub MovesLeaveOtherQubits : Type 0
MovesLeaveOtherQubits =
    (m : QubitMove) (u : List Bool) (q : ℕ) → Absent q (move_qubits m) → All (λ b. bit_at b.bits q ≡ bit_at u q) (move_branches m u)

-- the gates of such a list are the statements of a circuit
abbrev pub GatesOfMovesAreSound : Type 0
GatesOfMovesAreSound = (n k : ℕ) (ms : List PlacedMove) → Sound n k [] ms → IsSound n k (gates_of_all ms)
