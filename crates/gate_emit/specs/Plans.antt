-- Lists of moves on qubits: their gates, and their effect on terms.
use Rattle.std.specs.Prelude.{ℕ, ◌<◌, Bool, cond, List, [], ◌∷◌, ◌++◌, map, Contains}
use Rattle.amp_core.specs.declared.Amp.{Amp}
use Rattle.sum_laws.specs.Terms.{Branch, apply, same_bit}
use Rattle.gate_core.specs.declared.gate.OneKind.TheVariants.{X}
use Rattle.gate_core.specs.declared.gate.PlainGate.TheVariants.{One as PlainOne}
use Rattle.gate_core.specs.declared.gate.Gate.{Gate}
use Rattle.gate_core.specs.declared.gate.Gate.TheVariants.{Measure, If}
use Rattle.gate_core.specs.Meaning.{bit_at, turned, flipped_if}
use Rattle.gate_core.specs.Local.{AllDiffer, AllBelow, as_gate}
use Rattle.gate_emit.specs.declared.placed.PlacedMove.{PlacedMove}
use Rattle.gate_emit.specs.declared.placed.PlacedMove.TheVariants.{Unitary, Measured, Cleared, Released}
use Rattle.gate_emit.specs.Moves.{move_gates, move_branches, move_qubits, PhaseFits}

-- the gates of a move, in order
abbrev pub gates_of : PlacedMove → List Gate
gates_of (Unitary m) = map as_gate (move_gates m)
gates_of (Measured q bit) = Measure q bit ∷ []
gates_of (Cleared q bit) = If bit 1 (PlainOne X q) ∷ []
gates_of Released = []

-- the effect on the bits of all qubits, by the outcome bits
abbrev pub effect_of : List Bool → PlacedMove → List Bool → List Branch
effect_of outcome (Unitary m) u = move_branches m u
effect_of outcome (Measured q bit) u = cond (same_bit (bit_at u q) (bit_at outcome bit)) (turned 0 u) []
effect_of outcome (Cleared q bit) u = turned 0 (flipped_if (bit_at outcome bit) u q)
effect_of outcome Released u = turned 0 u

-- the gates of all moves in turn, and the moves in turn
unfoldable pub gates_of_all : List PlacedMove → List Gate
gates_of_all [] = []
gates_of_all (m ∷ ms) = gates_of m ++ gates_of_all ms

unfoldable pub run_moves : List Bool → List PlacedMove → List (List Bool × Amp) → List (List Bool × Amp)
run_moves outcome [] ts = ts
run_moves outcome (m ∷ ms) ts = run_moves outcome ms (apply (effect_of outcome m) ts)

-- a phase is of one to seven eighths
abbrev pub EighthsFit : PlacedMove → Type 0
EighthsFit (Unitary m) = PhaseFits m
EighthsFit (Measured q bit) = Unit {0}
EighthsFit (Cleared q bit) = Unit {0}
EighthsFit Released = Unit {0}

-- a move is on different qubits below n and on bits below k; it measures into none of the bits, and clears by one of them
abbrev pub MoveFits : ℕ → ℕ → List ℕ → PlacedMove → Type 0
MoveFits n k bits (Unitary m) = AllDiffer (move_qubits m) × AllBelow n (move_qubits m) × PhaseFits m
MoveFits n k bits (Measured q b) = (q < n) × (b < k) × (¬ Contains bits b)
MoveFits n k bits (Cleared q b) = (q < n) × Contains bits b
MoveFits n k bits Released = Unit {0}

-- the measured bits after a move
abbrev pub measured_after : List ℕ → PlacedMove → List ℕ
measured_after bits (Unitary m) = bits
measured_after bits (Measured q b) = b ∷ bits
measured_after bits (Cleared q b) = bits
measured_after bits Released = bits

-- each move fits after those before it, where these bits were measured before them all
abbrev pub Sound : ℕ → ℕ → List ℕ → List PlacedMove → Type 0
Sound n k bits [] = Unit {0}
Sound n k bits (m ∷ ms) = MoveFits n k bits m × Sound n k (measured_after bits m) ms
