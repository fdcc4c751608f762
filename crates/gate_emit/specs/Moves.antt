-- What a unitary move does to the qubits, and the gates that do it.
use Rattle.std.specs.Prelude.{ℕ, ◌<◌, Bool, cond, ◌&&◌, List, [], ◌∷◌, ◌++◌, map, get_or}
use Rattle.sum_laws.specs.Terms.{Branch, same_bit}
use Rattle.gate_core.specs.declared.gate.OneKind.{OneKind}
use Rattle.gate_core.specs.declared.gate.OneKind.TheVariants.{X, Z, H, S, Sdg, T, Tdg}
use Rattle.gate_core.specs.declared.gate.PlainGate.{PlainGate}
use Rattle.gate_core.specs.declared.gate.PlainGate.TheVariants.{One as PlainOne, Cx as PlainCx, Ccx as PlainCcx}
use Rattle.gate_core.specs.declared.gate.Gate.{Gate}
use Rattle.gate_core.specs.declared.gate.Gate.TheVariants.{One}
use Rattle.gate_core.specs.Meaning.{bit_at, flipped, turned, turned_if, flipped_if, halved}
use Rattle.gate_emit.specs.declared.placed.Control.{Control}
use Rattle.gate_emit.specs.declared.placed.QubitMove.{QubitMove}
use Rattle.gate_emit.specs.declared.placed.QubitMove.TheVariants.{Flip, FlipBy, FlipByTwo, Hadamard, HadamardBy, PhaseBy}

-- whether a control holds
abbrev pub holds : Control → List Bool → Bool
holds c u = same_bit (bit_at u c.qubit) c.positive

-- the effect of a move on the bits of all qubits
abbrev pub move_branches : QubitMove → List Bool → List Branch
move_branches (Flip t) u = turned 0 (flipped u t)
move_branches (FlipBy c t) u = turned 0 (flipped_if (holds c u) u t)
move_branches (FlipByTwo c e t) u = turned 0 (flipped_if (holds c u && holds e u) u t)
move_branches (Hadamard t) u = halved u t
move_branches (HadamardBy c t) u = cond (holds c u) (halved u t) (turned 0 u)
move_branches (PhaseBy eighths c) u = turned_if (holds c u) eighths u

-- gates between two `x` on the control where it holds at 0
abbrev pub around : Control → List PlainGate → List PlainGate
around c gates = cond c.positive gates (PlainOne X c.qubit ∷ (gates ++ PlainOne X c.qubit ∷ []))

-- `x` on a control that holds at 0, as a statement
abbrev pub negation : Control → List Gate
negation c = cond c.positive [] (One X c.qubit ∷ [])

-- the gates of a phase of 1 to 7 eighths
abbrev pub phase_kinds : ℕ → List OneKind
phase_kinds eighths =
    get_or ([] ∷ (T ∷ []) ∷ (S ∷ []) ∷ (S ∷ T ∷ []) ∷ (Z ∷ []) ∷ (Z ∷ T ∷ []) ∷ (Sdg ∷ []) ∷ (Tdg ∷ []) ∷ []) eighths []

-- the gates of a move, in order
abbrev pub move_gates : QubitMove → List PlainGate
move_gates (Flip t) = PlainOne X t ∷ []
move_gates (FlipBy c t) = around c (PlainCx c.qubit t ∷ [])
move_gates (FlipByTwo c e t) = around c (around e (PlainCcx c.qubit e.qubit t ∷ []))
move_gates (Hadamard t) = PlainOne H t ∷ []
move_gates (HadamardBy c t) =
    around c (PlainOne S t ∷ PlainOne H t ∷ PlainOne T t ∷ PlainCx c.qubit t ∷ PlainOne Tdg t ∷ PlainOne H t ∷ PlainOne Sdg t ∷ [])
move_gates (PhaseBy eighths c) = around c (map (λ kind. PlainOne kind c.qubit) (phase_kinds eighths))

-- the qubits of a move
abbrev pub move_qubits : QubitMove → List ℕ
move_qubits (Flip t) = t ∷ []
move_qubits (FlipBy c t) = c.qubit ∷ t ∷ []
move_qubits (FlipByTwo c e t) = c.qubit ∷ e.qubit ∷ t ∷ []
move_qubits (Hadamard t) = t ∷ []
move_qubits (HadamardBy c t) = c.qubit ∷ t ∷ []
move_qubits (PhaseBy eighths c) = c.qubit ∷ []

-- a phase is of one to seven eighths
abbrev pub PhaseFits : QubitMove → Type 0
PhaseFits (Flip t) = Unit {0}
PhaseFits (FlipBy c t) = Unit {0}
PhaseFits (FlipByTwo c e t) = Unit {0}
PhaseFits (Hadamard t) = Unit {0}
PhaseFits (HadamardBy c t) = Unit {0}
PhaseFits (PhaseBy eighths c) = (0 < eighths) × (eighths < 8)
