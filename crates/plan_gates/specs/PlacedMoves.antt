-- The move on qubits that a placed move is.
use Rattle.std.specs.Prelude.{ℕ, Option, Some, None, IsSome, IfSome, MatchOption}
use Rattle.flat_core.specs.declared.step.Step.{Step}
use Rattle.flat_core.specs.declared.step.Step.TheVariants.{X, H, P, M}
use Rattle.flat_core.specs.declared.step.End.{End}
use Rattle.flat_core.specs.declared.step.End.TheVariants.{Output, Dropped, Measured as MeasuredWire, Zeroed}
use Rattle.flat_core.specs.declared.step.Lit.{Lit}
use Rattle.flat_core.specs.Sound.{HasEighths}
use Rattle.qubit_alloc.specs.declared.placed.Placed.{Placed}
use Rattle.qubit_alloc.specs.Spread.{qubit_or}
use Rattle.gate_emit.specs.declared.placed.Control.{Control}
use Rattle.gate_emit.specs.declared.placed.QubitMove.{QubitMove}
use Rattle.gate_emit.specs.declared.placed.QubitMove.TheVariants.{Flip, FlipBy, FlipByTwo, Hadamard, HadamardBy, PhaseBy}
use Rattle.gate_emit.specs.declared.placed.PlacedMove.{PlacedMove}
use Rattle.gate_emit.specs.declared.placed.PlacedMove.TheVariants.{Unitary, Measured, Cleared, Released}

-- the number of the qubit that is told of a wire, 0 where there is none
abbrev pub qubit : Option ℕ → ℕ
qubit q = (qubit_or q).number

-- a control on its qubit, with the sign of its literal
abbrev pub control_at : Option ℕ → Lit → Control
control_at q l = record { qubit = qubit q; positive = l.positive }

-- a flip under the controls that there are
abbrev pub flip_of : Placed → Option Lit → Option Lit → QubitMove
flip_of pl None None = Flip (qubit pl.target)
flip_of pl (Some a) None = FlipBy (control_at pl.first a) (qubit pl.target)
flip_of pl None (Some b) = FlipBy (control_at pl.second b) (qubit pl.target)
flip_of pl (Some a) (Some b) = FlipByTwo (control_at pl.first a) (control_at pl.second b) (qubit pl.target)

abbrev pub hadamard_of : Placed → Option Lit → QubitMove
hadamard_of pl None = Hadamard (qubit pl.target)
hadamard_of pl (Some a) = HadamardBy (control_at pl.first a) (qubit pl.target)

-- a step on the qubits that are told of it
abbrev pub move_of_step : Placed → Step → PlacedMove
move_of_step pl (X w a b) = Unitary (flip_of pl a b)
move_of_step pl (H w a) = Unitary (hadamard_of pl a)
move_of_step pl (P eighths a) = Unitary (PhaseBy eighths (control_at pl.first a))
move_of_step pl (M w number) = Measured (qubit pl.target) number

-- the freeing of a wire: the qubit of a Measured one is cleared by the outcome bit, and that of a Zeroed one is 0 already
abbrev pub freed_move : End → Option ℕ → ℕ → PlacedMove
freed_move MeasuredWire (Some q) bit = Cleared q bit
freed_move MeasuredWire None bit = Released
freed_move Output q bit = Released
freed_move Dropped q bit = Released
freed_move Zeroed q bit = Released

abbrev pub move_of_either : Placed → Option Step → PlacedMove
move_of_either pl (Some s) = move_of_step pl s
move_of_either pl None = freed_move pl.end pl.target pl.bit

-- a placed move as a move on qubits: its step, or where it has none the freeing of a wire
abbrev pub move_of_placed : Placed → PlacedMove
move_of_placed pl = move_of_either pl pl.step

-- a qubit is told of each wire that a step names
abbrev pub HasQubits : Placed → Step → Type 0
HasQubits pl (X w a b) = IsSome pl.target × IfSome a (λ l. IsSome pl.first) × IfSome b (λ l. IsSome pl.second)
HasQubits pl (H w a) = IsSome pl.target × IfSome a (λ l. IsSome pl.first)
HasQubits pl (P eighths a) = IsSome pl.first
HasQubits pl (M w number) = IsSome pl.target

-- and of a Measured wire that is freed
abbrev pub HasFreedQubit : End → Option ℕ → Type 0
HasFreedQubit MeasuredWire q = IsSome q
HasFreedQubit Output q = Unit {0}
HasFreedQubit Dropped q = Unit {0}
HasFreedQubit Zeroed q = Unit {0}

-- what placing tells of each move that may come: the qubits of its wires, and 1 to 7 eighths in a P
abbrev pub CanBeEmitted : Placed → Type 0
CanBeEmitted pl = MatchOption pl.step (HasFreedQubit pl.end pl.target) (λ s. HasQubits pl s × HasEighths s)
