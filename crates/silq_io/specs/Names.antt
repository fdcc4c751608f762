-- The words by which faults, limits and unsupported items are printed.
use Rattle.std.specs.Prelude.{ℕ, List, codes}
use Rattle.silq_io.specs.declared.fault.SyntaxCause.{SyntaxCause}
use Rattle.silq_io.specs.declared.fault.SyntaxCause.TheVariants.{Utf8, Character, Number, Comment, Form, Deep, Long, Undeclared, Index, Repeated}
use Rattle.silq_io.specs.declared.fault.What.{What}
use Rattle.silq_io.specs.declared.fault.What.TheVariants.{RotX, RotY, RotZ, Angle, Gate, Definition, Reset, Register, WideIf, If, Include, Remeasure}
use Rattle.silq_io.specs.declared.limit.LimitKind.{LimitKind}
use Rattle.silq_io.specs.declared.limit.LimitKind.TheVariants.{Walked, Instances, Depth, Inlined, Steps, Wires, Outcomes, Terms, HGates, Qubits, Gates, Text}

-- the cause of a fault of syntax
abbrev pub cause_name : SyntaxCause → List ℕ
cause_name Utf8 = codes "utf8"
cause_name Character = codes "character"
cause_name Number = codes "number"
cause_name Comment = codes "comment"
cause_name Form = codes "form"
cause_name Deep = codes "deep"
cause_name Long = codes "long"
cause_name Undeclared = codes "undeclared"
cause_name Index = codes "index"
cause_name Repeated = codes "repeated"

-- what is not supported
abbrev pub what_name : What → List ℕ
what_name RotX = codes "rotX"
what_name RotY = codes "rotY"
what_name RotZ = codes "rotZ"
what_name Angle = codes "angle"
what_name Gate = codes "gate"
what_name Definition = codes "definition"
what_name Reset = codes "reset"
what_name Register = codes "register"
what_name WideIf = codes "wide if"
what_name If = codes "if"
what_name Include = codes "include"
what_name Remeasure = codes "remeasure"

-- what is counted
abbrev pub limit_name : LimitKind → List ℕ
limit_name Walked = codes "walked"
limit_name Instances = codes "instances"
limit_name Depth = codes "depth"
limit_name Inlined = codes "inlined"
limit_name Steps = codes "steps"
limit_name Wires = codes "wires"
limit_name Outcomes = codes "outcomes"
limit_name Terms = codes "terms"
limit_name HGates = codes "hgates"
limit_name Qubits = codes "qubits"
limit_name Gates = codes "gates"
limit_name Text = codes "text"
