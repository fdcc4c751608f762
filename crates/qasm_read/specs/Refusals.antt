-- What is refused in an item, with the place of each refusal.
use Rattle.std.specs.Prelude.{ℕ, ◌+◌, ◌==◌, nat_lt, not, Bool, true, false, ◌&&◌, ◌||◌, if◌then◌else◌, List, [], ◌∷◌, ◌++◌, Option, Some, None, slice_get, drop, length, is_none}
use Rattle.std.specs.List.{list_any}
use Rattle.silq_lex.specs.Kinds.{number_of}
use Rattle.silq_lex.specs.declared.token.Place.{Place}
use Rattle.silq_io.specs.declared.fault.What.{What}
use Rattle.silq_io.specs.declared.fault.What.TheVariants as what
use Rattle.silq_io.specs.declared.fault.SyntaxCause.{SyntaxCause}
use Rattle.silq_io.specs.declared.fault.SyntaxCause.TheVariants as cause
use Rattle.silq_io.specs.declared.limit.LimitKind.{LimitKind}
use Rattle.silq_io.specs.declared.limit.LimitKind.TheVariants as limits
use Rattle.gate_core.specs.Circuit.{measured_bits}
use Rattle.qasm_read.specs.declared.fault.QasmFault.{QasmFault}
use Rattle.qasm_read.specs.declared.fault.QasmFault.TheVariants.{Memory, Syntax, Unsupported, Bad, Limit}
use Rattle.qasm_tokens.specs.declared.kind.Kind.{Kind}
use Rattle.qasm_tokens.specs.declared.kind.Kind.TheVariants as k
use Rattle.qasm_tokens.specs.Tokens.{Token}
use Rattle.qasm_tokens.specs.Table.{same_kind, is_name}
use Rattle.qasm_read.specs.declared.refusal.Refusal.{Refusal}
use Rattle.qasm_read.specs.declared.registers.Bits.{Bits}
use Rattle.qasm_read.specs.declared.operand.Index.{Index}
use Rattle.qasm_read.specs.declared.operand.Index.TheVariants.{Bare, Open, At}
use Rattle.qasm_read.specs.Registers.{Register, has, width, bits_of, bit_of}
use Rattle.qasm_read.specs.State.{State}

abbrev pub syntax : Place → Refusal
syntax at = record { at = at; fault = Syntax at.line at.col }

abbrev pub unsupported : Place → What → Refusal
unsupported at w = record { at = at; fault = Unsupported at.line at.col w }

abbrev pub bad : Place → SyntaxCause → Refusal
bad at c = record { at = at; fault = Bad at.line at.col c }

-- the count is the limit plus one
abbrev pub above : Place → LimitKind → ℕ → Refusal
above at which most = record { at = at; fault = Limit (record { which = which; count = most + 1 }) }

abbrev pub where_ : Bool → Refusal → List Refusal
where_ b r = if b then r ∷ [] else []

-- ---- operands

pub record Operand : Type 0 where
  pub name : Token
  pub index : Index

abbrev pub number_in : List Token → Index
number_in [] = Open
number_in (t ∷ ts) = if same_kind k.Number t.kind then At t.at (number_of t.text) else Open

abbrev pub index_after : List Token → Index
index_after [] = Bare
index_after (t ∷ ts) = if same_kind k.LeftBracket t.kind then number_in ts else Bare

-- the operands in tokens: each name with its index
abbrev pub operands : List Token → List Operand
operands [] = []
operands (t ∷ ts) = if is_name t.kind then record { name = t; index = index_after ts } ∷ operands ts else operands ts

-- the bit that an operand names
abbrev pub bit_at : List Register → List ℕ → Index → Option ℕ
bit_at registers name Bare = None
bit_at registers name Open = None
bit_at registers name (At at i) = bit_of registers name i

abbrev pub bit_named : List Register → Operand → Option ℕ
bit_named registers o = bit_at registers o.name.text o.index

abbrev pub is_bare : Index → Bool
is_bare Bare = true
is_bare Open = false
is_bare (At at i) = false

abbrev pub has_index : Index → Bool
has_index Bare = false
has_index Open = false
has_index (At at i) = true

-- no register of the kind has the name; or its bits are fewer than the index asks
abbrev pub name_refusals : List Register → Operand → List Refusal
name_refusals registers o =
    where_ (not (has registers o.name.text)) (bad o.name.at cause.Undeclared)
    ++ where_ (has registers o.name.text && has_index o.index && is_none (bit_named registers o)) (bad o.name.at cause.Index)

-- an operand of a gate or of a measure has an index
abbrev pub operand_refusals : List Register → Operand → List Refusal
operand_refusals registers o = where_ (is_bare o.index) (unsupported o.name.at what.Register) ++ name_refusals registers o

abbrev pub is_among : List (Option ℕ) → Option ℕ → Bool
is_among seen None = false
is_among seen (Some q) = list_any (λ p. is_same p q) seen
  where
    is_same : Option ℕ → ℕ → Bool
    is_same None q = false
    is_same (Some p) q = p == q

-- the operands of a gate, behind those that name the qubits seen: none of these stands twice
abbrev pub qubit_refusals : List Register → List (Option ℕ) → List Operand → List Refusal
qubit_refusals registers seen [] = []
qubit_refusals registers seen (o ∷ os) =
    operand_refusals registers o
    ++ (where_ (is_among seen (bit_named registers o)) (bad o.name.at cause.Repeated)
    ++ qubit_refusals registers (bit_named registers o ∷ seen) os)

-- ---- items; `whole` says that no Syntax stands in the item

-- each gate, measure and `if` statement counts as one
abbrev pub count_refusals : State → Bool → Token → List Refusal
count_refusals s whole first = where_ (whole && not (nat_lt (length s.gates) 6000000)) (above first.at limits.Gates 6000000)

-- a gate by its name: it stands behind the include
abbrev pub gate_refusals : State → Token → List Token → List Refusal
gate_refusals s name ts = where_ (not s.included) (bad name.at cause.Undeclared) ++ qubit_refusals s.qubits [] (operands ts)

abbrev pub all_some : List ℕ → List (Option ℕ)
all_some [] = []
all_some (b ∷ bs) = Some b ∷ all_some bs

abbrev pub measured : State → List (Option ℕ)
measured s = all_some (measured_bits s.gates)

-- the first operand of a measure is a qubit and the second a bit that was not measured before
abbrev pub measure_refusals : State → Token → List Operand → List Refusal
measure_refusals s first [] = []
measure_refusals s first (q ∷ []) = operand_refusals s.qubits q
measure_refusals s first (q ∷ c ∷ os) =
    operand_refusals s.qubits q ++ (operand_refusals s.bits c
    ++ where_ (is_among (measured s) (bit_named s.bits c)) (unsupported first.at what.Remeasure))

abbrev pub barrier_refusals : State → List Operand → List Refusal
barrier_refusals s [] = []
barrier_refusals s (o ∷ os) = name_refusals s.qubits o ++ barrier_refusals s os

abbrev pub size_refusals : List Register → Bool → Token → LimitKind → ℕ → Index → List Refusal
size_refusals registers whole first which most Bare = []
size_refusals registers whole first which most Open = []
size_refusals registers whole first which most (At at n) =
    where_ (n == 0) (bad at cause.Index) ++ where_ (whole && nat_lt most (width registers + n)) (above first.at which most)

-- a declaration adds to these registers, with at most so many bits in all
abbrev pub declaration_refusals : State → List Register → Bool → Token → LimitKind → ℕ → List Operand → List Refusal
declaration_refusals s registers whole first which most [] = []
declaration_refusals s registers whole first which most (o ∷ os) =
    where_ (has s.qubits o.name.text || has s.bits o.name.text) (bad o.name.at cause.Repeated)
    ++ size_refusals registers whole first which most o.index

abbrev pub wide_refusals : Token → Token → Option Bits → List Refusal
wide_refusals first name None = bad name.at cause.Undeclared ∷ []
wide_refusals first name (Some b) = where_ (not (b.size == 1)) (unsupported first.at what.WideIf)

-- the register of an `if`
abbrev pub condition_refusals : State → Token → Option Token → List Refusal
condition_refusals s first None = []
condition_refusals s first (Some name) = wide_refusals first name (bits_of s.bits name.text)

-- what an `if` holds, by the kind of its first token
abbrev pub held_by : State → Token → Token → List Token → Kind → List Refusal
held_by s first t ts k.Measure = unsupported first.at what.If ∷ []
held_by s first t ts k.Reset = unsupported first.at what.If ∷ []
held_by s first t ts k.Barrier = unsupported first.at what.If ∷ []
held_by s first t ts k.Lower = unsupported first.at what.Gate ∷ []
held_by s first t ts k.Upper = unsupported first.at what.Gate ∷ []
held_by s first t ts (k.One one) = gate_refusals s t ts
held_by s first t ts k.Cx = gate_refusals s t ts
held_by s first t ts k.Cz = gate_refusals s t ts
held_by s first t ts k.Ccx = gate_refusals s t ts
held_by s first t ts _ = []

abbrev pub held_refusals : State → Token → List Token → List Refusal
held_refusals s first [] = []
held_refusals s first (t ∷ ts) = held_by s first t ts t.kind

-- behind an `if` stand `(`, a name, `==`, a number, `)` and what it holds
abbrev pub if_refusals : State → Token → List Token → List Refusal
if_refusals s first ts = condition_refusals s first (slice_get ts 1) ++ held_refusals s first (drop 5 ts)

abbrev pub include_refusals : Token → List Token → List Refusal
include_refusals first [] = []
include_refusals first (t ∷ ts) = where_ (same_kind k.OtherFile t.kind) (unsupported first.at what.Include)

-- the refusals of an item, by the kind of its first token
abbrev pub refusals_by : State → Bool → Token → List Token → Kind → List Refusal
refusals_by s whole first ts k.Include = include_refusals first ts
refusals_by s whole first ts k.Qreg = declaration_refusals s s.qubits whole first limits.Qubits 100000 (operands ts)
refusals_by s whole first ts k.Creg = declaration_refusals s s.bits whole first limits.Outcomes 4096 (operands ts)
refusals_by s whole first ts k.Measure = measure_refusals s first (operands ts) ++ count_refusals s whole first
refusals_by s whole first ts k.If = if_refusals s first ts ++ count_refusals s whole first
refusals_by s whole first ts k.Barrier = barrier_refusals s (operands ts)
refusals_by s whole first ts k.Definition = unsupported first.at what.Definition ∷ []
refusals_by s whole first ts k.Reset = unsupported first.at what.Reset ∷ []
refusals_by s whole first ts k.Lower = unsupported first.at what.Gate ∷ []
refusals_by s whole first ts k.Upper = unsupported first.at what.Gate ∷ []
refusals_by s whole first ts (k.One one) = gate_refusals s first ts ++ count_refusals s whole first
refusals_by s whole first ts k.Cx = gate_refusals s first ts ++ count_refusals s whole first
refusals_by s whole first ts k.Cz = gate_refusals s first ts ++ count_refusals s whole first
refusals_by s whole first ts k.Ccx = gate_refusals s first ts ++ count_refusals s whole first
refusals_by s whole first ts _ = []

abbrev pub refusals_of : State → Bool → List Token → List Refusal
refusals_of s whole [] = []
refusals_of s whole (first ∷ ts) = refusals_by s whole first ts first.kind

-- ---- the first refusal

-- two of Unsupported at one token go by this order
abbrev pub row : What → ℕ
row what.Gate = 0
row what.Definition = 1
row what.Reset = 2
row what.Include = 3
row what.If = 4
row what.Register = 5
row what.WideIf = 6
row what.Remeasure = 7
row _ = 8

-- at one token Syntax comes first, then Unsupported, then Bad, then Limit
abbrev pub rank : QasmFault → ℕ
rank Memory = 0
rank (Syntax line col) = 0
rank (Unsupported line col w) = 1 + row w
rank (Bad line col c) = 10
rank (Limit over) = 11

abbrev pub is_before : Refusal → Refusal → Bool
is_before a b = nat_lt a.at.start b.at.start || (a.at.start == b.at.start && nat_lt (rank a.fault) (rank b.fault))

abbrev pub first_of : Refusal → List Refusal → Refusal
first_of r [] = r
first_of r (q ∷ qs) = first_of (if is_before q r then q else r) qs

abbrev pub first_refusal : List Refusal → Option Refusal
first_refusal [] = None
first_refusal (r ∷ rs) = Some (first_of r rs)
