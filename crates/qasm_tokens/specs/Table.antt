-- The grammar as a table: what is expected behind each token.
use Rattle.std.specs.Prelude.{ℕ, nat_eq, Bool, true, false, cond, List, [], ◌∷◌, Option, Some, None}
use Rattle.gate_core.specs.declared.gate.OneKind.{OneKind}
use Rattle.gate_core.specs.declared.gate.OneKind.TheVariants as one
use Rattle.grammar_core.specs.Table.{Grammar}
use Rattle.qasm_tokens.specs.declared.kind.Kind.{Kind}
use Rattle.qasm_tokens.specs.declared.kind.Kind.TheVariants as k
use Rattle.qasm_tokens.specs.declared.symbol.Symbol.{Symbol}
use Rattle.qasm_tokens.specs.declared.symbol.Symbol.TheVariants.{Expect, AName, Items, AFile, IndexPart, UnderIf, MoreBarrier, Unread}

-- each kind has a number of its own
abbrev pub one_number : OneKind → ℕ
one_number one.Id = 28
one_number one.X = 29
one_number one.Y = 30
one_number one.Z = 31
one_number one.H = 32
one_number one.S = 33
one_number one.Sdg = 34
one_number one.T = 35
one_number one.Tdg = 36

abbrev pub kind_number : Kind → ℕ
kind_number k.OpenQasm = 0
kind_number k.Version = 1
kind_number k.Include = 2
kind_number k.Qreg = 3
kind_number k.Creg = 4
kind_number k.Measure = 5
kind_number k.If = 6
kind_number k.Barrier = 7
kind_number k.Definition = 8
kind_number k.Reset = 9
kind_number (k.One o) = one_number o
kind_number k.Cx = 11
kind_number k.Cz = 12
kind_number k.Ccx = 13
kind_number k.Lower = 14
kind_number k.Upper = 15
kind_number k.Number = 16
kind_number k.TooGreat = 17
kind_number k.Library = 18
kind_number k.OtherFile = 19
kind_number k.Semicolon = 20
kind_number k.Comma = 21
kind_number k.LeftParen = 22
kind_number k.RightParen = 23
kind_number k.LeftBracket = 24
kind_number k.RightBracket = 25
kind_number k.Arrow = 26
kind_number k.Equal = 27
kind_number k.Stray = 10

abbrev pub same_kind : Kind → Kind → Bool
same_kind a b = nat_eq (kind_number a) (kind_number b)

-- the kinds of words that start with a lower-case letter
abbrev pub is_name : Kind → Bool
is_name k.Include = true
is_name k.Qreg = true
is_name k.Creg = true
is_name k.Measure = true
is_name k.If = true
is_name k.Barrier = true
is_name k.Definition = true
is_name k.Reset = true
is_name (k.One o) = true
is_name k.Cx = true
is_name k.Cz = true
is_name k.Ccx = true
is_name k.Lower = true
is_name _ = false

-- NAME [ "[" NUMBER "]" ]
abbrev pub operand : List Symbol → List Symbol
operand more = AName ∷ IndexPart ∷ more

abbrev pub end_item : List Symbol
end_item = Expect k.Semicolon ∷ Items ∷ []

-- ( "qreg" | "creg" ) NAME "[" NUMBER "]" ";"
abbrev pub declaration : List Symbol
declaration = AName ∷ Expect k.LeftBracket ∷ Expect k.Number ∷ Expect k.RightBracket ∷ end_item

-- GATE operand { "," operand } ";", or another word in a gate's place
abbrev pub begin_gate : Kind → Option (List Symbol)
begin_gate (k.One o) = Some (operand end_item)
begin_gate k.Cx = Some (operand (Expect k.Comma ∷ operand end_item))
begin_gate k.Cz = Some (operand (Expect k.Comma ∷ operand end_item))
begin_gate k.Ccx = Some (operand (Expect k.Comma ∷ operand (Expect k.Comma ∷ operand end_item)))
begin_gate k.Lower = Some (Unread ∷ [])
begin_gate k.Upper = Some (Unread ∷ [])
begin_gate _ = None

-- text = "OPENQASM" "2.0" ";" { item }
abbrev pub a_text : List Symbol
a_text = Expect k.OpenQasm ∷ Expect k.Version ∷ end_item

abbrev pub begin : Symbol → Kind → Option (List Symbol)
begin (Expect s) t = cond (same_kind s t) (Some []) None
begin AName t = cond (is_name t) (Some []) None
begin Items k.Include = Some (AFile ∷ [])
begin Items k.Qreg = Some declaration
begin Items k.Creg = Some declaration
begin Items k.Measure = Some (operand (Expect k.Arrow ∷ operand end_item))
begin Items k.If = Some (Expect k.LeftParen ∷ AName ∷ Expect k.Equal ∷ Expect k.Number ∷ Expect k.RightParen ∷ UnderIf ∷ [])
begin Items k.Barrier = Some (operand (MoreBarrier ∷ end_item))
begin Items k.Definition = Some (Unread ∷ [])
begin Items k.Reset = Some (Unread ∷ [])
begin Items t = begin_gate t
begin AFile k.Library = Some end_item
begin AFile k.OtherFile = Some (Unread ∷ [])
begin AFile _ = None
begin IndexPart k.LeftBracket = Some (Expect k.Number ∷ Expect k.RightBracket ∷ [])
begin IndexPart _ = None
begin UnderIf k.Measure = Some (Unread ∷ [])
begin UnderIf k.Reset = Some (Unread ∷ [])
begin UnderIf k.Barrier = Some (Unread ∷ [])
begin UnderIf t = begin_gate t
begin MoreBarrier k.Comma = Some (operand (MoreBarrier ∷ []))
begin MoreBarrier _ = None
begin Unread t = Some (Unread ∷ [])

abbrev pub can_be_empty : Symbol → Bool
can_be_empty Items = true
can_be_empty IndexPart = true
can_be_empty MoreBarrier = true
can_be_empty Unread = true
can_be_empty _ = false

abbrev pub table : Grammar Symbol Kind
table = record { begin = begin; can_be_empty = can_be_empty }
