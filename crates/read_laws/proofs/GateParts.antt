-- The lines of statements, in parts.
use Rattle.std.proofs.Common.{◌≡◌, ℕ, ◌<◌, ◌^◌, true, false, List, [], ◌∷◌, ◌++◌, Some, refl, append_assoc}
use Rattle.std.specs.Prelude.{codes}
use Rattle.gate_core.specs.declared.gate.OneKind.{OneKind}
use Rattle.gate_core.specs.declared.gate.OneKind.TheVariants as o
use Rattle.gate_core.specs.declared.gate.PlainGate.{PlainGate}
use Rattle.gate_core.specs.declared.gate.PlainGate.TheVariants.{One as PlainOne, Cx as PlainCx, Cz as PlainCz, Ccx as PlainCcx}
use Rattle.gate_core.specs.declared.gate.Gate.TheVariants.{Measure, If}
use Rattle.gate_core.specs.Local.{AllBelow, gate_qubits}
use Rattle.grammar_core.specs.Table.{expected}
use Rattle.qasm_tokens.specs.declared.kind.Kind.TheVariants as k
use Rattle.qasm_tokens.specs.Words.{piece}
use Rattle.qasm_tokens.specs.Table.{table, same_kind}
use Rattle.qasm_write.specs.Written.{kind_text, plain_line, gate_line}
use Rattle.read_laws.proofs.Parts.{Part, space, word, text_of_parts, kinds_of, Stands, StandInTurn, Ends, number, number_stands, bit_part, bit_stands, closed}
use Rattle.read_laws.proofs.Lines.{items, closes}

abbrev pub left : Part
left = word (piece k.LeftBracket (91 ∷ []))

abbrev pub right : Part
right = word (piece k.RightBracket (93 ∷ []))

abbrev pub comma : Part
comma = word (piece k.Comma (44 ∷ []))

abbrev pub semicolon : Part
semicolon = word (piece k.Semicolon (59 ∷ []))

abbrev pub qubit_word : Part
qubit_word = word (piece k.Lower (113 ∷ []))

-- `q[2]`
abbrev pub qubit_parts : ℕ → List Part → List Part
qubit_parts i more = qubit_word ∷ left ∷ number i ∷ right ∷ more

abbrev pub plain_parts : PlainGate → List Part
plain_parts (PlainOne kind q) = word (piece (k.One kind) (kind_text kind)) ∷ space ∷ qubit_parts q (semicolon ∷ [])
plain_parts (PlainCx c t) = word (piece k.Cx (codes "cx")) ∷ space ∷ qubit_parts c (comma ∷ qubit_parts t (semicolon ∷ []))
plain_parts (PlainCz c t) = word (piece k.Cz (codes "cz")) ∷ space ∷ qubit_parts c (comma ∷ qubit_parts t (semicolon ∷ []))
plain_parts (PlainCcx a b t) =
    word (piece k.Ccx (codes "ccx")) ∷ space ∷ qubit_parts a (comma ∷ qubit_parts b (comma ∷ qubit_parts t (semicolon ∷ [])))

-- `m3[0];`
abbrev pub outcome_parts : ℕ → List Part
outcome_parts bit = bit_part bit ∷ left ∷ word (piece k.Number (48 ∷ [])) ∷ right ∷ semicolon ∷ []

abbrev pub measure_parts : ℕ → ℕ → List Part
measure_parts q bit =
    word (piece k.Measure (codes "measure")) ∷ space ∷ qubit_parts q (space ∷ word (piece k.Arrow (codes "->")) ∷ space ∷ outcome_parts bit)

abbrev pub if_parts : ℕ → ℕ → PlainGate → List Part
if_parts bit value gate =
    word (piece k.If (codes "if")) ∷ space ∷ word (piece k.LeftParen (40 ∷ [])) ∷ bit_part bit ∷ word (piece k.Equal (codes "==")) ∷ number value
    ∷ word (piece k.RightParen (41 ∷ [])) ∷ space ∷ plain_parts gate

-- ---- they are the texts

pub plain_text : (g : PlainGate) → plain_line g ≡ text_of_parts (plain_parts g) ++ 10 ∷ []
plain_text (PlainOne kind q) = simp append_assoc
plain_text (PlainCx c t) = simp append_assoc
plain_text (PlainCz c t) = simp append_assoc
plain_text (PlainCcx a b t) = simp append_assoc

pub measure_text : (q bit : ℕ) → gate_line (Measure q bit) ≡ text_of_parts (measure_parts q bit) ++ 10 ∷ []
measure_text q bit = simp append_assoc

pub if_text : (bit value : ℕ) (g : PlainGate) → gate_line (If bit value g) ≡ text_of_parts (if_parts bit value g) ++ 10 ∷ []
if_text bit value g = rw (plain_text g) (simp append_assoc)

-- ---- they stand in turn

pub bracket_ends : Ends 93
bracket_ends = record { no_digit = refl; no_dot = refl }

pub paren_ends : Ends 41
paren_ends = record { no_digit = refl; no_dot = refl }

pub qubit_stands : (i : ℕ) (more : List Part) (behind : List ℕ) → i < 2 ^ 32 → StandInTurn more behind → StandInTurn (qubit_parts i more) behind
qubit_stands i more behind h m = (
  closed qubit_word 113 [] _ refl refl refl,
  (
    closed left 91 [] _ refl refl refl,
    (number_stands i 93 (text_of_parts more ++ behind) bracket_ends h, (closed right 93 [] _ refl refl refl, m)),
  ),
)

end_stands : (behind : List ℕ) → StandInTurn (semicolon ∷ []) behind
end_stands behind = (closed semicolon 59 [] _ refl refl refl, tt)

comma_here : (behind : List ℕ) → Stands comma behind
comma_here behind = closed comma 44 [] behind refl refl refl

space_here : (behind : List ℕ) → Stands space behind
space_here behind = closed space 32 [] behind refl refl refl

kind_stands : (kind : OneKind) (rest : List ℕ) → Stands (word (piece (k.One kind) (kind_text kind))) (32 ∷ rest)
kind_stands o.Id rest = record { first = 105; rest = 100 ∷ []; text = refl; front = refl; ascii = refl }
kind_stands o.X rest = record { first = 120; rest = []; text = refl; front = refl; ascii = refl }
kind_stands o.Y rest = record { first = 121; rest = []; text = refl; front = refl; ascii = refl }
kind_stands o.Z rest = record { first = 122; rest = []; text = refl; front = refl; ascii = refl }
kind_stands o.H rest = record { first = 104; rest = []; text = refl; front = refl; ascii = refl }
kind_stands o.S rest = record { first = 115; rest = []; text = refl; front = refl; ascii = refl }
kind_stands o.Sdg rest = record { first = 115; rest = 100 ∷ 103 ∷ []; text = refl; front = refl; ascii = refl }
kind_stands o.T rest = record { first = 116; rest = []; text = refl; front = refl; ascii = refl }
kind_stands o.Tdg rest = record { first = 116; rest = 100 ∷ 103 ∷ []; text = refl; front = refl; ascii = refl }

pub plain_stands : (g : PlainGate) (behind : List ℕ) → AllBelow (2 ^ 32) (gate_qubits g) → StandInTurn (plain_parts g) behind
plain_stands (PlainOne kind q) behind h = (kind_stands kind _, (space_here _, qubit_stands q (semicolon ∷ []) behind h.0 (end_stands behind)))
plain_stands (PlainCx c t) behind h = (
  closed (word (piece k.Cx (codes "cx"))) 99 (120 ∷ []) _ refl refl refl,
  (
    space_here _,
    qubit_stands c (comma ∷ qubit_parts t (semicolon ∷ [])) behind h.0 (comma_here _, qubit_stands t (semicolon ∷ []) behind h.1.0 (end_stands behind)),
  ),
)
plain_stands (PlainCz c t) behind h = (
  closed (word (piece k.Cz (codes "cz"))) 99 (122 ∷ []) _ refl refl refl,
  (
    space_here _,
    qubit_stands c (comma ∷ qubit_parts t (semicolon ∷ [])) behind h.0 (comma_here _, qubit_stands t (semicolon ∷ []) behind h.1.0 (end_stands behind)),
  ),
)
plain_stands (PlainCcx a b t) behind h = (
  closed (word (piece k.Ccx (codes "ccx"))) 99 (99 ∷ 120 ∷ []) _ refl refl refl,
  (
    space_here _,
    qubit_stands a (comma ∷ qubit_parts b (comma ∷ qubit_parts t (semicolon ∷ []))) behind h.0 (
      comma_here _,
      qubit_stands b (comma ∷ qubit_parts t (semicolon ∷ [])) behind h.1.0 (
        comma_here _,
        qubit_stands t (semicolon ∷ []) behind h.1.1.0 (end_stands behind),
      ),
    ),
  ),
)

outcome_stands : (bit : ℕ) (behind : List ℕ) → bit < 2 ^ 64 → StandInTurn (outcome_parts bit) behind
outcome_stands bit behind h = (
  bit_stands bit 91 _ refl h,
  (
    closed left 91 [] _ refl refl refl,
    (
      closed (word (piece k.Number (48 ∷ []))) 48 [] _ refl refl refl,
      (closed right 93 [] _ refl refl refl, end_stands behind),
    ),
  ),
)

pub measure_stands : (q bit : ℕ) (behind : List ℕ) → q < 2 ^ 32 → bit < 2 ^ 64 → StandInTurn (measure_parts q bit) behind
measure_stands q bit behind h b = (
  closed (word (piece k.Measure (codes "measure"))) 109 (101 ∷ 97 ∷ 115 ∷ 117 ∷ 114 ∷ 101 ∷ []) _ refl refl refl,
  (
    space_here _,
    qubit_stands q (space ∷ word (piece k.Arrow (codes "->")) ∷ space ∷ outcome_parts bit) behind h (
      space_here _,
      (closed (word (piece k.Arrow (codes "->"))) 45 (62 ∷ []) _ refl refl refl, (space_here _, outcome_stands bit behind b)),
    ),
  ),
)

pub if_stands : (bit value : ℕ) (g : PlainGate) (behind : List ℕ) → bit < 2 ^ 64 → value < 2 ^ 32 → AllBelow (2 ^ 32) (gate_qubits g)
    → StandInTurn (if_parts bit value g) behind
if_stands bit value g behind b v h = (
  closed (word (piece k.If (codes "if"))) 105 (102 ∷ []) _ refl refl refl,
  (
    space_here _,
    (
      closed (word (piece k.LeftParen (40 ∷ []))) 40 [] _ refl refl refl,
      (
        bit_stands bit 61 _ refl b,
        (
          closed (word (piece k.Equal (codes "=="))) 61 (61 ∷ []) _ refl refl refl,
          (
            number_stands value 41 _ paren_ends v,
            (closed (word (piece k.RightParen (41 ∷ []))) 41 [] _ refl refl refl, (space_here _, plain_stands g behind h)),
          ),
        ),
      ),
    ),
  ),
)

-- ---- the grammar takes them

pub plain_grammar : (g : PlainGate) → expected table items (kinds_of (plain_parts g)) ≡ Some items
plain_grammar (PlainOne kind q) = refl
plain_grammar (PlainCx c t) = refl
plain_grammar (PlainCz c t) = refl
plain_grammar (PlainCcx a b t) = refl

pub measure_grammar : (q bit : ℕ) → expected table items (kinds_of (measure_parts q bit)) ≡ Some items
measure_grammar q bit = refl

pub if_grammar : (bit value : ℕ) (g : PlainGate) → expected table items (kinds_of (if_parts bit value g)) ≡ Some items
if_grammar bit value (PlainOne kind q) = refl
if_grammar bit value (PlainCx c t) = refl
if_grammar bit value (PlainCz c t) = refl
if_grammar bit value (PlainCcx a b t) = refl

no_end : (kind : OneKind) → same_kind k.Semicolon (k.One kind) ≡ false
no_end o.Id = refl
no_end o.X = refl
no_end o.Y = refl
no_end o.Z = refl
no_end o.H = refl
no_end o.S = refl
no_end o.Sdg = refl
no_end o.T = refl
no_end o.Tdg = refl

pub plain_whole : (g : PlainGate) → closes (kinds_of (plain_parts g)) ≡ true
plain_whole (PlainOne kind q) = rw (no_end kind) refl
plain_whole (PlainCx c t) = refl
plain_whole (PlainCz c t) = refl
plain_whole (PlainCcx a b t) = refl

pub if_whole : (bit value : ℕ) (g : PlainGate) → closes (kinds_of (if_parts bit value g)) ≡ true
if_whole bit value g = plain_whole g
