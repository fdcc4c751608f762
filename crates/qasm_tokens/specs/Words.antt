-- The tokens of OpenQASM texts, and their kinds.
use Rattle.std.specs.Prelude.{ℕ, Bool, not, nat_le, nat_lt, ◌&&◌, ◌||◌, ◌==◌, nat_eq, ◌^◌, List, [], ◌∷◌, ◌++◌, if◌then◌else◌, option_map, unwrap_or, find, codes, bytes_eq}
use Rattle.std.specs.List.{starts_with, list_any}
use Rattle.silq_lex.specs.Runs.{run}
use Rattle.silq_lex.specs.Characters.{is_digit}
use Rattle.silq_lex.specs.Kinds.{number_of}
use Rattle.gate_core.specs.declared.gate.OneKind.TheVariants as one
use Rattle.qasm_tokens.specs.declared.kind.Kind.{Kind}
use Rattle.qasm_tokens.specs.declared.kind.Kind.TheVariants as k

abbrev pub is_lower : ℕ → Bool
is_lower c = nat_le 97 c && nat_le c 122

abbrev pub is_letter : ℕ → Bool
is_letter c = is_lower c || (nat_le 65 c && nat_le c 90)

-- what a word goes on with behind its first letter
abbrev pub goes_on : ℕ → Bool
goes_on c = is_letter c || is_digit c || c == 95

-- the words of the grammar, those that are refused by name, and those of gates
abbrev pub words : List (List ℕ × Kind)
words =
    (codes "OPENQASM", k.OpenQasm) ∷ (codes "include", k.Include) ∷ (codes "qreg", k.Qreg) ∷ (codes "creg", k.Creg)
    ∷ (codes "measure", k.Measure) ∷ (codes "if", k.If) ∷ (codes "barrier", k.Barrier)
    ∷ (codes "gate", k.Definition) ∷ (codes "opaque", k.Definition) ∷ (codes "reset", k.Reset)
    ∷ (codes "id", k.One one.Id) ∷ (codes "x", k.One one.X) ∷ (codes "y", k.One one.Y) ∷ (codes "z", k.One one.Z)
    ∷ (codes "h", k.One one.H) ∷ (codes "s", k.One one.S) ∷ (codes "sdg", k.One one.Sdg) ∷ (codes "t", k.One one.T)
    ∷ (codes "tdg", k.One one.Tdg) ∷ (codes "cx", k.Cx) ∷ (codes "cz", k.Cz) ∷ (codes "ccx", k.Ccx) ∷ []

abbrev pub signs : List (List ℕ × Kind)
signs =
    (codes "->", k.Arrow) ∷ (codes "==", k.Equal) ∷ (codes ";", k.Semicolon) ∷ (codes ",", k.Comma) ∷ (codes "(", k.LeftParen)
    ∷ (codes ")", k.RightParen) ∷ (codes "[", k.LeftBracket) ∷ (codes "]", k.RightBracket) ∷ []

-- the kind of a word, with its first letter
abbrev pub word_kind : ℕ → List ℕ → Kind
word_kind c text =
    unwrap_or (option_map (λ w. w.1) (find (λ w. bytes_eq w.0 text) words)) (if is_lower c then k.Lower else k.Upper)

abbrev pub number_kind : List ℕ → Kind
number_kind text = if nat_lt (number_of text) (2 ^ 32) then k.Number else k.TooGreat

abbrev pub file_kind : List ℕ → Kind
file_kind text = if bytes_eq text (codes "\"qelib1.inc\"") then k.Library else k.OtherFile

-- a token: its kind and its characters
pub record Piece : Type 0 where
  pub kind : Kind
  pub text : List ℕ

abbrev pub piece : Kind → List ℕ → Piece
piece kind text = record { kind = kind; text = text }

-- a name in quotes, which may hold anything but a quote; without the closing quote the first is a stray
abbrev pub file_at : ℕ → List ℕ → Piece
file_at c cs =
    (λ (name : List ℕ). if list_any (λ d. d == 34) cs then piece (file_kind (c ∷ (name ++ (34 ∷ [])))) (c ∷ (name ++ (34 ∷ []))) else piece k.Stray (c ∷ []))
    (run (λ d. not (d == 34)) cs)

abbrev pub sign_at : ℕ → List ℕ → Piece
sign_at c cs = unwrap_or (option_map (λ s. piece s.1 s.0) (find (λ s. starts_with nat_eq (c ∷ cs) s.0) signs)) (piece k.Stray (c ∷ []))

-- a number is 0, or digits without a leading zero
abbrev pub digits_at : ℕ → List ℕ → List ℕ
digits_at c cs = if c == 48 then c ∷ [] else c ∷ run is_digit cs

-- the token that begins with the character c, with the characters cs behind it: the longest one
abbrev pub piece_at : ℕ → List ℕ → Piece
piece_at c cs =
    if is_letter c then piece (word_kind c (c ∷ run goes_on cs)) (c ∷ run goes_on cs)
    else if starts_with nat_eq (c ∷ cs) (codes "2.0") then piece k.Version (codes "2.0")
    else if is_digit c then piece (number_kind (digits_at c cs)) (digits_at c cs)
    else if c == 34 then file_at c cs
    else sign_at c cs
