-- The text of a printed program: its tokens, each with one blank behind it.
use Rattle.std.specs.Prelude.{ℕ, List, [], ◌∷◌, ◌++◌, pos, negsuc, codes, decimal, slice_index_or}
use Rattle.silq_tree.specs.Syntax.{Program}
use Rattle.silq_grammar.specs.declared.token.Token.{Token}
use Rattle.silq_grammar.specs.declared.token.Token.TheVariants.{Name, Number, Fixed}
use Rattle.silq_grammar.specs.declared.token.Terminal.{Terminal}
use Rattle.silq_grammar.specs.declared.token.Terminal.TheVariants as t
use Rattle.silq_grammar.specs.Spelled.{program_text}
use Rattle.silq_print.specs.Derived.{derived}

-- the bytes of a reserved word or a sign, in its first spelling; `×` has one that is no ASCII
abbrev pub fixed_text : Terminal → List ℕ
fixed_text t.Def = codes "def"
fixed_text t.Return = codes "return"
fixed_text t.If = codes "if"
fixed_text t.Else = codes "else"
fixed_text t.For = codes "for"
fixed_text t.In = codes "in"
fixed_text t.Forget = codes "forget"
fixed_text t.Phase = codes "phase"
fixed_text t.Const = codes "const"
fixed_text t.Qfree = codes "qfree"
fixed_text t.Mfree = codes "mfree"
fixed_text t.Lifted = codes "lifted"
fixed_text t.True = codes "true"
fixed_text t.False = codes "false"
fixed_text t.Pi = codes "pi"
fixed_text t.Bit = codes "B"
fixed_text t.Natural = codes "N"
fixed_text t.UInt = codes "uint"
fixed_text t.Int = codes "int"
fixed_text t.Becomes = codes ":="
fixed_text t.AddTo = codes "+="
fixed_text t.SubtractFrom = codes "-="
fixed_text t.XorTo = codes "^="
fixed_text t.Equal = codes "=="
fixed_text t.NotEqual = codes "!="
fixed_text t.AtMost = codes "<="
fixed_text t.AtLeast = codes ">="
fixed_text t.Below = codes "<"
fixed_text t.Above = codes ">"
fixed_text t.And = codes "&&"
fixed_text t.Or = codes "||"
fixed_text t.Dots = codes ".."
fixed_text t.LeftParen = codes "("
fixed_text t.RightParen = codes ")"
fixed_text t.LeftBracket = codes "["
fixed_text t.RightBracket = codes "]"
fixed_text t.LeftBrace = codes "{"
fixed_text t.RightBrace = codes "}"
fixed_text t.Comma = codes ","
fixed_text t.Semicolon = codes ";"
fixed_text t.Colon = codes ":"
fixed_text t.Is = codes "="
fixed_text t.Bang = codes "!"
fixed_text t.Plus = codes "+"
fixed_text t.Minus = codes "-"
fixed_text t.Star = codes "*"
fixed_text t.Slash = codes "/"
fixed_text t.Caret = codes "^"
fixed_text t.Times = 195 ∷ 151 ∷ []

-- the bytes of a token; no token is a negative number
abbrev pub token_text : List (List ℕ) → Token → List ℕ
token_text names (Name id at) = slice_index_or names id.number []
token_text names (Number (pos n) at) = decimal n
token_text names (Number (negsuc n) at) = []
token_text names (Fixed t at) = fixed_text t

-- a statement, and each brace, ends its line
abbrev pub blank_behind : Token → ℕ
blank_behind (Fixed t.Semicolon at) = 10
blank_behind (Fixed t.LeftBrace at) = 10
blank_behind (Fixed t.RightBrace at) = 10
blank_behind _ = 32

abbrev pub printed : List (List ℕ) → List Token → List ℕ
printed names [] = []
printed names (t ∷ ts) = token_text names t ++ blank_behind t ∷ printed names ts

-- the text of a program with these names
abbrev pub program_printed : List (List ℕ) → Program → List ℕ
program_printed names p = printed names (program_text (derived p))
