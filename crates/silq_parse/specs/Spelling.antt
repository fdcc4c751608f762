-- How each terminal is spelled.
use Rattle.std.specs.Prelude.{ℕ, List, [], ◌∷◌, Option, Some, None, if◌then◌else◌, codes}
use Rattle.std.specs.Str.{bytes_eq}
use denote.Bor.{Bor}
use Rattle.silq_grammar.specs.declared.token.Terminal.{Terminal}
use Rattle.silq_grammar.specs.declared.token.Terminal.TheVariants as t

pub record Spelling : Type 0 where
  -- its bytes
  pub text : List ℕ
  pub terminal : Terminal

abbrev pub by : List ℕ → Terminal → Spelling
by text terminal = record { text = text; terminal = terminal }

-- the spellings; the last five are 𝔹, ℕ, π, × and ·
abbrev pub spellings : List Spelling
spellings =
    by (codes "def") t.Def ∷ by (codes "return") t.Return ∷ by (codes "if") t.If ∷ by (codes "else") t.Else ∷ by (codes "for") t.For ∷
    by (codes "in") t.In ∷ by (codes "forget") t.Forget ∷ by (codes "phase") t.Phase ∷ by (codes "const") t.Const ∷ by (codes "qfree") t.Qfree ∷
    by (codes "mfree") t.Mfree ∷ by (codes "lifted") t.Lifted ∷ by (codes "true") t.True ∷ by (codes "false") t.False ∷ by (codes "pi") t.Pi ∷
    by (codes "B") t.Bit ∷ by (codes "N") t.Natural ∷ by (codes "uint") t.UInt ∷ by (codes "int") t.Int ∷ by (codes ":=") t.Becomes ∷
    by (codes "+=") t.AddTo ∷ by (codes "-=") t.SubtractFrom ∷ by (codes "^=") t.XorTo ∷ by (codes "==") t.Equal ∷ by (codes "!=") t.NotEqual ∷
    by (codes "<=") t.AtMost ∷ by (codes ">=") t.AtLeast ∷ by (codes "<") t.Below ∷ by (codes ">") t.Above ∷ by (codes "&&") t.And ∷
    by (codes "||") t.Or ∷ by (codes "..") t.Dots ∷ by (codes "(") t.LeftParen ∷ by (codes ")") t.RightParen ∷ by (codes "[") t.LeftBracket ∷
    by (codes "]") t.RightBracket ∷ by (codes "{") t.LeftBrace ∷ by (codes "}") t.RightBrace ∷ by (codes ",") t.Comma ∷ by (codes ";") t.Semicolon ∷
    by (codes ":") t.Colon ∷ by (codes "=") t.Is ∷ by (codes "!") t.Bang ∷ by (codes "+") t.Plus ∷ by (codes "-") t.Minus ∷
    by (codes "*") t.Star ∷ by (codes "/") t.Slash ∷ by (codes "^") t.Caret ∷
    by (240 ∷ 157 ∷ 148 ∷ 185 ∷ []) t.Bit ∷
    by (226 ∷ 132 ∷ 149 ∷ []) t.Natural ∷
    by (207 ∷ 128 ∷ []) t.Pi ∷
    by (195 ∷ 151 ∷ []) t.Times ∷
    by (194 ∷ 183 ∷ []) t.Star ∷
    []

-- a table of the code
abbrev pub written : List (Bor (List ℕ) × Terminal) → List Spelling
written [] = []
written (p ∷ ps) = by p.0.now p.1 ∷ written ps

abbrev pub found : List Spelling → List ℕ → Option Terminal
found [] text = None
found (s ∷ ss) text = if bytes_eq s.text text then Some s.terminal else found ss text

-- the terminal that a text spells
abbrev pub spelled : List ℕ → Option Terminal
spelled text = found spellings text
