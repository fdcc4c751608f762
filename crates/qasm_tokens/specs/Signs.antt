-- Signs by their characters.
use Rattle.std.specs.Prelude.{ℕ, ◌==◌, Option, Some, None, if◌then◌else◌}
use Rattle.qasm_tokens.specs.declared.kind.Kind.{Kind}
use Rattle.qasm_tokens.specs.declared.kind.Kind.TheVariants as k

-- the second character of a sign of two, by the first, and the sign's kind
abbrev pub second_of : ℕ → Option (ℕ × Kind)
second_of c = if c == 45 then Some (62, k.Arrow) else if c == 61 then Some (61, k.Equal) else None

-- the kind of a sign of one character, or of a stray
abbrev pub single_kind : ℕ → Kind
single_kind c =
    if c == 59 then k.Semicolon
    else if c == 44 then k.Comma
    else if c == 40 then k.LeftParen
    else if c == 41 then k.RightParen
    else if c == 91 then k.LeftBracket
    else if c == 93 then k.RightBracket
    else k.Stray
