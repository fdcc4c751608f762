-- Words in a table.
use Rattle.std.specs.Prelude.{ℕ, List, [], ◌∷◌, Option, Some, None, if◌then◌else◌}
use Rattle.std.specs.Str.{bytes_eq}
use denote.Bor.{Bor}
use Rattle.qasm_tokens.specs.declared.kind.Kind.{Kind}

-- a table of the code
abbrev pub written : List (Bor (List ℕ) × Kind) → List (List ℕ × Kind)
written [] = []
written (p ∷ ps) = (p.0.now, p.1) ∷ written ps

-- the kind of the first word that is the text
abbrev pub found : List (List ℕ × Kind) → List ℕ → Option Kind
found [] text = None
found (w ∷ ws) text = if bytes_eq w.0 text then Some w.1 else found ws text
