-- Literals that may control a step.
use Rattle.std.specs.Prelude.{◌≡◌, false, List, [], ◌∷◌, length, map, ⊤}
use Rattle.flat_core.specs.declared.step.WireId.{WireId}
use Rattle.flat_core.specs.declared.step.Lit.{Lit}
use Rattle.flat_core.specs.Form.{DraftForm}
use Rattle.bit_arith.specs.Built.{blank}
use Rattle.bit_arith.specs.Calls.{Targets, SafeLit, among}

-- a literal may control a step on a target: its wire is there, is no target, and is not blank
abbrev pub FitsLit : DraftForm → Targets → Lit → Type 0
FitsLit d T l = SafeLit (length d.wires) T l × (blank d l.wire ≡ false)

abbrev pub wires_in : List Lit → List WireId
wires_in ls = map (λ l. l.wire) ls

-- literals of different wires that may control steps on a target
abbrev pub LitsFit : DraftForm → Targets → List Lit → Type 0
LitsFit d T [] = ⊤
LitsFit d T (l ∷ ls) = FitsLit d T l × (among (wires_in ls) l.wire ≡ false) × LitsFit d T ls
