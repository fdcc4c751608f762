use Rattle.std.proofs.Common.{◌≡◌, ◌<◌, ◌≤◌, List, ◌∷◌, length}
use Rattle.silq_grammar.specs.declared.token.Terminal.TheVariants as t
use Rattle.silq_grammar.specs.Machine.{Symbol, Expect, AnyName, MoreStatics, nest}
use Rattle.silq_grammar.specs.Outcome.{outcome}
use Rattle.silq_parse.specs.Parts.{SpellsStatics}
use Rattle.silq_parse.proofs.header.static_params.Given as goal

-- what was read so far, and what is left decides
abbrev pub invariant-loop-rest : goal.invariant-loop-rest
invariant-loop-rest l =
    ((k : List Symbol) → nest k ≤ 64 → outcome (AnyName ∷ Expect t.Colon ∷ Expect t.Bang ∷ Expect t.Natural ∷ MoreStatics ∷ k) l.fn.tokens ≡ outcome (MoreStatics ∷ k) l.rest)
    × SpellsStatics l.names l.fn.tokens l.rest × (length l.rest < length l.fn.tokens)

abbrev pub decreases-loop-rest : goal.decreases-loop-rest
decreases-loop-rest l = length l.rest
