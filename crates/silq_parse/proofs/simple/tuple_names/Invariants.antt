use Rattle.std.proofs.Common.{◌≡◌, ◌<◌, ◌≤◌, List, ◌∷◌, length}
use Rattle.silq_grammar.specs.declared.token.Terminal.TheVariants as t
use Rattle.silq_grammar.specs.Machine.{Symbol, Expect, AnyName, MoreNames, Closing, nest}
use Rattle.silq_grammar.specs.Outcome.{outcome}
use Rattle.silq_parse.proofs.TupleNames.{SoFar}
use Rattle.silq_parse.proofs.simple.tuple_names.Given as goal

-- the names so far, and what is left decides
abbrev pub invariant-loop-rest : goal.invariant-loop-rest
invariant-loop-rest l =
    ((k : List Symbol) → nest k ≤ 63 → outcome (AnyName ∷ Expect t.Comma ∷ AnyName ∷ MoreNames ∷ Closing t.RightParen ∷ k) l.fn.tokens ≡ outcome (MoreNames ∷ Closing t.RightParen ∷ k) l.rest)
    × SoFar l.names l.fn.tokens l.rest × (length l.rest < length l.fn.tokens)

abbrev pub decreases-loop-rest : goal.decreases-loop-rest
decreases-loop-rest l = length l.rest
