use Rattle.std.proofs.Common.{◌≡◌, ◌+◌, ◌≤◌, List, ◌∷◌, length}
use Rattle.silq_tree.specs.Arena.{IsArena}
use Rattle.silq_grammar.specs.Machine.{Symbol, Functions, nest}
use Rattle.silq_grammar.specs.Outcome.{outcome}
use Rattle.silq_parse.specs.Functions.{ReadsFunctions}
use Rattle.silq_parse.proofs.tokens.functions.Given as goal

-- the functions so far, and what is left decides
abbrev pub invariant-loop-rest : goal.invariant-loop-rest
invariant-loop-rest l =
    IsArena l.tree × ((k : List Symbol) → nest k + l.fn.room ≡ 64 → outcome (Functions ∷ k) l.fn.tokens ≡ outcome (Functions ∷ k) l.rest)
    × ReadsFunctions l.fn.tree l.tree l.fn.tokens l.funs l.rest × (length l.rest ≤ length l.fn.tokens)

abbrev pub decreases-loop-rest : goal.decreases-loop-rest
decreases-loop-rest l = length l.rest
