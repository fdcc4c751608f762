use Rattle.std.proofs.Common.{◌≡◌, ◌+◌, ◌<◌, List, [], ◌∷◌, length, map, flat_map}
use Rattle.silq_tree.specs.Arena.{IsArena, expr_at}
use Rattle.silq_tree.specs.Standing.{type_of}
use Rattle.silq_tree.specs.Children.{type_exprs}
use Rattle.silq_grammar.specs.Machine.{Symbol, AType, MoreResults, nest}
use Rattle.silq_grammar.specs.Outcome.{outcome}
use Rattle.silq_grammar.specs.Spelled.{result_text}
use Rattle.silq_grammar.specs.Trees.{result_tree}
use Rattle.expr_parse.specs.Reads.{ReadsPart}
use Rattle.silq_parse.proofs.types.results.Given as goal

-- the types so far, and what is left decides
abbrev pub invariant-loop-rest : goal.invariant-loop-rest
invariant-loop-rest l =
    IsArena l.tree × ((k : List Symbol) → nest k + l.fn.room ≡ 64 → outcome (AType ∷ MoreResults ∷ k) l.fn.tokens ≡ outcome (MoreResults ∷ k) l.rest)
    × ReadsPart result_text result_tree l.fn.tree l.tree l.fn.tokens (map (type_of (expr_at l.tree)) l.types) (flat_map type_exprs l.types) [] l.rest × (length l.rest < length l.fn.tokens)

abbrev pub decreases-loop-rest : goal.decreases-loop-rest
decreases-loop-rest l = length l.rest
