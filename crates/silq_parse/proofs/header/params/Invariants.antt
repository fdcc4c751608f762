use Rattle.std.proofs.Common.{◌≡◌, ◌+◌, ◌<◌, List, [], ◌∷◌, length, map, flat_map}
use Rattle.silq_tree.specs.Arena.{IsArena, expr_at}
use Rattle.silq_tree.specs.Standing.{param_of}
use Rattle.silq_tree.specs.Children.{param_exprs}
use Rattle.silq_grammar.specs.Machine.{Symbol, OneParam, MoreParams, nest}
use Rattle.silq_grammar.specs.Outcome.{outcome}
use Rattle.silq_grammar.specs.Spelled.{params_text}
use Rattle.silq_grammar.specs.Trees.{params_tree}
use Rattle.expr_parse.specs.Reads.{ReadsPart}
use Rattle.silq_parse.proofs.header.params.Given as goal

-- what was read so far, and what is left decides
abbrev pub invariant-loop-rest : goal.invariant-loop-rest
invariant-loop-rest l =
    IsArena l.tree × ((k : List Symbol) → nest k + l.fn.room ≡ 64 → outcome (OneParam ∷ MoreParams ∷ k) l.fn.tokens ≡ outcome (MoreParams ∷ k) l.rest)
    × ReadsPart params_text params_tree l.fn.tree l.tree l.fn.tokens (map (param_of (expr_at l.tree)) l.params) (flat_map param_exprs l.params) [] l.rest × (length l.rest < length l.fn.tokens)

abbrev pub decreases-loop-rest : goal.decreases-loop-rest
decreases-loop-rest l = length l.rest
