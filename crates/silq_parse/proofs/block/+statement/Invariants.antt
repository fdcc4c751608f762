use Rattle.std.proofs.Common.{◌≡◌, ◌+◌, ◌*◌, ◌≤◌, List, [], ◌∷◌, length}
use Rattle.silq_tree.specs.Arena.{IsArena, expr_at, stmt_at}
use Rattle.silq_tree.specs.Standing.{statements_of}
use Rattle.silq_grammar.specs.Machine.{Symbol, Statements, nest}
use Rattle.silq_grammar.specs.Outcome.{outcome}
use Rattle.silq_grammar.specs.Spelled.{stmts_text}
use Rattle.silq_grammar.specs.Trees.{stmts_tree}
use Rattle.expr_parse.specs.Reads.{ReadsPart}
use Rattle.silq_parse.proofs.block.+statement.Given as goal

-- the tokens that are left, and then the level in the grammar

abbrev pub decreases-statements : goal.decreases-statements
decreases-statements l = 2 * length l.tokens.now + 1

abbrev pub decreases-statement : goal.decreases-statement
decreases-statement l = 2 * length l.tokens.now

abbrev pub decreases-inner : goal.decreases-inner
decreases-inner l = 2 * length l.tokens.now + 2

abbrev pub decreases-block : goal.decreases-block
decreases-block l = 2 * length l.tokens.now + 1

abbrev pub decreases-choice : goal.decreases-choice
decreases-choice l = 2 * length l.tokens.now

abbrev pub decreases-else_rest : goal.decreases-else_rest
decreases-else_rest l = 2 * length l.tokens.now + 1

abbrev pub decreases-else_body : goal.decreases-else_body
decreases-else_body l = 2 * length l.tokens.now + 1

abbrev pub decreases-loop_rest : goal.decreases-loop_rest
decreases-loop_rest l = 2 * length l.tokens.now

-- the statements so far, and what is left decides

abbrev pub invariant-statements-loop-items : goal.invariant-statements-loop-items
invariant-statements-loop-items l =
    IsArena l.tree × ((k : List Symbol) → nest k + l.fn.room ≡ 64 → outcome (Statements ∷ k) l.fn.tokens ≡ outcome (Statements ∷ k) l.rest)
    × ReadsPart stmts_text stmts_tree l.fn.tree l.tree l.fn.tokens (statements_of (expr_at l.tree) (stmt_at l.tree) l.items) [] l.items l.rest × (length l.rest ≤ length l.fn.tokens)

abbrev pub decreases-statements-loop-items : goal.decreases-statements-loop-items
decreases-statements-loop-items l = length l.rest
