-- The first token of an operand.
use Rattle.std.specs.Prelude.{◌≡◌, Bool, true, false, List, ◌∷◌, Some}
use Rattle.silq_tree.specs.declared.node.UnaryOp.{UnaryOp}
use Rattle.silq_tree.specs.declared.node.UnaryOp.TheVariants as unaries
use Rattle.silq_grammar.specs.declared.token.Token.{Token}
use Rattle.silq_grammar.specs.declared.token.Token.TheVariants.{Name, Number, Fixed}
use Rattle.silq_grammar.specs.declared.token.Terminal.{Terminal}
use Rattle.silq_grammar.specs.declared.token.Terminal.TheVariants as t
use Rattle.silq_grammar.specs.Machine.{Symbol, AUnary, InName, NumberType, Closing, Ends, exprs}
use Rattle.silq_grammar.specs.Outcome.{Outcome, Syntax, outcome, outcome_at}
use Rattle.expr_parse.specs.declared.operand.Operand.{Operand}
use Rattle.expr_parse.specs.declared.operand.Operand.TheVariants as operands

-- how a sign before an operand is written
abbrev pub sign_of_unary : UnaryOp → Terminal
sign_of_unary unaries.Not = t.Bang
sign_of_unary unaries.Neg = t.Minus

abbrev pub word_of_truth : Bool → Terminal
word_of_truth true = t.True
word_of_truth false = t.False

-- the tokens begin so
abbrev pub BeginsWith : List Token → Operand → Type 0
BeginsWith ts (operands.Name name at rest) = ts ≡ Name name at ∷ rest.now
BeginsWith ts (operands.Number value at rest) = ts ≡ Number value at ∷ rest.now
BeginsWith ts (operands.Truth value at rest) = ts ≡ Fixed (word_of_truth value) at ∷ rest.now
BeginsWith ts (operands.Pi at rest) = ts ≡ Fixed t.Pi at ∷ rest.now
BeginsWith ts (operands.Paren at rest) = ts ≡ Fixed t.LeftParen at ∷ rest.now
BeginsWith ts (operands.Sign op at rest) = ts ≡ Fixed (sign_of_unary op) at ∷ rest.now
BeginsWith ts operands.Nothing = Unit {0}

-- the first fault where an operand is expected
abbrev pub operand_outcome : List Symbol → List Token → Operand → Outcome
operand_outcome k ts (operands.Name name at rest) = outcome (InName ∷ k) rest.now
operand_outcome k ts (operands.Number value at rest) = outcome (NumberType ∷ k) rest.now
operand_outcome k ts (operands.Truth value at rest) = outcome k rest.now
operand_outcome k ts (operands.Pi at rest) = outcome k rest.now
operand_outcome k ts (operands.Paren at rest) = outcome_at (Some (exprs (Closing t.RightParen ∷ k))) ts (λ ys. outcome ys rest.now)
operand_outcome k ts (operands.Sign op at rest) = outcome_at (Some (AUnary ∷ Ends ∷ k)) ts (λ ys. outcome ys rest.now)
operand_outcome k ts operands.Nothing = Syntax ts
