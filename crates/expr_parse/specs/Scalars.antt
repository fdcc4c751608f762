-- The words of scalar types.
use Rattle.std.specs.Prelude.{List, ◌∷◌, Option, Some, None}
use Rattle.silq_tree.specs.declared.node.ExprId.{ExprId}
use Rattle.silq_tree.specs.declared.node.ScalarNode.{ScalarNode}
use Rattle.silq_tree.specs.declared.node.ScalarNode.TheVariants as scalars
use Rattle.silq_grammar.specs.declared.token.Terminal.{Terminal}
use Rattle.silq_grammar.specs.declared.token.Terminal.TheVariants as t
use Rattle.silq_grammar.specs.Machine.{Symbol, Width}
use Rattle.expr_parse.specs.declared.scalar.Wide.{Wide}
use Rattle.expr_parse.specs.declared.scalar.Wide.TheVariants as wides

-- the word of a type; None is the one without a width
abbrev pub word_of : Option Wide → Terminal
word_of None = t.Bit
word_of (Some wides.UInt) = t.UInt
word_of (Some wides.Int) = t.Int

-- what comes behind it
abbrev pub behind_word : Option Wide → List Symbol → List Symbol
behind_word None k = k
behind_word (Some w) k = Width ∷ k

-- a type with its width
abbrev pub wide_node : Wide → ExprId → ScalarNode
wide_node wides.UInt id = scalars.UInt id
wide_node wides.Int id = scalars.Int id
