-- What typing gives for values that are taken over in turn.
use Rattle.silq_tree.specs.Syntax.{Expressions}
use Rattle.flat_typed.specs.Lemmas.{EachIsFine, ArgumentsAreFine}

-- a list of expressions whose values are taken over in turn, where each expression is fine
abbrev pub ListsAreFine : Type 0
ListsAreFine = (es : Expressions) → EachIsFine es → ArgumentsAreFine es
