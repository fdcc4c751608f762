-- The law on calls of built-in functions.
use Rattle.std.specs.Prelude.{◌≡◌, List, Some}
use Rattle.silq_tree.specs.declared.node.NameId.{NameId}
use Rattle.silq_tree.specs.declared.node.Spot.{Spot}
use Rattle.silq_tree.specs.Syntax.{Expressions, called}
use Rattle.silq_types.specs.declared.built_in.BuiltIn.{BuiltIn}
use Rattle.silq_types.specs.declared.types.Ty.{Ty}
use Rattle.silq_types.specs.declared.need.Need.{Need}
use Rattle.silq_types.specs.Calls.{built_in}
use Rattle.check_scope.specs.Context.{Scope, Context}
use Rattle.check_scope.specs.Uses.{uses}
use Rattle.check_expr.specs.Expression.{expr}
use Rattle.silq_mean.specs.declared.receiver.Receiver.{Receiver}
use Rattle.silq_mean.specs.Meaning as meanings
use Rattle.flat_typed.specs.Scopes.{as_meaning, NoStatics}
use Rattle.flat_typed.specs.Lemmas.{ExprFine, EachIsFine}

-- where the name is that of a built-in function
abbrev pub BuiltInIsFine : Type 0
BuiltInIsFine =
    (f : NameId) (ss args : Expressions) (s : Spot) → EachIsFine args → (sc : Scope) (taker : Ty → Receiver) (need : Need) (wants : List Ty) (c : Context) → NoStatics sc c.vars → (b : BuiltIn) → built_in sc.words f ≡ Some b →
    ExprFine sc need wants c (expr (called f ss args s) sc need wants) (meanings.expr (called f ss args s) (as_meaning taker sc) need) (uses (called f ss args s) sc c.vars need)
