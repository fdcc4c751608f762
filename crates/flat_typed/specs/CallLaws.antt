-- Laws on calls of the program's own functions that are proved.
use Rattle.std.specs.Prelude.{◌≡◌, ◌≤◌, false, List, None}
use Rattle.silq_tree.specs.declared.node.NameId.{NameId}
use Rattle.silq_tree.specs.declared.node.Spot.{Spot}
use Rattle.silq_tree.specs.Syntax.{Expressions, called}
use Rattle.silq_types.specs.declared.types.Ty.{Ty}
use Rattle.silq_types.specs.declared.need.Need.{Need}
use Rattle.silq_types.specs.Calls.{built_in}
use Rattle.check_scope.specs.Context.{Scope, Context}
use Rattle.check_scope.specs.Uses.{uses}
use Rattle.check_expr.specs.Expression.{expr}
use Rattle.silq_mean.specs.declared.receiver.Receiver.{Receiver}
use Rattle.silq_mean.specs.Effect.{Effect}
use Rattle.silq_mean.specs.Meaning as meanings
use Rattle.flat_core.specs.declared.step.WireId.{WireId}
use Rattle.flat_core.specs.Label.{wire_in}
use Rattle.flat_form.specs.State.{Flattening, wires_so_far}
use Rattle.flat_form.specs.Flat.{flat}
use Rattle.flat_typed.specs.Scopes.{as_meaning, NoStatics}
use Rattle.flat_typed.specs.Lemmas.{ArgumentsAreFine, ExprFine}

-- a call whose name is no built-in function's, where its arguments are fine
abbrev pub OwnCallIsFine : Type 0
OwnCallIsFine =
    (f : NameId) (ss args : Expressions) (s : Spot) → ArgumentsAreFine args → (sc : Scope) (taker : Ty → Receiver) (need : Need) (wants : List Ty) (c : Context) → NoStatics sc c.vars → built_in sc.words f ≡ None →
    ExprFine sc need wants c (expr (called f ss args s) sc need wants) (meanings.expr (called f ss args s) (as_meaning taker sc) need) (uses (called f ss args s) sc c.vars need)

-- no effect makes an input wire
abbrev pub InputsAreFirst : Type 0
InputsAreFirst = (e : Effect) (s : Flattening) (w : WireId) → wires_so_far s ≤ w.number → (wire_in (flat e s).built.draft.wires w).input ≡ false
