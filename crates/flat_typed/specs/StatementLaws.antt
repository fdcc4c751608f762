-- Laws on statements that are proved, where their expressions are fine and no variable has the name of a static value.
use Rattle.std.specs.Prelude.{◌≡◌, true}
use Rattle.silq_tree.specs.declared.node.NameId.{NameId}
use Rattle.silq_tree.specs.declared.node.Spot.{Spot}
use Rattle.silq_tree.specs.declared.node.UpdateOp.{UpdateOp}
use Rattle.silq_tree.specs.Syntax.{Expression, Place, Statement, Statements, Otherwise, phase, call, forget_value, update, loop, choice, block, next}
use Rattle.static_num.specs.Static.{is_static}
use Rattle.silq_types.specs.declared.types.Ty.{Ty}
use Rattle.check_scope.specs.Context.{Scope, Context}
use Rattle.check_fun.specs.Statement.{stmt, stmts, otherwise, otherwise_end, plain_block}
use Rattle.silq_mean.specs.declared.receiver.Receiver.{Receiver}
use Rattle.silq_mean.specs.Meaning as meanings
use Rattle.flat_typed.specs.Scopes.{as_meaning, NoStatics}
use Rattle.flat_typed.specs.Lemmas.{ExpressionIsFine, StatementIsFine, StmtFine, StatementsAreFine}
use Rattle.flat_typed.specs.Stay.{Keeps}

abbrev pub PhaseIsFine : Type 0
PhaseIsFine = (e : Expression) (s : Spot) → StatementIsFine (phase e s)

abbrev pub CallIsFine : Type 0
CallIsFine = (e : Expression) (s : Spot) → ExpressionIsFine e → StatementIsFine (call e s)

abbrev pub ForgetValueIsFine : Type 0
ForgetValueIsFine = (x : NameId) (e : Expression) (s : Spot) → ExpressionIsFine e → StatementIsFine (forget_value x e s)

abbrev pub UpdateIsFine : Type 0
UpdateIsFine = (p : Place) (op : UpdateOp) (e : Expression) (s : Spot) → ExpressionIsFine e → StatementIsFine (update p op e s)

abbrev pub NextIsFine : Type 0
NextIsFine =
    (st : Statement) (rest : Statements) → StatementIsFine st → StatementsAreFine rest →
    ((sc : Scope) → Keeps (NoStatics sc) sc (stmt st sc)) → ((sc : Scope) → Keeps (NoStatics sc) sc (stmts rest sc)) → StatementsAreFine (next st rest)

abbrev pub LoopIsFine : Type 0
LoopIsFine =
    (x : NameId) (low high : Expression) (ss : Statements) (end s : Spot) → StatementsAreFine ss → ((sc : Scope) → Keeps (NoStatics sc) sc (stmts ss sc)) → StatementIsFine (loop x low high (block ss end) s)

-- what stands behind `else`
abbrev pub OtherwiseIsFine : Otherwise → Type 0
OtherwiseIsFine other = (sc : Scope) (taker : Ty → Receiver) (c : Context) → NoStatics sc c.vars → StmtFine sc c (plain_block (otherwise other sc) (otherwise_end other)) (meanings.otherwise other (as_meaning taker sc))

abbrev pub StaticChoiceIsFine : Type 0
StaticChoiceIsFine =
    (e : Expression) (ss : Statements) (end : Spot) (other : Otherwise) (s : Spot) (sc : Scope) (taker : Ty → Receiver) (c : Context) → NoStatics sc c.vars → is_static sc.statics e ≡ true →
    StatementsAreFine ss → OtherwiseIsFine other → StmtFine sc c (stmt (choice e (block ss end) other s) sc) (meanings.stmt (choice e (block ss end) other s) (as_meaning taker sc))
