-- Assignments to parts, as statements.
use Rattle.std.proofs.Common.{◌≡◌, false, refl}
use Rattle.silq_tree.specs.declared.node.NameId.{NameId}
use Rattle.silq_tree.specs.declared.node.Spot.{Spot}
use Rattle.silq_tree.specs.Syntax.{Expression, Place, part, part_of_part, assign}
use Rattle.silq_types.specs.declared.types.Ty.{Ty}
use Rattle.silq_types.specs.declared.need.Need.TheVariants as needs
use Rattle.silq_types.specs.Types.{place_name, place_indices}
use Rattle.silq_mean.specs.Written.{is_empty}
use Rattle.silq_mean.specs.Effect.{Effect, step, receive, assign_to, ◌>>◌ as ◌▸◌}
use Rattle.silq_mean.specs.Meaning as meanings
use Rattle.silq_mean.specs.declared.receiver.Receiver.{Receiver}
use Rattle.silq_mean.specs.declared.receiver.Receiver.TheVariants.{Variable}
use Rattle.check_scope.specs.Context.{Scope, Context}
use Rattle.check_expr.proofs.Owners.{gives-more}
use Rattle.check_fun.specs.Statement.{assign_part}
use Rattle.flat_typed.specs.Scopes.{as_meaning, NoStatics}
use Rattle.flat_typed.specs.Lemmas.{Callable, ExpressionIsFine, StatementIsFine, StmtFine}
use Rattle.flat_typed.proofs.Turns.{Does, line_fine}
use Rattle.flat_typed.proofs.PartWalk.{PartAssigned, part_assigned}
use Rattle.flat_typed.proofs.PartAssign.{part_done}

-- the right side, taken over, and the part
abbrev its_effect : Place → Expression → (Ty → Receiver) → Scope → Effect
its_effect place e taker sc = (meanings.expr e (as_meaning taker sc) needs.Consumed ▸ step (receive Variable)) ▸ step (assign_to (place_name place) (meanings.static_values (place_indices place) sc.statics))

part_fine : (place : Place) (e : Expression) (s : Spot) → ExpressionIsFine e → (sc : Scope) (taker : Ty → Receiver) (c : Context) → NoStatics sc c.vars → is_empty (meanings.static_values (place_indices place) sc.statics) ≡ false
    → StmtFine sc c (assign_part sc place e s) (its_effect place e taker sc)
part_fine place e s fine sc taker c free indexed =
    gives-more (Callable sc) 0 (λ r. PartAssigned sc taker place e c r.1) (λ r. Does sc c (its_effect place e taker sc) r.1) (assign_part sc place e s c)
    ((part_assigned sc taker place e c indexed s fine free).runs c refl) (λ r k out low W st b. part_done sc taker place e c r.1 indexed k out low W st b)

pub assign_part_is_fine : (x : NameId) (i e : Expression) (s : Spot) → ExpressionIsFine e → StatementIsFine (assign (part x i) e s)
assign_part_is_fine x i e s fine sc taker c free = line_fine sc c (assign_part sc (part x i) e s) (its_effect (part x i) e taker sc) s.line (part_fine (part x i) e s fine sc taker c free refl)

pub assign_part_of_part_is_fine : (x : NameId) (i j e : Expression) (s : Spot) → ExpressionIsFine e → StatementIsFine (assign (part_of_part x i j) e s)
assign_part_of_part_is_fine x i j e s fine sc taker c free = line_fine sc c (assign_part sc (part_of_part x i j) e s) (its_effect (part_of_part x i j) e taker sc) s.line (part_fine (part_of_part x i j) e s fine sc taker c free refl)
