-- Every expression and every statement is fine, by induction from the law of each construct; and so the theorem.
use Rattle.std.proofs.Common.{◌≡◌, false, List, map, refl}
use Rattle.std.specs.Prelude.{⊤, Option, Some, None}
use Rattle.silq_tree.specs.declared.node.NameId.{NameId}
use Rattle.silq_tree.specs.declared.node.Spot.{Spot}
use Rattle.silq_tree.specs.Syntax.{Expression, Expressions, Statement, Statements, Otherwise, Place, number, typed_number, truth, pi, place, called, tuple, unary, binary, none, more, whole, part, part_of_part, assign, spread, update, forget, forget_value, phase, choice, loop, return_nothing, return_value, call, block, else_block, else_choice, done, next}
use Rattle.silq_types.specs.declared.types.Ty.{Ty}
use Rattle.silq_types.specs.declared.need.Need.{Need}
use Rattle.silq_types.specs.declared.built_in.BuiltIn.{BuiltIn}
use Rattle.silq_types.specs.Calls.{built_in}
use Rattle.silq_types.specs.Rules.{rule, bad_return}
use Rattle.check_scope.specs.Context.{Scope, Context, ◌>>◌, fail}
use Rattle.check_scope.specs.Uses.{uses}
use Rattle.check_expr.specs.Expression.{is_tuple, expr}
use Rattle.check_expr.proofs.Owners.{o_then, o_fail}
use Rattle.check_fun.specs.Statement as walks
use Rattle.silq_mean.specs.declared.receiver.Receiver.{Receiver}
use Rattle.silq_mean.specs.Effect.{nothing}
use Rattle.silq_mean.specs.Meaning as meanings
use Rattle.flat_typed.specs.Scopes.{as_meaning, NoStatics}
use Rattle.flat_typed.specs.Lemmas.{Callable, ExprFine, ExpressionIsFine, EachIsFine, ArgumentsAreFine, StatementIsFine, AcceptedIsFlattenable}
use Rattle.flat_typed.specs.Settled.{Settling, StatementsSettle, FineStatement, FineStatements, FineOtherwise}
use Rattle.flat_typed.proofs.Ordered.{clash}
use Rattle.flat_typed.proofs.Turns.{Does, line_fine}
use Rattle.flat_typed.proofs.Leaving.{k_any}
use Rattle.flat_typed.proofs.Numbers.{number_is_fine, typed_number_is_fine, truth_is_fine, pi_is_fine}
use Rattle.flat_typed.proofs.UsedPlaces.{place_is_fine}
use Rattle.flat_typed.proofs.Unary.{unary_is_fine}
use Rattle.flat_typed.proofs.Binary.{binary_is_fine}
use Rattle.flat_typed.proofs.Arguments.{arguments_are_fine as taken_over}
use Rattle.flat_typed.proofs.BuiltInCalls.{built_in_is_fine}
use Rattle.flat_typed.proofs.OwnCalls.{own_call_is_fine}
use Rattle.flat_typed.proofs.Forgetting.{forget_is_fine}
use Rattle.flat_typed.proofs.Comparing.{forget_value_is_fine}
use Rattle.flat_typed.proofs.Updating.{update_is_fine}
use Rattle.flat_typed.proofs.Phases.{phase_is_fine}
use Rattle.flat_typed.proofs.Calling.{every_call_is_fine}
use Rattle.flat_typed.proofs.PartAssignments.{assign_part_is_fine, assign_part_of_part_is_fine}
use Rattle.flat_typed.proofs.HandedValues.{assign_name_is_fine, spread_tuple_is_fine, spread_value_is_fine}
use Rattle.flat_typed.proofs.SettledLaws.{no_more_settle, next_settles, no_more_fine, next_fine, loop_fine}
use Rattle.flat_typed.proofs.ChoiceLaws.{choice_is_fine}
use Rattle.flat_typed.proofs.Accepted.{accepted_where_fine}
use Rattle.flat_typed.proofs.StatementsSettle.{settle_from_names}
use Rattle.flat_typed.proofs.NamesSettle.{name_settles, spread_settles}

-- a statement that is fine wherever no variable has the name of a static value is so in a settled context
where_free : (st : Statement) → StatementIsFine st → FineStatement st
where_free st h sc taker c k = h sc taker c k.free

-- a return that is no body's last statement is refused
return_nothing_is_fine : (s : Spot) → FineStatement (return_nothing s)
return_nothing_is_fine s sc taker c k = line_fine sc c (fail (rule bad_return s)) nothing s.line tt

return_value_is_fine : (e : Expression) (s : Spot) → FineStatement (return_value e s)
return_value_is_fine e s sc taker c k =
    line_fine sc c (walks.returned e sc >> fail (rule bad_return s)) (meanings.items e (as_meaning taker sc) (map taker sc.results)) s.line
    ((o_then (Callable sc) 0 (k_any (Callable sc) 0 {P = λ d. ⊤} (walks.returned e sc)) (λ vs. o_fail (Callable sc) 0 _)).runs c tt)

module _ (settle : StatementsSettle) where
  -- ---- expressions

  called_is_fine : (f : NameId) (ss args : Expressions) (s : Spot) → EachIsFine args → ExpressionIsFine (called f ss args s)
  called_is_fine f ss args s each sc taker need wants c t free = go (built_in sc.words f) refl
    where
      go : (o : Option BuiltIn) → built_in sc.words f ≡ o → ExprFine sc need wants c (expr (called f ss args s) sc need wants) (meanings.expr (called f ss args s) (as_meaning taker sc) need) (uses (called f ss args s) sc c.vars need)
      go (Some b) q = built_in_is_fine f ss args s each sc taker need wants c free b q
      go None q = own_call_is_fine f ss args s (taken_over args each) sc taker need wants c free q

  mutual
    pub expression_is_fine : (e : Expression) → ExpressionIsFine e
    expression_is_fine (number n s) = number_is_fine n s
    expression_is_fine (typed_number n k s) = typed_number_is_fine n k s
    expression_is_fine (truth b s) = truth_is_fine b s
    expression_is_fine (pi s) = pi_is_fine s
    expression_is_fine (place w s) = place_is_fine w s
    expression_is_fine (called f ss args s) = called_is_fine f ss args s (each_is_fine args)
    expression_is_fine (tuple es s) = λ sc taker need wants c t free. clash t
    expression_is_fine (unary op e s) = unary_is_fine op e s (expression_is_fine e)
    expression_is_fine (binary op a b s) = binary_is_fine op a b s (expression_is_fine a) (expression_is_fine b)

    pub each_is_fine : (es : Expressions) → EachIsFine es
    each_is_fine none = tt
    each_is_fine (more e es) = (expression_is_fine e, each_is_fine es)

  arguments_are_fine : (es : Expressions) → ArgumentsAreFine es
  arguments_are_fine es = taken_over es (each_is_fine es)

  -- ---- statements

  assign_to_is_fine : (w : Place) (e : Expression) (s : Spot) → StatementIsFine (assign w e s)
  assign_to_is_fine (whole x) e s = assign_name_is_fine x e s (arguments_are_fine (more e none))
  assign_to_is_fine (part x i) e s = assign_part_is_fine x i e s (expression_is_fine e)
  assign_to_is_fine (part_of_part x i j) e s = assign_part_of_part_is_fine x i j e s (expression_is_fine e)

  one_value_is_fine : (xs : List NameId) (e : Expression) (s : Spot) → is_tuple e ≡ false → StatementIsFine (spread xs e s)
  one_value_is_fine xs e s t = spread_value_is_fine xs e s t (expression_is_fine e) (arguments_are_fine (more e none))

  spread_to_is_fine : (xs : List NameId) (e : Expression) (s : Spot) → StatementIsFine (spread xs e s)
  spread_to_is_fine xs (tuple es r) s = spread_tuple_is_fine xs es r s (arguments_are_fine es)
  spread_to_is_fine xs (number n r) s = one_value_is_fine xs (number n r) s refl
  spread_to_is_fine xs (typed_number n k r) s = one_value_is_fine xs (typed_number n k r) s refl
  spread_to_is_fine xs (truth b r) s = one_value_is_fine xs (truth b r) s refl
  spread_to_is_fine xs (pi r) s = one_value_is_fine xs (pi r) s refl
  spread_to_is_fine xs (place w r) s = one_value_is_fine xs (place w r) s refl
  spread_to_is_fine xs (called f ss args r) s = one_value_is_fine xs (called f ss args r) s refl
  spread_to_is_fine xs (unary op e r) s = one_value_is_fine xs (unary op e r) s refl
  spread_to_is_fine xs (binary op a b r) s = one_value_is_fine xs (binary op a b r) s refl

  statements_settle : (ss : Statements) (sc : Scope) → Settling sc (walks.stmts ss sc)
  statements_settle done sc = no_more_settle sc
  statements_settle (next st rest) sc = next_settles st rest sc (settle st sc) (statements_settle rest sc)

  otherwise_settles : (other : Otherwise) (sc : Scope) → Settling sc (walks.otherwise other sc)
  otherwise_settles (else_block (block ss end)) sc = statements_settle ss sc
  otherwise_settles (else_choice st) sc = settle st sc

  mutual
    pub statement_is_fine : (st : Statement) → FineStatement st
    statement_is_fine (assign w e s) = where_free (assign w e s) (assign_to_is_fine w e s)
    statement_is_fine (spread xs e s) = where_free (spread xs e s) (spread_to_is_fine xs e s)
    statement_is_fine (update w op e s) = where_free (update w op e s) (update_is_fine w op e s (expression_is_fine e))
    statement_is_fine (forget x s) = where_free (forget x s) (forget_is_fine x s)
    statement_is_fine (forget_value x e s) = where_free (forget_value x e s) (forget_value_is_fine x e s (expression_is_fine e))
    statement_is_fine (phase e s) = where_free (phase e s) (phase_is_fine e s)
    statement_is_fine (choice e (block ss end) other s) =
        choice_is_fine e ss end other s (expression_is_fine e) (statements_are_fine ss) (otherwise_is_fine other) (statements_settle ss) (otherwise_settles other)
    statement_is_fine (loop x low high (block ss end) s) = loop_fine x low high ss end s (statements_are_fine ss) (statements_settle ss)
    statement_is_fine (return_nothing s) = return_nothing_is_fine s
    statement_is_fine (return_value e s) = return_value_is_fine e s
    statement_is_fine (call e s) = where_free (call e s) (every_call_is_fine e s (expression_is_fine e))

    pub statements_are_fine : (ss : Statements) → FineStatements ss
    statements_are_fine done = no_more_fine
    statements_are_fine (next st rest) = next_fine st rest (statement_is_fine st) (statements_are_fine rest) (settle st) (statements_settle rest)

    pub otherwise_is_fine : (other : Otherwise) → FineOtherwise other
    otherwise_is_fine (else_block (block ss end)) = statements_are_fine ss
    otherwise_is_fine (else_choice st) = statement_is_fine st

-- ---- the theorem

every_settles : StatementsSettle
every_settles = settle_from_names name_settles spread_settles

pub accepted_is_flattenable : AcceptedIsFlattenable
accepted_is_flattenable = accepted_where_fine (record { statements = statement_is_fine every_settles; settle = every_settles; arguments = arguments_are_fine every_settles })
