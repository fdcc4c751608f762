-- A call as a statement, whatever expression stands there.
use Rattle.std.proofs.Common.{◌≡◌, ◌+◌, false, not, List, [], ◌∷◌, length, refl, sym, subst, arith}
use Rattle.silq_tree.specs.declared.node.Spot.{Spot}
use Rattle.silq_tree.specs.Syntax.{Expression, Expressions, number, typed_number, truth, pi, place, called, tuple, unary, binary, none, more, call}
use Rattle.silq_types.specs.declared.need.Need.TheVariants as needs
use Rattle.silq_types.specs.declared.values.Value.{Value}
use Rattle.silq_types.specs.Types.{count}
use Rattle.silq_types.specs.Rules.{result_count}
use Rattle.check_scope.specs.Context.{Context, ◌>>=◌, rules}
use Rattle.check_expr.specs.Expression.{arguments}
use Rattle.check_expr.proofs.Owners.{o_bind, o_more, o_back, o_rules}
use Rattle.silq_mean.specs.Written.{is_empty}
use Rattle.silq_mean.specs.Effect.{nothing}
use Rattle.silq_mean.specs.Meaning as meanings
use Rattle.flat_typed.specs.Scopes.{as_meaning}
use Rattle.flat_typed.specs.Lemmas.{Callable, ExpressionIsFine, StatementIsFine}
use Rattle.flat_typed.proofs.Ordered.{clash}
use Rattle.flat_typed.proofs.Turns.{Does, line_fine, done_nothing}
use Rattle.flat_typed.proofs.Phases.{call_is_fine}
use Rattle.flat_typed.proofs.Assignments.{arguments_long}

-- a tuple gives no value where it has no item, and else it is refused
no_items : (at s : Spot) → StatementIsFine (call (tuple none at) s)
no_items at s sc taker c free =
    line_fine sc c (arguments none sc needs.Consumed [] >>= (λ vs. rules s ((not (is_empty vs), result_count) ∷ []))) nothing s.line
    ((o_bind (Callable sc) 0 (o_back (Callable sc) 0 [] {Q = λ vs d. d ≡ c} (λ d h. h)) (λ vs. o_more (Callable sc) 0 (o_rules (Callable sc) 0 s _) (λ u d h.
    subst (Does sc c nothing) (sym h.1) (λ out low W st b. done_nothing out sc low W c st b)))).runs c refl)

some_items : (e : Expression) (es : Expressions) (at s : Spot) → StatementIsFine (call (tuple (more e es) at) s)
some_items e es at s sc taker c free =
    line_fine sc c (arguments (more e es) sc needs.Consumed [] >>= (λ vs. rules s ((not (is_empty vs), result_count) ∷ []))) (meanings.expr (tuple (more e es) at) (as_meaning taker sc) needs.Consumed) s.line
    ((o_bind (Callable sc) 0 (arguments_long (Callable sc) (more e es) sc needs.Consumed []) (λ vs. o_more (Callable sc) 0 (o_rules (Callable sc) 0 s _) (λ u d h. none_left vs d h.0.0 h.1))).runs c tt)
  where
    none_left : (vs : List Value) (d : Context) → not (is_empty vs) ≡ false → length vs ≡ count es + 1 → Does sc c (meanings.expr (tuple (more e es) at) (as_meaning taker sc) needs.Consumed) d
    none_left [] d n l = absurd (omega (arith, l))
    none_left (v ∷ vs) d n l = clash n

pub every_call_is_fine : (e : Expression) (s : Spot) → ExpressionIsFine e → StatementIsFine (call e s)
every_call_is_fine (number n t) s fine = call_is_fine (number n t) s fine refl
every_call_is_fine (typed_number n k t) s fine = call_is_fine (typed_number n k t) s fine refl
every_call_is_fine (truth b t) s fine = call_is_fine (truth b t) s fine refl
every_call_is_fine (pi t) s fine = call_is_fine (pi t) s fine refl
every_call_is_fine (place p t) s fine = call_is_fine (place p t) s fine refl
every_call_is_fine (called f ss args t) s fine = call_is_fine (called f ss args t) s fine refl
every_call_is_fine (unary op e t) s fine = call_is_fine (unary op e t) s fine refl
every_call_is_fine (binary op a b t) s fine = call_is_fine (binary op a b t) s fine refl
every_call_is_fine (tuple none at) s fine = no_items at s
every_call_is_fine (tuple (more e es) at) s fine = some_items e es at s
