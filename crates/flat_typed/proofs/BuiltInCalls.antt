-- Calls of built-in functions are fine where their arguments are.
use Rattle.std.proofs.Common.{◌≡◌, ◌+◌, List, [], ◌∷◌, ◌++◌, refl, sym, subst, arith}
use Rattle.std.specs.Prelude.{Option, Some}
use Rattle.silq_tree.specs.declared.node.NameId.{NameId}
use Rattle.silq_tree.specs.declared.node.Spot.{Spot}
use Rattle.silq_tree.specs.Syntax.{Expression, Expressions, called, none, more}
use Rattle.silq_types.specs.declared.built_in.BuiltIn.{BuiltIn}
use Rattle.silq_types.specs.declared.built_in.BuiltIn.TheVariants.{HGate, XGate, YGate, ZGate, Dup, Measure, Vector, RotateX, RotateY, RotateZ}
use Rattle.silq_types.specs.declared.types.Ty.{Ty}
use Rattle.silq_types.specs.declared.need.Need.{Need}
use Rattle.silq_types.specs.declared.need.Need.TheVariants as needs
use Rattle.silq_types.specs.Calls.{built_in, find_fun, needs_of_found, needs_of_built_in}
use Rattle.check_scope.specs.Context.{Scope, Context, ◌>>◌}
use Rattle.check_scope.specs.Uses.{uses, all_uses}
use Rattle.check_expr.specs.Expression.{call_built_in, call_found, vector_value, expr, arguments, later_arguments}
use Rattle.check_expr.specs.Owners.{Ensures}
use Rattle.check_expr.proofs.Owners.{o_then, o_more, o_fail}
use Rattle.silq_mean.specs.declared.receiver.Receiver.{Receiver}
use Rattle.silq_mean.specs.Effect.{◌>>◌ as ◌▸◌}
use Rattle.silq_mean.specs.Meaning as meanings
use Rattle.flat_typed.specs.Scopes.{as_meaning, NoStatics}
use Rattle.flat_typed.specs.Lemmas.{Callable, ExprFine, EachIsFine}
use Rattle.flat_typed.specs.BuiltIns.{BuiltInIsFine}
use Rattle.flat_typed.proofs.GateWalks.{Allowed, allowed, CallTells, no_more_statics, x_call, y_call, z_call, h_call, measure_call, dup_call}
use Rattle.flat_typed.proofs.VectorCalls.{vector_walk}

module _ (sc : Scope) (taker : Ty → Receiver) (need : Need) (wants : List Ty) (c : Context) (s : Spot) (free : NoStatics sc c.vars) where
  vector_call : (ss args : Expressions) → EachIsFine args → Ensures (Callable sc) (λ d. d ≡ c) (call_built_in sc Vector ss args s need (λ l. arguments args sc needs.Held l) (later_arguments args sc)) (λ vs d. CallTells sc taker need wants c s Vector ss args vs d)
  vector_call ss args fine = o_then (Callable sc) 0 (allowed (Callable sc) sc Vector ss args 2 s) (λ u. record { runs = λ d h. (rest args fine h.0).runs d h.1 })
    where
      rest : (args : Expressions) → EachIsFine args → Allowed sc Vector ss args 2 → Ensures (Callable sc) (λ d. d ≡ c) (vector_value sc s args (later_arguments args sc)) (λ vs d. CallTells sc taker need wants c s Vector ss args vs d)
      rest none fine a = absurd (let e = a.arguments in omega (arith, e))
      rest (more x none) fine a = absurd (let e = a.arguments in omega (arith, e))
      rest (more x (more y (more z es))) fine a = absurd (let e = a.arguments in omega (arith, e))
      rest (more x (more y none)) fine a =
          o_more (Callable sc) 0 (vector_walk sc taker need wants c s x y fine.1.0 free)
          (λ vs d h. no_more_statics sc taker need wants c s Vector ss (more x (more y none)) vs d a.no_statics h)

  built_in_call : (b : BuiltIn) (ss args : Expressions) → EachIsFine args → Ensures (Callable sc) (λ d. d ≡ c) (call_built_in sc b ss args s need (λ l. arguments args sc needs.Held l) (later_arguments args sc)) (λ vs d. CallTells sc taker need wants c s b ss args vs d)
  built_in_call XGate ss args fine = x_call sc taker need wants c s ss args fine free
  built_in_call YGate ss args fine = y_call sc taker need wants c s ss args fine free
  built_in_call ZGate ss args fine = z_call sc taker need wants c s ss args fine free
  built_in_call HGate ss args fine = h_call sc taker need wants c s ss args fine free
  built_in_call Measure ss args fine = measure_call sc taker need wants c s ss args fine free
  built_in_call Dup ss args fine = dup_call sc taker need wants c s ss args fine free
  built_in_call Vector ss args fine = vector_call ss args fine
  built_in_call RotateX ss args fine = o_fail (Callable sc) 0 _
  built_in_call RotateY ss args fine = o_fail (Callable sc) 0 _
  built_in_call RotateZ ss args fine = o_fail (Callable sc) 0 _

pub built_in_is_fine : BuiltInIsFine
built_in_is_fine f ss args s fine sc taker need wants c free b e =
    subst (λ (o : Option BuiltIn). ExprFine sc need wants c (call_found sc o (find_fun sc.before f) ss args s need (λ l. arguments args sc needs.Held l) (later_arguments args sc))
    (meanings.exprs args (as_meaning taker sc) needs.Held (needs_of_found o (find_fun sc.before f)) (meanings.parameters_of o (find_fun sc.before f) (meanings.static_values ss sc.statics)) ▸ meanings.called (as_meaning taker sc) o f ss)
    (all_uses ss sc c.vars [] ++ all_uses args sc c.vars (needs_of_found o (find_fun sc.before f)))) (sym e)
    ((built_in_call sc taker need wants c s free b ss args fine).runs c refl)
