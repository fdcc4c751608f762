-- What the code of statements does in one step.
use Rattle.std.specs.Prelude.{ℕ, List, [], ◌∷◌, Option, Some, None, option_map, not, ◌&&◌, ◌==◌, length, take}
use Rattle.silq_tree.specs.declared.node.ExprId.{ExprId}
use Rattle.silq_tree.specs.declared.node.NameId.{NameId}
use Rattle.silq_types.specs.declared.values.Value.{Value}
use Rattle.silq_types.specs.declared.values.Var.{Var}
use Rattle.silq_tree.specs.declared.node.Spot.{Spot}
use Rattle.silq_tree.specs.Syntax.{Expression, Statement, assign, spread, update, forget, forget_value, phase, choice, loop, return_nothing, return_value, call, done, next}
use Rattle.silq_types.specs.Rules.{rule, bad_return, wrong_type, held_changed, condition_changed, result_count, bad_part}
use Rattle.silq_types.specs.Types.{at, is_held}
use Rattle.silq_mean.specs.Written.{is_empty}
use Rattle.silq_types.specs.declared.types.Ty.{Ty}
use Rattle.silq_types.specs.declared.values.Part.{Part}
use Rattle.check_scope.specs.Context.{Scope, Check, ◌>>=◌, ◌>>◌, give_back, fail, count_statement, rules, variables, put_variables, is_in_condition}
use Rattle.check_expr.specs.Expression.{is_tuple, some_linear, expr, single, suits}
use Rattle.check_fun.specs.Statement.{Target, assigned, assign_to, update_part, forget_name, forget_as, phase_of, returned, bind_name, one_suits, consumed_there, all_at, with_origin, ended_with, stmt, body}
use Rattle.check_fun.specs.Counting.{choice_step, loop_step}
use Rattle.silq_types.specs.declared.need.Need.TheVariants as needs
use Rattle.check_scope.specs.declared.fault.CheckFault.{CheckFault}
use Rattle.check_scope.specs.declared.fault.CheckFault.TheVariants as checks
use Rattle.check_scope.specs.declared.fault.ExprFault.{ExprFault}
use Rattle.check_scope.specs.declared.fault.ExprFault.TheVariants as stops

-- the fault of a check that asks for no instance
abbrev pub fault_in : ExprFault → CheckFault
fault_in (stops.Fault f) = f
fault_in (stops.Wanted k) = checks.Memory

-- the variables where a name is bound to a value, if there is one
abbrev pub next_bound : List Var → NameId → Option Value → List Var
next_bound vars x None = vars
next_bound vars x (Some v) = bind_name vars x v

-- the end of an assignment to a part, which was taken out behind so many variables with this place
abbrev pub put_back : List (List Part) → Target → ℕ → ℕ → Expression → List Value → Spot → Check (Unit {0})
put_back held t count p e vs s = do
  rules (at e) ((is_tuple e, wrong_type) ∷ [])
  one_suits e t.ty vs
  after ← variables
  rules s ((is_held t.owner.origin, held_changed)
      ∷ (is_in_condition held t.part, condition_changed)
      ∷ (not (length vs == 1), result_count)
      ∷ (not (consumed_there after t.part && all_at p vs), bad_part) ∷ [])
  put_variables (with_origin (some_linear vs) (take count after) t.owner.part)

-- an assignment to names as a step, behind the count of the statement
abbrev pub spread_to : Scope → List NameId → Expression → Spot → Check (Unit {0})
spread_to sc xs e s = expr e sc needs.Consumed [] >>= assigned sc s xs

-- a `return` that is not the last statement, and a call as a statement, each behind its count
abbrev pub misplaced_step : Option Expression → Spot → Scope → Check (Unit {0})
misplaced_step None s sc = fail (rule bad_return s)
misplaced_step (Some e) s sc = returned e sc >> fail (rule bad_return s)

abbrev pub unused_step : Expression → Spot → Scope → Check (Unit {0})
unused_step e s sc = expr e sc needs.Consumed [] >>= (λ vs. rules s ((not (is_empty vs), result_count) ∷ []))

-- `forget` by itself, or by a value, behind its count
abbrev pub forget_step : Scope → NameId → Option Expression → Spot → Check (Unit {0})
forget_step sc x None s = forget_name sc x s
forget_step sc x (Some e) s = forget_as sc x e s

-- a statement behind its count
abbrev pub stmt_step : Statement → Scope → Check (Unit {0})
stmt_step (assign p e s) sc = assign_to sc p e s
stmt_step (spread xs e s) sc = spread_to sc xs e s
stmt_step (update p op e s) sc = update_part sc p op e s
stmt_step (forget x s) sc = forget_name sc x s
stmt_step (forget_value x e s) sc = forget_as sc x e s
stmt_step (phase e s) sc = phase_of sc e s
stmt_step (return_nothing s) sc = misplaced_step None s sc
stmt_step (return_value e s) sc = misplaced_step (Some e) s sc
stmt_step (call e s) sc = unused_step e s sc
stmt_step (choice e b other s) sc = choice_step sc e b other
stmt_step (loop x low high b s) sc = loop_step sc x low high b s

-- ---- returned values

-- one value of this type, where just one may stand
abbrev pub lone_value : Expression → List Ty → List Value → Check (List Value)
lone_value e wants vs = do
  v ← single e vs
  suits e wants v
  give_back (v ∷ [])

-- the values of a `return` at the end, behind its count
abbrev pub ended_step : Option Expression → Spot → Scope → Check (Option (List Value))
ended_step None s sc = ended_with sc s []
ended_step (Some e) s sc = returned e sc >>= ended_with sc s

-- the last statement of a body: the value and the place of a `return`, or any other
abbrev pub last_step : (ExprId → Expression) → Option (Option ExprId × Spot) → Statement → Scope → Check (Option (List Value))
last_step at None st sc = stmt st sc >> give_back None
last_step at (Some r) st sc = count_statement >> ended_step (option_map at r.0) r.1 sc

-- the check of a last statement
abbrev pub last_of : Statement → Scope → Check (Option (List Value))
last_of st sc = body (next st done) sc

-- the results, behind the end of a body
abbrev pub has_count : Spot → ℕ → List Value → Check (Unit {0})
has_count s n vs = rules s ((not (length vs == n), bad_return) ∷ [])
