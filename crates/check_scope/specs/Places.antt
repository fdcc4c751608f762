-- A use of a place: a variable, or a part of one.
use Rattle.std.specs.Prelude.{Bool, true, false, not, ◌&&◌, ◌||◌, if◌then◌else◌, List, [], ◌∷◌, Option, Some, None}
use Rattle.silq_tree.specs.declared.node.Spot.{Spot}
use Rattle.silq_tree.specs.Syntax.{Place}
use Rattle.silq_types.specs.declared.types.Ty.{Ty}
use Rattle.silq_types.specs.declared.values.Origin.{Origin}
use Rattle.silq_types.specs.declared.values.Origin.TheVariants.{Classical}
use Rattle.silq_types.specs.declared.values.Value.{Value}
use Rattle.silq_types.specs.declared.values.Part.{Part}
use Rattle.silq_types.specs.declared.values.Var.{Var}
use Rattle.silq_types.specs.Rules.{rule, unknown_name, used_after_move, held_changed, condition_changed, bad_part}
use Rattle.silq_types.specs.Types.{place_name, place_indices, is_held}
use Rattle.silq_mean.specs.Written.{is_empty}
use Rattle.silq_types.specs.declared.need.Need.{Need}
use Rattle.silq_types.specs.declared.need.Need.TheVariants as needs
use Rattle.check_scope.specs.Walk.{answer}
use Rattle.check_scope.specs.Context.{Scope, Check, ◌>>=◌, ◌>>◌, give_back, fail, rules, variables, new_place, part_at, variable, indices, overlaps, same_part, is_in_condition, find_var, replace, is_known_name, part_type, all_needed}
use Rattle.silq_types.specs.Calls.{is_consumed}

-- a value with a new place
abbrev pub new_value : Ty → Origin → Check Value
new_value t o = do
  p ← new_place
  give_back (record { ty = t; origin = o; place = p })

-- a consumed use of a quantum value moves it; a classical one is copied
abbrev pub is_moved : Need → Ty → Bool
is_moved need t = is_consumed need && not t.classical

-- another variable than p itself that was taken out for an element assignment overlaps p
abbrev pub disturbs : List Var → Part → Bool
disturbs [] p = false
disturbs (v ∷ vs) p = (not (is_empty (indices v.part)) && not (same_part v.part p) && overlaps v.part p) || disturbs vs p

abbrev pub value_in : Ty → Var → Check Value
value_in t v = give_back (record { ty = t; origin = v.origin; place = v.place })

-- the variable is consumed, and its value goes on with its place
abbrev pub move : Ty → Var → Check Value
move t v = λ c. answer (record { ty = t; origin = v.origin; place = v.place }, record c { vars = replace c.vars (record v { consumed = true }) })

-- a held use leaves the variable; a classical value is copied, and the copy has a new place
abbrev pub unmoved : Need → Ty → Var → Check Value
unmoved needs.Held t v = value_in t v
unmoved needs.Consumed t v = new_value t Classical

abbrev pub use_rules : Scope → Spot → Need → Part → Var → Bool → Check (Unit {0})
use_rules sc s need p v bad =
    rules s ((v.consumed, used_after_move)
    ∷ (is_moved need v.ty && is_held v.origin, held_changed)
    ∷ (is_moved need v.ty && is_in_condition sc.held p, condition_changed)
    ∷ (bad, bad_part) ∷ [])

-- a part of a variable that is not taken out
abbrev pub use_part : Scope → Spot → Need → Part → Var → List Var → Option Ty → Check Value
use_part sc s need p v vars None = use_rules sc s need p v true >> fail (rule bad_part s)
use_part sc s need p v vars (Some t) = use_rules sc s need p v (disturbs vars p || is_moved need v.ty) >> unmoved need t v

abbrev pub use_found : Scope → Spot → Need → Part → List Var → Option Var → Option Var → Check Value
use_found sc s need p vars (Some v) w = use_rules sc s need p v (disturbs vars p) >> (if is_moved need v.ty then move v.ty v else unmoved need v.ty v)
use_found sc s need p vars None (Some w) = use_part sc s need p w vars (part_type w.ty.classical w.ty.shape (indices p))
use_found sc s need p vars None None = fail (rule bad_part s)

abbrev pub use_place : Scope → Place → Spot → Need → Check Value
use_place sc written s need = do
  values ← all_needed (place_indices written) sc
  vars ← variables
  rules s ((not (is_known_name sc vars (place_name written)), unknown_name) ∷ [])
  let p : Part = part_at (place_name written) values
  use_found sc s need p vars (find_var vars p) (find_var vars (variable (place_name written)))
