-- Uses of parts that are there, which typing gives of each use of an accepted expression.
use Rattle.std.specs.Prelude.{◌≡◌, true, false, List, Some, ⊤}
use Rattle.silq_tree.specs.declared.node.Spot.{Spot}
use Rattle.silq_tree.specs.Syntax.{Place, Expression}
use Rattle.silq_types.specs.declared.types.Ty.{Ty}
use Rattle.silq_types.specs.declared.values.Part.{Part}
use Rattle.silq_types.specs.declared.values.Value.{Value}
use Rattle.silq_types.specs.declared.values.Var.{Var}
use Rattle.silq_types.specs.Types.{place_name, place_indices}
use Rattle.silq_types.specs.declared.need.Need.{Need}
use Rattle.silq_types.specs.Calls.{is_consumed}
use Rattle.check_scope.specs.declared.uses.Use.{Use}
use Rattle.check_scope.specs.Context.{Scope, Context, indices, variable, part_at, find_var, part_type, is_in_condition}
use Rattle.check_scope.specs.Places.{disturbs, use_place}
use Rattle.check_scope.specs.Uses.{uses, place_use, both_consume, consume_and_hold}
use Rattle.check_expr.specs.Expression.{is_tuple, expr}
use Rattle.check_expr.specs.Owners.{Gives}
use Rattle.flat_core.specs.declared.step.WireId.{WireId}
use Rattle.flat_form.specs.declared.known.Known.{Known}
use Rattle.flat_form.specs.State.{Flattening, wires_so_far}
use Rattle.flat_form.specs.Names.{AllOf, names}
use Rattle.flat_typed.specs.Places.{Places, is_shared}
use Rattle.flat_typed.specs.Footprint.{used_wires, consumed_wires, Within}
use Rattle.flat_typed.specs.Relation.{FitsPart, Outside, Stands}
use Rattle.flat_typed.specs.Scopes.{NoStatics}
use Rattle.flat_typed.specs.Done.{kinds, changeable}

-- the variable is not consumed, the index values lead to a part of it, and no part that was taken out overlaps this one. Where it is consumed, its
-- variable has wires of its own, and no condition in force holds the part.
pub record IsThere (held : List (List Part)) (vars : List Var) (u : Use) : Type 0 where
  pub owner : Var
  pub found : find_var vars (variable u.part.name) ≡ Some owner
  pub live : owner.consumed ≡ false
  pub kind : (t : Ty) × (part_type owner.ty.classical owner.ty.shape (indices u.part) ≡ Some t)
  pub clear : disturbs vars u.part ≡ false
  pub here : (v : Var) → find_var vars u.part ≡ Some v → v.consumed ≡ false
  pub own : is_consumed u.need ≡ true → is_shared owner ≡ false
  pub loose : is_consumed u.need ≡ true → is_in_condition held (part_at u.part.name (indices u.part)) ≡ false

-- what a value of the first uses names is no wire that the second uses consume
abbrev pub OperandsApart : Type 0
OperandsApart =
    (out : Outside) (held : List (List Part)) (W : Places) (under : List Value) (c : Context) (s : Flattening) (us vs : List Use) (k : Known) →
    Stands out held W under c s → AllOf (IsThere held c.vars) us → AllOf (IsThere held c.vars) vs →
    both_consume us vs ≡ false → consume_and_hold us vs ≡ false →
    Within (used_wires W c.vars us) (wires_so_far s) k →
    (w : WireId) → consumed_wires W c.vars vs w ≡ true → names k w ≡ false

-- what is consumed may be changed
abbrev pub ConsumedMayChange : Type 0
ConsumedMayChange =
    (out : Outside) (held : List (List Part)) (W : Places) (under : List Value) (c : Context) (s : Flattening) (us : List Use) →
    Stands out held W under c s → AllOf (IsThere held c.vars) us →
    (w : WireId) → consumed_wires W c.vars us w ≡ true → changeable out W c.vars under w ≡ true

-- the part that the use of a place names is there
abbrev pub PlacesAreThere : Type 0
PlacesAreThere =
    (w : Place) (s : Spot) (sc : Scope) (need : Need) (c : Context) →
    Gives (λ k s. ⊤)
    (λ r. (W : Places) → AllOf (FitsPart W c.vars) c.vars → AllOf (IsThere sc.held c.vars) (place_use sc.statics (find_var c.vars (variable (place_name w))) (place_indices w) need))
    (use_place sc w s need c)

-- the parts that an expression uses are there, and it leaves the parts, types and places of all variables
abbrev pub UsesAreThere : Type 0
UsesAreThere =
    (e : Expression) (sc : Scope) (need : Need) (wants : List Ty) (c : Context) → is_tuple e ≡ false → NoStatics sc c.vars →
    Gives (λ k s. ⊤)
    (λ r. (W : Places) → AllOf (FitsPart W c.vars) c.vars →
    AllOf (IsThere sc.held c.vars) (uses e sc c.vars need) × ((kinds r.1.vars ≡ kinds c.vars) × AllOf (FitsPart W r.1.vars) r.1.vars))
    (expr e sc need wants c)
