-- The parts that an expression names, read without checking it: each held or consumed.
use Rattle.std.specs.Prelude.{Bool, false, not, ◌&&◌, ◌||◌, if◌then◌else◌, List, [], ◌∷◌, ◌++◌, map, Option, Some, None, is_some, Result, Ok, ℤ}
use Rattle.silq_tree.specs.declared.node.NameId.{NameId}
use Rattle.silq_tree.specs.Syntax.{Expression, Expressions, ScalarType, number, typed_number, truth, pi, place, called, tuple, unary, binary, none, more, bit, uint, int, whole, part, part_of_part}
use Rattle.static_num.specs.declared.values.StaticFault.{StaticFault}
use Rattle.static_num.specs.Static.{eval_of}
use Rattle.silq_types.specs.declared.values.Part.{Part}
use Rattle.silq_types.specs.declared.values.Var.{Var}
use Rattle.silq_types.specs.Types.{Statics}
use Rattle.silq_types.specs.Calls.{is_consumed, built_in, find_fun, needs_of_found, first_need, later_needs}
use Rattle.silq_types.specs.declared.need.Need.{Need}
use Rattle.check_scope.specs.declared.uses.Use.{Use}
use Rattle.silq_types.specs.declared.need.Need.TheVariants as needs
use Rattle.check_scope.specs.Context.{Scope, part_at, variable, overlaps, find_var, part_type}

abbrev pub needs_of : Scope → NameId → List Need
needs_of sc f = needs_of_found (built_in sc.words f) (find_fun sc.before f)

-- ---- reading

abbrev pub with_index : Result ℤ StaticFault → Option (List ℤ) → Option (List ℤ)
with_index (Ok v) (Some vs) = Some (v ∷ vs)
with_index a b = None

abbrev pub index_values : Statics → Expressions → Option (List ℤ)
index_values statics none = Some []
index_values statics (more e es) = with_index (eval_of statics e) (index_values statics es)

abbrev pub part_or_whole : Var → Option (List ℤ) → Part
part_or_whole v None = v.part
part_or_whole v (Some vs) = if is_some (part_type v.ty.classical v.ty.shape vs) then part_at v.part.name vs else v.part

-- a place whose index is not static, fails or is out of range counts as its whole variable
abbrev pub named_part : Statics → Var → Expressions → Part
named_part statics v is = part_or_whole v (index_values statics is)

abbrev pub place_use : Statics → Option Var → Expressions → Need → List Use
place_use statics None is need = []
place_use statics (Some v) is need = record { part = named_part statics v is; need = if v.ty.classical then needs.Held else need } ∷ []

abbrev mutual
  pub uses : Expression → Scope → List Var → Need → List Use
  uses (number n s) sc vars need = []
  uses (typed_number n k s) sc vars need = scalar_uses k sc vars
  uses (truth b s) sc vars need = []
  uses (pi s) sc vars need = []
  uses (place (whole x) s) sc vars need = place_use sc.statics (find_var vars (variable x)) none need
  uses (place (part x i) s) sc vars need = place_use sc.statics (find_var vars (variable x)) (more i none) need ++ uses i sc vars needs.Held
  uses (place (part_of_part x i j) s) sc vars need =
      place_use sc.statics (find_var vars (variable x)) (more i (more j none)) need ++ uses i sc vars needs.Held ++ uses j sc vars needs.Held
  uses (called f ss args s) sc vars need = all_uses ss sc vars [] ++ all_uses args sc vars (needs_of sc f)
  uses (tuple es s) sc vars need = all_uses es sc vars []
  uses (unary op e s) sc vars need = uses e sc vars needs.Held
  uses (binary op a b s) sc vars need = uses a sc vars needs.Held ++ uses b sc vars needs.Held

  pub all_uses : Expressions → Scope → List Var → List Need → List Use
  all_uses none sc vars needs = []
  all_uses (more e es) sc vars needs = uses e sc vars (first_need needs) ++ all_uses es sc vars (later_needs needs)

  pub scalar_uses : ScalarType → Scope → List Var → List Use
  scalar_uses bit sc vars = []
  scalar_uses (uint e) sc vars = uses e sc vars needs.Held
  scalar_uses (int e) sc vars = uses e sc vars needs.Held

-- one list for each argument of a call
abbrev pub argument_uses : Expressions → Scope → List Var → List Need → List (List Use)
argument_uses none sc vars needs = []
argument_uses (more e es) sc vars needs = uses e sc vars (first_need needs) ∷ argument_uses es sc vars (later_needs needs)

abbrev pub parts_of : List Use → List Part
parts_of us = map (λ (u : Use). u.part) us

-- ---- overlaps between two arguments, or two operands

abbrev pub meets : (Need → Bool) → Part → List Use → Bool
meets wanted p [] = false
meets wanted p (u ∷ us) = (wanted u.need && overlaps p u.part) || meets wanted p us

-- some part that the first list consumes overlaps one of the second with such a need
abbrev pub clash : (Need → Bool) → List Use → List Use → Bool
clash wanted [] vs = false
clash wanted (u ∷ us) vs = (is_consumed u.need && meets wanted u.part vs) || clash wanted us vs

abbrev pub is_only_held : Need → Bool
is_only_held n = not (is_consumed n)

abbrev pub both_consume : List Use → List Use → Bool
both_consume us vs = clash is_consumed us vs

abbrev pub consume_and_hold : List Use → List Use → Bool
consume_and_hold us vs = clash is_only_held us vs || clash is_only_held vs us

abbrev pub some_with : (List Use → List Use → Bool) → List Use → List (List Use) → Bool
some_with test us [] = false
some_with test us (vs ∷ rest) = test us vs || some_with test us rest

abbrev pub some_pair : (List Use → List Use → Bool) → List (List Use) → Bool
some_pair test [] = false
some_pair test (us ∷ rest) = some_with test us rest || some_pair test rest

-- one operand consumes what the other holds
abbrev pub operand_clash : Scope → Expression → Expression → List Var → Bool
operand_clash sc a b vars = consume_and_hold (uses a sc vars needs.Held) (uses b sc vars needs.Held)
