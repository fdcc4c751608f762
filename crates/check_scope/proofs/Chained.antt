-- The types that are written, step by step: what code for each step gives for the whole.
use Rattle.std.specs.Prelude.{◌≡◌, refl, Bool, true, false, ◌||◌, if◌then◌else◌, List, [], ◌∷◌, ◌++◌, Option, Some, None, option_map, is_some, Result, Ok, IfSome, ℤ}
use mathlib.Core.Path.{sym, ap, ◌∙◌}
use Rattle.silq_tree.specs.declared.node.NameId.{NameId}
use Rattle.silq_tree.specs.declared.node.Spot.{Spot}
use Rattle.silq_tree.specs.declared.node.ExprId.{ExprId}
use Rattle.silq_tree.specs.declared.node.TypeNode.{TypeNode}
use Rattle.silq_tree.specs.Standing.{scalar_of, type_of, sized}
use Rattle.silq_tree.specs.Syntax.{Expression, ScalarType}
use Rattle.silq_types.specs.declared.types.Scalar.{Scalar}
use Rattle.silq_types.specs.declared.types.Shape.{Shape}
use Rattle.silq_types.specs.declared.types.Ty.{Ty}
use Rattle.silq_types.specs.Rules.{Fault, and_then}
use Rattle.silq_types.specs.Types.{Statics, first_unknown, scalar_names, size_names}
use Rattle.silq_mean.specs.Written.{value_of, all_known, moved_to, width_of, width_spot, length_of, scalar_by, shape_by, scalar_type, header_type}
use Rattle.check_scope.specs.Faults.{fault_as}
use Rattle.check_scope.specs.Reach.{is_in_reach, type_known}
use Rattle.check_scope.specs.Steps.{IsFirst}
use Rattle.check_scope.specs.declared.fault.CheckFault.{CheckFault}

-- ---- one step, and what comes after

if_some : {A : Type 0} {P Q : A → Type 0} (o : Option A) → ((a : A) → P a → Q a) → IfSome o P → IfSome o Q
if_some (Some a) f p = f a p
if_some None f p = p

pub then_given : {A B : Type 0} (r : Result A Fault) (next : A → Result B Fault) (a : A) → r ≡ Ok a → and_then r next ≡ next a
then_given r next a e = ap (λ x. and_then x next) e

pub then_first : {A B : Type 0} (f : CheckFault) (r : Result A Fault) (next : A → Result B Fault) → IsFirst f r → IsFirst f (and_then r next)
then_first f r next h = if_some (fault_as f) (λ first e. ap (λ x. and_then x next) e) h

pub first_along : {A : Type 0} (f : CheckFault) (r s : Result A Fault) → r ≡ s → IsFirst f s → IsFirst f r
first_along f r s e h = if_some (fault_as f) (λ first p. e ∙ p) h

pub then_later : {A B : Type 0} (f : CheckFault) (r : Result A Fault) (next : A → Result B Fault) (a : A) → r ≡ Ok a → IsFirst f (next a) → IsFirst f (and_then r next)
then_later f r next a e h = first_along f (and_then r next) (next a) (then_given r next a e) h

-- ---- the type of a number

module _ (statics : Statics) (known : NameId → Bool) (k : ScalarType) (s : Spot) where
  pub scalar_unknown : (f : CheckFault) → IsFirst f (all_known (first_unknown known (scalar_names k))) → IsFirst f (scalar_type statics known k s)
  scalar_unknown f h = then_first f (all_known (first_unknown known (scalar_names k))) _ h

  pub scalar_without_width : (f : CheckFault) (u : Unit {0}) → all_known (first_unknown known (scalar_names k)) ≡ Ok u → IsFirst f (width_of statics k (width_spot k s)) → IsFirst f (scalar_type statics known k s)
  scalar_without_width f u e h = then_later f (all_known (first_unknown known (scalar_names k))) _ u e (then_first f (width_of statics k (width_spot k s)) _ h)

  pub scalar_sized : (u : Unit {0}) (w : Option ℤ) → all_known (first_unknown known (scalar_names k)) ≡ Ok u → width_of statics k (width_spot k s) ≡ Ok w → scalar_type statics known k s ≡ scalar_by k w s
  scalar_sized u w e h = then_given (all_known (first_unknown known (scalar_names k))) _ u e ∙ then_given (width_of statics k (width_spot k s)) _ w h

-- ---- a type of a header

or_false : (b : Bool) → (b || false) ≡ b
or_false true = refl
or_false false = refl

same_if : (b c : Bool) (x y : Option Spot) (s : Spot) → b ≡ c → x ≡ y → (if b then x else Some s) ≡ (if c then y else Some s)
same_if b c x y s e h = ap (λ d. if d then x else Some s) e ∙ ap (λ z. if c then z else Some s) h

first_alike : (f g : NameId → Bool) → ((x : NameId) → f x ≡ g x) → (ns : List (NameId × Spot)) → first_unknown f ns ≡ first_unknown g ns
first_alike f g e [] = refl
first_alike f g e (n ∷ ns) = same_if (f n.0) (g n.0) _ _ n.1 (e n.0) (first_alike f g e ns)

abbrev pub shaped : Bool → Shape → Result Ty Fault
shaped c h = Ok (record { classical = c; shape = h })

-- a type by its parts
abbrev pub type_by : Statics → Bool → ScalarType → Option Expression → Spot → Result Ty Fault
type_by statics c k n s =
    and_then (type_known statics k n s) (λ u.
    and_then (width_of statics k s) (λ w.
    and_then (length_of statics n s) (λ l.
    and_then (scalar_by k w s) (λ a.
    and_then (shape_by a l s) (λ h. shaped c h)))))

type_after : Statics → Bool → ScalarType → Option Expression → Spot → Unit {0} → Result Ty Fault
type_after statics c k n s u =
    and_then (width_of statics k s) (λ w.
    and_then (length_of statics n s) (λ l.
    and_then (scalar_by k w s) (λ a.
    and_then (shape_by a l s) (λ h. shaped c h))))

sized_is : (statics : Statics) (at : ExprId → Expression) (t : TypeNode) (o : Option ExprId) (s : Spot)
    → header_type statics (sized at t o) s ≡ type_by statics t.classical (scalar_of at t.scalar) (option_map at o) s
unfolding type_after
sized_is statics at t None s =
    ap (λ o. and_then (all_known (moved_to s o)) (type_after statics t.classical (scalar_of at t.scalar) None s))
    (sym (first_alike (is_in_reach statics []) (λ x. is_some (value_of statics x)) (λ x. or_false (is_some (value_of statics x))) (scalar_names (scalar_of at t.scalar) ++ [])))
sized_is statics at t (Some n) s =
    ap (λ o. and_then (all_known (moved_to s o)) (type_after statics t.classical (scalar_of at t.scalar) (Some (at n)) s))
    (sym (first_alike (is_in_reach statics []) (λ x. is_some (value_of statics x)) (λ x. or_false (is_some (value_of statics x))) (scalar_names (scalar_of at t.scalar) ++ size_names (Some (at n)))))

pub header_type_is : (statics : Statics) (at : ExprId → Expression) (t : TypeNode) (s : Spot)
    → header_type statics (type_of at t) s ≡ type_by statics t.classical (scalar_of at t.scalar) (option_map at t.size) s
header_type_is statics at t s = sized_is statics at t t.size s

module _ (statics : Statics) (c : Bool) (k : ScalarType) (n : Option Expression) (s : Spot) where
  pub type_unknown : (f : CheckFault) → IsFirst f (type_known statics k n s) → IsFirst f (type_by statics c k n s)
  type_unknown f h = then_first f (type_known statics k n s) _ h

  module _ (u : Unit {0}) (e : type_known statics k n s ≡ Ok u) where
    pub type_without_width : (f : CheckFault) → IsFirst f (width_of statics k s) → IsFirst f (type_by statics c k n s)
    type_without_width f h = then_later f (type_known statics k n s) _ u e (then_first f (width_of statics k s) _ h)

    module _ (w : Option ℤ) (ew : width_of statics k s ≡ Ok w) where
      pub type_without_length : (f : CheckFault) → IsFirst f (length_of statics n s) → IsFirst f (type_by statics c k n s)
      type_without_length f h = then_later f (type_known statics k n s) _ u e (then_later f (width_of statics k s) _ w ew (then_first f (length_of statics n s) _ h))

      module _ (l : Option ℤ) (el : length_of statics n s ≡ Ok l) where
        pub type_without_scalar : (f : CheckFault) → IsFirst f (scalar_by k w s) → IsFirst f (type_by statics c k n s)
        type_without_scalar f h =
            then_later f (type_known statics k n s) _ u e (then_later f (width_of statics k s) _ w ew (then_later f (length_of statics n s) _ l el (then_first f (scalar_by k w s) _ h)))

        module _ (a : Scalar) (ea : scalar_by k w s ≡ Ok a) where
          pub type_without_shape : (f : CheckFault) → IsFirst f (shape_by a l s) → IsFirst f (type_by statics c k n s)
          type_without_shape f h =
              then_later f (type_known statics k n s) _ u e (then_later f (width_of statics k s) _ w ew (then_later f (length_of statics n s) _ l el
              (then_later f (scalar_by k w s) _ a ea (then_first f (shape_by a l s) _ h))))

          pub type_given : (h : Shape) → shape_by a l s ≡ Ok h → type_by statics c k n s ≡ shaped c h
          type_given h eh =
              then_given (type_known statics k n s) _ u e ∙ then_given (width_of statics k s) _ w ew ∙ then_given (length_of statics n s) _ l el
              ∙ then_given (scalar_by k w s) _ a ea ∙ then_given (shape_by a l s) _ h eh
