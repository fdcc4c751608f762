-- The steps of a target.
use Rattle.std.specs.Prelude.{◌≡◌, refl, ℕ, not, List, [], ◌∷◌, Option, Some, None, ℤ}
use mathlib.Core.Path.{sym, ap, ◌∙◌, subst}
use Rattle.silq_tree.specs.declared.node.ExprId.{ExprId}
use Rattle.silq_tree.specs.declared.node.NameId.{NameId}
use Rattle.silq_tree.specs.declared.node.PlaceNode.{PlaceNode}
use Rattle.silq_tree.specs.declared.node.Spot.{Spot}
use Rattle.silq_tree.specs.Syntax.{Expression, Place}
use Rattle.silq_tree.specs.Standing.{place_of, part_of}
use Rattle.silq_types.specs.Types.{place_name, place_indices}
use Rattle.silq_types.specs.Rules.{rule, unknown_name, used_after_move}
use Rattle.silq_types.specs.declared.types.Ty.{Ty}
use Rattle.silq_types.specs.declared.values.Part.{Part}
use Rattle.silq_types.specs.declared.values.Var.{Var}
use Rattle.check_scope.specs.Walk.{Counts, Checker}
use Rattle.check_scope.specs.Context.{Scope, Check, ◌>>=◌, ◌>>◌, rules, fail, variables, all_needed, is_known_name, part_at, part_type, indices, find_var, variable}
use Rattle.check_fun.specs.Counting.{Stays, Runs, Fails}
use Rattle.check_scope.specs.State.{State, context_of}
use Rattle.check_fun.specs.Statement.{Target, target, target_of, target_type}
use Rattle.check_scope.specs.declared.fault.CheckFault.{CheckFault}
use Rattle.check_fun.proofs.Counted.{runs_bind, runs_then, runs_variables, fails_bind, fails_then, fails_later, fails_after}

name_of_part : (at : ExprId → Expression) (x : NameId) (i j : Option ExprId) → place_name (part_of at x i j) ≡ x
name_of_part at x None j = refl
name_of_part at x (Some i) None = refl
name_of_part at x (Some i) (Some j) = refl

pub name_of_place : (at : ExprId → Expression) (p : PlaceNode) → place_name (place_of at p) ≡ p.name
name_of_place at p = name_of_part at p.name p.first p.second

module _ (check : Checker) (sc : Scope) (written : Place) (s : Spot) (other : ℕ) (x : NameId) (same : place_name written ≡ x) (p : Part) (is : p ≡ part_at x (indices p)) (old : State) (c : Counts) where
  pub runs_target : (t : Target) → Runs check (all_needed (place_indices written) sc) old c (indices p) old c → Runs check (rules s ((not (is_known_name sc old.vars x), unknown_name) ∷ [])) old c tt old c
      → Runs check (target_of s other p (find_var old.vars (variable x))) old c t old c → Runs check (target sc written s other) old c t old c
  runs_target t q r o =
      runs_bind check _ _ old old old c c c (indices p) t q
      (runs_bind check variables _ old old old c c c old.vars t (runs_variables check old c)
      (subst (λ (y : NameId). Runs check (rules s ((not (is_known_name sc old.vars y), unknown_name) ∷ []) >> target_of s other (part_at y (indices p)) (find_var old.vars (variable y))) old c t old c) (sym same)
      (runs_then check _ _ old old old c c c tt t r
      (subst (λ (z : Part). Runs check (target_of s other z (find_var old.vars (variable x))) old c t old c) is o))))

  pub fails_target_first : (f : CheckFault) → Fails check (all_needed (place_indices written) sc) old c f → Fails check (target sc written s other) old c f
  fails_target_first f q = fails_bind check _ _ old c f q

  pub fails_target_name : (f : CheckFault) → Runs check (all_needed (place_indices written) sc) old c (indices p) old c → Fails check (rules s ((not (is_known_name sc old.vars x), unknown_name) ∷ [])) old c f → Fails check (target sc written s other) old c f
  fails_target_name f q r =
      fails_later check _ _ old old c c (indices p) f q
      (fails_later check variables _ old old c c old.vars f (runs_variables check old c)
      (subst (λ (y : NameId). Fails check (rules s ((not (is_known_name sc old.vars y), unknown_name) ∷ []) >> target_of s other (part_at y (indices p)) (find_var old.vars (variable y))) old c f) (sym same)
      (fails_then check _ _ old c f r)))

  pub fails_target_owner : (f : CheckFault) → Runs check (all_needed (place_indices written) sc) old c (indices p) old c → Runs check (rules s ((not (is_known_name sc old.vars x), unknown_name) ∷ [])) old c tt old c
      → Fails check (target_of s other p (find_var old.vars (variable x))) old c f → Fails check (target sc written s other) old c f
  fails_target_owner f q r o =
      fails_later check _ _ old old c c (indices p) f q
      (fails_later check variables _ old old c c old.vars f (runs_variables check old c)
      (subst (λ (y : NameId). Fails check (rules s ((not (is_known_name sc old.vars y), unknown_name) ∷ []) >> target_of s other (part_at y (indices p)) (find_var old.vars (variable y))) old c f) (sym same)
      (fails_after check _ _ old old c c tt f r
      (subst (λ (z : Part). Fails check (target_of s other z (find_var old.vars (variable x))) old c f) is o))))

module _ (check : Checker) (s : Spot) (other : ℕ) (p : Part) (v : Var) (found : Option Var) (is : found ≡ Some v) (old : State) (c : Counts) where
  pub runs_owned : (t : Target) → Runs check (rules s ((v.consumed, used_after_move) ∷ [])) old c tt old c → Runs check (target_type s p v (part_type v.ty.classical v.ty.shape (indices p))) old c t old c → Runs check (target_of s other p found) old c t old c
  runs_owned t r o = rw is (runs_then check _ _ old old old c c c tt t r o)

  pub fails_owned_moved : (f : CheckFault) → Fails check (rules s ((v.consumed, used_after_move) ∷ [])) old c f → Fails check (target_of s other p found) old c f
  fails_owned_moved f r = rw is (fails_then check _ _ old c f r)

  pub fails_owned_typed : (f : CheckFault) → Runs check (rules s ((v.consumed, used_after_move) ∷ [])) old c tt old c → Fails check (target_type s p v (part_type v.ty.classical v.ty.shape (indices p))) old c f → Fails check (target_of s other p found) old c f
  fails_owned_typed f r o = rw is (fails_after check _ _ old old c c tt f r o)
