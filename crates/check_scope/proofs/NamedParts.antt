-- The parts that a node's places and arguments name.
use Rattle.std.specs.Prelude.{◌≡◌, refl, ℕ, List, [], ◌∷◌, ◌++◌, Option, Some, None, map}
use mathlib.Core.Path.{◌∙◌, ap, sym}
use Rattle.std.proofs.lemmas.List.{append-nil}
use Rattle.std.proofs.Common.{append_assoc}
use Rattle.silq_tree.specs.declared.node.NameId.{NameId}
use Rattle.silq_tree.specs.declared.node.Spot.{Spot}
use Rattle.silq_tree.specs.declared.node.ExprId.{ExprId}
use Rattle.silq_tree.specs.declared.node.StmtId.{StmtId}
use Rattle.silq_tree.specs.declared.node.Fun.{Fun}
use Rattle.silq_tree.specs.declared.node.PlaceNode.{PlaceNode}
use Rattle.silq_tree.specs.declared.node.ParamNode.{ParamNode}
use Rattle.silq_tree.specs.Syntax.{Expression, Statement, place, Function}
use Rattle.silq_tree.specs.Standing.{place_of, part_of, param_of, fun_grown}
use Rattle.silq_types.specs.declared.values.Var.{Var}
use Rattle.silq_types.specs.Types.{place_indices}
use Rattle.silq_types.specs.declared.need.Need.{Need}
use Rattle.silq_types.specs.declared.need.Need.TheVariants as needs
use Rattle.check_scope.specs.Context.{Scope, find_var, variable}
use Rattle.check_scope.specs.Used.{node_need}
use Rattle.check_scope.specs.Uses.{uses, all_uses, place_use}
use Rattle.silq_types.specs.Calls.{param_need, needs_of_own}
use Rattle.check_scope.specs.Library.{Shelf, function_at, found_at}

pub part_uses_are : (at : ExprId → Expression) (x : NameId) (i j : Option ExprId) (s : Spot) (sc : Scope) (vars : List Var) (need : Need)
    → uses (place (part_of at x i j) s) sc vars need
    ≡ place_use sc.statics (find_var vars (variable x)) (place_indices (part_of at x i j)) need ++ all_uses (place_indices (part_of at x i j)) sc vars []
part_uses_are at x None j s sc vars need = sym (append-nil (place_use sc.statics (find_var vars (variable x)) (place_indices (part_of at x None j)) need))
part_uses_are at x (Some i) None s sc vars need = ap (λ us. place_use sc.statics (find_var vars (variable x)) (place_indices (part_of at x (Some i) None)) need ++ us) (sym (append-nil (uses (at i) sc vars needs.Held)))
part_uses_are at x (Some i) (Some j) s sc vars need = simp (append-nil, append_assoc)

-- the uses of a place are its own part, and those of its indices
pub place_uses_are : (at : ExprId → Expression) (p : PlaceNode) (s : Spot) (sc : Scope) (vars : List Var) (need : Need)
    → uses (place (place_of at p) s) sc vars need
    ≡ place_use sc.statics (find_var vars (variable p.name)) (place_indices (place_of at p)) need ++ all_uses (place_indices (place_of at p)) sc vars []
place_uses_are at p s sc vars need = part_uses_are at p.name p.first p.second s sc vars need

pub param_needs_are : (at : ExprId → Expression) (f : Function) (ps : List ParamNode) → map (param_need f) (map (param_of at) ps) ≡ map (node_need f.mark) ps
param_needs_are at f [] = refl
param_needs_are at f (p ∷ ps) = ap (λ ns. node_need f.mark p ∷ ns) (param_needs_are at f ps)

-- a found function asks what its node tells
pub own_needs_are : (at : ExprId → Expression) (stmt : StmtId → Statement) (l : Shelf) (n : ℕ) (g : Fun)
    → function_at l n ≡ fun_grown at stmt g → needs_of_own (Some (found_at l n)) ≡ map (node_need g.mark) g.params
own_needs_are at stmt l n g e = ap (λ (f : Function). map (param_need f) f.params) e ∙ param_needs_are at (fun_grown at stmt g) g.params
