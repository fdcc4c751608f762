-- A walk leaves the types of the variables, and what is told by them.
use Rattle.std.specs.Prelude.{◌≡◌, refl, Bool, true, false, cond, List, [], ◌∷◌, Option, Some, None, option_map, is_some, ◌||◌}
use mathlib.Core.Path.{sym, ap, ◌∙◌}
use Rattle.check_expr.proofs.Alike.{some_same, same_part_refl}
use Rattle.check_expr.proofs.Owners.{found_part}
use Rattle.check_expr.specs.Shapes.{var_type}
use Rattle.check_scope.specs.Context.{Scope, find_var, replace, same_part, is_known_name, variable}
use Rattle.silq_tree.specs.Syntax.{ScalarType}
use Rattle.silq_tree.specs.declared.node.NameId.{NameId}
use Rattle.silq_tree.specs.declared.node.Spot.{Spot}
use Rattle.silq_types.specs.Rules.{and_then}
use Rattle.silq_mean.specs.Written.{value_of, all_known, width_of, width_spot, scalar_by, scalar_type}
use Rattle.silq_types.specs.Types.{first_unknown, scalar_names}
use Rattle.silq_types.specs.declared.types.Ty.{Ty}
use Rattle.silq_types.specs.declared.values.Part.{Part}
use Rattle.silq_types.specs.declared.values.Var.{Var}

abbrev ty_in : Option Var → Option Ty
ty_in o = option_map (λ (v : Var). v.ty) o

abbrev spent : Var → Var
spent v = record v { consumed = true }

ty_found : (b : Bool) (v w : Var) (o p : Option Var) → v.ty ≡ w.ty → ty_in o ≡ ty_in p → ty_in (cond b (Some v) o) ≡ ty_in (cond b (Some w) p)
ty_found true v w o p e f = ap (λ (t : Ty). Some t) e
ty_found false v w o p e f = f

-- a variable that is consumed keeps its type
pub consumed_type : (vars : List Var) (q : Part) (v : Var) → find_var vars q ≡ Some v → (p : Part) → var_type (replace vars (record v { consumed = true })) p ≡ var_type vars p
consumed_type [] q v e p = refl
consumed_type (w ∷ ws) q v e p = go (λ f. consumed_type ws q v f p) (same_part w.part q) refl e
  where
    here : w ≡ v → ty_in (find_var (cond (same_part w.part v.part) (spent v ∷ ws) (w ∷ replace ws (spent v))) p) ≡ ty_in (find_var (w ∷ ws) p)
    here same =
        ap (λ b. ty_in (find_var (cond b (spent v ∷ ws) (w ∷ replace ws (spent v))) p)) (ap (λ (x : Var). same_part x.part v.part) same ∙ same_part_refl v.part)
        ∙ ty_found (same_part v.part p) (spent v) v (find_var ws p) (find_var ws p) refl refl
        ∙ ap (λ (x : Var). ty_in (find_var (x ∷ ws) p)) (sym same)

    there : same_part w.part v.part ≡ false → ty_in (find_var (replace ws (spent v)) p) ≡ ty_in (find_var ws p) → ty_in (find_var (cond (same_part w.part v.part) (spent v ∷ ws) (w ∷ replace ws (spent v))) p) ≡ ty_in (find_var (w ∷ ws) p)
    there h ih =
        ap (λ b. ty_in (find_var (cond b (spent v ∷ ws) (w ∷ replace ws (spent v))) p)) h
        ∙ ty_found (same_part w.part p) w w (find_var (replace ws (spent v)) p) (find_var ws p) refl ih

    go : (find_var ws q ≡ Some v → ty_in (find_var (replace ws (spent v)) p) ≡ ty_in (find_var ws p)) → (b : Bool) → same_part w.part q ≡ b → cond b (Some w) (find_var ws q) ≡ Some v → ty_in (find_var (cond (same_part w.part v.part) (spent v ∷ ws) (w ∷ replace ws (spent v))) p) ≡ ty_in (find_var (w ∷ ws) p)
    go ih true h f = here (some_same w v f)
    go ih false h f = there (ap (λ x. same_part w.part x) (found_part ws q v f) ∙ h) (ih f)

-- the same parts have the same types
pub record SameTypes (old now : List Var) : Type 0 where
  pub types : (p : Part) → var_type now p ≡ var_type old p

some_type : (o : Option Var) → is_some (ty_in o) ≡ is_some o
some_type None = refl
some_type (Some v) = refl

known_same : (sc : Scope) (old now : List Var) → SameTypes old now → (x : NameId) → is_known_name sc now x ≡ is_known_name sc old x
known_same sc old now s x =
    ap (λ b. is_some (value_of sc.statics x) || b)
    (sym (some_type (find_var now (variable x))) ∙ ap (λ o. is_some o) (s.types (variable x)) ∙ some_type (find_var old (variable x)))

unknown_same : (f g : NameId → Bool) → ((x : NameId) → f x ≡ g x) → (ns : List (NameId × Spot)) → first_unknown f ns ≡ first_unknown g ns
unknown_same f g h [] = refl
unknown_same f g h (n ∷ ns) = ap (λ b. cond b (first_unknown f ns) (Some n.1)) (h n.0) ∙ ap (λ o. cond (g n.0) o (Some n.1)) (unknown_same f g h ns)

pub scalar_same : (sc : Scope) (old now : List Var) → SameTypes old now → (k : ScalarType) (s : Spot) → scalar_type sc.statics (is_known_name sc now) k s ≡ scalar_type sc.statics (is_known_name sc old) k s
scalar_same sc old now h k s =
    ap (λ o. and_then (all_known o) (λ u. and_then (width_of sc.statics k (width_spot k s)) (λ w. scalar_by k w s)))
    (unknown_same (is_known_name sc now) (is_known_name sc old) (known_same sc old now h) (scalar_names k))
