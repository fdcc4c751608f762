-- Changes of variables, and what undoes them.
use Rattle.std.proofs.Common.{◌≡◌, refl, ℕ, ◌<◌, List, [], ◌∷◌, ◌++◌, Some, ◌∙◌, sym, ap, set, length, slice_get, length-set, arith}
use Rattle.std.proofs.lemmas.List.{set_split, set-set, set-get_or}
use Rattle.std.proofs.lemmas.Option.{get_or_from_slice_get}
use Rattle.silq_types.specs.declared.values.Var.{Var}
use Rattle.check_scope.specs.Undo.{set_at, undone, AreBelow}

-- the change of one variable is that of a slot
pub set_at_slot : (vars : List Var) (i : ℕ) (v : Var) → i < length vars → set vars i v ≡ set_at vars i v
set_at_slot vars i v l = set_split vars i v l

pub undone_push : (vars : List Var) (js : List (ℕ × Var)) (i : ℕ) (v : Var) → undone vars (js ++ (i, v) ∷ []) ≡ undone (set_at vars i v) js
undone_push vars [] i v = refl
undone_push vars (j ∷ js) i v = ap (λ (vs : List Var). set_at vs j.0 j.1) (undone_push vars js i v)

-- a change that is noted is undone
pub undone_noted : (vars : List Var) (js : List (ℕ × Var)) (i : ℕ) (v w : Var) → i < length vars → slice_get vars i ≡ Some v → undone (set vars i w) (js ++ (i, v) ∷ []) ≡ undone vars js
undone_noted vars js i v w l e =
    undone_push (set vars i w) js i v
    ∙ ap (λ (vs : List Var). undone vs js)
    (sym (set_at_slot (set vars i w) i v (omega (arith, length-set vars i w)))
    ∙ set-set vars i w v
    ∙ ap (λ (x : Var). set vars i x) (sym (get_or_from_slice_get vars i v v e))
    ∙ set-get_or vars i v)

pub below_push : (n : ℕ) (js : List (ℕ × Var)) (i : ℕ) (v : Var) → AreBelow n js → i < n → AreBelow n (js ++ (i, v) ∷ [])
below_push n [] i v b l = (l, tt)
below_push n (j ∷ js) i v b l = (b.0, below_push n js i v b.1 l)

pub below_front : (n : ℕ) (js : List (ℕ × Var)) (i : ℕ) (v : Var) → AreBelow n (js ++ (i, v) ∷ []) → AreBelow n js
below_front n [] i v b = tt
below_front n (j ∷ js) i v b = (b.0, below_front n js i v b.1)

pub below_last : (n : ℕ) (js : List (ℕ × Var)) (i : ℕ) (v : Var) → AreBelow n (js ++ (i, v) ∷ []) → i < n
below_last n [] i v b = b.0
below_last n (j ∷ js) i v b = below_last n js i v b.1
