-- Changes of variables leave their names.
use Rattle.std.proofs.Common.{◌≡◌, refl, ℕ, Bool, true, false, cond, List, [], ◌∷◌, ◌++◌, Some, ◌∙◌, sym, ap, set, length, slice_get, length-set, arith}
use Rattle.silq_tree.specs.declared.node.NameId.{NameId}
use Rattle.silq_types.specs.declared.values.Part.{Part}
use Rattle.silq_types.specs.declared.values.Var.{Var}
use Rattle.check_scope.specs.Context.{same_part, replace}
use Rattle.check_scope.specs.First.{IsFirstAt}
use Rattle.check_scope.specs.Kept.{variable_names, AreKept}
use Rattle.check_scope.proofs.NameChains.{same_is_equal}
use Rattle.check_scope.proofs.Undoing.{set_at_slot, undone_noted, below_push}
use Rattle.check_scope.proofs.VariableWalks.{part_is_of}

pub names_replaced : (vars : List Var) (v : Var) → variable_names (replace vars v) ≡ variable_names vars
names_replaced [] v = refl
names_replaced (w ∷ vars) v = go (same_part w.part v.part) refl (names_replaced vars v)
  where
    go : (b : Bool) → same_part w.part v.part ≡ b → variable_names (replace vars v) ≡ variable_names vars → variable_names (cond b (v ∷ vars) (w ∷ replace vars v)) ≡ variable_names (w ∷ vars)
    go true e h = ap (λ (x : NameId). x ∷ variable_names vars) (sym (same_is_equal w.part.name v.part.name ((part_is_of v.part).named w e)))
    go false e h = ap (λ (ns : List NameId). w.part.name ∷ ns) h

pub names_set : (vars : List Var) (part : Part) (i : ℕ) (v : Var) → IsFirstAt vars part i → v.part ≡ part → variable_names (set vars i v) ≡ variable_names vars
names_set vars part i v f e = ap variable_names (set_at_slot vars i v f.within ∙ sym (f.replaced v e)) ∙ names_replaced vars v

pub kept_fresh : (vars : List Var) (moved : List (ℕ × Var)) (names : List NameId) → moved ≡ [] → names ≡ variable_names vars → AreKept vars moved names
kept_fresh vars moved names e h = rw e (record { below = tt; named = h; before = h })

pub kept_noted : (vars : List Var) (moved after : List (ℕ × Var)) (names : List NameId) (part : Part) (i : ℕ) (v w : Var) → AreKept vars moved names → IsFirstAt vars part i → w.part ≡ part → slice_get vars i ≡ Some v → after ≡ moved ++ (i, v) ∷ [] → AreKept (set vars i w) after names
kept_noted vars moved after names part i v w k f e at noted =
    rw noted (record {
      below = rw length-set (below_push (length vars) moved i v k.below f.within);
      named = k.named ∙ sym (names_set vars part i w f e);
      before = k.before ∙ ap variable_names (sym (undone_noted vars moved i v w f.within at));
    })

pub no_items : {A : Type 0} (xs : List A) → length xs ≡ 0 → xs ≡ []
no_items [] e = refl
no_items (x ∷ xs) e = absurd (omega (arith, e))
