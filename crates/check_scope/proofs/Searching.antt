-- The search for the first variable with a part.
use Rattle.std.proofs.Common.{◌≡◌, refl, ℕ, ◌+◌, ◌<◌, ◌≤◌, true, false, List, [], ◌∷◌, ◌++◌, Some, ◌∙◌, sym, ap, take, drop, get_or, length, add-one, append_assoc}
use Rattle.std.proofs.lemmas.List.{drop_more, take_more, drop_all, take_all, append-nil}
use Rattle.std.proofs.lemmas.Option.{slice_get-get_or}
use Rattle.silq_types.specs.declared.values.Part.{Part}
use Rattle.silq_types.specs.declared.values.Var.{Var}
use Rattle.check_scope.specs.Context.{find_var, replace, same_part}
use Rattle.check_scope.specs.First.{IsFirstAt, IsAbsent}

-- none of the first i has the part
pub record Passed (vars : List Var) (part : Part) (i : ℕ) : Type 0 where
  pub found : find_var (drop i vars) part ≡ find_var vars part
  pub replaced : (v : Var) → v.part ≡ part → replace vars v ≡ take i vars ++ replace (drop i vars) v

pub passed_none : (vars : List Var) (part : Part) → Passed vars part 0
passed_none vars part = record { found = refl; replaced = λ v e. refl }

find_here : (w : Var) (ws : List Var) (part : Part) → same_part w.part part ≡ true → find_var (w ∷ ws) part ≡ Some w
find_here w ws part e = rw e refl

find_later : (w : Var) (ws : List Var) (part : Part) → same_part w.part part ≡ false → find_var (w ∷ ws) part ≡ find_var ws part
find_later w ws part e = rw e refl

replace_here : (w : Var) (ws : List Var) (v : Var) → same_part w.part v.part ≡ true → replace (w ∷ ws) v ≡ v ∷ ws
replace_here w ws v e = rw e refl

replace_later : (w : Var) (ws : List Var) (v : Var) → same_part w.part v.part ≡ false → replace (w ∷ ws) v ≡ w ∷ replace ws v
replace_later w ws v e = rw e refl

pub passed_more : (vars : List Var) (part : Part) (i : ℕ) (d : Var) → Passed vars part i → i < length vars → same_part (get_or vars i d).part part ≡ false → Passed vars part (i + 1)
passed_more vars part i d p l e = record {
  found = sym (ap (λ (vs : List Var). find_var vs part) (drop_more vars i d l) ∙ find_later (get_or vars i d) (drop (i + 1) vars) part e) ∙ p.found;
  replaced = λ v same.
      p.replaced v same
      ∙ ap (λ (vs : List Var). take i vars ++ vs) (ap (λ (vs : List Var). replace vs v) (drop_more vars i d l) ∙ replace_later (get_or vars i d) (drop (i + 1) vars) v (ap (λ (q : Part). same_part (get_or vars i d).part q) same ∙ e))
      ∙ sym (append_assoc (take i vars) (get_or vars i d ∷ []) (replace (drop (i + 1) vars) v))
      ∙ ap (λ (vs : List Var). vs ++ replace (drop (i + 1) vars) v) (sym (take_more vars i d l));
}

pub first_here : (vars : List Var) (part : Part) (i : ℕ) (d : Var) → Passed vars part i → i < length vars → same_part (get_or vars i d).part part ≡ true → IsFirstAt vars part i
first_here vars part i d p l e = record {
  within = l;
  found = sym p.found ∙ ap (λ (vs : List Var). find_var vs part) (drop_more vars i d l) ∙ find_here (get_or vars i d) (drop (i + 1) vars) part e ∙ sym (slice_get-get_or vars i d l);
  replaced = λ v same.
      p.replaced v same
      ∙ ap (λ (vs : List Var). take i vars ++ vs) (ap (λ (vs : List Var). replace vs v) (drop_more vars i d l) ∙ replace_here (get_or vars i d) (drop (i + 1) vars) v (ap (λ (q : Part). same_part (get_or vars i d).part q) same ∙ e))
      ∙ ap (λ (n : ℕ). take i vars ++ v ∷ drop n vars) (add-one i);
}

pub absent : (vars : List Var) (part : Part) (i : ℕ) → Passed vars part i → length vars ≤ i → IsAbsent vars part
absent vars part i p l = record {
  found = sym p.found ∙ ap (λ (vs : List Var). find_var vs part) (drop_all i vars l);
  replaced = λ v same. p.replaced v same ∙ ap (λ (vs : List Var). take i vars ++ replace vs v) (drop_all i vars l) ∙ append-nil (take i vars) ∙ take_all i vars l;
}
