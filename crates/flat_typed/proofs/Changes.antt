-- What a change of a variable does to what the names show.
use Rattle.std.proofs.Common.{◌≡◌, ◌⊎◌, inl, inr, Bool, true, false, cond, not, ◌&&◌, List, [], ◌∷◌, ◌++◌, refl, sym, ap, ap₂, ◌∙◌, subst}
use Rattle.std.specs.Prelude.{Option, Some, None, is_some}
use Rattle.silq_tree.specs.declared.node.NameId.{NameId}
use Rattle.silq_types.specs.declared.values.Part.{Part}
use Rattle.silq_types.specs.declared.values.Value.{Value}
use Rattle.silq_types.specs.declared.values.Var.{Var}
use Rattle.silq_types.specs.Types.{same_name}
use Rattle.silq_mean.specs.Written.{is_empty}
use Rattle.check_scope.specs.Context.{indices, variable, same_part, find_var, replace}
use Rattle.check_fun.specs.Statement.{bind_name}
use Rattle.check_fun.specs.Statement as statements
use Rattle.silq_mean.specs.Env.{Env, is_in_block, in_its_block, bound}
use Rattle.flat_form.specs.declared.known.Known.{Known}
use Rattle.flat_form.specs.declared.known.Known.TheVariants.{Absent}
use Rattle.flat_form.specs.Names.{AllOf}
use Rattle.flat_typed.specs.Places.{Places, is_part, part_out, less_part, bits_for, shown, entries, in_order}
use Rattle.flat_typed.specs.Relation.{PartsDiffer}
use Rattle.flat_typed.proofs.Ordered.{clash, same_is_equal, Once, changed, its_in_order, bound_in_order}
use Rattle.flat_typed.proofs.Parts.{named_so, part_other, once_entries, found_there, no_entry, there_entry}

-- ---- the part that is under way

-- only a consumed part is under way
whole_not_out : (u : Var) (ws : List Var) (y : NameId) → is_part u ≡ false → part_out (u ∷ ws) y ≡ part_out ws y
whole_not_out u ws y e = ap (λ t. cond (t && (u.consumed && same_name u.part.name y)) (Some u) (part_out ws y)) e

pub whole_is : (u : Var) (x : NameId) → u.part ≡ variable x → is_part u ≡ false
whole_is u x e = ap (λ p. not (is_empty (indices p))) e

-- what has the part of a whole variable is whole
whole_like : (w : Var) (x : NameId) → same_part w.part (variable x) ≡ true → is_part w ≡ false
whole_like w x s = go (is_part w) refl
  where
    go : (t : Bool) → is_part w ≡ t → t ≡ false
    go true e = clash (sym s ∙ part_other w x e)
    go false e = refl

pub out_replaced : (vs : List Var) (u : Var) (x : NameId) → u.part ≡ variable x → (y : NameId) → part_out (replace vs u) y ≡ part_out vs y
out_replaced [] u x e y = refl
out_replaced (w ∷ ws) u x e y = go (same_part w.part u.part) refl (out_replaced ws u x e y)
  where
    go : (t : Bool) → same_part w.part u.part ≡ t → part_out (replace ws u) y ≡ part_out ws y → part_out (cond t (u ∷ ws) (w ∷ replace ws u)) y ≡ part_out (w ∷ ws) y
    go true s i = whole_not_out u ws y (whole_is u x e) ∙ sym (whole_not_out w ws y (whole_like w x (ap (same_part w.part) (sym e) ∙ s)))
    go false s i = ap (λ r. cond (is_part w && (w.consumed && same_name w.part.name y)) (Some w) r) i

pub out_appended : (vs : List Var) (u : Var) (x : NameId) → u.part ≡ variable x → (y : NameId) → part_out (vs ++ u ∷ []) y ≡ part_out vs y
out_appended [] u x e y = whole_not_out u [] y (whole_is u x e)
out_appended (w ∷ ws) u x e y = ap (λ r. cond (is_part w && (w.consumed && same_name w.part.name y)) (Some w) r) (out_appended ws u x e y)

-- where the same part is under way, the same is shown
pub entries_with : (W : Places) (all more vs : List Var) → ((y : NameId) → part_out all y ≡ part_out more y) → entries W all vs ≡ entries W more vs
entries_with W all more [] h = refl
entries_with W all more (v ∷ vs) h = go (is_part v) (entries_with W all more vs h)
  where
    same : shown W all v ≡ shown W more v
    same = ap (λ r. cond v.consumed Absent (less_part r (bits_for W v))) (h v.part.name)

    go : (t : Bool) → entries W all vs ≡ entries W more vs → cond t (entries W all vs) ((v.part.name, shown W all v) ∷ entries W all vs) ≡ cond t (entries W more vs) ((v.part.name, shown W more v) ∷ entries W more vs)
    go true i = i
    go false i = ap₂ (λ k l. (v.part.name, k) ∷ l) same i

-- ---- changes

pub entries_replaced : (W : Places) (all vs : List Var) (u : Var) (x : NameId) → u.part ≡ variable x → entries W all (replace vs u) ≡ changed (entries W all vs) x (shown W all u)
entries_replaced W all [] u x e = refl
entries_replaced W all (w ∷ ws) u x e = go (same_part w.part u.part) refl (is_part w) refl (entries_replaced W all ws u x e)
  where
    of_u : entries W all (u ∷ ws) ≡ (x, shown W all u) ∷ entries W all ws
    of_u = ap (λ t. cond t (entries W all ws) ((u.part.name, shown W all u) ∷ entries W all ws)) (whole_is u x e) ∙ ap (λ (p : Part). (p.name, shown W all u) ∷ entries W all ws) e

    go : (s : Bool) → same_part w.part u.part ≡ s → (t : Bool) → is_part w ≡ t → entries W all (replace ws u) ≡ changed (entries W all ws) x (shown W all u)
        → entries W all (cond s (u ∷ ws) (w ∷ replace ws u)) ≡ changed (cond t (entries W all ws) ((w.part.name, shown W all w) ∷ entries W all ws)) x (shown W all u)
    go true s true t i = clash (sym t ∙ whole_like w x (ap (same_part w.part) (sym e) ∙ s))
    go true s false t i =
        let n : same_name w.part.name x ≡ true = sym (named_so w x t) ∙ (ap (same_part w.part) (sym e) ∙ s) in
        of_u ∙ (ap (λ y. (y, shown W all u) ∷ entries W all ws) (sym (same_is_equal w.part.name x n))
        ∙ ap (λ r. cond r ((w.part.name, shown W all u) ∷ entries W all ws) ((w.part.name, shown W all w) ∷ changed (entries W all ws) x (shown W all u))) (sym n))
    go false s true t i = ap (λ r. cond r (entries W all (replace ws u)) ((w.part.name, shown W all w) ∷ entries W all (replace ws u))) t ∙ i
    go false s false t i =
        let n : same_name w.part.name x ≡ false = sym (named_so w x t) ∙ (ap (same_part w.part) (sym e) ∙ s) in
        ap (λ r. cond r (entries W all (replace ws u)) ((w.part.name, shown W all w) ∷ entries W all (replace ws u))) t
        ∙ (ap (λ l. (w.part.name, shown W all w) ∷ l) i
        ∙ ap (λ r. cond r ((w.part.name, shown W all u) ∷ entries W all ws) ((w.part.name, shown W all w) ∷ changed (entries W all ws) x (shown W all u))) (sym n))

pub entries_appended : (W : Places) (all vs : List Var) (u : Var) (x : NameId) → u.part ≡ variable x → entries W all (vs ++ u ∷ []) ≡ entries W all vs ++ (x, shown W all u) ∷ []
entries_appended W all [] u x e = ap (λ t. cond t [] ((u.part.name, shown W all u) ∷ [])) (whole_is u x e) ∙ ap (λ (p : Part). (p.name, shown W all u) ∷ []) e
entries_appended W all (w ∷ ws) u x e = go (is_part w) (entries_appended W all ws u x e)
  where
    go : (t : Bool) → entries W all (ws ++ u ∷ []) ≡ entries W all ws ++ (x, shown W all u) ∷ []
        → cond t (entries W all (ws ++ u ∷ [])) ((w.part.name, shown W all w) ∷ entries W all (ws ++ u ∷ [])) ≡ cond t (entries W all ws) ((w.part.name, shown W all w) ∷ entries W all ws) ++ (x, shown W all u) ∷ []
    go true i = i
    go false i = ap (λ l. (w.part.name, shown W all w) ∷ l) i

-- places that no live variable has may show something else
pub entries_agree : (U W : Places) (all vs : List Var) → AllOf (λ (v : Var). (v.consumed ≡ true) ⊎ (U v.place ≡ W v.place)) vs → entries U all vs ≡ entries W all vs
entries_agree U W all [] h = refl
entries_agree U W all (v ∷ vs) h = go (is_part v) (entries_agree U W all vs h.1)
  where
    shows : (v.consumed ≡ true) ⊎ (U v.place ≡ W v.place) → shown U all v ≡ shown W all v
    shows (inl e) = ap (λ t. cond t Absent (less_part (part_out all v.part.name) (bits_for U v))) e ∙ sym (ap (λ t. cond t Absent (less_part (part_out all v.part.name) (bits_for W v))) e)
    shows (inr e) = ap (λ ps. cond v.consumed Absent (less_part (part_out all v.part.name) (record { classical = v.ty.classical; shape = v.ty.shape; operands = ps; own = true; began = 0 }))) e

    go : (t : Bool) → entries U all vs ≡ entries W all vs → cond t (entries U all vs) ((v.part.name, shown U all v) ∷ entries U all vs) ≡ cond t (entries W all vs) ((v.part.name, shown W all v) ∷ entries W all vs)
    go true i = i
    go false i = ap₂ (λ k l. (v.part.name, k) ∷ l) (shows h.0) i

-- ---- what an environment shows behind them

-- a variable is another one: so it shows that
pub replaced_shows : (W : Places) (vars : List Var) (env : Env Known) (u : Var) (x : NameId) → u.part ≡ variable x → PartsDiffer vars → in_order env ≡ entries W vars vars
    → in_order (in_its_block env x (shown W vars u)) ≡ entries W (replace vars u) (replace vars u)
replaced_shows W vars env u x e d h =
    its_in_order env x (shown W vars u) (subst Once (sym h) (once_entries W vars vars d))
    ∙ (ap (λ b. changed b x (shown W vars u)) h
    ∙ (sym (entries_replaced W vars vars u x e) ∙ entries_with W vars (replace vars u) (replace vars u) (λ y. sym (out_replaced vars u x e y))))

-- a variable that was consumed shows nothing
pub consumed_shows : (W : Places) (vars : List Var) (env : Env Known) (v : Var) (x : NameId) → find_var vars (variable x) ≡ Some v → PartsDiffer vars → in_order env ≡ entries W vars vars
    → in_order (in_its_block env x Absent) ≡ entries W (replace vars (record v { consumed = true })) (replace vars (record v { consumed = true }))
consumed_shows W vars env v x f d h = replaced_shows W vars env (record v { consumed = true }) x (found_there vars x v f) d h

-- a name is bound to a value: it shows what the value's place shows
pub bound_shows : (W : Places) (vars : List Var) (env : Env Known) (x : NameId) (v : Value) → PartsDiffer vars → in_order env ≡ entries W vars vars
    → in_order (bound env x (shown W vars (statements.bound x v))) ≡ entries W (bind_name vars x v) (bind_name vars x v)
bound_shows W vars env x v d h =
    bound_in_order env x (shown W vars (statements.bound x v)) (subst Once (sym h) (once_entries W vars vars d))
    ∙ (ap (λ b. cond (is_in_block b x) (changed b x (shown W vars u)) (b ++ (x, shown W vars u) ∷ [])) h ∙ go (find_var vars (variable x)) refl (is_in_block (entries W vars vars) x) refl)
  where
    u : Var
    u = statements.bound x v

    goal : Bool → Bool → Type 0
    goal r t = cond t (changed (entries W vars vars) x (shown W vars u)) (entries W vars vars ++ (x, shown W vars u) ∷ []) ≡ entries W (cond r (replace vars u) (vars ++ u ∷ [])) (cond r (replace vars u) (vars ++ u ∷ []))

    go : (o : Option Var) → find_var vars (variable x) ≡ o → (t : Bool) → is_in_block (entries W vars vars) x ≡ t → goal (is_some o) t
    go (Some w) f true t = sym (entries_replaced W vars vars u x refl) ∙ entries_with W vars (replace vars u) (replace vars u) (λ y. sym (out_replaced vars u x refl y))
    go (Some w) f false t = clash (sym (there_entry W vars vars x w f) ∙ t)
    go None f true t = clash (sym t ∙ no_entry W vars vars x f)
    go None f false t = sym (entries_appended W vars vars u x refl) ∙ entries_with W vars (vars ++ u ∷ []) (vars ++ u ∷ []) (λ y. sym (out_appended vars u x refl y))
