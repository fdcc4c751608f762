-- The use of a place, as a list: the part that it names is there.
use Rattle.std.proofs.Common.{◌≡◌, inl, inr, Bool, true, false, cond, not, ◌&&◌, ◌||◌, List, [], ◌∷◌, refl, sym, ap, ap₂, ◌∙◌, subst, arith}
use Rattle.std.specs.Prelude.{⊤, Option, Some, None, is_some, Result, Ok, Err, ℤ}
use Rattle.silq_tree.specs.declared.node.NameId.{NameId}
use Rattle.silq_tree.specs.Syntax.{Place, whole, part, part_of_part, none, more}
use Rattle.static_num.specs.declared.values.StaticFault.{StaticFault}
use Rattle.static_num.specs.Static.{eval_of}
use Rattle.silq_types.specs.declared.types.Ty.{Ty}
use Rattle.silq_types.specs.declared.values.Part.{Part}
use Rattle.silq_types.specs.declared.values.Var.{Var}
use Rattle.silq_types.specs.Types.{Statics, place_name, place_indices, is_held}
use Rattle.silq_types.specs.declared.need.Need.{Need}
use Rattle.silq_types.specs.declared.need.Need.TheVariants as needs
use Rattle.silq_types.specs.Calls.{is_consumed}
use Rattle.silq_mean.specs.Written.{is_empty}
use Rattle.check_scope.specs.declared.uses.Use.{Use}
use Rattle.check_scope.specs.Context.{Scope, Context, indices, part_at, variable, part_type, is_in_condition, find_var}
use Rattle.check_scope.specs.Places.{disturbs, is_moved, use_place}
use Rattle.check_scope.specs.Uses.{with_index, index_values, part_or_whole, place_use}
use Rattle.check_expr.proofs.Owners.{found_part, gives-more}
use Rattle.flat_form.specs.Names.{AllOf}
use Rattle.flat_typed.specs.Places.{Places}
use Rattle.flat_typed.specs.Relation.{FitsPart, IsPartOf}
use Rattle.flat_typed.specs.Uses.{IsThere, PlacesAreThere}
use Rattle.flat_typed.proofs.Ordered.{clash}
use Rattle.flat_typed.proofs.Parts.{found_there, some_same}
use Rattle.flat_typed.proofs.Moving.{found_all}
use Rattle.flat_typed.proofs.Uses.{name_of_part}
use Rattle.flat_typed.proofs.There.{UsedWhole, UsedPart, Used, PlaceUsed, o_place, part_class}

-- ---- index values of a place: there are at most two

pub record Indexed (o : Option (List ℤ)) (zs : List ℤ) : Type 0 where
  pub first : ℤ
  pub rest : List ℤ
  pub is : o ≡ Some rest
  pub all : first ∷ rest ≡ zs

pub indexed : (r : Result ℤ StaticFault) (o : Option (List ℤ)) (zs : List ℤ) → with_index r o ≡ Some zs → Indexed o zs
indexed (Ok v) (Some vs) zs e = record { first = v; rest = vs; is = refl; all = some_same (v ∷ vs) zs e }
indexed (Ok v) None zs e = absurd (grind (arith, e))
indexed (Err f) o zs e = absurd (grind (arith, e))

abbrev pub Exact : NameId → List ℤ → Type 0
Exact x zs = indices (part_at x zs) ≡ zs

pub exact_indices : (statics : Statics) (w : Place) (x : NameId) (zs : List ℤ) → index_values statics (place_indices w) ≡ Some zs → Exact x zs
exact_indices statics (whole y) x zs e = subst (Exact x) (some_same [] zs e) refl
exact_indices statics (part y i) x zs e =
    let a = indexed (eval_of statics i) (Some []) zs e in
    subst (Exact x) (ap (λ l. a.first ∷ l) (some_same [] a.rest a.is) ∙ a.all) refl
exact_indices statics (part_of_part y i j) x zs e =
    let a = indexed (eval_of statics i) (index_values statics (more j none)) zs e in
    let b = indexed (eval_of statics j) (Some []) a.rest a.is in
    subst (Exact x) (ap (λ l. a.first ∷ l) (ap (λ l. b.first ∷ l) (some_same [] b.rest b.is) ∙ b.all) ∙ a.all) refl

-- ---- the variable that a used part is of

pub record OwnerOf (sc : Scope) (need : Need) (c : Context) (x : NameId) (q : Part) : Type 0 where
  pub owner : Var
  pub found : find_var c.vars (variable x) ≡ Some owner
  pub live : owner.consumed ≡ false
  pub kind : (t : Ty) × (part_type owner.ty.classical owner.ty.shape (indices q) ≡ Some t)
  pub clear : disturbs c.vars q ≡ false
  pub here : (v : Var) → find_var c.vars q ≡ Some v → v.consumed ≡ false
  pub unheld : is_moved need owner.ty ≡ true → is_held owner.origin ≡ false
  pub loose : is_moved need owner.ty ≡ true → is_in_condition sc.held q ≡ false

of_whole : (sc : Scope) (need : Need) (c : Context) (W : Places) (x : NameId) (zs : List ℤ) (d : Context) → AllOf (FitsPart W c.vars) c.vars → Exact x zs → UsedWhole sc need c (part_at x zs) d → OwnerOf sc need c x (part_at x zs)
of_whole sc need c W x [] d fits exact h = record {
  owner = h.var;
  found = h.found;
  live = h.live;
  kind = (h.var.ty, refl);
  clear = h.clear;
  here = λ v e. ap (λ (u : Var). u.consumed) (some_same v h.var (sym e ∙ h.found)) ∙ h.live;
  unheld = h.unheld;
  loose = h.loose;
}
of_whole sc need c W x (i ∷ is) d fits exact h = record {
  owner = of.0;
  found = ap (λ y. find_var c.vars (variable y)) (sym name) ∙ of.1;
  live = of.2.live;
  kind = (h.var.ty, kind);
  clear = h.clear;
  here = λ v e. ap (λ (u : Var). u.consumed) (some_same v h.var (sym e ∙ h.found)) ∙ h.live;
  unheld = λ m. ap is_held (sym of.2.same) ∙ h.unheld (moved m);
  loose = λ m. h.loose (moved m);
}
  where
    its : h.var.part ≡ part_at x (i ∷ is)
    its = found_part c.vars (part_at x (i ∷ is)) h.var h.found

    name : h.var.part.name ≡ x
    name = ap (λ (p : Part). p.name) its ∙ name_of_part x (i ∷ is)

    of : (w : Var) × (find_var c.vars (variable h.var.part.name) ≡ Some w) × IsPartOf W h.var w
    of = found_all (FitsPart W c.vars) c.vars (part_at x (i ∷ is)) h.var h.found fits (ap (λ (p : Part). not (is_empty (indices p))) its ∙ ap (λ (l : List ℤ). not (is_empty l)) exact)

    kind : part_type of.0.ty.classical of.0.ty.shape (indices (part_at x (i ∷ is))) ≡ Some h.var.ty
    kind = ap (λ (p : Part). part_type of.0.ty.classical of.0.ty.shape (indices p)) (sym its) ∙ of.2.kind

    moved : is_moved need of.0.ty ≡ true → is_moved need h.var.ty ≡ true
    moved m = ap (λ b. is_consumed need && not b) (part_class of.0.ty.classical of.0.ty.shape (indices (part_at x (i ∷ is))) h.var.ty kind) ∙ m

pub of_used : (sc : Scope) (need : Need) (c : Context) (W : Places) (x : NameId) (zs : List ℤ) (d : Context) → AllOf (FitsPart W c.vars) c.vars → Exact x zs → Used sc need c x (part_at x zs) d → OwnerOf sc need c x (part_at x zs)
of_used sc need c W x zs d fits exact (inl h) = of_whole sc need c W x zs d fits exact h
of_used sc need c W x zs d fits exact (inr h) = record {
  owner = h.owner;
  found = h.found;
  live = h.live;
  kind = (h.ty, h.kind);
  clear = h.clear;
  here = λ v e. absurd (grind (arith, sym h.none ∙ e));
  unheld = λ m. clash (sym m ∙ h.unmoved);
  loose = λ m. clash (sym m ∙ h.unmoved);
}

-- the type of the part
pub type_whole : (sc : Scope) (need : Need) (c : Context) (W : Places) (x : NameId) (zs : List ℤ) (d : Context) (fits : AllOf (FitsPart W c.vars) c.vars) (exact : Exact x zs) (h : UsedWhole sc need c (part_at x zs) d) → (of_used sc need c W x zs d fits exact (inl h)).kind.0 ≡ h.var.ty
unfolding of_used of_whole
type_whole sc need c W x [] d fits exact h = refl
type_whole sc need c W x (i ∷ is) d fits exact h = refl

pub type_part : (sc : Scope) (need : Need) (c : Context) (W : Places) (x : NameId) (zs : List ℤ) (d : Context) (fits : AllOf (FitsPart W c.vars) c.vars) (exact : Exact x zs) (h : UsedPart need c x (part_at x zs) d) → (of_used sc need c W x zs d fits exact (inr h)).kind.0 ≡ h.ty
unfolding of_used
type_part sc need c W x zs d fits exact h = refl

-- ---- the use

-- a classical variable is held in every use
pub use_moved : (need : Need) (t : Ty) → is_consumed (cond t.classical needs.Held need) ≡ true → (t.classical ≡ false) × (is_moved need t ≡ true)
use_moved need t e = go t.classical refl e
  where
    go : (b : Bool) → t.classical ≡ b → is_consumed (cond b needs.Held need) ≡ true → (t.classical ≡ false) × (is_moved need t ≡ true)
    go true f e = clash (sym e)
    go false f e = (f, ap₂ (λ a b. a && not b) e f)

abbrev pub use_there : (sc : Scope) (need : Need) (c : Context) (x : NameId) (zs : List ℤ) → Exact x zs → (o : OwnerOf sc need c x (part_at x zs)) → IsThere sc.held c.vars (record { part = part_at x zs; need = cond o.owner.ty.classical needs.Held need })
use_there sc need c x zs exact o = record {
  owner = o.owner;
  found = ap (λ y. find_var c.vars (variable y)) (name_of_part x zs) ∙ o.found;
  live = o.live;
  kind = o.kind;
  clear = o.clear;
  here = o.here;
  own = λ k. let m = use_moved need o.owner.ty k in ap₂ (λ a b. a || b) m.0 (o.unheld m.1);
  loose = λ k. ap (λ (p : Part). is_in_condition sc.held p) (ap₂ part_at (name_of_part x zs) exact) ∙ o.loose (use_moved need o.owner.ty k).1;
}

-- what the use of a place reads is this part
pub place_use_is : (sc : Scope) (need : Need) (c : Context) (w : Place) (zs : List ℤ) → index_values sc.statics (place_indices w) ≡ Some zs → (o : OwnerOf sc need c (place_name w) (part_at (place_name w) zs))
    → place_use sc.statics (find_var c.vars (variable (place_name w))) (place_indices w) need ≡ record { part = part_at (place_name w) zs; need = cond o.owner.ty.classical needs.Held need } ∷ []
place_use_is sc need c w zs known o = ap (λ r. place_use sc.statics r (place_indices w) need) o.found ∙ ap (λ u. u ∷ []) (sym (ap used_as part_is))
  where
    x : NameId
    x = place_name w

    whole_name : o.owner.part.name ≡ x
    whole_name = ap (λ (p : Part). p.name) (found_there c.vars x o.owner o.found)

    shape : is_some (part_type o.owner.ty.classical o.owner.ty.shape zs) ≡ true
    shape = ap (λ l. is_some (part_type o.owner.ty.classical o.owner.ty.shape l)) (sym (exact_indices sc.statics w x zs known)) ∙ ap is_some o.kind.1

    part_is : part_at x zs ≡ part_or_whole o.owner (index_values sc.statics (place_indices w))
    part_is =
        sym (ap (part_or_whole o.owner) known
        ∙ (ap (λ b. cond b (part_at o.owner.part.name zs) o.owner.part) shape ∙ ap (λ y. part_at y zs) whole_name))

    used_as : Part → Use
    used_as p = record { part = p; need = cond o.owner.ty.classical needs.Held need }

-- the part that the use of a place names is there
pub place_there : (sc : Scope) (need : Need) (c : Context) (W : Places) (w : Place) (d : Context) → AllOf (FitsPart W c.vars) c.vars → PlaceUsed sc need c w d
    → AllOf (IsThere sc.held c.vars) (place_use sc.statics (find_var c.vars (variable (place_name w))) (place_indices w) need)
place_there sc need c W w d fits h =
    subst (AllOf (IsThere sc.held c.vars)) (sym (place_use_is sc need c w h.values h.known (of_used sc need c W (place_name w) h.values d fits (exact_indices sc.statics w (place_name w) h.values h.known) h.used)))
    (use_there sc need c (place_name w) h.values (exact_indices sc.statics w (place_name w) h.values h.known) (of_used sc need c W (place_name w) h.values d fits (exact_indices sc.statics w (place_name w) h.values h.known) h.used), tt)

pub places_are_there : PlacesAreThere
places_are_there w s sc need c =
    gives-more (λ k s. ⊤) 0 (λ r. PlaceUsed sc need c w r.1)
    (λ r. (W : Places) → AllOf (FitsPart W c.vars) c.vars → AllOf (IsThere sc.held c.vars) (place_use sc.statics (find_var c.vars (variable (place_name w))) (place_indices w) need))
    (use_place sc w s need c) ((o_place (λ k s. ⊤) 0 c sc w s need).runs c refl) (λ r k W fits. place_there sc need c W w r.1 fits k)
