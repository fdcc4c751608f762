-- The use of a place that consumes it leaves its variable consumed; so a part that was consumed overlaps none that is there.
use Rattle.std.proofs.Common.{◌≡◌, Bool, true, false, cond, not, ◌&&◌, ◌||◌, List, [], ◌∷◌, refl, sym, ap, ap₂, ◌∙◌, subst, arith}
use Rattle.std.specs.Prelude.{Option, Some, None, ℕ, ℤ}
use Rattle.silq_tree.specs.declared.node.NameId.{NameId}
use Rattle.silq_tree.specs.declared.node.Spot.{Spot}
use Rattle.silq_tree.specs.Syntax.{Place}
use Rattle.silq_types.specs.declared.types.Ty.{Ty}
use Rattle.silq_types.specs.declared.signature.InstanceKey.{InstanceKey}
use Rattle.silq_types.specs.declared.signature.Signature.{Signature}
use Rattle.silq_types.specs.declared.values.Part.{Part}
use Rattle.silq_types.specs.declared.values.Var.{Var}
use Rattle.silq_types.specs.Types.{place_name, place_indices, same_name}
use Rattle.silq_types.specs.declared.need.Need.{Need}
use Rattle.silq_types.specs.declared.need.Need.TheVariants as needs
use Rattle.silq_types.specs.Calls.{is_consumed}
use Rattle.silq_mean.specs.Written.{is_empty}
use Rattle.check_scope.specs.declared.uses.Use.{Use}
use Rattle.check_scope.specs.Context.{Scope, Context, indices, part_at, variable, listed, overlaps, same_part, find_var, replace, part_type}
use Rattle.check_scope.specs.Places.{is_moved, move, unmoved, use_part, use_found, use_place, disturbs}
use Rattle.check_scope.specs.Uses.{index_values, place_use, meets, clash as uses_clash, both_consume}
use Rattle.check_expr.specs.Owners.{Ensures}
use Rattle.check_expr.proofs.Alike.{same_part_same, same_part_refl}
use Rattle.check_expr.proofs.Owners.{found_part, o_bind, o_then, o_more, o_fail, o_if, o_rules, o_variables}
use Rattle.flat_form.specs.Names.{AllOf}
use Rattle.flat_typed.specs.Places.{Places, is_part}
use Rattle.flat_typed.specs.Relation.{FitsPart}
use Rattle.flat_typed.specs.Uses.{IsThere}
use Rattle.flat_typed.proofs.Ordered.{clash, or_left, or_right, same_is_equal}
use Rattle.flat_typed.proofs.Parts.{some_same}
use Rattle.flat_typed.proofs.Moving.{spent, found_all}
use Rattle.flat_typed.proofs.Apart.{Beside, beside}
use Rattle.flat_typed.proofs.Tame.{Left, AllLeft, FindLeft, find_left}
use Rattle.flat_typed.proofs.Scopes.{indices_are}
use Rattle.flat_typed.proofs.Leaving.{k_any}
use Rattle.flat_typed.proofs.There.{PlaceUsed, part_class}
use Rattle.flat_typed.proofs.PlacesThere.{Exact, exact_indices, OwnerOf, of_used, use_moved, place_use_is}

-- ---- what is consumed

-- a part that was consumed is a variable that is consumed
abbrev pub Gone : List Var → Use → Type 0
Gone vars u = is_consumed u.need ≡ true → (v : Var) × (find_var vars u.part ≡ Some v) × (v.consumed ≡ true)

gone_left : (vs ws : List Var) (u : Use) → AllLeft vs ws → Gone vs u → Gone ws u
gone_left vs ws u l g q = go (find_var ws u.part) refl (subst (λ o. FindLeft o (find_var ws u.part)) (g q).1 (find_left vs ws u.part l))
  where
    still : (w : Var) → Left (g q).0 w → (t : Bool) → w.consumed ≡ t → w.consumed ≡ true
    still w f true e = e
    still w f false e = clash (sym (g q).2 ∙ f.live e)

    go : (o : Option Var) → find_var ws u.part ≡ o → FindLeft (Some (g q).0) o → (v : Var) × (find_var ws u.part ≡ Some v) × (v.consumed ≡ true)
    go None e f = absurd f
    go (Some w) e f = (w, e, still w f w.consumed refl)

pub all_gone_left : (vs ws : List Var) (us : List Use) → AllLeft vs ws → AllOf (Gone vs) us → AllOf (Gone ws) us
all_gone_left vs ws [] l h = tt
all_gone_left vs ws (u ∷ us) l h = (gone_left vs ws u l h.0, all_gone_left vs ws us l h.1)

-- ---- none of it is there

whole_part : (p : Part) → is_empty (indices p) ≡ true → p ≡ variable p.name
whole_part p = go p.first p.second
  where
    go : (a b : Option ℤ) → is_empty (indices (record { name = p.name; first = a; second = b })) ≡ true → record { name = p.name; first = a; second = b } ≡ variable p.name
    go None None e = refl
    go (Some i) b e = clash (sym e)
    go None (Some i) e = clash (sym e)

module _ (held : List (List Part)) (vars : List Var) where
  apart_from : (u v : Use) → Gone vars u → IsThere held vars v → is_consumed u.need ≡ true → overlaps u.part v.part ≡ false
  apart_from u v gone there q = go (is_empty (indices u.part)) refl (overlaps u.part v.part) refl
    where
      g : Var
      g = (gone q).0

      its : g.part ≡ u.part
      its = found_part vars u.part g (gone q).1

      and_left : (a b : Bool) → (a && b) ≡ true → a ≡ true
      and_left true b e = refl
      and_left false b e = e

      by_part : is_part g ≡ true → (t : Bool) → same_part u.part v.part ≡ t → overlaps u.part v.part ≡ false
      by_part p true s = clash (sym (gone q).2 ∙ there.here g (ap (find_var vars) (sym (same_part_same u.part v.part s)) ∙ (gone q).1))
      by_part p false s =
          ap (λ (x : Part). overlaps x v.part) (sym its) ∙ found_all (Beside v.part) vars u.part g (gone q).1 (beside vars v.part there.clear) p (ap (λ (x : Part). same_part x v.part) its ∙ s)

      go : (e : Bool) → is_empty (indices u.part) ≡ e → (t : Bool) → overlaps u.part v.part ≡ t → overlaps u.part v.part ≡ false
      go e f false o = o
      go false f true o = by_part (ap (λ (x : Part). not (is_empty (indices x))) its ∙ ap not f) (same_part u.part v.part) refl
      go true f true o =
          let named : u.part.name ≡ v.part.name = same_is_equal u.part.name v.part.name (and_left (same_name u.part.name v.part.name) _ o) in
          let same : find_var vars (variable v.part.name) ≡ Some g = ap (λ x. find_var vars (variable x)) (sym named) ∙ (ap (find_var vars) (sym (whole_part u.part f)) ∙ (gone q).1) in
          clash (sym (ap (λ (x : Var). x.consumed) (some_same there.owner g (sym there.found ∙ same)) ∙ (gone q).2) ∙ there.live)

  none_met : (u : Use) (vs : List Use) → Gone vars u → AllOf (IsThere held vars) vs → is_consumed u.need ≡ true → meets is_consumed u.part vs ≡ false
  none_met u [] g h q = refl
  none_met u (v ∷ vs) g h q = ap₂ (λ a b. a || b) (ap (λ t. is_consumed v.need && t) (apart_from u v g h.0 q) ∙ none (is_consumed v.need)) (none_met u vs g h.1 q)
    where
      none : (t : Bool) → (t && false) ≡ false
      none true = refl
      none false = refl

  -- nothing is consumed twice
  pub none_twice : (us vs : List Use) → AllOf (Gone vars) us → AllOf (IsThere held vars) vs → both_consume us vs ≡ false
  none_twice [] vs g h = refl
  none_twice (u ∷ us) vs g h = ap₂ (λ a b. a || b) (go (is_consumed u.need) refl) (none_twice us vs g.1 h)
    where
      go : (t : Bool) → is_consumed u.need ≡ t → (t && meets is_consumed u.part vs) ≡ false
      go true e = none_met u vs g.0 h e
      go false e = refl

-- ---- the use of a place

-- a variable that is moved is consumed behind it; the part of another variable is not moved
abbrev pub Spends : Need → Context → NameId → Part → Context → Type 0
Spends need c x q d =
    ((v : Var) → find_var c.vars q ≡ Some v → is_moved need v.ty ≡ true → d.vars ≡ replace c.vars (spent v))
    × (find_var c.vars q ≡ None → (w : Var) → find_var c.vars (variable x) ≡ Some w → is_moved need w.ty ≡ false)

module _ (S : InstanceKey → Signature → Type 0) (c : Context) (sc : Scope) (need : Need) where
  at_found : (s : Spot) (x : NameId) (q : Part) (vars : List Var) (o w : Option Var) → vars ≡ c.vars → find_var vars q ≡ o → find_var vars (variable x) ≡ w → Ensures S (λ d. d ≡ c) (use_found sc s need q vars o w) (λ v. Spends need c x q)
  at_found s x q vars (Some v) w same f g =
      o_then S 0 (o_rules S 0 s _) (λ u. o_if S 0 (is_moved need v.ty)
      (λ m. record {
        runs = λ d h. (
          λ y e k. ap (λ (b : Context). replace b.vars (spent v)) h.1 ∙ ap (λ z. replace c.vars (spent z)) (some_same v y (sym f ∙ (ap (λ l. find_var l q) same ∙ e))),
          λ n. absurd (grind (arith, sym n ∙ (ap (λ l. find_var l q) (sym same) ∙ f))),
        );
      })
      (λ m. o_more S 0 (k_any S 0 (unmoved need v.ty v)) (λ z d h. (
        (λ y e k. clash (sym k ∙ (ap (λ (r : Var). is_moved need r.ty) (some_same y v (sym e ∙ (ap (λ l. find_var l q) (sym same) ∙ f))) ∙ m))),
        (λ n. absurd (grind (arith, sym n ∙ (ap (λ l. find_var l q) (sym same) ∙ f)))),
      ))))
  at_found s x q vars None (Some w) same f g = by_type (part_type w.ty.classical w.ty.shape (indices q))
    where
      none : find_var c.vars q ≡ None
      none = ap (λ l. find_var l q) (sym same) ∙ f

      by_type : (t : Option Ty) → Ensures S (λ d. d ≡ c) (use_part sc s need q w vars t) (λ v. Spends need c x q)
      by_type None = o_then S 0 (o_rules S 0 s _) (λ u. o_fail S 0 _)
      by_type (Some t) =
          o_then S 0 (o_rules S 0 s _) (λ u. record {
            runs = λ d h. (o_more S 0 (k_any S 0 {P = λ b. b ≡ d} (unmoved need t w)) (λ z e k. (
              (λ y e' k'. absurd (grind (arith, sym none ∙ e'))),
              (λ n y e'. ap (λ (r : Var). is_moved need r.ty) (some_same y w (sym e' ∙ (ap (λ l. find_var l (variable x)) (sym same) ∙ g))) ∙ or_right (disturbs vars q) (is_moved need w.ty) h.0.1.1.1.0),
            ))).runs d refl;
          })
  at_found s x q vars None None same f g = o_fail S 0 _

  pub at_place : (w : Place) (s : Spot) → Ensures S (λ d. d ≡ c) (use_place sc w s need) (λ v d. (zs : List ℤ) → index_values sc.statics (place_indices w) ≡ Some zs → Spends need c (place_name w) (part_at (place_name w) zs) d)
  at_place w s =
      o_bind S 0 (indices_are S 0 (place_indices w) sc) (λ zs. o_bind S 0 (o_variables S 0) (λ vars.
      o_then S 0 {n = use_found sc s need (part_at (place_name w) zs) vars (find_var vars (part_at (place_name w) zs)) (find_var vars (variable (place_name w)))} (o_rules S 0 s _) (λ u.
      record {
        runs = λ d h.
            (o_more S 0 (at_found s (place_name w) (part_at (place_name w) zs) vars (find_var vars (part_at (place_name w) zs)) (find_var vars (variable (place_name w))) (h.1.0 ∙ ap (λ (b : Context). b.vars) h.1.1.1) refl refl)
            (λ v e k ys y. subst (λ l. Spends need c (place_name w) (part_at (place_name w) l) e) (some_same zs ys (sym h.1.1.0.0 ∙ y)) k)).runs d h.1.1.1;
      })))

found_spent : (vs : List Var) (q : Part) (v : Var) → find_var vs q ≡ Some v → v.part ≡ q → find_var (replace vs (spent v)) q ≡ Some (spent v)
found_spent [] q v e p = absurd (grind (arith, e))
found_spent (w ∷ ws) q v e p = go (same_part w.part q) refl e (λ f. found_spent ws q v f p)
  where
    goal : Bool → Type 0
    goal t = find_var (cond t (spent v ∷ ws) (w ∷ replace ws (spent v))) q ≡ Some (spent v)

    mine : same_part v.part q ≡ true
    mine = ap (same_part v.part) (sym p) ∙ same_part_refl v.part

    go : (t : Bool) → same_part w.part q ≡ t → cond t (Some w) (find_var ws q) ≡ Some v → (find_var ws q ≡ Some v → find_var (replace ws (spent v)) q ≡ Some (spent v)) → goal (same_part w.part v.part)
    go true s e i = subst goal (sym (ap (same_part w.part) p ∙ s)) (ap (λ t. cond t (Some (spent v)) (find_var ws q)) mine)
    go false s e i = subst goal (sym (ap (same_part w.part) p ∙ s)) (ap (λ t. cond t (Some w) (find_var (replace ws (spent v)) q)) s ∙ i e)

-- a part is classical where its variable is
class_of : (W : Places) (vars : List Var) (x : NameId) (zs : List ℤ) (v o : Var) → AllOf (FitsPart W vars) vars → Exact x zs → find_var vars (part_at x zs) ≡ Some v → find_var vars (variable x) ≡ Some o → v.ty.classical ≡ o.ty.classical
class_of W vars x [] v o fits exact e f = ap (λ (r : Var). r.ty.classical) (some_same v o (sym e ∙ f))
class_of W vars x (i ∷ is) v o fits exact e f =
    let its = found_part vars (part_at x (i ∷ is)) v e in
    let of = found_all (FitsPart W vars) vars (part_at x (i ∷ is)) v e fits (ap (λ (p : Part). not (is_empty (indices p))) its ∙ ap (λ (l : List ℤ). not (is_empty l)) exact) in
    let name : v.part.name ≡ x = ap (λ (p : Part). p.name) its ∙ named is in
    part_class of.0.ty.classical of.0.ty.shape (indices v.part) v.ty of.2.kind ∙ ap (λ (r : Var). r.ty.classical) (some_same of.0 o (sym of.1 ∙ (ap (λ y. find_var vars (variable y)) name ∙ f)))
  where
    named : (js : List ℤ) → (part_at x (i ∷ js)).name ≡ x
    named [] = refl
    named (j ∷ js) = refl

-- the use that a place is read as
pub place_gone : (W : Places) (sc : Scope) (need : Need) (c : Context) (w : Place) (d : Context) → AllOf (FitsPart W c.vars) c.vars → PlaceUsed sc need c w d → ((zs : List ℤ) → index_values sc.statics (place_indices w) ≡ Some zs → Spends need c (place_name w) (part_at (place_name w) zs) d)
    → AllOf (Gone d.vars) (place_use sc.statics (find_var c.vars (variable (place_name w))) (place_indices w) need)
place_gone W sc need c w d fits h spends = subst (AllOf (Gone d.vars)) (sym (place_use_is sc need c w h.values h.known o)) (gone, tt)
  where
    exact : Exact (place_name w) h.values
    exact = exact_indices sc.statics w (place_name w) h.values h.known

    o : OwnerOf sc need c (place_name w) (part_at (place_name w) h.values)
    o = of_used sc need c W (place_name w) h.values d fits exact h.used

    gone : Gone d.vars (record { part = part_at (place_name w) h.values; need = cond o.owner.ty.classical needs.Held need })
    gone q = go (find_var c.vars (part_at (place_name w) h.values)) refl
      where
        m : (o.owner.ty.classical ≡ false) × (is_moved need o.owner.ty ≡ true)
        m = use_moved need o.owner.ty q

        go : (r : Option Var) → find_var c.vars (part_at (place_name w) h.values) ≡ r → (v : Var) × (find_var d.vars (part_at (place_name w) h.values) ≡ Some v) × (v.consumed ≡ true)
        go None e = clash (sym m.1 ∙ (spends h.values h.known).1 e o.owner o.found)
        go (Some v) e =
            let k = (spends h.values h.known).0 v e (ap (λ t. is_consumed need && not t) (class_of W c.vars (place_name w) h.values v o.owner fits exact e o.found) ∙ m.1) in
            (spent v, ap (λ l. find_var l (part_at (place_name w) h.values)) k ∙ found_spent c.vars (part_at (place_name w) h.values) v e (found_part c.vars (part_at (place_name w) h.values) v e), refl)
