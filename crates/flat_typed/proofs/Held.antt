-- The parts that a condition uses: no other part of a variable has a wire that the condition's value names.
use Rattle.std.proofs.Common.{◌≡◌, ◌⊎◌, inl, inr, ℕ, ◌≤◌, ◌<◌, Bool, true, false, cond, not, ◌&&◌, ◌||◌, List, [], ◌∷◌, length, refl, sym, ap, ap₂, ◌∙◌, subst, arith}
use Rattle.std.specs.Prelude.{Option, Some, None, ℤ}
use Rattle.silq_tree.specs.declared.node.NameId.{NameId}
use Rattle.silq_types.specs.declared.types.Scalar.{Scalar}
use Rattle.silq_types.specs.declared.types.Scalar.TheVariants as scalars
use Rattle.silq_types.specs.declared.types.Shape.{Shape}
use Rattle.silq_types.specs.declared.types.Shape.TheVariants.{Bit, UInt, Int, Array}
use Rattle.silq_types.specs.declared.types.Ty.{Ty}
use Rattle.silq_types.specs.declared.values.Part.{Part}
use Rattle.silq_types.specs.declared.values.Var.{Var}
use Rattle.silq_types.specs.declared.values.Origin.{Origin}
use Rattle.silq_types.specs.Types.{is_held, same_name}
use Rattle.silq_mean.specs.Written.{is_empty}
use Rattle.check_scope.specs.declared.uses.Use.{Use}
use Rattle.check_scope.specs.Context.{Context, indices, variable, part_at, part_type, find_var, same_part, overlaps, overlaps_any, is_in_condition, is_below, typed_as, bit_at, scalar_part}
use Rattle.check_scope.specs.Uses.{parts_of}
use Rattle.check_expr.proofs.Alike.{same_part_refl}
use Rattle.flat_core.specs.declared.step.WireId.{WireId}
use Rattle.bit_arith.specs.declared.operand.Operand.{Operand}
use Rattle.bit_arith.specs.declared.operand.Operand.TheVariants.{Const, Literal}
use Rattle.bit_arith.specs.Built.{negated}
use Rattle.flat_form.specs.State.{Flattening, wires_so_far, part_of}
use Rattle.flat_form.specs.Good.{Good}
use Rattle.flat_form.specs.Names.{AllOf, named_by}
use Rattle.flat_typed.specs.Places.{Places, is_part, is_shared, has_wires, owners_of, times_in}
use Rattle.flat_typed.specs.Footprint.{used_wires, consumed_wires}
use Rattle.flat_typed.specs.Relation.{HasNone, PartsDiffer, Outside, Stands}
use Rattle.flat_typed.specs.Uses.{IsThere}
use Rattle.flat_typed.proofs.Ordered.{clash, or_left, or_right, same_is_equal}
use Rattle.flat_typed.proofs.Parts.{name_refl, whole_part, named_so}
use Rattle.flat_typed.proofs.Binding.{none_out}
use Rattle.flat_typed.proofs.Footprints.{overlaps_swap, Untouched, consumed_apart}
use Rattle.flat_typed.proofs.Tame.{Left, AllLeft}
use Rattle.flat_typed.proofs.Turns.{wired_live}
use Rattle.flat_typed.proofs.Ending.{times_are_among}
use Rattle.flat_typed.proofs.Updates.{use_at, part_there, part_owner, part_consumes}
use Rattle.flat_typed.proofs.Entering.{ClearOf}
use Rattle.flat_typed.proofs.Outer.{LiveAgree}

-- ---- parts have at most two indices

none_some : {A : Type 0} (t : A) (R : Type 0) → None ≡ Some t → R
none_some t R e = absurd (grind (arith, e))

no_third : (c : Bool) (k : Scalar) (j m : ℤ) (ms : List ℤ) (t : Ty) (R : Type 0) → scalar_part c k (j ∷ m ∷ ms) ≡ Some t → R
no_third c scalars.Bit j m ms t R e = none_some t R e
no_third c (scalars.UInt n) j m ms t R e = go (is_below j n) e
  where
    go : (b : Bool) → cond b (typed_as c Bit (m ∷ ms)) None ≡ Some t → R
    go true e = none_some t R e
    go false e = none_some t R e
no_third c (scalars.Int n) j m ms t R e = go (is_below j n) e
  where
    go : (b : Bool) → cond b (typed_as c Bit (m ∷ ms)) None ≡ Some t → R
    go true e = none_some t R e
    go false e = none_some t R e

no_second : (c : Bool) (n : ℕ) (i j : ℤ) (js : List ℤ) (t : Ty) (R : Type 0) → bit_at c n i (j ∷ js) ≡ Some t → R
no_second c n i j js t R e = go (is_below i n) e
  where
    go : (b : Bool) → cond b (typed_as c Bit (j ∷ js)) None ≡ Some t → R
    go true e = none_some t R e
    go false e = none_some t R e

pub exact_part : (x : Var) (c : Bool) (s : Shape) (is : List ℤ) (t : Ty) → part_type c s is ≡ Some t → indices (part_at x.part.name is) ≡ is
exact_part x c s [] t e = refl
exact_part x c s (i ∷ []) t e = refl
exact_part x c s (i ∷ j ∷ []) t e = refl
exact_part x c Bit (i ∷ j ∷ m ∷ ms) t e = none_some t _ e
exact_part x c (UInt n) (i ∷ j ∷ m ∷ ms) t e = no_second c n i j (m ∷ ms) t _ e
exact_part x c (Int n) (i ∷ j ∷ m ∷ ms) t e = no_second c n i j (m ∷ ms) t _ e
exact_part x c (Array k n) (i ∷ j ∷ m ∷ ms) t e = go (is_below i n) e
  where
    go : (b : Bool) → cond b (scalar_part c k (j ∷ m ∷ ms)) None ≡ Some t → indices (part_at x.part.name (i ∷ j ∷ m ∷ ms)) ≡ i ∷ j ∷ m ∷ ms
    go true e = no_third c k j m ms t _ e
    go false e = none_some t _ e

-- ---- each whole variable is found by its name

name_swap : (x y : NameId) → same_name y x ≡ false → same_name x y ≡ false
name_swap x y n = go (same_name x y) refl
  where
    go : (t : Bool) → same_name x y ≡ t → t ≡ false
    go false e = refl
    go true e = clash (sym (ap (λ z. same_name z x) (sym (same_is_equal x y e)) ∙ name_refl x) ∙ n)

pub each_found : (vs : List Var) → PartsDiffer vs → AllOf (λ v. is_part v ≡ false) vs → AllOf (λ v. find_var vs (variable v.part.name) ≡ Some v) vs
each_found [] d h = tt
each_found (v ∷ vs) d h =
    (ap (λ t. cond t (Some v) (find_var vs (variable v.part.name))) (named_so v v.part.name h.0 ∙ name_refl v.part.name), rest vs d.0 h.1 (each_found vs d.1 h.1))
  where
    other : (u : Var) → is_part u ≡ false → same_part u.part v.part ≡ false → same_part v.part (variable u.part.name) ≡ false
    other u e n = named_so v u.part.name h.0 ∙ (name_swap v.part.name u.part.name (sym (named_so u v.part.name e) ∙ (ap (same_part u.part) (sym (whole_part v h.0)) ∙ n)))

    rest : (us : List Var) → HasNone us v.part → AllOf (λ u. is_part u ≡ false) us → AllOf (λ u. find_var vs (variable u.part.name) ≡ Some u) us → AllOf (λ u. find_var (v ∷ vs) (variable u.part.name) ≡ Some u) us
    rest [] n h f = tt
    rest (u ∷ us) n h f = (ap (λ t. cond t (Some v) (find_var vs (variable u.part.name))) (other u h.0 n.0) ∙ f.0, rest us n.1 h.1 f.1)

-- ---- the law

apart_each : (us : List Use) (q : Part) → overlaps_any (parts_of us) q ≡ false → AllOf (λ (u : Use). overlaps q u.part ≡ false) us
apart_each [] q e = tt
apart_each (u ∷ us) q e = (overlaps_swap q u.part ∙ or_left (overlaps u.part q) (overlaps_any (parts_of us) q) e, apart_each us q (or_right (overlaps u.part q) (overlaps_any (parts_of us) q) e))

module _ (out : Outside) (held : List (List Part)) (W : Places) (c : Context) (s : Flattening) (st : Stands out held W [] c s) (g : Good s) (whole : AllOf (λ v. is_part v ≡ false) c.vars) (us : List Use) (there : AllOf (IsThere held c.vars) us) (p : Operand) (within : (w : WireId) → named_by w p ≡ true → (used_wires W c.vars us w ≡ true) ⊎ (wires_so_far s ≤ w.number)) where
  clear_one : (v : Var) → find_var c.vars (variable v.part.name) ≡ Some v → ClearOf held p (parts_of us) W v
  clear_one v e has is t kind loose apart w le = go (named_by w p) refl
    where
      exact : indices (part_at v.part.name is) ≡ is
      exact = exact_part v v.ty.classical v.ty.shape is t kind

      shared : is_shared v ≡ false
      shared = off v.consumed (is_part v) (is_shared v) has
        where
          off : (a b d : Bool) → not (a || b || d) ≡ true → d ≡ false
          off true b d h = clash (sym h)
          off false true d h = clash (sym h)
          off false false true h = clash (sym h)
          off false false false h = refl

      owned : 1 ≤ owners_of W c.vars [] w
      owned = part_owner out held W c s v.part.name v is g st e (none_out c.vars v.part.name whole) has (wired_live v has) w le

      consumes : consumed_wires W c.vars (use_at (part_at v.part.name is) ∷ []) w ≡ true
      consumes = part_consumes out held W c s v.part.name v is g st e (none_out c.vars v.part.name whole) has (wired_live v has) exact w ∙ times_are_among w (part_of v.ty.shape is (W v.place)) le

      pick : (used_wires W c.vars us w ≡ true) ⊎ (wires_so_far s ≤ w.number) → true ≡ false
      pick (inl u) =
          clash (sym u
          ∙ consumed_apart out held W [] c s st us (use_at (part_at v.part.name is) ∷ []) there
          (part_there held c.vars v.part.name v is t e (wired_live v has) shared kind loose exact whole, tt)
          ((λ k. apart_each us (part_at v.part.name is) apart), tt) w consumes)
      pick (inr above) = let a = (st.free w owned).0 in absurd (omega (arith, a, above))

      go : (b : Bool) → named_by w p ≡ b → b ≡ false
      go false n = refl
      go true n = pick (within w n)

  pub clear_all : AllOf (ClearOf held p (parts_of us) W) c.vars
  clear_all = each c.vars (each_found c.vars st.differ whole)
    where
      each : (vs : List Var) → AllOf (λ v. find_var c.vars (variable v.part.name) ≡ Some v) vs → AllOf (ClearOf held p (parts_of us) W) vs
      each [] f = tt
      each (v ∷ vs) f = (clear_one v f.0, each vs f.1)

-- ---- elsewhere

module _ (held : List (List Part)) (p : Operand) (ps : List Part) (U W : Places) where
  one_left : (v w : Var) → Left v w → ClearOf held p ps W v → LiveAgree U W v → ClearOf held p ps U w
  one_left v w l clear agree has is t kind loose apart q le =
      clear wired is t (ap (λ (k : Ty). part_type k.classical k.shape is) (sym l.ty) ∙ kind) (ap (λ (r : Part). is_in_condition held (part_at r.name is)) (sym l.part) ∙ loose)
      (ap (λ (r : Part). overlaps_any ps (part_at r.name is)) (sym l.part) ∙ apart) q
      (subst (λ x. 1 ≤ times_in q x) (ap₂ (λ (k : Ty) ps. part_of k.shape is ps) l.ty (ap U l.place ∙ agree (l.live (wired_live w has)))) le)
    where
      wired : has_wires v ≡ true
      wired =
          ap₂ (λ a b. not (a || b)) (ap₂ (λ a (r : Part). a || not (is_empty (indices r))) (l.live (wired_live w has) ∙ sym (wired_live w has)) (sym l.part)) (ap₂ (λ (k : Ty) (o : Origin). k.classical || is_held o) (sym l.ty) (sym l.origin)) ∙ has

  pub clear_left : (vs ws : List Var) → AllLeft vs ws → AllOf (ClearOf held p ps W) vs → AllOf (LiveAgree U W) vs → AllOf (ClearOf held p ps U) ws
  clear_left [] [] h c a = tt
  clear_left [] (w ∷ ws) h c a = absurd h
  clear_left (v ∷ vs) [] h c a = absurd h
  clear_left (v ∷ vs) (w ∷ ws) h c a = (one_left v w h.0 c.0 a.0, clear_left vs ws h.1 c.1 a.1)

pub negated_named : (p : Operand) (w : WireId) → named_by w (negated p) ≡ named_by w p
negated_named (Const b) w = refl
negated_named (Literal l) w = refl

pub clear_negated : (held : List (List Part)) (p : Operand) (ps : List Part) (W : Places) (vs : List Var) → AllOf (ClearOf held p ps W) vs → AllOf (ClearOf held (negated p) ps W) vs
clear_negated held p ps W [] h = tt
clear_negated held p ps W (v ∷ vs) h = ((λ has is t kind loose apart w le. negated_named p w ∙ h.0 has is t kind loose apart w le), clear_negated held p ps W vs h.1)
