-- Parts that are used: a wire of a consumed part has an owner, and is no wire of a part that does not overlap it.
use Rattle.std.proofs.Common.{◌≡◌, inl, inr, ℕ, ◌+◌, ◌-◌, ◌≤◌, Bool, true, false, cond, not, ◌&&◌, ◌||◌, List, [], ◌∷◌, take, drop, refl, sym, ap, ◌∙◌, subst, arith}
use Rattle.std.specs.Prelude.{Option, Some, None, ℤ}
use Rattle.silq_tree.specs.declared.node.NameId.{NameId}
use Rattle.silq_types.specs.declared.types.Shape.{Shape}
use Rattle.silq_types.specs.declared.values.Part.{Part}
use Rattle.silq_types.specs.declared.values.Value.{Value}
use Rattle.silq_types.specs.declared.values.Var.{Var}
use Rattle.silq_types.specs.Types.{same_name, shape_bits}
use Rattle.silq_mean.specs.Written.{is_empty}
use Rattle.check_scope.specs.declared.uses.Use.{Use}
use Rattle.check_scope.specs.Context.{Context, indices, variable, same_part, overlaps, is_prefix, find_var, part_type}
use Rattle.check_scope.specs.Places.{disturbs}
use Rattle.check_expr.proofs.Alike.{same_part_same}
use Rattle.flat_core.specs.declared.step.WireId.{WireId}
use Rattle.bit_arith.specs.declared.operand.Operand.{Operand}
use Rattle.bit_arith.specs.Calls.{among}
use Rattle.flat_form.specs.declared.known.Known.TheVariants.{Absent}
use Rattle.flat_form.specs.State.{Flattening, wires_in, part_shape, part_start, part_of}
use Rattle.flat_form.specs.Names.{AllOf, operands_in}
use Rattle.flat_typed.specs.Places.{Places, is_part, part_out, less_part, bits_for, shown, times_in}
use Rattle.flat_typed.specs.Footprint.{wires_for, wires_of_part}
use Rattle.flat_typed.specs.Relation.{PartsDiffer, FitsPart, IsPartOf, Outside, Stands}
use Rattle.flat_typed.specs.Uses.{IsThere}
use Rattle.flat_typed.proofs.Ordered.{clash, same_is_equal, or_left, or_right}
use Rattle.flat_typed.proofs.Parts.{found_there, some_same}
use Rattle.flat_typed.proofs.Spans.{times_split, span_and_rest, Apart, lie_apart, part_at_most, part_is_outside}
use Rattle.std.proofs.lemmas.List.{drop-drop}

-- ---- three spans of a list

three_spans : (w : WireId) (a m b n c k : ℕ) (ps : List Operand) → a + m ≤ b → b + n ≤ c → times_in w (take m (drop a ps)) + (times_in w (take n (drop b ps)) + times_in w (take k (drop c ps))) ≤ times_in w ps
three_spans w a m b n c k ps h g =
    let e1 = span_and_rest w a m b ps h in
    let e2 = times_split w n (drop b ps) in
    let e3 : times_in w (drop n (drop b ps)) ≡ times_in w (drop (b + n) ps) = ap (times_in w) (drop-drop n b ps) in
    let e5 = times_split w k (drop c ps) in
    let e6 = tail in
    omega (arith, e1, e2, e3, e5, e6)
  where
    tail : times_in w (drop c ps) ≤ times_in w (drop (b + n) ps)
    tail =
        let i : (b + n) + (c - (b + n)) ≡ c = omega (arith, g) in
        let j : times_in w (drop (c - (b + n)) (drop (b + n) ps)) ≡ times_in w (drop c ps) = ap (times_in w) (drop-drop (c - (b + n)) (b + n) ps ∙ ap (λ l. drop l ps) i) in
        let l = times_split w (c - (b + n)) (drop (b + n) ps) in
        omega (arith, j, l)

-- two parts that lie apart from each other and from a third
pub two_beside : (w : WireId) (s : Shape) (is js ks : List ℤ) (ps : List Operand) → Apart s is js → Apart s is ks → Apart s js ks
    → times_in w (part_of s is ps) + (times_in w (part_of s js ps) + times_in w (part_of s ks ps)) ≤ times_in w ps
two_beside w s is js ks ps p q r = go p q r
  where
    a : List ℤ → ℕ
    a zs = part_start s zs

    m : List ℤ → ℕ
    m zs = shape_bits (part_shape s zs)

    three : (xs ys zs : List ℤ) → a xs + m xs ≤ a ys → a ys + m ys ≤ a zs → times_in w (part_of s xs ps) + (times_in w (part_of s ys ps) + times_in w (part_of s zs ps)) ≤ times_in w ps
    three xs ys zs h g = three_spans w (a xs) (m xs) (a ys) (m ys) (a zs) (m zs) ps h g

    go : Apart s is js → Apart s is ks → Apart s js ks → times_in w (part_of s is ps) + (times_in w (part_of s js ps) + times_in w (part_of s ks ps)) ≤ times_in w ps
    go (inl h) q (inl g) = three is js ks h g
    go (inl h) (inl i) (inr g) = let t = three is ks js i g in omega (arith, t)
    go (inl h) (inr i) (inr g) = let t = three ks is js i h in omega (arith, t)
    go (inr h) (inl i) r = let t = three js is ks h i in omega (arith, t)
    go (inr h) (inr i) (inl g) = let t = three js ks is g i in omega (arith, t)
    go (inr h) (inr i) (inr g) = let t = three ks js is g h in omega (arith, t)

-- ---- the part that was taken out

pub out_all : (Q : Var → Type 0) (vs : List Var) (x : NameId) (p : Var) → part_out vs x ≡ Some p → AllOf Q vs → Q p
out_all Q [] x p e h = absurd (grind (arith, e))
out_all Q (v ∷ vs) x p e h = go (is_part v && (v.consumed && same_name v.part.name x)) e (λ f. out_all Q vs x p f h.1)
  where
    go : (t : Bool) → cond t (Some v) (part_out vs x) ≡ Some p → (part_out vs x ≡ Some p → Q p) → Q p
    go true e i = subst Q (some_same v p e) h.0
    go false e i = i e

-- what it is
pub out_is : (vs : List Var) (x : NameId) (p : Var) → part_out vs x ≡ Some p → (is_part p && (p.consumed && same_name p.part.name x)) ≡ true
out_is [] x p e = absurd (grind (arith, e))
out_is (v ∷ vs) x p e = go (is_part v && (v.consumed && same_name v.part.name x)) refl e (λ f. out_is vs x p f)
  where
    go : (t : Bool) → (is_part v && (v.consumed && same_name v.part.name x)) ≡ t → cond t (Some v) (part_out vs x) ≡ Some p → (part_out vs x ≡ Some p → (is_part p && (p.consumed && same_name p.part.name x)) ≡ true) → (is_part p && (p.consumed && same_name p.part.name x)) ≡ true
    go true f e i = ap (λ (u : Var). is_part u && (u.consumed && same_name u.part.name x)) (sym (some_same v p e)) ∙ f
    go false f e i = i e

-- what each variable is to a part that nothing disturbs
abbrev pub Beside : Part → Var → Type 0
Beside q v = is_part v ≡ true → same_part v.part q ≡ false → overlaps v.part q ≡ false

pub beside : (vs : List Var) (q : Part) → disturbs vs q ≡ false → AllOf (Beside q) vs
beside [] q e = tt
beside (v ∷ vs) q e = (one, beside vs q (or_right (not (is_empty (indices v.part)) && not (same_part v.part q) && overlaps v.part q) (disturbs vs q) e))
  where
    go : (a b c : Bool) → (a && not b && c) ≡ false → a ≡ true → b ≡ false → c ≡ false
    go true false c h p n = h
    go true true c h p n = clash n
    go false b c h p n = clash (sym p)

    one : Beside q v
    one p n = go (is_part v) (same_part v.part q) (overlaps v.part q) (or_left (not (is_empty (indices v.part)) && not (same_part v.part q) && overlaps v.part q) (disturbs vs q) e) p n

-- a variable of this part is the one that is found
out_found : (vs : List Var) (x : NameId) (p : Var) (q : Part) → part_out vs x ≡ Some p → PartsDiffer vs → same_part p.part q ≡ true → find_var vs q ≡ Some p
out_found [] x p q e d s = absurd (grind (arith, e))
out_found (v ∷ vs) x p q e d s = go (is_part v && (v.consumed && same_name v.part.name x)) e (λ f. out_found vs x p q f d.1 s)
  where
    later : part_out vs x ≡ Some p → find_var vs q ≡ Some p → (t : Bool) → same_part v.part q ≡ t → cond t (Some v) (find_var vs q) ≡ Some p
    later o i false f = i
    later o i true f = clash (sym s ∙ (ap (same_part p.part) (sym (same_part_same v.part q f)) ∙ out_all (λ (u : Var). same_part u.part v.part ≡ false) vs x p o d.0))

    go : (t : Bool) → cond t (Some v) (part_out vs x) ≡ Some p → (part_out vs x ≡ Some p → find_var vs q ≡ Some p) → cond (same_part v.part q) (Some v) (find_var vs q) ≡ Some p
    go true e i = ap (λ t. cond t (Some v) (find_var vs q)) (ap (λ (u : Var). same_part u.part q) (some_same v p e) ∙ s) ∙ e
    go false e i = later e (i e) (same_part v.part q) refl

-- ---- a part that is used

and_true : (a b : Bool) → (a && b) ≡ true → (a ≡ true) × (b ≡ true)
and_true true b e = (refl, e)
and_true false b e = clash (sym e)

pub no_prefixes : (a b c : Bool) → (a && (b || c)) ≡ false → a ≡ true → (b ≡ false) × (c ≡ false)
no_prefixes true b c e h = (or_left b c e, or_right b c e)
no_prefixes false b c e h = clash (sym h)

module _ (out : Outside) (held : List (List Part)) (W : Places) (under : List Value) (c : Context) (s : Flattening) (st : Stands out held W under c s) where
  -- the part of the operands of its variable
  abbrev pub used_part : (u : Use) → IsThere held c.vars u → List Operand
  used_part u h = part_of h.owner.ty.shape (indices u.part) (W h.owner.place)

  pub wires_are : (u : Use) (h : IsThere held c.vars u) (w : WireId) → wires_of_part W c.vars u.part w ≡ among (wires_in (used_part u h)) w
  wires_are u h w = ap (λ r. wires_for W r u.part w) h.found

  pub shows : (u : Use) (h : IsThere held c.vars u) (r : Option Var) → part_out c.vars u.part.name ≡ r → shown W c.vars h.owner ≡ less_part r (bits_for W h.owner)
  shows u h r e =
      ap (λ t. cond t Absent (less_part (part_out c.vars h.owner.part.name) (bits_for W h.owner))) h.live
      ∙ ap (λ q. less_part q (bits_for W h.owner)) (ap (λ (p : Part). part_out c.vars p.name) (found_there c.vars u.part.name h.owner h.found) ∙ e)

  -- a part that was taken out lies apart from it
  pub out_apart : (u : Use) (h : IsThere held c.vars u) (p : Var) → part_out c.vars u.part.name ≡ Some p → Apart h.owner.ty.shape (indices u.part) (indices p.part)
  out_apart u h p e = lie_apart h.owner.ty.classical h.owner.ty.shape (indices u.part) (indices p.part) h.kind.0 p.ty h.kind.1 kind prefixes.1 prefixes.0
    where
      is : (is_part p ≡ true) × ((p.consumed && same_name p.part.name u.part.name) ≡ true)
      is = and_true (is_part p) (p.consumed && same_name p.part.name u.part.name) (out_is c.vars u.part.name p e)

      gone : (p.consumed ≡ true) × (same_name p.part.name u.part.name ≡ true)
      gone = and_true p.consumed (same_name p.part.name u.part.name) is.1

      of : (v : Var) × (find_var c.vars (variable p.part.name) ≡ Some v) × IsPartOf W p v
      of = out_all (FitsPart W c.vars) c.vars u.part.name p e st.parts is.0

      its : of.0 ≡ h.owner
      its = some_same of.0 h.owner (sym of.1 ∙ (ap (λ n. find_var c.vars (variable n)) (same_is_equal p.part.name u.part.name gone.1) ∙ h.found))

      kind : part_type h.owner.ty.classical h.owner.ty.shape (indices p.part) ≡ Some p.ty
      kind = subst (λ (v : Var). part_type v.ty.classical v.ty.shape (indices p.part) ≡ Some p.ty) its of.2.kind

      other : (t : Bool) → same_part p.part u.part ≡ t → t ≡ false
      other false f = refl
      other true f = clash (sym gone.0 ∙ h.here p (out_found c.vars u.part.name p u.part e st.differ f))

      prefixes : (is_prefix (indices p.part) (indices u.part) ≡ false) × (is_prefix (indices u.part) (indices p.part) ≡ false)
      prefixes =
          no_prefixes (same_name p.part.name u.part.name) (is_prefix (indices p.part) (indices u.part)) (is_prefix (indices u.part) (indices p.part))
          (out_all (Beside u.part) c.vars u.part.name p e (beside c.vars u.part h.clear) is.0 (other (same_part p.part u.part) refl)) gone.1

  -- the name shows its wires
  pub part_shows : (u : Use) (h : IsThere held c.vars u) (w : WireId) → times_in w (used_part u h) ≤ times_in w (operands_in (shown W c.vars h.owner))
  part_shows u h w = go (part_out c.vars u.part.name) refl
    where
      go : (r : Option Var) → part_out c.vars u.part.name ≡ r → times_in w (used_part u h) ≤ times_in w (operands_in (shown W c.vars h.owner))
      go None e = subst (λ k. times_in w (used_part u h) ≤ times_in w (operands_in k)) (sym (shows u h None e)) (part_at_most w h.owner.ty.shape (indices u.part) (W h.owner.place))
      go (Some p) e =
          subst (λ k. times_in w (used_part u h) ≤ times_in w (operands_in k)) (sym (shows u h (Some p) e))
          (part_is_outside w h.owner.ty.shape (indices u.part) (indices p.part) (W h.owner.place) (out_apart u h p e))
