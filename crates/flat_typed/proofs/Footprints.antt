-- What one operand uses and the other consumes has no wire in common, and what is consumed may be changed.
use Rattle.std.proofs.Common.{◌≡◌, ◌⊎◌, inl, inr, suc, ◌+◌, ◌≤◌, Bool, true, false, cond, not, ◌&&◌, ◌||◌, List, [], ◌∷◌, refl, sym, ap, ap₂, ◌∙◌, subst, arith}
use Rattle.std.specs.Prelude.{Option, Some, None}
use Rattle.std.specs.List.{list_any}
use Rattle.std.proofs.lemmas.Bool.{lt-ltb}
use Rattle.silq_tree.specs.declared.node.NameId.{NameId}
use Rattle.silq_types.specs.declared.need.Need.{Need}
use Rattle.silq_types.specs.declared.values.Part.{Part}
use Rattle.silq_types.specs.declared.values.Value.{Value}
use Rattle.silq_types.specs.declared.values.Var.{Var}
use Rattle.silq_types.specs.Types.{same_name}
use Rattle.silq_types.specs.Calls.{is_consumed}
use Rattle.check_scope.specs.declared.uses.Use.{Use}
use Rattle.check_scope.specs.Context.{Context, indices, variable, part_at, same_part, overlaps, is_prefix, find_var, part_type, is_in_condition}
use Rattle.check_scope.specs.Uses.{meets, clash as uses_clash, is_only_held, both_consume, consume_and_hold}
use Rattle.check_expr.proofs.Alike.{same_part_same}
use Rattle.flat_core.specs.declared.step.WireId.{WireId}
use Rattle.bit_arith.specs.declared.operand.Operand.{Operand}
use Rattle.bit_arith.specs.Calls.{among}
use Rattle.flat_form.specs.State.{Flattening, wires_so_far, wires_in, part_of}
use Rattle.flat_form.specs.Names.{AllOf, operands_in, named_by, names}
use Rattle.flat_typed.specs.Places.{Places, is_part, is_shared, has_wires, part_out, shown, times_in, holds, holders, owners_of}
use Rattle.flat_typed.specs.Footprint.{wires_of_part, used_wires, consumed_wires}
use Rattle.flat_typed.specs.Relation.{Outside, Stands, SparesGuarded}
use Rattle.flat_typed.specs.Uses.{IsThere, OperandsApart, ConsumedMayChange}
use Rattle.flat_typed.proofs.Ordered.{clash, same_is_equal, or_left, or_right}
use Rattle.flat_typed.proofs.Parts.{found_there, some_same, name_refl}
use Rattle.flat_typed.proofs.Changes.{whole_is}
use Rattle.flat_typed.proofs.Moving.{found_all}
use Rattle.flat_typed.proofs.Owning.{among_times, spares_guarded}
use Rattle.flat_typed.proofs.Spans.{Apart, lie_apart, parts_apart, part_and_outside}
use Rattle.flat_typed.proofs.Apart.{two_beside, no_prefixes, used_part, wires_are, shows, out_apart, part_shows}

-- ---- sums over variables

pub one_found : (W : Places) (all vs : List Var) (w : WireId) (p : Part) (v : Var) → find_var vs p ≡ Some v → holds W all w v ≤ holders W all w vs
one_found W all [] w p v e = absurd (grind (arith, e))
one_found W all (z ∷ zs) w p v e = go (same_part z.part p) e (λ f. one_found W all zs w p v f)
  where
    go : (t : Bool) → cond t (Some z) (find_var zs p) ≡ Some v → (find_var zs p ≡ Some v → holds W all w v ≤ holders W all w zs) → holds W all w v ≤ holds W all w z + holders W all w zs
    go true e i = let a : holds W all w z ≡ holds W all w v = ap (holds W all w) (some_same z v e) in omega (arith, a)
    go false e i = let a = i e in omega (arith, a)

-- two variables
two_found : (W : Places) (all vs : List Var) (w : WireId) (x y : NameId) (v u : Var) → find_var vs (variable x) ≡ Some v → find_var vs (variable y) ≡ Some u → same_name x y ≡ false → holds W all w v + holds W all w u ≤ holders W all w vs
two_found W all [] w x y v u e f n = absurd (grind (arith, e))
two_found W all (z ∷ zs) w x y v u e f n = go (same_part z.part (variable x)) refl (same_part z.part (variable y)) refl e f (λ g h. two_found W all zs w x y v u g h n)
  where
    go : (a : Bool) → same_part z.part (variable x) ≡ a → (b : Bool) → same_part z.part (variable y) ≡ b → cond a (Some z) (find_var zs (variable x)) ≡ Some v → cond b (Some z) (find_var zs (variable y)) ≡ Some u
        → (find_var zs (variable x) ≡ Some v → find_var zs (variable y) ≡ Some u → holds W all w v + holds W all w u ≤ holders W all w zs) → holds W all w v + holds W all w u ≤ holds W all w z + holders W all w zs
    go true g true h e f i =
        clash (sym (name_refl x) ∙ (ap (same_name x) (ap (λ (p : Part). p.name) (sym (same_part_same z.part (variable x) g) ∙ same_part_same z.part (variable y) h)) ∙ n))
    go true g false h e f i = let a : holds W all w z ≡ holds W all w v = ap (holds W all w) (some_same z v e) in let b = one_found W all zs w (variable y) u f in omega (arith, a, b)
    go false g true h e f i = let a : holds W all w z ≡ holds W all w u = ap (holds W all w) (some_same z u f) in let b = one_found W all zs w (variable x) v e in omega (arith, a, b)
    go false g false h e f i = let a = i e f in omega (arith, a)

pub named_none : (w : WireId) (ps : List Operand) → list_any (named_by w) ps ≡ false → times_in w ps ≡ 0
named_none w [] e = refl
named_none w (p ∷ ps) e = go (named_by w p) e (named_none w ps)
  where
    go : (t : Bool) → (t || list_any (named_by w) ps) ≡ false → (list_any (named_by w) ps ≡ false → times_in w ps ≡ 0) → cond t (suc (times_in w ps)) (times_in w ps) ≡ 0
    go true e i = clash e
    go false e i = i e

not_among : (w : WireId) (ps : List Operand) → times_in w ps ≡ 0 → among (wires_in ps) w ≡ false
not_among w ps e = go (among (wires_in ps) w) refl
  where
    go : (t : Bool) → among (wires_in ps) w ≡ t → t ≡ false
    go false f = refl
    go true f = let a = among_times w ps f in absurd (omega (arith, a, e))

-- ---- overlaps

same_name_swap : (x y : NameId) → same_name x y ≡ same_name y x
same_name_swap x y = go (same_name x y) refl (same_name y x) refl
  where
    go : (a : Bool) → same_name x y ≡ a → (b : Bool) → same_name y x ≡ b → a ≡ b
    go true e true f = refl
    go false e false f = refl
    go true e false f = clash (sym (ap (λ z. same_name z x) (sym (same_is_equal x y e)) ∙ name_refl x) ∙ f)
    go false e true f = clash (sym (ap (λ z. same_name z y) (sym (same_is_equal y x f)) ∙ name_refl y) ∙ e)

or_swap : (a b : Bool) → (a || b) ≡ (b || a)
or_swap true true = refl
or_swap true false = refl
or_swap false true = refl
or_swap false false = refl

pub overlaps_swap : (p q : Part) → overlaps p q ≡ overlaps q p
overlaps_swap p q = ap₂ (λ a b. a && b) (same_name_swap p.name q.name) (or_swap (is_prefix (indices p) (indices q)) (is_prefix (indices q) (indices p)))

abbrev Free : (Need → Bool) → Use → Use → Type 0
Free wanted u v = is_consumed u.need ≡ true → wanted v.need ≡ true → overlaps u.part v.part ≡ false

meets_free : (wanted : Need → Bool) (u : Use) (vs : List Use) → (is_consumed u.need ≡ true → meets wanted u.part vs ≡ false) → AllOf (Free wanted u) vs
meets_free wanted u [] e = tt
meets_free wanted u (v ∷ vs) e =
    (λ k n. go (wanted v.need) (or_left (wanted v.need && overlaps u.part v.part) (meets wanted u.part vs) (e k)) n, meets_free wanted u vs (λ k. or_right (wanted v.need && overlaps u.part v.part) (meets wanted u.part vs) (e k)))
  where
    go : (t : Bool) → (t && overlaps u.part v.part) ≡ false → t ≡ true → overlaps u.part v.part ≡ false
    go true e n = e
    go false e n = clash (sym n)

clash_free : (wanted : Need → Bool) (us vs : List Use) → uses_clash wanted us vs ≡ false → AllOf (λ u. AllOf (Free wanted u) vs) us
clash_free wanted [] vs e = tt
clash_free wanted (u ∷ us) vs e = (meets_free wanted u vs (go (is_consumed u.need) (or_left (is_consumed u.need && meets wanted u.part vs) (uses_clash wanted us vs) e)), clash_free wanted us vs (or_right (is_consumed u.need && meets wanted u.part vs) (uses_clash wanted us vs) e))
  where
    go : (t : Bool) → (t && meets wanted u.part vs) ≡ false → t ≡ true → meets wanted u.part vs ≡ false
    go true e n = e
    go false e n = clash (sym n)

front_all : {A B : Type 0} (R : A → B → Type 0) (x : A) (xs : List A) (ys : List B) → AllOf (R x) ys → AllOf (λ y. AllOf (λ x. R x y) xs) ys → AllOf (λ y. AllOf (λ x. R x y) (x ∷ xs)) ys
front_all R x xs [] h k = tt
front_all R x xs (y ∷ ys) h k = ((h.0, k.0), front_all R x xs ys h.1 k.1)

none_all : {A B : Type 0} (R : A → B → Type 0) (ys : List B) → AllOf (λ y. AllOf (λ x. R x y) []) ys
none_all R [] = tt
none_all R (y ∷ ys) = (tt, none_all R ys)

-- the other way round
turned : {A B : Type 0} (R : A → B → Type 0) (xs : List A) (ys : List B) → AllOf (λ x. AllOf (R x) ys) xs → AllOf (λ y. AllOf (λ x. R x y) xs) ys
turned R [] ys h = none_all R ys
turned R (x ∷ xs) ys h = front_all R x xs ys h.0 (turned R xs ys h.1)

-- no part that the second uses consume overlaps one of the first
abbrev pub Untouched : List Use → Use → Type 0
Untouched us v = is_consumed v.need ≡ true → AllOf (λ (u : Use). overlaps v.part u.part ≡ false) us

no_overlap : (u v : Use) → Free is_consumed u v → Free is_only_held v u → is_consumed v.need ≡ true → overlaps v.part u.part ≡ false
no_overlap u v f g k = go (is_consumed u.need) refl
  where
    go : (t : Bool) → is_consumed u.need ≡ t → overlaps v.part u.part ≡ false
    go true e = overlaps_swap v.part u.part ∙ f e k
    go false e = g k (ap not e)

one_untouched : (us : List Use) (v : Use) → AllOf (λ u. Free is_consumed u v) us → AllOf (Free is_only_held v) us → Untouched us v
one_untouched [] v f g = λ k. tt
one_untouched (u ∷ us) v f g = λ k. (no_overlap u v f.0 g.0 k, one_untouched us v f.1 g.1 k)

pub all_untouched : (us vs : List Use) → both_consume us vs ≡ false → consume_and_hold us vs ≡ false → AllOf (Untouched us) vs
all_untouched us vs b h = go vs (turned (Free is_consumed) us vs (clash_free is_consumed us vs b)) (clash_free is_only_held vs us (or_right (uses_clash is_only_held us vs) (uses_clash is_only_held vs us) h))
  where
    go : (vs : List Use) → AllOf (λ v. AllOf (λ u. Free is_consumed u v) us) vs → AllOf (λ v. AllOf (Free is_only_held v) us) vs → AllOf (Untouched us) vs
    go [] f g = tt
    go (v ∷ vs) f g = (one_untouched us v f.0 g.0, go vs f.1 g.1)

-- ---- under the relation

module _ (out : Outside) (held : List (List Part)) (W : Places) (under : List Value) (c : Context) (s : Flattening) (st : Stands out held W under c s) where
  abbrev bits : (u : Use) → IsThere held c.vars u → List Operand
  bits u h = used_part out held W under c s st u h

  pub owner_shows : (u : Use) (h : IsThere held c.vars u) → is_shared h.owner ≡ false → (w : WireId) → holds W c.vars w h.owner ≡ times_in w (operands_in (shown W c.vars h.owner))
  owner_shows u h q w =
      ap (λ t. cond t (times_in w (operands_in (shown W c.vars h.owner))) 0)
      (ap (λ t. not ((t || is_part h.owner) || is_shared h.owner)) h.live
      ∙ (ap (λ t. not (t || is_shared h.owner)) (whole_is h.owner u.part.name (found_there c.vars u.part.name h.owner h.found)) ∙ ap (λ t. not t) q))

  -- a wire of a consumed part has an owner
  owned : (u : Use) (h : IsThere held c.vars u) → is_consumed u.need ≡ true → (w : WireId) → 1 ≤ times_in w (bits u h) → 1 ≤ owners_of W c.vars under w
  owned u h k w le =
      let a = part_shows out held W under c s st u h w in
      let b = owner_shows u h (h.own k) w in
      let d = one_found W c.vars c.vars w (variable u.part.name) h.owner h.found in
      omega (arith, le, a, b, d)

  -- two parts of one variable
  same_owner : (u v : Use) (h : IsThere held c.vars u) (k : IsThere held c.vars v) → overlaps u.part v.part ≡ false → same_name u.part.name v.part.name ≡ true → (w : WireId)
      → times_in w (bits u h) + times_in w (bits v k) ≤ times_in w (operands_in (shown W c.vars h.owner))
  same_owner u v h k o n w = subst (λ m. times_in w (bits u h) + m ≤ times_in w (operands_in (shown W c.vars h.owner))) (ap (λ (z : Var). times_in w (part_of z.ty.shape (indices v.part) (W z.place))) one) (go (part_out c.vars u.part.name) refl)
    where
      one : h.owner ≡ k.owner
      one = some_same h.owner k.owner (sym h.found ∙ (ap (λ x. find_var c.vars (variable x)) (same_is_equal u.part.name v.part.name n) ∙ k.found))

      other : List Operand
      other = part_of h.owner.ty.shape (indices v.part) (W h.owner.place)

      prefixes : (is_prefix (indices u.part) (indices v.part) ≡ false) × (is_prefix (indices v.part) (indices u.part) ≡ false)
      prefixes = no_prefixes (same_name u.part.name v.part.name) (is_prefix (indices u.part) (indices v.part)) (is_prefix (indices v.part) (indices u.part)) o n

      apart : Apart h.owner.ty.shape (indices u.part) (indices v.part)
      apart =
          lie_apart h.owner.ty.classical h.owner.ty.shape (indices u.part) (indices v.part) h.kind.0 k.kind.0 h.kind.1
          (subst (λ (z : Var). part_type z.ty.classical z.ty.shape (indices v.part) ≡ Some k.kind.0) (sym one) k.kind.1) prefixes.0 prefixes.1

      out_of : (p : Var) → part_out c.vars u.part.name ≡ Some p → Apart h.owner.ty.shape (indices v.part) (indices p.part)
      out_of p e = subst (λ (z : Var). Apart z.ty.shape (indices v.part) (indices p.part)) (sym one) (out_apart out held W under c s st v k p (ap (part_out c.vars) (sym (same_is_equal u.part.name v.part.name n)) ∙ e))

      go : (r : Option Var) → part_out c.vars u.part.name ≡ r → times_in w (bits u h) + times_in w other ≤ times_in w (operands_in (shown W c.vars h.owner))
      go None e = subst (λ k. times_in w (bits u h) + times_in w other ≤ times_in w (operands_in k)) (sym (shows out held W under c s st u h None e)) (parts_apart w h.owner.ty.shape (indices u.part) (indices v.part) (W h.owner.place) apart)
      go (Some p) e =
          subst (λ k. times_in w (bits u h) + times_in w other ≤ times_in w (operands_in k)) (sym (shows out held W under c s st u h (Some p) e))
          (let a = two_beside w h.owner.ty.shape (indices u.part) (indices v.part) (indices p.part) (W h.owner.place) apart (out_apart out held W under c s st u h p e) (out_of p e) in
          let b = part_and_outside w h.owner.ty.shape (indices p.part) (W h.owner.place) in
          omega (arith, a, b))

  -- a wire of a consumed part is none of a part that does not overlap it
  share_none : (u v : Use) (h : IsThere held c.vars u) (k : IsThere held c.vars v) → is_consumed u.need ≡ true → overlaps u.part v.part ≡ false → (w : WireId) → 1 ≤ times_in w (bits u h) → times_in w (bits v k) ≡ 0
  share_none u v h k q o w le = go (same_name u.part.name v.part.name) refl
    where
      seen : times_in w (bits u h) ≤ times_in w (operands_in (shown W c.vars h.owner))
      seen = part_shows out held W under c s st u h w

      mine : holds W c.vars w h.owner ≡ times_in w (operands_in (shown W c.vars h.owner))
      mine = owner_shows u h (h.own q) w

      other_seen : times_in w (bits v k) ≤ times_in w (operands_in (shown W c.vars k.owner))
      other_seen = part_shows out held W under c s st v k w

      kinds : (t : Bool) → is_shared k.owner ≡ t → same_name u.part.name v.part.name ≡ false → times_in w (bits v k) ≡ 0
      kinds true e n =
          let a = named_none w (operands_in (shown W c.vars k.owner)) (found_all (λ z. is_shared z ≡ true → names (shown W c.vars z) w ≡ false) c.vars (variable v.part.name) k.owner k.found (st.shared w (owned u h q w le)) e) in
          let b = other_seen in
          omega (arith, a, b)
      kinds false e n =
          let a = two_found W c.vars c.vars w u.part.name v.part.name h.owner k.owner h.found k.found n in
          let b = owner_shows v k e w in
          let d = st.one w in
          let f = seen in
          let g = mine in
          let i = other_seen in
          omega (arith, a, b, d, f, g, i, le)

      go : (t : Bool) → same_name u.part.name v.part.name ≡ t → times_in w (bits v k) ≡ 0
      go true n =
          let a = same_owner u v h k o n w in
          let b = mine in
          let d = one_found W c.vars c.vars w (variable u.part.name) h.owner h.found in
          let f = st.one w in
          omega (arith, a, b, d, f, le)
      go false n = kinds (is_shared k.owner) refl n

  there : (u : Use) (h : IsThere held c.vars u) (w : WireId) → wires_of_part W c.vars u.part w ≡ true → 1 ≤ times_in w (bits u h)
  there u h w e = among_times w (bits u h) (sym (wires_are out held W under c s st u h w) ∙ e)

  none_of : (v : Use) (k : IsThere held c.vars v) → is_consumed v.need ≡ true → (w : WireId) → 1 ≤ times_in w (bits v k) → (us : List Use) → AllOf (IsThere held c.vars) us → AllOf (λ (u : Use). overlaps v.part u.part ≡ false) us → used_wires W c.vars us w ≡ false
  none_of v k q w le [] hu o = refl
  none_of v k q w le (u ∷ us) hu o = ap₂ (λ a b. a || b) (wires_are out held W under c s st u hu.0 w ∙ not_among w (bits u hu.0) (share_none v u k hu.0 q o.0 w le)) (none_of v k q w le us hu.1 o.1)

  -- what some uses consume and others use
  pub consumed_apart : (us vs : List Use) → AllOf (IsThere held c.vars) us → AllOf (IsThere held c.vars) vs → AllOf (Untouched us) vs → (w : WireId) → consumed_wires W c.vars vs w ≡ true → used_wires W c.vars us w ≡ false
  consumed_apart us [] hu hv n w e = clash (sym e)
  consumed_apart us (v ∷ vs) hu hv n w e = go (is_consumed v.need) refl (wires_of_part W c.vars v.part w) refl e (λ f. consumed_apart us vs hu hv.1 n.1 w f)
    where
      go : (a : Bool) → is_consumed v.need ≡ a → (b : Bool) → wires_of_part W c.vars v.part w ≡ b → ((a && b) || consumed_wires W c.vars vs w) ≡ true → (consumed_wires W c.vars vs w ≡ true → used_wires W c.vars us w ≡ false) → used_wires W c.vars us w ≡ false
      go true q true f e i = none_of v hv.0 q w (there v hv.0 w f) us hu (n.0 q)
      go true q false f e i = i e
      go false q b f e i = i e

  loose_wire : (u : Use) (h : IsThere held c.vars u) → is_consumed u.need ≡ true → (w : WireId) → among (wires_in (bits u h)) w ≡ true → out.guarded w ≡ false
  loose_wire u h q w e = go (out.guarded w) refl
    where
      its : h.owner.part.name ≡ u.part.name
      its = ap (λ (p : Part). p.name) (found_there c.vars u.part.name h.owner h.found)

      has : has_wires h.owner ≡ true
      has =
          ap (λ t. not ((t || is_part h.owner) || is_shared h.owner)) h.live
          ∙ (ap (λ t. not (t || is_shared h.owner)) (whole_is h.owner u.part.name (found_there c.vars u.part.name h.owner h.found)) ∙ ap (λ t. not t) (h.own q))

      spared : AllOf (λ w. out.guarded w ≡ false) (wires_in (bits u h))
      spared =
          found_all (SparesGuarded out.guarded held W) c.vars (variable u.part.name) h.owner h.found st.spares has (indices u.part) h.kind.0 h.kind.1
          (ap (λ x. is_in_condition held (part_at x (indices u.part))) its ∙ h.loose q)

      go : (t : Bool) → out.guarded w ≡ t → t ≡ false
      go false g = refl
      go true g = clash (sym e ∙ spares_guarded out.guarded (wires_in (bits u h)) w spared g)

  -- it has an owner, and no condition guards it
  pub consumed_each : (us : List Use) → AllOf (IsThere held c.vars) us → (w : WireId) → consumed_wires W c.vars us w ≡ true → (1 ≤ owners_of W c.vars under w) × (out.guarded w ≡ false)
  consumed_each [] h w e = clash (sym e)
  consumed_each (u ∷ us) h w e = go (is_consumed u.need) refl (wires_of_part W c.vars u.part w) refl e (λ f. consumed_each us h.1 w f)
    where
      go : (a : Bool) → is_consumed u.need ≡ a → (b : Bool) → wires_of_part W c.vars u.part w ≡ b → ((a && b) || consumed_wires W c.vars us w) ≡ true → (consumed_wires W c.vars us w ≡ true → (1 ≤ owners_of W c.vars under w) × (out.guarded w ≡ false)) → (1 ≤ owners_of W c.vars under w) × (out.guarded w ≡ false)
      go true q true f e i = (owned u h.0 q w (there u h.0 w f), loose_wire u h.0 q w (sym (wires_are out held W under c s st u h.0 w) ∙ f))
      go true q false f e i = i e
      go false q b f e i = i e

-- ---- the laws

pub operands_apart : OperandsApart
operands_apart out held W under c s us vs k st hu hv b h within w e = go (names k w) refl
  where
    go : (t : Bool) → names k w ≡ t → t ≡ false
    go false n = refl
    go true n = pick (within w n)
      where
        pick : (used_wires W c.vars us w ≡ true) ⊎ (wires_so_far s ≤ w.number) → true ≡ false
        pick (inl u) = clash (sym u ∙ consumed_apart out held W under c s st us vs hu hv (all_untouched us vs b h) w e)
        pick (inr le) = let a = (st.free w (consumed_each out held W under c s st vs hv w e).0).0 in absurd (omega (arith, a, le))

pub consumed_may_change : ConsumedMayChange
consumed_may_change out held W under c s us st h w e =
    let a = consumed_each out held W under c s st us h w e in
    ap₂ (λ g n. not g && n) a.1 (lt-ltb 0 (owners_of W c.vars under w) (omega (arith, a.0)))
