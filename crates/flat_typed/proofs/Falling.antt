-- Behind an expression no variable owns, and none shows, a wire that it did not show before; and nothing before knows new wires.
use Rattle.std.proofs.Common.{◌≡◌, ◌⊎◌, inl, inr, ℕ, suc, ◌+◌, ◌≤◌, ◌<◌, Bool, true, false, cond, not, ◌&&◌, ◌||◌, List, [], ◌∷◌, ◌++◌, length, refl, sym, ap, ap₂, ◌∙◌, subst, arith}
use Rattle.std.specs.Prelude.{◌==◌, Option, Some, None}
use Rattle.std.specs.List.{list_any}
use Rattle.std.proofs.lemmas.Bool.{cases_lt, eq-eqb}
use Rattle.silq_tree.specs.declared.node.NameId.{NameId}
use Rattle.silq_types.specs.declared.types.Ty.{Ty}
use Rattle.silq_types.specs.declared.values.Origin.{Origin}
use Rattle.silq_types.specs.declared.values.Part.{Part}
use Rattle.silq_types.specs.declared.values.Value.{Value}
use Rattle.silq_types.specs.declared.values.Var.{Var}
use Rattle.silq_types.specs.Types.{same_name, is_held, shape_bits}
use Rattle.silq_mean.specs.Written.{is_empty}
use Rattle.silq_mean.specs.Env.{Env}
use Rattle.check_scope.specs.Context.{indices, variable, find_var}
use Rattle.check_expr.specs.Owners.{at_place, owns, owners, owned}
use Rattle.flat_core.specs.declared.step.WireId.{WireId}
use Rattle.bit_arith.specs.declared.operand.Operand.{Operand}
use Rattle.bit_arith.specs.declared.operand.Operand.TheVariants.{Const, Literal}
use Rattle.bit_arith.specs.Calls.{AllSafe, no_target}
use Rattle.flat_core.specs.Label.{same_wire}
use Rattle.flat_form.specs.declared.known.TypedBits.{TypedBits}
use Rattle.flat_form.specs.declared.known.Known.{Known}
use Rattle.flat_form.specs.declared.known.Known.TheVariants.{Static, Shown, Lent, Absent}
use Rattle.flat_form.specs.State.{outside, part_shape, part_start}
use Rattle.flat_form.specs.Names.{AllOf, AllEnv, operands_in, names, named_by}
use Rattle.flat_form.specs.Good.{IsKnown}
use Rattle.flat_typed.specs.Places.{Places, is_part, is_shared, has_wires, part_out, less_part, bits_for, shown, entries, in_order, holds, holders, times_in, carriers, owners_of}
use Rattle.flat_typed.specs.Relation.{FitsPart}
use Rattle.flat_typed.specs.Done.{Agree, parts_in}
use Rattle.flat_typed.proofs.Ordered.{clash}
use Rattle.flat_typed.proofs.Parts.{found_there}
use Rattle.flat_typed.proofs.Changes.{whole_is}
use Rattle.flat_typed.proofs.Moving.{found_all}
use Rattle.flat_typed.proofs.Owning.{no_times, wire_is}
use Rattle.flat_typed.proofs.Spans.{span_and_outside, part_at_most}
use Rattle.flat_typed.proofs.Uses.{all_join}
use Rattle.flat_typed.proofs.Tame.{Left, AllLeft}
use Rattle.flat_typed.proofs.Handing.{carriers_agree}

-- at most one part is taken out
abbrev pub OnePart : List Var → Type 0
OnePart [] = Unit {0}
OnePart (v ∷ vs) = (is_part v ≡ true → AllOf (λ (u : Var). is_part u ≡ false) vs) × OnePart vs

no_parts : (vs : List Var) → parts_in vs ≤ 0 → AllOf (λ (u : Var). is_part u ≡ false) vs
no_parts [] le = tt
no_parts (v ∷ vs) le = go (is_part v) refl le (no_parts vs)
  where
    go : (t : Bool) → is_part v ≡ t → cond t (suc (parts_in vs)) (parts_in vs) ≤ 0 → (parts_in vs ≤ 0 → AllOf (λ (u : Var). is_part u ≡ false) vs) → AllOf (λ (u : Var). is_part u ≡ false) (v ∷ vs)
    go true e le i = absurd (omega (arith, le))
    go false e le i = (e, i le)

pub one_part : (vs : List Var) → parts_in vs ≤ 1 → OnePart vs
one_part [] le = tt
one_part (v ∷ vs) le = go (is_part v) refl le (one_part vs)
  where
    go : (t : Bool) → is_part v ≡ t → cond t (suc (parts_in vs)) (parts_in vs) ≤ 1 → (parts_in vs ≤ 1 → OnePart vs) → OnePart (v ∷ vs)
    go true e le i = (λ q. no_parts vs (omega (arith, le)), i (omega (arith, le)))
    go false e le i = (λ q. clash (sym q ∙ e), i le)

-- ---- places of variables and values

pub left_owners : (vs ws : List Var) → AllLeft vs ws → (p : ℕ) → owners p ws ≤ owners p vs
left_owners [] [] h p = omega arith
left_owners [] (w ∷ ws) h p = absurd h
left_owners (v ∷ vs) [] h p = absurd h
left_owners (v ∷ vs) (w ∷ ws) h p = let a = one w.consumed refl in let b = left_owners vs ws h.1 p in omega (arith, a, b)
  where
    one : (t : Bool) → w.consumed ≡ t → owns p w ≤ owns p v
    one true e = let a : owns p w ≡ 0 = ap (λ t. cond t 0 (at_place p w.place)) e in omega (arith, a)
    one false e =
        let a : owns p w ≡ owns p v = ap (λ t. cond t 0 (at_place p w.place)) e ∙ (ap (at_place p) h.0.place ∙ sym (ap (λ t. cond t 0 (at_place p v.place)) (h.0.live e))) in
        omega (arith, a)

at_own : (p : ℕ) → at_place p p ≡ 1
at_own p = ap (λ t. cond t 1 0) (eq-eqb p p refl)

abbrev pub Below : ℕ → Var → Type 0
Below n v = v.consumed ≡ false → v.place < n

pub live_below : (n : ℕ) (vs : List Var) → ((p : ℕ) → n ≤ p → owners p vs ≡ 0) → AllOf (Below n) vs
live_below n [] h = tt
live_below n (v ∷ vs) h = (λ e. go e (cases_lt v.place n), live_below n vs (λ p le. let a = h p le in omega (arith, a)))
  where
    go : v.consumed ≡ false → (v.place < n) ⊎ (n ≤ v.place) → v.place < n
    go e (inl lt) = lt
    go e (inr le) =
        let a = h v.place le in
        let b : owns v.place v ≡ 1 = ap (λ t. cond t 0 (at_place v.place v.place)) e ∙ at_own v.place in
        absurd (omega (arith, a, b))

pub values_below : (n : ℕ) (vs : List Value) → ((p : ℕ) → n ≤ p → owned p vs ≡ 0) → AllOf (λ (v : Value). v.place < n) vs
values_below n [] h = tt
values_below n (v ∷ vs) h = (go (cases_lt v.place n), values_below n vs (λ p le. let a = h p le in omega (arith, a)))
  where
    go : (v.place < n) ⊎ (n ≤ v.place) → v.place < n
    go (inl lt) = lt
    go (inr le) = let a = h v.place le in let b = at_own v.place in absurd (omega (arith, a, b))

pub values_agree : (n : ℕ) (W U : Places) (vs : List Value) → Agree n W U → AllOf (λ (v : Value). v.place < n) vs → AllOf (λ (v : Value). U v.place ≡ W v.place) vs
values_agree n W U [] g h = tt
values_agree n W U (v ∷ vs) g h = (g v.place h.0, values_agree n W U vs g h.1)

-- ---- what a name shows

pub outside_at_most : (w : WireId) (a m : ℕ) (ps : List Operand) → times_in w (outside a m ps) ≤ times_in w ps
outside_at_most w a m ps = let e = span_and_outside w a m ps in omega (arith, e)

less_at_most : (w : WireId) (r : Option Var) (u : TypedBits) → times_in w (operands_in (less_part r u)) ≤ times_in w u.operands
less_at_most w None u = omega arith
less_at_most w (Some p) u = outside_at_most w (part_start u.shape (indices p.part)) (shape_bits (part_shape u.shape (indices p.part))) u.operands

pub shown_at_most : (W : Places) (all : List Var) (v : Var) (w : WireId) → (v.consumed ≡ false → times_in w (W v.place) ≡ 0) → times_in w (operands_in (shown W all v)) ≡ 0
shown_at_most W all v w h = go v.consumed refl
  where
    go : (t : Bool) → v.consumed ≡ t → times_in w (operands_in (cond t Absent (less_part (part_out all v.part.name) (bits_for W v)))) ≡ 0
    go true e = refl
    go false e = let a = less_at_most w (part_out all v.part.name) (bits_for W v) in let b = h e in omega (arith, a, b)

-- the part that was taken out stays the same
abbrev pub OutLeft : Option Var → Option Var → Type 0
OutLeft None o = Unit {0}
OutLeft (Some p) (Some q) = Left p q
OutLeft (Some p) None = ⊥

none_out_of : (vs : List Var) (x : NameId) → AllOf (λ (u : Var). is_part u ≡ false) vs → part_out vs x ≡ None
none_out_of [] x h = refl
none_out_of (v ∷ vs) x h = ap (λ t. cond (t && (v.consumed && same_name v.part.name x)) (Some v) (part_out vs x)) h.0 ∙ none_out_of vs x h.1

pub out_left : (vs ws : List Var) (x : NameId) → AllLeft vs ws → OnePart vs → OutLeft (part_out vs x) (part_out ws x)
out_left [] [] x h o = tt
out_left [] (w ∷ ws) x h o = absurd h
out_left (v ∷ vs) [] x h o = absurd h
out_left (v ∷ vs) (w ∷ ws) x h o = go (is_part v) refl v.consumed refl (same_name v.part.name x) refl (out_left vs ws x h.1 o.1)
  where
    still : v.consumed ≡ true → (t : Bool) → w.consumed ≡ t → t ≡ true
    still e true f = refl
    still e false f = clash (sym e ∙ h.0.live f)

    goal : Bool → Bool → Type 0
    goal s t = OutLeft (cond s (Some v) (part_out vs x)) (cond t (Some w) (part_out ws x))

    same : (is_part w && (w.consumed && same_name w.part.name x)) ≡ (is_part v && (w.consumed && same_name v.part.name x))
    same = ap (λ (p : Part). not (is_empty (indices p)) && (w.consumed && same_name p.name x)) h.0.part

    either : (t : Bool) → AllOf (λ (u : Var). is_part u ≡ false) vs → goal false t
    either t a = subst (λ r. OutLeft r (cond t (Some w) (part_out ws x))) (sym (none_out_of vs x a)) tt

    at : (s t : Bool) → (is_part v && (v.consumed && same_name v.part.name x)) ≡ s → (is_part v && (w.consumed && same_name v.part.name x)) ≡ t → goal s t → OutLeft (part_out (v ∷ vs) x) (part_out (w ∷ ws) x)
    at s t e f g = subst (λ b. OutLeft (cond b (Some v) (part_out vs x)) (part_out (w ∷ ws) x)) (sym e) (subst (λ b. OutLeft (cond s (Some v) (part_out vs x)) (cond b (Some w) (part_out ws x))) (sym (same ∙ f)) g)

    go : (a : Bool) → is_part v ≡ a → (b : Bool) → v.consumed ≡ b → (n : Bool) → same_name v.part.name x ≡ n → OutLeft (part_out vs x) (part_out ws x) → OutLeft (part_out (v ∷ vs) x) (part_out (w ∷ ws) x)
    go false a b c n d i = at false false (ap (λ t. t && (v.consumed && same_name v.part.name x)) a) (ap (λ t. t && (w.consumed && same_name v.part.name x)) a) i
    go true a true c true d i =
        at true true (ap₂ (λ p q. p && q) a (ap₂ (λ p q. p && q) c d)) (ap₂ (λ p q. p && q) a (ap₂ (λ p q. p && q) (still c w.consumed refl) d)) h.0
    go true a b c false d i = at false false (ap₂ (λ p q. p && q) a (ap (λ q. v.consumed && q) d) ∙ none v.consumed) (ap₂ (λ p q. p && q) a (ap (λ q. w.consumed && q) d) ∙ none w.consumed) i
      where
        none : (t : Bool) → (t && false) ≡ false
        none true = refl
        none false = refl
    go true a false c true d i = at false w.consumed (ap₂ (λ p q. p && q) a (ap₂ (λ p q. p && q) c d)) (ap₂ (λ p q. p && q) a (ap (λ q. w.consumed && q) d) ∙ all w.consumed) (either w.consumed (o.0 a))
      where
        all : (t : Bool) → (t && true) ≡ t
        all true = refl
        all false = refl

module _ (n : ℕ) (W U : Places) (agree : Agree n W U) (cs ds : List Var) (left : AllLeft cs ds) (one : OnePart cs) where
  lent_falls : (v u : Var) (w : WireId) → Left v u → U u.place ≡ W v.place → (o r : Option Var) → OutLeft o r → times_in w (operands_in (less_part r (bits_for U u))) ≤ times_in w (operands_in (less_part o (bits_for W v)))
  lent_falls v u w l e None r h =
      let a = less_at_most w r (bits_for U u) in
      let b : times_in w (U u.place) ≡ times_in w (W v.place) = ap (times_in w) e in
      omega (arith, a, b)
  lent_falls v u w l e (Some p) (Some q) h =
      subst (λ m. m ≤ times_in w (operands_in (less_part (Some p) (bits_for W v))))
      (sym (ap₂ (λ (x : Part) (b : TypedBits). times_in w (operands_in (less_part (Some (record q { part = x })) b))) h.part (ap₂ (λ (t : Ty) ps. record { classical = t.classical; shape = t.shape; operands = ps; own = true; began = 0 }) l.ty e)))
      (omega arith)
  lent_falls v u w l e (Some p) None h = absurd h

  pub shown_falls : (v u : Var) (w : WireId) → Left v u → Below n v → times_in w (operands_in (shown U ds u)) ≤ times_in w (operands_in (shown W cs v))
  shown_falls v u w l b = go u.consumed refl
    where
      go : (t : Bool) → u.consumed ≡ t → times_in w (operands_in (cond t Absent (less_part (part_out ds u.part.name) (bits_for U u)))) ≤ times_in w (operands_in (shown W cs v))
      go true e = omega arith
      go false e =
          subst (λ k. times_in w (operands_in (less_part (part_out ds u.part.name) (bits_for U u))) ≤ times_in w (operands_in k)) (sym (ap (λ t. cond t Absent (less_part (part_out cs v.part.name) (bits_for W v))) (l.live e)))
          (subst (λ (x : NameId). times_in w (operands_in (less_part (part_out ds x) (bits_for U u))) ≤ times_in w (operands_in (less_part (part_out cs v.part.name) (bits_for W v)))) (sym (ap (λ (p : Part). p.name) l.part))
          (lent_falls v u w l (ap U l.place ∙ agree v.place (b (l.live e))) (part_out cs v.part.name) (part_out ds v.part.name) (out_left cs ds v.part.name left one)))

  holds_fall : (v u : Var) (w : WireId) → Left v u → Below n v → holds U ds w u ≤ holds W cs w v
  holds_fall v u w l b = go u.consumed refl
    where
      shared_same : is_shared u ≡ is_shared v
      shared_same = ap₂ (λ (t : Ty) (o : Origin). t.classical || is_held o) l.ty l.origin

      part_same : is_part u ≡ is_part v
      part_same = ap (λ (p : Part). not (is_empty (indices p))) l.part

      go : (t : Bool) → u.consumed ≡ t → holds U ds w u ≤ holds W cs w v
      go true e = let a : holds U ds w u ≡ 0 = ap (λ t. cond (not ((t || is_part u) || is_shared u)) (times_in w (operands_in (shown U ds u))) 0) e in omega (arith, a)
      go false e =
          let q : has_wires u ≡ has_wires v = ap₂ (λ s t. not ((s || is_part u) || t)) (e ∙ sym (l.live e)) shared_same ∙ ap (λ t. not ((v.consumed || t) || is_shared v)) part_same in
          at (has_wires v) q refl
        where
          at : (h : Bool) → has_wires u ≡ h → has_wires v ≡ h → holds U ds w u ≤ holds W cs w v
          at true q r =
              let a : holds U ds w u ≡ times_in w (operands_in (shown U ds u)) = ap (λ t. cond t (times_in w (operands_in (shown U ds u))) 0) q in
              let d : holds W cs w v ≡ times_in w (operands_in (shown W cs v)) = ap (λ t. cond t (times_in w (operands_in (shown W cs v))) 0) r in
              let f = shown_falls v u w l b in
              omega (arith, a, d, f)
          at false q r = let a : holds U ds w u ≡ 0 = ap (λ t. cond t (times_in w (operands_in (shown U ds u))) 0) q in omega (arith, a)

  holders_fall : (w : WireId) (vs us : List Var) → AllLeft vs us → AllOf (Below n) vs → holders U ds w us ≤ holders W cs w vs
  holders_fall w [] [] l b = omega arith
  holders_fall w [] (u ∷ us) l b = absurd l
  holders_fall w (v ∷ vs) [] l b = absurd l
  holders_fall w (v ∷ vs) (u ∷ us) l b = let a = holds_fall v u w l.0 b.0 in let i = holders_fall w vs us l.1 b.1 in omega (arith, a, i)

  -- no wire wins an owner
  pub owners_fall : (under : List Value) → AllOf (Below n) cs → AllOf (λ (v : Value). v.place < n) under → (w : WireId) → owners_of U ds under w ≤ owners_of W cs under w
  owners_fall under b h w =
      let a = holders_fall w cs ds left b in
      let e = carriers_agree U W w under (values_agree n W U under agree h) in
      omega (arith, a, e)

-- ---- wires that are not made yet

pub safe_none : (n : ℕ) (w : WireId) (ps : List Operand) → AllSafe n no_target ps → n ≤ w.number → times_in w ps ≡ 0
safe_none n w [] h le = refl
safe_none n w (Const b ∷ ps) h le = safe_none n w ps h.1 le
safe_none n w (Literal l ∷ ps) h le = go (same_wire l.wire w) refl (safe_none n w ps h.1 le)
  where
    go : (t : Bool) → same_wire l.wire w ≡ t → times_in w ps ≡ 0 → cond t (suc (times_in w ps)) (times_in w ps) ≡ 0
    go true e i = let a = h.0.0 in let q : l.wire.number ≡ w.number = ap (λ (x : WireId). x.number) (wire_is l.wire w e) in absurd (omega (arith, a, q, le))
    go false e i = i

pub known_none : (n : ℕ) (w : WireId) (k : Known) → IsKnown n k → n ≤ w.number → times_in w (operands_in k) ≡ 0
known_none n w (Static z) h le = refl
known_none n w (Shown v) h le = safe_none n w v.operands h.there le
known_none n w (Lent start size v) h le = let a = outside_at_most w start size v.operands in let b = safe_none n w v.operands h.there le in omega (arith, a, b)
known_none n w Absent h le = refl

pub known_unnamed : (n : ℕ) (w : WireId) (k : Known) → IsKnown n k → n ≤ w.number → names k w ≡ false
known_unnamed n w k h le = no_times w (operands_in k) (known_none n w k h le)

pub order_of_env : (Q : Known → Type 0) (env : Env Known) → AllEnv Q env → AllOf (λ (p : NameId × Known). Q p.1) (in_order env)
order_of_env Q [] h = tt
order_of_env Q (b ∷ bs) h = all_join (λ (p : NameId × Known). Q p.1) (in_order bs) b (order_of_env Q bs h.1) h.0

-- a whole variable that is live shows wires that are there
whole_none : (n : ℕ) (w : WireId) (W : Places) (all vs : List Var) → n ≤ w.number → AllOf (λ (p : NameId × Known). IsKnown n p.1) (entries W all vs) → AllOf (λ v. is_part v ≡ false → v.consumed ≡ false → times_in w (W v.place) ≡ 0) vs
whole_none n w W all [] le h = tt
whole_none n w W all (v ∷ vs) le h = go (is_part v) refl h (whole_none n w W all vs le)
  where
    bits : (r : Option Var) → IsKnown n (less_part r (bits_for W v)) → times_in w (W v.place) ≡ 0
    bits None k = safe_none n w (W v.place) k.there le
    bits (Some p) k = safe_none n w (W v.place) k.there le

    go : (t : Bool) → is_part v ≡ t → AllOf (λ (p : NameId × Known). IsKnown n p.1) (cond t (entries W all vs) ((v.part.name, shown W all v) ∷ entries W all vs)) → (AllOf (λ (p : NameId × Known). IsKnown n p.1) (entries W all vs) → AllOf (λ v. is_part v ≡ false → v.consumed ≡ false → times_in w (W v.place) ≡ 0) vs)
        → AllOf (λ v. is_part v ≡ false → v.consumed ≡ false → times_in w (W v.place) ≡ 0) (v ∷ vs)
    go true e k i = (λ p. clash (sym e ∙ p), i k)
    go false e k i = (λ p q. bits (part_out all v.part.name) (subst (IsKnown n) (ap (λ t. cond t Absent (less_part (part_out all v.part.name) (bits_for W v))) q) k.0), i k.1)

-- and so does a part
pub vars_none : (n : ℕ) (w : WireId) (W : Places) (all : List Var) → n ≤ w.number → AllOf (λ (p : NameId × Known). IsKnown n p.1) (entries W all all) → AllOf (FitsPart W all) all → AllOf (λ v. v.consumed ≡ false → times_in w (W v.place) ≡ 0) all
vars_none n w W all le h fits = go all wholes fits
  where
    Whole : Var → Type 0
    Whole v = is_part v ≡ false → v.consumed ≡ false → times_in w (W v.place) ≡ 0

    wholes : AllOf Whole all
    wholes = whole_none n w W all all le h

    one : (v : Var) → Whole v → FitsPart W all v → (t : Bool) → is_part v ≡ t → v.consumed ≡ false → times_in w (W v.place) ≡ 0
    one v k f false e c = k e c
    one v k f true e c =
        let a = f e in
        let b = found_all Whole all (variable v.part.name) a.0 a.1 wholes in
        let z = b (whole_is a.0 v.part.name (found_there all v.part.name a.0 a.1)) a.2.live in
        let m = part_at_most w a.0.ty.shape (indices v.part) (W a.0.place) in
        let q = ap (times_in w) a.2.wires in
        omega (arith, z, m, q)

    go : (vs : List Var) → AllOf Whole vs → AllOf (FitsPart W all) vs → AllOf (λ v. v.consumed ≡ false → times_in w (W v.place) ≡ 0) vs
    go [] k f = tt
    go (v ∷ vs) k f = (one v k.0 f.0 (is_part v) refl, go vs k.1 f.1)
