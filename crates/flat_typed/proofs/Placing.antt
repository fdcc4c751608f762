-- A place that has no owner may show anything; a value with this place then owns wires that nothing else knows.
use Rattle.std.proofs.Common.{◌≡◌, ◌⊎◌, inl, inr, ℕ, zero, suc, ◌+◌, ◌≤◌, ◌<◌, Bool, true, false, cond, List, [], ◌∷◌, refl, sym, ap, ap₂, ◌∙◌, subst, arith}
use Rattle.std.specs.Prelude.{◌==◌}
use Rattle.std.specs.List.{list_any}
use Rattle.std.proofs.lemmas.Bool.{eqb-true, ne_eqb, cases_lt}
use Rattle.silq_types.specs.declared.values.Part.{Part}
use Rattle.silq_types.specs.declared.values.Value.{Value}
use Rattle.silq_types.specs.declared.values.Var.{Var}
use Rattle.silq_types.specs.Types.{is_linear}
use Rattle.check_scope.specs.Context.{Context}
use Rattle.check_expr.specs.Owners.{at_place, owns, owners, owned}
use Rattle.flat_core.specs.declared.step.WireId.{WireId}
use Rattle.flat_core.specs.declared.step.End.TheVariants.{Dropped}
use Rattle.flat_core.specs.Label.{same_wire, wire_id, wire_in}
use Rattle.bit_arith.specs.declared.operand.Operand.{Operand}
use Rattle.bit_arith.specs.Built.{Built, all_made, wires_from}
use Rattle.bit_arith.specs.Calls.{IsTarget}
use Rattle.flat_form.specs.declared.known.Known.{Known}
use Rattle.flat_form.specs.declared.known.Known.TheVariants.{Absent}
use Rattle.flat_form.specs.State.{Caller, Flattening, build}
use Rattle.flat_form.specs.Names.{AllOf, CallerOf, operands_in, named_by, names}
use Rattle.flat_typed.specs.Places.{Places, with_place, is_shared, has_wires, part_out, less_part, bits_for, shown, times_in, holders, carriers, owners_of, linear_owners}
use Rattle.flat_typed.specs.Relation.{FitsPart, Outside, Stands}
use Rattle.flat_typed.specs.Done.{Agree}
use Rattle.flat_typed.proofs.Ordered.{clash}
use Rattle.flat_typed.proofs.Owning.{no_times}
use Rattle.flat_typed.proofs.Agreeing.{SameFor, stands_agree}
use Rattle.flat_typed.proofs.Making.{its_place, stands_added}

-- ---- operands that are new wires

pub named_times : (w : WireId) (ps : List Operand) → list_any (named_by w) ps ≡ true → 1 ≤ times_in w ps
named_times w ps e = go (cases_lt 0 (times_in w ps))
  where
    go : (0 < times_in w ps) ⊎ (times_in w ps ≤ 0) → 1 ≤ times_in w ps
    go (inl lt) = omega (arith, lt)
    go (inr le) = clash (sym e ∙ no_times w ps (omega (arith, le)))

pub made_range : (w : WireId) (first k : ℕ) → 1 ≤ times_in w (all_made (wires_from first k)) → (first ≤ w.number) × (w.number < first + k)
made_range w first zero le = absurd (omega (arith, le))
made_range w first (suc k) le = go (same_wire (wire_id first) w) refl le (made_range w (suc first) k)
  where
    rest : ℕ
    rest = times_in w (all_made (wires_from (suc first) k))

    go : (t : Bool) → same_wire (wire_id first) w ≡ t → 1 ≤ cond t (suc rest) rest → (1 ≤ rest → (suc first ≤ w.number) × (w.number < suc first + k)) → (first ≤ w.number) × (w.number < first + suc k)
    go true e l i = let q = eqb-true first w.number e in (omega (arith, q), omega (arith, q))
    go false e l i = let a = (i l).0 in let b = (i l).1 in (omega (arith, a), omega (arith, b))

pub made_once : (w : WireId) (first k : ℕ) → times_in w (all_made (wires_from first k)) ≤ 1
made_once w first zero = omega arith
made_once w first (suc k) = go (same_wire (wire_id first) w) refl (made_once w (suc first) k)
  where
    rest : ℕ
    rest = times_in w (all_made (wires_from (suc first) k))

    none : first ≡ w.number → (0 < rest) ⊎ (rest ≤ 0) → suc rest ≤ 1
    none q (inl lt) = let a = (made_range w (suc first) k (omega (arith, lt))).0 in absurd (omega (arith, a, q))
    none q (inr le) = omega (arith, le)

    go : (t : Bool) → same_wire (wire_id first) w ≡ t → rest ≤ 1 → cond t (suc rest) rest ≤ 1
    go true e i = none (eqb-true first w.number e) (cases_lt 0 rest)
    go false e i = i

-- ---- another place

pub place_other : (W : Places) (n : ℕ) (ps : List Operand) (p : ℕ) → (p == n) ≡ false → with_place W n ps p ≡ W p
place_other W n ps p e = ap (λ t. cond t ps (W p)) e

-- places before it stay
pub place_agrees : (W : Places) (low n : ℕ) (ps : List Operand) → low ≤ n → Agree low W (with_place W n ps)
place_agrees W low n ps le p lt = place_other W n ps p (ne_eqb p n (λ e. omega (arith, e, le, lt)))

pub vars_same : (W : Places) (n : ℕ) (ps : List Operand) (vs : List Var) → owners n vs ≡ 0 → AllOf (SameFor (with_place W n ps) W) vs
vars_same W n ps [] h = tt
vars_same W n ps (v ∷ vs) h = (go v.consumed refl (v.place == n) refl, vars_same W n ps vs (omega (arith, h)))
  where
    go : (t : Bool) → v.consumed ≡ t → (b : Bool) → (v.place == n) ≡ b → SameFor (with_place W n ps) W v
    go true e b f = inl e
    go false e false f = inr (place_other W n ps v.place f)
    go false e true f =
        let a : owns n v ≡ 1 = ap (λ t. cond t 0 (at_place n v.place)) e ∙ ap (λ t. cond t 1 0) f in
        absurd (omega (arith, h, a))

pub values_same : (W : Places) (n : ℕ) (ps : List Operand) (vs : List Value) → owned n vs ≡ 0 → AllOf (λ (v : Value). with_place W n ps v.place ≡ W v.place) vs
values_same W n ps [] h = tt
values_same W n ps (v ∷ vs) h = (go (v.place == n) refl, values_same W n ps vs (omega (arith, h)))
  where
    go : (b : Bool) → (v.place == n) ≡ b → with_place W n ps v.place ≡ W v.place
    go false f = place_other W n ps v.place f
    go true f = let a : at_place n v.place ≡ 1 = ap (λ t. cond t 1 0) f in absurd (omega (arith, h, a))

shown_same : (U W : Places) (all : List Var) (v : Var) → SameFor U W v → shown U all v ≡ shown W all v
shown_same U W all v (inl e) = ap (λ t. cond t Absent (less_part (part_out all v.part.name) (bits_for U v))) e ∙ sym (ap (λ t. cond t Absent (less_part (part_out all v.part.name) (bits_for W v))) e)
shown_same U W all v (inr e) = ap (λ ps. cond v.consumed Absent (less_part (part_out all v.part.name) (record { classical = v.ty.classical; shape = v.ty.shape; operands = ps; own = true; began = 0 }))) e

pub holders_same : (U W : Places) (all vs : List Var) (w : WireId) → AllOf (SameFor U W) vs → holders U all w vs ≡ holders W all w vs
holders_same U W all [] w h = refl
holders_same U W all (v ∷ vs) w h = ap₂ (λ k b. cond (has_wires v) (times_in w (operands_in k)) 0 + b) (shown_same U W all v h.0) (holders_same U W all vs w h.1)

carriers_same : (U W : Places) (w : WireId) (vs : List Value) → AllOf (λ v. U v.place ≡ W v.place) vs → carriers U w vs ≡ carriers W w vs
carriers_same U W w [] h = refl
carriers_same U W w (v ∷ vs) h = ap₂ (λ a b. times_in w a + b) h.0 (carriers_same U W w vs h.1)

shares_same : (U W : Places) (all vs : List Var) (w : WireId) → AllOf (SameFor U W) vs → AllOf (λ v. is_shared v ≡ true → names (shown W all v) w ≡ false) vs → AllOf (λ v. is_shared v ≡ true → names (shown U all v) w ≡ false) vs
shares_same U W all [] w h q = tt
shares_same U W all (v ∷ vs) w h q = (λ s. ap (λ k. names k w) (shown_same U W all v h.0) ∙ q.0 s, shares_same U W all vs w h.1 q.1)

-- ---- a value with new wires

-- from the n-th on no wire has an owner, nothing shares one, no caller knows one, and no condition has one
pub record KnowsNone (out : Outside) (W : Places) (under : List Value) (c : Context) (cs : List Caller) (n : ℕ) : Type 0 where
  pub none : (w : WireId) → n ≤ w.number → owners_of W c.vars under w ≡ 0
  pub shared : (w : WireId) → n ≤ w.number → AllOf (λ v. is_shared v ≡ true → names (shown W c.vars v) w ≡ false) c.vars
  pub callers : (w : WireId) → n ≤ w.number → AllOf (CallerOf (λ k. names k w ≡ false)) cs
  pub unguarded : (w : WireId) → n ≤ w.number → out.guarded w ≡ false

-- a wire from the n-th on that is there, not measured, and whose end is not told
pub record IsLoose (n : ℕ) (b : Built) (w : WireId) : Type 0 where
  pub from : n ≤ w.number
  pub free : IsTarget b.draft w
  pub untold : (wire_in b.draft.wires w).ending ≡ Dropped

pub stands_given : (out : Outside) (held : List (List Part)) (W : Places) (under : List Value) (c : Context) (s : Flattening) (v : Value) (ps : List Operand) (n : ℕ) → KnowsNone out W under c s.callers n
    → owners v.place c.vars ≡ 0 → owned v.place under ≡ 0 → AllOf (FitsPart (with_place W v.place ps) c.vars) c.vars → ((w : WireId) → times_in w ps ≤ 1) → ((w : WireId) → 1 ≤ times_in w ps → IsLoose n s.built w)
    → Stands out held W under c s → Stands out held (with_place W v.place ps) (v ∷ under) c s
stands_given out held W under c s v ps n knows alone apart fit most each r =
    stands_added out held (with_place W v.place ps) under c s v (λ w. subst (λ qs. times_in w qs ≤ 1) (sym its) (most w))
    (λ w le. let e = each w (subst (λ qs. 1 ≤ times_in w qs) its le) in record {
      none = ap₂ (λ a b. a + b) (holders_same (with_place W v.place ps) W c.vars c.vars w variables) (carriers_same (with_place W v.place ps) W w under values) ∙ knows.none w e.from;
      free = e.free;
      untold = e.untold;
      shared = shares_same (with_place W v.place ps) W c.vars c.vars w variables (knows.shared w e.from);
      callers = knows.callers w e.from;
      unguarded = knows.unguarded w e.from;
    })
    (stands_agree (with_place W v.place ps) out held W under c s variables values fit r)
  where
    its : with_place W v.place ps v.place ≡ ps
    its = its_place W v.place ps

    variables : AllOf (SameFor (with_place W v.place ps) W) c.vars
    variables = vars_same W v.place ps c.vars alone

    values : AllOf (λ (u : Value). with_place W v.place ps u.place ≡ W u.place) under
    values = values_same W v.place ps under apart

-- ---- fewer values under way, and others on the stack

-- a value that is not Linear may be dropped
pub stands_less : (out : Outside) (held : List (List Part)) (W : Places) (under : List Value) (c : Context) (s : Flattening) (v : Value) → is_linear v.origin ≡ false → Stands out held W (v ∷ under) c s → Stands out held W under c s
stands_less out held W under c s v lifted r = record {
  env = r.env;
  differ = r.differ;
  parts = r.parts;
  one = λ w. let a = r.one w in omega (arith, a);
  free = λ w le. r.free w (omega (arith, le));
  untold = λ w le. r.untold w (omega (arith, le));
  shared = λ w le. r.shared w (omega (arith, le));
  callers = λ w le. r.callers w (omega (arith, le));
  guards = r.guards;
  below = r.below;
  spares = r.spares;
  carried = r.carried.1;
  owed = λ w o. owed w (r.owed w o);
}
  where
    owed : (w : WireId) → (1 ≤ linear_owners W c.vars (v ∷ under) w) ⊎ (out.answered w ≡ true) → (1 ≤ linear_owners W c.vars under w) ⊎ (out.answered w ≡ true)
    owed w (inl le) = inl (let a : cond (is_linear v.origin) (times_in w (W v.place)) 0 ≡ 0 = ap (λ t. cond t (times_in w (W v.place)) 0) lifted in omega (arith, a, le))
    owed w (inr a) = inr a

pub stands_pushed : (out : Outside) (held : List (List Part)) (W : Places) (under : List Value) (c : Context) (s : Flattening) (b : Built) (ks : List Known) → Stands out held W under c (build b s) → Stands out held W under c (record s { built = b; values = ks })
stands_pushed out held W under c s b ks r = record { env = r.env; differ = r.differ; parts = r.parts; one = r.one; free = r.free; untold = r.untold; shared = r.shared; callers = r.callers; guards = r.guards; below = r.below; spares = r.spares; carried = r.carried; owed = r.owed }
