-- Another function from places to operands, which agrees on all places that have an owner.
use Rattle.std.proofs.Common.{◌≡◌, ◌⊎◌, inl, inr, ◌+◌, ◌≤◌, true, false, cond, not, ◌||◌, List, [], ◌∷◌, refl, sym, ap, ap₂, ◌∙◌, subst}
use Rattle.silq_types.specs.declared.values.Part.{Part}
use Rattle.silq_types.specs.declared.values.Value.{Value}
use Rattle.silq_types.specs.declared.values.Var.{Var}
use Rattle.silq_types.specs.Types.{is_linear}
use Rattle.check_scope.specs.Context.{Context}
use Rattle.flat_core.specs.declared.step.WireId.{WireId}
use Rattle.bit_arith.specs.Calls.{Targets}
use Rattle.flat_form.specs.declared.known.Known.TheVariants.{Absent}
use Rattle.flat_form.specs.State.{Flattening, wires_in, part_of}
use Rattle.flat_form.specs.Names.{AllOf, operands_in, names}
use Rattle.flat_typed.specs.Places.{Places, is_part, is_shared, has_wires, part_out, less_part, bits_for, shown, times_in, holds, holders, linear_holders, carriers, linear_carriers, owners_of, linear_owners}
use Rattle.flat_typed.specs.Relation.{FitsPart, Outside, Stands, SparesGuarded}
use Rattle.flat_typed.proofs.Ordered.{clash}
use Rattle.flat_typed.proofs.Changes.{entries_agree}

-- a variable is consumed, or its place shows the same
abbrev pub SameFor : Places → Places → Var → Type 0
SameFor U W v = (v.consumed ≡ true) ⊎ (U v.place ≡ W v.place)

shown_agree : (U W : Places) (all : List Var) (v : Var) → SameFor U W v → shown U all v ≡ shown W all v
shown_agree U W all v (inl e) = ap (λ t. cond t Absent (less_part (part_out all v.part.name) (bits_for U v))) e ∙ sym (ap (λ t. cond t Absent (less_part (part_out all v.part.name) (bits_for W v))) e)
shown_agree U W all v (inr e) = ap (λ ps. cond v.consumed Absent (less_part (part_out all v.part.name) (record { classical = v.ty.classical; shape = v.ty.shape; operands = ps; own = true; began = 0 }))) e

holds_agree : (U W : Places) (all : List Var) (w : WireId) (v : Var) → SameFor U W v → holds U all w v ≡ holds W all w v
holds_agree U W all w v h = ap (λ k. cond (has_wires v) (times_in w (operands_in k)) 0) (shown_agree U W all v h)

pub holders_agree : (U W : Places) (all vs : List Var) (w : WireId) → AllOf (SameFor U W) vs → holders U all w vs ≡ holders W all w vs
holders_agree U W all [] w h = refl
holders_agree U W all (v ∷ vs) w h = ap₂ (λ a b. a + b) (holds_agree U W all w v h.0) (holders_agree U W all vs w h.1)

pub linear_agree : (U W : Places) (all vs : List Var) (w : WireId) → AllOf (SameFor U W) vs → linear_holders U all w vs ≡ linear_holders W all w vs
linear_agree U W all [] w h = refl
linear_agree U W all (v ∷ vs) w h = ap₂ (λ a b. a + b) (ap (λ n. cond (is_linear v.origin) n 0) (holds_agree U W all w v h.0)) (linear_agree U W all vs w h.1)

pub carriers_agree : (U W : Places) (w : WireId) (vs : List Value) → AllOf (λ v. U v.place ≡ W v.place) vs → carriers U w vs ≡ carriers W w vs
carriers_agree U W w [] h = refl
carriers_agree U W w (v ∷ vs) h = ap₂ (λ a b. a + b) (ap (times_in w) h.0) (carriers_agree U W w vs h.1)

pub linear_carried : (U W : Places) (w : WireId) (vs : List Value) → AllOf (λ v. U v.place ≡ W v.place) vs → linear_carriers U w vs ≡ linear_carriers W w vs
linear_carried U W w [] h = refl
linear_carried U W w (v ∷ vs) h = ap₂ (λ a b. a + b) (ap (λ ps. cond (is_linear v.origin) (times_in w ps) 0) h.0) (linear_carried U W w vs h.1)

pub shares_agree : (U W : Places) (all vs : List Var) (w : WireId) → AllOf (SameFor U W) vs → AllOf (λ v. is_shared v ≡ true → names (shown W all v) w ≡ false) vs → AllOf (λ v. is_shared v ≡ true → names (shown U all v) w ≡ false) vs
shares_agree U W all [] w h q = tt
shares_agree U W all (v ∷ vs) w h q = (λ s. ap (λ k. names k w) (shown_agree U W all v h.0) ∙ q.0 s, shares_agree U W all vs w h.1 q.1)

pub spares_agree : (U W : Places) (G : Targets) (held : List (List Part)) (vs : List Var) → AllOf (SameFor U W) vs → AllOf (SparesGuarded G held W) vs → AllOf (SparesGuarded G held U) vs
spares_agree U W G held [] h q = tt
spares_agree U W G held (v ∷ vs) h q = (one h.0, spares_agree U W G held vs h.1 q.1)
  where
    one : SameFor U W v → SparesGuarded G held U v
    one (inl e) = λ b. clash (sym b ∙ ap (λ t. not ((t || is_part v) || is_shared v)) e)
    one (inr e) = λ b is t k z. subst (λ ps. AllOf (λ w. G w ≡ false) (wires_in (part_of v.ty.shape is ps))) (sym e) (q.0 b is t k z)

pub carried_agree : (U W : Places) (G : Targets) (vs : List Value) → AllOf (λ v. U v.place ≡ W v.place) vs → AllOf (λ v. AllOf (λ w. G w ≡ false) (wires_in (W v.place))) vs → AllOf (λ v. AllOf (λ w. G w ≡ false) (wires_in (U v.place))) vs
carried_agree U W G [] h q = tt
carried_agree U W G (v ∷ vs) h q = (subst (λ ps. AllOf (λ w. G w ≡ false) (wires_in ps)) (sym h.0) q.0, carried_agree U W G vs h.1 q.1)

-- the relation speaks of places with an owner alone
pub stands_agree : (U : Places) (out : Outside) (held : List (List Part)) (W : Places) (under : List Value) (c : Context) (s : Flattening) → AllOf (SameFor U W) c.vars → AllOf (λ v. U v.place ≡ W v.place) under → AllOf (FitsPart U c.vars) c.vars → Stands out held W under c s → Stands out held U under c s
stands_agree U out held W under c s h k fit r = record {
  env = r.env ∙ sym (entries_agree U W c.vars c.vars h);
  differ = r.differ;
  parts = fit;
  one = λ w. subst (λ n. n ≤ 1) (sym (same w)) (r.one w);
  free = λ w le. r.free w (before w le);
  untold = λ w le. r.untold w (before w le);
  shared = λ w le. shares_agree U W c.vars c.vars w h (r.shared w (before w le));
  callers = λ w le. r.callers w (before w le);
  guards = r.guards;
  below = r.below;
  spares = spares_agree U W out.guarded held c.vars h r.spares;
  carried = carried_agree U W out.guarded under k r.carried;
  owed = λ w o. owed w (r.owed w o);
}
  where
    same : (w : WireId) → owners_of U c.vars under w ≡ owners_of W c.vars under w
    same w = ap₂ (λ a b. a + b) (holders_agree U W c.vars c.vars w h) (carriers_agree U W w under k)

    linear : (w : WireId) → linear_owners U c.vars under w ≡ linear_owners W c.vars under w
    linear w = ap₂ (λ a b. a + b) (linear_agree U W c.vars c.vars w h) (linear_carried U W w under k)

    before : (w : WireId) → 1 ≤ owners_of U c.vars under w → 1 ≤ owners_of W c.vars under w
    before w le = subst (λ n. 1 ≤ n) (same w) le

    owed : (w : WireId) → (1 ≤ linear_owners W c.vars under w) ⊎ (out.answered w ≡ true) → (1 ≤ linear_owners U c.vars under w) ⊎ (out.answered w ≡ true)
    owed w (inl le) = inl (subst (λ n. 1 ≤ n) (sym (linear w)) le)
    owed w (inr a) = inr a
