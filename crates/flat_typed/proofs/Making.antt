-- A value with wires that nobody owns: it is under way as their owner, also where its place is new.
use Rattle.std.proofs.Common.{◌≡◌, ◌⊎◌, inl, inr, ℕ, suc, ◌+◌, ◌≤◌, ◌<◌, Bool, true, false, cond, List, [], ◌∷◌, refl, sym, ap, ◌∙◌, subst, arith}
use Rattle.std.specs.Prelude.{◌==◌}
use Rattle.std.proofs.lemmas.Bool.{eq-eqb, cases_lt}
use Rattle.silq_types.specs.declared.values.Part.{Part}
use Rattle.silq_types.specs.declared.values.Value.{Value}
use Rattle.silq_types.specs.declared.values.Var.{Var}
use Rattle.silq_types.specs.Types.{is_linear}
use Rattle.check_scope.specs.Context.{Context}
use Rattle.check_expr.specs.Owners.{at_place, owns, owners, owned, Sole}
use Rattle.flat_core.specs.declared.step.WireId.{WireId}
use Rattle.flat_core.specs.declared.step.End.TheVariants.{Dropped}
use Rattle.flat_core.specs.Label.{wire_in}
use Rattle.bit_arith.specs.declared.operand.Operand.{Operand}
use Rattle.bit_arith.specs.Calls.{IsTarget}
use Rattle.flat_form.specs.State.{Flattening}
use Rattle.flat_form.specs.Names.{AllOf, CallerOf, names}
use Rattle.flat_typed.specs.Places.{Places, with_place, is_shared, shown, times_in, linear_holders, linear_carriers, owners_of, linear_owners}
use Rattle.flat_typed.specs.Relation.{FitsPart, Outside, Stands}
use Rattle.flat_typed.specs.Done.{Counted}
use Rattle.flat_typed.proofs.Owning.{each_named}
use Rattle.flat_typed.proofs.Agreeing.{SameFor, stands_agree}

-- wires that nobody owns, that nothing shares, and that are there
pub record Unowned (out : Outside) (W : Places) (under : List Value) (c : Context) (s : Flattening) (w : WireId) : Type 0 where
  pub none : owners_of W c.vars under w ≡ 0
  pub free : IsTarget s.built.draft w
  pub untold : (wire_in s.built.draft.wires w).ending ≡ Dropped
  pub shared : AllOf (λ v. is_shared v ≡ true → names (shown W c.vars v) w ≡ false) c.vars
  pub callers : AllOf (CallerOf (λ k. names k w ≡ false)) s.callers
  pub unguarded : out.guarded w ≡ false

-- the value u owns them then
pub stands_added : (out : Outside) (held : List (List Part)) (W : Places) (under : List Value) (c : Context) (s : Flattening) (u : Value) → ((w : WireId) → times_in w (W u.place) ≤ 1) → ((w : WireId) → 1 ≤ times_in w (W u.place) → Unowned out W under c s w)
    → Stands out held W under c s → Stands out held W (u ∷ under) c s
stands_added out held W under c s u most h r = record {
  env = r.env;
  differ = r.differ;
  parts = r.parts;
  one = λ w. one w (cases_lt 0 (times_in w (W u.place)));
  free = λ w le. pick w (λ x. IsTarget s.built.draft x) (λ a. (h w a).free) (r.free w) le (cases_lt 0 (times_in w (W u.place)));
  untold = λ w le. pick w (λ x. (wire_in s.built.draft.wires x).ending ≡ Dropped) (λ a. (h w a).untold) (r.untold w) le (cases_lt 0 (times_in w (W u.place)));
  shared = λ w le. pick w (λ x. AllOf (λ v. is_shared v ≡ true → names (shown W c.vars v) x ≡ false) c.vars) (λ a. (h w a).shared) (r.shared w) le (cases_lt 0 (times_in w (W u.place)));
  callers = λ w le. pick w (λ x. AllOf (CallerOf (λ k. names k x ≡ false)) s.callers) (λ a. (h w a).callers) (r.callers w) le (cases_lt 0 (times_in w (W u.place)));
  guards = r.guards;
  below = r.below;
  spares = r.spares;
  carried = (each_named (λ w. out.guarded w ≡ false) (W u.place) (λ w a. (h w a).unguarded), r.carried);
  owed = λ w o. owed w (r.owed w o);
}
  where
    one : (w : WireId) → (0 < times_in w (W u.place)) ⊎ (times_in w (W u.place) ≤ 0) → owners_of W c.vars (u ∷ under) w ≤ 1
    one w (inl lt) = let a = (h w (omega (arith, lt))).none in let b = most w in omega (arith, a, b)
    one w (inr le) = let a = r.one w in omega (arith, a, le)

    pick : (w : WireId) (P : WireId → Type 0) → (1 ≤ times_in w (W u.place) → P w) → (1 ≤ owners_of W c.vars under w → P w) → 1 ≤ owners_of W c.vars (u ∷ under) w → (0 < times_in w (W u.place)) ⊎ (times_in w (W u.place) ≤ 0) → P w
    pick w P f g le (inl lt) = f (omega (arith, lt))
    pick w P f g le (inr z) = g (omega (arith, le, z))

    more : (w : WireId) → linear_owners W c.vars under w ≤ linear_owners W c.vars (u ∷ under) w
    more w = go (is_linear u.origin)
      where
        go : (t : Bool) → linear_owners W c.vars under w ≤ linear_holders W c.vars w c.vars + (cond t (times_in w (W u.place)) 0 + linear_carriers W w under)
        go true = omega arith
        go false = omega arith

    owed : (w : WireId) → (1 ≤ linear_owners W c.vars under w) ⊎ (out.answered w ≡ true) → (1 ≤ linear_owners W c.vars (u ∷ under) w) ⊎ (out.answered w ≡ true)
    owed w (inl le) = inl (let a = more w in omega (arith, a, le))
    owed w (inr a) = inr a

-- ---- a new place

other_place : (W : Places) (n : ℕ) (ps : List Operand) (p : ℕ) → (p == n) ≡ false → with_place W n ps p ≡ W p
other_place W n ps p e = ap (λ t. cond t ps (W p)) e

pub its_place : (W : Places) (n : ℕ) (ps : List Operand) → with_place W n ps n ≡ ps
its_place W n ps = ap (λ t. cond t ps (W n)) (eq-eqb n n refl)

-- an unconsumed variable has another place than one that is to come
same_vars : (W : Places) (n : ℕ) (ps : List Operand) (vs : List Var) → owners n vs ≡ 0 → AllOf (SameFor (with_place W n ps) W) vs
same_vars W n ps [] h = tt
same_vars W n ps (v ∷ vs) h = (go v.consumed refl (v.place == n) refl, same_vars W n ps vs (omega (arith, h)))
  where
    go : (t : Bool) → v.consumed ≡ t → (b : Bool) → (v.place == n) ≡ b → SameFor (with_place W n ps) W v
    go true e b f = inl e
    go false e false f = inr (other_place W n ps v.place f)
    go false e true f =
        let a : owns n v ≡ 1 = ap (λ t. cond t 0 (at_place n v.place)) e ∙ ap (λ t. cond t 1 0) f in
        absurd (omega (arith, h, a))

same_values : (W : Places) (n : ℕ) (ps : List Operand) (vs : List Value) → owned n vs ≡ 0 → AllOf (λ (v : Value). with_place W n ps v.place ≡ W v.place) vs
same_values W n ps [] h = tt
same_values W n ps (v ∷ vs) h = (go (v.place == n) refl, same_values W n ps vs (omega (arith, h)))
  where
    go : (b : Bool) → (v.place == n) ≡ b → with_place W n ps v.place ≡ W v.place
    go false f = other_place W n ps v.place f
    go true f = let a : at_place n v.place ≡ 1 = ap (λ t. cond t 1 0) f in absurd (omega (arith, h, a))

-- the next new place shows some operands: whoever has an owner shows what it showed
pub stands_placed : (out : Outside) (held : List (List Part)) (W : Places) (under : List Value) (c : Context) (s : Flattening) (low : ℕ) (others : ℕ → ℕ) (ps : List Operand) → Sole low others c → Counted under others
    → AllOf (FitsPart (with_place W c.next ps) c.vars) c.vars → Stands out held W under c s → Stands out held (with_place W c.next ps) under c s
stands_placed out held W under c s low others ps sole counted fit r =
    let a = sole.ahead c.next (omega arith) in
    let b = counted c.next in
    stands_agree (with_place W c.next ps) out held W under c s (same_vars W c.next ps c.vars (omega (arith, a))) (same_values W c.next ps under (omega (arith, a, b))) fit r

-- and a value with this place owns them, where nobody did
pub stands_made : (out : Outside) (held : List (List Part)) (W : Places) (under : List Value) (c : Context) (s : Flattening) (low : ℕ) (others : ℕ → ℕ) (ps : List Operand) (u : Value) → Sole low others c → Counted under others
    → AllOf (FitsPart (with_place W c.next ps) c.vars) c.vars → u.place ≡ c.next → ((w : WireId) → times_in w ps ≤ 1) → ((w : WireId) → 1 ≤ times_in w ps → Unowned out (with_place W c.next ps) under c s w)
    → Stands out held W under c s → Stands out held (with_place W c.next ps) (u ∷ under) (record c { next = suc c.next }) s
stands_made out held W under c s low others ps u sole counted fit e most h r =
    let z = stands_added out held (with_place W c.next ps) under c s u (λ w. subst (λ qs. times_in w qs ≤ 1) (sym its) (most w)) (λ w le. h w (subst (λ qs. 1 ≤ times_in w qs) its le)) (stands_placed out held W under c s low others ps sole counted fit r) in
    record { env = z.env; differ = z.differ; parts = z.parts; one = z.one; free = z.free; untold = z.untold; shared = z.shared; callers = z.callers; guards = z.guards; below = z.below; spares = z.spares; carried = z.carried; owed = z.owed }
  where
    its : with_place W c.next ps u.place ≡ ps
    its = ap (with_place W c.next ps) e ∙ its_place W c.next ps
