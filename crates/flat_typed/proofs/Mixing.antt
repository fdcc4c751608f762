-- A step that mixes the wires of a value under way: the relation stands with the value, which is Linear then.
use Rattle.std.proofs.Common.{◌≡◌, ◌⊎◌, inl, inr, ◌+◌, ◌≤◌, ◌<◌, Bool, true, false, cond, List, ◌∷◌, length, sym, ap, ◌∙◌, subst, arith}
use Rattle.std.proofs.lemmas.Bool.{cases_lt}
use Rattle.silq_types.specs.declared.values.Part.{Part}
use Rattle.silq_types.specs.declared.values.Value.{Value}
use Rattle.silq_types.specs.Types.{is_linear}
use Rattle.check_scope.specs.Context.{Context}
use Rattle.flat_core.specs.declared.step.WireId.{WireId}
use Rattle.flat_core.specs.Form.{DraftForm}
use Rattle.flat_core.specs.Label.{wire_in}
use Rattle.flat_core.specs.Drafts.{is_measured}
use Rattle.bit_arith.specs.declared.operand.Operand.{Operand}
use Rattle.bit_arith.specs.Built.{Built}
use Rattle.flat_form.specs.State.{Flattening, build, wires_in}
use Rattle.flat_form.specs.Names.{AllOf}
use Rattle.flat_typed.specs.Places.{Places, times_in, linear_holders, linear_carriers, owners_of, linear_owners}
use Rattle.flat_typed.specs.Footprint.{Owed, is_mixed}
use Rattle.flat_typed.specs.Relation.{Outside, Stands}
use Rattle.flat_typed.proofs.Ordered.{clash}

-- steps that measure nothing and tell no end; of old wires they mix those that some operands name, and new wires are neither inputs nor mixed
pub record Mixes (ps : List Operand) (d e : DraftForm) : Type 0 where
  pub grown : length d.wires ≤ length e.wires
  pub measured : (w : WireId) → w.number < length d.wires → is_measured e.steps w ≡ is_measured d.steps w
  pub mixed : (w : WireId) → is_mixed e.steps w ≡ true → (is_mixed d.steps w ≡ true) ⊎ (1 ≤ times_in w ps)
  pub wires : (w : WireId) → w.number < length d.wires → wire_in e.wires w ≡ wire_in d.wires w
  pub new : (w : WireId) → length d.wires ≤ w.number → w.number < length e.wires → ((wire_in e.wires w).input ≡ false) × (is_mixed e.steps w ≡ false)

-- the value v becomes u, which has its place and is Linear
pub stands_mixed : (out : Outside) (held : List (List Part)) (W : Places) (under : List Value) (c : Context) (s : Flattening) (b : Built) (v u : Value) → u.place ≡ v.place → is_linear u.origin ≡ true
    → Mixes (W v.place) s.built.draft b.draft → Stands out held W (v ∷ under) c s → Stands out held W (u ∷ under) c (build b s)
stands_mixed out held W under c s b v u same linear p r = record {
  env = r.env;
  differ = r.differ;
  parts = r.parts;
  one = λ w. let a = owners w in let d = r.one w in omega (arith, a, d);
  free = λ w le. (let a = (r.free w (before w le)).0 in let g = p.grown in omega (arith, a, g), p.measured w (r.free w (before w le)).0 ∙ (r.free w (before w le)).1);
  untold = λ w le. ap (λ x. x.ending) (p.wires w (r.free w (before w le)).0) ∙ r.untold w (before w le);
  shared = λ w le. r.shared w (before w le);
  callers = λ w le. r.callers w (before w le);
  guards = r.guards;
  below = λ w g. let a = r.below w g in let l = p.grown in omega (arith, a, l);
  spares = r.spares;
  carried = carried;
  owed = λ w o. owed w o (cases_lt w.number (length s.built.draft.wires));
}
  where
    times : (w : WireId) → times_in w (W u.place) ≡ times_in w (W v.place)
    times w = ap (λ n. times_in w (W n)) same

    owners : (w : WireId) → owners_of W c.vars (u ∷ under) w ≡ owners_of W c.vars (v ∷ under) w
    owners w = let a = times w in omega (arith, a)

    before : (w : WireId) → 1 ≤ owners_of W c.vars (u ∷ under) w → 1 ≤ owners_of W c.vars (v ∷ under) w
    before w le = let a = owners w in omega (arith, a, le)

    carried : AllOf (λ v. AllOf (λ w. out.guarded w ≡ false) (wires_in (W v.place))) (u ∷ under)
    carried = (subst (λ n. AllOf (λ w. out.guarded w ≡ false) (wires_in (W n))) (sym same) r.carried.0, r.carried.1)

    counted : (w : WireId) → cond (is_linear u.origin) (times_in w (W u.place)) 0 ≡ times_in w (W v.place)
    counted w = ap (λ t. cond t (times_in w (W u.place)) 0) linear ∙ times w

    more : (w : WireId) → linear_owners W c.vars (v ∷ under) w ≤ linear_owners W c.vars (u ∷ under) w
    more w = go (is_linear v.origin)
      where
        go : (t : Bool) → linear_holders W c.vars w c.vars + (cond t (times_in w (W v.place)) 0 + linear_carriers W w under) ≤ linear_owners W c.vars (u ∷ under) w
        go true = let a = counted w in omega (arith, a)
        go false = let a = counted w in omega (arith, a)

    grown : (w : WireId) → (1 ≤ linear_owners W c.vars (v ∷ under) w) ⊎ (out.answered w ≡ true) → (1 ≤ linear_owners W c.vars (u ∷ under) w) ⊎ (out.answered w ≡ true)
    grown w (inl le) = inl (let a = more w in omega (arith, a, le))
    grown w (inr a) = inr a

    owed : (w : WireId) → Owed b.draft w → (w.number < length s.built.draft.wires) ⊎ (length s.built.draft.wires ≤ w.number) → (1 ≤ linear_owners W c.vars (u ∷ under) w) ⊎ (out.answered w ≡ true)
    owed w o (inl lt) = why o.why
      where
        old : ((wire_in s.built.draft.wires w).input ≡ true) ⊎ (is_mixed s.built.draft.steps w ≡ true) → (1 ≤ linear_owners W c.vars (u ∷ under) w) ⊎ (out.answered w ≡ true)
        old y = grown w (r.owed w (record { there = lt; untold = ap (λ x. x.ending) (sym (p.wires w lt)) ∙ o.untold; why = y }))

        mixed : (is_mixed s.built.draft.steps w ≡ true) ⊎ (1 ≤ times_in w (W v.place)) → (1 ≤ linear_owners W c.vars (u ∷ under) w) ⊎ (out.answered w ≡ true)
        mixed (inl m) = old (inr m)
        mixed (inr le) = inl (let a = counted w in omega (arith, a, le))

        why : ((wire_in b.draft.wires w).input ≡ true) ⊎ (is_mixed b.draft.steps w ≡ true) → (1 ≤ linear_owners W c.vars (u ∷ under) w) ⊎ (out.answered w ≡ true)
        why (inl i) = old (inl (ap (λ x. x.input) (sym (p.wires w lt)) ∙ i))
        why (inr m) = mixed (p.mixed w m)
    owed w o (inr le) = none o.why
      where
        none : ((wire_in b.draft.wires w).input ≡ true) ⊎ (is_mixed b.draft.steps w ≡ true) → (1 ≤ linear_owners W c.vars (u ∷ under) w) ⊎ (out.answered w ≡ true)
        none (inl i) = clash (sym i ∙ (p.new w le o.there).0)
        none (inr m) = clash (sym m ∙ (p.new w le o.there).1)
