-- Steps that are X or P: the relation stands on the draft behind them.
use Rattle.std.proofs.Common.{◌≡◌, ◌⊎◌, inl, inr, ◌≤◌, ◌<◌, true, false, List, length, refl, sym, ap, ◌∙◌, arith}
use Rattle.std.proofs.lemmas.Bool.{cases_lt}
use Rattle.silq_types.specs.declared.values.Part.{Part}
use Rattle.silq_types.specs.declared.values.Value.{Value}
use Rattle.check_scope.specs.Context.{Context}
use Rattle.flat_core.specs.declared.step.WireId.{WireId}
use Rattle.flat_core.specs.Form.{DraftForm}
use Rattle.flat_core.specs.Label.{wire_in}
use Rattle.flat_core.specs.Drafts.{is_measured}
use Rattle.bit_arith.specs.Built.{Built}
use Rattle.bit_arith.specs.Calls.{Targets}
use Rattle.flat_form.specs.State.{Flattening, build}
use Rattle.flat_typed.specs.Places.{Places, linear_owners}
use Rattle.flat_typed.specs.Footprint.{Owed, Touches, is_mixed}
use Rattle.flat_typed.specs.Relation.{Outside, Stands}
use Rattle.flat_typed.proofs.Ordered.{clash}

-- ---- one effect after another

-- what the second may touch of the old wires, the first may
pub touches_then : (T U : Targets) (d e f : DraftForm) → Touches T d e → Touches U e f → ((w : WireId) → w.number < length d.wires → T w ≡ false → U w ≡ false) → Touches T d f
touches_then T U d e f p q h = record {
  grown = let a = p.grown in let b = q.grown in omega (arith, a, b);
  labels = λ w l t. q.labels w (later w l) (h w l t) ∙ p.labels w l t;
  measured = λ w l t. q.measured w (later w l) (h w l t) ∙ p.measured w l t;
  mixed = λ w l t. q.mixed w (later w l) (h w l t) ∙ p.mixed w l t;
  ends = λ w l t. q.ends w (later w l) (h w l t) ∙ p.ends w l t;
  inputs = λ w. inputs w (p.inputs w) (q.inputs w);
}
  where
    later : (w : WireId) → w.number < length d.wires → w.number < length e.wires
    later w l = let a = p.grown in omega (arith, a, l)

    inputs : (w : WireId) → ((wire_in e.wires w).input ≡ (wire_in d.wires w).input) ⊎ (length d.wires ≤ w.number) → ((wire_in f.wires w).input ≡ (wire_in e.wires w).input) ⊎ (length e.wires ≤ w.number)
        → ((wire_in f.wires w).input ≡ (wire_in d.wires w).input) ⊎ (length d.wires ≤ w.number)
    inputs w (inr le) y = inr le
    inputs w (inl a) (inl b) = inl (b ∙ a)
    inputs w (inl a) (inr le) = inr (let g = p.grown in omega (arith, g, le))

-- a set that holds more
pub touches_more : (T U : Targets) (d e : DraftForm) → Touches T d e → ((w : WireId) → w.number < length d.wires → U w ≡ false → T w ≡ false) → Touches U d e
touches_more T U d e p h = record {
  grown = p.grown;
  labels = λ w l t. p.labels w l (h w l t);
  measured = λ w l t. p.measured w l (h w l t);
  mixed = λ w l t. p.mixed w l (h w l t);
  ends = λ w l t. p.ends w l (h w l t);
  inputs = p.inputs;
}

-- ---- X and P

-- steps that measure nothing, mix nothing and tell no end, whatever they flip; new wires are no inputs
pub record Plain (d e : DraftForm) : Type 0 where
  pub grown : length d.wires ≤ length e.wires
  pub measured : (w : WireId) → w.number < length d.wires → is_measured e.steps w ≡ is_measured d.steps w
  pub mixed : (w : WireId) → is_mixed e.steps w ≡ is_mixed d.steps w
  pub wires : (w : WireId) → w.number < length d.wires → wire_in e.wires w ≡ wire_in d.wires w
  pub new : (w : WireId) → length d.wires ≤ w.number → w.number < length e.wires → ((wire_in e.wires w).input ≡ false) × (is_mixed e.steps w ≡ false)

pub plain_same : (d : DraftForm) → Plain d d
plain_same d = record { grown = omega arith; measured = λ w l. refl; mixed = λ w. refl; wires = λ w l. refl; new = λ w le lt. absurd (omega (arith, le, lt)) }

pub stands_grown : (out : Outside) (held : List (List Part)) (W : Places) (under : List Value) (c : Context) (s : Flattening) (b : Built) → Plain s.built.draft b.draft → Stands out held W under c s → Stands out held W under c (build b s)
stands_grown out held W under c s b p r = record {
  env = r.env;
  differ = r.differ;
  parts = r.parts;
  one = r.one;
  free = λ w le. (let a = (r.free w le).0 in let g = p.grown in omega (arith, a, g), p.measured w (r.free w le).0 ∙ (r.free w le).1);
  untold = λ w le. ap (λ x. x.ending) (p.wires w (r.free w le).0) ∙ r.untold w le;
  shared = r.shared;
  callers = r.callers;
  guards = r.guards;
  below = λ w g. let a = r.below w g in let l = p.grown in omega (arith, a, l);
  spares = r.spares;
  carried = r.carried;
  owed = λ w o. owed w o (cases_lt w.number (length s.built.draft.wires));
}
  where
    owed : (w : WireId) → Owed b.draft w → (w.number < length s.built.draft.wires) ⊎ (length s.built.draft.wires ≤ w.number) → (1 ≤ linear_owners W c.vars under w) ⊎ (out.answered w ≡ true)
    owed w o (inl lt) = r.owed w (record { there = lt; untold = ap (λ x. x.ending) (sym (p.wires w lt)) ∙ o.untold; why = why o.why })
      where
        why : ((wire_in b.draft.wires w).input ≡ true) ⊎ (is_mixed b.draft.steps w ≡ true) → ((wire_in s.built.draft.wires w).input ≡ true) ⊎ (is_mixed s.built.draft.steps w ≡ true)
        why (inl i) = inl (ap (λ x. x.input) (sym (p.wires w lt)) ∙ i)
        why (inr m) = inr (sym (p.mixed w) ∙ m)
    owed w o (inr le) = none o.why
      where
        none : ((wire_in b.draft.wires w).input ≡ true) ⊎ (is_mixed b.draft.steps w ≡ true) → (1 ≤ linear_owners W c.vars under w) ⊎ (out.answered w ≡ true)
        none (inl i) = clash (sym i ∙ (p.new w le o.there).0)
        none (inr m) = clash (sym m ∙ (p.new w le o.there).1)
